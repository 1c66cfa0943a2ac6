use Rattle.std.proofs.Common.{refl, ◌≡◌, ◌⊎◌, ◌||◌, sym, Bool, true, false, codes, Option, Some, None, inl, inr}
use Rattle.std.specs.Str.{bytes_eq}
use Rattle.std.specs.Option.{IsSome}
use Rattle.std.proofs.lemmas.Slice.Eq.{bytes_eq-Decides}
use Rattle.clap.specs.Words.{Accepts, ReadsOne, Text}
use Rattle.oz_words.specs.Places.{placeless_names}
use Rattle.oz_words.specs.Command.{action_names, action_values}
use Rattle.oz_words.specs.declared.options.ActionName.{ActionName}
use Rattle.oz_words.specs.Words.{NamesAction}
use Rattle.oz_words.proofs.options.action_in.Goals as goal

one_of_five : (a b c d e : Bool) → (a || (b || (c || (d || (e || false))))) ≡ true → (a ≡ true) ⊎ ((b ≡ true) ⊎ ((c ≡ true) ⊎ ((d ≡ true) ⊎ (e ≡ true))))
one_of_five true b c d e h = inl h
one_of_five false true c d e h = inr (inl h)
one_of_five false false true d e h = inr (inr (inl h))
one_of_five false false false true e h = inr (inr (inr (inl h)))
one_of_five false false false false true h = inr (inr (inr (inr h)))
one_of_five false false false false false h = cc

abbrev IsName : Text → Type 0
IsName t = (codes "run" ≡ t) ⊎ ((codes "central" ≡ t) ⊎ ((codes "gen" ≡ t) ⊎ ((codes "save" ≡ t) ⊎ (codes "check" ≡ t))))

-- a text that passed is one of the five names
is_name : (t : Text) → Accepts false (action_values (placeless_names action_names)) t → IsName t
is_name t passed =
    elim (one_of_five (bytes_eq (codes "run") t) (bytes_eq (codes "central") t) (bytes_eq (codes "gen") t) (bytes_eq (codes "save") t) (bytes_eq (codes "check") t) passed) [
      | inl e ↦ inl ((bytes_eq-Decides _ _).0 e)
      | inr (inl e) ↦ inr (inl ((bytes_eq-Decides _ _).0 e))
      | inr (inr (inl e)) ↦ inr (inr (inl ((bytes_eq-Decides _ _).0 e)))
      | inr (inr (inr (inl e))) ↦ inr (inr (inr (inl ((bytes_eq-Decides _ _).0 e))))
      | inr (inr (inr (inr e))) ↦ inr (inr (inr (inr ((bytes_eq-Decides _ _).0 e))))
    ]

is_read : (t : Text) (r : Option ActionName) → IsName t → ReadsOne NamesAction t r → IsSome r
is_read t (Some a) name read = refl
is_read t None (inl e) read = absurd (read.1.0 (sym e))
is_read t None (inr (inl e)) read = absurd (read.1.1 (sym e))
is_read t None (inr (inr (inl e))) read = absurd (read.1.2 (sym e))
is_read t None (inr (inr (inr (inl e)))) read = absurd (read.1.3 (sym e))
is_read t None (inr (inr (inr (inr e)))) read = absurd (read.1.4 (sym e))

pub unwrap-requires : goal.unwrap-requires
unwrap-requires c =
    let value = c.requires.name in
    is_read value.0 c.get_one.result (is_name value.0 value.2) (c.get_one.ensures.value value.0 value.1)
