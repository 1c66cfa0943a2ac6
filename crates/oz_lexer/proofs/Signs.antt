-- Signs by their first byte.
use Rattle.std.proofs.Common.{◌≡◌, ℕ, List, [], ◌∷◌, Bool, true, false, refl}
use Rattle.std.specs.Prelude.{◌||◌, ◌&&◌}
use Rattle.oz_lexer.specs.Spelling.{is_sign}
use Rattle.oz_lexer.specs.Scan.{is_one_byte_sign, is_two_byte_sign}
use Rattle.std.proofs.Math.Bool.{and-false}

pub and_true : (b : Bool) → (b && true) ≡ b
and_true true = refl
and_true false = refl

pub or_false : (b : Bool) → (b || false) ≡ b
or_false true = refl
or_false false = refl

-- what may stand behind the first byte of a sign
abbrev pub behind_sign : ℕ → List ℕ → Bool
behind_sign b [] = is_one_byte_sign b
behind_sign b (c ∷ []) = is_two_byte_sign b c
behind_sign b (c ∷ d ∷ cs) = false

pub sign_spells : (b : ℕ) (bs : List ℕ) → is_sign (b ∷ bs) ≡ behind_sign b bs
sign_spells b [] = simp (and_true, and-false, or_false)
sign_spells b (c ∷ []) = simp (and_true, and-false, or_false)
sign_spells b (c ∷ d ∷ cs) = simp (and_true, and-false, or_false)
