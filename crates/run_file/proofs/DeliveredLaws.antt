-- The number of a message, or none, is read.
use Rattle.std.proofs.Common.{◌≡◌, ℕ, ◌+◌, ◌<◌, ◌^◌, Bool, true, cond, List, [], ◌∷◌, ◌++◌, length, drop, Option, Some, None, Ok, Err, refl, sym, ap, subst, ◌∙◌, arith, inl, inr}
use Rattle.std.proofs.lemmas.Bool.{and_parts, false≢true}
use Rattle.std.proofs.lemmas.Fmt.{decimal_nonempty}
use Rattle.std.specs.Prelude.{decimal}
use Rattle.std.specs.Char.{is_ascii_digit}
use Rattle.std.specs.List.{list_all}
use Rattle.byte_fields.specs.declared.fault.FileFault.{FileFault}
use Rattle.byte_fields.specs.Text.{AllPass, number, BeginsWith}
use Rattle.byte_fields.specs.Reading.{Left, Read, ◌>>=◌, map_at}
use Rattle.byte_fields.specs.TextReading.{begins_with, number_at}
use Rattle.byte_fields.specs.Laws.{AnyBytes, Takes, IsRead}
use Rattle.byte_fields.proofs.ResultLaws.{done, ok_is, no_err, chosen, bind_ok, bind_err}
use Rattle.byte_fields.proofs.ItemLaws.{begins_yes, begins_no, not_begun}
use Rattle.byte_fields.proofs.NumberLaws.{number_read, decimal_digits}
use Rattle.run_file.specs.Saved.{delivered, greatest}
use Rattle.run_file.specs.Reading.{delivered_at}

some_number : IsRead AnyBytes (number 0 greatest) (number_at 0 greatest)
some_number = number_read 0 greatest (omega arith)

-- what - reads as, and what anything else does
delivered_by : (l : Left) → delivered_at l ≡ cond (begins_with 45 l.1) (done (None, (l.0 + 1, drop 1 l.1))) (map_at Some (number_at 0 greatest) l)
unfolding delivered_at
delivered_by l = refl

delivered_number : (at : ℕ) (bytes : List ℕ) → (BeginsWith 45 bytes → ⊥) → delivered_at (at, bytes) ≡ map_at Some (number_at 0 greatest) (at, bytes)
delivered_number at bytes ne =
    delivered_by (at, bytes) ∙ ap (λ (t : Bool). cond t (done (None, (at + 1, drop 1 bytes))) (map_at Some (number_at 0 greatest) (at, bytes))) (not_begun 45 bytes ne)

no_dash : (ds rest : List ℕ) → AllPass is_ascii_digit ds → 0 < length ds → BeginsWith 45 (ds ++ rest) → ⊥
no_dash [] rest all some e = omega (arith, some)
no_dash (d ∷ ds) rest all some e =
    let both = and_parts (is_ascii_digit d) (list_all is_ascii_digit ds) all in
    let dash : is_ascii_digit 45 ≡ true = subst (λ (k : ℕ). is_ascii_digit k ≡ true) e both.0 in
    false≢true dash

dash_first : (bytes : List ℕ) → BeginsWith 45 bytes → bytes ≡ 45 ∷ drop 1 bytes
dash_first [] h = absurd h
dash_first (b ∷ bytes) h = ap (λ (k : ℕ). k ∷ bytes) h

pub delivered_read : IsRead AnyBytes delivered delivered_at
delivered_read = record { takes = takes; again = again; fails = fails; failing = failing }
  where
    takes : (at : ℕ) (bytes : List ℕ) (x : Option ℕ) (m : Left) → AnyBytes bytes → delivered_at (at, bytes) ≡ Ok (x, m) → Takes AnyBytes delivered at bytes x m
    takes at bytes x m fits e =
        elim (chosen (begins_with 45 bytes) (done (None, (at + 1, drop 1 bytes))) (map_at Some (number_at 0 greatest) (at, bytes)) (Ok (x, m)) (sym (delivered_by (at, bytes)) ∙ e)) [
          | inl h ↦
              let dash : Takes AnyBytes delivered at bytes None (at + 1, drop 1 bytes) = record { has = tt; parts = dash_first bytes (begins_yes 45 bytes h.0); place = refl; ends = tt; rest_fits = tt } in
              subst (λ (q : Option ℕ × Left). Takes AnyBytes delivered at bytes q.0 q.1) (ok_is (None, (at + 1, drop 1 bytes)) (x, m) h.1) dash
          | inr h ↦
              let a = bind_ok (number_at 0 greatest (at, bytes)) (λ r. Ok (Some r.0, r.1)) (x, m) h.1 in
              let t = some_number.takes at bytes a.0.0 a.0.1 fits a.1 in
              let one : Takes AnyBytes delivered at bytes (Some a.0.0) a.0.1 = record { has = t.has; parts = t.parts; place = t.place; ends = t.ends; rest_fits = tt } in
              subst (λ (q : Option ℕ × Left). Takes AnyBytes delivered at bytes q.0 q.1) (ok_is (Some a.0.0, a.0.1) (x, m) a.2) one
        ]

    again : (at : ℕ) (x : Option ℕ) (rest : List ℕ) → delivered.Has x → delivered.Ends x rest → delivered_at (at, delivered.spelling x ++ rest) ≡ Ok (x, (at + length (delivered.spelling x), rest))
    again at None rest has ends = delivered_by (at, 45 ∷ rest)
    again at (Some n) rest has ends =
        let small : n < 2 ^ 64 = omega (arith, has.1) in
        delivered_number at (decimal n ++ rest) (no_dash (decimal n) rest (decimal_digits n small) (decimal_nonempty n small))
        ∙ ap (λ (a : Read FileFault ℕ). a >>= λ r. Ok (Some r.0, r.1)) (some_number.again at n rest has ends)

    fails : (at : ℕ) (bytes : List ℕ) (f : FileFault) → AnyBytes bytes → delivered_at (at, bytes) ≡ Err f → delivered.Fault at bytes f
    fails at bytes f fits e =
        elim (chosen (begins_with 45 bytes) (done (None, (at + 1, drop 1 bytes))) (map_at Some (number_at 0 greatest) (at, bytes)) (Err f) (sym (delivered_by (at, bytes)) ∙ e)) [
          | inl h ↦ absurd (no_err (None, (at + 1, drop 1 bytes)) f h.1)
          | inr h ↦ elim (bind_err (number_at 0 greatest (at, bytes)) (λ r. Ok (Some r.0, r.1)) f h.1) [
            | inl k ↦ (begins_no 45 bytes h.0, some_number.fails at bytes f fits k)
            | inr k ↦ absurd (no_err (Some k.0.0, k.0.1) f k.2)
          ]
        ]

    failing : (at : ℕ) (bytes : List ℕ) (f : FileFault) → delivered.Fault at bytes f → delivered_at (at, bytes) ≡ Err f
    failing at bytes f h = delivered_number at bytes h.0 ∙ ap (λ (a : Read FileFault ℕ). a >>= λ r. Ok (Some r.0, r.1)) (some_number.failing at bytes f h.1)
