-- Digits are read as the number that they name.
use Rattle.std.proofs.Common.{◌≡◌, ◌≢◌, ℕ, zero, suc, ◌+◌, ◌<◌, ◌^◌, Bool, true, false, cond, eqb, leb, List, [], ◌∷◌, ◌++◌, length, take, drop, get_or, Ok, Err, refl, sym, ap, subst, ◌∙◌, arith, inl, inr}
use Rattle.std.specs.Prelude.{decimal}
use Rattle.std.specs.Char.{is_ascii_digit}
use Rattle.std.specs.List.{list_all}
use Rattle.std.proofs.lemmas.Bool.{leb-true, le-leb, and_parts, and_from, false≢true, eqb-true, eqb-false, ne_eqb, eq-eqb}
use Rattle.std.proofs.lemmas.List.{take_at, drop_at, take-append-drop}
use Rattle.std.proofs.lemmas.Fmt.{decimal_digit, first_decimal, decimal_nonempty, digits_decimal, digits_value-decimal, decimal-digits_value}
use Rattle.std.proofs.lemmas.Str.Parse.{IsNumeralModel, IsDigitsTest, FoldsDigits, numerals_by_fold}
use Rattle.byte_fields.specs.declared.fault.FileFault.{FileFault}
use Rattle.byte_fields.specs.declared.fault.FileFault.TheVariants.{Bad}
use Rattle.byte_fields.specs.Text.{AllPass, IsNoDigit, IsOutside, IsBadNumeral, number, value_after, value_of, zero_fault}
use Rattle.byte_fields.specs.Field.{IsWithin}
use Rattle.byte_fields.specs.Reading.{Left, is_within}
use Rattle.byte_fields.specs.TextReading.{tested, numeral_at, digit_count, number_at}
use Rattle.byte_fields.proofs.FrontLaws.{front_passes, front_ends, front_counts}
use Rattle.byte_fields.specs.Laws.{AnyBytes, Takes, IsRead}
use Rattle.byte_fields.proofs.ResultLaws.{done, failed, err_is, no_ok, passed, not_passed, chosen}

abbrev pub AreDigits : List ℕ → Type 0
AreDigits ds = AllPass is_ascii_digit ds

-- ---- what they name

tells : IsDigitsTest AreDigits
tells = record {
  empty = refl;
  parts = λ c cs h. (let both = and_parts (is_ascii_digit c) (list_all is_ascii_digit cs) h in (grind (arith, both.0), both.1));
  more = λ c cs r h. (let digit : is_ascii_digit c ≡ true = grind (arith, r) in rw (digit, h) refl);
}

folds : FoldsDigits value_after
folds = record {
  empty = λ n. refl;
  more = λ n c cs r. ap (λ (k : ℕ). value_after k cs) (omega arith);
}

own : IsNumeralModel AreDigits value_of
own = numerals_by_fold AreDigits tells value_after folds

pub decimal_digits : (n : ℕ) → n < 2 ^ 64 → AreDigits (decimal n)
decimal_digits n small = digits_decimal own n small

-- digits as a number is written: there are some, and no 0 stands before others
abbrev IsPlain : List ℕ → Type 0
IsPlain ds = (0 < length ds) × (get_or ds 0 0 ≡ 48 → length ds ≡ 1)

plain_decimal : (n : ℕ) → n < 2 ^ 64 → IsPlain (decimal n)
plain_decimal zero low = (decimal_nonempty 0 low, λ e. ap (λ (z : List ℕ). length z) (decimal_digit 0 (omega arith)))
plain_decimal (suc n) low =
    let first = first_decimal (suc n) (omega arith) low in
    (decimal_nonempty (suc n) low, λ e. absurd (omega (arith, first, e)))

-- ---- a range

pub within_yes : (least most n : ℕ) → is_within least most n ≡ true → IsWithin least most n
within_yes least most n e =
    let both = and_parts (leb least n) (leb n most) e in
    (leb-true least n both.0, leb-true n most both.1)

within_is : (least most n : ℕ) → IsWithin least most n → is_within least most n ≡ true
within_is least most n h = and_from (leb least n) (leb n most) (le-leb least n h.0) (le-leb n most h.1)

pub within_no : (least most n : ℕ) → is_within least most n ≡ false → IsWithin least most n → ⊥
within_no least most n e h = false≢true (sym e ∙ within_is least most n h)

tested_ok : (least most n at end : ℕ) (rest : List ℕ) (x : ℕ) (m : Left) → tested least most n at end rest ≡ Ok (x, m) → IsWithin least most n × (n ≡ x) × ((end, rest) ≡ m)
tested_ok least most n at end rest x m e =
    let g = passed (is_within least most n) (Bad at) (n, (end, rest)) (x, m) e in
    (within_yes least most n g.0, ap (λ (a : ℕ × Left). a.0) g.1, ap (λ (a : ℕ × Left). a.1) g.1)

tested_again : (least most n at end : ℕ) (rest : List ℕ) → IsWithin least most n → tested least most n at end rest ≡ Ok (n, (end, rest))
tested_again least most n at end rest h = ap (λ (b : Bool). cond b (done (n, (end, rest))) (Err (Bad at))) (within_is least most n h)

tested_err : (least most n at end : ℕ) (rest : List ℕ) (f : FileFault) → tested least most n at end rest ≡ Err f → IsOutside least most n at f
tested_err least most n at end rest f e =
    let g = not_passed (is_within least most n) (Bad at) (n, (end, rest)) f e in
    (within_no least most n g.0, sym g.1)

not_within : (least most n : ℕ) (b : Bool) → is_within least most n ≡ b → (IsWithin least most n → ⊥) → b ≡ false
not_within least most n true e h = absurd (h (within_yes least most n e))
not_within least most n false e h = refl

tested_bad : (least most n at end : ℕ) (rest : List ℕ) (f : FileFault) → IsOutside least most n at f → tested least most n at end rest ≡ Err f
tested_bad least most n at end rest f h =
    ap (λ (b : Bool). cond b (done (n, (end, rest))) (Err (Bad at))) (not_within least most n (is_within least most n) refl h.0)
    ∙ ap (λ (g : FileFault). failed g) (sym h.1)

-- ---- numerals

pub record IsNamed (least most at : ℕ) (ds rest : List ℕ) (x : ℕ) (m : Left) : Type 0 where
  pub within : IsWithin least most x
  pub value : value_of ds ≡ x
  pub place : m ≡ (at + length ds, rest)
  pub plain : IsPlain ds

numeral_ok : (least most at : ℕ) (ds rest : List ℕ) (x : ℕ) (m : Left) → numeral_at least most at ds rest ≡ Ok (x, m) → IsNamed least most at ds rest x m
numeral_ok least most at [] rest x m e = absurd (no_ok (x, m) (Bad at) e)
numeral_ok least most at (c ∷ []) rest x m e =
    let t = tested_ok least most (value_of (c ∷ [])) at (at + 1) rest x m e in
    record { within = subst (λ (n : ℕ). IsWithin least most n) t.1 t.0; value = t.1; place = sym t.2; plain = (omega arith, λ k. refl) }
numeral_ok least most at (c ∷ d ∷ ds) rest x m e =
    let end = at + length (c ∷ d ∷ ds) in
    elim (chosen (eqb c 48) (Err (zero_fault least at)) (tested least most (value_of (c ∷ d ∷ ds)) at end rest) (Ok (x, m)) e) [
      | inl h ↦ absurd (no_ok (x, m) (zero_fault least at) h.1)
      | inr h ↦
          let t = tested_ok least most (value_of (c ∷ d ∷ ds)) at end rest x m h.1 in
          record { within = subst (λ (n : ℕ). IsWithin least most n) t.1 t.0; value = t.1; place = sym t.2; plain = (omega arith, λ k. absurd (eqb-false c 48 h.0 k)) }
    ]

numeral_again : (least most at : ℕ) (ds rest : List ℕ) → IsPlain ds → IsWithin least most (value_of ds) → numeral_at least most at ds rest ≡ Ok (value_of ds, (at + length ds, rest))
numeral_again least most at [] rest plain h = absurd (omega (arith, plain.0))
numeral_again least most at (c ∷ []) rest plain h = tested_again least most (value_of (c ∷ [])) at (at + 1) rest h
numeral_again least most at (c ∷ d ∷ ds) rest plain h =
    let end = at + length (c ∷ d ∷ ds) in
    let other : c ≢ 48 = λ e. (let one = plain.1 e in omega (arith, one)) in
    ap (λ (b : Bool). cond b (failed (zero_fault least at)) (tested least most (value_of (c ∷ d ∷ ds)) at end rest)) (ne_eqb c 48 other)
    ∙ tested_again least most (value_of (c ∷ d ∷ ds)) at end rest h

numeral_err : (least most at : ℕ) (ds rest : List ℕ) (f : FileFault) → numeral_at least most at ds rest ≡ Err f → IsBadNumeral least most at ds f
numeral_err least most at [] rest f e = sym (err_is {A = ℕ × Left} (Bad at) f e)
numeral_err least most at (c ∷ []) rest f e = tested_err least most (value_of (c ∷ [])) at (at + 1) rest f e
numeral_err least most at (c ∷ d ∷ ds) rest f e =
    let end = at + length (c ∷ d ∷ ds) in
    elim (chosen (eqb c 48) (Err (zero_fault least at)) (tested least most (value_of (c ∷ d ∷ ds)) at end rest) (Err f) e) [
      | inl h ↦ inl (eqb-true c 48 h.0, sym (err_is {A = ℕ × Left} (zero_fault least at) f h.1))
      | inr h ↦ inr (eqb-false c 48 h.0, tested_err least most (value_of (c ∷ d ∷ ds)) at end rest f h.1)
    ]

numeral_bad : (least most at : ℕ) (ds rest : List ℕ) (f : FileFault) → IsBadNumeral least most at ds f → numeral_at least most at ds rest ≡ Err f
numeral_bad least most at [] rest f h = ap (λ (g : FileFault). failed g) (sym h)
numeral_bad least most at (c ∷ []) rest f h = tested_bad least most (value_of (c ∷ [])) at (at + 1) rest f h
numeral_bad least most at (c ∷ d ∷ ds) rest f (inl h) =
    let end = at + length (c ∷ d ∷ ds) in
    ap (λ (b : Bool). cond b (failed (zero_fault least at)) (tested least most (value_of (c ∷ d ∷ ds)) at end rest)) (eq-eqb c 48 h.0)
    ∙ ap (λ (g : FileFault). failed g) (sym h.1)
numeral_bad least most at (c ∷ d ∷ ds) rest f (inr h) =
    let end = at + length (c ∷ d ∷ ds) in
    ap (λ (b : Bool). cond b (failed (zero_fault least at)) (tested least most (value_of (c ∷ d ∷ ds)) at end rest)) (ne_eqb c 48 h.0)
    ∙ tested_bad least most (value_of (c ∷ d ∷ ds)) at end rest f h.1

-- ---- a number

split : (least most at : ℕ) (digits rest : List ℕ) → AreDigits digits → IsNoDigit rest → number_at least most (at, digits ++ rest) ≡ numeral_at least most at digits rest
unfolding number_at
split least most at digits rest all none =
    let count = front_counts is_ascii_digit digits rest all none in
    rw (count, take_at digits rest (length digits) refl, drop_at digits rest (length digits) refl) refl

unfolded : (least most at : ℕ) (bytes : List ℕ) → number_at least most (at, bytes) ≡ numeral_at least most at (take (digit_count bytes) bytes) (drop (digit_count bytes) bytes)
unfolding number_at
unfolded least most at bytes = refl

pub number_read : (least most : ℕ) → most < 2 ^ 64 → IsRead AnyBytes (number least most) (number_at least most)
number_read least most low = record { takes = takes; again = again; fails = fails; failing = failing }
  where
    takes : (at : ℕ) (bytes : List ℕ) (x : ℕ) (m : Left) → AnyBytes bytes → number_at least most (at, bytes) ≡ Ok (x, m) → Takes AnyBytes (number least most) at bytes x m
    takes at bytes x m fits e =
        let ds = take (digit_count bytes) bytes in
        let rest = drop (digit_count bytes) bytes in
        let n = numeral_ok least most at ds rest x m (sym (unfolded least most at bytes) ∙ e) in
        let small : value_of ds < 2 ^ 64 = omega (arith, n.value, n.within.1, low) in
        let written : decimal x ≡ ds = ap decimal (sym n.value) ∙ decimal-digits_value own ds (front_passes is_ascii_digit bytes) n.plain.0 n.plain.1 small in
        let one : Takes AnyBytes (number least most) at bytes x (at + length ds, rest) = record {
          has = n.within;
          parts = sym (ap (λ (z : List ℕ). z ++ rest) written ∙ take-append-drop (digit_count bytes) bytes);
          place = ap (λ (z : List ℕ). at + length z) (sym written);
          ends = front_ends is_ascii_digit bytes;
          rest_fits = tt;
        } in
        subst (λ (l : Left). Takes AnyBytes (number least most) at bytes x l) (sym n.place) one

    again : (at : ℕ) (x : ℕ) (rest : List ℕ) → IsWithin least most x → IsNoDigit rest → number_at least most (at, decimal x ++ rest) ≡ Ok (x, (at + length (decimal x), rest))
    again at x rest has ends =
        let small : x < 2 ^ 64 = omega (arith, has.1, low) in
        let value = digits_value-decimal own x small in
        split least most at (decimal x) rest (digits_decimal own x small) ends
        ∙ numeral_again least most at (decimal x) rest (plain_decimal x small) (subst (λ (n : ℕ). IsWithin least most n) (sym value) has)
        ∙ ap (λ (n : ℕ). done (n, (at + length (decimal x), rest))) value

    fails : (at : ℕ) (bytes : List ℕ) (f : FileFault) → AnyBytes bytes → number_at least most (at, bytes) ≡ Err f → (number least most).Fault at bytes f
    fails at bytes f fits e =
        let ds = take (digit_count bytes) bytes in
        let rest = drop (digit_count bytes) bytes in
        (ds, rest, sym (take-append-drop (digit_count bytes) bytes), front_passes is_ascii_digit bytes, front_ends is_ascii_digit bytes, numeral_err least most at ds rest f (sym (unfolded least most at bytes) ∙ e))

    failing : (at : ℕ) (bytes : List ℕ) (f : FileFault) → (number least most).Fault at bytes f → number_at least most (at, bytes) ≡ Err f
    failing at bytes f h =
        ap (λ (z : List ℕ). number_at least most (at, z)) h.2
        ∙ split least most at h.0 h.1 h.3 h.4
        ∙ numeral_bad least most at h.0 h.1 f h.5
