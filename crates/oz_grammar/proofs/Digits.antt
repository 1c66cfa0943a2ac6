-- Integers as they are spelled: digits, which are read as the integer.
use Rattle.std.proofs.Common.{◌≡◌, ◌∙◌, ◌⊎◌, inl, inr, ℕ, zero, suc, ◌+◌, ◌-◌, ◌*◌, ◌%◌, ◌<◌, ◌≤◌, ◌^◌, List, [], ◌∷◌, length, get_or, length-append, eqb, true, false, Some, refl, subst, arith}
use Rattle.std.proofs.Math.ListN.{get_or-append}
use Rattle.std.specs.Prelude.{nat_le, nat_lt, slice_index, decimal, ℤ, pos, negsuc}
use Rattle.std.specs.Char.{is_ascii_digit, digit_value}
use Rattle.std.specs.List.{list_all}
use Rattle.std.specs.Str.Parse.{AllDigits, digits_value_after}
use Rattle.std.proofs.lemmas.Str.Parse.{digit_from_value}
use Rattle.std.proofs.lemmas.Fmt.{decimal_is_IsNumeral_wide, decimal_by_steps_wide, decimal_digit, length-decimal-le}
use Rattle.tree_node.specs.Spelling.{int_text, is_word_byte}
use Rattle.oz_lexer.specs.Spelling.{are_digits, digits_of}
use Rattle.oz_grammar.specs.Symbols.{number_after, number_of, is_plain, integer_of}
use Rattle.std.proofs.lemmas.Bool.{and_parts}

-- a digit is a byte from 48 to 57, and its value is what is above 48
digit : (c : ℕ) → digit_value c < 10 → (is_ascii_digit c ≡ true) × (digit_value c ≡ c - 48)
digit c lt = let r = digit_from_value c lt in (grind arith, grind arith)

all_digits : (cs : List ℕ) → AllDigits 10 cs → list_all is_ascii_digit cs ≡ true
all_digits [] all = refl
all_digits (c ∷ cs) all = let d = digit c all.0 in rw (d.0, all_digits cs all.1) refl

same_value : (cs : List ℕ) (n : ℕ) → AllDigits 10 cs → number_after n cs ≡ digits_value_after 10 n cs
same_value [] n all = refl
same_value (c ∷ cs) n all =
    let d = digit c all.0 in
    let e : 10 * n + (c - 48) ≡ n * 10 + digit_value c = omega (arith, d.1) in
    subst (λ (m : ℕ). number_after (10 * n + (c - 48)) cs ≡ digits_value_after 10 m cs) e (same_value cs (10 * n + (c - 48)) all.1)

-- what is known of a number in decimal
pub record Decimal (n : ℕ) : Type 0 where
  pub some : 0 < length (decimal n)
  pub digits : list_all is_ascii_digit (decimal n) ≡ true
  pub value : number_of (decimal n) ≡ n
  pub plain : is_plain (decimal n) ≡ true

-- the first digit of a number above 0 is not 0
first_not_zero : (n : ℕ) → 0 < n → n < 10 ^ 64 → 48 < get_or (decimal n) 0 0
first_not_zero n some small =
    (decimal_by_steps_wide (λ m ds. (0 < length ds) × (0 < m → 48 < get_or ds 0 0)) (λ m l. (omega arith, λ a. omega arith))
    (λ m ds l h. (omega (arith, length-append ds ((48 + m % 10) ∷ [])), λ a. omega (arith, get_or-append ds ((48 + m % 10) ∷ []) 0 0 h.0, h.1 (omega arith)))) n small).1 some

-- a number of 64 bits has 20 digits at most
pub short_decimal : (n : ℕ) → n < 2 ^ 64 → length (decimal n) ≤ 20
short_decimal n small = length-decimal-le 20 n (omega arith) (omega (arith, small)) small

pub decimal_of : (n : ℕ) → n < 10 ^ 64 → Decimal n
decimal_of n small =
    let numeral = decimal_is_IsNumeral_wide n small in
    record {
      some = numeral.0.0;
      digits = all_digits (decimal n) numeral.0.1;
      value = same_value (decimal n) 0 numeral.0.1 ∙ numeral.1;
      plain = plain n small;
    }
  where
    plain : (m : ℕ) → m < 10 ^ 64 → is_plain (decimal m) ≡ true
    plain zero low = rw (decimal_digit 0 (omega arith)) refl
    plain (suc m) low =
        let first = first_not_zero (suc m) (omega arith) low in
        let other : eqb (slice_index (decimal (suc m)) 0) 48 ≡ false = grind arith in
        rw other refl

-- some digits
are_digits_of : (ds : List ℕ) → 0 < length ds → list_all is_ascii_digit ds ≡ true → are_digits ds ≡ true
are_digits_of [] some all = absurd (omega (arith, some))
are_digits_of (d ∷ ds) some all = all

-- a digit is a letter, a digit or _
words : (ds : List ℕ) → list_all is_ascii_digit ds ≡ true → list_all is_word_byte ds ≡ true
words [] all = refl
words (d ∷ ds) all =
    let two = and_parts (is_ascii_digit d) (list_all is_ascii_digit ds) all in
    let here : is_word_byte d ≡ true = grind arith in
    rw (here, words ds two.1) refl

pub word_bytes : (n : ℕ) → n < 10 ^ 64 → list_all is_word_byte (decimal n) ≡ true
word_bytes n small = words (decimal n) (decimal_of n small).digits

-- the first digit
pub first_digit : (ds : List ℕ) → 0 < length ds → list_all is_ascii_digit ds ≡ true → is_ascii_digit (slice_index ds 0) ≡ true
first_digit [] some all = absurd (omega (arith, some))
first_digit (d ∷ ds) some all = (and_parts (is_ascii_digit d) (list_all is_ascii_digit ds) all).0

-- what is known of an integer's spelling
pub record Integer (z : ℤ) : Type 0 where
  pub digits : are_digits (digits_of (int_text z)) ≡ true
  pub value : integer_of (int_text z) ≡ Some z
  pub some : 0 < length (int_text z)
  pub first : (is_ascii_digit (slice_index (int_text z) 0) ≡ true) ⊎ (slice_index (int_text z) 0 ≡ 126)

-- an integer of 128 bits
abbrev pub FitsInteger : ℤ → Type 0
FitsInteger (pos n) = n < 2 ^ 127
FitsInteger (negsuc n) = n < 2 ^ 127

pub integer : (z : ℤ) → FitsInteger z → Integer z
unfolding integer_of
integer (pos n) fits =
    let d = decimal_of n (omega (arith, fits)) in
    let first = first_digit (decimal n) d.some d.digits in
    let no_sign : eqb (slice_index (decimal n) 0) 126 ≡ false = grind arith in
    let low : nat_lt n 170141183460469231731687303715884105728 ≡ true = grind arith in
    record {
      digits = rw no_sign (are_digits_of (decimal n) d.some d.digits);
      value = rw (no_sign, d.plain, d.value, low) refl;
      some = d.some;
      first = inl first;
    }
integer (negsuc n) fits =
    let d = decimal_of (suc n) (omega (arith, fits)) in
    let low : nat_le (suc n) 170141183460469231731687303715884105728 ≡ true = grind arith in
    record {
      digits = are_digits_of (decimal (suc n)) d.some d.digits;
      value = rw (d.plain, d.value, low) refl;
      some = omega arith;
      first = inr refl;
    }
