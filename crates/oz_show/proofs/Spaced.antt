-- A token that a blank or a newline follows is the longest one there.
use Rattle.std.proofs.Common.{◌≡◌, ◌∙◌, ◌⊎◌, inl, inr, ℕ, ◌<◌, List, [], ◌∷◌, ◌++◌, length, eqb, Bool, true, false, cond, Some, None, refl, sym, ap, subst, arith}
use Rattle.std.specs.Prelude.{◌&&◌, ◌||◌, not, slice_index}
use Rattle.std.specs.Char.{is_ascii_lowercase, is_ascii_uppercase, is_ascii_digit}
use Rattle.std.specs.List.{list_all, list_any}
use Rattle.std.specs.Str.{bytes_eq}
use Rattle.std.proofs.lemmas.Slice.Eq.{bytes_eq-Decides}
use Rattle.tree_node.specs.Each.{Each}
use Rattle.tree_node.specs.Spelling.{is_word_byte}
use Rattle.oz_lexer.specs.declared.token.TokenKind.{TokenKind}
use Rattle.oz_lexer.specs.declared.token.TokenKind.TheVariants as kind
use Rattle.oz_lexer.specs.Spelling.{is_variable, is_lower_word, are_digits, digits_of, is_character, is_escape, closes_quote, is_quoted, signs, is_sign, token_kind_of}
use Rattle.oz_lexer.specs.Faults.{IsLongestToken}
use Rattle.std.proofs.Math.Bool.{and-false}

-- a blank or a newline
abbrev pub IsSpace : ℕ → Type 0
IsSpace b = (b ≡ 32) ⊎ (b ≡ 10)

second : (a b : Bool) → (a && b) ≡ true → b ≡ true
second true b e = e
second false b e = cc

no_word_byte : (b : ℕ) → IsSpace b → is_word_byte b ≡ false
no_word_byte b s = elim s [ inl e ↦ rw e refl | inr e ↦ rw e refl ]

no_digit : (b : ℕ) → IsSpace b → is_ascii_digit b ≡ false
no_digit b s = elim s [ inl e ↦ rw e refl | inr e ↦ rw e refl ]

-- a test that fails at a space fails for all with a space among them
some_space : (test : ℕ → Bool) (xs more : List ℕ) (b : ℕ) → test b ≡ false → list_all test (xs ++ b ∷ more) ≡ false
some_space test [] more b e = rw e refl
some_space test (x ∷ xs) more b e = rw (some_space test xs more b e) (and-false (test x))

no_variable : (xs more : List ℕ) (b : ℕ) → IsSpace b → is_variable (xs ++ b ∷ more) ≡ false
no_variable xs more b s = rw (some_space is_word_byte xs more b (no_word_byte b s)) (and-false (is_ascii_uppercase (slice_index (xs ++ b ∷ more) 0)))

no_word : (xs more : List ℕ) (b : ℕ) → IsSpace b → is_lower_word (xs ++ b ∷ more) ≡ false
no_word xs more b s = rw (some_space is_word_byte xs more b (no_word_byte b s)) (and-false (is_ascii_lowercase (slice_index (xs ++ b ∷ more) 0)))

no_digits : (xs more : List ℕ) (b : ℕ) → IsSpace b → are_digits (xs ++ b ∷ more) ≡ false
no_digits [] more b s = rw (no_digit b s) refl
no_digits (x ∷ xs) more b s = rw (some_space is_ascii_digit xs more b (no_digit b s)) (and-false (is_ascii_digit x))

no_integer : (xs more : List ℕ) (b : ℕ) → IsSpace b → are_digits (digits_of (xs ++ b ∷ more)) ≡ false
no_integer [] more b s = elim s [ inl e ↦ rw e refl | inr e ↦ rw e refl ]
no_integer (x ∷ xs) more b s =
    let chosen : (t : Bool) → are_digits (cond t (xs ++ b ∷ more) (x ∷ (xs ++ b ∷ more))) ≡ false = elim [
      | true ↦ no_digits xs more b s
      | false ↦ no_digits (x ∷ xs) more b s
    ] in chosen (eqb x 126)

no_space : ℕ → Bool
no_space b = not (eqb b 32 || eqb b 10)

space_fails : (b : ℕ) → IsSpace b → no_space b ≡ false
unfolding no_space
space_fails b s = elim s [ inl e ↦ rw e refl | inr e ↦ rw e refl ]

differs : (test : ℕ → Bool) (xs ys : List ℕ) → list_all test xs ≡ false → list_all test ys ≡ true → bytes_eq xs ys ≡ false
differs test xs ys fails holds = go (bytes_eq xs ys) refl
  where
    go : (t : Bool) → bytes_eq xs ys ≡ t → t ≡ false
    go true e =
        let same : xs ≡ ys = (bytes_eq-Decides xs ys).0 e in
        let bad : true ≡ false = sym holds ∙ ap (list_all test) (sym same) ∙ fails in
        cc
    go false e = refl

all_differ : (xs : List ℕ) (ss : List (List ℕ)) → list_all no_space xs ≡ false → Each (λ (s : List ℕ). list_all no_space s ≡ true) ss → list_any (λ (s : List ℕ). bytes_eq xs s) ss ≡ false
all_differ xs [] fails all = refl
all_differ xs (s ∷ ss) fails all = rw (differs no_space xs s fails all.0, all_differ xs ss fails all.1) refl

signs_spaceless : Each (λ (s : List ℕ). list_all no_space s ≡ true) signs
unfolding no_space
signs_spaceless = (refl, (refl, (refl, (refl, (refl, (refl, (refl, (refl, (refl, (refl, (refl, (refl, (refl, (refl, (refl, (refl, (refl, (refl, (refl, tt)))))))))))))))))))

no_sign : (xs more : List ℕ) (b : ℕ) → IsSpace b → is_sign (xs ++ b ∷ more) ≡ false
no_sign xs more b s = all_differ (xs ++ b ∷ more) signs (some_space no_space xs more b (space_fails b s)) signs_spaceless

-- nothing that begins without a quote goes on behind a space
none_spaced : (xs more : List ℕ) (b : ℕ) → IsSpace b → is_quoted (xs ++ b ∷ more) ≡ false → token_kind_of (xs ++ b ∷ more) ≡ None
unfolding token_kind_of
none_spaced xs more b s quoted = rw (no_variable xs more b s, no_word xs more b s, quoted, no_integer xs more b s, no_sign xs more b s) refl

-- a quoted atom ends at its closing quote
closes_more : (cs more : List ℕ) → closes_quote cs ≡ true → 0 < length more → closes_quote (cs ++ more) ≡ false
closes_more [] more e some = cc
closes_more (b ∷ []) [] e some = absurd (omega (arith, some))
closes_more (b ∷ []) (m ∷ more) e some =
    let quote : b ≡ 39 = grind arith in
    rw quote refl
closes_more (b ∷ c ∷ bs) more e some =
    let chosen : (t : Bool) → cond t (is_escape c && closes_quote bs) (is_character b && closes_quote (c ∷ bs)) ≡ true → cond t (is_escape c && closes_quote (bs ++ more)) (is_character b && closes_quote (c ∷ (bs ++ more))) ≡ false = elim [
      | true ↦ λ h. rw (closes_more bs more (second (is_escape c) (closes_quote bs) h) some) (and-false (is_escape c))
      | false ↦ λ h. rw (closes_more (c ∷ bs) more (second (is_character b) (closes_quote (c ∷ bs)) h) some) (and-false (is_character b))
    ] in chosen (eqb b 92) e

pub longest_spaced : (bytes : List ℕ) (k : TokenKind) (b : ℕ) (tail : List ℕ) → token_kind_of bytes ≡ Some k → eqb (slice_index bytes 0) 39 ≡ false → 0 < length bytes → IsSpace b → IsLongestToken (bytes ++ b ∷ tail) k bytes (b ∷ tail)
longest_spaced [] k b tail is quote some s = absurd (omega (arith, some))
longest_spaced (x ∷ xs) k b tail is quote some s = record {
  is = refl;
  spells = is;
  longest = λ more behind e lt. go more behind e lt;
}
  where
    go : (more behind : List ℕ) → b ∷ tail ≡ more ++ behind → 0 < length more → token_kind_of ((x ∷ xs) ++ more) ≡ None
    go [] behind e lt = absurd (omega (arith, lt))
    go (m ∷ more) behind e lt =
        let same : b ≡ m = cc in
        subst (λ (c : ℕ). token_kind_of ((x ∷ xs) ++ c ∷ more) ≡ None) same (none_spaced (x ∷ xs) more b s (rw quote refl))

pub longest_quoted : (cs : List ℕ) (b : ℕ) (tail : List ℕ) → token_kind_of (39 ∷ cs) ≡ Some kind.Quoted → closes_quote cs ≡ true → IsSpace b → IsLongestToken ((39 ∷ cs) ++ b ∷ tail) kind.Quoted (39 ∷ cs) (b ∷ tail)
longest_quoted cs b tail is closed s = record {
  is = refl;
  spells = is;
  longest = λ more behind e lt. go more behind e lt;
}
  where
    go : (more behind : List ℕ) → b ∷ tail ≡ more ++ behind → 0 < length more → token_kind_of ((39 ∷ cs) ++ more) ≡ None
    go [] behind e lt = absurd (omega (arith, lt))
    go (m ∷ more) behind e lt =
        let same : b ≡ m = cc in
        subst (λ (c : ℕ). token_kind_of ((39 ∷ cs) ++ c ∷ more) ≡ None) same (none_spaced (39 ∷ cs) more b s (closes_more cs (b ∷ more) closed (omega arith)))
