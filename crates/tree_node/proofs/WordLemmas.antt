-- Reserved words by their length.
use Rattle.std.proofs.Common.{arith, ◌≡◌, ◌∙◌, sym, ap, refl, ℕ, ◌≤◌, List, [], ◌∷◌, length, Bool, true, false, cond}
use Rattle.std.specs.Prelude.{◌==◌, ◌&&◌, ◌||◌, nat_le}
use Rattle.std.specs.List.{filter, list_any, list_all}
use Rattle.std.specs.Str.{bytes_eq}
use Rattle.std.specs.Cmp.Lexicographic.{same_text}
use Rattle.std.proofs.lemmas.Bool.{and_parts}
use Rattle.tree_node.specs.Words.{reserved_words, words_of_length, is_reserved}

-- texts of different lengths are different
other_length : (xs ys : List ℕ) → (length ys == length xs) ≡ false → bytes_eq xs ys ≡ false
other_length xs ys differ = go (bytes_eq xs ys) refl
  where
    go : (b : Bool) → bytes_eq xs ys ≡ b → bytes_eq xs ys ≡ false
    go true e = let same : length xs ≡ length ys = ap length (same_text xs ys (sym e)) in absurd (grind (arith, differ, same))
    go false e = e

among_some : (text : List ℕ) (words : List (List ℕ)) → list_any (λ word. bytes_eq text word) (filter (λ word. length word == length text) words) ≡ list_any (λ word. bytes_eq text word) words
among_some text [] = refl
among_some text (word ∷ words) = go (length word == length text) refl (among_some text words)
  where
    go : (b : Bool) → (length word == length text) ≡ b → list_any (λ w. bytes_eq text w) (filter (λ w. length w == length text) words) ≡ list_any (λ w. bytes_eq text w) words
        → list_any (λ w. bytes_eq text w) (cond b (word ∷ filter (λ w. length w == length text) words) (filter (λ w. length w == length text) words)) ≡ (bytes_eq text word || list_any (λ w. bytes_eq text w) words)
    go true e others = ap (λ (b : Bool). bytes_eq text word || b) others
    go false e others = others ∙ ap (λ (b : Bool). b || list_any (λ w. bytes_eq text w) words) (sym (other_length text word e))

-- a text is among all where it is among those of its length
pub among_all : (text : List ℕ) → list_any (λ word. bytes_eq text word) (words_of_length (length text)) ≡ is_reserved text
among_all text = among_some text reserved_words

-- each has two letters to eight
abbrev has_letters : List ℕ → Bool
has_letters word = nat_le 2 (length word) && nat_le (length word) 8

none_so_long : (n : ℕ) → (2 ≤ n → n ≤ 8 → ⊥) → (words : List (List ℕ)) → list_all has_letters words ≡ true → filter (λ word. length word == n) words ≡ []
none_so_long n out [] all = refl
none_so_long n out (word ∷ words) all =
    let parts : (has_letters word ≡ true) × (list_all has_letters words ≡ true) = and_parts (has_letters word) (list_all has_letters words) all in
    go (length word == n) refl parts.0 (none_so_long n out words parts.1)
  where
    go : (b : Bool) → (length word == n) ≡ b → has_letters word ≡ true → filter (λ w. length w == n) words ≡ [] → cond b (word ∷ filter (λ w. length w == n) words) (filter (λ w. length w == n) words) ≡ []
    go true e some none =
        let letters = and_parts (nat_le 2 (length word)) (nat_le (length word) 8) some in
        let least : nat_le 2 (length word) ≡ true = letters.0 in
        let most : nat_le (length word) 8 ≡ true = letters.1 in
        absurd (out (grind (arith, e, least)) (grind (arith, e, most)))
    go false e some none = none

pub no_words : (n : ℕ) → (2 ≤ n → n ≤ 8 → ⊥) → [] ≡ words_of_length n
unfolding reserved_words
no_words n out = sym (none_so_long n out reserved_words refl)
