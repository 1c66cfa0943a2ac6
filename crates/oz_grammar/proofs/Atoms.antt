-- Atoms as they are spelled, which are read as the atom.
use Rattle.std.proofs.Common.{◌≡◌, ◌∙◌, ◌⊎◌, inl, inr, ℕ, ◌-◌, ◌<◌, List, [], ◌∷◌, ◌++◌, length, take, eqb, Bool, true, false, cond, Some, refl, ap, arith, length-append}
use Rattle.std.specs.Prelude.{◌&&◌, ◌||◌, not, slice_index}
use Rattle.std.specs.Char.{is_ascii_lowercase, is_ascii_uppercase}
use Rattle.std.specs.List.{list_all}
use Rattle.tree_node.specs.Spelling.{is_word_byte, is_bare, escaped_text}
use Rattle.tree_node.specs.Words.{is_reserved}
use Rattle.oz_lexer.specs.declared.token.TokenKind.TheVariants as kind
use Rattle.oz_lexer.specs.Spelling.{is_character, is_escape, closes_quote, is_variable, is_lower_word, token_kind_of, text_in_quotes}
use Rattle.oz_grammar.specs.Symbols.{quoted_text}
use Rattle.oz_lexer.proofs.Fronts.{front_part}
use Rattle.std.proofs.lemmas.Bool.{and_parts}

-- what may be in an atom: characters, and what escapes stand for
abbrev pub is_atom_byte : ℕ → Bool
is_atom_byte b = is_character b || (eqb b 39 || (eqb b 92 || eqb b 10))

plain_closes : (c : ℕ) (ts : List ℕ) → 0 < length ts → eqb c 92 ≡ false → is_character c ≡ true → closes_quote ts ≡ true → closes_quote (c ∷ ts) ≡ true
plain_closes c [] some plain character closed = absurd (omega (arith, some))
plain_closes c (t ∷ ts) some plain character closed =
    let chosen : (b : Bool) → b ≡ false → cond b (is_escape t && closes_quote ts) (is_character c && closes_quote (t ∷ ts)) ≡ true = elim [
      | true ↦ λ e. cc
      | false ↦ λ e. rw (character, closed) refl
    ] in chosen (eqb c 92) plain

pub plain_unescaped : (c : ℕ) (ts : List ℕ) → eqb c 92 ≡ false → text_in_quotes (c ∷ ts) ≡ c ∷ text_in_quotes ts
plain_unescaped c [] plain = refl
plain_unescaped c (t ∷ ts) plain = rw plain refl

-- a byte of an atom, and how it is spelled in quotes
pub data Spelt (c : ℕ) : Type 0 where
  newline : c ≡ 10 → Spelt c
  quote : c ≡ 39 → Spelt c
  backslash : c ≡ 92 → Spelt c
  itself : eqb c 10 ≡ false → eqb c 39 ≡ false → eqb c 92 ≡ false → is_character c ≡ true → Spelt c

pub spelt : (c : ℕ) → is_atom_byte c ≡ true → Spelt c
spelt c e = go (eqb c 10) (eqb c 39) (eqb c 92) refl refl refl
  where
    go : (n q b : Bool) → eqb c 10 ≡ n → eqb c 39 ≡ q → eqb c 92 ≡ b → Spelt c
    go true q b is_n is_q is_b = newline (grind arith)
    go false true b is_n is_q is_b = quote (grind arith)
    go false false true is_n is_q is_b = backslash (grind arith)
    go false false false is_n is_q is_b =
        let rest : (eqb c 39 || (eqb c 92 || eqb c 10)) ≡ false = rw (is_q, is_b, is_n) refl in
        let only : (is_character c || false) ≡ true = rw rest at e in
        itself is_n is_q is_b (alone (is_character c) only)
      where
        alone : (t : Bool) → (t || false) ≡ true → t ≡ true
        alone true h = refl
        alone false h = cc

-- the spelling of the first byte before that of the others
pub front : (c : ℕ) (cs : List ℕ) → Spelt c → ((escaped_text (c ∷ cs) ≡ 92 ∷ 110 ∷ escaped_text cs) × (c ≡ 10)) ⊎ (((escaped_text (c ∷ cs) ≡ 92 ∷ c ∷ escaped_text cs) × (is_escape c ≡ true) × (eqb c 110 ≡ false))
    ⊎ ((escaped_text (c ∷ cs) ≡ c ∷ escaped_text cs) × (eqb c 92 ≡ false) × (is_character c ≡ true)))
front c cs (newline e) = inl (rw e refl, e)
front c cs (quote e) = inr (inl (rw e refl, rw e refl, rw e refl))
front c cs (backslash e) = inr (inl (rw e refl, rw e refl, rw e refl))
front c cs (itself n q b character) = inr (inr (rw (n, q, b) refl, b, character))

some_behind : (xs : List ℕ) → 0 < length (xs ++ 39 ∷ [])
some_behind xs = omega (arith, length-append xs (39 ∷ []))

closes : (a : List ℕ) → list_all is_atom_byte a ≡ true → closes_quote (escaped_text a ++ 39 ∷ []) ≡ true
closes [] all = refl
closes (c ∷ cs) all =
    let two = and_parts (is_atom_byte c) (list_all is_atom_byte cs) all in
    let more = closes cs two.1 in
    elim (front c cs (spelt c two.0)) [
      | inl h ↦ rw (h.0, more) refl
      | inr (inl h) ↦ rw (h.0, h.1, more) refl
      | inr (inr h) ↦ rw h.0 (plain_closes c (escaped_text cs ++ 39 ∷ []) (some_behind (escaped_text cs)) h.1 h.2 more)
    ]

again : (a : List ℕ) → list_all is_atom_byte a ≡ true → text_in_quotes (escaped_text a) ≡ a
again [] all = refl
again (c ∷ cs) all =
    let two = and_parts (is_atom_byte c) (list_all is_atom_byte cs) all in
    let more = again cs two.1 in
    elim (front c cs (spelt c two.0)) [
      | inl h ↦ rw (h.0, more, h.1) refl
      | inr (inl h) ↦ rw (h.0, h.2, more) refl
      | inr (inr h) ↦ rw h.0 (plain_unescaped c (escaped_text cs) h.1 ∙ rw more refl)
    ]

pub inside : (xs : List ℕ) → take (length (39 ∷ (xs ++ 39 ∷ [])) - 2) (xs ++ 39 ∷ []) ≡ xs
inside xs =
    let n : length (39 ∷ (xs ++ 39 ∷ [])) - 2 ≡ length xs = omega (arith, length-append xs (39 ∷ [])) in
    rw n (front_part xs (39 ∷ []))

-- what is known of an atom that is spelled in quotes
pub record Quoted (a : List ℕ) : Type 0 where
  pub closed : closes_quote (escaped_text a ++ 39 ∷ []) ≡ true
  pub kind : token_kind_of (39 ∷ (escaped_text a ++ 39 ∷ [])) ≡ Some kind.Quoted
  pub text : quoted_text (39 ∷ (escaped_text a ++ 39 ∷ [])) ≡ a

pub quoted : (a : List ℕ) → list_all is_atom_byte a ≡ true → Quoted a
unfolding token_kind_of
quoted a all = record {
  closed = closes a all;
  kind = rw (closes a all) refl;
  text = ap text_in_quotes (inside (escaped_text a)) ∙ again a all;
}

-- an atom without quotes
pub record Bare (a : List ℕ) : Type 0 where
  pub kind : token_kind_of a ≡ Some kind.Atom
  pub first : eqb (slice_index a 0) 39 ≡ false
  pub some : 0 < length a

pub bare : (a : List ℕ) → is_bare a ≡ true → Bare a
unfolding token_kind_of
bare [] e = cc
bare (c ∷ cs) e =
    let lower = and_parts (is_ascii_lowercase c) (list_all is_word_byte (c ∷ cs) && not (is_reserved (c ∷ cs))) e in
    let two = and_parts (list_all is_word_byte (c ∷ cs)) (not (is_reserved (c ∷ cs))) lower.1 in
    let upper : is_ascii_uppercase c ≡ false = grind arith in
    let free = negated (is_reserved (c ∷ cs)) two.1 in
    let variable : is_variable (c ∷ cs) ≡ false = rw upper refl in
    let word : is_lower_word (c ∷ cs) ≡ true = ap (λ (b : Bool). b && list_all is_word_byte (c ∷ cs)) lower.0 ∙ two.0 in
    record { kind = rw (variable, word, free) refl; first = grind arith; some = omega arith }
  where
    negated : (t : Bool) → not t ≡ true → t ≡ false
    negated true h = cc
    negated false h = refl
