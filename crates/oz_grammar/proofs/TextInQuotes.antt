-- A text in UTF-8 is one without its escapes, too.
use Rattle.std.proofs.Common.{◌≡◌, ◌∙◌, ◌⊎◌, inl, inr, ℕ, suc, ◌+◌, ◌/◌, ◌<◌, ◌≤◌, List, [], ◌∷◌, ◌++◌, length, take, get_or, eqb, ltb, Bool, true, false, cond, IsUtf8, refl, sym, ap, subst, arith}
use Rattle.std.proofs.lemmas.Bool.{cases_lt, and_parts}
use Rattle.std.proofs.lemmas.Str.{IsUtf8-append, IsUtf8-nil, IsUtf8-encode, IsUtf8-past_char, IsUtf8-take, IsCharBoundary-at_seam, encode_ascii, inside_one}
use lib.Utf8.{scalar, scalars, next, encodes, encode, low_scalar}
use Rattle.oz_lexer.specs.Spelling.{text_in_quotes}
use Rattle.oz_grammar.proofs.Atoms.{plain_unescaped}

-- no byte of ASCII
abbrev pub AreHigh : List ℕ → Type 0
AreHigh [] = Unit {0}
AreHigh (b ∷ bs) = (128 ≤ b) × AreHigh bs

high_unescaped : (xs rest : List ℕ) → AreHigh xs → text_in_quotes (xs ++ rest) ≡ xs ++ text_in_quotes rest
high_unescaped [] rest h = refl
high_unescaped (x ∷ xs) rest h =
    let plain : eqb x 92 ≡ false = grind (arith, h.0) in
    plain_unescaped x (xs ++ rest) plain ∙ ap (λ (ys : List ℕ). x ∷ ys) (high_unescaped xs rest h.1)

-- behind a backslash, too
high_escaped : (xs rest : List ℕ) → 0 < length xs → AreHigh xs → text_in_quotes (92 ∷ (xs ++ rest)) ≡ xs ++ text_in_quotes rest
high_escaped [] rest some h = absurd (omega arith)
high_escaped (x ∷ xs) rest some h =
    let other : eqb x 110 ≡ false = grind (arith, h.0) in
    rw other (ap (λ (ys : List ℕ). x ∷ ys) (high_unescaped xs rest h.1))

high_all : (xs : List ℕ) → ((k : ℕ) → k < length xs → 128 ≤ get_or xs k 0) → AreHigh xs
high_all [] h = tt
high_all (x ∷ xs) h = (h 0 (omega arith), high_all xs (λ k lt. h (suc k) (omega arith)))

-- the bytes of a character beyond ASCII
pub encode_high : (c : ℕ) → 128 ≤ c → AreHigh (encode c)
encode_high c ge = high_all (encode c) (λ k lt. beyond k lt (cases_lt (get_or (encode c) k 0) 128))
  where
    whole : encode c ≡ encode c ++ []
    whole = sym (Rattle.std.proofs.lemmas.List.append-nil (encode c))

    beyond : (k : ℕ) → k < length (encode c) → (get_or (encode c) k 0 < 128) ⊎ (128 ≤ get_or (encode c) k 0) → 128 ≤ get_or (encode c) k 0
    beyond k lt (inr high) = high
    beyond k lt (inl low) = let same = inside_one c [] (encode c) k whole lt low in absurd (omega (arith, same, low, ge))

some_byte : (c : ℕ) → 0 < length (encode c)
unfolding encode
some_byte c = go (ltb c 128) (ltb c 2048) (ltb c 65536)
  where
    go : (x y z : Bool) → 0 < length (cond x (c ∷ []) (cond y ((192 + c / 64) ∷ next c ∷ []) (cond z ((224 + c / 4096) ∷ next (c / 64) ∷ next c ∷ []) ((240 + c / 262144) ∷ next (c / 4096) ∷ next (c / 64) ∷ next c ∷ []))))
    go true y z = omega arith
    go false true z = omega arith
    go false false true = omega arith
    go false false false = omega arith

-- a byte of ASCII before a text
pub ascii_before : (c : ℕ) (bs : List ℕ) → c < 128 → IsUtf8 bs → IsUtf8 (c ∷ bs)
ascii_before c bs lt utf8 =
    IsUtf8-append (c ∷ []) bs (subst IsUtf8 (encode_ascii c lt) (IsUtf8-encode c (low_scalar c (omega arith)))) utf8

first_character : (c : ℕ) (cs : List ℕ) → scalar c ≡ true → (c < 128) ⊎ (128 ≤ c) → (b : Bool) → eqb c 92 ≡ b → IsUtf8 (text_in_quotes (encodes cs)) → IsUtf8 (text_in_quotes (92 ∷ encodes cs))
    → IsUtf8 (text_in_quotes (encode c ++ encodes cs))
first_character c cs is (inr high) b e plain escape =
    subst IsUtf8 (sym (high_unescaped (encode c) (encodes cs) (encode_high c high))) (IsUtf8-append (encode c) (text_in_quotes (encodes cs)) (IsUtf8-encode c is) plain)
first_character c cs is (inl low) true e plain escape =
    let same : c ≡ 92 = grind (arith, e) in
    subst (λ (xs : List ℕ). IsUtf8 (text_in_quotes (xs ++ encodes cs))) (sym (encode_ascii c low)) (subst (λ (x : ℕ). IsUtf8 (text_in_quotes (x ∷ encodes cs))) (sym same) escape)
first_character c cs is (inl low) false e plain escape =
    subst (λ (xs : List ℕ). IsUtf8 (text_in_quotes (xs ++ encodes cs))) (sym (encode_ascii c low)) (subst IsUtf8 (sym (plain_unescaped c (encodes cs) e)) (ascii_before c (text_in_quotes (encodes cs)) low plain))

meant_ascii : (c : ℕ) → c < 128 → cond (eqb c 110) 10 c < 128
meant_ascii c lt = go (eqb c 110)
  where
    go : (b : Bool) → cond b 10 c < 128
    go true = omega arith
    go false = lt

escaped_character : (c : ℕ) (cs : List ℕ) → scalar c ≡ true → (c < 128) ⊎ (128 ≤ c) → IsUtf8 (text_in_quotes (encodes cs)) → IsUtf8 (text_in_quotes (92 ∷ (encode c ++ encodes cs)))
escaped_character c cs is (inr high) plain =
    subst IsUtf8 (sym (high_escaped (encode c) (encodes cs) (some_byte c) (encode_high c high))) (IsUtf8-append (encode c) (text_in_quotes (encodes cs)) (IsUtf8-encode c is) plain)
escaped_character c cs is (inl low) plain =
    subst (λ (xs : List ℕ). IsUtf8 (text_in_quotes (92 ∷ (xs ++ encodes cs)))) (sym (encode_ascii c low)) (ascii_before (cond (eqb c 110) 10 c) (text_in_quotes (encodes cs)) (meant_ascii c low) plain)

mutual
  without_escapes : (cs : List ℕ) → scalars cs ≡ true → IsUtf8 (text_in_quotes (encodes cs))
  without_escapes [] e = IsUtf8-nil
  without_escapes (c ∷ cs) e =
      let two = and_parts (scalar c) (scalars cs) e in
      first_character c cs two.0 (cases_lt c 128) (eqb c 92) refl (without_escapes cs two.1) (escape_first cs two.1)

  -- behind a backslash
  escape_first : (cs : List ℕ) → scalars cs ≡ true → IsUtf8 (text_in_quotes (92 ∷ encodes cs))
  escape_first [] e = ascii_before 92 [] (omega arith) IsUtf8-nil
  escape_first (c ∷ cs) e =
      let two = and_parts (scalar c) (scalars cs) e in
      escaped_character c cs two.0 (cases_lt c 128) (without_escapes cs two.1)

pub unescaped_utf8 : (bs : List ℕ) → IsUtf8 bs → IsUtf8 (text_in_quotes bs)
unescaped_utf8 bs utf8 = subst (λ (xs : List ℕ). IsUtf8 (text_in_quotes xs)) utf8.1.1 (without_escapes utf8.0 utf8.1.0)

-- what stands between quotes
pub quoted_inside : (inside : List ℕ) → IsUtf8 (39 ∷ (inside ++ 39 ∷ [])) → IsUtf8 inside
quoted_inside inside utf8 =
    let open_ = IsUtf8-past_char (39 ∷ (inside ++ 39 ∷ [])) (inside ++ 39 ∷ []) 39 utf8 (sym (ap (λ (xs : List ℕ). xs ++ (inside ++ 39 ∷ [])) (encode_ascii 39 (omega arith)))) in
    let quote : IsUtf8 (39 ∷ []) = ascii_before 39 [] (omega arith) IsUtf8-nil in
    let at = IsCharBoundary-at_seam (inside ++ 39 ∷ []) inside (39 ∷ []) refl quote in
    subst IsUtf8 (take_front inside (39 ∷ [])) (IsUtf8-take (inside ++ 39 ∷ []) (length inside) open_ at)
  where
    take_front : (xs ys : List ℕ) → take (length xs) (xs ++ ys) ≡ xs
    take_front [] ys = refl
    take_front (x ∷ xs) ys = ap (λ (zs : List ℕ). x ∷ zs) (take_front xs ys)
