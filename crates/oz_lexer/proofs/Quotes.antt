-- Quoted atoms, a byte at a time.
use Rattle.std.proofs.Common.{◌≡◌, ℕ, ◌+◌, ◌-◌, ◌<◌, List, [], ◌∷◌, ◌++◌, length, Bool, true, false, cond, eqb, Some, None, Result, Ok, Err, refl, ap, ◌∙◌, arith}
use Rattle.std.specs.Prelude.{◌||◌, ◌&&◌, not}
use Rattle.oz_lexer.specs.declared.token.TokenKind.TheVariants.{Quoted}
use Rattle.oz_lexer.specs.declared.token.LexKind.{LexKind}
use Rattle.oz_lexer.specs.declared.token.LexKind.TheVariants.{BadChar, BadEscape}
use Rattle.oz_lexer.specs.Spelling.{is_control, is_character, is_escape, is_quotable, closes_quote, token_kind_of}
use Rattle.oz_lexer.specs.Scan.{quote_from}
use Rattle.std.proofs.lemmas.Bool.{and_parts}

abbrev pub is_nil : List ℕ → Bool
is_nil [] = true
is_nil (b ∷ bs) = false

-- characters and escapes, behind a \ or not
abbrev pub quotes : Bool → List ℕ → Bool
quotes escaping [] = not escaping
quotes true (b ∷ bs) = is_escape b && quotes false bs
quotes false (b ∷ bs) = cond (eqb b 92) (quotes true bs) (is_character b && quotes false bs)

-- the same, then the closing quote and nothing more
abbrev pub ends : Bool → List ℕ → Bool
ends escaping [] = false
ends true (b ∷ bs) = is_escape b && ends false bs
ends false (b ∷ bs) = cond (eqb b 39) (is_nil bs) (cond (eqb b 92) (ends true bs) (not (is_control b) && ends false bs))

joins : (t u v x y z w : Bool) → x ≡ y → z ≡ w → cond t (u && x) (v && z) ≡ cond t (u && y) (v && w)
joins t u v x y z w e f = rw (e, f) refl

pub quotes_is : (bs : List ℕ) → is_quotable bs ≡ quotes false bs
quotes_is [] = refl
quotes_is (b ∷ []) = last (eqb b 92) (eqb b 39) (is_control b)
  where
    last : (e q c : Bool) → not (q || (e || c)) ≡ cond e false (not (q || (e || c)) && true)
    last true true c = refl
    last true false c = refl
    last false true c = refl
    last false false true = refl
    last false false false = refl
quotes_is (b ∷ c ∷ bs) = joins (eqb b 92) (is_escape c) (is_character b) (is_quotable bs) (quotes false bs) (is_quotable (c ∷ bs)) (quotes false (c ∷ bs)) (quotes_is bs) (quotes_is (c ∷ bs))

ends_is : (bs : List ℕ) → closes_quote bs ≡ ends false bs
ends_is [] = refl
ends_is (b ∷ []) = last (eqb b 39) (eqb b 92) (is_control b)
  where
    last : (q e c : Bool) → q ≡ cond q true (cond e false (not c && false))
    last true e c = refl
    last false true c = refl
    last false false true = refl
    last false false false = refl
ends_is (b ∷ c ∷ bs) =
    joins (eqb b 92) (is_escape c) (is_character b) (closes_quote bs) (ends false bs) (closes_quote (c ∷ bs)) (ends false (c ∷ bs)) (ends_is bs) (ends_is (c ∷ bs))
    ∙ (both (eqb b 39) (eqb b 92) (is_control b) (λ q e. let no : eqb b 92 ≡ false = grind arith in cc) (is_escape c && ends false bs) (ends false (c ∷ bs)))
  where
    both : (q e c : Bool) → (q ≡ true → e ≡ true → ⊥) → (x y : Bool) → cond e x (not (q || (e || c)) && y) ≡ cond q false (cond e x (not c && y))
    both true true c h x y = absurd (h refl refl)
    both true false c h x y = refl
    both false true c h x y = refl
    both false false true h x y = refl
    both false false false h x y = refl

quoted_kind : (bs : List ℕ) → token_kind_of (39 ∷ bs) ≡ cond (closes_quote bs) (Some Quoted) None
unfolding token_kind_of
quoted_kind bs =
    let chosen : (t : Bool) → closes_quote bs ≡ t → token_kind_of (39 ∷ bs) ≡ cond t (Some Quoted) None = elim [ true ↦ λ e. rw e refl | false ↦ λ e. rw e refl ]
    in chosen (closes_quote bs) refl

-- which bytes are a token that begins with a quote
pub quote_kind : (bs : List ℕ) → token_kind_of (39 ∷ bs) ≡ cond (ends false bs) (Some Quoted) None
quote_kind bs = quoted_kind bs ∙ ap (λ (t : Bool). cond t (Some Quoted) None) (ends_is bs)

-- ---- where the quote closes

-- these bytes close
pub closes : (escaping : Bool) (bytes rest : List ℕ) (n : ℕ) → ends escaping bytes ≡ true → quote_from escaping (bytes ++ rest) n ≡ Ok (n + length bytes)
closes escaping [] rest n e = absurd cc
closes true (b ∷ bs) rest n e =
    let p = and_parts (is_escape b) (ends false bs) e in
    let m : n + 1 + length bs ≡ n + length (b ∷ bs) = omega arith in
    rw (p.0) (closes false bs rest (n + 1) p.1 ∙ ap (λ (k : ℕ). Ok k) m)
closes false (b ∷ bs) rest n e =
    let chosen : (q s c : Bool) → eqb b 39 ≡ q → eqb b 92 ≡ s → is_control b ≡ c → cond q (is_nil bs) (cond s (ends true bs) (not c && ends false bs)) ≡ true
    → cond q (Ok (n + 1)) (cond s (quote_from true (bs ++ rest) (n + 1)) (cond c (Err (BadChar, n)) (quote_from false (bs ++ rest) (n + 1)))) ≡ Ok (n + length (b ∷ bs)) = elim [
      | true ↦ λ s c eq es ec e. nil bs e
      | false ↦ elim [
        | true ↦ λ c eq es ec e. let m : n + 1 + length bs ≡ n + length (b ∷ bs) = omega arith in closes true bs rest (n + 1) e ∙ ap (λ (k : ℕ). Ok k) m
        | false ↦ elim [
          | true ↦ λ eq es ec e. absurd cc
          | false ↦ λ eq es ec e. let m : n + 1 + length bs ≡ n + length (b ∷ bs) = omega arith in closes false bs rest (n + 1) e ∙ ap (λ (k : ℕ). Ok k) m
        ]
      ]
    ] in chosen (eqb b 39) (eqb b 92) (is_control b) refl refl refl e
  where
    nil : (xs : List ℕ) → is_nil xs ≡ true → ◌≡◌ {A = Result ℕ (LexKind × ℕ)} (Ok (n + 1)) (Ok (n + length (b ∷ xs)))
    nil [] e = refl
    nil (x ∷ xs) e = absurd cc

-- where it closes
pub record Closed (escaping : Bool) (text : List ℕ) (n m : ℕ) : Type 0 where
  pub bytes : List ℕ
  pub rest : List ℕ
  pub is : text ≡ bytes ++ rest
  pub ends : ends escaping bytes ≡ true
  pub long : m ≡ n + length bytes

longer : (escaping next : Bool) (b : ℕ) (bs : List ℕ) (n m : ℕ) → ((bytes : List ℕ) → ends next bytes ≡ true → ends escaping (b ∷ bytes) ≡ true) → Closed next bs (n + 1) m → Closed escaping (b ∷ bs) n m
longer escaping next b bs n m more c =
    let i = c.is in
    record { bytes = b ∷ c.bytes; rest = c.rest; is = ap (λ (xs : List ℕ). b ∷ xs) c.is; ends = more c.bytes c.ends; long = omega (arith, c.long) }

pub closed : (escaping : Bool) (text : List ℕ) (n m : ℕ) → quote_from escaping text n ≡ Ok m → Closed escaping text n m
closed escaping [] n m e = absurd cc
closed true (b ∷ bs) n m e =
    let chosen : (t : Bool) → is_escape b ≡ t → cond t (quote_from false bs (n + 1)) (Err (BadEscape, n - 1)) ≡ Ok m → Closed true (b ∷ bs) n m = elim [
      | true ↦ λ t e. longer true false b bs n m (λ bytes h. rw (t, h) refl) (closed false bs (n + 1) m e)
      | false ↦ λ t e. absurd cc
    ] in chosen (is_escape b) refl e
closed false (b ∷ bs) n m e =
    let chosen : (q s c : Bool) → eqb b 39 ≡ q → eqb b 92 ≡ s → is_control b ≡ c → cond q (Ok (n + 1)) (cond s (quote_from true bs (n + 1)) (cond c (Err (BadChar, n)) (quote_from false bs (n + 1)))) ≡ Ok m → Closed false (b ∷ bs) n m = elim [
      | true ↦ λ s c eq es ec e. let m_is : n + 1 ≡ m = cc in record { bytes = b ∷ []; rest = bs; is = refl; ends = rw eq refl; long = omega arith }
      | false ↦ elim [
        | true ↦ λ c eq es ec e. longer false true b bs n m (λ bytes h. rw (eq, es, h) refl) (closed true bs (n + 1) m e)
        | false ↦ elim [
          | true ↦ λ eq es ec e. absurd cc
          | false ↦ λ eq es ec e. longer false false b bs n m (λ bytes h. rw (eq, es, ec, h) refl) (closed false bs (n + 1) m e)
        ]
      ]
    ] in chosen (eqb b 39) (eqb b 92) (is_control b) refl refl refl e

-- nothing goes on behind the closing quote
pub no_longer : (escaping : Bool) (bytes more : List ℕ) → ends escaping bytes ≡ true → 0 < length more → ends escaping (bytes ++ more) ≡ false
no_longer escaping [] more e some = absurd cc
no_longer true (b ∷ bs) more e some = let p = and_parts (is_escape b) (ends false bs) e in rw (p.0) (no_longer false bs more p.1 some)
no_longer false (b ∷ bs) more e some =
    let chosen : (q s c : Bool) → cond q (is_nil bs) (cond s (ends true bs) (not c && ends false bs)) ≡ true
    → cond q (is_nil (bs ++ more)) (cond s (ends true (bs ++ more)) (not c && ends false (bs ++ more))) ≡ false = elim [
      | true ↦ λ s c e. nil bs more e some
      | false ↦ elim [
        | true ↦ λ c e. no_longer true bs more e some
        | false ↦ elim [
          | true ↦ λ e. absurd cc
          | false ↦ λ e. no_longer false bs more e some
        ]
      ]
    ] in chosen (eqb b 39) (eqb b 92) (is_control b) e
  where
    nil : (xs ys : List ℕ) → is_nil xs ≡ true → 0 < length ys → is_nil (xs ++ ys) ≡ false
    nil [] [] e some = absurd (omega arith)
    nil [] (y ∷ ys) e some = refl
    nil (x ∷ xs) ys e some = absurd cc
