-- Faults of quoted atoms.
use Rattle.std.proofs.Common.{◌≡◌, ℕ, ◌+◌, ◌-◌, ◌<◌, List, [], ◌∷◌, ◌++◌, length, Bool, true, false, cond, eqb, Result, Ok, Err, refl, sym, subst, ap, ◌∙◌, arith}
use Rattle.std.specs.Prelude.{◌||◌, ◌&&◌, not}
use Rattle.std.proofs.lemmas.List.{append-nil}
use Rattle.oz_lexer.specs.declared.token.LexKind.{LexKind}
use Rattle.oz_lexer.specs.declared.token.LexKind.TheVariants.{BadChar, OpenQuote, BadEscape}
use Rattle.oz_lexer.specs.Spelling.{is_control, is_escape, is_quotable}
use Rattle.oz_lexer.specs.Faults.{FaultAt, control, bad_escape, open_quote, open_escape}
use Rattle.oz_lexer.specs.Scan.{quote_from}
use Rattle.oz_lexer.proofs.Quotes.{quotes, quotes_is}
use Rattle.std.proofs.lemmas.Bool.{and_parts}

-- ---- the fault that is found stands there

-- where the scan stops with a fault: m bytes behind the quote, n of which stand before this text
pub data Stop (escaping : Bool) (text : List ℕ) (n m : ℕ) (kind : LexKind) : Type 0 where
  at_control : (b : ℕ) (inside rest : List ℕ) → text ≡ inside ++ b ∷ rest → quotes escaping inside ≡ true → is_control b ≡ true → kind ≡ BadChar → m ≡ n + length inside → Stop escaping text n m kind
  at_escape : (b : ℕ) (inside rest : List ℕ) → text ≡ inside ++ 92 ∷ b ∷ rest → quotes escaping inside ≡ true → is_escape b ≡ false → kind ≡ BadEscape → m ≡ n + length inside → Stop escaping text n m kind
  at_once : (b : ℕ) (rest : List ℕ) → escaping ≡ true → text ≡ b ∷ rest → is_escape b ≡ false → kind ≡ BadEscape → m + 1 ≡ n → Stop escaping text n m kind
  at_end : quotes escaping text ≡ true → kind ≡ OpenQuote → m ≡ 0 → Stop escaping text n m kind
  at_last : (inside : List ℕ) → text ≡ inside ++ 92 ∷ [] → quotes escaping inside ≡ true → kind ≡ OpenQuote → m ≡ 0 → Stop escaping text n m kind
  at_none : escaping ≡ true → text ≡ [] → kind ≡ OpenQuote → m ≡ 0 → Stop escaping text n m kind

-- one byte before, which is no \
behind : (escaping : Bool) (b : ℕ) (bs : List ℕ) (n m : ℕ) (kind : LexKind) → ((xs : List ℕ) → quotes false xs ≡ true → quotes escaping (b ∷ xs) ≡ true) → Stop false bs (n + 1) m kind → Stop escaping (b ∷ bs) n m kind
behind escaping b bs n m kind more (at_control c inside rest is q con k long) = at_control c (b ∷ inside) rest (ap (λ (xs : List ℕ). b ∷ xs) is) (more inside q) con k (omega arith)
behind escaping b bs n m kind more (at_escape c inside rest is q esc k long) = at_escape c (b ∷ inside) rest (ap (λ (xs : List ℕ). b ∷ xs) is) (more inside q) esc k (omega arith)
behind escaping b bs n m kind more (at_once c rest t is esc k long) = absurd cc
behind escaping b bs n m kind more (at_end q k z) = at_end (more bs q) k z
behind escaping b bs n m kind more (at_last inside is q k z) = at_last (b ∷ inside) (ap (λ (xs : List ℕ). b ∷ xs) is) (more inside q) k z
behind escaping b bs n m kind more (at_none t is k z) = absurd cc

-- a \ before
behind_slash : (bs : List ℕ) (n m : ℕ) (kind : LexKind) → Stop true bs (n + 1) m kind → Stop false (92 ∷ bs) n m kind
behind_slash bs n m kind (at_control c inside rest is q con k long) = at_control c (92 ∷ inside) rest (ap (λ (xs : List ℕ). 92 ∷ xs) is) q con k (omega arith)
behind_slash bs n m kind (at_escape c inside rest is q esc k long) = at_escape c (92 ∷ inside) rest (ap (λ (xs : List ℕ). 92 ∷ xs) is) q esc k (omega arith)
behind_slash bs n m kind (at_once c rest t is esc k long) = at_escape c [] rest (ap (λ (xs : List ℕ). 92 ∷ xs) is) refl esc k (omega arith)
behind_slash bs n m kind (at_end q k z) = at_end q k z
behind_slash bs n m kind (at_last inside is q k z) = at_last (92 ∷ inside) (ap (λ (xs : List ℕ). 92 ∷ xs) is) q k z
behind_slash bs n m kind (at_none t is k z) = at_last [] (ap (λ (xs : List ℕ). 92 ∷ xs) is) refl k z

-- the fault that is answered
pub record SameFault (k l : LexKind) (m n : ℕ) : Type 0 where
  pub kind : l ≡ k
  pub place : n ≡ m

pub same_fault : {A : Type 0} (k l : LexKind) (m n : ℕ) → ◌≡◌ {A = Result A (LexKind × ℕ)} (Err (k, m)) (Err (l, n)) → SameFault k l m n
same_fault k l m n e =
    let p : (l, n) ≡ (k, m) = cc in
    record { kind = ap (λ (t : LexKind × ℕ). t.0) p; place = ap (λ (t : LexKind × ℕ). t.1) p }

stops : (escaping : Bool) (text : List ℕ) (n : ℕ) (kind : LexKind) (m : ℕ) → 0 < n → quote_from escaping text n ≡ Err (kind, m) → Stop escaping text n m kind
stops true [] n kind m pos e = let f = same_fault OpenQuote kind 0 m e in at_none refl refl f.kind f.place
stops false [] n kind m pos e = let f = same_fault OpenQuote kind 0 m e in at_end refl f.kind f.place
stops true (b ∷ bs) n kind m pos e =
    let chosen : (t : Bool) → is_escape b ≡ t → cond t (quote_from false bs (n + 1)) (Err (BadEscape, n - 1)) ≡ Err (kind, m) → Stop true (b ∷ bs) n m kind = elim [
      | true ↦ λ t e. behind true b bs n m kind (λ xs q. rw (t, q) refl) (stops false bs (n + 1) kind m (omega arith) e)
      | false ↦ λ t e. let f = same_fault BadEscape kind (n - 1) m e in at_once b bs refl refl t f.kind (omega (arith, f.place))
    ] in chosen (is_escape b) refl e
stops false (b ∷ bs) n kind m pos e =
    let chosen : (q s c : Bool) → eqb b 39 ≡ q → eqb b 92 ≡ s → is_control b ≡ c → cond q (Ok (n + 1)) (cond s (quote_from true bs (n + 1)) (cond c (Err (BadChar, n)) (quote_from false bs (n + 1)))) ≡ Err (kind, m) → Stop false (b ∷ bs) n m kind = elim [
      | true ↦ λ s c eq es ec e. absurd cc
      | false ↦ elim [
        | true ↦ λ c eq es ec e. let is : 92 ≡ b = grind arith in subst (λ (x : ℕ). Stop false (x ∷ bs) n m kind) is (behind_slash bs n m kind (stops true bs (n + 1) kind m (omega arith) e))
        | false ↦ elim [
          | true ↦ λ eq es ec e. let f = same_fault BadChar kind n m e in at_control b [] bs refl refl ec f.kind (omega (arith, f.place))
          | false ↦ λ eq es ec e. behind false b bs n m kind (λ xs h. rw (eq, es, ec, h) refl) (stops false bs (n + 1) kind m (omega arith) e)
        ]
      ]
    ] in chosen (eqb b 39) (eqb b 92) (is_control b) refl refl refl e

fault_at : (text : List ℕ) (m : ℕ) (kind : LexKind) → Stop false text 1 m kind → FaultAt (39 ∷ text) kind m
fault_at text m kind (at_control b inside rest is q con k long) =
    let l : m ≡ length inside + 1 = omega arith in
    rw (is, k, l) (control b inside rest (quotes_is inside ∙ q) con)
fault_at text m kind (at_escape b inside rest is q esc k long) =
    let l : m ≡ length inside + 1 = omega arith in
    rw (is, k, l) (bad_escape b inside rest (quotes_is inside ∙ q) esc)
fault_at text m kind (at_once b rest t is esc k long) = absurd cc
fault_at text m kind (at_end q k z) = rw (k, z) (open_quote text (quotes_is text ∙ q))
fault_at text m kind (at_last inside is q k z) = rw (is, k, z) (open_escape inside (quotes_is inside ∙ q))
fault_at text m kind (at_none t is k z) = absurd cc

pub quote_fault : (text : List ℕ) (kind : LexKind) (m : ℕ) → quote_from false text 1 ≡ Err (kind, m) → FaultAt (39 ∷ text) kind m
quote_fault text kind m e = fault_at text m kind (stops false text 1 kind m (omega arith) e)

-- ---- the fault that stands there is found

-- the scan goes on behind what may stand in quotes
pub goes_on : (escaping : Bool) (inside tail : List ℕ) (n : ℕ) → quotes escaping inside ≡ true → quote_from escaping (inside ++ tail) n ≡ quote_from false tail (n + length inside)
goes_on true [] tail n e = absurd cc
goes_on false [] tail n e = let m : n ≡ n + 0 = omega arith in ap (λ (k : ℕ). quote_from false tail k) m
goes_on true (b ∷ bs) tail n e =
    let p = and_parts (is_escape b) (quotes false bs) e in
    let m : n + 1 + length bs ≡ n + length (b ∷ bs) = omega arith in
    rw (p.0) (goes_on false bs tail (n + 1) p.1 ∙ ap (λ (k : ℕ). quote_from false tail k) m)
goes_on false (b ∷ bs) tail n e =
    let m : n + 1 + length bs ≡ n + length (b ∷ bs) = omega arith in
    let chosen : (q s c : Bool) → eqb b 39 ≡ q → eqb b 92 ≡ s → is_control b ≡ c → cond s (quotes true bs) (not (q || (s || c)) && quotes false bs) ≡ true
    → cond q (Ok (n + 1)) (cond s (quote_from true (bs ++ tail) (n + 1)) (cond c (Err (BadChar, n)) (quote_from false (bs ++ tail) (n + 1)))) ≡ quote_from false tail (n + length (b ∷ bs)) = elim [
      | true ↦ elim [
        | true ↦ λ c eq es ec e. absurd (let x : 39 ≡ b = grind arith in let y : 92 ≡ b = grind arith in omega arith)
        | false ↦ λ c eq es ec e. absurd cc
      ]
      | false ↦ elim [
        | true ↦ λ c eq es ec e. goes_on true bs tail (n + 1) e ∙ ap (λ (k : ℕ). quote_from false tail k) m
        | false ↦ elim [
          | true ↦ λ eq es ec e. absurd cc
          | false ↦ λ eq es ec e. goes_on false bs tail (n + 1) e ∙ ap (λ (k : ℕ). quote_from false tail k) m
        ]
      ]
    ] in chosen (eqb b 39) (eqb b 92) (is_control b) refl refl refl e

pub finds_control : (b : ℕ) (inside rest : List ℕ) → is_quotable inside ≡ true → is_control b ≡ true → quote_from false (inside ++ b ∷ rest) 1 ≡ Err (BadChar, length inside + 1)
finds_control b inside rest q c =
    let no_quote : eqb b 39 ≡ false = grind arith in
    let no_slash : eqb b 92 ≡ false = grind arith in
    let m : 1 + length inside ≡ length inside + 1 = omega arith in
    goes_on false inside (b ∷ rest) 1 (sym (quotes_is inside) ∙ q) ∙ rw (no_quote, no_slash, c, m) refl

pub finds_escape : (b : ℕ) (inside rest : List ℕ) → is_quotable inside ≡ true → is_escape b ≡ false → quote_from false (inside ++ 92 ∷ b ∷ rest) 1 ≡ Err (BadEscape, length inside + 1)
finds_escape b inside rest q e =
    let m : 1 + length inside + 1 - 1 ≡ length inside + 1 = omega arith in
    goes_on false inside (92 ∷ b ∷ rest) 1 (sym (quotes_is inside) ∙ q) ∙ rw (e, m) refl

pub finds_open : (inside : List ℕ) → is_quotable inside ≡ true → quote_from false inside 1 ≡ Err (OpenQuote, 0)
finds_open inside q = ap (λ (xs : List ℕ). quote_from false xs 1) (sym (append-nil inside)) ∙ goes_on false inside [] 1 (sym (quotes_is inside) ∙ q)

pub finds_last : (inside : List ℕ) → is_quotable inside ≡ true → quote_from false (inside ++ 92 ∷ []) 1 ≡ Err (OpenQuote, 0)
finds_last inside q = goes_on false inside (92 ∷ []) 1 (sym (quotes_is inside) ∙ q)
