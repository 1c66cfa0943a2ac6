-- The token that is cut out of a text.
use Rattle.std.proofs.Common.{◌≡◌, ℕ, ◌+◌, ◌-◌, ◌≤◌, List, [], length, take, drop, None, Ok, Err, IsUtf8, subst, ap, arith, inl, inr, length-drop}
use Rattle.std.specs.Str.{IsCharBoundary}
use Rattle.std.proofs.lemmas.List.{drop-drop}
use Rattle.std.proofs.lemmas.Str.{IsCharBoundary-end}
use Rattle.oz_lexer.specs.declared.token.TokenKind.{TokenKind}
use Rattle.oz_lexer.specs.declared.token.LexKind.{LexKind}
use Rattle.oz_lexer.specs.Tokens.{IsLexemeAt}
use Rattle.oz_lexer.specs.Scan.{behind_blank, front_of}
use Rattle.oz_lexer.proofs.Fronts.{taken_length}
use Rattle.oz_lexer.proofs.FrontLemmas.{end_or_token, ok_begins, err_begins}
use Rattle.oz_lexer.proofs.Boundaries.{ok_within, err_within, token_cut}

-- a token of n bytes at start
pub record Cut (text : List ℕ) (start : ℕ) (kind : TokenKind) (n : ℕ) : Type 0 where
  pub within : start + n ≤ length text
  pub first : IsCharBoundary text start
  pub last : IsCharBoundary text (start + n)
  pub begins : IsLexemeAt start (drop start text) (Ok kind) start (take (start + n - start) (drop start text)) (drop (start + n) text)

begins_as : (text : List ℕ) (start : ℕ) (kind : TokenKind) (n : ℕ) → IsLexemeAt start (drop start text) (Ok kind) start (take n (drop start text)) (drop n (drop start text))
    → IsLexemeAt start (drop start text) (Ok kind) start (take (start + n - start) (drop start text)) (drop (start + n) text)
begins_as text start kind n b =
    let m : n ≡ start + n - start = omega arith in
    subst (λ (xs : List ℕ). IsLexemeAt start (drop start text) (Ok kind) start (take (start + n - start) (drop start text)) xs) (drop-drop n start text)
    (subst (λ (k : ℕ). IsLexemeAt start (drop start text) (Ok kind) start (take k (drop start text)) (drop n (drop start text))) m b)

at_end : (text : List ℕ) (start : ℕ) (kind : TokenKind) (n : ℕ) → start ≤ length text → drop start text ≡ [] → n ≤ length (drop start text)
    → (start + n ≤ length text) × IsCharBoundary text start × IsCharBoundary text (start + n)
at_end text start kind n le is short =
    let none : length (drop start text) ≡ 0 = ap (λ (xs : List ℕ). length xs) is in
    let here : length text ≡ start = omega (arith, length-drop start text) in
    let there : length text ≡ start + n = omega (arith, length-drop start text) in
    (omega arith, subst (IsCharBoundary text) here (IsCharBoundary-end text), subst (IsCharBoundary text) there (IsCharBoundary-end text))

pub token_is_cut : (text : List ℕ) (start : ℕ) (kind : TokenKind) (n : ℕ) → IsUtf8 text → start ≤ length text → behind_blank (drop start text) ≡ Ok None → front_of (drop start text) ≡ Ok (kind, n) → Cut text start kind n
token_is_cut text start kind n utf8 le none e =
    let short = ok_within (drop start text) kind n e in
    let b = ok_begins start (drop start text) kind n none e in
    elim (end_or_token start (drop start text) kind start (take n (drop start text)) (drop n (drop start text)) b) [
      | inl is ↦ let p = at_end text start kind n le is short in record { within = p.0; first = p.1; last = p.2; begins = begins_as text start kind n b }
      | inr l ↦
          let m : length (take n (drop start text)) ≡ n = taken_length n (drop start text) short in
          let p = token_cut text start (take n (drop start text)) (drop n (drop start text)) kind le utf8 l.is l.spells in
          record {
            within = omega (arith, length-drop start text);
            first = p.0;
            last = subst (λ (k : ℕ). IsCharBoundary text (start + k)) m p.1;
            begins = begins_as text start kind n b;
          }
    ]

pub fault_within : (text : List ℕ) (start : ℕ) (kind : LexKind) (n : ℕ) → start ≤ length text → behind_blank (drop start text) ≡ Ok None → front_of (drop start text) ≡ Err (kind, n) → start + n ≤ length text
fault_within text start kind n le none e =
    let b = err_begins start (drop start text) kind n none e in
    let w = err_within b.1 in
    let at = b.2 in
    omega (arith, length-drop start text)
