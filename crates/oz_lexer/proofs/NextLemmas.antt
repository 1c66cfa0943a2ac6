-- The next token of a text.
use Rattle.std.proofs.Common.{◌≡◌, ℕ, ◌+◌, ◌-◌, ◌≤◌, List, [], ◌∷◌, length, take, drop, Result, Ok, Err, refl, sym, subst, ap, ◌∙◌, arith, length-drop}
use Rattle.std.specs.Prelude.{MatchResult}
use Rattle.std.proofs.lemmas.List.{drop-drop, length-take}
use Rattle.oz_lexer.specs.declared.token.Token.{Token}
use Rattle.oz_lexer.specs.declared.token.TokenKind.{TokenKind}
use Rattle.oz_lexer.specs.declared.token.TokenKind.TheVariants.{Variable, Atom, Quoted, Integer, Word, Sign, End}
use Rattle.oz_lexer.specs.declared.token.LexKind.{LexKind}
use Rattle.oz_lexer.specs.declared.token.LexKind.TheVariants.{OpenComment}
use Rattle.oz_lexer.specs.Blanks.{IsBehindBlanks}
use Rattle.oz_lexer.specs.Tokens.{IsLexemeAt, Lexeme, IsNextLexeme, EndOrMore, TokensFrom}
use Rattle.oz_lexer.specs.Lexer.{lexeme_of, fault_at, IsFaultNext, IsNextToken, IsSlice}
use Rattle.oz_lexer.specs.Scan.{behind_blank}
use Rattle.oz_lexer.proofs.Skipping.{skips_tail, blank_found}

-- where the blanks end that begin at a place
pub record Here (text : List ℕ) (at : ℕ) (rest : List ℕ) : Type 0 where
  pub within : length rest ≤ length text
  pub is : drop (length text - length rest) text ≡ rest
  pub place : at + (length (drop at text) - length rest) ≡ length text - length rest
  pub behind : at ≤ length text - length rest

pub blanks_end : (text : List ℕ) (at : ℕ) (rest : List ℕ) → at ≤ length text → IsBehindBlanks (drop at text) rest → Here text at rest
blanks_end text at rest le s =
    let t = skips_tail s in
    let w = t.within in
    let place : at + (length (drop at text) - length rest) ≡ length text - length rest = omega (arith, length-drop at text) in
    record {
      within = omega (arith, length-drop at text);
      is = ap (λ (n : ℕ). drop n text) (sym place) ∙ sym (drop-drop (length (drop at text) - length rest) at text) ∙ t.is;
      place = place;
      behind = omega arith;
    }

pub begins_next : (text : List ℕ) (at : ℕ) (rest : List ℕ) (what : Result TokenKind LexKind) (start : ℕ) (bytes behind : List ℕ) → at ≤ length text → IsBehindBlanks (drop at text) rest
    → IsLexemeAt (length text - length rest) (drop (length text - length rest) text) what start bytes behind
    → IsNextLexeme at (drop at text) (record { what = what; start = start; bytes = bytes }) behind
begins_next text at rest what start bytes behind le s b =
    let h = blanks_end text at rest le s in
    record {
      front = rest;
      blanks = s;
      begins = subst (λ (n : ℕ). IsLexemeAt n rest what start bytes behind) (sym h.place) (subst (λ (xs : List ℕ). IsLexemeAt (length text - length rest) xs what start bytes behind) h.is b);
    }

pub lex_next : (text : List ℕ) (at : ℕ) (rest : List ℕ) (r : Result Token (LexKind × ℕ)) → at ≤ length text → IsBehindBlanks (drop at text) rest
    → MatchResult r (λ t. IsLexemeAt (length text - length rest) (drop (length text - length rest) text) (Ok t.kind) t.start t.text.now (drop t.end text)) (λ e. IsLexemeAt (length text - length rest) (drop (length text - length rest) text) (Err e.0) e.1 [] (drop (length text - length rest) text))
    → MatchResult r (λ t. IsNextLexeme at (drop at text) (lexeme_of t) (drop t.end text)) (λ e. IsFaultNext at (drop at text) (fault_at e.0 e.1))
lex_next text at rest (Ok t) le s b = begins_next text at rest (Ok t.kind) t.start t.text.now (drop t.end text) le s b
lex_next text at rest (Err e) le s b = (drop (length text - length rest) text, begins_next text at rest (Err e.0) e.1 [] (drop (length text - length rest) text) le s b)

pub lex_slice : (text : List ℕ) (at start : ℕ) (r : Result Token (LexKind × ℕ)) → at ≤ start → MatchResult r (λ t. IsSlice text start t) (λ e. e.1 ≤ length text) → MatchResult r (λ t. IsSlice text at t) (λ e. e.1 ≤ length text)
lex_slice text at start (Ok t) le s = let o = s.order in record { order = omega arith; span = s.span; within = s.within; slice = s.slice }
lex_slice text at start (Err e) le s = s

pub open_next : (text : List ℕ) (at : ℕ) (rest : List ℕ) → at ≤ length text → IsBehindBlanks (drop at text) rest → behind_blank rest ≡ Err OpenComment → IsFaultNext at (drop at text) (fault_at OpenComment (length text - length rest))
open_next text at rest le s e =
    let h = blanks_end text at rest le s in
    let place : length text - length rest ≡ at + (length (drop at text) - length rest) + 0 = omega (arith, h.place) in
    (rest, record { front = rest; blanks = s; begins = (0, (blank_found rest (Err OpenComment) e).fault, place, refl, refl) })

-- ---- before what is still to come

token_end : (text : List ℕ) (at : ℕ) (t : Token) → IsSlice text at t → t.end ≡ t.start + length t.text.now
token_end text at t s =
    let n : length t.text.now ≡ length (take (t.end - t.start) (drop t.start text)) = ap (λ (xs : List ℕ). length xs) s.slice in
    let w = s.within in let o = s.span in
    omega (arith, length-take (t.end - t.start) (drop t.start text), length-drop t.start text)

gives_at : (text : List ℕ) (at : ℕ) (kind : TokenKind) (start : ℕ) (bytes : List ℕ) (end_ : ℕ) → end_ ≡ start + length bytes → IsNextLexeme at (drop at text) (record { what = Ok kind; start = start; bytes = bytes }) (drop end_ text)
    → EndOrMore (Ok kind) (TokensFrom at (drop at text) (record { what = Ok kind; start = start; bytes = bytes } ∷ [])) ((ls : List Lexeme) → TokensFrom end_ (drop end_ text) ls → TokensFrom at (drop at text) (record { what = Ok kind; start = start; bytes = bytes } ∷ ls))
gives_at text at Variable start bytes end_ e n = λ ls a. (drop end_ text, n, subst (λ (k : ℕ). TokensFrom k (drop end_ text) ls) e a)
gives_at text at Atom start bytes end_ e n = λ ls a. (drop end_ text, n, subst (λ (k : ℕ). TokensFrom k (drop end_ text) ls) e a)
gives_at text at Quoted start bytes end_ e n = λ ls a. (drop end_ text, n, subst (λ (k : ℕ). TokensFrom k (drop end_ text) ls) e a)
gives_at text at Integer start bytes end_ e n = λ ls a. (drop end_ text, n, subst (λ (k : ℕ). TokensFrom k (drop end_ text) ls) e a)
gives_at text at Word start bytes end_ e n = λ ls a. (drop end_ text, n, subst (λ (k : ℕ). TokensFrom k (drop end_ text) ls) e a)
gives_at text at Sign start bytes end_ e n = λ ls a. (drop end_ text, n, subst (λ (k : ℕ). TokensFrom k (drop end_ text) ls) e a)
gives_at text at End start bytes end_ e n = (drop end_ text, n, refl)

pub gives_token : (text : List ℕ) (at : ℕ) (t : Token) → IsNextLexeme at (drop at text) (lexeme_of t) (drop t.end text) → IsSlice text at t → IsNextToken (record { text = text; at = at }) (record { text = text; at = t.end }) (Ok t)
gives_token text at t n s = gives_at text at t.kind t.start t.text.now t.end (token_end text at t s) n
