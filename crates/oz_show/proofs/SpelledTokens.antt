-- The tokens of symbols that are spelled with blanks between are these symbols.
use Rattle.std.proofs.Common.{◌≡◌, inl, inr, ℕ, ◌+◌, ◌-◌, List, [], ◌∷◌, ◌++◌, length, map, false, Ok, refl, sym, subst, arith}
use Rattle.oz_lexer.specs.declared.token.TokenKind.{TokenKind}
use Rattle.oz_lexer.specs.declared.token.TokenKind.TheVariants as kind
use Rattle.oz_lexer.specs.Spelling.{is_long}
use Rattle.oz_lexer.specs.Blanks.{IsBehindBlanks, here, blank}
use Rattle.oz_lexer.specs.Faults.{IsLongestToken}
use Rattle.oz_lexer.specs.Tokens.{Lexeme, IsLexemeAt, EndOrMore, TokensFrom}
use Rattle.oz_grammar.specs.declared.symbol.Symbol.{Symbol}
use Rattle.oz_grammar.specs.declared.symbol.Symbol.TheVariants as t
use Rattle.oz_grammar.specs.Symbols.{symbol_of}
use Rattle.oz_show.specs.CanonicalText.{symbol_text, text_behind, symbols_text}
use Rattle.oz_show.proofs.Spaced.{IsSpace}
use Rattle.oz_show.proofs.SymbolSpelling.{IsWritten, token_of}

-- symbols that can be written, and the end of the text behind them
pub data Written : List Symbol → Type 0 where
  ends : Written (t.EndOfText ∷ [])
  more : {x : Symbol} {symbols : List Symbol} → IsWritten x → Written symbols → Written (x ∷ symbols)

-- what stands behind begins with a space
behind_space : (symbols : List Symbol) → (b : ℕ) × (tail : List ℕ) × IsSpace b × (text_behind symbols ≡ b ∷ tail)
behind_space [] = (10, [], inr refl, refl)
behind_space (t.EndOfText ∷ symbols) = (10, [], inr refl, refl)
behind_space (x ∷ symbols) = (32, symbol_text x ++ text_behind symbols, inl refl, refl)

pub behind_is : (x : Symbol) (symbols : List Symbol) → IsWritten x → text_behind (x ∷ symbols) ≡ 32 ∷ (symbol_text x ++ text_behind symbols)
behind_is t.EndOfText symbols w = absurd w
behind_is x symbols w = refl

-- a token begins here
token_begins : (k : TokenKind) (place : ℕ) (text bytes rest : List ℕ) → (k ≡ kind.End → ⊥) → IsLongestToken text k bytes rest → is_long k bytes ≡ false → IsLexemeAt place text (Ok k) place bytes rest
token_begins kind.End place text bytes rest no_end longest short = absurd (no_end refl)
token_begins kind.Variable place text bytes rest no_end longest short = (longest, short, refl)
token_begins kind.Atom place text bytes rest no_end longest short = (longest, short, refl)
token_begins kind.Quoted place text bytes rest no_end longest short = (longest, short, refl)
token_begins kind.Integer place text bytes rest no_end longest short = (longest, short, refl)
token_begins kind.Word place text bytes rest no_end longest short = (longest, short, refl)
token_begins kind.Sign place text bytes rest no_end longest short = (longest, short, refl)

goes_on : (k : TokenKind) (last on : Type 0) → (k ≡ kind.End → ⊥) → on → EndOrMore (Ok k) last on
goes_on kind.End last on no_end h = absurd (no_end refl)
goes_on kind.Variable last on no_end h = h
goes_on kind.Atom last on no_end h = h
goes_on kind.Quoted last on no_end h = h
goes_on kind.Integer last on no_end h = h
goes_on kind.Word last on no_end h = h
goes_on kind.Sign last on no_end h = h

-- the tokens of a text are these symbols
pub record Divides (place : ℕ) (text : List ℕ) (symbols : List Symbol) : Type 0 where
  pub tokens : List Lexeme
  pub divided : TokensFrom place text tokens
  pub are : map symbol_of tokens ≡ symbols

-- a symbol behind so many bytes of blanks, and those behind it
first_of : (x : Symbol) (symbols : List Symbol) (place at_front : ℕ) (text : List ℕ) → IsWritten x → IsBehindBlanks text (symbol_text x ++ text_behind symbols)
    → place + (length text - length (symbol_text x ++ text_behind symbols)) ≡ at_front → Divides (at_front + length (symbol_text x)) (text_behind symbols) symbols → Divides place text (x ∷ symbols)
first_of x symbols place at_front text w blanks at behind =
    let token = token_of x w in
    let space = behind_space symbols in
    let longest : IsLongestToken (symbol_text x ++ text_behind symbols) token.what (symbol_text x) (text_behind symbols) =
    subst (λ (r : List ℕ). IsLongestToken (symbol_text x ++ r) token.what (symbol_text x) r) (sym space.3) (token.longest space.0 space.1 space.2) in
    record {
      tokens = record { what = Ok token.what; start = at_front; bytes = symbol_text x } ∷ behind.tokens;
      divided = (
        text_behind symbols,
        record {
          front = symbol_text x ++ text_behind symbols;
          blanks = blanks;
          begins = subst (λ (n : ℕ). IsLexemeAt n (symbol_text x ++ text_behind symbols) (Ok token.what) at_front (symbol_text x) (text_behind symbols)) (sym at)
              (token_begins token.what at_front (symbol_text x ++ text_behind symbols) (symbol_text x) (text_behind symbols) token.no_end longest token.short);
        },
        goes_on token.what _ _ token.no_end behind.divided,
      );
      are = rw (token.back, behind.are) refl;
    }

behind_divides : (symbols : List Symbol) (place : ℕ) → Written symbols → Divides place (text_behind symbols) symbols
behind_divides [] place w = elim w [ ]
behind_divides (x ∷ []) place ends = record {
  tokens = record { what = Ok kind.End; start = place + 1; bytes = [] } ∷ [];
  divided = ([], record { front = []; blanks = blank refl here; begins = (refl, refl, refl, refl) }, refl);
  are = refl;
}
behind_divides (x ∷ symbols) place (more w ws) =
    let is = behind_is x symbols w in
    let at : place + (length (32 ∷ (symbol_text x ++ text_behind symbols)) - length (symbol_text x ++ text_behind symbols)) ≡ place + 1 = omega arith in
    subst (λ (text : List ℕ). Divides place text (x ∷ symbols)) (sym is)
    (first_of x symbols place (place + 1) (32 ∷ (symbol_text x ++ text_behind symbols)) w (blank refl here) at
    (behind_divides symbols (place + 1 + length (symbol_text x)) ws))

spelled_divides : (x : Symbol) (symbols : List Symbol) → IsWritten x → Written symbols → Divides 0 (symbols_text (x ∷ symbols)) (x ∷ symbols)
spelled_divides x symbols w ws =
    let at : 0 + (length (symbol_text x ++ text_behind symbols) - length (symbol_text x ++ text_behind symbols)) ≡ 0 = omega arith in
    first_of x symbols 0 0 (symbol_text x ++ text_behind symbols) w here at (behind_divides symbols (0 + length (symbol_text x)) ws)

-- what is written divides into what was written
pub written_divides : (symbols : List Symbol) → Written symbols → Divides 0 (symbols_text symbols) symbols
written_divides _ ends = behind_divides (t.EndOfText ∷ []) 0 ends
written_divides _ (more {x} {symbols} w ws) = spelled_divides x symbols w ws
