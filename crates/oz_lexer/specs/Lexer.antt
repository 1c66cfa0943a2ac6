-- What a lexer answers.
use Rattle.std.specs.Prelude.{◌≡◌, ℕ, ◌-◌, ◌≤◌, List, [], ◌∷◌, length, take, drop, Result, Ok, Err}
use Rattle.oz_lexer.specs.declared.token.LexKind.{LexKind}
use Rattle.oz_lexer.specs.declared.token.Token.{Token}
use Rattle.oz_lexer.specs.declared.token.LexFault.{LexFault}
use Rattle.oz_lexer.specs.Tokens.{Lexeme, IsNextLexeme, EndOrMore, TokensFrom}
use Rattle.oz_lexer.specs.Place.{place_of}

-- a lexer: its text, and how many bytes of it are read
pub record LexerState : Type 0 where
  pub text : List ℕ
  pub at : ℕ

-- the tokens that are still to come
abbrev pub AreLexemesAhead : LexerState → List Lexeme → Type 0
AreLexemesAhead lexer ls = TokensFrom lexer.at (drop lexer.at lexer.text) ls

-- a token as definitions see it: its kind, its place and its bytes
abbrev pub lexeme_of : Token → Lexeme
lexeme_of t = record { what = Ok t.kind; start = t.start; bytes = t.text.now }

-- a lexical fault in place of a token
abbrev pub fault_at : LexKind → ℕ → Lexeme
fault_at kind place = record { what = Err kind; start = place; bytes = [] }

-- l is the next of a text that goes on from a place, whatever stands behind it; contracts say this of faults alone
abbrev pub IsFaultNext : ℕ → List ℕ → Lexeme → Type 0
IsFaultNext place text l = (rest : List ℕ) × IsNextLexeme place text l rest

-- a token is the first of those to come, before those to come then; the end is the last of them, and so is a fault, at its
-- line and column
abbrev pub IsNextToken : LexerState → LexerState → Result Token LexFault → Type 0
IsNextToken before now (Ok t) = EndOrMore (Ok t.kind) (AreLexemesAhead before (lexeme_of t ∷ [])) ((ls : List Lexeme) → AreLexemesAhead now ls → AreLexemesAhead before (lexeme_of t ∷ ls))
IsNextToken before now (Err f) = (place : ℕ) × AreLexemesAhead before (fault_at f.kind place ∷ []) × ((f.line, f.column) ≡ place_of (take place before.text))

-- a token's span in the text, behind what was read before, and its slice
pub record IsSlice (text : List ℕ) (at : ℕ) (t : Token) : Type 0 where
  pub order : at ≤ t.start
  pub span : t.start ≤ t.end
  pub within : t.end ≤ length text
  pub slice : t.text.now ≡ take (t.end - t.start) (drop t.start text)
