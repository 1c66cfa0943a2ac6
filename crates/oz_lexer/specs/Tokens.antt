-- The tokens of a text, the longest one each time, up to its end or its first lexical fault.
use Rattle.std.specs.Prelude.{◌≡◌, ℕ, ◌+◌, ◌-◌, List, [], ◌∷◌, length, false, Result, Ok, Err}
use Rattle.oz_lexer.specs.declared.token.TokenKind.{TokenKind}
use Rattle.oz_lexer.specs.declared.token.TokenKind.TheVariants.{End}
use Rattle.oz_lexer.specs.declared.token.LexKind.{LexKind}
use Rattle.oz_lexer.specs.Spelling.{is_long}
use Rattle.oz_lexer.specs.Blanks.{IsBehindBlanks}
use Rattle.oz_lexer.specs.Faults.{IsLongestToken, FaultAt}

-- a token, the end of the text, or the fault that stands in its place: where it is, and its bytes, none at the end and at a fault
pub record Lexeme : Type 0 where
  pub what : Result TokenKind LexKind
  pub start : ℕ
  pub bytes : List ℕ

-- what begins at this place, before rest
abbrev pub IsLexemeAt : ℕ → List ℕ → Result TokenKind LexKind → ℕ → List ℕ → List ℕ → Type 0
IsLexemeAt place text (Ok End) start bytes rest = (text ≡ []) × (start ≡ place) × (bytes ≡ []) × (rest ≡ [])
IsLexemeAt place text (Ok kind) start bytes rest = IsLongestToken text kind bytes rest × (is_long kind bytes ≡ false) × (start ≡ place)
IsLexemeAt place text (Err fault) start bytes rest = (before : ℕ) × FaultAt text fault before × (start ≡ place + before) × (bytes ≡ []) × (rest ≡ text)

-- the next of a text that goes on from a place, behind blanks and comments, and what stands behind it
pub record IsNextLexeme (place : ℕ) (text : List ℕ) (l : Lexeme) (rest : List ℕ) : Type 0 where
  pub front : List ℕ
  pub blanks : IsBehindBlanks text front
  pub begins : IsLexemeAt (place + (length text - length front)) front l.what l.start l.bytes rest

-- the last of a text, or one behind which others follow
abbrev pub EndOrMore : Result TokenKind LexKind → Type 0 → Type 0 → Type 0
EndOrMore (Ok End) last on = last
EndOrMore (Ok kind) last on = on
EndOrMore (Err fault) last on = last

-- the tokens of a text that goes on from a place
abbrev pub TokensFrom : ℕ → List ℕ → List Lexeme → Type 0
TokensFrom place text [] = ⊥
TokensFrom place text (l ∷ ls) = (rest : List ℕ) × IsNextLexeme place text l rest × EndOrMore l.what (ls ≡ []) (TokensFrom (l.start + length l.bytes) rest ls)

-- the tokens of a text: the last, and no other, is its end or its first lexical fault
abbrev pub Tokens : List ℕ → List Lexeme → Type 0
Tokens text ls = TokensFrom 0 text ls
