-- Laws of tokens.
use Rattle.std.specs.Prelude.{◌≡◌, ℕ, List}
use Rattle.oz_lexer.specs.Tokens.{Lexeme, Tokens}

-- every text has tokens up to its end or its first lexical fault
abbrev pub TextsDivide : Type 0
TextsDivide = (text : List ℕ) → (ls : List Lexeme) × Tokens text ls

-- and no others
abbrev pub TextsDivideOnce : Type 0
TextsDivideOnce = (text : List ℕ) (a b : List Lexeme) → Tokens text a → Tokens text b → a ≡ b
