-- The symbols of a text with the places where their tokens begin.
use Rattle.std.specs.Prelude.{◌≡◌, ℕ, ◌+◌, ◌≤◌, ◌<◌, List, ◌++◌, map, drop, length, Bool, true, false}
use Rattle.tree_node.specs.Each.{Each}
use Rattle.oz_lexer.specs.declared.token.TokenKind.{TokenKind}
use Rattle.oz_lexer.specs.declared.token.TokenKind.TheVariants.{End}
use Rattle.oz_lexer.specs.Tokens.{Lexeme, Tokens, TokensFrom}
use Rattle.oz_grammar.specs.declared.symbol.Symbol.{Symbol}
use Rattle.oz_grammar.specs.Symbols.{symbol_of}

-- the place where a token begins
abbrev pub start_of : Lexeme → ℕ
start_of l = l.start

-- no token follows this one
abbrev pub is_end : TokenKind → Bool
is_end End = true
is_end kind = false

-- these are the symbols of the text's tokens, and the places of these
pub record AreSymbols (text : List ℕ) (symbols : List Symbol) (starts : List ℕ) : Type 0 where
  pub tokens : List Lexeme
  pub divided : Tokens text tokens
  pub symbols_are : symbols ≡ map symbol_of tokens
  pub starts_are : starts ≡ map start_of tokens
  pub within : Each (λ (s : ℕ). s ≤ length text) starts
  pub few : length symbols ≤ length text + 1

-- the same of those tokens that stand before a place
pub record SoFar (text : List ℕ) (at : ℕ) (symbols : List Symbol) (starts : List ℕ) : Type 0 where
  pub done : List Lexeme
  pub goes_on : (ls : List Lexeme) → TokensFrom at (drop at text) ls → Tokens text (done ++ ls)
  pub symbols_are : symbols ≡ map symbol_of done
  pub starts_are : starts ≡ map start_of done
  pub within : Each (λ (s : ℕ). s ≤ length text) starts
  pub count : length symbols ≤ at
  pub place : at ≤ length text

-- the place behind one token more
pub record IsFurther (text : List ℕ) (at : ℕ) (symbols : List Symbol) (starts : List ℕ) (next : ℕ) : Type 0 where
  pub so_far : SoFar text next symbols starts
  pub moves : at < next
