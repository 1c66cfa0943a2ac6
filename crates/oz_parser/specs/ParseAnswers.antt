-- What parsing a text answers.
use Rattle.std.specs.Prelude.{◌≡◌, ℕ, ◌-◌, ◌<◌, ◌≤◌, List, length, take, map, slice_index, Result, Ok, Err}
use Rattle.kernel_syntax.specs.SugarView.{statements_in}
use Rattle.kernel_syntax.specs.Surfaces.{SurfaceParts}
use Rattle.oz_lexer.specs.Tokens.{Lexeme, Tokens}
use Rattle.oz_lexer.specs.Place.{place_of}
use Rattle.oz_grammar.specs.declared.symbol.Symbol.{Symbol}
use Rattle.oz_grammar.specs.declared.fault.Fault.{Fault}
use Rattle.oz_grammar.specs.declared.fault.TextFault.{TextFault}
use Rattle.oz_phrases.specs.declared.stop.Stop.{Stop}
use Rattle.oz_phrases.specs.declared.stop.Stop.TheVariants as stops
use Rattle.oz_symbols.specs.TextSymbols.{start_of}
use Rattle.surface_grammar.specs.Texts as surface
use Rattle.oz_parser.specs.declared.error.ParseError.{ParseError}
use Rattle.oz_parser.specs.declared.error.ParseError.TheVariants as errors

-- the error is the text's first fault, as the language of texts tells it, unless memory ran out
abbrev pub IsErrorOf : (List ℕ → TextFault → Type 0) → List ℕ → ParseError → Type 0
IsErrorOf has text errors.Memory = Unit {0}
IsErrorOf has text (errors.Text f) = has text f

-- the answer is what the text is or its first fault, unless memory ran out
abbrev pub IsParse : {X : Type 0} → (List ℕ → X → Type 0) → (List ℕ → TextFault → Type 0) → List ℕ → Result X ParseError → Type 0
IsParse is has text (Ok p) = is text p
IsParse is has text (Err e) = IsErrorOf has text e

-- what is answered is so, unless memory ran out
abbrev pub IsAnswer : {X : Type 0} → Result X ParseError → (X → Type 0) → Type 0
IsAnswer (Ok x) IsSo = IsSo x
IsAnswer (Err errors.Memory) IsSo = Unit {0}
IsAnswer (Err (errors.Text f)) IsSo = ⊥

-- the answer is this fault, unless memory ran out
abbrev pub IsFaultAnswer : {X : Type 0} → Result X ParseError → TextFault → Type 0
IsFaultAnswer (Ok q) f = ⊥
IsFaultAnswer (Err errors.Memory) f = Unit {0}
IsFaultAnswer (Err (errors.Text g)) f = g ≡ f

-- what holds of the fault, where one is answered
abbrev pub IfFault : {X : Type 0} → Result X ParseError → (TextFault → Type 0) → Type 0
IfFault (Ok q) IsSo = Unit {0}
IfFault (Err errors.Memory) IsSo = Unit {0}
IfFault (Err (errors.Text f)) IsSo = IsSo f

-- ---- symbols

-- the fault is the first one of the symbols, as their language tells it; want of memory says nothing of it
abbrev pub IsFaultIn : (List Symbol → Fault → Type 0) → List Symbol → Stop → Type 0
IsFaultIn have symbols stops.Memory = Unit {0}
IsFaultIn have symbols (stops.Fault f) = have symbols f

-- what was read is what the symbols are, or their first fault is told
abbrev pub IsRead : {X : Type 0} → (List Symbol → X → Type 0) → (List Symbol → Fault → Type 0) → List Symbol → Result X Stop → Type 0
IsRead are have symbols (Ok x) = are symbols x
IsRead are have symbols (Err stop) = IsFaultIn have symbols stop

-- ---- programs with sugar

-- these are the statements of the text, the text, and the places where its tokens begin
pub record IsSurface (text : List ℕ) (s : SurfaceParts) : Type 0 where
  pub reads : surface.Reads text (statements_in s.tree)
  pub same_text : s.text ≡ text
  pub starts : (tokens : List Lexeme) → Tokens text tokens → s.starts ≡ map start_of tokens

-- ---- places of faults

-- the fault stands at one of so many symbols, if it is one
abbrev pub Stands : Stop → ℕ → Type 0
Stands stops.Memory n = Unit {0}
Stands (stops.Fault f) n = (0 < f.left) × (f.left ≤ n)

-- the same fault, at the line and the column where the symbol begins at which so many are left
pub record IsFaultAt (text starts : List ℕ) (g : Fault) (f : TextFault) : Type 0 where
  pub kind : f.kind ≡ g.kind
  pub place : (f.line, f.column) ≡ place_of (take (slice_index starts (length starts - g.left)) text)

-- the error is that fault, or memory ran out
abbrev pub IsErrorAt : List ℕ → List ℕ → Stop → ParseError → Type 0
IsErrorAt text starts stops.Memory e = e ≡ errors.Memory
IsErrorAt text starts (stops.Fault g) errors.Memory = ⊥
IsErrorAt text starts (stops.Fault g) (errors.Text f) = IsFaultAt text starts g f
