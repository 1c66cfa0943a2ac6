-- Which program a text is, and which fault it has.
use Rattle.std.specs.Prelude.{◌≡◌, ℕ, List, ◌∷◌, ◌++◌, length, map, take, None}
use Rattle.kernel_syntax.specs.declared.stmt.Stmt.{Stmt}
use Rattle.oz_lexer.specs.Tokens.{Lexeme, Tokens}
use Rattle.oz_lexer.specs.Place.{place_of}
use Rattle.oz_grammar.specs.declared.symbol.Symbol.{Symbol}
use Rattle.oz_grammar.specs.declared.fault.Fault.{Fault}
use Rattle.oz_grammar.specs.declared.fault.FaultKind.{FaultKind}
use Rattle.oz_grammar.specs.declared.fault.TextFault.{TextFault}
use Rattle.oz_grammar.specs.Symbols.{symbol_of}
use Rattle.oz_grammar.specs.Grammar.{Sequence, program_text}
use Rattle.oz_grammar.specs.Scoping.{IsDerivation}
use Rattle.oz_grammar.specs.Check.{check}
use Rattle.oz_grammar.specs.Faults.{is_colon}
use Rattle.oz_grammar.specs.Automata.{Grammar, IsFirstFault}
use Rattle.oz_grammar.specs.Points.{Point, points_automaton, start}
use Rattle.oz_grammar.specs.Table.{program_table}

-- ---- programs

-- the symbols are a program with this table: they derive it, and nothing is wrong in the derivation
pub record ReadsSymbols (symbols : List Symbol) (p : List Stmt) : Type 0 where
  pub program : Sequence
  pub derives : IsDerivation program
  pub derived : symbols ≡ program_text program
  pub passes : check program ≡ None
  pub table : p ≡ program_table program

-- the text's tokens are symbols that are this program, in the language that tells which program symbols are
pub record ReadsIn {Program : Type 0} (are : List Symbol → Program → Type 0) (text : List ℕ) (p : Program) : Type 0 where
  pub tokens : List Lexeme
  pub divided : Tokens text tokens
  pub reads : are (map symbol_of tokens) p

-- the text is a program with this table
abbrev pub Reads : List ℕ → List Stmt → Type 0
Reads text p = ReadsIn ReadsSymbols text p

-- ---- faults

-- the grammar of the kernel language: derivations, their symbols and faults, and the automaton that reads them
abbrev pub kernel : Grammar Symbol FaultKind Fault Sequence IsDerivation (List Point)
kernel = record { text = program_text; check = check; automaton = points_automaton; start = start; is_colon = is_colon }

-- this is the first fault of the symbols
abbrev pub FaultOfSymbols : List Symbol → Fault → Type 0
FaultOfSymbols symbols f = IsFirstFault kernel symbols f

-- the line and the column of the token at which so many are left
pub record IsPlace (text : List ℕ) (tokens : List Lexeme) (left line column : ℕ) : Type 0 where
  pub before : List Lexeme
  pub token : Lexeme
  pub behind : List Lexeme
  pub divided : tokens ≡ before ++ token ∷ behind
  pub place : left ≡ length (token ∷ behind)
  pub is : (line, column) ≡ place_of (take token.start text)

-- the text's tokens are symbols that have this fault, at its line and column, in the language that tells which fault they have
pub record FaultIn (have : List Symbol → Fault → Type 0) (text : List ℕ) (f : TextFault) : Type 0 where
  pub tokens : List Lexeme
  pub divided : Tokens text tokens
  pub fault : Fault
  pub applies : have (map symbol_of tokens) fault
  pub is_kind : f.kind ≡ fault.kind
  pub place : IsPlace text tokens fault.left f.line f.column

-- the text has this fault first
abbrev pub FaultOf : List ℕ → TextFault → Type 0
FaultOf text f = FaultIn FaultOfSymbols text f
