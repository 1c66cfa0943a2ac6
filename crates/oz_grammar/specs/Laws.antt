-- Laws: reading by the points tells whether symbols are a program, or their first fault, and they have one of both.
use Rattle.std.specs.Prelude.{◌≡◌, ◌↔◌, ◌⊎◌, ℕ, List, map, true, Some, None}
use Rattle.std.specs.Str.{IsUtf8}
use Rattle.tree_node.specs.Each.{Each}
use Rattle.kernel_syntax.specs.declared.stmt.Stmt.{Stmt}
use Rattle.kernel_syntax.specs.Program.{IsProgram}
use Rattle.oz_lexer.specs.Tokens.{Lexeme, Tokens}
use Rattle.oz_grammar.specs.declared.symbol.Symbol.{Symbol}
use Rattle.oz_grammar.specs.declared.fault.Fault.{Fault}
use Rattle.oz_grammar.specs.declared.fault.TextFault.{TextFault}
use Rattle.oz_grammar.specs.Symbols.{symbol_of, ends_once, IsSpelled}
use Rattle.oz_grammar.specs.Points.{run, start}
use Rattle.oz_grammar.specs.Canonical.{canonical_symbols}
use Rattle.oz_grammar.specs.Reads.{ReadsSymbols, Reads, FaultOfSymbols, IsPlace, FaultOf}

-- ---- of symbols

-- symbols are a program exactly where reading by the points finds no fault
abbrev pub ReadsPrograms : Type 0
ReadsPrograms = (symbols : List Symbol) → ends_once symbols ≡ true → (run symbols start ≡ None) ↔ ((p : List Stmt) × ReadsSymbols symbols p)

-- .. and the fault that it finds is the first one of the symbols
abbrev pub ReadsFaults : Type 0
ReadsFaults = (symbols : List Symbol) (f : Fault) → ends_once symbols ≡ true → (run symbols start ≡ Some f) ↔ FaultOfSymbols symbols f

-- symbols are a program, or they have a fault
abbrev pub SymbolsHaveOne : Type 0
SymbolsHaveOne = (symbols : List Symbol) → ends_once symbols ≡ true → ((p : List Stmt) × ReadsSymbols symbols p) ⊎ ((f : Fault) × FaultOfSymbols symbols f)

-- .. never both
abbrev pub NeverBoth : Type 0
NeverBoth = (symbols : List Symbol) (p : List Stmt) (f : Fault) → ReadsSymbols symbols p → FaultOfSymbols symbols f → ⊥

-- .. one program
abbrev pub OneProgram : Type 0
OneProgram = (symbols : List Symbol) (p q : List Stmt) → ReadsSymbols symbols p → ReadsSymbols symbols q → p ≡ q

-- .. and one fault
abbrev pub OneFault : Type 0
OneFault = (symbols : List Symbol) (f g : Fault) → FaultOfSymbols symbols f → FaultOfSymbols symbols g → f ≡ g

-- what is read of symbols that are spelled is a program
abbrev pub ReadsArePrograms : Type 0
ReadsArePrograms = (symbols : List Symbol) (p : List Stmt) → Each IsSpelled symbols → ReadsSymbols symbols p → IsProgram p

-- the canonical symbols of a program that symbols are, are that program
abbrev pub CanonicalReads : Type 0
CanonicalReads = (symbols : List Symbol) (p : List Stmt) → ReadsSymbols symbols p → ReadsSymbols (canonical_symbols p) p

-- every program is what its canonical symbols are
abbrev pub ProgramsRead : Type 0
ProgramsRead = (p : List Stmt) → IsProgram p → ReadsSymbols (canonical_symbols p) p

-- ---- of texts

-- reading these tokens by the points faults here
pub record FaultRead (text : List ℕ) (tokens : List Lexeme) (f : TextFault) : Type 0 where
  pub fault : Fault
  pub read : run (map symbol_of tokens) start ≡ Some fault
  pub is_kind : f.kind ≡ fault.kind
  pub place : IsPlace text tokens fault.left f.line f.column

-- a text is a program exactly where reading its tokens by the points finds no fault
abbrev pub ReadsTexts : Type 0
ReadsTexts = (text : List ℕ) (tokens : List Lexeme) → Tokens text tokens → (run (map symbol_of tokens) start ≡ None) ↔ ((p : List Stmt) × Reads text p)

-- where reading them faults, it is at the text's first fault
abbrev pub FaultsTexts : Type 0
FaultsTexts = (text : List ℕ) (tokens : List Lexeme) (f : TextFault) → Tokens text tokens → FaultRead text tokens f ↔ FaultOf text f

-- Of a language of texts, which tells which program a text is and which fault it has: each text is one program or has one
-- fault, never both.
pub record AreOneOfBoth {Program : Type 0} (is : List ℕ → Program → Type 0) (has : List ℕ → TextFault → Type 0) : Type 0 where
  pub one : (text : List ℕ) → ((p : Program) × is text p) ⊎ ((f : TextFault) × has text f)
  pub never_both : (text : List ℕ) (p : Program) (f : TextFault) → is text p → has text f → ⊥
  pub program : (text : List ℕ) (p q : Program) → is text p → is text q → p ≡ q
  pub fault : (text : List ℕ) (f g : TextFault) → has text f → has text g → f ≡ g

-- what a text in UTF-8 is read as is a program
abbrev pub TextsArePrograms : Type 0
TextsArePrograms = (text : List ℕ) (p : List Stmt) → IsUtf8 text → Reads text p → IsProgram p
