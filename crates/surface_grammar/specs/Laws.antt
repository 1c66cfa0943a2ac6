-- Which program symbols with sugar are, and which fault they have; and that it is one of both.
use Rattle.std.specs.Prelude.{◌≡◌, ◌⊎◌, List, true, Some, None, Ok, Err}
use Rattle.tree_node.specs.Each.{Each}
use Rattle.kernel_syntax.specs.declared.stmt.Stmt.{Stmt}
use Rattle.kernel_syntax.specs.Sugar.{Statements}
use Rattle.kernel_syntax.specs.SugarLimits.{FitsStatements}
use Rattle.oz_grammar.specs.declared.symbol.Symbol.{Symbol}
use Rattle.oz_grammar.specs.declared.fault.Fault.{Fault}
use Rattle.oz_grammar.specs.Symbols.{ends_once, IsSpelled}
use Rattle.oz_grammar.specs.Automata.{IsFirstFault}
use Rattle.oz_grammar.specs.Reads as kernel
use Rattle.surface_grammar.specs.Derivations.{Sequence, IsDerivation, program_text}
use Rattle.surface_grammar.specs.Points.{run, start}
use Rattle.surface_grammar.specs.Check.{check}
use Rattle.surface_grammar.specs.Trees.{program_of}
use Rattle.surface_grammar.specs.Reading.{program_at}
use Rattle.surface_grammar.specs.Faults.{surface}

-- the symbols are a program with this tree: they derive it, and nothing is wrong in the derivation
pub record ReadsSymbols (symbols : List Symbol) (s : Statements) : Type 0 where
  pub program : Sequence
  pub derives : IsDerivation program
  pub derived : symbols ≡ program_text program
  pub passes : check program ≡ None
  pub tree : s ≡ program_of program

-- this is the first fault of the symbols
abbrev pub FaultOfSymbols : List Symbol → Fault → Type 0
FaultOfSymbols symbols f = IsFirstFault surface symbols f

-- symbols are a program, or they have a fault
abbrev pub SymbolsHaveOne : Type 0
SymbolsHaveOne = (symbols : List Symbol) → ends_once symbols ≡ true → ((s : Statements) × ReadsSymbols symbols s) ⊎ ((f : Fault) × FaultOfSymbols symbols f)

-- .. never both
abbrev pub NeverBoth : Type 0
NeverBoth = (symbols : List Symbol) (s : Statements) (f : Fault) → ReadsSymbols symbols s → FaultOfSymbols symbols f → ⊥

-- .. and one fault
abbrev pub OneFault : Type 0
OneFault = (symbols : List Symbol) (f g : Fault) → FaultOfSymbols symbols f → FaultOfSymbols symbols g → f ≡ g

-- it is the one to which reading by the points comes
abbrev pub PointsTellFaults : Type 0
PointsTellFaults = (symbols : List Symbol) (f : Fault) → run symbols start ≡ Some f → FaultOfSymbols symbols f

-- what the points read without a fault is a program
abbrev pub PointsTellPrograms : Type 0
PointsTellPrograms = (symbols : List Symbol) → ends_once symbols ≡ true → run symbols start ≡ None → (s : Statements) × ReadsSymbols symbols s

-- what is read of symbols that are spelled is within the limits
abbrev pub ReadsFit : Type 0
ReadsFit = (symbols : List Symbol) (s : Statements) → Each IsSpelled symbols → ReadsSymbols symbols s → FitsStatements s 0

-- a program of the kernel is one with sugar
abbrev pub KernelReads : Type 0
KernelReads = (symbols : List Symbol) (p : List Stmt) → kernel.ReadsSymbols symbols p → (s : Statements) × ReadsSymbols symbols s

-- reading gives the tree that the symbols are, and no other
abbrev pub ReadsPrograms : Type 0
ReadsPrograms = (symbols : List Symbol) (s : Statements) → ends_once symbols ≡ true → (program_at symbols ≡ Ok s → ReadsSymbols symbols s) × (ReadsSymbols symbols s → program_at symbols ≡ Ok s)

-- .. and their first fault, and no other
abbrev pub ReadsFaults : Type 0
ReadsFaults = (symbols : List Symbol) (f : Fault) → ends_once symbols ≡ true → (program_at symbols ≡ Err f → FaultOfSymbols symbols f) × (FaultOfSymbols symbols f → program_at symbols ≡ Err f)

-- symbols are one tree
abbrev pub OneTree : Type 0
OneTree = (symbols : List Symbol) (s r : Statements) → ReadsSymbols symbols s → ReadsSymbols symbols r → s ≡ r
