-- Which program with sugar a text is, and which fault it has.
use Rattle.std.specs.Prelude.{List, ℕ}
use Rattle.std.specs.Str.{IsUtf8}
use Rattle.kernel_syntax.specs.Sugar.{Statements}
use Rattle.kernel_syntax.specs.SugarLimits.{FitsStatements}
use Rattle.oz_grammar.specs.declared.fault.TextFault.{TextFault}
use Rattle.oz_grammar.specs.Reads.{ReadsIn, FaultIn}
use Rattle.surface_grammar.specs.Laws.{ReadsSymbols, FaultOfSymbols}

-- the text is a program with sugar, of these statements
abbrev pub Reads : List ℕ → Statements → Type 0
Reads text s = ReadsIn ReadsSymbols text s

-- the text has this fault first
abbrev pub FaultOf : List ℕ → TextFault → Type 0
FaultOf text f = FaultIn FaultOfSymbols text f

-- what a text in UTF-8 is read as is within the limits
abbrev pub TextsFit : Type 0
TextsFit = (text : List ℕ) (s : Statements) → IsUtf8 text → Reads text s → FitsStatements s 0
