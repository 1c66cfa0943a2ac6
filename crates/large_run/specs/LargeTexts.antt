-- The texts of large runs are programs.
use Rattle.std.specs.Prelude.{ℕ, ◌≤◌, List}
use Rattle.kernel_syntax.specs.declared.stmt.Stmt.{Stmt}
use Rattle.large_run.specs.Text.{large_text}
use Rattle.oz_grammar.specs.declared.fault.TextFault.{TextFault}
use Rattle.oz_sugar.specs.Texts.{Reads, FaultOf}

-- the text of each size up to 1,000 reads as a program
abbrev pub LargeTextsAreRead : Type 0
LargeTextsAreRead = (size : ℕ) → size ≤ 1000 → (p : List Stmt) × Reads (large_text size) p

-- .. and has no fault
abbrev pub LargeTextsHaveNoFault : Type 0
LargeTextsHaveNoFault = (size : ℕ) → size ≤ 1000 → (f : TextFault) → FaultOf (large_text size) f → ⊥
