-- Programs of the kernel stand for themselves.
use Rattle.std.specs.Prelude.{List}
use Rattle.kernel_syntax.specs.declared.stmt.Stmt.{Stmt}
use Rattle.kernel_syntax.specs.Sugar.{Statements}
use Rattle.oz_grammar.specs.declared.symbol.Symbol.{Symbol}
use Rattle.oz_grammar.specs.Reads as kernel
use Rattle.surface_grammar.specs.Laws as surface
use Rattle.sugar_rows.specs.Put.{Expand}

-- symbols that are a program of the kernel are one with sugar, which stands for that program
abbrev pub KernelStands : Type 0
KernelStands = (symbols : List Symbol) (p : List Stmt) → kernel.ReadsSymbols symbols p → (s : Statements) × surface.ReadsSymbols symbols s × Expand s p
