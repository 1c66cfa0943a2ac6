-- Programs of the kernel stand for themselves.
use Rattle.std.specs.Prelude.{◌≡◌, List, None}
use Rattle.kernel_syntax.specs.declared.stmt.Stmt.{Stmt}
use Rattle.kernel_syntax.specs.Sugar.{Statements}
use Rattle.oz_grammar.specs.declared.symbol.Symbol.{Symbol}
use Rattle.oz_grammar.specs.Reads as kernel
use Rattle.surface_grammar.specs.Laws as surface
use Rattle.sugar_rows.specs.Put.{Expand}
use Rattle.oz_sugar.specs.Deep.{deep}

-- symbols that are a program of the kernel are one with sugar, which stands for that program and is not too deep
abbrev pub KernelExpands : Type 0
KernelExpands = (symbols : List Symbol) (p : List Stmt) → kernel.ReadsSymbols symbols p → (s : Statements) × surface.ReadsSymbols symbols s × (deep s ≡ None) × Expand s p
