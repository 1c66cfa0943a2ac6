-- What a tree that fits stands for is a program where it is not too deep.
use Rattle.std.proofs.Common.{◌≡◌, List, None, sym, subst}
use Rattle.kernel_syntax.specs.declared.stmt.Stmt.{Stmt}
use Rattle.kernel_syntax.specs.Program.{IsProgram}
use Rattle.kernel_syntax.specs.Sugar.{Statements}
use Rattle.kernel_syntax.specs.SugarLimits.{FitsStatements}
use Rattle.sugar_rows.specs.Put.{Expand}
use Rattle.oz_sugar.specs.Deep.{deep}
use Rattle.oz_sugar.proofs.PutFits.{expansions_are_programs}

pub expansions_fit : (q : Statements) (p : List Stmt) → FitsStatements q 0 → deep q ≡ None → Expand q p → IsProgram p
expansions_fit q p f e x = subst IsProgram (sym x) (expansions_are_programs q f e)
