-- Worked examples of the exceptions of runs.
use Rattle.std.specs.Prelude.{◌≡◌, List, [], ◌∷◌, None, true, false}
use Rattle.tree_node.specs.declared.pick.Pick.{Pick}
use Rattle.tree_node.specs.Rows.{v}
use Rattle.kernel_syntax.specs.declared.stmt.Stmt.{Stmt}
use Rattle.kernel_syntax.specs.declared.stmt.Stmt.TheVariants.{Skip, Local, Try, Raise as Raises}
use Rattle.oz_model.specs.Run.{first_thread}
use Rattle.oz_model.specs.Rows.{code, pick, plain, new, prints_integer, integer_picks, tells_twice, failure_picks}
use Rattle.run_trace.specs.declared.findings.Raise.{Raise}
use Rattle.run_trace.specs.Raised.{raises, uncaught}

-- no step of a program that prints an integer raises an exception
abbrev pub IntegerRaisesNothing : Type 0
IntegerRaisesNothing = raises prints_integer integer_picks ≡ []

-- the exception of the second tell, which is row 3: the eighth step raises the second of its fresh variables
abbrev pub second_tell : Raise
second_tell = record { before = 7; begun = record { thread = first_thread; code = code 3; env = (0, v 0) ∷ [] }; raised = v 2; caught = false }

-- it is the only one, and nothing catches it
abbrev pub FailureIsTold : Type 0
FailureIsTold = raises tells_twice failure_picks ≡ second_tell ∷ []

-- local X in try raise X end catch Y then skip end end
abbrev pub catches : List Stmt
catches = Local 0 1 (code 1) ∷ Try (code 2) 1 (code 3) ∷ Raises 0 ∷ Skip ∷ []

-- the declaration, the try, the raise and the handler
abbrev pub catching_picks : List Pick
catching_picks = pick (new 0 ∷ []) None ∷ plain ∷ plain ∷ plain ∷ []

-- the raise, which is row 2
abbrev pub caught_raise : Raise
caught_raise = record { before = 2; begun = record { thread = first_thread; code = code 2; env = (0, v 0) ∷ [] }; raised = v 0; caught = true }

-- it is the only one, and caught
pub record CaughtIsTold : Type 0 where
  pub one : raises catches catching_picks ≡ caught_raise ∷ []
  pub none : uncaught (raises catches catching_picks) ≡ []
