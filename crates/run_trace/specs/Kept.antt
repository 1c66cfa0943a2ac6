-- What is kept of a run beside the machine.
use Rattle.std.specs.Prelude.{◌≡◌, List, [], ◌∷◌, Option, Some, None, false}
use Rattle.std.specs.Map.{lookup}
use Rattle.tree_node.specs.declared.names.ThreadName.{ThreadName}
use Rattle.tree_node.specs.declared.names.VarName.{VarName}
use Rattle.tree_node.specs.declared.names.Name.{Name}
use Rattle.tree_node.specs.declared.names.Name.TheVariants as name
use Rattle.tree_node.specs.Env.{Env, var_at}
use Rattle.tree_node.specs.State.{equal_thread}
use Rattle.kernel_syntax.specs.declared.stmt.Stmt.{Stmt}
use Rattle.kernel_syntax.specs.declared.stmt.Stmt.TheVariants as stmt
use Rattle.kernel_syntax.specs.Free.{stmt_at}
use Rattle.central_machine.specs.declared.getters.Top.{Top}
use Rattle.central_machine.specs.declared.getters.Top.TheVariants as top
use Rattle.central_machine.specs.Centre.{Centre}
use Rattle.run_trace.specs.declared.findings.Begun.{Begun}
use Rattle.run_trace.specs.declared.findings.Raise.{Raise}
use Rattle.run_trace.specs.Begun.{begun, last_begun}
use Rattle.run_trace.specs.declared.findings.Birth.{Birth}
use Rattle.run_trace.specs.Births.{births}
use Rattle.run_trace.specs.Raised.{raises}

-- what is kept of a thread
abbrev pub entry_of : List (ThreadName × Begun) → ThreadName → Option Begun
entry_of es n = lookup (equal_thread n) es

-- of each thread the one that it began last
abbrev pub AreLast : List (ThreadName × Begun) → List Begun → Type 0
AreLast es bs = (n : ThreadName) → entry_of es n ≡ last_begun bs n

-- the machine goes on, and what is kept is that of its picks
pub record IsTraced (c : Centre) (es : List (ThreadName × Begun)) (rs : List Raise) (made : List Birth) : Type 0 where
  pub goes_on : c.spent ≡ false
  pub last : AreLast es (begun c.program c.picks)
  pub raises : rs ≡ raises c.program c.picks
  pub births : made ≡ births c.program c.picks

-- ---- what a pick tells before its step

-- the second of two names, where it is a variable
abbrev pub second_name : List Name → Option VarName
second_name (x ∷ name.Var v ∷ []) = Some v
second_name _ = None

-- the thread that a name is
abbrev pub thread_in : Name → Option ThreadName
thread_in (name.Thread n) = Some n
thread_in _ = None

-- the only one of these names, where it is a thread
abbrev pub thread_name : List Name → Option ThreadName
thread_name [] = None
thread_name (x ∷ []) = thread_in x
thread_name (x ∷ y ∷ names) = None

-- what the step of a statement raises: `raise` its variable, `local` nothing, and others the second of two fresh ones
abbrev pub raised_by_row : List Name → Env → Stmt → Option VarName
raised_by_row fresh env (stmt.Raise x) = Some (var_at env x)
raised_by_row fresh env (stmt.Local first count body) = None
raised_by_row fresh env _ = second_name fresh

-- what the step of a thread raises with this on top, and so of a goal block the second of two fresh ones
abbrev pub raised_at : List Stmt → List Name → Env → Option Top → Option VarName
raised_at p fresh env (Some (top.Code code)) = raised_by_row fresh env (stmt_at p code)
raised_at p fresh env (Some top.Goals) = second_name fresh
raised_at p fresh env _ = None
