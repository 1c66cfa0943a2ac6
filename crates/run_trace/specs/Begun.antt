-- The statements that the threads of a run began.
use Rattle.std.specs.Prelude.{List, [], ◌∷◌, ◌++◌, Option, Some, None, option_to_list, if◌then◌else◌}
use Rattle.tree_node.specs.declared.names.ThreadName.{ThreadName}
use Rattle.tree_node.specs.declared.item.Item.TheVariants.{Run}
use Rattle.tree_node.specs.declared.pick.Pick.{Pick}
use Rattle.tree_node.specs.State.{Stack, State, equal_thread}
use Rattle.kernel_syntax.specs.declared.stmt.Stmt.{Stmt}
use Rattle.oz_model.specs.Run.{start}
use Rattle.oz_model.specs.Step.{stack_of, next}
use Rattle.run_trace.specs.declared.findings.Begun.{Begun}

-- the statement on top of a thread's stack, which its next step begins
abbrev pub begun_on : ThreadName → Stack → Option Begun
begun_on n (Run code env ∷ rest) = Some (record { thread = n; code = code; env = env })
begun_on n _ = None

-- those begun before, and the one that the next step of this thread begins, the latest first
abbrev pub begun_with : State → ThreadName → List Begun → List Begun
begun_with s n before = option_to_list (begun_on n (stack_of s n)) ++ before

-- those begun before a state and in the steps from it on, the latest first
abbrev pub begun_from : List Stmt → State → List Pick → List Begun → List Begun
begun_from p s [] before = before
begun_from p s (k ∷ ks) before = begun_from p (next p s k) ks (begun_with s k.thread before)

-- those begun in a run
abbrev pub begun : List Stmt → List Pick → List Begun
begun p ks = begun_from p (start p) ks []

-- the one that a thread began last
abbrev pub last_begun : List Begun → ThreadName → Option Begun
last_begun [] n = None
last_begun (b ∷ bs) n = if equal_thread b.thread n then Some b else last_begun bs n
