-- The threads that wait in a state at rest, where, and for what.
use Rattle.std.specs.Prelude.{◌≡◌, ◌≢◌, List, map, Some}
use Rattle.tree_node.specs.declared.pick.Pick.{Pick}
use Rattle.tree_node.specs.Each.{Each}
use Rattle.tree_node.specs.State.{State}
use Rattle.kernel_syntax.specs.declared.stmt.Stmt.{Stmt}
use Rattle.oz_model.specs.Step.{need_of}
use Rattle.central_machine.specs.declared.turns.Awaited.TheVariants as awaited
use Rattle.central_machine.specs.Getters.{IsAwaitedBy, names_of}
use Rattle.run_trace.specs.declared.findings.Waiting.{Waiting}
use Rattle.run_trace.specs.Begun.{begun, begun_with, last_begun}

-- the thread goes on with this statement, on top of its stack or begun last, once what it needs is there: a variable of this class, which
-- has no node, or one of those that are open in its test
pub record IsWaitingAt (p : List Stmt) (ks : List Pick) (s : State) (w : Waiting) : Type 0 where
  pub statement : last_begun (begun_with s w.begun.thread (begun p ks)) w.begun.thread ≡ Some w.begun
  pub needs : IsAwaitedBy s.equations (need_of p s w.begun.thread) w.awaited
  pub waits : w.awaited ≢ awaited.None

-- they are the living threads, in the order in which they were made, and each of them waits so
pub record AreWaiting (p : List Stmt) (ks : List Pick) (s : State) (ws : List Waiting) : Type 0 where
  pub threads : map (λ (w : Waiting). w.begun.thread) ws ≡ names_of s.threads
  pub each : Each (IsWaitingAt p ks s) ws
