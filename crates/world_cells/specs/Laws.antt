-- How units and messages that are no requests and no answers keep a world matched with the centralised machine, mobile cells among it.
use Rattle.std.specs.Prelude.{◌≢◌, ℕ, List, ◌++◌, Some}
use Rattle.tree_node.specs.declared.names.ThreadName.{ThreadName}
use Rattle.tree_node.specs.declared.pick.Pick.{Pick}
use Rattle.kernel_syntax.specs.declared.stmt.Stmt.{Stmt}
use Rattle.site_message.specs.declared.message.Msg.{Msg}
use Rattle.site_model.specs.Messages.{reception}
use Rattle.site_model.specs.Transition.{Transition}
use Rattle.site_model.specs.Unit.{IsUnit}
use Rattle.world_model.specs.World.{World, IsOnItsWay, after_transition, after_receipt}
use Rattle.world_variables.specs.Laws.{IsForeignBinding}
use Rattle.world_cells.specs.Reached.{Reached, ReachedFrom}
use Rattle.world_cells.specs.Standing.{IsStanding, IsKeptUnit}

-- a unit of a thread of site i that is on no port and on no stationary cell
abbrev pub UnitsAreReached : Type 0
UnitsAreReached =
    (p : List Stmt) (n limit i : ℕ) (w : World) (ks : List Pick) (th : ThreadName) (d : Transition) → i ≢ 0 → (r : Reached p w ks) → IsUnit p n limit th (w.sites i) d → (IsKeptUnit p (w.sites i) th → ⊥) →
    ReachedFrom p r.centre (after_transition w i d) (ks ++ d.picks)

-- a message that is no request and no answer comes to site i
abbrev pub MessagesAreReached : Type 0
MessagesAreReached =
    (p : List Stmt) (limit : ℕ) (w : World) (ks : List Pick) (k i : ℕ) (m : Msg) → i ≢ 0 → (r : Reached p w ks) → IsStanding m → IsForeignBinding i m → IsOnItsWay w.mail k i m →
    ReachedFrom p r.centre (after_receipt (Some k) (after_transition w i (reception p limit m (w.sites i)))) (ks ++ (reception p limit m (w.sites i)).picks)
