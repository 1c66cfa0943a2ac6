-- How units and messages keep a world joined with the centralised machine, where threads may wait for answers.
use Rattle.std.specs.Prelude.{◌≢◌, ℕ, List, ◌++◌, Some}
use Rattle.tree_node.specs.declared.names.ThreadName.{ThreadName}
use Rattle.tree_node.specs.declared.pick.Pick.{Pick}
use Rattle.kernel_syntax.specs.declared.stmt.Stmt.{Stmt}
use Rattle.site_message.specs.declared.message.Msg.{Msg}
use Rattle.site_model.specs.Fit.{CanTake}
use Rattle.site_model.specs.Messages.{reception}
use Rattle.site_model.specs.Transition.{Transition}
use Rattle.site_model.specs.Unit.{IsUnit}
use Rattle.world_model.specs.World.{World, IsOnItsWay, after_transition, after_receipt}
use Rattle.world_variables.specs.Laws.{IsForeignBinding}
use Rattle.world_cells.specs.Standing.{IsStanding}
use Rattle.world_answers.specs.Joined.{Joined}

-- a unit of a thread of site i, whatever it is on
abbrev pub UnitsAreJoined : Type 0
UnitsAreJoined =
    (p : List Stmt) (n limit i : ℕ) (w : World) (ks : List Pick) (th : ThreadName) (d : Transition) → i ≢ 0 → Joined p w ks → IsUnit p n limit th (w.sites i) d → Joined p (after_transition w i d) (ks ++ d.picks)

-- a message that site i can take comes there
abbrev pub MessagesAreJoined : Type 0
MessagesAreJoined =
    (p : List Stmt) (limit i : ℕ) (w : World) (ks : List Pick) (k : ℕ) (m : Msg) → i ≢ 0 → Joined p w ks → IsForeignBinding i m → IsOnItsWay w.mail k i m → CanTake (w.sites i) m →
    Joined p (after_receipt (Some k) (after_transition w i (reception p limit m (w.sites i)))) (ks ++ (reception p limit m (w.sites i)).picks)

-- a request, an answer, and what tells a home can be taken where it comes
abbrev pub LettersAreTaken : Type 0
LettersAreTaken = (p : List Stmt) (w : World) (ks : List Pick) (k i : ℕ) (m : Msg) → i ≢ 0 → Joined p w ks → IsOnItsWay w.mail k i m → (IsStanding m → ⊥) → CanTake (w.sites i) m
