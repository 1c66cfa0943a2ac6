-- A message and then units are a turn.
use Rattle.std.proofs.Common.{refl, subst, ℕ, List, inl, inr, Some, None}
use Rattle.std.specs.Prelude.{Option}
use Rattle.tree_node.specs.declared.names.ThreadName.{ThreadName}
use Rattle.kernel_syntax.specs.declared.stmt.Stmt.{Stmt}
use Rattle.site_message.specs.declared.message.Msg.{Msg}
use Rattle.site_model.specs.Site.{Site}
use Rattle.site_model.specs.Bundle.{bundle_limit}
use Rattle.site_model.specs.Transition.{without_output, sequence}
use Rattle.site_model.specs.Fit.{IsFit}
use Rattle.site_model.specs.Variables.{opening}
use Rattle.site_model.specs.Messages.{message_row, reception}
use Rattle.thread_roster.specs.Order.{HaveComeBehind}
use Rattle.thread_roster.proofs.BehindLemmas.{behind_same}
use Rattle.site_units.specs.declared.data.Core.{Core}
use Rattle.site_units.specs.declared.data.Output.{Output}
use Rattle.site_units.specs.Core.{site_of}
use Rattle.site_units.specs.Invariant.{IsConsistent}
use Rattle.site_units.specs.Units.{IsTransitionMade}
use Rattle.site_units.specs.Turns.{IsRowMade, AreUnitsInOrder, AreToldUnitsMade}
use Rattle.site_units.proofs.TurnLemmas.{are_units, reached_more, reached_nothing}
use Rattle.site_core.specs.Turns.{IsReceived, IsToldTurnMade}

-- ---- a message

-- one that is fit is opened, and then its row is done
pub fit_received : (p : List Stmt) (m : Msg) (c0 c1 c2 : Core) (o0 o1 o2 : Output) → IsFit p c0.sites (site_of c0) m → IsRowMade p (opening m) c0 o0 c1 o1 → IsRowMade p (message_row p bundle_limit m) c1 o1 c2 o2 → IsReceived p (Some m) c0 o0 c2 o2
fit_received p m c0 c1 c2 o0 o1 o2 fit opened row = (
  reception p bundle_limit m (site_of c0),
  inl (fit, refl),
  reached_more p (opening m (site_of c0)) (message_row p bundle_limit m (opening m (site_of c0)).site) c0 c1 c2 o0 o1 o2 opened
      (subst (λ (s : Site). IsTransitionMade p (message_row p bundle_limit m s) c1 o1 c2 o2) opened.site row),
)

-- one that is not changes nothing
pub unfit_received : (p : List Stmt) (m : Msg) (c : Core) (o : Output) → IsConsistent p c → (IsFit p c.sites (site_of c) m → ⊥) → IsReceived p (Some m) c o c o
unfit_received p m c o h unfit = (without_output (site_of c), inr (unfit, refl), reached_nothing p c o h)

-- ---- a turn

pub whole_turn : (p : List Stmt) (quantum : ℕ) (t0 t1 : List ThreadName) (m : Option Msg) (c0 c1 c2 : Core) (o0 o1 o2 : Output) → IsReceived p m c0 o0 c1 o1 → HaveComeBehind c0.threads.order c1.threads.order → AreToldUnitsMade p quantum t0 t1 c1 o1 c2 o2 → IsToldTurnMade p quantum t0 t1 m c0 o0 c2 o2
whole_turn p quantum t0 t1 m c0 c1 c2 o0 o1 o2 (heard, reception, reached) behind (ths, told, (rest, now, units, then, most, idle, passed)) = (
  ths,
  told,
  (
    sequence heard rest,
    ((heard, rest, reception, are_units p c0.sites ths heard.site c1.threads.order now rest here, refl), most, idle),
    (heard, rest, c1.threads.order, now, reception, behind, here, refl, passed),
    reached_more p heard rest c0 c1 c2 o0 o1 o2 reached then,
  ),
)
  where
    here : AreUnitsInOrder p c0.sites ths heard.site c1.threads.order rest now
    here = subst (λ (s : Site). AreUnitsInOrder p c0.sites ths s c1.threads.order rest now) reached.site (subst (λ (n : ℕ). AreUnitsInOrder p n ths (site_of c1) c1.threads.order rest now) reached.sites units)

-- without a message
pub silent_turn : (p : List Stmt) (quantum : ℕ) (t0 t1 : List ThreadName) (c0 c2 : Core) (o0 o2 : Output) → IsConsistent p c0 → AreToldUnitsMade p quantum t0 t1 c0 o0 c2 o2 → IsToldTurnMade p quantum t0 t1 None c0 o0 c2 o2
silent_turn p quantum t0 t1 c0 c2 o0 o2 h units = whole_turn p quantum t0 t1 None c0 c0 c2 o0 o0 o2 (without_output (site_of c0), refl, reached_nothing p c0 o0 h) (behind_same c0.threads.order c0.threads.order refl) units
