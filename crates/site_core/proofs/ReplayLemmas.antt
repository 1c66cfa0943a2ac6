-- A message and then units of given threads are the one turn of these.
use Rattle.std.proofs.Common.{◌≡◌, ◌∙◌, refl, sym, ap, subst, ℕ, List, [], ◌++◌, length, arith, inl, inr, Some, None}
use Rattle.std.specs.Prelude.{Option}
use Rattle.tree_node.specs.declared.names.ThreadName.{ThreadName}
use Rattle.tree_node.specs.declared.pick.Pick.{Pick}
use Rattle.kernel_syntax.specs.declared.stmt.Stmt.{Stmt}
use Rattle.site_message.specs.declared.message.Msg.{Msg}
use Rattle.site_message.specs.declared.message.Sent.{Sent}
use Rattle.site_message.specs.declared.turn.Turn.{Turn}
use Rattle.site_model.specs.Site.{Site, is_idle, waiting_count}
use Rattle.site_model.specs.Bundle.{bundle_limit}
use Rattle.site_model.specs.Run.{IsRecordOf}
use Rattle.site_model.specs.Transition.{Transition, without_output, sequence}
use Rattle.site_model.specs.Turn.{IsReception, AreUnits, IsTurnOf, IsFullTurnOf}
use Rattle.site_units.specs.declared.data.Core.{Core}
use Rattle.site_units.specs.declared.data.Output.{Output}
use Rattle.site_units.specs.Core.{site_of}
use Rattle.site_units.specs.Invariant.{IsConsistent}
use Rattle.site_units.specs.Replay.{ComesTo, AreTheseMade, IsStuckAt}
use Rattle.site_units.specs.Turns.{AreUnitsInOrder}
use Rattle.site_units.proofs.TurnLemmas.{in_order_is_one, reached_more, reached_nothing}
use Rattle.site_core.specs.Site.{IsTransitionInOrder, IsTurnMade, message_in, number_in}
use Rattle.site_core.specs.Turns.{IsReceived}
use Rattle.site_core.specs.Replay.{TurnComesTo, IsReplayMade, TurnsAreMadeAgain, IsStuckTurn, IsTheTurnMade, transition_of}

-- what comes of a message is one thing
pub reception_is_one : (p : List Stmt) (n limit : ℕ) (m : Option Msg) (s : Site) (d e : Transition) → IsReception p n limit m s d → IsReception p n limit m s e → d ≡ e
reception_is_one p n limit None s d e h k = h ∙ sym k
reception_is_one p n limit (Some m) s d e (inl h) (inl k) = h.1 ∙ sym k.1
reception_is_one p n limit (Some m) s d e (inl h) (inr k) = absurd (k.0 h.0)
reception_is_one p n limit (Some m) s d e (inr h) (inl k) = absurd (h.0 k.0)
reception_is_one p n limit (Some m) s d e (inr h) (inr k) = h.1 ∙ sym k.1

pub the_turn : (p : List Stmt) (ths : List ThreadName) (m : Option Msg) (c0 c1 c2 : Core) (o0 o1 o2 : Output) → IsReceived p m c0 o0 c1 o1 → AreTheseMade p ths c1 o1 c2 o2 → IsTheTurnMade p ths m c0 o0 c2 o2
the_turn p ths m c0 c1 c2 o0 o1 o2 (heard, reception, reached) (rest, comes, then) = (
  sequence heard rest,
  ((heard, rest, reception, here.0, refl), λ e k. whole e k),
  reached_more p heard rest c0 c1 c2 o0 o1 o2 reached then,
)
  where
    here : ComesTo p c0.sites ths heard.site rest
    here = subst (λ (s : Site). ComesTo p c0.sites ths s rest) reached.site (subst (λ (n : ℕ). ComesTo p n ths (site_of c1) rest) reached.sites comes)

    whole : (e : Transition) → IsTurnOf p c0.sites bundle_limit ths (site_of c0) m e → e ≡ sequence heard rest
    whole e (other, more, reception2, units, is) =
        let same : other ≡ heard = reception_is_one p c0.sites bundle_limit m (site_of c0) other heard reception2 reception in
        let units2 : AreUnits p c0.sites bundle_limit ths heard.site more = subst (λ (d : Transition). AreUnits p c0.sites bundle_limit ths d.site more) same units in
        is ∙ ap (λ (d : Transition). sequence d more) same ∙ ap (λ (d : Transition). sequence heard d) (here.1 more units2)

pub silent_replay : (p : List Stmt) (ths : List ThreadName) (c0 c2 : Core) (o0 o2 : Output) → IsConsistent p c0 → AreTheseMade p ths c0 o0 c2 o2 → IsTheTurnMade p ths None c0 o0 c2 o2
silent_replay p ths c0 c2 o0 o2 h units = the_turn p ths None c0 c0 c2 o0 o0 o2 (without_output (site_of c0), refl, reached_nothing p c0 o0 h) units

pub stuck_turn : (p : List Stmt) (ths : List ThreadName) (m : Option Msg) (c0 c1 : Core) (o0 o1 : Output) (at : ℕ) → IsReceived p m c0 o0 c1 o1 → IsStuckAt p c1.sites ths (site_of c1) at → IsStuckTurn p c0.sites (site_of c0) m ths at
stuck_turn p ths m c0 c1 o0 o1 at (heard, reception, reached) h =
    (heard, reception, subst (λ (s : Site). IsStuckAt p c0.sites ths s at) reached.site (subst (λ (n : ℕ). IsStuckAt p n ths (site_of c1) at) reached.sites h))

pub silent_stuck : (p : List Stmt) (ths : List ThreadName) (c : Core) (at : ℕ) → IsStuckAt p c.sites ths (site_of c) at → IsStuckTurn p c.sites (site_of c) None ths at
silent_stuck p ths c at h = (without_output (site_of c), refl, h)

-- the entry of it
pub replay_recorded : (p : List Stmt) (ths : List ThreadName) (message : Option (ℕ × Msg)) (m : Option Msg) (c0 c1 : Core) (o0 o1 : Output) (e : Turn) → o0.picks ≡ [] → o0.sent ≡ [] → o0.lines.items ≡ [] → m ≡ message_in message →
    IsTheTurnMade p ths m c0 o0 c1 o1 → e.site ≡ c0.variables.binder.site → e.delivered ≡ number_in message → IsRecordOf e (transition_of c1 o1) → e.units ≡ ths →
    IsReplayMade p c0.sites (site_of c0) message ths e (site_of c1)
replay_recorded p ths message m c0 c1 o0 o1 e picks sent lines is (d, comes, reached) site delivered recorded units = record {
  turn = (
    d,
    subst (λ (k : Option Msg). TurnComesTo p c0.sites ths (site_of c0) k d) is comes,
    record {
      picks = recorded.picks ∙ (reached.picks ∙ ap (λ (l : List Pick). l ++ d.picks) picks);
      sent = recorded.sent ∙ (reached.sent ∙ ap (λ (l : List Sent). l ++ d.sent) sent);
      lines = recorded.lines ∙ (reached.lines ∙ ap (λ (l : List (List ℕ)). l ++ d.lines) lines);
      idle = recorded.idle ∙ ap is_idle reached.site;
      ended = recorded.ended ∙ ap (λ (s : Site). s.ended) reached.site;
      waiting = recorded.waiting ∙ ap waiting_count reached.site;
      steps = recorded.steps ∙ ap (λ (s : Site). s.steps) reached.site;
    },
    reached.site,
  );
  site = site;
  delivered = delivered;
  units = units;
}

-- it is a turn of as many units
pub replay_is_turn : (p : List Stmt) (n : ℕ) (old : Site) (message : Option (ℕ × Msg)) (ths : List ThreadName) (e : Turn) (new : Site) → IsReplayMade p n old message ths e new → IsTurnMade p n old message (length ths) e new
replay_is_turn p n old message ths e new h = record {
  turn = (
    h.turn.0,
    subst (λ (us : List ThreadName). IsFullTurnOf p n bundle_limit (length ths) us old (message_in message) h.turn.0) (sym h.units) (h.turn.1.0, omega arith, λ less. absurd (omega (arith, less))),
    h.turn.2,
    h.turn.3,
  );
  site = h.site;
  delivered = h.delivered;
}

-- two entries of one site that record one transition, with one message and the same units, are equal
pub same_record : (e f : Turn) (d : Transition) → IsRecordOf e d → IsRecordOf f d → e.site ≡ f.site → e.delivered ≡ f.delivered → e.units ≡ f.units → e ≡ f
same_record e f d h k site delivered units = λ i. record {
  site = site i;
  idle = (h.idle ∙ sym k.idle) i;
  delivered = delivered i;
  units = units i;
  picks = (h.picks ∙ sym k.picks) i;
  sent = (h.sent ∙ sym k.sent) i;
  lines = (h.lines ∙ sym k.lines) i;
  ended = (h.ended ∙ sym k.ended) i;
  waiting = (h.waiting ∙ sym k.waiting) i;
  steps = (h.steps ∙ sym k.steps) i;
}

-- and the one that was made, where the units are those that it tells
pub turns_are_made_again : TurnsAreMadeAgain
turns_are_made_again p n old new again message quantum e f h g =
    let same : h.turn.0 ≡ g.turn.0 = g.turn.1.1 h.turn.0 h.turn.1.0 in (
      same_record e f g.turn.0 (subst (IsRecordOf e) same h.turn.2) g.turn.2 (h.site ∙ sym g.site) (h.delivered ∙ sym g.delivered) (sym g.units),
      h.turn.3 ∙ ap (λ (d : Transition). d.site) same ∙ sym g.turn.3,
    )

-- units in order of the same threads come to one turn, whatever the orders
pub ordered_is_one : (p : List Stmt) (n : ℕ) (ths : List ThreadName) (s : Site) (m : Option Msg) (d e : Transition) (a b x y : List ThreadName) → IsTransitionInOrder p n ths s m d a b → IsTransitionInOrder p n ths s m e x y → d ≡ e
ordered_is_one p n ths s m d e a b x y (heard, rest, ready, now, reception, behind, units, is, passed) (other, more, begins, then, hears, later, us, at, on) =
    let same : heard ≡ other = reception_is_one p n bundle_limit m s heard other reception hears in
    let moved : AreUnitsInOrder p n ths other.site ready rest now = subst (λ (z : Transition). AreUnitsInOrder p n ths z.site ready rest now) same units in
    let tail : rest ≡ more = in_order_is_one p n ths other.site ready now begins then rest more moved us in
    is ∙ ap (λ (z : Transition). sequence z rest) same ∙ ap (λ (z : Transition). sequence other z) tail ∙ sym at
