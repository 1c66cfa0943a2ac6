-- The entry of a turn.
use Rattle.std.proofs.Common.{◌≡◌, ◌∙◌, sym, ap, subst, ℕ, List, [], ◌++◌}
use Rattle.std.specs.Prelude.{Option}
use Rattle.tree_node.specs.declared.names.ThreadName.{ThreadName}
use Rattle.tree_node.specs.declared.pick.Pick.{Pick}
use Rattle.tree_node.specs.declared.names.ThreadName.{ThreadName}
use Rattle.kernel_syntax.specs.declared.stmt.Stmt.{Stmt}
use Rattle.site_message.specs.declared.message.Msg.{Msg}
use Rattle.site_message.specs.declared.message.Sent.{Sent}
use Rattle.site_message.specs.declared.turn.Turn.{Turn}
use Rattle.site_model.specs.Site.{Site, is_idle, waiting_count}
use Rattle.site_model.specs.Bundle.{bundle_limit}
use Rattle.site_model.specs.Run.{IsRecordOf}
use Rattle.site_model.specs.Transition.{Transition}
use Rattle.site_model.specs.Turn.{IsFullTurnOf}
use Rattle.site_units.specs.declared.data.Core.{Core}
use Rattle.site_units.specs.declared.data.Output.{Output}
use Rattle.site_units.specs.Core.{site_of}
use Rattle.site_units.specs.Units.{IsTransitionMade}
use Rattle.site_core.specs.Site.{IsTransitionInOrder, IsTurnInOrder, IsTurnMade, message_in, number_in}
use Rattle.site_core.specs.Turns.{IsToldTurnMade}
use Rattle.site_core.proofs.NumberLemmas.{turn_number}

pub number_stays : (p : List Stmt) (quantum : ℕ) (t0 t1 : List ThreadName) (m : Option Msg) (c0 c1 : Core) (o0 o1 : Output) → IsToldTurnMade p quantum t0 t1 m c0 o0 c1 o1 → c1.variables.binder.site ≡ c0.variables.binder.site
number_stays p quantum t0 t1 m c0 c1 o0 o1 (ths, told, (d, full, ordered, reached)) = ap (λ (s : Site). s.records.site) reached.site ∙ turn_number p c0.sites bundle_limit quantum (site_of c0) m d (ths, full.0, full.1, full.2)

-- an entry that records what a transition left, from no output, records it
records : (p : List Stmt) (d : Transition) (c0 c1 : Core) (o0 o1 : Output) (e : Turn) → o0.picks ≡ [] → o0.sent ≡ [] → o0.lines.items ≡ [] → IsTransitionMade p d c0 o0 c1 o1 →
    IsRecordOf e (record { site = site_of c1; picks = o1.picks; sent = o1.sent; lines = o1.lines.items }) → IsRecordOf e d
records p d c0 c1 o0 o1 e picks sent lines reached recorded = record {
  picks = recorded.picks ∙ (reached.picks ∙ ap (λ (l : List Pick). l ++ d.picks) picks);
  sent = recorded.sent ∙ (reached.sent ∙ ap (λ (l : List Sent). l ++ d.sent) sent);
  lines = recorded.lines ∙ (reached.lines ∙ ap (λ (l : List (List ℕ)). l ++ d.lines) lines);
  idle = recorded.idle ∙ ap is_idle reached.site;
  ended = recorded.ended ∙ ap (λ (s : Site). s.ended) reached.site;
  waiting = recorded.waiting ∙ ap waiting_count reached.site;
  steps = recorded.steps ∙ ap (λ (s : Site). s.steps) reached.site;
}

-- and where that was a full turn, it is of a turn
pub turn_recorded : (p : List Stmt) (quantum : ℕ) (t0 t1 : List ThreadName) (message : Option (ℕ × Msg)) (m : Option Msg) (c0 c1 : Core) (o0 o1 : Output) (e : Turn) → o0.picks ≡ [] → o0.sent ≡ [] → o0.lines.items ≡ [] → m ≡ message_in message →
    t0 ≡ [] → IsToldTurnMade p quantum t0 t1 m c0 o0 c1 o1 → e.units ≡ t1 → e.site ≡ c0.variables.binder.site → e.delivered ≡ number_in message → IsRecordOf e (record { site = site_of c1; picks = o1.picks; sent = o1.sent; lines = o1.lines.items }) →
    IsTurnMade p c0.sites (site_of c0) message quantum e (site_of c1)
turn_recorded p quantum t0 t1 message m c0 c1 o0 o1 e picks sent lines is none (ths, told, (d, full, ordered, reached)) units site delivered recorded = record {
  turn = (
    d,
    subst (λ (us : List ThreadName). IsFullTurnOf p c0.sites bundle_limit quantum us (site_of c0) (message_in message) d) (sym (units ∙ (told ∙ ap (λ (us : List ThreadName). us ++ ths) none)))
        (subst (λ (k : Option Msg). IsFullTurnOf p c0.sites bundle_limit quantum ths (site_of c0) k d) is full),
    records p d c0 c1 o0 o1 e picks sent lines reached recorded,
    reached.site,
  );
  site = site;
  delivered = delivered;
}

-- and its units were made in the order of turns
pub turn_in_order : (p : List Stmt) (quantum : ℕ) (t0 t1 : List ThreadName) (message : Option (ℕ × Msg)) (m : Option Msg) (c0 c1 : Core) (o0 o1 : Output) (e : Turn) → o0.picks ≡ [] → o0.sent ≡ [] → o0.lines.items ≡ [] → m ≡ message_in message →
    t0 ≡ [] → IsToldTurnMade p quantum t0 t1 m c0 o0 c1 o1 → e.units ≡ t1 → IsRecordOf e (record { site = site_of c1; picks = o1.picks; sent = o1.sent; lines = o1.lines.items }) →
    IsTurnInOrder p c0.sites (site_of c0) (message_in message) e (site_of c1) c0.threads.order c1.threads.order
turn_in_order p quantum t0 t1 message m c0 c1 o0 o1 e picks sent lines is none (ths, told, (d, full, ordered, reached)) units recorded = (
  d,
  subst (λ (us : List ThreadName). IsTransitionInOrder p c0.sites us (site_of c0) (message_in message) d c0.threads.order c1.threads.order) (sym (units ∙ (told ∙ ap (λ (us : List ThreadName). us ++ ths) none)))
      (subst (λ (k : Option Msg). IsTransitionInOrder p c0.sites ths (site_of c0) k d c0.threads.order c1.threads.order) is ordered),
  records p d c0 c1 o0 o1 e picks sent lines reached recorded,
  reached.site,
)
