use Rattle.std.proofs.Common.{arith, ◌∙◌, sym, ap, refl, ◌∷◌, ◌++◌, []}
use Rattle.tree_node.specs.Assoc.{value_of}
use Rattle.tree_node.specs.State.{equal_thread}
use Rattle.thread_roster.specs.declared.mode.Mode.TheVariants as stands
use Rattle.thread_roster.specs.Threads.{set_mode}
use Rattle.thread_roster.specs.Slots.{slot_in, waiting}
use Rattle.thread_roster.proofs.SlotLemmas.{total_holds}
use Rattle.thread_roster.proofs.ConsistencyLemmas.{stands_there, kept_runs, mode_view, ended_set}
use Rattle.thread_roster.proofs.QueueLemmas.{ordered_runs}
use Rattle.thread_roster.proofs.OrderLemmas.{order_more}
use Rattle.thread_roster.specs.Parking.{keys_for}
use Rattle.thread_roster.proofs.roster.Roster.resume.Goals as goal

pub count_running-self-inside-requires : goal.count_running-self-inside-requires
count_running-self-inside-requires g c =
    let held = c.find-slot.ensures.held in
    let some = total_holds waiting c.self.inside.slots.items c.find-slot.result held.0 held.1 in
    let all = c.self.invariant.0.waiters in
    record { among = rw (c.set_mode-waited.ensures.old held.0 held.1) (omega (arith, some, all)) }

pub invariant_of-self : goal.invariant_of-self
invariant_of-self g c = rw c.in_err-push.ensures.err c.self.invariant

pub invariant_of-self-2 : goal.invariant_of-self-2
invariant_of-self-2 g c =
    let held = c.find-slot.ensures.held in
    let was = stands_there c.self.inside.slots.items (slot_in c.self.inside.by_name) c.args.name c.find-slot.result held.0 c.requires.waits.0 c.requires.waits.1 c.self.invariant.0.placed c.find-slot.ensures.slot held.1 (ap (λ s. value_of equal_thread s.living c.args.name) c.self.view_is ∙ c.requires.waits.2) in (
      kept_runs c.self.inside.slots.items c.set_mode-waited.new.slots.items c.self.inside.by_name c.self.inside.queue c.push.new.self (keys_for c.self.inside.waiters c.self.inside.needers) c.self.inside.living c.self.inside.waiting c.count_running-self-inside.result c.args.name c.find-slot.result held.0 c.self.invariant.0 c.find-slot.ensures.slot held.1 held.2 (c.set_mode-waited.ensures.put held.0 held.1) c.in_ok-push.ensures.ok (rw (c.set_mode-waited.ensures.old held.0 held.1) at c.count_running-self-inside.ensures),
      ordered_runs c.self.inside.slots.items c.set_mode-waited.new.slots.items c.self.inside.queue c.push.new.self c.find-slot.result held.0 (record held.0 { mode = stands.Runs }) c.self.invariant.1 held.1 (λ e. c.requires.waits.3 (sym was ∙ e)) refl (c.set_mode-waited.ensures.put held.0 held.1) c.in_ok-push.ensures.ok,
    )

pub returns-clause-living : goal.returns-clause-living
returns-clause-living g c =
    let held = c.find-slot.ensures.held in
    mode_view c.self.inside.slots.items c.set_mode-waited.new.slots.items (slot_in c.self.inside.by_name) c.args.name c.find-slot.result held.0 stands.Runs c.self.invariant.0.placed c.find-slot.ensures.slot held.1 held.2 (c.set_mode-waited.ensures.put held.0 held.1)
    ∙ ap (λ s. set_mode s.living c.args.name stands.Runs) c.self.view_is

pub returns-clause-ended : goal.returns-clause-ended
returns-clause-ended g c =
    let held = c.find-slot.ensures.held in
    ended_set c.self.inside.slots.items c.set_mode-waited.new.slots.items c.find-slot.result held.0 (record held.0 { mode = stands.Runs }) held.1 (c.set_mode-waited.ensures.put held.0 held.1) ∙ ap (λ s. s.ended) c.self.view_is

pub returns-clause-order : goal.returns-clause-order
returns-clause-order g c =
    let held = c.find-slot.ensures.held in
    order_more c.self.inside.slots.items c.set_mode-waited.new.slots.items c.self.inside.queue c.push.new.self c.args.name c.find-slot.result held.0 (record held.0 { mode = stands.Runs }) held.1 held.2 refl (c.set_mode-waited.ensures.put held.0 held.1) c.in_ok-push.ensures.ok
    ∙ ap (λ s. s.order ++ c.args.name ∷ []) c.self.view_is
