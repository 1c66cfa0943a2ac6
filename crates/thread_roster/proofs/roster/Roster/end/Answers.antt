use Rattle.std.proofs.Common.{arith, ◌+◌, ◌∙◌, ap}
use Rattle.tree_node.specs.Assoc.{without_key}
use Rattle.tree_node.specs.State.{equal_thread}
use Rattle.thread_roster.specs.Order.{without_name}
use Rattle.thread_roster.specs.Slots.{slot_in, one, waiting}
use Rattle.thread_roster.proofs.SlotLemmas.{only_at, total_holds}
use Rattle.thread_roster.proofs.ConsistencyLemmas.{kept_left, kept_end, still_none, end_view, ended_more}
use Rattle.thread_roster.proofs.QueueLemmas.{ordered_end, ordered_left}
use Rattle.thread_roster.proofs.OrderLemmas.{order_ended}
use Rattle.thread_roster.specs.Parking.{keys_for}
use Rattle.thread_roster.proofs.roster.Roster.end.Goals as goal

pub count_running-self-inside-requires : goal.count_running-self-inside-requires
count_running-self-inside-requires g c =
    let held = c.find-slot.ensures.held in
    let some = total_holds waiting c.self.inside.slots.items c.find-slot.result held.0 held.1 in
    let all = c.self.invariant.0.waiters in
    record { among = rw (c.clear-waited.ensures.old held.0 held.1) (omega (arith, some, all)) }

pub overflow_sub-self : goal.overflow_sub-self
overflow_sub-self g c =
    let held = c.find-slot.ensures.held in
    let some = total_holds one c.self.inside.slots.items c.find-slot.result held.0 held.1 in
    let all = c.self.invariant.0.alive in
    omega (arith, some, all)

pub invariant_of-self : goal.invariant_of-self
invariant_of-self g c =
    let held = c.find-slot.ensures.held in
    let some = total_holds one c.self.inside.slots.items c.find-slot.result held.0 held.1 in
    let all = c.self.invariant.0.alive in (
      kept_left c.clear-waited.new.slots.items c.forget.new.self c.self.inside.queue c.leave.new.queue (keys_for c.self.inside.waiters c.self.inside.needers) _ c.count_running-self-inside.result c.find-slot.result c.leave.ensures
          (still_none c.self.inside.slots.items c.clear-waited.new.slots.items c.find-slot.result c.clear-waited.ensures.put)
          (kept_end c.self.inside.slots.items c.clear-waited.new.slots.items c.self.inside.by_name c.forget.new.self c.self.inside.queue (keys_for c.self.inside.waiters c.self.inside.needers) c.self.inside.living c.self.inside.waiting _ c.count_running-self-inside.result c.args.name c.find-slot.result held.0 c.self.invariant.0 c.find-slot.ensures.slot held.1 c.clear-waited.ensures.put c.forget.ensures
          (omega (arith, some, all)) (rw (c.clear-waited.ensures.old held.0 held.1) at c.count_running-self-inside.ensures)),
      ordered_left c.clear-waited.new.slots.items c.self.inside.queue c.leave.new.queue c.find-slot.result (ordered_end c.self.inside.slots.items c.clear-waited.new.slots.items c.self.inside.queue c.find-slot.result c.self.invariant.1 c.clear-waited.ensures.put) c.leave.ensures,
    )

pub returns-clause-living : goal.returns-clause-living
returns-clause-living g c =
    end_view c.self.inside.slots.items c.clear-waited.new.slots.items (slot_in c.self.inside.by_name) c.args.name c.find-slot.result c.self.invariant.0.placed c.find-slot.ensures.slot c.clear-waited.ensures.put
    ∙ ap (λ s. without_key equal_thread s.living c.args.name) c.self.view_is

pub returns-clause-ended : goal.returns-clause-ended
returns-clause-ended g c =
    let held = c.find-slot.ensures.held in
    ended_more c.self.inside.slots.items c.clear-waited.new.slots.items c.find-slot.result held.0 held.1 c.clear-waited.ensures.put
    ∙ ap (λ s. s.ended + 1) c.self.view_is

pub returns-clause-order : goal.returns-clause-order
returns-clause-order g c =
    order_ended c.args.name c.self.inside.slots.items c.clear-waited.new.slots.items c.find-slot.result c.self.inside.queue c.leave.new.queue
    (only_at c.self.inside.slots.items (slot_in c.self.inside.by_name) c.args.name c.find-slot.result c.self.invariant.0.placed c.find-slot.ensures.slot) c.clear-waited.ensures.put c.leave.ensures
    ∙ ap (λ s. without_name c.args.name s.order) c.self.view_is
