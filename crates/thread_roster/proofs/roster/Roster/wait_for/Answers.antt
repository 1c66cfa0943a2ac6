use Rattle.std.proofs.Common.{arith, ◌∙◌, ap, refl}
use Rattle.thread_roster.specs.declared.mode.Mode.TheVariants as stands
use Rattle.thread_roster.specs.Threads.{set_mode}
use Rattle.thread_roster.specs.Slots.{slot_in}
use Rattle.thread_roster.proofs.SlotLemmas.{living_le, waiting_le}
use Rattle.thread_roster.proofs.ConsistencyLemmas.{kept_without, kept_waits_for, still_set, mode_view, ended_set}
use Rattle.thread_roster.specs.Order.{without_name}
use Rattle.thread_roster.proofs.QueueLemmas.{ordered_waits}
use Rattle.thread_roster.proofs.OrderLemmas.{order_less}
use Rattle.thread_roster.specs.Parking.{keys_for}
use Rattle.thread_roster.proofs.ParkingLemmas.{token_there}
use Rattle.thread_roster.proofs.roster.Roster.wait_for.Goals as goal

pub count_waiting-self-inside-requires : goal.count_waiting-self-inside-requires
count_waiting-self-inside-requires g c =
    let most = waiting_le c.self.inside.slots.items in
    let more = living_le c.self.inside.slots.items in
    let all = c.self.invariant.0.waiters in
    let ok = c.self.inside.slots.ok in
    let small = c.self.inside.slots.small in
    record { few = omega (arith, most, more, all, ok, small) }

pub invariant_of-self : goal.invariant_of-self
invariant_of-self g c =
    let held = c.find-slot.ensures.held in (
      kept_without c.set_mode-waited.new.slots.items c.self.inside.by_name c.self.inside.queue c.remove.new.self (keys_for c.self.inside.waiters c.self.inside.needers) c.self.inside.living c.count_waiting-self-inside.result c.find-slot.result c.remove.ensures
          (still_set c.self.inside.slots.items c.set_mode-waited.new.slots.items c.find-slot.result (record held.0 { mode = stands.WaitsFor c.args.awaited }) (c.set_mode-waited.ensures.put held.0 held.1) (λ e. cc))
          (kept_waits_for c.self.inside.slots.items c.set_mode-waited.new.slots.items c.self.inside.by_name c.self.inside.queue (keys_for c.self.inside.waiters c.self.inside.needers) c.self.inside.living c.self.inside.waiting c.count_waiting-self-inside.result c.args.name c.find-slot.result held.0 (stands.WaitsFor c.args.awaited) c.self.invariant.0 c.find-slot.ensures.slot held.1 held.2 (c.set_mode-waited.ensures.put held.0 held.1) (λ e. cc) (token_there c.args.awaited) (rw (c.set_mode-waited.ensures.old held.0 held.1) at c.count_waiting-self-inside.ensures)),
      ordered_waits c.self.inside.slots.items c.set_mode-waited.new.slots.items c.self.inside.queue c.remove.new.self c.find-slot.result (record held.0 { mode = stands.WaitsFor c.args.awaited }) c.self.invariant.1 (c.set_mode-waited.ensures.put held.0 held.1) c.remove.ensures,
    )

pub returns-clause-living : goal.returns-clause-living
returns-clause-living g c =
    let held = c.find-slot.ensures.held in
    mode_view c.self.inside.slots.items c.set_mode-waited.new.slots.items (slot_in c.self.inside.by_name) c.args.name c.find-slot.result held.0 (stands.WaitsFor c.args.awaited) c.self.invariant.0.placed c.find-slot.ensures.slot held.1 held.2 (c.set_mode-waited.ensures.put held.0 held.1)
    ∙ ap (λ s. set_mode s.living c.args.name (stands.WaitsFor c.args.awaited)) c.self.view_is

pub returns-clause-ended : goal.returns-clause-ended
returns-clause-ended g c =
    let held = c.find-slot.ensures.held in
    ended_set c.self.inside.slots.items c.set_mode-waited.new.slots.items c.find-slot.result held.0 (record held.0 { mode = stands.WaitsFor c.args.awaited }) held.1 (c.set_mode-waited.ensures.put held.0 held.1) ∙ ap (λ s. s.ended) c.self.view_is

pub returns-clause-order : goal.returns-clause-order
returns-clause-order g c =
    let held = c.find-slot.ensures.held in
    order_less c.self.inside.slots.items c.set_mode-waited.new.slots.items c.self.inside.queue c.remove.new.self (slot_in c.self.inside.by_name) c.args.name c.find-slot.result held.0 (record held.0 { mode = stands.WaitsFor c.args.awaited }) c.self.invariant.0.placed c.find-slot.ensures.slot held.1 refl (c.set_mode-waited.ensures.put held.0 held.1) c.remove.ensures
    ∙ ap (λ s. without_name c.args.name s.order) c.self.view_is
