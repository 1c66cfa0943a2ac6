use Rattle.std.proofs.Common.{arith, ◌∙◌, ap, ◌++◌, refl}
use Rattle.tree_node.specs.declared.names.VarName.{VarName}
use Rattle.tree_node.specs.Store.{equal_var}
use Rattle.waiting_keys.specs.Keys.{keys_among}
use Rattle.thread_roster.specs.declared.mode.Event.TheVariants as event
use Rattle.thread_roster.specs.Threads.{determine_all}
use Rattle.thread_roster.specs.Slots.{names_at, woken}
use Rattle.thread_roster.proofs.ConsistencyLemmas.{kept_roused, slots_roused, determine_view, ended_roused}
use Rattle.thread_roster.proofs.ParkingLemmas.{left_determined}
use Rattle.thread_roster.proofs.QueueLemmas.{ordered_woken}
use Rattle.thread_roster.proofs.OrderLemmas.{order_woken}
use Rattle.thread_roster.specs.Parking.{keys_for}
use Rattle.thread_roster.proofs.roster.Roster.determine.Goals as goal

pub rouse-requires-clause-inside : goal.rouse-requires-clause-inside
rouse-requires-clause-inside g c = c.self.invariant.0.keys_inside (event.Determined c.args.var)

pub rouse-requires-clause-waiting : goal.rouse-requires-clause-waiting
rouse-requires-clause-waiting g c = c.self.invariant.0.waiters

pub invariant_of-self : goal.invariant_of-self
invariant_of-self g c = let err = c.in_err-roused.ensures.err in rw (err.0, err.1, err.2) c.self.invariant

pub invariant_of-self-2 : goal.invariant_of-self-2
invariant_of-self-2 g c =
    let count = c.in_ok-roused.ensures.count in
    let all = c.self.invariant.0.waiters in
    let keys = keys_among c.self.inside.needers c.args.var in
    let went = slots_roused (event.Determined c.args.var) c.self.inside.slots.items c.rouse.new.slots.items c.self.inside.by_name c.self.inside.queue keys (keys_for c.self.inside.waiters c.self.inside.needers) c.self.inside.living c.self.inside.waiting c.self.invariant.0 refl c.in_ok-roused.ensures.slots in (
      kept_roused (event.Determined c.args.var) c.self.inside.slots.items c.rouse.new.slots.items c.self.inside.by_name c.self.inside.queue c.rouse.new.queue keys (keys_for c.self.inside.waiters c.self.inside.needers) (keys_for c.self.inside.waiters c.rouse.new.waiters) c.self.inside.living c.self.inside.waiting _
          c.self.invariant.0 refl c.in_ok-roused.ensures.queue c.in_ok-roused.ensures.slots (left_determined c.self.inside.waiters c.self.inside.needers c.rouse.new.waiters c.args.var c.in_ok-roused.ensures.taken) (omega (arith, count, all)),
      ordered_woken (event.Determined c.args.var) c.self.inside.slots.items c.rouse.new.slots.items c.self.inside.queue c.rouse.new.queue keys c.self.invariant.1 went c.in_ok-roused.ensures.queue,
    )

pub returns-clause-living : goal.returns-clause-living
returns-clause-living g c =
    determine_view c.args.var c.self.inside.slots.items c.rouse.new.slots.items
    (slots_roused (event.Determined c.args.var) c.self.inside.slots.items c.rouse.new.slots.items c.self.inside.by_name c.self.inside.queue _ (keys_for c.self.inside.waiters c.self.inside.needers) c.self.inside.living c.self.inside.waiting c.self.invariant.0 refl c.in_ok-roused.ensures.slots)
    ∙ ap (λ s. determine_all (λ (y : VarName). equal_var y c.args.var) s.living) c.self.view_is

pub returns-clause-ended : goal.returns-clause-ended
returns-clause-ended g c =
    ended_roused (event.Determined c.args.var) c.self.inside.slots.items c.rouse.new.slots.items
    (slots_roused (event.Determined c.args.var) c.self.inside.slots.items c.rouse.new.slots.items c.self.inside.by_name c.self.inside.queue _ (keys_for c.self.inside.waiters c.self.inside.needers) c.self.inside.living c.self.inside.waiting c.self.invariant.0 refl c.in_ok-roused.ensures.slots)
    ∙ ap (λ s. s.ended) c.self.view_is

pub returns-clause-order : goal.returns-clause-order
returns-clause-order g c =
    let keys = woken (event.Determined c.args.var) c.self.inside.slots.items (keys_among c.self.inside.needers c.args.var) in
    let went = slots_roused (event.Determined c.args.var) c.self.inside.slots.items c.rouse.new.slots.items c.self.inside.by_name c.self.inside.queue _ (keys_for c.self.inside.waiters c.self.inside.needers) c.self.inside.living c.self.inside.waiting c.self.invariant.0 refl c.in_ok-roused.ensures.slots in (
      names_at c.self.inside.slots.items keys,
      order_woken (event.Determined c.args.var) c.self.inside.slots.items c.rouse.new.slots.items c.self.inside.queue c.rouse.new.queue keys went c.in_ok-roused.ensures.queue ∙ ap (λ s. s.order ++ names_at c.self.inside.slots.items keys) c.self.view_is,
    )
