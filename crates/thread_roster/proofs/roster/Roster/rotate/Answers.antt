use Rattle.thread_roster.proofs.ConsistencyLemmas.{kept_rest, kept_turned}
use Rattle.thread_roster.proofs.QueueLemmas.{ordered_rest, ordered_rotated}
use Rattle.thread_roster.proofs.OrderLemmas.{order_rotated}
use Rattle.thread_roster.proofs.ViewLemmas.{turned_view}
use Rattle.thread_roster.specs.Parking.{keys_for}
use Rattle.thread_roster.proofs.roster.Roster.rotate.Goals as goal

pub invariant_of-self : goal.invariant_of-self
invariant_of-self g c = (
  kept_turned c.self.inside.slots.items c.self.inside.by_name c.next_runnable.new.queue c.rotate.new.self (keys_for c.self.inside.waiters c.self.inside.needers) c.self.inside.living c.self.inside.waiting c.rotate.ensures.some c.rotate.ensures.none
      (kept_rest c.self.inside.slots.items c.self.inside.by_name c.self.inside.queue c.next_runnable.new.queue (keys_for c.self.inside.waiters c.self.inside.needers) c.self.inside.living c.self.inside.waiting c.next_runnable.ensures.rest c.self.invariant.0),
  ordered_rotated c.self.inside.slots.items c.next_runnable.new.queue c.rotate.new.self (ordered_rest c.self.inside.slots.items c.self.inside.queue c.next_runnable.new.queue c.self.invariant.1 c.next_runnable.ensures.rest) c.rotate.ensures.some c.rotate.ensures.none,
)

pub returns : goal.returns
returns g c =
    turned_view c.args.self.now c.self.inside.slots.items c.self.inside.queue c.rotate.new.self
    (order_rotated c.self.inside.slots.items c.self.inside.queue c.next_runnable.new.queue c.rotate.new.self c.next_runnable.result c.self.invariant.1 c.next_runnable.ensures.rest c.next_runnable.ensures.some c.next_runnable.ensures.none c.rotate.ensures.some c.rotate.ensures.none)
    c.self.view_is
