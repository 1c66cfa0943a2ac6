use Rattle.std.proofs.Common.{subst}
use Rattle.thread_roster.specs.Threads.{IsOrderOf}
use Rattle.thread_roster.proofs.ViewLemmas.{order_is}
use Rattle.thread_roster.specs.Parking.{keys_for}
use Rattle.thread_roster.proofs.roster.Roster.in_order.Goals as goal

pub returns : goal.returns
returns g c =
    subst (λ s. IsOrderOf s.living s.order) c.self.view_is
    (order_is c.self.inside.slots.items c.self.inside.by_name c.self.inside.queue (keys_for c.self.inside.waiters c.self.inside.needers) c.self.inside.living c.self.inside.waiting c.self.invariant.0 c.self.invariant.1)
