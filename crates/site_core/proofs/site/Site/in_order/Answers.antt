use Rattle.std.proofs.Common.{subst}
use Rattle.thread_roster.specs.Threads.{IsOrderOf}
use Rattle.site_units.proofs.OrderLemmas.{order_seen}
use Rattle.site_core.proofs.site.Site.in_order.Goals as goal

pub returns : goal.returns
returns g c =
    subst (λ s. IsOrderOf s.state.threads s.order) c.self.view_is
    (order_seen c.self.inside.core.threads.living c.self.inside.core.threads.order c.in_order.ensures)
