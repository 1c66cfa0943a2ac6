use Rattle.std.proofs.Common.{sym, subst, arith}
use Rattle.site_worker.specs.Hosts.{AreHostsOf}
use Rattle.site_worker.proofs.driving.drive_with.Goals as goal

pub returns-clause-run : goal.returns-clause-run
returns-clause-run g c p x of =
    let here = subst (AreHostsOf p x) (sym c.requires.here.0) (λ k d below. absurd (omega arith)) in
    c.work.ensures.same.2 p x (c.drive_all-all.ensures.run p x (c.deal-groups.ensures.run p x of) here)
