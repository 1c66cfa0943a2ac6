use Rattle.std.proofs.Common.{sym, subst}
use Rattle.thread_roster.specs.Order.{rotated}
use Rattle.site_units.specs.Invariant.{IsConsistent}
use Rattle.site_units.proofs.TurnLemmas.{consistent_turned}
use Rattle.site_core.proofs.site.Site.pass_by.Goals as goal

pub invariant_of-self : goal.invariant_of-self
invariant_of-self g c = λ live.
    let h = c.self.invariant live in
    let core = c.self.inside.core in (
      subst (λ threads. IsConsistent c.self.inside.program.now (record core { threads = threads })) (sym c.rotate.ensures)
          (consistent_turned c.self.inside.program.now core (rotated core.threads.order) h.0),
      h.1,
    )
