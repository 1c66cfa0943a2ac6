use Rattle.std.proofs.Common.{refl}
use Rattle.marshal.proofs.ImportLemmas.{known_none, next_equation, next_taken}
use Rattle.marshal.proofs.importing.take_all.Goals as goal
use Rattle.site_model.proofs.BundleLemmas.{lower_at}

pub loop-var-init : goal.loop-var-init
loop-var-init c = record { known = known_none _ _; equations = refl }

pub loop-var-preserved : goal.loop-var-preserved
loop-var-preserved c = record {
  known = next_equation c.args.equations.now c.loop-var.var-index c.loop-var-item.result _ _ _ _ _ _ c.loop-var-test.true c.loop-var-item.is c.loop-var.invariant.known c.in_ok-take.ensures.known;
  equations = next_taken c.args.equations.now c.loop-var.var-index c.loop-var-item.result _ _ _ c.loop-var-test.true c.loop-var-item.is c.loop-var.invariant.equations c.in_ok-take.ensures.equations;
}

pub take-requires : goal.take-requires
take-requires c = lower_at c.args.equations.now c.loop-var.var-index c.loop-var-item.result c.requires c.loop-var-test.true c.loop-var-item.is
