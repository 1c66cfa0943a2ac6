use Rattle.std.proofs.Common.{◌∙◌, refl}
use Rattle.marshal.proofs.ImportLemmas.{known_none, next_known}
use Rattle.marshal.proofs.importing.know_all.Goals as goal

pub loop-var-init : goal.loop-var-init
loop-var-init c = record { known = known_none _ _; equations = refl }

pub loop-var-preserved : goal.loop-var-preserved
loop-var-preserved c = record {
  known = next_known c.args.vars.now c.loop-var.var-index _ _ _ _ _ _ _ c.loop-var-test.true c.loop-var.invariant.known c.in_ok-know.ensures.known;
  equations = c.in_ok-know.ensures.equations ∙ c.loop-var.invariant.equations;
}
