use Rattle.std.proofs.Common.{◌∙◌, refl}
use Rattle.site_variables.proofs.LinkLemmas.{grown_same, grown_on}
use Rattle.site_variables.proofs.RowLemmas.{told_none, told_more}
use Rattle.thread_roster.proofs.BehindLemmas.{behind_same, behind_then}
use Rattle.site_variables.proofs.variables.Variables.learn_all.Goals as goal
use Rattle.site_model.proofs.BundleLemmas.{lower_at}

pub loop-var-init : goal.loop-var-init
loop-var-init g c = record {
  done = λ f. told_none _;
  ended = refl;
  order = behind_same _ _ refl;
  linked = c.requires.linked;
  grows = grown_same _;
  owners = refl;
  site = refl;
}

pub loop-var-preserved : goal.loop-var-preserved
loop-var-preserved g c = record {
  done = λ f. told_more c.args.equations.now c.loop-var.var-index c.loop-var-item.result _ _ _ c.loop-var-test.true c.loop-var-item.is (c.loop-var.invariant.done f) (c.in_ok-learn_copy.ensures.done f);
  ended = c.in_ok-learn_copy.ensures.ended ∙ c.loop-var.invariant.ended;
  order = behind_then _ _ _ c.loop-var.invariant.order c.in_ok-learn_copy.ensures.order;
  linked = c.in_ok-learn_copy.ensures.linked;
  grows = grown_on _ _ _ c.loop-var.invariant.grows c.in_ok-learn_copy.ensures.grows;
  owners = c.in_ok-learn_copy.ensures.owners ∙ c.loop-var.invariant.owners;
  site = c.in_ok-learn_copy.ensures.site ∙ c.loop-var.invariant.site;
}

pub learn_copy-requires-clause-linked : goal.learn_copy-requires-clause-linked
learn_copy-requires-clause-linked g c = c.loop-var.invariant.linked

pub learn_copy-requires-clause-lower : goal.learn_copy-requires-clause-lower
learn_copy-requires-clause-lower g c = lower_at c.args.equations.now c.loop-var.var-index c.loop-var-item.result c.requires.down c.loop-var-test.true c.loop-var-item.is
