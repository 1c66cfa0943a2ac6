use Rattle.std.proofs.Common.{subst, ℕ}
use Rattle.std.specs.Prelude.{◌↔◌, IsTrue}
use Rattle.site_core.specs.Fitting.{IsForContent}
use Rattle.site_core.proofs.FitLemmas.{content_waits, no_content_waits}
use Rattle.site_core.proofs.fit.waits_for_content.Goals as goal

pub returns-in-Some : goal.returns-in-Some
returns-in-Some c =
    content_waits c.args.core.now c.args.thread c.in-Some.mode.now c.is_for_content.result c.in-Some.ensures.some
    (subst (λ (i : ℕ). IsTrue c.is_for_content.result ↔ IsForContent i c.in-Some.mode.now) (c.site_in.ensures c.args.core.now.variables.binder.site c.requires.counted) c.is_for_content.ensures)

pub returns-in-None : goal.returns-in-None
returns-in-None c = no_content_waits c.args.core.now c.args.thread c.in-None.ensures.none
