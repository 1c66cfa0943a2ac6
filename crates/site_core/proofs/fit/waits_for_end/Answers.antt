use Rattle.std.proofs.Common.{subst, ℕ}
use Rattle.std.specs.Prelude.{◌↔◌, IsTrue}
use Rattle.site_core.specs.Fitting.{IsForEnd}
use Rattle.site_core.proofs.FitLemmas.{end_waits, no_end_waits}
use Rattle.site_core.proofs.fit.waits_for_end.Goals as goal

pub returns-in-Some : goal.returns-in-Some
returns-in-Some c =
    end_waits c.args.core.now c.args.thread c.in-Some.mode.now c.is_for_end.result c.in-Some.ensures.some
    (subst (λ (i : ℕ). IsTrue c.is_for_end.result ↔ IsForEnd i c.in-Some.mode.now) (c.site_in.ensures c.args.core.now.variables.binder.site c.requires.counted) c.is_for_end.ensures)

pub returns-in-None : goal.returns-in-None
returns-in-None c = no_end_waits c.args.core.now c.args.thread c.in-None.ensures.none
