use Rattle.std.proofs.Common.{◌∷◌, refl}
use Rattle.site_variables.proofs.LinkLemmas.{ask_recorded}
use Rattle.site_variables.proofs.RowLemmas.{done_bound, stacks_bound}
use Rattle.site_variables.proofs.variables.Variables.follow_bind.Goals as goal

pub returns-clause-done : goal.returns-clause-done
returns-clause-done g c =
    λ f es alike. done_bound _ _ c.args.var c.args.term refl c.in_ok-ask_own.ensures.records
    (stacks_bound f c.args.self.now.store.equations ((c.args.var, c.args.term) ∷ es) c.args.var c.args.threads.now.living _ alike c.in_ok-wake_waiting.ensures.living) c.in_ok-ask_own.ensures.sent

pub returns-clause-recorded : goal.returns-clause-recorded
returns-clause-recorded g c =
    λ es known h. ask_recorded es known c.args.self.now.binder _ c.args.var c.args.term h c.requires.own c.requires.unbound c.in_ok-ask_own.ensures.records
