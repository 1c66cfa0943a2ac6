use Rattle.std.proofs.Common.{refl}
use Rattle.site_variables.proofs.RowLemmas.{done_taken}
use Rattle.thread_roster.proofs.BehindLemmas.{behind_same}
use Rattle.site_variables.proofs.variables.Variables.on_request.Goals as goal

pub returns-clause-done : goal.returns-clause-done
returns-clause-done g c = λ f n. done_taken _ _ c.args.var c.args.term n (c.is_unbound.ensures.yes c.if-not-is_unbound.false) (c.in_ok-bind.ensures.done f)

pub returns-then-not-is_unbound-clause-order : goal.returns-then-not-is_unbound-clause-order
returns-then-not-is_unbound-clause-order g c = behind_same _ _ refl
