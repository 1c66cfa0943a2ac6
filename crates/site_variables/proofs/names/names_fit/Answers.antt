use Rattle.site_variables.proofs.FitLemmas.{within_known}
use Rattle.site_variables.proofs.names.names_fit.Goals as goal

pub returns : goal.returns
returns c = λ s h. within_known c.args.bounds.now s c.args.msg.now c.message_within.result h c.message_within.ensures
