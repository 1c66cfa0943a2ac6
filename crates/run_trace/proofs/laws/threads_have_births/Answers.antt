use Rattle.run_trace.proofs.LivingLemmas.{births_are_all}
use Rattle.run_trace.proofs.laws.threads_have_births.Goals as goal

pub returns : goal.returns
returns c = births_are_all
