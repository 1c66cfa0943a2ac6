use Rattle.surface_grammar.proofs.Limits.{reads_fit}
use Rattle.surface_grammar.proofs.laws.reads_fit.Goals as goal

pub returns : goal.returns
returns c = reads_fit
