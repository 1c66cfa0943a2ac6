use Rattle.site_core.proofs.ReplayLemmas as lemma
use Rattle.site_core.proofs.laws.turns_are_made_again.Goals as goal

pub returns : goal.returns
returns c = lemma.turns_are_made_again
