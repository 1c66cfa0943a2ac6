use Rattle.tree_node.proofs.ShownLemmas as lemma
use Rattle.tree_node.proofs.laws.shown_stays.Goals as goal

pub returns : goal.returns
returns c = lemma.shown_stays
