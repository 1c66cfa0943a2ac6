use Rattle.tree_node.proofs.SoundLemmas.{one_names_class}
use Rattle.tree_node.proofs.laws.one_names_class.Goals as goal

pub returns : goal.returns
returns c = one_names_class
