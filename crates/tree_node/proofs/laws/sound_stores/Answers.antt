use Rattle.tree_node.proofs.SoundLemmas.{sound_has_one, root_names_class}
use Rattle.tree_node.proofs.laws.sound_stores.Goals as goal

pub returns : goal.returns
returns c = record { one_node = sound_has_one; root = root_names_class }
