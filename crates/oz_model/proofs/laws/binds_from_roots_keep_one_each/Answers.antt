use Rattle.oz_model.proofs.ThreadLemmas.{effects_keep_one_each}
use Rattle.oz_model.proofs.laws.binds_from_roots_keep_one_each.Goals as goal

pub returns : goal.returns
returns c = effects_keep_one_each
