use Rattle.oz_model.proofs.NodesWell.{nodes_are_well}
use Rattle.oz_model.proofs.OnceLemmas.{runs_are_once}
use Rattle.oz_model.proofs.SoundLemmas.{runs_are_sound}
use Rattle.oz_model.proofs.laws.runs_are_sound.Goals as goal

pub returns : goal.returns
returns c = record { equations = runs_are_sound; once = runs_are_once; nodes = nodes_are_well }
