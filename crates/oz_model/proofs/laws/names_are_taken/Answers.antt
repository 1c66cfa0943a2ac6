use Rattle.oz_model.proofs.TakenLemmas.{runs_are_covered, names_are_taken}
use Rattle.oz_model.proofs.laws.names_are_taken.Goals as goal

pub returns : goal.returns
returns c = record { covered = runs_are_covered; taken = names_are_taken }
