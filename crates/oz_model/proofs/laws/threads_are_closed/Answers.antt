use Rattle.oz_model.proofs.ThreadLemmas.{effects_are_named, needs_are_named, opens_are_named, effects_are_covered, effects_have_nodes}
use Rattle.oz_model.proofs.laws.threads_are_closed.Goals as goal

pub returns : goal.returns
returns c = record { names = effects_are_named; waits = needs_are_named; opens = opens_are_named; covered = effects_are_covered; nodes = effects_have_nodes }
