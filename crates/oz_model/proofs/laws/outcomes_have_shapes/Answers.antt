use Rattle.oz_model.proofs.ShapeLemmas.{comes_to}
use Rattle.oz_model.proofs.laws.outcomes_have_shapes.Goals as goal

pub returns : goal.returns
returns c = comes_to
