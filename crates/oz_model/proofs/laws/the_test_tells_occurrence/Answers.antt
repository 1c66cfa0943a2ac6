use Rattle.oz_model.proofs.OccursLemmas.{test_tells_new, test_tells_occurs}
use Rattle.oz_model.proofs.laws.the_test_tells_occurrence.Goals as goal

pub returns : goal.returns
returns c = record { new = test_tells_new; occurs = test_tells_occurs }
