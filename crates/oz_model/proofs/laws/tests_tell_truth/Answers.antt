use Rattle.oz_model.proofs.TestLemmas.{tests_tell_truth}
use Rattle.oz_model.proofs.laws.tests_tell_truth.Goals as goal

pub returns : goal.returns
returns c = tests_tell_truth
