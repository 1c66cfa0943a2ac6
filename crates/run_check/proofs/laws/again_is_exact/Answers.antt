use Rattle.run_check.proofs.AgainLemmas.{run_law, one_law, both_law, wrong_law, run_not_wrong_law, run_again_law}
use Rattle.run_check.proofs.laws.again_is_exact.Goals as goal

pub returns : goal.returns
returns c = record { run = run_law; one = one_law; apart = both_law; first = wrong_law; right = run_not_wrong_law; same = run_again_law }
