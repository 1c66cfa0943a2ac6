use Rattle.run_check.proofs.PrintLemmas.{printed_law}
use Rattle.run_check.proofs.SaveLemmas.{save_law}
use Rattle.run_check.proofs.laws.runs_have_texts.Goals as goal

pub returns : goal.returns
returns c = record { lines = printed_law; entries = save_law }
