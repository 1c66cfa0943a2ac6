use Rattle.world_answers.proofs.JournalLemmas.{few_cell_messages, few_answers, requests_balance}
use Rattle.world_answers.proofs.SimulatedLemmas.{fit_runs_are_simulated}
use Rattle.world_answers.proofs.laws.fit_runs_are_simulated.Goals as goal

pub returns : goal.returns
returns c = record { simulated = fit_runs_are_simulated; few = few_cell_messages; answers = few_answers; balance = requests_balance }
