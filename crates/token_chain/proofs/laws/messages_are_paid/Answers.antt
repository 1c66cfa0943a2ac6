use Rattle.token_chain.proofs.TallyLemmas as tally
use Rattle.token_chain.proofs.laws.messages_are_paid.Goals as goal

pub returns-clause-making : goal.returns-clause-making
returns-clause-making c = tally.making_tallies

pub returns-clause-replies : goal.returns-clause-replies
returns-clause-replies c = tally.replies_pay

pub returns-clause-bound : goal.returns-clause-bound
returns-clause-bound c = tally.tallies_bound

pub returns-clause-rows : goal.returns-clause-rows
returns-clause-rows c = tally.rows_pay

pub returns-clause-kinds : goal.returns-clause-kinds
returns-clause-kinds c = tally.kinds_bound
