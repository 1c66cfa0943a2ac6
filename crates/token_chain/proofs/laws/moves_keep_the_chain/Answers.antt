use Rattle.token_chain.proofs.MoveLemmas as move
use Rattle.token_chain.proofs.laws.moves_keep_the_chain.Goals as goal

pub returns-clause-making : goal.returns-clause-making
returns-clause-making c = move.making_starts

pub returns-clause-asking : goal.returns-clause-asking
returns-clause-asking c = move.asking_keeps

pub returns-clause-waiting : goal.returns-clause-waiting
returns-clause-waiting c = move.waiting_keeps

pub returns-clause-own_asking : goal.returns-clause-own_asking
returns-clause-own_asking c = move.own_asking_keeps

pub returns-clause-get : goal.returns-clause-get
returns-clause-get c = move.get_keeps

pub returns-clause-forward : goal.returns-clause-forward
returns-clause-forward c = move.forward_keeps

pub returns-clause-put : goal.returns-clause-put
returns-clause-put c = move.put_keeps

pub returns-clause-exchange : goal.returns-clause-exchange
returns-clause-exchange c = move.exchange_keeps

pub returns-clause-nothing : goal.returns-clause-nothing
returns-clause-nothing c = move.nothing_keeps

pub returns-clause-unit : goal.returns-clause-unit
returns-clause-unit c = move.unit_keeps
