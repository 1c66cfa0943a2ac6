use Rattle.thread_roster.proofs.ConsistencyLemmas.{forgotten}
use Rattle.thread_roster.proofs.roster.enqueue.Goals as goal

pub returns-in-Err-clause-same : goal.returns-in-Err-clause-same
returns-in-Err-clause-same c = forgotten c.args.by_name.now c.add.new.self c.forget.new.self c.args.name c.args.slot c.requires c.in_ok-add.ensures.ok c.forget.ensures
