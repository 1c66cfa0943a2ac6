use Rattle.std.proofs.Common.{◌∙◌, sym}
use Rattle.world_core.proofs.QueueLemmas.{with_same}
use Rattle.world_core.proofs.queue.put.Goals as goal

pub push_last-requires-clause-behind : goal.push_last-requires-clause-behind
push_last-requires-clause-behind c = c.is_behind.ensures c.if-is_behind.true

pub put_at-requires-clause-absent : goal.put_at-requires-clause-absent
put_at-requires-clause-absent c = sym c.is_at.ensures.queued ∙ c.if-is_at.false

pub returns-then-is_at-clause-ok : goal.returns-then-is_at-clause-ok
returns-then-is_at-clause-ok c k = with_same c.args.numbers.now.items c.args.number k (sym c.is_at.ensures.queued ∙ c.if-is_at.true)
