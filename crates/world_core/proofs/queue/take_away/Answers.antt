use Rattle.world_core.proofs.queue.take_away.Goals as goal

pub take_at-requires-clause-inside : goal.take_at-requires-clause-inside
take_at-requires-clause-inside c = c.is_at.ensures.inside c.if-is_at.true

pub take_at-requires-clause-there : goal.take_at-requires-clause-there
take_at-requires-clause-there c = c.is_at.ensures.there c.if-is_at.true
