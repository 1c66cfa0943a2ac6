use Rattle.plain_run.proofs.ReachLemmas.{some_is_busy}
use Rattle.plain_run.proofs.rounds.next_in_rounds.Goals as goal

-- Where no site has a message or can go on the run has ended.
pub unreachable-requires : goal.unreachable-requires
unreachable-requires c = some_is_busy c.args.limits c.args.world.now c.requires.program c.requires.limits c.requires.going (λ i a b. c.in_default.ensures i a b)
