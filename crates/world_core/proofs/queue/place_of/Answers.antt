use Rattle.std.proofs.Common.{rules, ℕ, of_calls}
use Rattle.std.specs.Prelude.{nat_lt}
use Rattle.std.proofs.lemmas.Fn.{always_returns_same}
use Rattle.world_core.proofs.QueueLemmas.{below_first}
use Rattle.world_core.proofs.queue.place_of.Goals as goal

pub returns-clause-among : goal.returns-clause-among
returns-clause-among c =
    c.partition_point.ensures.partitioned (λ (k : ℕ). nat_lt k c.args.number) (always_returns_same _ _ _ (λ a r f k. search (rules, of_calls)))
    (below_first c.args.numbers.now.items c.args.number c.requires)
