use Rattle.std.proofs.Common.{◌^◌, ◌<◌}
use Rattle.tree_store.proofs.LinkLemmas.{IsOnTheWay}
use Rattle.tree_store.proofs.links.Links.top.Given as goal

abbrev pub invariant-parents : goal.invariant-parents
invariant-parents l = IsOnTheWay l.self l.fn.var l.step l.at l.entry × (l.entry.size < 2 ^ 64)
