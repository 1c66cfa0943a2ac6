use Rattle.std.proofs.Common.{◌-◌}
use Rattle.tree_node.proofs.LookedLemmas.{IsLooked, most_pairs}
use Rattle.tree_store.proofs.compare.search_on.Given as goal

abbrev pub invariant-pairs : goal.invariant-pairs
invariant-pairs g l = IsLooked l.store.equations g.sides l.fn.pairs l.pairs l.open_vars l.at

abbrev pub decreases-pairs : goal.decreases-pairs
decreases-pairs g l = most_pairs l.store.equations g.sides l.fn.pairs - l.at
