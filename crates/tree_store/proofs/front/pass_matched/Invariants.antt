use Rattle.std.proofs.Common.{◌-◌, ◌≤◌}
use Rattle.tree_node.proofs.LookedLemmas.{IsAdded, most_pairs}
use Rattle.tree_store.specs.Front.{IsMatchedFront}
use Rattle.tree_store.proofs.front.pass_matched.Given as goal

abbrev pub invariant-pairs : goal.invariant-pairs
invariant-pairs g l = record {
  matched : IsMatchedFront g.sides l.store.equations l.front.pairs l.front.at;
  place : l.fn.front.at ≤ l.front.at;
  added : IsAdded l.store.equations g.sides l.fn.front.pairs l.front.pairs;
}

abbrev pub decreases-pairs : goal.decreases-pairs
decreases-pairs g l = most_pairs l.store.equations g.sides l.fn.front.pairs - l.front.at
