use Rattle.std.proofs.Common.{◌≡◌, drop, length, map}
use Rattle.tree_node.specs.Compare.{paired}
use Rattle.tree_node.specs.ClassPairs.{equal_pair, roots, all_new}
use Rattle.tree_store.proofs.compare.add_parts.Given as goal

abbrev pub invariant-loop-at : goal.invariant-loop-at
invariant-loop-at l = record {
  same_length : length l.fields ≡ length l.others;
  rest : all_new equal_pair l.initial.pairs (map (roots l.store.equations) (paired l.fields l.others)) ≡ all_new equal_pair l.pairs (map (roots l.store.equations) (paired (drop l.at l.fields) (drop l.at l.others)));
}
