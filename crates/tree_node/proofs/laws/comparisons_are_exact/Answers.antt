use Rattle.tree_node.proofs.CompareLaws.{equal_is_told, equal_is_found, different_is_told, different_is_found, open_is_told, open_is_all, never_both}
use Rattle.tree_node.proofs.laws.comparisons_are_exact.Goals as goal

pub returns : goal.returns
returns c = record {
  equal = equal_is_told;
  equal_found = equal_is_found;
  different = different_is_told;
  different_found = different_is_found;
  open_told = open_is_told;
  all = open_is_all;
  one = never_both;
}
