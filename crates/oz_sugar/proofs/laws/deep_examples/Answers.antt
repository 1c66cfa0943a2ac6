use Rattle.oz_sugar.proofs.WorkedRows.{leaf_fits, parts_go_deeper, parts_fit, brackets_take_no_level, finally_takes_two_levels}
use Rattle.oz_sugar.proofs.laws.deep_examples.Goals as goal

pub returns : goal.returns
returns c = record {
  leaf_fits = leaf_fits;
  parts_go_deeper = parts_go_deeper;
  parts_fit = parts_fit;
  brackets_take_no_level = brackets_take_no_level;
  finally_takes_two_levels = finally_takes_two_levels;
}
