use Rattle.surface_grammar.proofs.WorkedRows.{variables_take_no_level, parts_take_level, tests_take_level, dots_take_levels, three_levels, two_levels, lists_take_levels, tail_is_too_deep}
use Rattle.surface_grammar.proofs.laws.level_examples.Goals as goal

pub returns : goal.returns
returns c = record {
  variables_take_no_level = variables_take_no_level;
  parts_take_level = parts_take_level;
  tests_take_level = tests_take_level;
  dots_take_levels = dots_take_levels;
  three_levels = three_levels;
  two_levels = two_levels;
  lists_take_levels = lists_take_levels;
  tail_is_too_deep = tail_is_too_deep;
}
