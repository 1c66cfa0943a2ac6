use Rattle.surface_grammar.proofs.WorkedRows.{fun_needs_brace, browse_needs_value, try_needs_handler, operators_need_brackets, tests_need_brackets, test_needs_value, if_needs_else, call_needs_close, case_needs_else}
use Rattle.surface_grammar.proofs.laws.expected_examples.Goals as goal

pub returns : goal.returns
returns c = record {
  fun_needs_brace = fun_needs_brace;
  browse_needs_value = browse_needs_value;
  try_needs_handler = try_needs_handler;
  operators_need_brackets = operators_need_brackets;
  tests_need_brackets = tests_need_brackets;
  test_needs_value = test_needs_value;
  if_needs_else = if_needs_else;
  call_needs_close = call_needs_close;
  case_needs_else = case_needs_else;
}
