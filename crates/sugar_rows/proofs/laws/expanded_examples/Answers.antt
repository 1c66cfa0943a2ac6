use Rattle.sugar_rows.proofs.WorkedRows.{parts_are_named, tests_are_named, variables_stay, brackets_are_named, fields_are_named, result_is_formal, branches_tell, clauses_nest, finally_runs}
use Rattle.sugar_rows.proofs.laws.expanded_examples.Goals as goal

pub returns : goal.returns
returns c = record {
  parts_are_named = parts_are_named;
  tests_are_named = tests_are_named;
  variables_stay = variables_stay;
  brackets_are_named = brackets_are_named;
  fields_are_named = fields_are_named;
  result_is_formal = result_is_formal;
  branches_tell = branches_tell;
  clauses_nest = clauses_nest;
  finally_runs = finally_runs;
}
