use Rattle.surface_grammar.proofs.WorkedRows.{factorial_passes, clauses_pass, finally_passes, tests_pass, labels_pass}
use Rattle.surface_grammar.proofs.laws.passing_examples.Goals as goal

pub returns : goal.returns
returns c = record {
  factorial_passes = factorial_passes;
  clauses_pass = clauses_pass;
  finally_passes = finally_passes;
  tests_pass = tests_pass;
  labels_pass = labels_pass;
}
