use Rattle.oz_grammar.proofs.WorkedRows.{hidden_built_in, hidden_counts, pattern_order, bodies_in_preorder, example_reads, example_is_canonical}
use Rattle.oz_grammar.proofs.laws.read_examples.Goals as goal

pub returns : goal.returns
returns c = record {
  hidden_built_in = hidden_built_in;
  hidden_counts = hidden_counts;
  pattern_order = pattern_order;
  preorder = bodies_in_preorder;
  reads = example_reads;
  canonical = example_is_canonical;
}
