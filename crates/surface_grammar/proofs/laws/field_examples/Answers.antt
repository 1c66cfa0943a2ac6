use Rattle.surface_grammar.proofs.WorkedRows.{integer_is_value, twice_by_position, twice_by_feature, twice_before_refusal, unbound_primary}
use Rattle.surface_grammar.proofs.laws.field_examples.Goals as goal

pub returns : goal.returns
returns c = record {
  integer_is_value = integer_is_value;
  twice_by_position = twice_by_position;
  twice_by_feature = twice_by_feature;
  twice_before_refusal = twice_before_refusal;
  unbound_primary = unbound_primary;
}
