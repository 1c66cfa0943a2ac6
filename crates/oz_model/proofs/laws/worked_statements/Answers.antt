use Rattle.oz_model.proofs.ExamplesRun.{procedure_is_called, field_is_matched, handler_has_exception, content_is_exchanged, pair_is_sent, thread_is_made, overflow_is_raised, integer_is_no_truth, same_is_equal, comparison_is_awaited}
use Rattle.oz_model.proofs.laws.worked_statements.Goals as goal

pub returns : goal.returns
returns c = record {
  procedure = procedure_is_called;
  matched = field_is_matched;
  handler = handler_has_exception;
  exchange = content_is_exchanged;
  sent = pair_is_sent;
  thread = thread_is_made;
  overflow = overflow_is_raised;
  truth = integer_is_no_truth;
  equal = same_is_equal;
  awaited = comparison_is_awaited;
}
