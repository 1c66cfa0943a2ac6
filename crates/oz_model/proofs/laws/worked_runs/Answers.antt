use Rattle.oz_model.proofs.RowsRun.{integer_is_printed, failure_is_reported, unbound_is_awaited, atom_is_printed, atom_is_printed_too}
use Rattle.oz_model.proofs.laws.worked_runs.Goals as goal

pub returns : goal.returns
returns c = record {
  integer = integer_is_printed;
  failure = failure_is_reported;
  unbound = unbound_is_awaited;
  atom = atom_is_printed;
  upward = atom_is_printed_too;
}
