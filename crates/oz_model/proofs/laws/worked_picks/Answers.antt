use Rattle.oz_model.proofs.RowsRun.{skip_ends, are_refused, marks_catch}
use Rattle.oz_model.proofs.laws.worked_picks.Goals as goal

pub returns : goal.returns
returns c = record { ends = skip_ends; refused = are_refused; raising = marks_catch }
