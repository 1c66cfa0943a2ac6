-- What a call of `oz` promises.
use Rattle.oz_show.specs.Status.{HasLine}
use Rattle.oz_show.specs.declared.status.Status.{Status}
use Rattle.oz_runner.specs.OzCall.{OzCall, RunOutput}
use Rattle.oz_runner.specs.Cause.{Cause}
use Rattle.oz_runner.specs.Due.{Due, IsDue, due_bytes}
use Rattle.oz_runner.specs.Writing.{IsOutputTaken}

-- The work came to a status, which has its cause: where it is that of a run, the lines are those of the centralised
-- machine under the schedule, and where it is quiescent that machine has no step left. What is due was written, or the sink failed and
-- took a front of it: the lines and the end line of this status, each with its newline, or the saved run that has these lines. And the
-- status that is answered has its cause too
pub record Headline (seen : OzCall) (made : RunOutput) (status : Status) : Type 0 where
  pub worked : Status
  pub has_line : HasLine worked
  pub cause : Cause seen made worked
  pub due : Due
  pub is_due : IsDue seen made worked due
  pub written : IsOutputTaken seen.sink (due_bytes due) worked status
  pub answered : Cause seen made status
