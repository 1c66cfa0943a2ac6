-- By which pieces the lines are written.
use Rattle.std.specs.Prelude.{ℕ, List}
use Rattle.std.specs.declared.option.Option.{Option}
use Rattle.tree_node.specs.declared.pick.Pick.{Pick}
use Rattle.oz_base.specs.Streams.{HandsInOnly}
use Rattle.site_message.specs.declared.turn.Turn.{Turn}
use Rattle.oz_show.specs.declared.status.Status.{Status}
use Rattle.oz_runner.specs.OzCall.{OzCall, run_output_of}
use Rattle.oz_runner.specs.Due.{IsRestOfDue}
use Rattle.oz_runner.specs.Headline.{Headline}

-- where the sink tells the pieces that its calls were handed: each of them is one of the lines of which the headline speaks, or its
-- end line, with its newline, or the saved run, or a back of one of these
abbrev pub IsWrittenByLine : OzCall → List Turn → List Pick → Status → Option (List (List ℕ)) → Option (List (List ℕ)) → Type 0
IsWrittenByLine seen j picks status old new =
    (lines : List (List ℕ)) × (whole : Headline seen (run_output_of j picks lines) status)
    × HandsInOnly old new (IsRestOfDue whole.due)
