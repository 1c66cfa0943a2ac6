-- What the work left: the status of a run's end, the journal, the schedule and the lines, and whether they are of sites.
use Rattle.std.specs.Prelude.{ℕ, List, []}
use Rattle.site_message.specs.declared.reason.Reason.{Reason}
use Rattle.site_message.specs.declared.reason.Reason.TheVariants as reason
use Rattle.site_message.specs.declared.turn.Turn.{Turn}
use Rattle.world_model.specs.Schedule.{lines_in}
use Rattle.oz_words.specs.declared.options.Action.{Action}
use Rattle.oz_words.specs.declared.options.Action.TheVariants as action
use Rattle.oz_show.specs.declared.status.Status.{Status}
use Rattle.oz_show.specs.declared.status.Status.TheVariants.{Quiescent, StepLimit, MessageLimit, Memory}
use Rattle.oz_runner.specs.declared.work.RunLines.{RunLines}
use Rattle.oz_runner.specs.declared.work.RunLines.TheVariants as printed
use Rattle.oz_runner.specs.declared.work.Work.{Work}
use Rattle.oz_runner.specs.OzCall.{RunOutput, run_output_of}

-- a program runs over the sites, anew
abbrev pub IsOverSites : Action → Type 0
IsOverSites action.Run = Unit {0}
IsOverSites (action.Gen size) = Unit {0}
IsOverSites action.Save = Unit {0}
IsOverSites action.Central = ⊥
IsOverSites action.Check = ⊥

-- the status of a run that ended for this reason
abbrev pub status_of : Reason → ℕ → ℕ → Status
status_of reason.Quiet ended waiting = Quiescent ended waiting
status_of (reason.Steps site) ended waiting = StepLimit site
status_of reason.Messages ended waiting = MessageLimit
status_of reason.Memory ended waiting = Memory

-- the journal of the sites; the machine has none
abbrev pub journal_of : RunLines → List Turn
journal_of (printed.Sites journal) = journal
journal_of (printed.Machine lines) = []
journal_of (printed.Saved journal file) = journal

-- the lines of the turns, or those of the machine
abbrev pub lines_of : RunLines → List (List ℕ)
lines_of (printed.Sites journal) = lines_in journal
lines_of (printed.Machine lines) = lines.items
lines_of (printed.Saved journal file) = lines_in journal

-- the journal, the schedule and the lines of the work
abbrev pub output_of_work : Work → RunOutput
output_of_work work = run_output_of (journal_of work.printed) work.schedule (lines_of work.printed)
