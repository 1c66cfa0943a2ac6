-- What the check of a saved run finds.
use Rattle.std.specs.Prelude.{◌≡◌, ◌⊎◌, ℕ, List, length, Option, Some, None}
use Rattle.kernel_syntax.specs.declared.stmt.Stmt.{Stmt}
use Rattle.site_message.specs.declared.limits.Limits.{Limits}
use Rattle.site_message.specs.Journal.{end_of}
use Rattle.site_message.specs.declared.reason.Reason.{Reason}
use Rattle.site_message.specs.declared.turn.Turn.{Turn}
use Rattle.site_model.specs.Site.{Site}
use Rattle.world_model.specs.Schedule.{sum_to}
use Rattle.world_model.specs.Simulated.{last_ended, last_waiting}
use Rattle.run_file.specs.Saved.{SavedRun}
use Rattle.run_check.specs.Again.{AreMadeAgain, IsFrontMadeAgain, IsWrongAt}
use Rattle.run_check.specs.World.{limits_of}
use Rattle.oz_show.specs.Status.{end_line}
use Rattle.oz_show.specs.declared.status.Status.{Status}
use Rattle.oz_show.specs.declared.status.Status.TheVariants.{Memory, Checked, Wrong}
use Rattle.oz_runner.specs.Ends.{status_of}
use Rattle.oz_runner.specs.OzCall.{RunOutput}

-- the status of a run that ended so, with these totals; of one that nothing ended it is want of memory
abbrev pub status_of_end : Option Reason → ℕ → ℕ → Status
status_of_end None ended waiting = Memory
status_of_end (Some reason) ended waiting = status_of reason ended waiting

-- the status of a run that has this journal: how it ended, with what the sites told last
abbrev pub status_after : Limits → List Turn → Status
status_after l j = status_of_end (end_of l j) (sum_to l.sites (last_ended j)) (sum_to l.sites (last_waiting j))

-- the entries of the saved run were all made again, and led to this journal
abbrev pub IsMadeOf : List Stmt → SavedRun → List Turn → Type 0
IsMadeOf p file j = (w : ℕ → Site) × AreMadeAgain p (limits_of file) j file.entries w

-- its end line is that of a run that has this journal
abbrev pub HasEndOf : SavedRun → List Turn → Type 0
HasEndOf file j = file.end ≡ end_line (status_after (limits_of file) j)

-- the saved run is wrong at this place: at the first entry that is wrong, counted from 0, those before which led to this journal; or all
-- were made again, and its end line is another, which is told as the number of the entries
abbrev pub IsWrongRun : List Stmt → SavedRun → List Turn → ℕ → Type 0
IsWrongRun p file j at =
    IsWrongAt p (limits_of file) file.entries at j
    ⊎ (IsMadeOf p file j × (at ≡ length file.entries) × (HasEndOf file j → ⊥))

-- the saved run is right: its entries were all made again, its end line is that of the run, and so many are the entries and the picks
abbrev pub IsRight : List Stmt → SavedRun → RunOutput → ℕ → ℕ → Type 0
IsRight p file made entries picks =
    IsMadeOf p file made.journal × HasEndOf file made.journal × (entries ≡ length made.journal) × (picks ≡ length made.schedule)

-- a front of the entries of the saved run was made again, and led to this journal
abbrev pub IsFrontOf : List Stmt → SavedRun → List Turn → Type 0
IsFrontOf p file j = IsFrontMadeAgain p (limits_of file) j file.entries

-- what the check of a saved run of the program comes to: it is right, or wrong at this place; or memory was wanting behind a front of it
abbrev pub IsFound : List Stmt → SavedRun → RunOutput → Status → Type 0
IsFound p file made (Checked entries picks) = IsRight p file made entries picks
IsFound p file made (Wrong at) = IsWrongRun p file made.journal at
IsFound p file made Memory = IsFrontOf p file made.journal
IsFound p file made _ = ⊥
