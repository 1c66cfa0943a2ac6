-- What a call has to write, and by which pieces.
use Rattle.std.specs.Prelude.{◌≡◌, ◌≢◌, ◌⊎◌, ℕ, List, [], ◌∷◌, ◌++◌, Contains}
use Rattle.tree_node.specs.State.{State}
use Rattle.oz_base.specs.Streams.{IsRestOf}
use Rattle.oz_model.specs.Output.{output}
use Rattle.run_file.specs.Saved.{Saved}
use Rattle.run_file.specs.Writing.{run_of}
use Rattle.oz_words.specs.declared.options.Action.TheVariants as action
use Rattle.oz_words.specs.declared.options.Options.{Options}
use Rattle.oz_show.specs.Status.{end_line}
use Rattle.oz_show.specs.declared.status.Status.{Status}
use Rattle.oz_show.specs.declared.status.Status.TheVariants.{Wrong}
use Rattle.oz_runner.specs.OzCall.{OzCall, RunOutput}
use Rattle.oz_runner.specs.Cause.{HasOptions, HasProgram}
use Rattle.oz_runner.specs.Checking.{status_after}
use Rattle.oz_runner.specs.Run.{IsRun, limits_of}

-- lines and an end line, or a saved run
pub data Due : Type 0 where
  Lines : (lines : List (List ℕ)) (end : List ℕ) → Due
  File : (bytes : List ℕ) → Due

-- its bytes: each line with its newline, and then the end line; or the text of the saved run
abbrev pub due_bytes : Due → List ℕ
due_bytes (Lines lines end) = output lines end
due_bytes (File bytes) = bytes

-- one of these lines with its newline, or a back of that
abbrev pub IsRestOfLine : List (List ℕ) → List ℕ → Type 0
IsRestOfLine lines rest = (line : List ℕ) × Contains lines line × IsRestOf (line ++ 10 ∷ []) rest

-- one of these lines with its newline, or the piece of the end line, or a back of one of these
abbrev pub IsRestOfOutput : List (List ℕ) → List ℕ → List ℕ → Type 0
IsRestOfOutput lines end rest = IsRestOfLine lines rest ⊎ IsRestOf end rest

-- a piece of what is due, or a back of one: of the lines or the end line, with its newline; or of the saved run
abbrev pub IsRestOfDue : Due → List ℕ → Type 0
IsRestOfDue (Lines lines end) rest = IsRestOfOutput lines (end ++ 10 ∷ []) rest
IsRestOfDue (File bytes) rest = IsRestOf bytes rest

-- the lines that stand before the end line of a status: those of the run, but none where a saved run is wrong
abbrev pub lines_before : Status → List (List ℕ) → List (List ℕ)
lines_before (Wrong at) lines = []
lines_before _ lines = lines

-- the run is to be saved: the words are `save`, and the sites made turns
abbrev pub IsToBeSaved : OzCall → RunOutput → Type 0
IsToBeSaved seen made = ((options : Options) × HasOptions seen options × (options.action ≡ action.Save)) × (made.journal ≢ [])

-- the bytes are the text of the saved run of what was made: it has the text that was run, the limits, the journal of the sites, and the
-- end line of the status, which is that of a run with this journal
pub record IsFileDue (seen : OzCall) (made : RunOutput) (worked : Status) (bytes : List ℕ) : Type 0 where
  pub given : HasProgram seen
  pub s : State
  pub run : IsRun given.program given.options made s
  pub ends : worked ≡ status_after (limits_of given.options) made.journal
  pub saved : Saved (run_of given.text (limits_of given.options) made.journal (end_line worked)) bytes

-- What is to be written of what was made, where the work came to this status: the lines and the end line; but of a run that is to be
-- saved its saved run alone
abbrev pub IsDue : OzCall → RunOutput → Status → Due → Type 0
IsDue seen made worked (Lines lines end) =
    (lines ≡ lines_before worked made.lines) × (end ≡ end_line worked) × (IsToBeSaved seen made → ⊥)
IsDue seen made worked (File bytes) = IsToBeSaved seen made × IsFileDue seen made worked bytes
