-- How the work holds what is to be written.
use Rattle.std.specs.Prelude.{◌≡◌, ◌⊎◌, ℕ, List, [], ◌++◌}
use Rattle.oz_base.specs.Streams.{IsRestOf}
use Rattle.oz_model.specs.Output.{pieces_of}
use Rattle.site_message.specs.declared.turn.Turn.{Turn}
use Rattle.run_file.specs.Writing.{AreNumbered, saved_text}
use Rattle.oz_words.specs.declared.options.Options.{Options}
use Rattle.oz_show.specs.Status.{end_line}
use Rattle.oz_show.specs.declared.status.Status.{Status}
use Rattle.oz_show.specs.declared.status.Status.TheVariants.{Memory}
use Rattle.oz_runner.specs.declared.work.RunLines.{RunLines}
use Rattle.oz_runner.specs.declared.work.RunLines.TheVariants as printed
use Rattle.oz_runner.specs.declared.work.Work.{Work}
use Rattle.oz_runner.specs.OzCall.{OzCall, RunOutput}
use Rattle.oz_runner.specs.Due.{Due, Lines, File, IsDue, IsRestOfOutput, IsToBeSaved, lines_before}
use Rattle.oz_runner.specs.Ends.{journal_of, lines_of, output_of_work}
use Rattle.oz_runner.specs.Run.{limits_of}

-- there is no saved run
abbrev pub IsPlain : RunLines → Type 0
IsPlain (printed.Sites journal) = Unit {0}
IsPlain (printed.Machine lines) = Unit {0}
IsPlain (printed.Saved journal file) = ⊥

-- what is due of this, with the end line of the status
abbrev pub due_of : RunLines → Status → Due
due_of (printed.Sites journal) worked = Lines (lines_before worked (lines_of (printed.Sites journal))) (end_line worked)
due_of (printed.Machine lines) worked = Lines (lines_before worked lines.items) (end_line worked)
due_of (printed.Saved journal file) worked = File file

-- the bytes of what is due, with the piece of the end line
abbrev pub bytes_due : RunLines → Status → List ℕ → List ℕ
bytes_due (printed.Sites journal) status end = pieces_of (lines_before status (lines_of (printed.Sites journal))) ++ end
bytes_due (printed.Machine lines) status end = pieces_of (lines_before status lines.items) ++ end
bytes_due (printed.Saved journal file) status end = file

-- a piece of it, or a back of one
abbrev pub IsRestOfWork : RunLines → Status → List ℕ → List ℕ → Type 0
IsRestOfWork (printed.Sites journal) status end rest = IsRestOfOutput (lines_before status (lines_of (printed.Sites journal))) end rest
IsRestOfWork (printed.Machine lines) status end rest = IsRestOfOutput (lines_before status lines.items) end rest
IsRestOfWork (printed.Saved journal file) status end rest = IsRestOf file rest

-- the work has its saved run where it is to be saved, and nowhere else
abbrev pub IsReadyAs : OzCall → RunOutput → Status → RunLines → Type 0
IsReadyAs seen made status (printed.Sites journal) = IsToBeSaved seen made → ⊥
IsReadyAs seen made status (printed.Machine lines) = IsToBeSaved seen made → ⊥
IsReadyAs seen made status (printed.Saved journal file) = IsDue seen made status (File file)

abbrev pub IsReady : OzCall → Work → Type 0
IsReady seen work = IsReadyAs seen (output_of_work work) work.status work.printed

-- nothing is told of the run, for want of memory
pub record IsGivenUp (work : Work) : Type 0 where
  pub status : work.status ≡ Memory
  pub journal : journal_of work.printed ≡ []
  pub schedule : work.schedule ≡ []
  pub lines : lines_of work.printed ≡ []
  pub plain : IsPlain work.printed

-- the run has its saved run, of this text
pub record IsWithFile (text : List ℕ) (options : Options) (old new : Work) : Type 0 where
  pub journal : List Turn
  pub file : List ℕ
  pub some : journal ≡ [] → ⊥
  pub was : old.printed ≡ printed.Sites journal
  pub is : new.printed ≡ printed.Saved journal file
  pub status : new.status ≡ old.status
  pub schedule : new.schedule ≡ old.schedule
  pub spelled : file ≡ saved_text text (limits_of options) journal (end_line old.status)
  pub numbered : AreNumbered journal

-- what is made of a run that is to be saved: nothing else where the sites made no turn; or it has its saved run; or nothing is told of it
abbrev pub IsSavedAs : List ℕ → Options → Work → Work → Type 0
IsSavedAs text options old new = ((new ≡ old) × (journal_of old.printed ≡ [])) ⊎ IsWithFile text options old new ⊎ IsGivenUp new
