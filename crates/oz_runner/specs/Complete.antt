-- Where nothing stands in the way, the program runs to its end.
use Rattle.std.specs.Prelude.{◌≡◌, ◌≤◌, ℕ, List, length, Some}
use Rattle.std.specs.Str.{IsUtf8}
use Rattle.kernel_syntax.specs.declared.stmt.Stmt.{Stmt}
use Rattle.oz_sugar.specs.Texts.{Reads}
use Rattle.large_run.specs.Text.{large_text}
use Rattle.run_file.specs.Saved.{SavedRun, Saved}
use Rattle.oz_words.specs.declared.options.Action.{Action}
use Rattle.oz_words.specs.declared.options.Action.TheVariants as action
use Rattle.oz_words.specs.declared.options.Options.{Options}
use Rattle.oz_show.specs.declared.status.Status.{Status}
use Rattle.oz_show.specs.declared.status.Status.TheVariants.{Quiescent, StepLimit, MessageLimit, Memory, Checked, Wrong}
use Rattle.oz_runner.specs.OzCall.{OzCall, Stream}
use Rattle.oz_runner.specs.Cause.{HasFault, HasOptions, file_limit, text_limit}

-- the source has a saved run, where it tells that, and its text is this
abbrev pub HasFileText : Stream → List ℕ → Type 0
HasFileText source text =
    (bytes : List ℕ) × (source.bytes_before ≡ Some bytes) × (length bytes ≤ file_limit)
    × ((file : SavedRun) × Saved file bytes × (text ≡ file.text))

-- the text that is to be run: what the source has, where it tells that and it is short enough, or the large text of the size; or with
-- `check` that of a saved run which the source has
abbrev pub HasText : Action → Stream → List ℕ → Type 0
HasText (action.Gen size) source text = text ≡ large_text size
HasText action.Check source text = HasFileText source text
HasText _ source text = (source.bytes_before ≡ Some text) × (length text ≤ text_limit)

-- the words are taken, the text is told, short enough and UTF-8, it reads a program, and there was no fault
pub record IsGood (seen : OzCall) : Type 0 where
  pub options : Options
  pub says : HasOptions seen options
  pub text : List ℕ
  pub told : HasText options.action seen.source text
  pub utf8 : IsUtf8 text
  pub program : List Stmt
  pub reads : Reads text program
  pub read : HasFault seen.source → ⊥
  pub wrote : HasFault seen.sink → ⊥

-- quiescent, or stopped by a limit, or out of memory; or a saved run was made again, whole, or as far as it is right
abbrev pub IsDone : Status → Type 0
IsDone (Quiescent ended waiting) = Unit {0}
IsDone (StepLimit site) = Unit {0}
IsDone MessageLimit = Unit {0}
IsDone Memory = Unit {0}
IsDone (Checked entries picks) = Unit {0}
IsDone (Wrong at) = Unit {0}
IsDone _ = ⊥
