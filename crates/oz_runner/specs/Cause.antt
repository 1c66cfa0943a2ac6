-- Why a status comes: each with its cause.
use Rattle.std.specs.Prelude.{◌≡◌, ◌<◌, ◌≤◌, ◌⊎◌, ℕ, List, [], length, Option, Some, None, Ok, Err}
use Rattle.std.specs.Str.{IsUtf8, IsValidUpTo}
use Rattle.std.specs.Io.KnownBytes.{Consumes, IsAtEnd}
use Rattle.oz_base.specs.Streams.{HasRisen}
use Rattle.tree_node.specs.State.{State}
use Rattle.kernel_syntax.specs.declared.stmt.Stmt.{Stmt}
use Rattle.oz_sugar.specs.Texts.{Reads, FaultOf}
use Rattle.oz_words.specs.Words.{InRange, ReadsWords}
use Rattle.large_run.specs.Text.{large_text}
use Rattle.run_file.specs.Saved.{SavedRun, Saved, IsFirstFault}
use Rattle.byte_fields.specs.declared.fault.FileFault.TheVariants.{Bad}
use Rattle.oz_words.specs.declared.options.Action.{Action}
use Rattle.oz_words.specs.declared.options.Action.TheVariants as action
use Rattle.oz_words.specs.declared.options.Options.{Options}
use Rattle.oz_words.specs.declared.options.WordsError.TheVariants as words_error
use Rattle.oz_show.specs.declared.status.Status.{Status}
use Rattle.oz_show.specs.declared.status.Status.TheVariants.{Usage, Refused, NotUtf8, TooLong, ReadFault, WriteFault, Memory, Checked, Wrong, BadFile}
use Rattle.oz_runner.specs.OzCall.{Stream, OzCall, RunOutput}
use Rattle.oz_runner.specs.Checking.{IsFrontOf, IsRight, IsWrongRun}
use Rattle.oz_runner.specs.Run.{IsRun, IsStatusOfRun}

-- the most bytes of a text
abbrev pub text_limit : ℕ
text_limit = 1048576

-- the most bytes of a saved run
abbrev pub file_limit : ℕ
file_limit = 268435456

-- the most bytes that the source may give
abbrev pub byte_limit : Action → ℕ
byte_limit action.Check = file_limit
byte_limit _ = text_limit

-- a call of the stream failed
abbrev pub HasFault : Stream → Type 0
HasFault s = HasRisen s.faults_before s.faults_after

-- no call of it failed
abbrev pub HasNoFault : Stream → Type 0
HasNoFault s = s.faults_after ≡ s.faults_before

-- the stream was not touched
abbrev pub IsUntouched : Stream → Type 0
IsUntouched s = (s.bytes_after ≡ s.bytes_before) × HasNoFault s

-- the source gave these bytes to its end without a fault, and they are no more than the limit
abbrev pub IsGiven : ℕ → Stream → List ℕ → Type 0
IsGiven limit s bytes = Consumes s.bytes_before s.bytes_after bytes × IsAtEnd s.bytes_after × (length bytes ≤ limit) × HasNoFault s

-- the source gave the text of this saved run
abbrev pub IsFileOfSource : Stream → SavedRun → Type 0
IsFileOfSource s file = (bytes : List ℕ) × IsGiven file_limit s bytes × Saved file bytes

-- there is a saved run, which the source gave, and its text is this
abbrev pub IsFileText : Option SavedRun → Stream → List ℕ → Type 0
IsFileText None source text = ⊥
IsFileText (Some file) source text = IsFileOfSource source file × (text ≡ file.text)

-- the text that is run: what the source gave, or with `gen` the large text of the size, and the source is not touched, or with `check`
-- that of the saved run which the source gave. With other words there is no saved run
abbrev pub IsTextOf : Action → Option SavedRun → Stream → List ℕ → Type 0
IsTextOf action.Check file source text = IsFileText file source text
IsTextOf (action.Gen size) None source text = (text ≡ large_text size) × IsUntouched source
IsTextOf _ None source text = IsGiven text_limit source text
IsTextOf _ (Some file) source text = ⊥

-- what is read is that of the source
abbrev pub ReadsSource : Action → Type 0
ReadsSource (action.Gen size) = ⊥
ReadsSource _ = Unit {0}

-- and it is a text
abbrev pub ReadsText : Action → Type 0
ReadsText (action.Gen size) = ⊥
ReadsText action.Check = ⊥
ReadsText _ = Unit {0}

-- nothing ran: there is no turn, no step and no line
abbrev pub NothingRan : RunOutput → Type 0
NothingRan made = (made.journal ≡ []) × (made.schedule ≡ []) × (made.lines ≡ [])

-- the words are taken, and these are their options
abbrev pub HasOptions : OzCall → Options → Type 0
HasOptions seen options = ReadsWords seen.words (Ok options)

-- the words are taken, and by them the source is read: the count of its faults is as the first fact says, and it gave a front of its
-- bytes, of whose length and the most that it may be the second holds
abbrev pub HasRead : OzCall → (Stream → Type 0) → (ℕ → ℕ → Type 0) → Type 0
HasRead seen Counts IsLength =
    (options : Options) × HasOptions seen options × ReadsSource options.action
    × (Counts seen.source
    × ((front : List ℕ) × Consumes seen.source.bytes_before seen.source.bytes_after front × IsLength (length front) (byte_limit options.action)))

-- with `check` the source gave bytes that are no saved run: this is the place of their first fault
abbrev pub HasBadFile : OzCall → ℕ → Type 0
HasBadFile seen at =
    (options : Options) × HasOptions seen options × (options.action ≡ action.Check)
    × ((bytes : List ℕ) × IsGiven file_limit seen.source bytes × IsFirstFault bytes (Bad at))

-- the words are taken, and this holds of what they say, and of the text that is run
abbrev pub HasRunText : OzCall → (Action → List ℕ → Type 0) → Type 0
HasRunText seen Holds =
    (options : Options) × HasOptions seen options
    × ((file : Option SavedRun) × (text : List ℕ) × IsTextOf options.action file seen.source text × Holds options.action text)

-- the options of the run: those of the words, or with `check` those of the saved run
abbrev pub options_with : Option SavedRun → Options → Options
options_with None words = words
options_with (Some file) words = record words { sites = file.sites; steps = file.steps; messages = file.messages }

-- the words are taken, the numbers of the run are in their ranges, and the text that is run reads a program; with `check` it is that of
-- this saved run
pub record HasProgram (seen : OzCall) : Type 0 where
  pub words : Options
  pub says : HasOptions seen words
  pub file : Option SavedRun
  pub text : List ℕ
  pub is_text : IsTextOf words.action file seen.source text
  pub options : Options
  pub with_file : options ≡ options_with file words
  pub range : InRange options
  pub utf8 : IsUtf8 text
  pub program : List Stmt
  pub reads : Reads text program

-- and the run of that program, made as the words say, came to this status
abbrev pub HasRunStatus : OzCall → RunOutput → Status → Type 0
HasRunStatus seen made status = (given : HasProgram seen) × IsStatusOfRun given.program given.options made status

-- the program is that of a saved run, what was made is a run of it, and this holds of both
abbrev pub HasFileRun : OzCall → RunOutput → (List Stmt → SavedRun → Type 0) → Type 0
HasFileRun seen made Holds =
    (given : HasProgram seen) × (file : SavedRun) × (given.file ≡ Some file)
    × ((s : State) × IsRun given.program given.options made s) × Holds given.program file

-- the run of that program found no memory; where it makes a saved run again, a front of the entries was made again
abbrev pub HasStopped : OzCall → RunOutput → Type 0
HasStopped seen made =
    (given : HasProgram seen) × IsStatusOfRun given.program given.options made Memory
    × ((file : SavedRun) → given.file ≡ Some file → IsFrontOf given.program file made.journal)

-- The cause of each status. Want of memory is the one free answer: it comes before anything ran, or for the saved run of what ran, and
-- then nothing is told, and the source was not read, or no more of it than may be; or it comes in a run, whose lines are those of the
-- schedule, and which is a front of the saved run where one is made again. A saved run that is wrong leaves the run of the entries before the place that is told. The last line is that of the other
-- ends of a run, `Quiescent`, `StepLimit` and `MessageLimit`
abbrev pub Cause : OzCall → RunOutput → Status → Type 0
Cause seen made Usage = ReadsWords seen.words (Err words_error.Usage) × IsUntouched seen.source × NothingRan made
Cause seen made ReadFault = HasRead seen HasFault (λ n most. n ≤ most) × NothingRan made
Cause seen made TooLong = HasRead seen HasNoFault (λ n most. most < n) × NothingRan made
Cause seen made (BadFile at) = HasBadFile seen at × NothingRan made
Cause seen made (NotUtf8 at) =
    HasRunText seen (λ a text. ReadsSource a × (IsUtf8 text → ⊥) × IsValidUpTo text at) × NothingRan made
Cause seen made (Refused fault) = HasRunText seen (λ a text. IsUtf8 text × FaultOf text fault) × NothingRan made
Cause seen made WriteFault = HasFault seen.sink
Cause seen made Memory = ((IsUntouched seen.source ⊎ HasRead seen HasNoFault (λ n most. n ≤ most)) × NothingRan made) ⊎ HasStopped seen made
Cause seen made (Checked entries picks) = HasFileRun seen made (λ p file. IsRight p file made entries picks)
Cause seen made (Wrong at) = HasFileRun seen made (λ p file. IsWrongRun p file made.journal at)
Cause seen made status = HasRunStatus seen made status
