-- Which causes exclude each other, and what the check of a saved run comes to.
use Rattle.std.specs.Prelude.{◌≡◌, ◌<◌, ◌-◌, ◌^◌, ℕ, List, Some}
use Rattle.site_message.specs.declared.turn.Turn.{Turn}
use Rattle.oz_show.specs.declared.status.Status.{Status}
use Rattle.oz_show.specs.declared.status.Status.TheVariants.{WriteFault, Memory, TooLong, ReadFault, Checked}
use Rattle.oz_runner.specs.OzCall.{Stream, OzCall, RunOutput}
use Rattle.oz_words.specs.declared.options.Action.TheVariants as action
use Rattle.oz_words.specs.declared.options.Options.{Options}
use Rattle.oz_runner.specs.Cause.{Cause, HasOptions}
use Rattle.oz_runner.specs.Due.{File}
use Rattle.oz_runner.specs.Headline.{Headline}

-- the source tells its bytes, and the count of its faults can rise
abbrev pub IsTold : Stream → Type 0
IsTold s = ((bytes : List ℕ) × (s.bytes_before ≡ Some bytes)) × (s.faults_before < 2 ^ 64 - 1)

-- the status is told neither by a failed write nor for want of memory
abbrev pub IsOfWork : Status → Type 0
IsOfWork WriteFault = ⊥
IsOfWork Memory = ⊥
IsOfWork _ = Unit {0}

-- where the source tells its bytes, a call has the cause of one such status at most: so each comes wherever its cause holds, unless a
-- write fails or memory is wanting
abbrev pub CausesExclude : Type 0
CausesExclude =
    (seen : OzCall) (made : RunOutput) (a b : Status) → IsTold seen.source → IsOfWork a → IsOfWork b → Cause seen made a → Cause seen made b → a ≡ b

-- the saved run was made again, whole, and this is its journal; or reading, writing, the length or memory stood in the way
abbrev pub IsMadeAgainOr : List Turn → List Turn → Status → Type 0
IsMadeAgainOr j k (Checked entries picks) = j ≡ k
IsMadeAgainOr j k ReadFault = Unit {0}
IsMadeAgainOr j k WriteFault = Unit {0}
IsMadeAgainOr j k TooLong = Unit {0}
IsMadeAgainOr j k Memory = Unit {0}
IsMadeAgainOr j k _ = ⊥

-- where one call had a saved run to write, and another with the word `check` has it to read, from a source that tells its bytes, the
-- other finds it right, and comes to the same journal, unless reading, writing, the length or memory stands in the way
abbrev pub SavedRunsAreRight : Type 0
SavedRunsAreRight =
    (saving checking : OzCall) (made again : RunOutput) (saved checked : Status) (bytes : List ℕ)
    (whole : Headline saving made saved) → whole.due ≡ File bytes →
    ((options : Options) × HasOptions checking options × (options.action ≡ action.Check)) →
    checking.source.bytes_before ≡ Some bytes →
    Cause checking again checked → IsMadeAgainOr again.journal made.journal checked
