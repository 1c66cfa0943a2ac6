-- What `read_text` answers.
use Rattle.std.specs.Prelude.{◌≡◌, ℕ, ◌<◌, ◌≤◌, List, length, Result, Ok, Err, Vec}
use Rattle.std.specs.Io.KnownBytes.{Consumes, IsAtEnd}
use Rattle.std.specs.declared.option.Option.{Option}
use Rattle.std.specs.declared.alloc.Global.{Global}
use Rattle.oz_base.specs.Streams.{HasRisen}
use Rattle.oz_base.specs.declared.read.ReadError.{ReadError}
use Rattle.oz_base.specs.declared.read.ReadError.TheVariants.{Fault, TooLong, Memory}

-- the source gave a front of its bytes, and the front's length is as the fact says
abbrev pub GivesFront : Option (List ℕ) → Option (List ℕ) → (ℕ → Type 0) → Type 0
GivesFront old new IsLength = (front : List ℕ) × Consumes old new front × IsLength (length front)

-- the text is all that the source had, within the limit; else the source gave
-- more than the limit at `TooLong`, and no more than the limit at any other error
abbrev pub ReadsText : ℕ → Option (List ℕ) → Option (List ℕ)
    → Result (Vec ℕ Global) ReadError → Type 0
ReadsText limit old new (Ok text) =
    Consumes old new text.items × IsAtEnd new × (length text.items ≤ limit)
ReadsText limit old new (Err TooLong) = GivesFront old new (λ n. limit < n)
ReadsText limit old new (Err Fault) = GivesFront old new (λ n. n ≤ limit)
ReadsText limit old new (Err Memory) = GivesFront old new (λ n. n ≤ limit)

-- the count of faults rises at `Fault`, and stands still at every other answer
abbrev pub RisesAtFault : ℕ → ℕ → Result (Vec ℕ Global) ReadError → Type 0
RisesAtFault before now (Ok text) = now ≡ before
RisesAtFault before now (Err TooLong) = now ≡ before
RisesAtFault before now (Err Fault) = HasRisen before now
RisesAtFault before now (Err Memory) = now ≡ before
