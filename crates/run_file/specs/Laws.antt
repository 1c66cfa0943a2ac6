-- What follows from the format, for all bytes and saved runs.
use Rattle.std.specs.Prelude.{◌≡◌, ℕ, ◌<◌, ◌⊎◌, List, [], ◌++◌, length}
use Rattle.byte_fields.specs.declared.fault.FileFault.{FileFault}
use Rattle.byte_fields.specs.declared.fault.FileFault.TheVariants.{Bad}
use Rattle.byte_fields.specs.Laws.{IsWrongPart}
use Rattle.run_file.specs.Saved.{SavedRun, saved_run, Saved, IsFirstFault}

-- bytes are the text of a saved run, or have a first fault
abbrev pub BytesHaveOne : Type 0
BytesHaveOne = (bytes : List ℕ) → ((r : SavedRun) × Saved r bytes) ⊎ ((f : FileFault) × IsFirstFault bytes f)

-- they are the text of one saved run at most
abbrev pub SavesOne : Type 0
SavesOne = (bytes : List ℕ) (r q : SavedRun) → Saved r bytes → Saved q bytes → r ≡ q

-- they have one first fault at most
abbrev pub HasOneFault : Type 0
HasOneFault = (bytes : List ℕ) (f g : FileFault) → IsFirstFault bytes f → IsFirstFault bytes g → f ≡ g

-- and not both
abbrev pub NotBoth : Type 0
NotBoth = (bytes : List ℕ) (r : SavedRun) (f : FileFault) → Saved r bytes → IsFirstFault bytes f → ⊥

-- no text of a saved run is a proper prefix of another
abbrev pub NoProperPrefix : Type 0
NoProperPrefix = (r q : SavedRun) (rest : List ℕ) → saved_run.Has r → saved_run.Has q → saved_run.spelling r ++ rest ≡ saved_run.spelling q → (rest ≡ []) × (r ≡ q)

-- no text of a saved run begins with these bytes
abbrev pub BeginsNoText : List ℕ → Type 0
BeginsNoText front = (r : SavedRun) (rest : List ℕ) → saved_run.Has r → saved_run.spelling r ≡ front ++ rest → ⊥

-- bytes whose first fault stands before their end: no text of a saved run goes on with the byte at its place, or else a number stands
-- there, and none goes on with all of its digits
abbrev pub NoTextGoesOn : Type 0
NoTextGoesOn =
    (bytes : List ℕ) (at : ℕ) → IsFirstFault bytes (Bad at) → at < length bytes
    → (front : List ℕ) × (part : List ℕ) × (rest : List ℕ) × (bytes ≡ front ++ (part ++ rest)) × (length front ≡ at) × IsWrongPart part rest × BeginsNoText (front ++ part)

-- the bytes before the place of a first fault are the front of a text of a saved run
abbrev pub SomeTextBegins : Type 0
SomeTextBegins =
    (bytes : List ℕ) (at : ℕ) → IsFirstFault bytes (Bad at)
    → (front : List ℕ) × (rest : List ℕ) × (bytes ≡ front ++ rest) × (length front ≡ at) × ((r : SavedRun) × (more : List ℕ) × saved_run.Has r × (saved_run.spelling r ≡ front ++ more))
