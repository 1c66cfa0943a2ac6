-- What a read and a write answer, and when they may fail.
use Rattle.std.specs.Prelude.{◌≡◌, ℕ, ◌-◌, ◌^◌, ◌<◌, ◌≤◌, ◌⊎◌, List, length, take, Result, OnOk, OnErr, MatchResult, [], ◌∷◌, ◌++◌, Some, None, drop}
use Rattle.std.specs.Io.KnownBytes.{Appends}
use Rattle.std.specs.declared.option.Option.{Option}

-- the count of faults rose, or stands at the last value of a u64
abbrev pub HasRisen : ℕ → ℕ → Type 0
HasRisen before now = (before < now) ⊎ ((before ≡ 2 ^ 64 - 1) × (now ≡ 2 ^ 64 - 1))

-- the count of faults never falls: it stands still at `Ok`, and rises at `Err`
pub record HasCause {T E : Type 0} (before now : ℕ) (result : Result T E) : Type 0 where
  pub later : before ≤ now
  pub steady : OnOk result (now ≡ before)
  pub failed : OnErr result (HasRisen before now)

-- a front of the piece was taken, and not all of it
abbrev pub TakesFront : Option (List ℕ) → Option (List ℕ) → List ℕ → Type 0
TakesFront old new piece = (n : ℕ) × (n < length piece) × Appends old new (take n piece)

-- at `Ok` the sink took the whole piece, at `Err` a front of it
abbrev pub TakesPiece : {T E : Type 0} → Option (List ℕ) → Option (List ℕ) → Result T E → List ℕ
    → Type 0
TakesPiece old new result piece =
    MatchResult result (λ _. Appends old new piece) (λ _. TakesFront old new piece)

-- ---- pieces

-- each of these is as the fact says
abbrev pub EachPiece : (List ℕ → Type 0) → List (List ℕ) → Type 0
EachPiece P [] = Unit {0}
EachPiece P (piece ∷ pieces) = P piece × EachPiece P pieces

-- a call handed in this piece, where the pieces are told
abbrev pub HandsIn : Option (List (List ℕ)) → Option (List (List ℕ)) → List ℕ → Type 0
HandsIn None new piece = Unit {0}
HandsIn (Some old) None piece = ⊥
HandsIn (Some old) (Some new) piece = new ≡ old ++ piece ∷ []

-- calls handed in pieces that are all as the fact says, where they are told
abbrev pub HandsInOnly : Option (List (List ℕ)) → Option (List (List ℕ)) → (List ℕ → Type 0) → Type 0
HandsInOnly None new P = Unit {0}
HandsInOnly (Some old) None P = ⊥
HandsInOnly (Some old) (Some new) P = (more : List (List ℕ)) × (new ≡ old ++ more) × EachPiece P more

-- a piece without some front of it: the piece, or a back of it, which may be empty
abbrev pub IsRestOf : List ℕ → List ℕ → Type 0
IsRestOf piece rest = (n : ℕ) × (rest ≡ drop n piece)
