-- What reads a field, and where its first faults stand.
use Rattle.std.specs.Prelude.{◌≡◌, ℕ, ◌+◌, ◌<◌, ◌≤◌, ◌^◌, ◌⊎◌, List, [], ◌++◌, length, true, Ok, Err}
use Rattle.std.specs.Char.{is_ascii_digit}
use Rattle.byte_fields.specs.declared.fault.FileFault.{FileFault}
use Rattle.byte_fields.specs.declared.fault.FileFault.TheVariants.{Bad}
use Rattle.byte_fields.specs.Field.{Field}
use Rattle.byte_fields.specs.Text.{number, line, bytes_of, AllPass, IsNoDigit, BeginsWith}
use Rattle.byte_fields.specs.Reading.{Left, Read, bytes_at}
use Rattle.byte_fields.specs.TextReading.{number_at, line_at, begins_with}

-- all bytes are read: nothing is asked of them
abbrev pub AnyBytes : List ℕ → Type 0
AnyBytes bytes = Unit {0}

-- a value was taken from the front of bytes that have a property, and so have those that are left
pub record Takes {E X : Type 0} (P : List ℕ → Type 0) (F : Field E X) (at : ℕ) (bytes : List ℕ) (x : X) (m : Left) : Type 0 where
  pub has : F.Has x
  pub parts : bytes ≡ F.spelling x ++ m.1
  pub place : m.0 ≡ at + length (F.spelling x)
  pub ends : F.Ends x m.1
  pub rest_fits : P m.1

-- of bytes that have a property, a reader takes a value of the field, or else it gives the field's first fault
pub record IsRead {E X : Type 0} (P : List ℕ → Type 0) (F : Field E X) (R : Left → Read E X) : Type 0 where
  pub takes : (at : ℕ) (bytes : List ℕ) (x : X) (m : Left) → P bytes → R (at, bytes) ≡ Ok (x, m) → Takes P F at bytes x m
  pub again : (at : ℕ) (x : X) (rest : List ℕ) → F.Has x → F.Ends x rest → R (at, F.spelling x ++ rest) ≡ Ok (x, (at + length (F.spelling x), rest))
  pub fails : (at : ℕ) (bytes : List ℕ) (f : E) → P bytes → R (at, bytes) ≡ Err f → F.Fault at bytes f
  pub failing : (at : ℕ) (bytes : List ℕ) (f : E) → F.Fault at bytes f → R (at, bytes) ≡ Err f

-- so it is with a reader that gives no more of a value than this
pub record IsReadBy {E X Y : Type 0} (P : List ℕ → Type 0) (F : Field E X) (value : X → Y) (R : Left → Read E Y) : Type 0 where
  pub takes : (at : ℕ) (bytes : List ℕ) (y : Y) (m : Left) → P bytes → R (at, bytes) ≡ Ok (y, m) → (x : X) × Takes P F at bytes x m × (value x ≡ y)
  pub again : (at : ℕ) (x : X) (rest : List ℕ) → F.Has x → F.Ends x rest → R (at, F.spelling x ++ rest) ≡ Ok (value x, (at + length (F.spelling x), rest))
  pub fails : (at : ℕ) (bytes : List ℕ) (f : E) → P bytes → R (at, bytes) ≡ Err f → F.Fault at bytes f
  pub failing : (at : ℕ) (bytes : List ℕ) (f : E) → F.Fault at bytes f → R (at, bytes) ≡ Err f

-- what stands behind some items is spelled and ends as any item, begins with the byte, and is read by its own reader
pub record AreRead {X : Type 0} (c : ℕ) (F : Field FileFault X) (behind : List X → Field FileFault X) (item : List X → Left → Read FileFault X) : Type 0 where
  pub read : (front : List X) → IsRead AnyBytes (behind front) (item front)
  pub spelling : (front : List X) (x : X) → (behind front).spelling x ≡ F.spelling x
  pub ends : (front : List X) (x : X) (rest : List ℕ) → (behind front).Ends x rest → F.Ends x rest
  pub may_end : (front : List X) (x : X) (rest : List ℕ) → F.Ends x rest → (behind front).Ends x rest
  pub begins : (x : X) (rest : List ℕ) → begins_with c (F.spelling x ++ rest) ≡ true

-- ---- the fields of texts are read: numbers of 64 bits, lines and counted bytes

abbrev pub NumbersAreRead : Type 0
NumbersAreRead = (least most : ℕ) → most < 2 ^ 64 → IsRead AnyBytes (number least most) (number_at least most)

abbrev pub LinesAreRead : Type 0
LinesAreRead = IsRead AnyBytes line line_at

abbrev pub BytesAreRead : Type 0
BytesAreRead = (n : ℕ) → IsRead AnyBytes (bytes_of n) (bytes_at Bad n)

-- ---- the first fault stays where what stands behind its place changes

-- one byte; or all digits of a number that stands before the rest, the first of which is no 0
abbrev pub IsWrongPart : List ℕ → List ℕ → Type 0
IsWrongPart part rest = (length part ≡ 1) ⊎ ((0 < length part) × AllPass is_ascii_digit part × IsNoDigit rest × (BeginsWith 48 part → ⊥))

-- the fault stays whatever comes behind this part of the tail
abbrev pub Stays : {X : Type 0} → Field FileFault X → ℕ → List ℕ → List ℕ → FileFault → Type 0
Stays F at front tail f =
    (part : List ℕ) × (rest : List ℕ) × (tail ≡ part ++ rest) × (0 < length part) × IsWrongPart part rest × ((other : List ℕ) → F.Fault at (front ++ (part ++ other)) f)

-- a fault stands where the field begins or behind, what lets a value end does so by its first byte, and a fault stays
pub record IsSteady {X : Type 0} (F : Field FileFault X) : Type 0 where
  pub low : (at : ℕ) (bytes : List ℕ) (f : FileFault) (k : ℕ) → F.Fault at bytes f → f ≡ Bad k → at ≤ k
  pub ends : (x : X) (c u v : List ℕ) → 0 < length c → F.Ends x (c ++ u) → F.Ends x (c ++ v)
  pub stays : (at : ℕ) (bytes front tail : List ℕ) (f : FileFault) → F.Fault at bytes f → f ≡ Bad (at + length front) → bytes ≡ front ++ tail → 0 < length tail → Stays F at front tail f

-- so it is with the fields of texts: numbers from 0 or 1, lines, and counted bytes
abbrev pub NumbersAreSteady : Type 0
NumbersAreSteady = (least most : ℕ) → least ≤ 1 → IsSteady (number least most)

abbrev pub LinesAreSteady : Type 0
LinesAreSteady = IsSteady line

abbrev pub BytesAreSteady : Type 0
BytesAreSteady = (n : ℕ) → IsSteady (bytes_of n)

-- ---- the bytes before the place of a first fault begin a value

-- a value of the field is spelled with this front
abbrev pub Begins : {X : Type 0} → Field FileFault X → List ℕ → Type 0
Begins {X = X} F front = (x : X) × (more : List ℕ) × F.Has x × (F.spelling x ≡ front ++ more)

-- the bytes before the place of the fault are none, or begin a value
abbrev pub Opens : {X : Type 0} → Field FileFault X → ℕ → List ℕ → FileFault → Type 0
Opens F at bytes f = (front : List ℕ) × (rest : List ℕ) × (bytes ≡ front ++ rest) × (f ≡ Bad (at + length front)) × ((front ≡ []) ⊎ Begins F front)

-- a field has a value, and the bytes before the place of a fault begin one
pub record IsOpen {X : Type 0} (F : Field FileFault X) : Type 0 where
  pub value : X
  pub has : F.Has value
  pub opens : (at : ℕ) (bytes : List ℕ) (f : FileFault) → F.Fault at bytes f → Opens F at bytes f

-- what stands behind some items has the spelling of an item, and the bytes before its faults begin one
pub record AreOpen {X : Type 0} (item : Field FileFault X) (behind : List X → Field FileFault X) : Type 0 where
  pub spelling : (front : List X) (x : X) → (behind front).spelling x ≡ item.spelling x
  pub opens : (front : List X) (at : ℕ) (bytes : List ℕ) (f : FileFault) → (behind front).Fault at bytes f → Opens (behind front) at bytes f

-- so it is with the fields of texts that have a value
abbrev pub NumbersAreOpen : Type 0
NumbersAreOpen = (least most : ℕ) → least ≤ most → IsOpen (number least most)

abbrev pub LinesAreOpen : Type 0
LinesAreOpen = IsOpen line

abbrev pub BytesAreOpen : Type 0
BytesAreOpen = (n : ℕ) → IsOpen (bytes_of n)
