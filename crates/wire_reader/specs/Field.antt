-- The fields of bytes: numbers of bytes, counted bytes and counted items. Each ends where it is spelled, whatever comes behind it.
use Rattle.std.specs.Prelude.{◌≡◌, ℕ, ◌+◌, ◌<◌, ◌^◌, ◌⊎◌, List, [], ◌∷◌, ◌++◌, length, flat_map, ℤ, FitsSigned}
use Rattle.std.specs.Int.{Width, byte_len, to_be_bytes, cast_unsigned}
use Rattle.byte_fields.specs.Field.{Faults, Field, IsAfter, IsCut, EachBehind}
use Rattle.wire_reader.specs.declared.fault.WireFault.{WireFault}
use Rattle.wire_reader.specs.declared.fault.WireFault.TheVariants.{Short}

-- a number that is not negative, the highest byte first
abbrev pub number : Width → Field WireFault ℕ
number w = record { Has = λ n. n < 256 ^ byte_len w; spelling = λ n. to_be_bytes w n; Ends = λ n rest. Unit {0}; Fault = IsCut Short (byte_len w) }

-- a number in two's complement, the highest byte first
abbrev pub signed_number : Width → Field WireFault ℤ
signed_number w = record { Has = λ z. FitsSigned w z; spelling = λ z. to_be_bytes w (cast_unsigned w z); Ends = λ z rest. Unit {0}; Fault = IsCut Short (byte_len w) }

-- a number that is always 0, of which nothing is written
abbrev pub nothing : Field WireFault ℕ
nothing = record { Has = λ n. n ≡ 0; spelling = λ n. []; Ends = λ n rest. Unit {0}; Fault = λ at bytes f. ⊥ }

-- a byte of length and that many bytes
abbrev pub short_bytes : Field WireFault (List ℕ)
short_bytes = record { Has = λ bs. length bs < 256; spelling = λ bs. length bs ∷ bs; Ends = λ bs rest. Unit {0}; Fault = short_bytes_fault }
  where
    short_bytes_fault : Faults WireFault
    short_bytes_fault at [] f = f ≡ Short at
    short_bytes_fault at (n ∷ bytes) f = IsCut Short n (at + 1) bytes f

-- the values of a field that have a property. Bytes that begin with another value have this fault at their place
abbrev pub restriction : {X : Type 0} → (X → Type 0) → (ℕ → WireFault) → Field WireFault X → Field WireFault X
restriction {X = X} P fault F = record {
  Has = λ x. F.Has x × P x;
  spelling = F.spelling;
  Ends = F.Ends;
  Fault = λ at bytes f. F.Fault at bytes f ⊎ IsAfter F (λ x after rest g. (P x → ⊥) × (g ≡ fault at)) at bytes f;
}

-- some items, fewer than the count, stand, and the next one has the fault
abbrev pub IsAmongCounted : {X : Type 0} → Field WireFault X → (List X → Field WireFault X) → ℕ → Faults WireFault
IsAmongCounted {X = X} item behind n at bytes f =
    (front : List X) × (rest : List ℕ) × (length front < n) × EachBehind behind [] front
    × (bytes ≡ flat_map item.spelling front ++ rest)
    × (behind front).Fault (at + length (flat_map item.spelling front)) rest f

-- a count and that many items, which end where they are spelled. What stands behind some items is spelled as any item is, and may have
-- to follow them
abbrev pub list_behind : {X : Type 0} → Field WireFault ℕ → Field WireFault X → (List X → Field WireFault X) → Field WireFault (List X)
list_behind count item behind = record {
  Has = λ xs. count.Has (length xs) × EachBehind behind [] xs;
  spelling = λ xs. count.spelling (length xs) ++ flat_map item.spelling xs;
  Ends = λ xs rest. Unit {0};
  Fault = λ at bytes f. count.Fault at bytes f ⊎ IsAfter count (IsAmongCounted item behind) at bytes f;
}

-- a value that is above the key of the last item, where there is one
abbrev pub IsAbove : {X A : Type 0} → (X → A) → (A → A → Type 0) → List X → A → Type 0
IsAbove key Below [] a = Unit {0}
IsAbove key Below (x ∷ []) a = Below (key x) a
IsAbove key Below (x ∷ y ∷ xs) a = IsAbove key Below (y ∷ xs) a
