-- Reading from left to right, as functions on lists: what a reader's parts give, for the proof that they give what a format says.
use Rattle.std.specs.Prelude.{◌≡◌, ℕ, ◌+◌, ◌⊎◌, ◌&&◌, List, length, take, drop, Bool, Result, Ok, Err, nat_lt, nat_le, ◌==◌, if◌then◌else◌}

-- a place, and the bytes from it to the end
abbrev pub Left : Type 0
Left = ℕ × List ℕ

-- a value and what is left behind it, or a fault
abbrev pub Read : Type 0 → Type 0 → Type 0
Read E X = Result (X × Left) E

-- goes on with the value, or stops at the fault
infixl 10 ◌>>=◌
abbrev pub ◌>>=◌ : {E A B : Type 0} → Result A E → (A → Result B E) → Result B E
(Ok x) >>= f = f x
(Err e) >>= f = Err e

-- a part of a reader gives what reading gives, unless memory runs out, which this fault tells
abbrev pub IsReadUnless : {E X : Type 0} → E → (Left → Read E X) → Left → Left → Result X E → Type 0
IsReadUnless memory read old new (Ok x) = read old ≡ Ok (x, new)
IsReadUnless memory read old new (Err f) = (f ≡ memory) ⊎ (read old ≡ Err f)

-- the next n bytes, or a fault at the end where there are fewer
unfoldable pub bytes_at : {E : Type 0} → (ℕ → E) → ℕ → Left → Read E (List ℕ)
bytes_at fault n l =
    if nat_lt (length l.1) n then Err (fault (l.0 + length l.1)) else Ok (take n l.1, (l.0 + n, drop n l.1))

-- one after another, where the second may rest on the value of the first
infixr 20 ◌and◌
abbrev pub ◌and◌ : {E X Y : Type 0} → (Left → Read E X) → (X → Left → Read E Y) → Left → Read E (X × Y)
(R and S) l = do
  a ← R l
  b ← S a.0 a.1
  Ok ((a.0, b.0), b.1)

-- one after another
infixr 20 ◌also◌
abbrev pub ◌also◌ : {E X Y : Type 0} → (Left → Read E X) → (Left → Read E Y) → Left → Read E (X × Y)
R also S = R and λ x. S

-- a value made of what is read
abbrev pub map_at : {E X Y : Type 0} → (X → Y) → (Left → Read E X) → Left → Read E Y
map_at f R l = do
  r ← R l
  Ok (f r.0, r.1)

-- the number is from the least to the most
abbrev pub is_within : ℕ → ℕ → ℕ → Bool
is_within least most n = nat_le least n && nat_le n most

-- all of the bytes, or a fault where more stand
unfoldable pub whole_at : {E X : Type 0} → (Left → Read E X) → (ℕ → E) → List ℕ → Result X E
whole_at R more bytes = do
  r ← R (0, bytes)
  if length r.1.1 == 0 then Ok r.0 else Err (more r.1.0)

-- a reader answers what reading all of the bytes gives, unless memory runs out
abbrev pub IsReadAsWhole : {E X : Type 0} → E → (Left → Read E X) → (ℕ → E) → List ℕ → Result X E → Type 0
IsReadAsWhole memory R more bytes (Ok x) = whole_at R more bytes ≡ Ok x
IsReadAsWhole memory R more bytes (Err f) = (f ≡ memory) ⊎ (whole_at R more bytes ≡ Err f)
