-- What a format is made of: fields. A field has its values, the spelling of each value, what may come behind it, and the first
-- fault of bytes that do not begin with a spelling. A fault is told by relations between bytes and faults; none of them reads the
-- bytes.
use Rattle.std.specs.Prelude.{◌≡◌, ℕ, ◌+◌, ◌<◌, ◌≤◌, ◌⊎◌, List, [], ◌∷◌, ◌++◌, length}

-- the fault of these bytes, which stand from a place, counted from 0, to the end of the input
abbrev pub Faults : Type 0 → Type 1
Faults E = ℕ → List ℕ → E → Type 0

-- a field of a format: its values, how each is spelled, the bytes before which a value ends, and the first fault of bytes that
-- begin with none of them
pub record Field (E X : Type 0) : Type 1 where
  pub Has : X → Type 0
  pub spelling : X → List ℕ
  pub Ends : X → List ℕ → Type 0
  pub Fault : ℕ → List ℕ → E → Type 0

-- each value of the field ends where it is spelled, whatever comes behind it
abbrev pub EndsAnywhere : {E X : Type 0} → Field E X → Type 0
EndsAnywhere {X = X} F = (x : X) (rest : List ℕ) → F.Ends x rest

-- the bytes begin with a value of the field, which ends there, and what comes after it has the fault
abbrev pub IsAfter : {E X : Type 0} → Field E X → (X → Faults E) → Faults E
IsAfter {X = X} F Next at bytes f =
    (x : X) × (rest : List ℕ) × F.Has x × (bytes ≡ F.spelling x ++ rest) × F.Ends x rest × Next x (at + length (F.spelling x)) rest f

-- fewer bytes stand than these, and the fault is at their end
abbrev pub IsCut : {E : Type 0} → (ℕ → E) → ℕ → Faults E
IsCut fault n at bytes f = (length bytes < n) × (f ≡ fault (at + length bytes))

-- a field, and then one that may rest on its value
infixr 20 ◌then◌
abbrev pub ◌then◌ : {E X Y : Type 0} → Field E X → (X → Field E Y) → Field E (X × Y)
F then G = record {
  Has = λ p. F.Has p.0 × (G p.0).Has p.1;
  spelling = λ p. F.spelling p.0 ++ (G p.0).spelling p.1;
  Ends = λ p rest. F.Ends p.0 ((G p.0).spelling p.1 ++ rest) × (G p.0).Ends p.1 rest;
  Fault = λ at bytes f. F.Fault at bytes f ⊎ IsAfter F (λ x. (G x).Fault) at bytes f;
}

-- a field, and then another, whatever its value
infixr 20 ◌before◌
abbrev pub ◌before◌ : {E X Y : Type 0} → Field E X → Field E Y → Field E (X × Y)
F before G = F then λ x. G

-- values that are spelled as a part of them is, which tells the whole
abbrev pub part_field : {E X Y : Type 0} → (X → Y) → Field E Y → Field E X
part_field part F = record {
  Has = λ x. F.Has (part x);
  spelling = λ x. F.spelling (part x);
  Ends = λ x rest. F.Ends (part x) rest;
  Fault = F.Fault;
}

-- each item is a value of the field that stands behind the items before it
abbrev pub EachBehind : {E X : Type 0} → (List X → Field E X) → List X → List X → Type 0
EachBehind behind front [] = Unit {0}
EachBehind behind front (x ∷ xs) = (behind front).Has x × EachBehind behind (front ++ x ∷ []) xs

-- the number is from the least to the most
abbrev pub IsWithin : ℕ → ℕ → ℕ → Type 0
IsWithin least most n = (least ≤ n) × (n ≤ most)

-- the bytes are the spelling of this value of the field
abbrev pub IsSpelled : {E X : Type 0} → Field E X → X → List ℕ → Type 0
IsSpelled F x bytes = F.Has x × (bytes ≡ F.spelling x)

-- the first fault of bytes that are no spelling: that of the field, or else that more bytes stand than a spelling's
abbrev pub IsFirstFaultOf : {E X : Type 0} → Field E X → (ℕ → E) → List ℕ → E → Type 0
IsFirstFaultOf {X = X} F more bytes f =
    F.Fault 0 bytes f
    ⊎ ((x : X) × (rest : List ℕ) × F.Has x × (bytes ≡ F.spelling x ++ rest) × (length rest ≡ 0 → ⊥) × (f ≡ more (length (F.spelling x))))
