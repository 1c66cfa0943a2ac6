-- The fields of texts: words, numbers in decimal, lines, counted bytes, and items one after another.
use Rattle.std.specs.Prelude.{◌≡◌, ◌≢◌, ℕ, zero, suc, ◌+◌, ◌-◌, ◌*◌, ◌⊎◌, List, [], ◌∷◌, ◌++◌, length, flat_map, Bool, true, false, not, ◌==◌, decimal}
use Rattle.std.specs.Char.{is_ascii_digit}
use Rattle.std.specs.List.{list_all}
use Rattle.byte_fields.specs.declared.fault.FileFault.{FileFault}
use Rattle.byte_fields.specs.declared.fault.FileFault.TheVariants.{Bad}
use Rattle.byte_fields.specs.Field.{Faults, Field, IsCut, EachBehind, IsWithin}

-- ---- words

-- the bytes differ from the word first at the place of the fault, or end there
abbrev pub IsOtherWord : List ℕ → Faults FileFault
IsOtherWord [] at bytes f = ⊥
IsOtherWord (c ∷ word) at [] f = f ≡ Bad at
IsOtherWord (c ∷ word) at (b ∷ bytes) f = ((b ≢ c) × (f ≡ Bad at)) ⊎ ((b ≡ c) × IsOtherWord word (at + 1) bytes f)

-- a field behind a word
infixr 22 ◌after◌
abbrev pub ◌after◌ : {X : Type 0} → List ℕ → Field FileFault X → Field FileFault X
word after F = record {
  Has = F.Has;
  spelling = λ x. word ++ F.spelling x;
  Ends = F.Ends;
  Fault = λ at bytes f. IsOtherWord word at bytes f ⊎ ((rest : List ℕ) × (bytes ≡ word ++ rest) × F.Fault (at + length word) rest f);
}

-- ---- numbers

-- no byte comes that passes the test
abbrev pub StopsAt : (ℕ → Bool) → List ℕ → Type 0
StopsAt test [] = Unit {0}
StopsAt test (b ∷ bytes) = test b ≡ false

-- each byte passes the test
abbrev pub AllPass : (ℕ → Bool) → List ℕ → Type 0
AllPass test bytes = list_all test bytes ≡ true

-- no digit comes
abbrev pub IsNoDigit : List ℕ → Type 0
IsNoDigit bytes = StopsAt is_ascii_digit bytes

-- the number that digits name
abbrev pub value_after : ℕ → List ℕ → ℕ
value_after n [] = n
value_after n (c ∷ cs) = value_after (10 * n + (c - 48)) cs

abbrev pub value_of : List ℕ → ℕ
value_of digits = value_after 0 digits

-- where 0 is a number of the range the digit behind it is too much, and else the 0 is out of range
abbrev pub zero_fault : ℕ → ℕ → FileFault
zero_fault zero at = Bad (at + 1)
zero_fault (suc least) at = Bad at

-- the number is out of range
abbrev pub IsOutside : ℕ → ℕ → ℕ → ℕ → FileFault → Type 0
IsOutside least most n at f = (IsWithin least most n → ⊥) × (f ≡ Bad at)

-- what is wrong with the digits that stand at a place: there are none; a 0 stands before others; or their number is out of range,
-- and then its first digit is bad
abbrev pub IsBadNumeral : ℕ → ℕ → ℕ → List ℕ → FileFault → Type 0
IsBadNumeral least most at [] f = f ≡ Bad at
IsBadNumeral least most at (c ∷ []) f = IsOutside least most (value_of (c ∷ [])) at f
IsBadNumeral least most at (c ∷ d ∷ ds) f =
    ((c ≡ 48) × (f ≡ zero_fault least at)) ⊎ ((c ≢ 48) × IsOutside least most (value_of (c ∷ d ∷ ds)) at f)

-- a number in decimal without leading zeros, within a range
abbrev pub number : ℕ → ℕ → Field FileFault ℕ
number least most = record {
  Has = IsWithin least most;
  spelling = decimal;
  Ends = λ n. IsNoDigit;
  Fault = number_fault;
}
  where
    number_fault : Faults FileFault
    number_fault at bytes f =
        (digits : List ℕ) × (rest : List ℕ) × (bytes ≡ digits ++ rest) × AllPass is_ascii_digit digits × IsNoDigit rest
        × IsBadNumeral least most at digits f

-- ---- bytes

-- a byte that is no newline
abbrev pub is_in_line : ℕ → Bool
is_in_line b = not (b == 10)

-- no newline is among the bytes
abbrev pub IsLine : List ℕ → Type 0
IsLine bytes = AllPass is_in_line bytes

-- bytes up to a newline
abbrev pub line : Field FileFault (List ℕ)
line = record {
  Has = IsLine;
  spelling = λ bytes. bytes ++ 10 ∷ [];
  Ends = λ bytes rest. Unit {0};
  Fault = λ at bytes f. IsLine bytes × (f ≡ Bad (at + length bytes));
}

-- so many bytes
abbrev pub bytes_of : ℕ → Field FileFault (List ℕ)
bytes_of n = record {
  Has = λ bytes. length bytes ≡ n;
  spelling = λ bytes. bytes;
  Ends = λ bytes rest. Unit {0};
  Fault = IsCut Bad n;
}

-- ---- items one after another

-- the bytes begin with this one
abbrev pub BeginsWith : ℕ → List ℕ → Type 0
BeginsWith c [] = ⊥
BeginsWith c (b ∷ bytes) = b ≡ c

-- each item ends where the next one begins, or what comes behind all of them
abbrev pub EachEnds : {X : Type 0} → Field FileFault X → List X → List ℕ → Type 0
EachEnds item [] rest = Unit {0}
EachEnds item (x ∷ xs) rest = item.Ends x (flat_map item.spelling xs ++ rest) × EachEnds item xs rest

-- some items stand, the byte that begins an item comes, and the item has the fault
abbrev pub IsAmong : {X : Type 0} → Field FileFault X → (List X → Field FileFault X) → ℕ → Faults FileFault
IsAmong {X = X} item behind c at bytes f =
    (front : List X) × (rest : List ℕ) × EachBehind behind [] front × (bytes ≡ flat_map item.spelling front ++ rest)
    × EachEnds item front rest × BeginsWith c rest × (behind front).Fault (at + length (flat_map item.spelling front)) rest f

-- any number of items, each of which begins with this byte, up to where another byte comes. What stands behind some items is
-- spelled as any item is, and may have to follow them
abbrev pub many : {X : Type 0} → ℕ → Field FileFault X → (List X → Field FileFault X) → Field FileFault (List X)
many c item behind = record {
  Has = EachBehind behind [];
  spelling = λ xs. flat_map item.spelling xs;
  Ends = λ xs rest. EachEnds item xs rest × (BeginsWith c rest → ⊥);
  Fault = IsAmong item behind c;
}
