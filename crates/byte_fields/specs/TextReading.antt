-- Reading of texts from left to right, as functions on lists.
use Rattle.std.specs.Prelude.{◌≡◌, ℕ, zero, suc, ◌+◌, List, [], ◌∷◌, ◌++◌, length, take, drop, Bool, false, Result, Ok, Err, ◌==◌, if◌then◌else◌}
use Rattle.std.specs.Char.{is_ascii_digit}
use Rattle.std.specs.List.{prefix_len}
use Rattle.byte_fields.specs.declared.fault.FileFault.{FileFault}
use Rattle.byte_fields.specs.declared.fault.FileFault.TheVariants.{Bad, Memory}
use Rattle.byte_fields.specs.Text.{value_of, zero_fault, is_in_line}
use Rattle.byte_fields.specs.Reading.{Left, Read, ◌>>=◌, IsReadUnless, is_within}

-- a part of the reader gives what reading gives, unless memory runs out
abbrev pub IsReadAs : {X : Type 0} → (Left → Read FileFault X) → Left → Left → Result X FileFault → Type 0
IsReadAs read old new result = IsReadUnless Memory read old new result

-- a word
unfoldable pub word_at : List ℕ → Left → Read FileFault (Unit {0})
word_at [] l = Ok (tt, l)
word_at (c ∷ word) (at, []) = Err (Bad at)
word_at (c ∷ word) (at, b ∷ bytes) = if b == c then word_at word (at + 1, bytes) else Err (Bad at)

-- what stands behind a word
infixr 22 ◌behind◌
abbrev pub ◌behind◌ : {X : Type 0} → List ℕ → (Left → Read FileFault X) → Left → Read FileFault X
(word behind R) l = do
  u ← word_at word l
  R u.1

-- the number that digits name, before the rest, or a fault where it is out of range
abbrev pub tested : ℕ → ℕ → ℕ → ℕ → ℕ → List ℕ → Read FileFault ℕ
tested least most n at end rest = if is_within least most n then Ok (n, (end, rest)) else Err (Bad at)

-- what the digits at a place name
abbrev pub numeral_at : ℕ → ℕ → ℕ → List ℕ → List ℕ → Read FileFault ℕ
numeral_at least most at [] rest = Err (Bad at)
numeral_at least most at (c ∷ []) rest = tested least most (value_of (c ∷ [])) at (at + 1) rest
numeral_at least most at (c ∷ d ∷ ds) rest =
    if c == 48 then Err (zero_fault least at)
    else tested least most (value_of (c ∷ d ∷ ds)) at (at + length (c ∷ d ∷ ds)) rest

-- how many digits stand there
abbrev pub digit_count : List ℕ → ℕ
digit_count bytes = prefix_len is_ascii_digit bytes

-- a number within a range
unfoldable pub number_at : ℕ → ℕ → Left → Read FileFault ℕ
number_at least most l = numeral_at least most l.0 (take (digit_count l.1) l.1) (drop (digit_count l.1) l.1)

-- a line, before what is left: the newline comes first there
abbrev pub cut_line : ℕ → List ℕ → List ℕ → Read FileFault (List ℕ)
cut_line at front [] = Err (Bad (at + length front))
cut_line at front (b ∷ rest) = Ok (front, (at + (length front + 1), rest))

-- bytes up to a newline
unfoldable pub line_at : Left → Read FileFault (List ℕ)
line_at l = cut_line l.0 (take (prefix_len is_in_line l.1) l.1) (drop (prefix_len is_in_line l.1) l.1)

-- the bytes begin with this one
abbrev pub begins_with : ℕ → List ℕ → Bool
begins_with c [] = false
begins_with c (b ∷ bytes) = b == c

-- items, each of which begins with this byte and is read behind those before it, in so many steps at most
unfoldable pub items_at : {X : Type 0} → ℕ → ℕ → (List X → Left → Read FileFault X) → List X → Left → Read FileFault (List X)
items_at zero c item front l = Ok (front, l)
items_at (suc n) c item front l = if begins_with c l.1 then (do
  r ← item front l
  items_at n c item (front ++ r.0 ∷ []) r.1) else Ok (front, l)

-- all of them
unfoldable pub many_at : {X : Type 0} → ℕ → (List X → Left → Read FileFault X) → Left → Read FileFault (List X)
many_at c item l = items_at (suc (length l.1)) c item [] l
