-- Places in a text.
use Rattle.std.specs.Prelude.{ℕ, ◌+◌, List, [], ◌∷◌, ◌==◌, if◌then◌else◌}

-- the line and the column in bytes, both from 1, behind these bytes, which begin at a line and a column
abbrev pub place_from : ℕ → ℕ → List ℕ → ℕ × ℕ
place_from line column [] = (line, column)
place_from line column (b ∷ bs) = if b == 10 then place_from (line + 1) 1 bs else place_from line (column + 1) bs

-- the line and the column of the place behind these bytes of a text
abbrev pub place_of : List ℕ → ℕ × ℕ
place_of before = place_from 1 1 before
