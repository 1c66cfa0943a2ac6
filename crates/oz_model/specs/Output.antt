-- The bytes of a run.
use Rattle.std.specs.Prelude.{ℕ, List, [], ◌∷◌, ◌++◌, map}
use Rattle.std.specs.List.{concat}

-- each line with a newline
abbrev pub pieces_of : List (List ℕ) → List ℕ
pieces_of lines = concat (map (λ (line : List ℕ). line ++ 10 ∷ []) lines)

-- each line and then the end line, each with a newline
abbrev pub output : List (List ℕ) → List ℕ → List ℕ
output lines end = pieces_of lines ++ (end ++ 10 ∷ [])
