-- Lists that stand one behind the other.
use Rattle.std.specs.Prelude.{ℕ, ◌-◌, ◌≤◌, List, map, length, take, drop}

-- the list between two places
abbrev pub list_at : List ℕ → ℕ × ℕ → List ℕ
list_at positions span = take (span.1 - span.0) (drop span.0 positions)

-- the lists between these pairs of places, in their order
abbrev pub lists_of : List ℕ → List (ℕ × ℕ) → List (List ℕ)
lists_of positions spans = map (list_at positions) spans

-- the pair is a span of the list: its first place is not behind its second, and that is not behind the end
abbrev pub IsWithin : List ℕ → ℕ × ℕ → Type 0
IsWithin positions span = (span.0 ≤ span.1) × (span.1 ≤ length positions)
