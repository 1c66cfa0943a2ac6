-- Numbers in ascending order.
use Rattle.std.specs.Prelude.{◌≡◌, ℕ, ◌<◌, List, [], ◌∷◌, nat_lt, true, false}
use Rattle.std.specs.List.Sorted.{IsPartitionPoint}
use Rattle.tree_node.specs.Each.{Each}

-- each number is below the later ones
abbrev pub IsAscending : List ℕ → Type 0
IsAscending [] = Unit {0}
IsAscending (k ∷ ks) = Each (λ (other : ℕ). k < other) ks × IsAscending ks

-- so many of the numbers, the first ones, are below this one, and the others are not
abbrev pub IsPlaceAmong : List ℕ → ℕ → ℕ → Type 0
IsPlaceAmong ks number place = IsPartitionPoint (λ (k : ℕ). nat_lt k number ≡ true) (λ (k : ℕ). nat_lt k number ≡ false) ks place
