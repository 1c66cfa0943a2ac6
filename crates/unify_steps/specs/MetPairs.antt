-- How the pairs of nodes that were met are indexed: by their hashes.
use Rattle.std.specs.Prelude.{◌≡◌, ℕ, List, [], Bool, nat_eq, filter, Option, Some, None}
use Rattle.std.specs.Global.{Box, Vec}
use Rattle.std.specs.Map.{lookup}
use Rattle.tree_node.specs.declared.node.Node.{Node}
use Rattle.unify_steps.specs.Hash.{pair_hash}

-- the pair has this hash
abbrev pub has_hash : ℕ → Node × Node → Bool
has_hash k p = nat_eq (pair_hash p.0 p.1) k

-- the pairs that stand under a hash, if any do
abbrev pub pairs_of : Option (Vec (Node × Node)) → List (Node × Node)
pairs_of None = []
pairs_of (Some v) = v.items

-- under each hash stand the pairs that have it
abbrev pub IsIndexOf : List (Node × Node) → List (ℕ × Vec (Node × Node)) → Type 0
IsIndexOf met index = (k : ℕ) → pairs_of (lookup (nat_eq k) index) ≡ filter (has_hash k) met

-- the pairs of a table, where there is one
abbrev pub table_pairs : Option (Box (List (Node × Node))) → List (Node × Node)
table_pairs None = []
table_pairs (Some table) = table.value
