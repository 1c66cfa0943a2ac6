-- Hashes of pairs of records, by which met pairs are found. Pairs of equal text, in either order, have one hash.
use Rattle.std.specs.Prelude.{ℕ, ◌+◌, ◌*◌, ◌%◌, ◌^◌, List, [], ◌∷◌}
use Rattle.tree_node.specs.declared.names.VarName.{VarName}
use Rattle.tree_node.specs.declared.node.Feature.{Feature}
use Rattle.tree_node.specs.declared.node.Node.{Node}
use Rattle.tree_node.specs.declared.node.Node.TheVariants as node

-- a number and one more
abbrev pub hash_step : ℕ → ℕ → ℕ
hash_step hash n = (hash * 6364136223846793005 % 2 ^ 64 + n) % 2 ^ 64

-- a number and the bytes of a text
abbrev pub text_hash : ℕ → List ℕ → ℕ
text_hash hash [] = hash
text_hash hash (c ∷ cs) = text_hash (hash_step hash c) cs

-- a number and the variables of fields
abbrev pub fields_hash : ℕ → List (Feature × VarName) → ℕ
fields_hash hash [] = hash
fields_hash hash ((f, x) ∷ fields) = fields_hash (hash_step (hash_step hash x.site) x.num) fields

-- a number whose sums with others differ even where the numbers stand in rows
abbrev pub hash_mix : ℕ → ℕ
hash_mix hash = hash * ((hash * 2 % 2 ^ 64 + 1) % 2 ^ 64) % 2 ^ 64

-- a record's label and the variables of its fields; 0 for every other node
abbrev pub node_hash : Node → ℕ
node_hash (node.Rec label fields) = hash_mix (fields_hash (text_hash 1 label) fields)
node_hash _ = 0

-- the same for the two nodes in either order
abbrev pub pair_hash : Node → Node → ℕ
pair_hash m n = (node_hash m + node_hash n) % 2 ^ 64
