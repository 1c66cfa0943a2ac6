-- What becomes of what a variable shows as where a store says more.
use Rattle.std.specs.Prelude.{◌≡◌, ℕ, ◌≤◌, None}
use Rattle.tree_node.specs.declared.names.VarName.{VarName}
use Rattle.tree_node.specs.Store.{Store, IsSound, node_of}
use Rattle.tree_node.specs.Compare.{IsWithin}
use Rattle.tree_node.specs.Shown.{Show, Text, Needs, shown_within}

-- the same text, or the same need where that has no node
abbrev pub Refines : Store → ℕ → Show → Show → Type 0
Refines c left (Text text l) other = (l ≤ left) × (other ≡ Text text l)
Refines c left (Needs z) other = node_of c z ≡ None → other ≡ Needs z

-- what shows as a text shows as the same one in each sound store that says more, and what needs a variable needs it there too, as long as it has no node
abbrev pub ShownStays : Type 0
ShownStays = (s t : Store) (n : ℕ) (x : VarName) → IsSound t → IsWithin s t → Refines t n (shown_within n s x) (shown_within n t x)
