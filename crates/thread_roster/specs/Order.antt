-- The order of turns: names of the threads that can go on, the next in turn first.
use Rattle.std.specs.Prelude.{◌≡◌, ◌⊎◌, List, [], ◌∷◌, ◌++◌, Contains, filter, not}
use Rattle.tree_node.specs.declared.names.ThreadName.{ThreadName}
use Rattle.tree_node.specs.State.{equal_thread}

-- these names without one
abbrev pub without_name : ThreadName → List ThreadName → List ThreadName
without_name n ns = filter (λ (k : ThreadName). not (equal_thread k n)) ns

-- the first goes behind the others
abbrev pub rotated : List ThreadName → List ThreadName
rotated [] = []
rotated (n ∷ ns) = ns ++ n ∷ []

-- others came behind these, which stay as they were
abbrev pub HaveComeBehind : List ThreadName → List ThreadName → Type 0
HaveComeBehind old new = (behind : List ThreadName) × (new ≡ old ++ behind)

-- the same, but the one of this name has left, or may have stayed
abbrev pub MayHaveLeft : ThreadName → List ThreadName → List ThreadName → Type 0
MayHaveLeft n old new = HaveComeBehind old new ⊎ (HaveComeBehind (without_name n old) new × (Contains new n → ⊥))
