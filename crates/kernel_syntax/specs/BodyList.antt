-- The statements of a sequence, within or in a vector.
use Rattle.std.specs.Prelude.{ℕ, List, take, nat_lt, if◌then◌else◌}
use Rattle.tree_node.specs.declared.names.CodeId.{CodeId}

-- so many of the first, or all of the others where the count is above four
abbrev pub few_or_many : ℕ → List CodeId → List CodeId → List CodeId
few_or_many count few many = if nat_lt 4 count then many else take count few
