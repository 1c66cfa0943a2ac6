-- What a schedule holds.
use Rattle.std.specs.Prelude.{List, [], ◌++◌, flat_map, Option, Some, None}
use Rattle.std.specs.declared.sync.Arc.{Arc}
use Rattle.std.specs.Arc.{arc_value}
use Rattle.tree_node.specs.declared.pick.Pick.{Pick}

-- the picks of a list that copies share, where there are some
abbrev pub shared_picks : {Z : Type 0} → Option (Arc (List Pick) Z) → List Pick
shared_picks None = []
shared_picks (Some shared) = arc_value shared

-- the picks of lists, one list after the other
abbrev pub joined_picks : List (List Pick) → List Pick
joined_picks lists = flat_map (λ (picks : List Pick). picks) lists

-- the picks of a first list, and then those of lists of further turns
abbrev pub picks_in : List Pick → List (List Pick) → List Pick
picks_in first turns = first ++ joined_picks turns
