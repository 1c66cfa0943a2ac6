-- Pairs of variables that stand for their classes: what a comparison looks at, once each.
use Rattle.std.specs.Prelude.{List, Bool, ◌&&◌, map, fold}
use Rattle.tree_node.specs.Store.{Store, equal_var, root_of}
use Rattle.tree_node.specs.Compare.{Pair, relation, parts_of, with_new}

-- the same pair
abbrev pub equal_pair : Pair → Pair → Bool
equal_pair a b = equal_var a.0 b.0 && equal_var a.1 b.1

-- the variables that stand for the classes of the two
abbrev pub roots : Store → Pair → Pair
roots s q = (root_of s q.0, root_of s q.1)

-- the classes of the parts of a pair
abbrev pub leads_to : Store → Pair → List Pair
leads_to s q = map (roots s) (parts_of (relation s q))

-- the elements of a second list behind those of a first, each once
abbrev pub all_new : {X : Type 0} → (X → X → Bool) → List X → List X → List X
all_new eq xs ys = fold (with_new eq) xs ys
