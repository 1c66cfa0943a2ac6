-- Whose node comes by a bind, by what the equations say of the variable's class, and who goes on.
use Rattle.std.specs.Prelude.{Bool, false, ◌&&◌, is_some}
use Rattle.std.specs.List.{list_any}
use Rattle.tree_node.specs.declared.names.VarName.{VarName}
use Rattle.tree_node.specs.Store.{Store, equal_var, root_of, node_of}
use Rattle.thread_roster.specs.declared.mode.Mode.{Mode}
use Rattle.thread_roster.specs.declared.mode.Mode.TheVariants.{Runs, Waits, Needs, WaitsAny, WaitsFor}

-- y is of the class of x
abbrev pub is_of_class : Store → VarName → VarName → Bool
is_of_class s x y = equal_var (root_of s y) (root_of s x)

-- x was bound, and its class has a node: that is the class of y too
abbrev pub by_node : Store → VarName → VarName → Bool
by_node s x y = is_some (node_of s x) && is_of_class s x y

-- x was bound: who waits until it is goes on, alone or among others, and who needs the node of a class that has one by that
abbrev pub goes_on : Store → VarName → Mode → Bool
goes_on s x Runs = false
goes_on s x (Waits y) = equal_var y x
goes_on s x (Needs y) = by_node s x y
goes_on s x (WaitsAny ys) = list_any (λ y. equal_var y x) ys
goes_on s x (WaitsFor c) = false
