-- The equations that picks add.
use Rattle.std.specs.Prelude.{List, [], ◌∷◌, ◌++◌, option_to_list}
use Rattle.tree_node.specs.declared.pick.Pick.{Pick}
use Rattle.tree_node.specs.Store.{Equation}
use Rattle.pick_list.specs.declared.columns.Bind.{Bind}

-- that of a bind
abbrev pub equation_of : Bind → Equation
equation_of b = (b.var, b.term)

-- in the order of the picks
abbrev pub binds_of : List Pick → List Equation
binds_of [] = []
binds_of (k ∷ ks) = option_to_list k.bind ++ binds_of ks
