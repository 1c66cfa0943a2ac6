-- The ports of a site as a list, in the order in which they were made, each with its end (CTM section 5.1).
use Rattle.std.specs.Prelude.{List, Option}
use Rattle.std.specs.Map.{lookup}
use Rattle.indexmap.specs.IndexMap.{insert_entry}
use Rattle.tree_node.specs.declared.names.VarName.{VarName}
use Rattle.tree_node.specs.declared.names.PortName.{PortName}
use Rattle.tree_node.specs.Goal.{equal_port}

-- a port with its end: the variable that the next send binds
abbrev pub Owned : Type 0
Owned = PortName × VarName

-- the end of a port: none where it was not made
abbrev pub end_of : List Owned → PortName → Option VarName
end_of es q = lookup (equal_port q) es

-- this is the port's end
abbrev pub with_end : List Owned → PortName → VarName → List Owned
with_end es q x = insert_entry equal_port es q x
