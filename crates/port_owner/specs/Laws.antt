-- The ends of one port are one chain, whatever is sent to other ports in between (CTM section 5.1).
use Rattle.std.specs.Prelude.{◌≡◌, List, [], ◌∷◌, ◌++◌, Option, Some, if◌then◌else◌}
use Rattle.tree_node.specs.declared.names.VarName.{VarName}
use Rattle.tree_node.specs.declared.names.PortName.{PortName}
use Rattle.port_owner.specs.Ports.{Owned, end_of, with_end}
use Rattle.tree_node.specs.Goal.{equal_port}

-- the ends that sends to a port gave and left, in their order: each send is a port and the new end
abbrev pub ends_from : PortName → List Owned → List (PortName × VarName) → List (Option VarName × VarName)
ends_from q es [] = []
ends_from q es ((r, x) ∷ sends) = (if equal_port q r then (end_of es r, x) ∷ [] else []) ++ ends_from q (with_end es r x) sends

-- from this end on, each send gives the end that the one before left
abbrev pub IsChainFrom : VarName → List (Option VarName × VarName) → Type 0
IsChainFrom x [] = Unit {0}
IsChainFrom x ((old, new) ∷ ends) = (old ≡ Some x) × IsChainFrom new ends

-- whatever is sent, the ends of each port that was made are a chain from the one that it has
abbrev pub EndsAreChains : Type 0
EndsAreChains = (es : List Owned) (q : PortName) (x : VarName) (sends : List (PortName × VarName)) → end_of es q ≡ Some x → IsChainFrom x (ends_from q es sends)
