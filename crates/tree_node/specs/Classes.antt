-- What root_of and node_of say: roots are equal exactly where a path joins the two variables, and a node is one of
-- the class.
use Rattle.std.specs.Prelude.{◌≡◌, ◌↔◌, Some, None, Contains}
use Rattle.tree_node.specs.declared.names.VarName.{VarName}
use Rattle.tree_node.specs.declared.node.Node.{Node}
use Rattle.tree_node.specs.declared.node.Term.{Term}
use Rattle.tree_node.specs.Store.{Store, Same, Det, IsSound, IsClassName, root_of, node_of}

-- two variables have one root exactly where a path of equations joins them
abbrev pub RootsTellClasses : Type 0
RootsTellClasses = (s : Store) (x y : VarName) → Same s x y ↔ (root_of s x ≡ root_of s y)

-- the node that node_of finds is one that an equation gives a variable of the class
abbrev pub NodesAreDet : Type 0
NodesAreDet = (s : Store) (x : VarName) (n : Node) → node_of s x ≡ Some n → Det s x n

-- where node_of finds none, no equation gives a variable of the class a node
abbrev pub NoneHasNone : Type 0
NoneHasNone = (s : Store) (x : VarName) (n : Node) → node_of s x ≡ None → Det s x n → ⊥

-- in a sound store a class has one node at most
abbrev pub SoundHasOne : Type 0
SoundHasOne = (s : Store) (x : VarName) (m n : Node) → IsSound s → Det s x m → Det s x n → m ≡ n

-- each variable has at most one equation of its own
abbrev pub HasOneEach : Store → Type 0
HasOneEach s = (x : VarName) (t r : Term) → Contains s (x, t) → Contains s (x, r) → t ≡ r

-- then one variable at most names a class
abbrev pub OneNamesClass : Type 0
OneNamesClass = (s : Store) (x y z : VarName) → HasOneEach s → IsClassName s x y → IsClassName s x z → y ≡ z

-- in a sound store the root names a class that has no node
abbrev pub RootNamesClass : Type 0
RootNamesClass = (s : Store) (x : VarName) → IsSound s → node_of s x ≡ None → IsClassName s x (root_of s x)
