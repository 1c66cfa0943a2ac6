-- The variables of a term.
use Rattle.std.specs.Prelude.{List, [], ◌∷◌, map}
use Rattle.tree_node.specs.declared.names.VarName.{VarName}
use Rattle.tree_node.specs.declared.node.Feature.{Feature}
use Rattle.tree_node.specs.declared.node.Node.{Node}
use Rattle.tree_node.specs.declared.node.Node.TheVariants as node
use Rattle.tree_node.specs.declared.node.Term.{Term}
use Rattle.tree_node.specs.declared.node.Term.TheVariants as term

-- the variables in the fields of a record
abbrev pub field_vars : List (Feature × VarName) → List VarName
field_vars fields = map (λ (f : Feature × VarName). f.1) fields

-- those of a record in the order of its fields, those of a procedure in the order of its list
abbrev pub vars_of : Term → List VarName
vars_of (term.Var y) = y ∷ []
vars_of (term.Node n) = vars_of_node n
  where
    vars_of_node : Node → List VarName
    vars_of_node (node.Rec label fields) = field_vars fields
    vars_of_node (node.Proc formals code name vars) = vars
    vars_of_node _ = []
