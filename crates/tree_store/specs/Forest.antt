-- Stores in which each variable has at most one equation, and links lead to lesser names.
use Rattle.std.specs.Prelude.{◌≡◌, [], ◌∷◌, Contains}
use Rattle.tree_node.specs.declared.names.VarName.{VarName}
use Rattle.tree_node.specs.declared.node.Term.{Term}
use Rattle.tree_node.specs.Order.{IsLower}
use Rattle.tree_node.specs.Store.{Store, IsFree}

-- each variable has at most one equation of its own, and links go down
pub record IsForest (s : Store) : Type 0 where
  pub one : (x : VarName) (t r : Term) → Contains s (x, t) → Contains s (x, r) → t ≡ r
  pub down : (x : VarName) (t : Term) → Contains s (x, t) → IsLower t x

-- each equation was added for a variable that was free, and links go down
abbrev pub IsGrown : Store → Type 0
IsGrown [] = Unit {0}
IsGrown ((u, t) ∷ s) = IsGrown s × IsFree s u × IsLower t u
