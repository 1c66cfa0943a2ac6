-- Which case a pair is, by its sides.
use Rattle.std.proofs.Common.{◌≡◌, ◌∙◌, ap, refl, List, [], ◌∷◌, ◌⊎◌, inl, inr, Bool, true, false, cond, Some, None}
use Rattle.std.specs.Prelude.{Option}
use Rattle.tree_node.specs.declared.names.VarName.{VarName}
use Rattle.tree_node.specs.declared.node.Node.{Node}
use Rattle.tree_node.specs.declared.node.Term.{Term}
use Rattle.tree_node.specs.declared.node.Term.TheVariants as term
use Rattle.tree_node.specs.Store.{Store, equal_var, node_among}
use Rattle.tree_node.specs.Goal.{Binds, case_of, case_of_nodes, IsOpenAt, side_node, same_class}

-- variables of one root have one node
pub among_same : (root : VarName → VarName) (s : Store) (x y : VarName) → root x ≡ root y → node_among root s x ≡ node_among root s y
among_same root [] x y e = refl
among_same root ((u, term.Var v) ∷ s) x y e = among_same root s x y e
among_same root ((u, term.Node n) ∷ s) x y e =
    ap (λ (r : VarName). cond (equal_var (root u) r) (Some n) (node_among root s x)) e
    ∙ ap (λ (o : Option Node). cond (equal_var (root u) (root y)) (Some n) o) (among_same root s x y e)

-- a side without a node
pub open_none : (s : Store) (a : Term) (u : VarName) → IsOpenAt s a u → side_node s a ≡ None
open_none s (term.Var x) u h = h.1
open_none s (term.Node n) u h = absurd h

pub nodes_right : (met : List (Node × Node)) (o : Option Node) → case_of_nodes met o None ≡ Binds
nodes_right met None = refl
nodes_right met (Some m) = refl

pub binds_when : (s : Store) (met : List (Node × Node)) (a b : Term) → (same_class s a b ≡ true → ⊥) → (side_node s a ≡ None) ⊎ (side_node s b ≡ None) → case_of s met a b ≡ Binds
binds_when s met a b apart none = go (same_class s a b) refl none
  where
    go : (d : Bool) → same_class s a b ≡ d → (side_node s a ≡ None) ⊎ (side_node s b ≡ None) → case_of s met a b ≡ Binds
    go true e none = absurd (apart e)
    go false e (inl p) = rw (e, p) refl
    go false e (inr q) = rw (e, q) (nodes_right met (side_node s a))
