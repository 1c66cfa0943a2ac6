-- What node_of says: a node of the class, and none only where the class has none.
use Rattle.std.proofs.Common.{arith, ◌≡◌, ◌∙◌, sym, ap, refl, subst, [], ◌∷◌, ◌⊎◌, inl, inr, Bool, true, false, cond, Some, None}
use Rattle.std.specs.Prelude.{Contains, Option}
use Rattle.tree_node.specs.declared.names.VarName.{VarName}
use Rattle.tree_node.specs.declared.node.Node.{Node}
use Rattle.tree_node.specs.declared.node.Term.TheVariants as term
use Rattle.tree_node.specs.Store.{Equation, Store, Det, equal_var, root_of, node_among, node_of}
use Rattle.tree_node.proofs.ClassLemmas.{same_name_decides, Contains-head, Contains-tail, Contains-cons_cases, roots_tell_classes}

pub found : (root : VarName → VarName) (s : Store) (x : VarName) (n : Node) → node_among root s x ≡ Some n → (y : VarName) × (root y ≡ root x) × Contains s (y, term.Node n)
found root [] x n e = cc
found root ((u, term.Var v) ∷ s) x n e = let rest = found root s x n e in (rest.0, rest.1, Contains-tail _ _ s rest.2)
found root ((u, term.Node m) ∷ s) x n e = go (equal_var (root u) (root x)) refl (λ k. found root s x n k) e
  where
    go : (b : Bool) → equal_var (root u) (root x) ≡ b → (node_among root s x ≡ Some n → (y : VarName) × (root y ≡ root x) × Contains s (y, term.Node n)) →
        cond b (Some m) (node_among root s x) ≡ Some n → (y : VarName) × (root y ≡ root x) × Contains ((u, term.Node m) ∷ s) (y, term.Node n)
    go true at ih k =
        let same : m ≡ n = cc in
        (u, (same_name_decides _ _).0 at, subst (λ (i : Node). Contains ((u, term.Node m) ∷ s) (u, term.Node i)) same (Contains-head _ s))
    go false at ih k = let rest = ih k in (rest.0, rest.1, Contains-tail _ _ s rest.2)

pub missing : (root : VarName → VarName) (s : Store) (x y : VarName) (n : Node) → root y ≡ root x → Contains s (y, term.Node n) → node_among root s x ≡ None → ⊥
missing root [] x y n at (k, below, is) e = absurd (omega arith)
missing root ((u, term.Var v) ∷ s) x y n at h e = go (λ k. missing root s x y n at k e) (Contains-cons_cases _ _ s h)
  where
    go : (Contains s (y, term.Node n) → ⊥) → (◌≡◌ {A = Equation} (u, term.Var v) (y, term.Node n)) ⊎ Contains s (y, term.Node n) → ⊥
    go ih (inl same) = let terms : term.Var v ≡ term.Node n = ap (λ (p : Equation). p.1) same in cc
    go ih (inr rest) = ih rest
missing root ((u, term.Node m) ∷ s) x y n at h e = go (equal_var (root u) (root x)) refl (λ k l. missing root s x y n at k l) (Contains-cons_cases _ _ s h) e
  where
    go : (b : Bool) → equal_var (root u) (root x) ≡ b → (Contains s (y, term.Node n) → node_among root s x ≡ None → ⊥) →
        (◌≡◌ {A = Equation} (u, term.Node m) (y, term.Node n)) ⊎ Contains s (y, term.Node n) → cond b (Some m) (node_among root s x) ≡ None → ⊥
    go true q ih c k = cc
    go false q ih (inr rest) k = ih rest k
    go false q ih (inl same) k =
        let left : u ≡ y = ap (λ (p : Equation). p.0) same in
        let roots : root u ≡ root x = ap root left ∙ at in
        let yes : equal_var (root u) (root x) ≡ true = (same_name_decides _ _).1 roots in cc

pub node_is_det : (s : Store) (x : VarName) (n : Node) → node_of s x ≡ Some n → Det s x n
node_is_det s x n e =
    let at = found (root_of s) s x n e in (at.0, (roots_tell_classes s x at.0).1 (sym at.1), at.2)

pub none_is_not_det : (s : Store) (x : VarName) (n : Node) → node_of s x ≡ None → Det s x n → ⊥
none_is_not_det s x n e (y, same, holds) = missing (root_of s) s x y n (sym ((roots_tell_classes s x y).0 same)) holds e

-- where a class has one node, node_of is Det
pub det_is_node : (s : Store) → ((x : VarName) (m n : Node) → Det s x m → Det s x n → m ≡ n) → (x : VarName) (n : Node) → Det s x n → node_of s x ≡ Some n
det_is_node s one x n det = go (node_of s x) refl
  where
    go : (o : Option Node) → node_of s x ≡ o → o ≡ Some n
    go None e = absurd (none_is_not_det s x n e det)
    go (Some m) e = ap Some (one x m n (node_is_det s x m e) det)
