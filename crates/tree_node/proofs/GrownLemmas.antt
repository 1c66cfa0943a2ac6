-- By one more equation the class of its variable alone comes to have a node.
use Rattle.std.proofs.Common.{◌≡◌, ◌∙◌, sym, ap, refl, [], ◌∷◌, Bool, true, false, cond, Option, Some, None}
use Rattle.tree_node.specs.declared.names.VarName.{VarName}
use Rattle.tree_node.specs.declared.node.Node.{Node}
use Rattle.tree_node.specs.declared.node.Term.{Term}
use Rattle.tree_node.specs.declared.node.Term.TheVariants as term
use Rattle.tree_node.specs.Store.{Store, equal_var, joined_root, root_of, node_of, node_among}
use Rattle.tree_node.proofs.ClassLemmas.{same_name_decides, joined_when, joined_same}
use Rattle.tree_node.proofs.CompareLemmas.{equal_truths}

-- the root of a variable of neither class is the old one
root_else : (root : VarName → VarName) (w v z : VarName) → (joined_root root w v z ≡ root v → ⊥) → joined_root root w v z ≡ root z
root_else root w v z far = go (equal_var (root z) (root w)) refl
  where
    go : (b : Bool) → equal_var (root z) (root w) ≡ b → cond b (root v) (root z) ≡ root z
    go true e = absurd (far (joined_when root w v z ((same_name_decides (root z) (root w)).0 e)))
    go false e = refl

-- a variable of neither class has the node that it had
among_far : (root : VarName → VarName) (w v x : VarName) (s : Store) → (joined_root root w v x ≡ root v → ⊥) → node_among (joined_root root w v) s x ≡ node_among root s x
among_far root w v x [] far = refl
among_far root w v x ((u, term.Var y) ∷ s) far = among_far root w v x s far
among_far root w v x ((u, term.Node m) ∷ s) far =
    ap (λ (b : Bool). cond b (Some m) (node_among (joined_root root w v) s x)) tests
    ∙ ap (λ (o : Option Node). cond (equal_var (root u) (root x)) (Some m) o) (among_far root w v x s far)
  where
    own : joined_root root w v x ≡ root x
    own = root_else root w v x far

    tests : equal_var (joined_root root w v u) (joined_root root w v x) ≡ equal_var (root u) (root x)
    tests = equal_truths (equal_var (joined_root root w v u) (joined_root root w v x)) (equal_var (root u) (root x))
        (λ e. let same = (same_name_decides (joined_root root w v u) (joined_root root w v x)).0 e in
        (same_name_decides (root u) (root x)).1 (sym (root_else root w v u (λ k. far (sym same ∙ k))) ∙ same ∙ own))
        (λ e. (same_name_decides (joined_root root w v u) (joined_root root w v x)).1 (joined_same root w v u x ((same_name_decides (root u) (root x)).0 e)))

pub new_node : (s : Store) (w x : VarName) (t : Term) (n : Node) → node_of s x ≡ None → node_of ((w, t) ∷ s) x ≡ Some n → root_of ((w, t) ∷ s) x ≡ root_of ((w, t) ∷ s) w
new_node s w x (term.Node m) n none some = go (equal_var (root_of s w) (root_of s x)) refl some
  where
    go : (b : Bool) → equal_var (root_of s w) (root_of s x) ≡ b → cond b (Some m) (node_of s x) ≡ Some n → root_of s x ≡ root_of s w
    go true e k = sym ((same_name_decides (root_of s w) (root_of s x)).0 e)
    go false e k = let both : None ≡ Some n = sym none ∙ k in cc
new_node s w x (term.Var v) n none some = go (equal_var (joined_root (root_of s) w v x) (root_of s v)) refl ∙ sym (joined_when (root_of s) w v w refl)
  where
    go : (b : Bool) → equal_var (joined_root (root_of s) w v x) (root_of s v) ≡ b → joined_root (root_of s) w v x ≡ root_of s v
    go true e = (same_name_decides (joined_root (root_of s) w v x) (root_of s v)).0 e
    go false e =
        let far : joined_root (root_of s) w v x ≡ root_of s v → ⊥ = (λ k. let yes = (same_name_decides (joined_root (root_of s) w v x) (root_of s v)).1 k in absurd (other e yes)) in
        let both : None ≡ Some n = sym none ∙ (sym (among_far (root_of s) w v x s far) ∙ some) in cc
      where
        other : equal_var (joined_root (root_of s) w v x) (root_of s v) ≡ false → equal_var (joined_root (root_of s) w v x) (root_of s v) ≡ true → ⊥
        other p q = let no : true ≡ false = sym q ∙ p in cc
