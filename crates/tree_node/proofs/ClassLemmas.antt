-- Roots are equal exactly where a path joins the two variables.
use Rattle.std.proofs.Common.{rules, arith, ◌≡◌, ◌∙◌, sym, ap, refl, subst, zero, suc, List, [], ◌∷◌, ◌⊎◌, inl, inr, Bool, true, false, cond}
use Rattle.std.specs.Prelude.{Contains}
use Rattle.std.specs.Bool.{Decides}
use Rattle.tree_node.specs.declared.names.VarName.{VarName}
use Rattle.tree_node.specs.declared.node.Term.TheVariants as term
use Rattle.tree_node.specs.Store.{Equation, Store, Linked, Same, here, onward, equal_var, joined_root, root_of}
use Rattle.tree_node.specs.Classes.{RootsTellClasses}

pub same_name_decides : (a b : VarName) → Decides (equal_var a b) (a ≡ b)
same_name_decides a b = search rules

pub same_name_refl : (a : VarName) → equal_var a a ≡ true
same_name_refl a = (same_name_decides a a).1 refl

-- an element of a list is its head or stands in its tail
pub Contains-cons_cases : {X : Type 0} (x y : X) (xs : List X) → Contains (x ∷ xs) y → (x ≡ y) ⊎ Contains xs y
Contains-cons_cases x y xs (zero, below, is) = inl is
Contains-cons_cases x y xs (suc k, below, is) = inr (k, omega arith, is)

pub Contains-head : {X : Type 0} (x : X) (xs : List X) → Contains (x ∷ xs) x
Contains-head x xs = (zero, omega arith, refl)

pub Contains-tail : {X : Type 0} (x y : X) (xs : List X) → Contains xs y → Contains (x ∷ xs) y
Contains-tail x y xs (k, below, is) = (suc k, omega arith, is)

-- paths: one more equation keeps them, and they can be joined and turned
pub Linked-cons : (e : Equation) (s : Store) (x y : VarName) → Linked s x y → Linked (e ∷ s) x y
Linked-cons e s x y (inl h) = inl (Contains-tail _ _ s h)
Linked-cons e s x y (inr h) = inr (Contains-tail _ _ s h)

pub Same-cons : (e : Equation) {s : Store} {x y : VarName} → Same s x y → Same (e ∷ s) x y
Same-cons e here = here
Same-cons e (onward l p) = onward (Linked-cons e _ _ _ l) (Same-cons e p)

pub Same-trans : {s : Store} {x y z : VarName} → Same s x y → Same s y z → Same s x z
Same-trans here q = q
Same-trans (onward l p) q = onward l (Same-trans p q)

Linked-sym : (s : Store) (x y : VarName) → Linked s x y → Linked s y x
Linked-sym s x y (inl h) = inr h
Linked-sym s x y (inr h) = inl h

pub Same-sym : {s : Store} {x y : VarName} → Same s x y → Same s y x
Same-sym here = here
Same-sym (onward l p) = Same-trans (Same-sym p) (onward (Linked-sym _ _ _ l) here)

pub Same-eq : {s : Store} {x y : VarName} → x ≡ y → Same s x y
Same-eq {s} {x} {y} e = subst (λ (z : VarName). Same s x z) e here

-- a class's root after one more equation
pub joined_when : (root : VarName → VarName) (u v x : VarName) → root x ≡ root u → joined_root root u v x ≡ root v
joined_when root u v x e = rw (e, same_name_refl (root u)) refl

pub joined_end : (root : VarName → VarName) (u v : VarName) → joined_root root u v v ≡ root v
joined_end root u v = go (equal_var (root v) (root u))
  where
    go : (b : Bool) → cond b (root v) (root v) ≡ root v
    go true = refl
    go false = refl

pub joined_same : (root : VarName → VarName) (u v x y : VarName) → root x ≡ root y → joined_root root u v x ≡ joined_root root u v y
joined_same root u v x y e = ap (λ (z : VarName). cond (equal_var z (root u)) (root v) z) e

-- an equation has equal roots at its ends
Contains-root : (s : Store) (x y : VarName) → Contains s (x, term.Var y) → root_of s x ≡ root_of s y
Contains-root [] x y (k, below, is) = absurd (omega arith)
Contains-root ((u, term.Var v) ∷ s) x y h = go (λ k. Contains-root s x y k) (Contains-cons_cases _ _ s h)
  where
    go : (Contains s (x, term.Var y) → root_of s x ≡ root_of s y) → (◌≡◌ {A = Equation} (u, term.Var v) (x, term.Var y)) ⊎ Contains s (x, term.Var y) → joined_root (root_of s) u v x ≡ joined_root (root_of s) u v y
    go ih (inl e) =
        let left : u ≡ x = ap (λ (p : Equation). p.0) e in
        let terms : term.Var v ≡ term.Var y = ap (λ (p : Equation). p.1) e in
        let right : v ≡ y = cc in
        rw (← left, ← right) (joined_when (root_of s) u v u refl ∙ sym (joined_end (root_of s) u v))
    go ih (inr h) = joined_same (root_of s) u v x y (ih h)
Contains-root ((u, term.Node n) ∷ s) x y h = go (λ k. Contains-root s x y k) (Contains-cons_cases _ _ s h)
  where
    go : (Contains s (x, term.Var y) → root_of s x ≡ root_of s y) → (◌≡◌ {A = Equation} (u, term.Node n) (x, term.Var y)) ⊎ Contains s (x, term.Var y) → root_of s x ≡ root_of s y
    go ih (inl e) = let terms : term.Node n ≡ term.Var y = ap (λ (p : Equation). p.1) e in cc
    go ih (inr h) = ih h

pub Same-root : {s : Store} {x y : VarName} → Same s x y → root_of s x ≡ root_of s y
Same-root here = refl
Same-root {s} (onward (inl h) p) = Contains-root s _ _ h ∙ Same-root p
Same-root {s} (onward (inr h) p) = sym (Contains-root s _ _ h) ∙ Same-root p

-- a path leads to the root
pub to_root : (s : Store) (x : VarName) → Same s x (root_of s x)
to_root [] x = here
to_root ((u, term.Node n) ∷ s) x = Same-cons _ (to_root s x)
to_root ((u, term.Var v) ∷ s) x = through s u v x (to_root s x) (to_root s u) (to_root s v) (equal_var (root_of s x) (root_of s u)) refl
  where
    through : (s : Store) (u v x : VarName) → Same s x (root_of s x) → Same s u (root_of s u) → Same s v (root_of s v) → (b : Bool) → equal_var (root_of s x) (root_of s u) ≡ b → Same ((u, term.Var v) ∷ s) x (cond b (root_of s v) (root_of s x))
    through s u v x p q r true e =
        let at_root : root_of s x ≡ root_of s u = (same_name_decides _ _).0 e in
        let to_u : Same s x u = Same-trans p (Same-trans (Same-eq at_root) (Same-sym q)) in
        Same-trans (Same-cons _ to_u) (onward (inl (Contains-head _ s)) (Same-cons _ r))
    through s u v x p q r false e = Same-cons _ p

pub roots_tell_classes : RootsTellClasses
roots_tell_classes s x y =
    (λ p. Same-root p, λ e. Same-trans (to_root s x) (Same-trans (Same-eq e) (Same-sym (to_root s y))))
