-- Sound stores: one node a class, and the root as the class's name.
use Rattle.std.proofs.Common.{arith, ◌≡◌, ◌∙◌, sym, ap, refl, subst, [], ◌∷◌, ◌⊎◌, inl, inr, Bool, true, false, cond, Some, None}
use Rattle.std.specs.Prelude.{Contains, Option}
use Rattle.tree_node.specs.declared.names.Name.{Name}
use Rattle.tree_node.specs.declared.names.Name.TheVariants as name
use Rattle.tree_node.specs.declared.names.VarName.{VarName}
use Rattle.tree_node.specs.declared.node.Node.{Node}
use Rattle.tree_node.specs.declared.node.Term.{Term}
use Rattle.tree_node.specs.declared.node.Term.TheVariants as term
use Rattle.tree_node.specs.Each.{Each}
use Rattle.tree_node.specs.Names.{EachOfEquation}
use Rattle.tree_node.specs.Store.{Equation, Store, Same, here, onward, IsSound, IsFree, equal_var, joined_root, root_of, node_among, node_of}
use Rattle.tree_node.specs.Classes.{SoundHasOne, HasOneEach, OneNamesClass, RootNamesClass}
use Rattle.tree_node.proofs.ClassLemmas.{same_name_decides, Contains-cons_cases, Same-trans, Same-sym, Same-root, to_root, joined_when, joined_end}
use Rattle.tree_node.proofs.DetLemmas.{found, missing}
use Rattle.tree_node.proofs.OrderLemmas.{Each-member}

pub equal_vars : {x y : VarName} → term.Var x ≡ term.Var y → x ≡ y
equal_vars e = cc

equal_nodes : {m n : Node} → term.Node m ≡ term.Node n → m ≡ n
equal_nodes e = cc

-- a variable with a node is in no class without one
no_node : (s : Store) (x y : VarName) (n : Node) → root_of s y ≡ root_of s x → Contains s (y, term.Node n) → node_of s x ≡ None → ⊥
no_node s x y n at h e = missing (root_of s) s x y n at h e

-- in a sound store two nodes of one class are the same
same_root_node : (s : Store) (y z : VarName) (m n : Node) → IsSound s → root_of s y ≡ root_of s z → Contains s (y, term.Node m) → Contains s (z, term.Node n) → m ≡ n
same_root_node [] y z m n is e (i, below, at) k = absurd (omega arith)
same_root_node ((u, term.Node o) ∷ s) y z m n is e h k =
    go (λ h k. same_root_node s y z m n is.0 e h k) (Contains-cons_cases _ _ s h) (Contains-cons_cases _ _ s k)
  where
    go : (Contains s (y, term.Node m) → Contains s (z, term.Node n) → m ≡ n) →
        (◌≡◌ {A = Equation} (u, term.Node o) (y, term.Node m)) ⊎ Contains s (y, term.Node m) → (◌≡◌ {A = Equation} (u, term.Node o) (z, term.Node n)) ⊎ Contains s (z, term.Node n) → m ≡ n
    go ih (inl a) (inl b) = equal_nodes (sym (ap (λ (p : Equation). p.1) a) ∙ ap (λ (p : Equation). p.1) b)
    go ih (inl a) (inr k) =
        let left : u ≡ y = ap (λ (p : Equation). p.0) a in
        absurd (no_node s u z n (sym (ap (root_of s) left ∙ e)) k is.1)
    go ih (inr h) (inl b) =
        let left : u ≡ z = ap (λ (p : Equation). p.0) b in
        absurd (no_node s u y m (e ∙ sym (ap (root_of s) left)) h is.1)
    go ih (inr h) (inr k) = ih h k
same_root_node ((u, term.Var v) ∷ s) y z m n is e h k =
    go (λ a b c. same_root_node s y z m n is.0 a b c) (only h) (only_right k) (equal_var (root_of s y) (root_of s u)) refl (equal_var (root_of s z) (root_of s u)) refl e
  where
    only : Contains ((u, term.Var v) ∷ s) (y, term.Node m) → Contains s (y, term.Node m)
    only h = in_rest (Contains-cons_cases _ _ s h)
      where
        in_rest : (◌≡◌ {A = Equation} (u, term.Var v) (y, term.Node m)) ⊎ Contains s (y, term.Node m) → Contains s (y, term.Node m)
        in_rest (inl a) = let terms : term.Var v ≡ term.Node m = ap (λ (p : Equation). p.1) a in cc
        in_rest (inr k) = k

    only_right : Contains ((u, term.Var v) ∷ s) (z, term.Node n) → Contains s (z, term.Node n)
    only_right h = in_rest (Contains-cons_cases _ _ s h)
      where
        in_rest : (◌≡◌ {A = Equation} (u, term.Var v) (z, term.Node n)) ⊎ Contains s (z, term.Node n) → Contains s (z, term.Node n)
        in_rest (inl a) = let terms : term.Var v ≡ term.Node n = ap (λ (p : Equation). p.1) a in cc
        in_rest (inr k) = k

    apart : (a b : VarName) (i j : Node) → root_of s a ≡ root_of s u → root_of s b ≡ root_of s v → Contains s (a, term.Node i) → Contains s (b, term.Node j) → (node_of s u ≡ None) ⊎ (node_of s v ≡ None) → ⊥
    apart a b i j p q h k (inl open_u) = no_node s u a i p h open_u
    apart a b i j p q h k (inr open_v) = no_node s v b j q k open_v

    go : (root_of s y ≡ root_of s z → Contains s (y, term.Node m) → Contains s (z, term.Node n) → m ≡ n) → Contains s (y, term.Node m) → Contains s (z, term.Node n) →
        (a : Bool) → equal_var (root_of s y) (root_of s u) ≡ a → (b : Bool) → equal_var (root_of s z) (root_of s u) ≡ b →
        cond a (root_of s v) (root_of s y) ≡ cond b (root_of s v) (root_of s z) → m ≡ n
    go ih h k true p true q e = ih ((same_name_decides _ _).0 p ∙ sym ((same_name_decides _ _).0 q)) h k
    go ih h k true p false q e = absurd (apart y z m n ((same_name_decides _ _).0 p) (sym e) h k is.2)
    go ih h k false p true q e = absurd (apart z y n m ((same_name_decides _ _).0 q) e k h is.2)
    go ih h k false p false q e = ih e h k

pub sound_has_one : SoundHasOne
sound_has_one s x m n is (y, p, h) (z, q, k) =
    same_root_node s y z m n is (Same-root (Same-trans (Same-sym p) q)) h k

-- equations lead from x to y
pub data Down (s : Store) : VarName → VarName → Type 0 where
  stop : {x : VarName} → Down s x x
  link : {x y z : VarName} → Contains s (x, term.Var y) → Down s y z → Down s x z

-- where each variable has one equation at most, all ways of a class lead to its variable without one
pub down_step : {s : Store} {x y u : VarName} → HasOneEach s → IsFree s u → Contains s (y, term.Var x) → Down s y u → Down s x u
down_step {s} {x} one free h stop = absurd (free (term.Var x) h)
down_step {s} {x} one free h (link {x = a} {y = b} {z = d} g p) =
    subst (λ (w : VarName). Down s w d) (equal_vars (one a (term.Var b) (term.Var x) g h)) p

pub down_of_same : {s : Store} {x u : VarName} → HasOneEach s → IsFree s u → Same s x u → Down s x u
down_of_same one free here = stop
down_of_same one free (onward (inl h) p) = link h (down_of_same one free p)
down_of_same one free (onward (inr h) p) = down_step one free h (down_of_same one free p)

free_stops : {s : Store} {a b : VarName} → IsFree s a → Down s a b → a ≡ b
free_stops free stop = refl
free_stops free (link h p) = absurd (free (term.Var _) h)

pub one_names_class : OneNamesClass
one_names_class s x y z one (p, free) (q, open_z) =
    free_stops free (down_of_same one open_z (Same-trans (Same-sym p) q))

-- the root is its own root
pub root_root : (s : Store) (x : VarName) → root_of s (root_of s x) ≡ root_of s x
root_root s x = sym (Same-root (to_root s x))

-- a class that has no node after one more equation between variables had none before
open_before : (s : Store) (u v x w : VarName) → joined_root (root_of s) u v w ≡ joined_root (root_of s) u v x → ((y : VarName) → root_of s y ≡ root_of s w → joined_root (root_of s) u v y ≡ joined_root (root_of s) u v w) →
    node_among (joined_root (root_of s) u v) s x ≡ None → node_of s w ≡ None
open_before s u v x w same keeps e = go (node_of s w) refl
  where
    go : (o : Option Node) → node_of s w ≡ o → node_of s w ≡ None
    go None is = is
    go (Some n) is = let at = found (root_of s) s w n is in absurd (missing (joined_root (root_of s) u v) s x at.0 n (keeps at.0 at.1 ∙ same) at.2 e)

joined_as : (s : Store) (u v y w : VarName) → root_of s y ≡ root_of s w → joined_root (root_of s) u v y ≡ joined_root (root_of s) u v w
joined_as s u v y w e = ap (λ (z : VarName). cond (equal_var z (root_of s u)) (root_of s v) z) e

free_more : (s : Store) (u w : VarName) (t : Term) → IsFree s w → (u ≡ w → ⊥) → IsFree ((u, t) ∷ s) w
free_more s u w t free differs r h = go (Contains-cons_cases _ _ s h)
  where
    go : (◌≡◌ {A = Equation} (u, t) (w, r)) ⊎ Contains s (w, r) → ⊥
    go (inl e) = differs (ap (λ (p : Equation). p.0) e)
    go (inr k) = free r k

root_is_free : (s : Store) (x : VarName) → IsSound s → node_of s x ≡ None → IsFree s (root_of s x)
root_is_free [] x is e = λ t h. empty x t h
  where
    empty : (y : VarName) (t : Term) → Contains {X = Equation} [] (y, t) → ⊥
    empty y t (i, below, at) = omega arith
root_is_free ((u, term.Node n) ∷ s) x is e = go (equal_var (root_of s u) (root_of s x)) refl (λ k. root_is_free s x is.0 k) e
  where
    go : (b : Bool) → equal_var (root_of s u) (root_of s x) ≡ b → (node_of s x ≡ None → IsFree s (root_of s x)) → cond b (Some n) (node_of s x) ≡ None → IsFree ((u, term.Node n) ∷ s) (root_of s x)
    go true p ih k = cc
    go false p ih k = free_more s u (root_of s x) (term.Node n) (ih k) (λ same.
        let yes : equal_var (root_of s u) (root_of s x) ≡ true = (same_name_decides _ _).1 (ap (root_of s) same ∙ root_root s x) in cc)
root_is_free ((u, term.Var v) ∷ s) x is e =
    go (equal_var (root_of s x) (root_of s u)) refl (λ k. root_is_free s x is.0 k) (λ k. root_is_free s v is.0 k)
  where
    from_v : joined_root (root_of s) u v v ≡ joined_root (root_of s) u v x → node_of s v ≡ None
    from_v same = open_before s u v x v same (λ y p. joined_as s u v y v p) e

    from_x : node_of s x ≡ None
    from_x = open_before s u v x x refl (λ y p. joined_as s u v y x p) e

    go : (b : Bool) → equal_var (root_of s x) (root_of s u) ≡ b → (node_of s x ≡ None → IsFree s (root_of s x)) → (node_of s v ≡ None → IsFree s (root_of s v)) → IsFree ((u, term.Var v) ∷ s) (cond b (root_of s v) (root_of s x))
    go true p ih jh =
        let at : root_of s x ≡ root_of s u = (same_name_decides _ _).0 p in
        let same : joined_root (root_of s) u v v ≡ joined_root (root_of s) u v x = joined_end (root_of s) u v ∙ sym (joined_when (root_of s) u v x at) in
        free_more s u (root_of s v) (term.Var v) (jh (from_v same)) (λ w. is.1 (ap (root_of s) w ∙ root_root s v))
    go false p ih jh = free_more s u (root_of s x) (term.Var v) (ih from_x) (λ w.
        let yes : equal_var (root_of s x) (root_of s u) ≡ true = (same_name_decides _ _).1 (sym (ap (root_of s) w ∙ root_root s x)) in cc)

pub root_names_class : RootNamesClass
root_names_class s x is e = (to_root s x, root_is_free s x is e)

-- a class has the variables of the equations, and the one that it is the class of
pub class_names : (P : Name → Type 0) (s : Store) (u x : VarName) → Each (EachOfEquation P) s → Same s u x → P (name.Var u) → P (name.Var x)
class_names P s u x h here g = g
class_names P s u x h (onward (inl l) q) g = class_names P s _ x h q (Each-member (EachOfEquation P) s _ h l).1
class_names P s u x h (onward (inr l) q) g = class_names P s _ x h q (Each-member (EachOfEquation P) s _ h l).0
