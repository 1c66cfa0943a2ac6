-- Classes of a forest: every variable of a class leads down to its end.
use Rattle.std.proofs.Common.{arith, ◌≡◌, ◌∙◌, sym, ap, refl, subst, [], ◌∷◌, ◌⊎◌, inl, inr, Some, None}
use Rattle.std.specs.Prelude.{Contains, Option}
use Rattle.tree_node.specs.declared.names.VarName.{VarName}
use Rattle.tree_node.specs.declared.node.Node.{Node}
use Rattle.tree_node.specs.declared.node.Term.{Term}
use Rattle.tree_node.specs.declared.node.Term.TheVariants as term
use Rattle.tree_node.specs.Store.{Equation, Store, Same, here, onward, Det, IsClassName, root_of, node_of, IsFree, IsSound}
use Rattle.tree_node.proofs.ClassLemmas.{Same-trans, Same-sym, Contains-cons_cases, roots_tell_classes, Contains-tail, Same-root, to_root}
use Rattle.tree_node.proofs.DetLemmas.{node_is_det, det_is_node}
use Rattle.tree_node.specs.Order.{IsBelow, IsLower}
use Rattle.tree_store.specs.Forest.{IsForest, IsGrown}
use Rattle.tree_node.proofs.NameLemmas.{below_not, below_trans}
use Rattle.tree_node.proofs.SoundLemmas.{root_names_class}

-- no equation of its own leads on to a variable
abbrev IsEnd : Store → VarName → Type 0
IsEnd s u = (v : VarName) → Contains s (u, term.Var v) → ⊥

-- equations lead from x down to y
data Down (s : Store) : VarName → VarName → Type 0 where
  stop : {x : VarName} → Down s x x
  link : {x y z : VarName} → Contains s (x, term.Var y) → Down s y z → Down s x z

-- one equation upwards keeps the way down
down_step : {s : Store} {x y u : VarName} → IsForest s → IsEnd s u → Contains s (y, term.Var x) → Down s y u → Down s x u
down_step {s} {x} f end h stop = absurd (end x h)
down_step {s} {x} f end h (link {x = a} {y = b} {z = d} g p) =
    let same : term.Var b ≡ term.Var x = f.one a (term.Var b) (term.Var x) g h in
    let at : b ≡ x = cc in
    subst (λ (w : VarName). Down s w d) at p

down_of_same : {s : Store} {x u : VarName} → IsForest s → IsEnd s u → Same s x u → Down s x u
down_of_same f end here = stop
down_of_same f end (onward (inl h) p) = link h (down_of_same f end p)
down_of_same f end (onward (inr h) p) = down_step f end h (down_of_same f end p)

-- two ends of one class are the same
one_end : {s : Store} {x y : VarName} → IsForest s → IsEnd s x → IsEnd s y → Same s x y → x ≡ y
one_end {s} f ex ey same = go ex (down_of_same f ey same)
  where
    go : {a b : VarName} → IsEnd s a → Down s a b → a ≡ b
    go end stop = refl
    go end (link h p) = absurd (end _ h)

node_end : (s : Store) (y : VarName) (n : Node) → IsForest s → Contains s (y, term.Node n) → IsEnd s y
node_end s y n f h v g = let e : term.Node n ≡ term.Var v = f.one y _ _ h g in cc

free_end : (s : Store) (u : VarName) → IsFree s u → IsEnd s u
free_end s u free v h = free (term.Var v) h

one_node : (s : Store) (x : VarName) (m n : Node) → IsForest s → Det s x m → Det s x n → m ≡ n
one_node s x m n f (y, p, h) (z, q, k) =
    let e : y ≡ z = one_end f (node_end s y m f h) (node_end s z n f k) (Same-trans (Same-sym p) q) in
    let same : term.Node m ≡ term.Node n = f.one z (term.Node m) (term.Node n) (subst (λ (w : VarName). Contains s (w, term.Node m)) e h) k in
    cc

-- a free variable's class has no node
free_no_node : (s : Store) (x u : VarName) (n : Node) → IsForest s → IsFree s u → Same s u x → Det s x n → ⊥
free_no_node s x u n f free same (y, p, h) =
    let e : u ≡ y = one_end f (free_end s u free) (node_end s y n f h) (Same-trans same p) in
    free (term.Node n) (subst (λ (w : VarName). Contains s (w, term.Node n)) (sym e) h)

-- what has no equation of its own ends a class without a node
pub free_none : (s : Store) (x u : VarName) → IsForest s → IsFree s u → root_of s u ≡ root_of s x → node_of s x ≡ None
free_none s x u f free roots = go (node_of s x) refl
  where
    go : (o : Option Node) → node_of s x ≡ o → node_of s x ≡ None
    go None e = e
    go (Some n) e = absurd (free_no_node s x u n f free ((roots_tell_classes s u x).1 roots) (node_is_det s x n e))

-- a node at the end of a class is the class's
pub end_node : (s : Store) (x u : VarName) (n : Node) → IsForest s → Contains s (u, term.Node n) → root_of s u ≡ root_of s x → node_of s x ≡ Some n
end_node s x u n f holds roots =
    det_is_node s (λ y m o p q. one_node s y m o f p q) x n (u, (roots_tell_classes s x u).1 (sym roots), holds)

-- a class has one variable without an equation of its own
pub one_free : (s : Store) (u v : VarName) → IsForest s → IsFree s u → IsFree s v → root_of s u ≡ root_of s v → u ≡ v
one_free s u v f free other roots =
    one_end f (free_end s u free) (free_end s v other) ((roots_tell_classes s u v).1 roots)

-- a store that grows by equations for free variables is a forest
grown_one : (s : Store) → IsGrown s → (x : VarName) (t r : Term) → Contains s (x, t) → Contains s (x, r) → t ≡ r
grown_one [] g x t r (k, below, is) c = absurd (omega arith)
grown_one ((u, w) ∷ s) g x t r h c = go (Contains-cons_cases _ _ s h) (Contains-cons_cases _ _ s c) (λ a b. grown_one s g.0 x t r a b)
  where
    left : {q : Term} → ◌≡◌ {A = Equation} (u, w) (x, q) → u ≡ x
    left e = ap (λ (p : Equation). p.0) e

    right : {q : Term} → ◌≡◌ {A = Equation} (u, w) (x, q) → w ≡ q
    right e = ap (λ (p : Equation). p.1) e

    taken : {q i : Term} → ◌≡◌ {A = Equation} (u, w) (x, q) → Contains s (x, i) → ⊥
    taken {q} {i} e b = g.1 i (subst (λ (y : VarName). Contains s (y, i)) (sym (left e)) b)

    go : (◌≡◌ {A = Equation} (u, w) (x, t)) ⊎ Contains s (x, t) → (◌≡◌ {A = Equation} (u, w) (x, r)) ⊎ Contains s (x, r) →
        (Contains s (x, t) → Contains s (x, r) → t ≡ r) → t ≡ r
    go (inl a) (inl b) ih = sym (right a) ∙ right b
    go (inl a) (inr b) ih = absurd (taken a b)
    go (inr a) (inl b) ih = absurd (taken b a)
    go (inr a) (inr b) ih = ih a b

grown_down : (s : Store) → IsGrown s → (x : VarName) (t : Term) → Contains s (x, t) → IsLower t x
grown_down [] g x t (k, below, is) = absurd (omega arith)
grown_down ((u, w) ∷ s) g x t h = go (Contains-cons_cases _ _ s h) (λ a. grown_down s g.0 x t a)
  where
    go : (◌≡◌ {A = Equation} (u, w) (x, t)) ⊎ Contains s (x, t) → (Contains s (x, t) → IsLower t x) → IsLower t x
    go (inl e) ih = subst (λ (p : Equation). IsLower p.1 p.0) e g.2
    go (inr a) ih = ih a

pub grown_forest : (s : Store) → IsGrown s → IsForest s
grown_forest s g = record { one = grown_one s g; down = grown_down s g }

-- links lead down
down_below : (s : Store) (x y : VarName) → IsForest s → Down s x y → (x ≡ y) ⊎ IsBelow y x
down_below s x y f p = go p
  where
    go : {a b : VarName} → Down s a b → (a ≡ b) ⊎ IsBelow b a
    go stop = inl refl
    go (link {x = a} {y = b} {z = d} h q) = inr (on (go q))
      where
        low : IsBelow b a
        low = f.down a (term.Var b) h

        on : (b ≡ d) ⊎ IsBelow d b → IsBelow d a
        on (inl e) = subst (λ (w : VarName). IsBelow w a) e low
        on (inr below) = below_trans d b a below low

-- no link from a free variable to a lesser one of its own class
pub apart : (s : Store) (u v : VarName) → IsForest s → IsFree s u → IsBelow v u → root_of s u ≡ root_of s v → ⊥
apart s u v f free low e = go (down_below s v u f (down_of_same f (free_end s u free) ((roots_tell_classes s v u).1 (sym e))))
  where
    go : (v ≡ u) ⊎ IsBelow u v → ⊥
    go (inl same) = below_not u (subst (λ (w : VarName). IsBelow w u) same low)
    go (inr up) = below_not u (below_trans u v u up low)

pub grown_sound : (s : Store) → IsGrown s → IsSound s
grown_sound [] g = tt
grown_sound ((u, term.Var v) ∷ s) g =
    let f = grown_forest s g.0 in (grown_sound s g.0, apart s u v f g.1 g.2, inl (free_none s u u f g.1 refl))
grown_sound ((u, term.Node n) ∷ s) g = (grown_sound s g.0, free_none s u u (grown_forest s g.0) g.1 refl)

-- a root names its class
pub root_names : (s : Store) (x u : VarName) → root_of s u ≡ root_of s x → IsFree s u → IsClassName s x u
root_names s x u e free = ((roots_tell_classes s x u).1 (sym e), free)

-- ---- one equation more

pub bound_forest : (s : Store) (u : VarName) (w : Term) → IsForest s → IsFree s u → IsLower w u → IsForest ((u, w) ∷ s)
bound_forest s u w f free low = record {
  one = λ x t r a b. one x t r (Contains-cons_cases _ _ s a) (Contains-cons_cases _ _ s b);
  down = λ x t a. down x t (Contains-cons_cases _ _ s a);
}
  where
    taken : (x : VarName) (t r : Term) → ◌≡◌ {A = Equation} (u, w) (x, t) → Contains s (x, r) → ⊥
    taken x t r e b = free r (subst (λ (y : VarName). Contains s (y, r)) (sym (ap (λ (p : Equation). p.0) e)) b)

    one : (x : VarName) (t r : Term) → (◌≡◌ {A = Equation} (u, w) (x, t)) ⊎ Contains s (x, t) → (◌≡◌ {A = Equation} (u, w) (x, r)) ⊎ Contains s (x, r) → t ≡ r
    one x t r (inl a) (inl b) = sym (ap (λ (p : Equation). p.1) a) ∙ ap (λ (p : Equation). p.1) b
    one x t r (inl a) (inr b) = absurd (taken x t r a b)
    one x t r (inr a) (inl b) = absurd (taken x r t b a)
    one x t r (inr a) (inr b) = f.one x t r a b

    down : (x : VarName) (t : Term) → (◌≡◌ {A = Equation} (u, w) (x, t)) ⊎ Contains s (x, t) → IsLower t x
    down x t (inl e) = subst (λ (p : Equation). IsLower p.1 p.0) e low
    down x t (inr a) = f.down x t a

pub bound_sound : (s : Store) (u : VarName) (w : Term) → IsForest s → IsSound s → IsFree s u → IsLower w u → IsSound ((u, w) ∷ s)
bound_sound s u (term.Var v) f sound free low = (sound, apart s u v f free low, inl (free_none s u u f free refl))
bound_sound s u (term.Node n) f sound free low = (sound, free_none s u u f free refl)

-- ---- before the last equation

pub sound_before : (u : VarName) (w : Term) (s : Store) → IsSound ((u, w) ∷ s) → IsSound s
sound_before u (term.Var v) s h = h.0
sound_before u (term.Node n) s h = h.0

pub forest_before : (u : VarName) (w : Term) (s : Store) → IsForest ((u, w) ∷ s) → IsForest s
forest_before u w s f = record {
  one = λ x t r a b. f.one x t r (Contains-tail (u, w) (x, t) s a) (Contains-tail (u, w) (x, r) s b);
  down = λ x t a. f.down x t (Contains-tail (u, w) (x, t) s a);
}

-- a variable without an equation stands for its class
pub free_root : (s : Store) (x : VarName) → IsSound s → IsForest s → IsFree s x → root_of s x ≡ x
free_root s x sound forest free =
    let none = free_none s x x forest free refl in
    one_free s (root_of s x) x forest (root_names_class s x sound none).1 free (sym (Same-root (to_root s x)))
