-- Equations are gathered along a queue of variables.
use Rattle.std.proofs.Common.{arith, ◌≡◌, ◌∙◌, sym, ap, refl, subst, ℕ, ◌+◌, ◌≤◌, ◌<◌, List, [], ◌∷◌, ◌++◌, length, map, take, drop, get_or, ◌⊎◌, inl, inr, Bool, true, false, cond, ◌||◌, None, Some}
use Rattle.std.proofs.lemmas.List.{append-nil, take_more, take-append-le, take_all, take_at, take-append-drop, length-append}
use Rattle.std.specs.Prelude.{Option, Contains, option_to_list}
use Rattle.std.specs.List.{list_any}
use Rattle.tree_node.specs.declared.names.VarName.{VarName}
use Rattle.tree_node.specs.declared.node.Term.{Term}
use Rattle.tree_node.specs.Assoc.{value_of}
use Rattle.tree_node.specs.Store.{Store, Equation, IsFree, equal_var}
use Rattle.tree_node.proofs.ClassLemmas.{same_name_decides, Contains-cons_cases, Contains-head, Contains-tail}
use Rattle.tree_store.specs.Forest.{IsForest}
use Rattle.site_message.specs.Vars.{vars_of}
use Rattle.site_message.specs.Wire.{NamesAscend}
use Rattle.site_model.specs.Bundle.{distinct_vars, known_equations, reachable_equations, insert_ascending, ascending, bundle_from}
use Rattle.site_model.specs.Laws.{left_names}
use Rattle.marshal.specs.Marshal.{equations_among, IsNext}
use Rattle.marshal.proofs.ImportLemmas.{distinct_append}
use Rattle.marshal.proofs.BreadthLemmas.{IsFirst, IsWalk, walk_goes_on, walk_ends, known_append}
use Rattle.site_model.proofs.AscendingLemmas.{ascending_names, ascending_more, bundles_are_ordered}

-- ---- the equation of a variable

only_value : (s : Store) (x : VarName) (t : Term) → ((r : Term) → Contains s (x, r) → r ≡ t) → Contains s (x, t) → value_of equal_var s x ≡ Some t
only_value [] x t one (i, below, is) = absurd (omega arith)
only_value ((y, r) ∷ s) x t one k =
    go (equal_var y x) refl (Contains-cons_cases _ _ s k) (λ there. only_value s x t (λ o h. one o (Contains-tail (y, r) (x, o) s h)) there)
  where
    go : (b : Bool) → equal_var y x ≡ b → (◌≡◌ {A = Equation} (y, r) (x, t)) ⊎ Contains s (x, t) → (Contains s (x, t) → value_of equal_var s x ≡ Some t) → cond b (Some r) (value_of equal_var s x) ≡ Some t
    go true e c ih =
        let same : y ≡ x = (same_name_decides y x).0 e in
        ap (λ (o : Term). Some o) (one r (subst (λ (z : VarName). Contains ((y, r) ∷ s) (z, r)) same (Contains-head (y, r) s)))
    go false e (inl q) ih =
        let same : y ≡ x = ap (λ (f : Equation). f.0) q in
        let yes : equal_var y x ≡ true = (same_name_decides y x).1 same in
        cc
    go false e (inr there) ih = ih there

no_value : (s : Store) (x : VarName) → IsFree s x → value_of equal_var s x ≡ None
no_value [] x free = refl
no_value ((y, r) ∷ s) x free = go (equal_var y x) refl (no_value s x (λ t k. free t (Contains-tail (y, r) (x, t) s k)))
  where
    go : (b : Bool) → equal_var y x ≡ b → value_of equal_var s x ≡ None → cond b (Some r) (value_of equal_var s x) ≡ None
    go true e ih = absurd (free r (subst (λ (z : VarName). Contains ((y, r) ∷ s) (z, r)) ((same_name_decides y x).0 e) (Contains-head (y, r) s)))
    go false e ih = ih

-- ---- one more variable is looked at

among_more : (s : Store) (xs : List VarName) (x : VarName) → equations_among s (xs ++ x ∷ []) ≡ equations_among s xs ++ known_equations s (distinct_vars (distinct_vars [] xs) (x ∷ []))
among_more s xs x = ap (λ (l : List VarName). known_equations s l) (distinct_append xs (x ∷ []) []) ∙ known_append s (distinct_vars [] xs) (distinct_vars (distinct_vars [] xs) (x ∷ []))

taken_seen : (s : Store) (x : VarName) (xs : List VarName) → list_any (equal_var x) (left_names (known_equations s xs)) ≡ true → list_any (equal_var x) xs ≡ true
taken_seen s x [] h = h
taken_seen s x (y ∷ xs) h = go (equal_var x y) (value_of equal_var s y) refl h (λ k. taken_seen s x xs k)
  where
    go : (b : Bool) (o : Option Term) → equal_var x y ≡ b → list_any (equal_var x) (left_names (map (λ (t : Term). (y, t)) (option_to_list o) ++ known_equations s xs)) ≡ true →
        (list_any (equal_var x) (left_names (known_equations s xs)) ≡ true → list_any (equal_var x) xs ≡ true) → (b || list_any (equal_var x) xs) ≡ true
    go true o e k ih = refl
    go false None e k ih = ih k
    go false (Some t) e k ih = ih (subst (λ (b : Bool). (b || list_any (equal_var x) (left_names (known_equations s xs))) ≡ true) e k)

new_unseen : (s : Store) (x : VarName) (t : Term) (xs : List VarName) → value_of equal_var s x ≡ Some t → list_any (equal_var x) (left_names (known_equations s xs)) ≡ false → list_any (equal_var x) xs ≡ false
new_unseen s x t [] e h = refl
new_unseen s x t (y ∷ xs) e h = go (equal_var x y) (value_of equal_var s y) refl refl h (λ k. new_unseen s x t xs e k)
  where
    go : (b : Bool) (o : Option Term) → equal_var x y ≡ b → value_of equal_var s y ≡ o → list_any (equal_var x) (left_names (map (λ (r : Term). (y, r)) (option_to_list o) ++ known_equations s xs)) ≡ false →
        (list_any (equal_var x) (left_names (known_equations s xs)) ≡ false → list_any (equal_var x) xs ≡ false) → (b || list_any (equal_var x) xs) ≡ false
    go true None q v k ih =
        let same : x ≡ y = (same_name_decides x y).0 q in
        let some : value_of equal_var s y ≡ Some t = subst (λ (z : VarName). value_of equal_var s z ≡ Some t) same e in
        cc
    go true (Some r) q v k ih = let yes : (true || list_any (equal_var x) (left_names (known_equations s xs))) ≡ false = subst (λ (b : Bool). (b || list_any (equal_var x) (left_names (known_equations s xs))) ≡ false) q k in cc
    go false None q v k ih = ih k
    go false (Some r) q v k ih = ih (subst (λ (b : Bool). (b || list_any (equal_var x) (left_names (known_equations s xs))) ≡ false) q k)

-- a variable without an equation, or whose equation was taken, adds nothing
free_adds_nothing : (s : Store) (seen : List VarName) (x : VarName) → value_of equal_var s x ≡ None → known_equations s (distinct_vars seen (x ∷ [])) ≡ []
free_adds_nothing s seen x e = go (list_any (equal_var x) seen)
  where
    go : (b : Bool) → known_equations s (cond b [] (x ∷ [])) ≡ []
    go true = refl
    go false = ap (λ (o : Option Term). map (λ (t : Term). (x, t)) (option_to_list o) ++ []) e

free_passed : (s : Store) (xs : List VarName) (x : VarName) → IsFree s x → equations_among s (xs ++ x ∷ []) ≡ equations_among s xs
free_passed s xs x free = among_more s xs x ∙ (ap (λ (l : List Equation). equations_among s xs ++ l) (free_adds_nothing s (distinct_vars [] xs) x (no_value s x free)) ∙ append-nil (equations_among s xs))

taken_passed : (s : Store) (xs : List VarName) (taken : List Equation) (x : VarName) → taken ≡ ascending (equations_among s xs) → list_any (equal_var x) (left_names taken) ≡ true → equations_among s (xs ++ x ∷ []) ≡ equations_among s xs
taken_passed s xs taken x e h =
    among_more s xs x
    ∙ (ap (λ (b : Bool). equations_among s xs ++ known_equations s (cond b [] (x ∷ []))) (taken_seen s x (distinct_vars [] xs) there) ∙ append-nil (equations_among s xs))
  where
    there : list_any (equal_var x) (left_names (equations_among s xs)) ≡ true
    there = sym (ap (λ (l : List Equation). list_any (equal_var x) (left_names l)) e ∙ ascending_names (equal_var x) (equations_among s xs)) ∙ h

-- so the places that add nothing are passed
pub passed_more : (s : Store) (queue : List VarName) (from place : ℕ) (taken : List Equation) (d : VarName) → place < length queue → taken ≡ ascending (equations_among s (take from queue)) →
    IsFree s (get_or queue place d) ⊎ (list_any (equal_var (get_or queue place d)) (left_names taken) ≡ true) →
    equations_among s (take place queue) ≡ equations_among s (take from queue) → equations_among s (take (place + 1) queue) ≡ equations_among s (take from queue)
passed_more s queue from place taken d at e (inl free) h =
    ap (λ (l : List VarName). equations_among s l) (take_more queue place d at) ∙ (free_passed s (take place queue) (get_or queue place d) free ∙ h)
passed_more s queue from place taken d at e (inr there) h =
    ap (λ (l : List VarName). equations_among s l) (take_more queue place d at)
    ∙ (taken_passed s (take place queue) taken (get_or queue place d) (e ∙ ap (λ (l : List Equation). ascending l) (sym h)) there ∙ h)

-- another one adds its equation
new_taken : (s : Store) (xs : List VarName) (x : VarName) (t : Term) → value_of equal_var s x ≡ Some t → list_any (equal_var x) (left_names (equations_among s xs)) ≡ false → equations_among s (xs ++ x ∷ []) ≡ equations_among s xs ++ (x, t) ∷ []
new_taken s xs x t e new =
    among_more s xs x
    ∙ (ap (λ (b : Bool). equations_among s xs ++ known_equations s (cond b [] (x ∷ []))) (new_unseen s x t (distinct_vars [] xs) e new)
    ∙ ap (λ (o : Option Term). equations_among s xs ++ (map (λ (r : Term). (x, r)) (option_to_list o) ++ [])) e)

-- ---- what is gathered

-- so many equations were taken, in the order of their names, from the first places of the queue
pub record IsGathered (s : Store) (xs queue : List VarName) (from : ℕ) (taken : List Equation) (count : ℕ) : Type 0 where
  pub walk : IsWalk s xs queue (equations_among s (take from queue))
  pub order : taken ≡ ascending (equations_among s (take from queue))
  pub many : length (equations_among s (take from queue)) ≡ count
  pub inside : from ≤ length queue

pub gathered_more : (s : Store) (xs queue queue2 : List VarName) (from place count : ℕ) (taken taken2 : List Equation) (t : Term) (d : VarName) → IsForest s → IsGathered s xs queue from taken count → IsNext s queue from taken place t →
    queue2 ≡ queue ++ vars_of t → taken2 ≡ insert_ascending (get_or queue place d, t) taken → IsGathered s xs queue2 (place + 1) taken2 (count + 1)
gathered_more s xs queue queue2 from place count taken taken2 t d forest h next longer put = record {
  walk = subst (λ (q : List VarName). IsWalk s xs q (equations_among s (take (place + 1) queue2))) (sym longer)
      (subst (λ (l : List Equation). IsWalk s xs (queue ++ vars_of t) l) (sym among)
      (walk_goes_on s xs queue (take (place + 1) queue) (drop (place + 1) queue) es e h.walk (sym (take-append-drop (place + 1) queue)) added));
  order = put ∙ (ap (λ (l : List Equation). insert_ascending e l) h.order ∙ (sym (ascending_more es e new) ∙ ap ascending (sym among)));
  many = ap length among ∙ (length-append es (e ∷ []) ∙ ap (λ (n : ℕ). n + 1) h.many);
  inside = let more : length queue2 ≡ length queue + length (vars_of t) = ap length longer ∙ length-append queue (vars_of t) in let there = next.there in omega (arith, more, there);
}
  where
    x : VarName
    x = get_or queue place d

    e : Equation
    e = (x, t)

    es : List Equation
    es = equations_among s (take from queue)

    value : value_of equal_var s x ≡ Some t
    value = only_value s x t (λ r k. forest.one x r t k (next.known d)) (next.known d)

    new : list_any (equal_var x) (left_names es) ≡ false
    new = sym (ap (λ (l : List Equation). list_any (equal_var x) (left_names l)) h.order ∙ ascending_names (equal_var x) es) ∙ next.new d

    new_there : list_any (equal_var x) (left_names (equations_among s (take place queue))) ≡ false
    new_there = ap (λ (l : List Equation). list_any (equal_var x) (left_names l)) next.passed ∙ new

    added : equations_among s (take (place + 1) queue) ≡ es ++ e ∷ []
    added =
        ap (λ (l : List VarName). equations_among s l) (take_more queue place d next.there)
        ∙ (new_taken s (take place queue) x t value new_there ∙ ap (λ (l : List Equation). l ++ e ∷ []) next.passed)

    among : equations_among s (take (place + 1) queue2) ≡ es ++ e ∷ []
    among =
        ap (λ (l : List VarName). equations_among s (take (place + 1) l)) longer
        ∙ (ap (λ (l : List VarName). equations_among s l) (take-append-le (place + 1) queue (vars_of t) (let there = next.there in omega (arith, there))) ∙ added)

-- where the queue has nothing more, or as many as are wanted were taken, they are the first ones reached
pub gathered_all : (s : Store) (xs queue : List VarName) (from limit count : ℕ) (taken : List Equation) → IsGathered s xs queue from taken count → equations_among s queue ≡ equations_among s (take from queue) → count ≤ limit → taken ≡ bundle_from limit s xs
gathered_all s xs queue from limit count taken h none few =
    h.order ∙ ap ascending (all ∙ sym (take_all limit (reachable_equations s xs) (let n : length (reachable_equations s xs) ≡ count = ap length (sym all) ∙ h.many in omega (arith, n, few))))
  where
    all : equations_among s (take from queue) ≡ reachable_equations s xs
    all = walk_ends s xs queue (equations_among s (take from queue)) h.walk none

pub gathered_enough : (s : Store) (xs queue : List VarName) (from limit : ℕ) (taken : List Equation) → IsGathered s xs queue from taken limit → taken ≡ bundle_from limit s xs
gathered_enough s xs queue from limit taken h = go h.walk.begins
  where
    es : List Equation
    es = equations_among s (take from queue)

    go : IsFirst es (reachable_equations s xs) → taken ≡ bundle_from limit s xs
    go (gs, e) = h.order ∙ ap ascending (sym (ap (λ (l : List Equation). take limit l) e ∙ take_at es gs limit h.many))

-- their names ascend
pub gathered_ascends : (s : Store) (xs queue : List VarName) (from count : ℕ) (taken : List Equation) → IsGathered s xs queue from taken count → NamesAscend taken
gathered_ascends s xs queue from count taken h = subst NamesAscend (sym (gathered_enough s xs queue from count taken h)) (bundles_are_ordered count s xs).1
