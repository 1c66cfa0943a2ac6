-- What is reached breadth first: the equations of the variables in a list and of those in their own terms.
use Rattle.std.proofs.Common.{arith, ◌≡◌, ◌∙◌, sym, ap, refl, subst, ℕ, zero, suc, ◌+◌, ◌≤◌, List, [], ◌∷◌, ◌++◌, length, map, append_assoc, ◌⊎◌, inl, inr, Bool, true, false, cond, ◌||◌, None, Some}
use Rattle.std.proofs.lemmas.List.{append-nil, length-append}
use Rattle.std.proofs.lemmas.List.Folds.{list_any-append}
use Rattle.std.specs.Prelude.{Option, option_to_list}
use Rattle.std.specs.List.{list_any}
use Rattle.tree_node.specs.declared.names.VarName.{VarName}
use Rattle.tree_node.specs.declared.node.Term.{Term}
use Rattle.tree_node.specs.Assoc.{value_of}
use Rattle.tree_node.specs.Each.{Each}
use Rattle.tree_node.specs.Store.{Store, Equation, equal_var}
use Rattle.tree_node.proofs.ClassLemmas.{same_name_decides, same_name_refl}
use Rattle.site_message.specs.Vars.{vars_of}
use Rattle.site_model.specs.Bundle.{vars_of_terms, known_terms, reachable_vars, distinct_vars, known_equations, reachable_equations}
use Rattle.marshal.specs.Marshal.{equations_among}
use Rattle.marshal.proofs.ImportLemmas.{distinct_append, seen_moved}

-- ---- names in a list

abbrev IsIn : List VarName → VarName → Type 0
IsIn seen x = list_any (equal_var x) seen ≡ true

in_left : (xs ys : List VarName) (x : VarName) → IsIn xs x → IsIn (xs ++ ys) x
in_left xs ys x h = list_any-append (equal_var x) xs ys ∙ ap (λ (b : Bool). b || list_any (equal_var x) ys) h

each_weaker : (P Q : VarName → Type 0) → ((x : VarName) → P x → Q x) → (xs : List VarName) → Each P xs → Each Q xs
each_weaker P Q f [] h = tt
each_weaker P Q f (x ∷ xs) h = (f x h.0, each_weaker P Q f xs h.1)

-- names that were seen add nothing
skip_in : (xs ys seen : List VarName) → Each (IsIn seen) xs → distinct_vars seen (xs ++ ys) ≡ distinct_vars seen ys
skip_in [] ys seen h = refl
skip_in (x ∷ xs) ys seen h = ap (λ (b : Bool). cond b (distinct_vars seen (xs ++ ys)) (x ∷ distinct_vars (x ∷ seen) (xs ++ ys))) h.0 ∙ skip_in xs ys seen h.1

-- each name was seen, or is among those kept
in_distinct : (xs seen : List VarName) → Each (IsIn (seen ++ distinct_vars seen xs)) xs
in_distinct [] seen = tt
in_distinct (x ∷ xs) seen = go (list_any (equal_var x) seen) refl (in_distinct xs seen) (in_distinct xs (x ∷ seen))
  where
    go : (b : Bool) → list_any (equal_var x) seen ≡ b → Each (IsIn (seen ++ distinct_vars seen xs)) xs → Each (IsIn ((x ∷ seen) ++ distinct_vars (x ∷ seen) xs)) xs →
        IsIn (seen ++ cond b (distinct_vars seen xs) (x ∷ distinct_vars (x ∷ seen) xs)) x
        × Each (IsIn (seen ++ cond b (distinct_vars seen xs) (x ∷ distinct_vars (x ∷ seen) xs))) xs
    go true e f g = (in_left seen (distinct_vars seen xs) x e, f)
    go false e f g =
        let moved : (y : VarName) → IsIn ((x ∷ seen) ++ distinct_vars (x ∷ seen) xs) y → IsIn (seen ++ x ∷ distinct_vars (x ∷ seen) xs) y =
        λ y h. sym (seen_moved (equal_var y) x seen (distinct_vars (x ∷ seen) xs)) ∙ h in
        let own : IsIn ((x ∷ seen) ++ distinct_vars (x ∷ seen) xs) x = ap (λ (b : Bool). b || list_any (equal_var x) (seen ++ distinct_vars (x ∷ seen) xs)) (same_name_refl x) in
        (moved x own, each_weaker (IsIn ((x ∷ seen) ++ distinct_vars (x ∷ seen) xs)) (IsIn (seen ++ x ∷ distinct_vars (x ∷ seen) xs)) moved xs g)

-- ---- the variables behind variables

-- those in the term of a variable
abbrev onward : Store → VarName → List VarName
onward s x = vars_of_terms (option_to_list (value_of equal_var s x))

abbrev onward_all : Store → List VarName → List VarName
onward_all s xs = vars_of_terms (known_terms s xs)

-- those in the terms of equations
abbrev pub equation_vars : List Equation → List VarName
equation_vars [] = []
equation_vars (e ∷ es) = vars_of e.1 ++ equation_vars es

onward_cons : (s : Store) (x : VarName) (xs : List VarName) → onward_all s (x ∷ xs) ≡ onward s x ++ onward_all s xs
onward_cons s x xs = go (value_of equal_var s x)
  where
    go : (o : Option Term) → vars_of_terms (option_to_list o ++ known_terms s xs) ≡ vars_of_terms (option_to_list o) ++ onward_all s xs
    go None = refl
    go (Some t) = ap (λ (l : List VarName). l ++ onward_all s xs) (sym (append-nil (vars_of t)))

onward_append : (s : Store) (xs ys : List VarName) → onward_all s (xs ++ ys) ≡ onward_all s xs ++ onward_all s ys
onward_append s [] ys = refl
onward_append s (x ∷ xs) ys =
    onward_cons s x (xs ++ ys) ∙ (ap (λ (l : List VarName). onward s x ++ l) (onward_append s xs ys)
    ∙ (sym (append_assoc (onward s x) (onward_all s xs) (onward_all s ys)) ∙ ap (λ (l : List VarName). l ++ onward_all s ys) (sym (onward_cons s x xs))))

equation_vars_append : (es fs : List Equation) → equation_vars (es ++ fs) ≡ equation_vars es ++ equation_vars fs
equation_vars_append [] fs = refl
equation_vars_append (e ∷ es) fs = ap (λ (l : List VarName). vars_of e.1 ++ l) (equation_vars_append es fs) ∙ sym (append_assoc (vars_of e.1) (equation_vars es) (equation_vars fs))

onward_known : (s : Store) (xs : List VarName) → equation_vars (known_equations s xs) ≡ onward_all s xs
onward_known s [] = refl
onward_known s (x ∷ xs) = go (value_of equal_var s x) (onward_known s xs)
  where
    go : (o : Option Term) → equation_vars (known_equations s xs) ≡ onward_all s xs →
        equation_vars (map (λ (t : Term). (x, t)) (option_to_list o) ++ known_equations s xs) ≡ vars_of_terms (option_to_list o ++ known_terms s xs)
    go None ih = ih
    go (Some t) ih = ap (λ (l : List VarName). vars_of t ++ l) ih

pub known_append : (s : Store) (xs ys : List VarName) → known_equations s (xs ++ ys) ≡ known_equations s xs ++ known_equations s ys
known_append s [] ys = refl
known_append s (x ∷ xs) ys =
    let first : List Equation = map (λ (t : Term). (x, t)) (option_to_list (value_of equal_var s x)) in
    ap (λ (l : List Equation). first ++ l) (known_append s xs ys) ∙ sym (append_assoc first (known_equations s xs) (known_equations s ys))

-- a name that stands twice leads to nothing new
same_onward : (s : Store) (xs before seen : List VarName) → ((x : VarName) → IsIn before x → Each (IsIn seen) (onward s x)) →
    distinct_vars seen (onward_all s (distinct_vars before xs)) ≡ distinct_vars seen (onward_all s xs)
same_onward s [] before seen cover = refl
same_onward s (x ∷ xs) before seen cover = go (list_any (equal_var x) before) refl (same_onward s xs before seen cover) (λ k. same_onward s xs (x ∷ before) (seen ++ distinct_vars seen (onward s x)) k)
  where
    wider : List VarName
    wider = seen ++ distinct_vars seen (onward s x)

    covered : (y : VarName) → IsIn (x ∷ before) y → Each (IsIn wider) (onward s y)
    covered y k = which (equal_var y x) refl k
      where
        which : (b : Bool) → equal_var y x ≡ b → (b || list_any (equal_var y) before) ≡ true → Each (IsIn wider) (onward s y)
        which true e h = subst (λ (z : VarName). Each (IsIn wider) (onward s z)) (sym ((same_name_decides y x).0 e)) (in_distinct (onward s x) seen)
        which false e h = each_weaker (IsIn seen) (IsIn wider) (λ z i. in_left seen (distinct_vars seen (onward s x)) z i) (onward s y) (cover y h)

    go : (b : Bool) → list_any (equal_var x) before ≡ b → distinct_vars seen (onward_all s (distinct_vars before xs)) ≡ distinct_vars seen (onward_all s xs) →
        (((y : VarName) → IsIn (x ∷ before) y → Each (IsIn wider) (onward s y)) → distinct_vars wider (onward_all s (distinct_vars (x ∷ before) xs)) ≡ distinct_vars wider (onward_all s xs)) →
        distinct_vars seen (onward_all s (cond b (distinct_vars before xs) (x ∷ distinct_vars (x ∷ before) xs))) ≡ distinct_vars seen (onward_all s (x ∷ xs))
    go true e f g = f ∙ sym (ap (λ (l : List VarName). distinct_vars seen l) (onward_cons s x xs) ∙ skip_in (onward s x) (onward_all s xs) seen (cover x e))
    go false e f g =
        ap (λ (l : List VarName). distinct_vars seen l) (onward_cons s x (distinct_vars (x ∷ before) xs))
        ∙ (distinct_append (onward s x) (onward_all s (distinct_vars (x ∷ before) xs)) seen
        ∙ (ap (λ (l : List VarName). distinct_vars seen (onward s x) ++ l) (g covered)
        ∙ (sym (distinct_append (onward s x) (onward_all s xs) seen) ∙ ap (λ (l : List VarName). distinct_vars seen l) (sym (onward_cons s x xs)))))

-- ---- level after level

next_level : (d : ℕ) (s : Store) (xs : List VarName) → onward_all s (reachable_vars d s xs) ≡ reachable_vars d s (onward_all s xs)
next_level zero s xs = refl
next_level (suc d) s xs = onward_append s xs (reachable_vars d s (onward_all s xs)) ∙ ap (λ (l : List VarName). onward_all s xs ++ l) (next_level d s (onward_all s xs))

more_levels : (d : ℕ) (s : Store) (xs : List VarName) → (ys : List VarName) × (reachable_vars (suc d) s xs ≡ reachable_vars d s xs ++ ys)
more_levels zero s xs = (onward_all s xs, refl)
more_levels (suc d) s xs = go (more_levels d s (onward_all s xs))
  where
    go : (ys : List VarName) × (reachable_vars (suc d) s (onward_all s xs) ≡ reachable_vars d s (onward_all s xs) ++ ys) → (ys : List VarName) × (reachable_vars (suc (suc d)) s xs ≡ reachable_vars (suc d) s xs ++ ys)
    go (ys, e) = (ys, ap (λ (l : List VarName). xs ++ l) e ∙ sym (append_assoc xs (reachable_vars d s (onward_all s xs)) ys))

-- the first equations of a list
abbrev pub IsFirst : List Equation → List Equation → Type 0
IsFirst es fs = (gs : List Equation) × (fs ≡ es ++ gs)

pub among_first : (s : Store) (xs ys : List VarName) → IsFirst (equations_among s xs) (equations_among s (xs ++ ys))
among_first s xs ys =
    (known_equations s (distinct_vars (distinct_vars [] xs) ys), ap (λ (l : List VarName). known_equations s l) (distinct_append xs ys []) ∙ known_append s (distinct_vars [] xs) (distinct_vars (distinct_vars [] xs) ys))

-- the equations of variables and of those in the terms of equations
abbrev pub one_more : Store → List VarName → List Equation → List Equation
one_more s xs es = equations_among s (xs ++ equation_vars es)

abbrev within : ℕ → Store → List VarName → List Equation
within d s xs = equations_among s (reachable_vars d s xs)

within_next : (d : ℕ) (s : Store) (xs : List VarName) → within (suc d) s xs ≡ one_more s xs (within d s xs)
within_next d s xs = ap (λ (l : List VarName). known_equations s l) names
  where
    seen : List VarName
    seen = distinct_vars [] xs

    level : List VarName
    level = reachable_vars d s xs

    none : (x : VarName) → IsIn [] x → Each (IsIn seen) (onward s x)
    none x k = cc

    names : distinct_vars [] (reachable_vars (suc d) s xs) ≡ distinct_vars [] (xs ++ equation_vars (within d s xs))
    names =
        ap (λ (l : List VarName). distinct_vars [] (xs ++ l)) (sym (next_level d s xs))
        ∙ (distinct_append xs (onward_all s level) []
        ∙ (ap (λ (l : List VarName). seen ++ l) (sym (same_onward s level [] seen none))
        ∙ (sym (distinct_append xs (onward_all s (distinct_vars [] level)) [])
        ∙ ap (λ (l : List VarName). distinct_vars [] (xs ++ l)) (sym (onward_known s (distinct_vars [] level))))))

within_more : (d : ℕ) (s : Store) (xs : List VarName) → IsFirst (within d s xs) (within (suc d) s xs)
within_more d s xs = go (more_levels d s xs)
  where
    go : (ys : List VarName) × (reachable_vars (suc d) s xs ≡ reachable_vars d s xs ++ ys) → IsFirst (within d s xs) (within (suc d) s xs)
    go (ys, e) = subst (λ (l : List VarName). IsFirst (within d s xs) (equations_among s l)) (sym e) (among_first s (reachable_vars d s xs) ys)

-- ---- there are no more than the store has

-- how many equations have a name that was not seen
abbrev unseen : Store → List VarName → ℕ
unseen [] seen = 0
unseen (e ∷ s) seen = cond (list_any (equal_var e.0) seen) (unseen s seen) (suc (unseen s seen))

fewer_unseen : (s : Store) (x : VarName) (seen : List VarName) → unseen s (x ∷ seen) ≤ unseen s seen
fewer_unseen [] x seen = omega arith
fewer_unseen (e ∷ s) x seen = go (equal_var e.0 x) (list_any (equal_var e.0) seen) (fewer_unseen s x seen)
  where
    go : (a b : Bool) → unseen s (x ∷ seen) ≤ unseen s seen → cond (a || b) (unseen s (x ∷ seen)) (suc (unseen s (x ∷ seen))) ≤ cond b (unseen s seen) (suc (unseen s seen))
    go true true h = h
    go true false h = omega (arith, h)
    go false true h = h
    go false false h = omega (arith, h)

one_fewer : (s : Store) (x : VarName) (t : Term) (seen : List VarName) → list_any (equal_var x) seen ≡ false → value_of equal_var s x ≡ Some t → suc (unseen s (x ∷ seen)) ≤ unseen s seen
one_fewer [] x t seen new e = cc
one_fewer ((y, r) ∷ s) x t seen new e = go (equal_var y x) (list_any (equal_var y) seen) refl refl e (λ k. one_fewer s x t seen new k)
  where
    go : (a b : Bool) → equal_var y x ≡ a → list_any (equal_var y) seen ≡ b → cond a (Some r) (value_of equal_var s x) ≡ Some t → (value_of equal_var s x ≡ Some t → suc (unseen s (x ∷ seen)) ≤ unseen s seen) →
        suc (cond (a || b) (unseen s (x ∷ seen)) (suc (unseen s (x ∷ seen)))) ≤ cond b (unseen s seen) (suc (unseen s seen))
    go true true q k e ih =
        let same : y ≡ x = (same_name_decides y x).0 q in
        let there : list_any (equal_var x) seen ≡ true = subst (λ (z : VarName). list_any (equal_var z) seen ≡ true) same k in
        cc
    go true false q k e ih = let h = fewer_unseen s x seen in omega (arith, h)
    go false true q k e ih = ih e
    go false false q k e ih = let h = ih e in omega (arith, h)

known_few : (s : Store) (xs seen : List VarName) → length (known_equations s (distinct_vars seen xs)) ≤ unseen s seen
known_few s [] seen = omega arith
known_few s (x ∷ xs) seen = go (list_any (equal_var x) seen) refl (known_few s xs seen) (known_few s xs (x ∷ seen))
  where
    rest : List Equation
    rest = known_equations s (distinct_vars (x ∷ seen) xs)

    go : (b : Bool) → list_any (equal_var x) seen ≡ b → length (known_equations s (distinct_vars seen xs)) ≤ unseen s seen → length rest ≤ unseen s (x ∷ seen) →
        length (known_equations s (cond b (distinct_vars seen xs) (x ∷ distinct_vars (x ∷ seen) xs))) ≤ unseen s seen
    go true e f g = f
    go false e f g = by_value (value_of equal_var s x) refl
      where
        by_value : (o : Option Term) → value_of equal_var s x ≡ o → length (map (λ (t : Term). (x, t)) (option_to_list o) ++ rest) ≤ unseen s seen
        by_value None k = let h = fewer_unseen s x seen in omega (arith, g, h)
        by_value (Some t) k = let h = one_fewer s x t seen e k in omega (arith, g, h)

unseen_all : (s : Store) → unseen s [] ≤ length s
unseen_all [] = omega arith
unseen_all (e ∷ s) = let h = unseen_all s in omega (arith, h)

within_few : (d : ℕ) (s : Store) (xs : List VarName) → length (within d s xs) ≤ length s
within_few d s xs = let h = known_few s (reachable_vars d s xs) [] in let g = unseen_all s in omega (arith, h, g)

-- ---- so they are all reached within as many levels

first_or_more : (es fs : List Equation) → IsFirst es fs → (fs ≡ es) ⊎ (suc (length es) ≤ length fs)
first_or_more es fs ([], e) = inl (e ∙ append-nil es)
first_or_more es fs (g ∷ gs, e) = inr (let h : length fs ≡ length es + length (g ∷ gs) = ap length e ∙ length-append es (g ∷ gs) in omega (arith, h))

settled : (d : ℕ) (s : Store) (xs : List VarName) → (d ≤ length (within d s xs)) ⊎ (within (suc d) s xs ≡ within d s xs)
settled zero s xs = inl (omega arith)
settled (suc d) s xs = go (settled d s xs) (first_or_more (within d s xs) (within (suc d) s xs) (within_more d s xs))
  where
    again : within (suc d) s xs ≡ within d s xs → within (suc (suc d)) s xs ≡ within (suc d) s xs
    again e = within_next (suc d) s xs ∙ (ap (λ (l : List Equation). one_more s xs l) e ∙ sym (within_next d s xs))

    go : (d ≤ length (within d s xs)) ⊎ (within (suc d) s xs ≡ within d s xs) → (within (suc d) s xs ≡ within d s xs) ⊎ (suc (length (within d s xs)) ≤ length (within (suc d) s xs)) →
        (suc d ≤ length (within (suc d) s xs)) ⊎ (within (suc (suc d)) s xs ≡ within (suc d) s xs)
    go (inr e) k = inr (again e)
    go (inl h) (inl e) = inr (again e)
    go (inl h) (inr g) = inl (omega (arith, h, g))

-- what is reached is what its own terms lead to
reachable_fixed : (s : Store) (xs : List VarName) → reachable_equations s xs ≡ one_more s xs (reachable_equations s xs)
reachable_fixed s xs = go (settled m s xs) (first_or_more (within m s xs) (within (suc m) s xs) (within_more m s xs)) (within_few (suc m) s xs)
  where
    m : ℕ
    m = length s

    go : (m ≤ length (within m s xs)) ⊎ (within (suc m) s xs ≡ within m s xs) → (within (suc m) s xs ≡ within m s xs) ⊎ (suc (length (within m s xs)) ≤ length (within (suc m) s xs)) →
        length (within (suc m) s xs) ≤ m → within m s xs ≡ one_more s xs (within m s xs)
    go (inr e) k few = sym e ∙ within_next m s xs
    go (inl h) (inl e) few = sym e ∙ within_next m s xs
    go (inl h) (inr g) few = absurd (omega (arith, h, g, few))

more_first : (s : Store) (xs : List VarName) (es fs : List Equation) → IsFirst es fs → IsFirst (one_more s xs es) (one_more s xs fs)
more_first s xs es fs (gs, e) =
    subst (λ (l : List VarName). IsFirst (one_more s xs es) (equations_among s l)) (sym whole) (among_first s (xs ++ equation_vars es) (equation_vars gs))
  where
    whole : xs ++ equation_vars fs ≡ (xs ++ equation_vars es) ++ equation_vars gs
    whole = ap (λ (l : List Equation). xs ++ equation_vars l) e ∙ (ap (λ (l : List VarName). xs ++ l) (equation_vars_append es gs) ∙ sym (append_assoc xs (equation_vars es) (equation_vars gs)))

-- a list that its own terms lead to has all within so many levels
fixed_has : (d : ℕ) (s : Store) (xs : List VarName) (es : List Equation) → es ≡ one_more s xs es → IsFirst (within d s xs) es
fixed_has zero s xs es e = subst (λ (l : List Equation). IsFirst (within zero s xs) l) (sym e) (among_first s xs (equation_vars es))
fixed_has (suc d) s xs es e = subst (λ (l : List Equation). IsFirst l es) (sym (within_next d s xs)) (subst (λ (l : List Equation). IsFirst (one_more s xs (within d s xs)) l) (sym e) (more_first s xs (within d s xs) es (fixed_has d s xs es e)))

first_both : (es fs : List Equation) → IsFirst es fs → IsFirst fs es → es ≡ fs
first_both es fs ([], e) k = sym (e ∙ append-nil es)
first_both es fs (g ∷ gs, e) (hs, q) =
    let more : length fs ≡ length es + length (g ∷ gs) = ap length e ∙ length-append es (g ∷ gs) in
    let less : length es ≡ length fs + length hs = ap length q ∙ length-append fs hs in
    absurd (omega (arith, more, less))

-- ---- what a walk along a queue takes

-- the equations of the variables so far are the first ones that are reached, and the queue has the variables in their terms
pub record IsWalk (s : Store) (xs queue : List VarName) (es : List Equation) : Type 0 where
  pub behind : queue ≡ xs ++ equation_vars es
  pub begins : IsFirst es (reachable_equations s xs)

-- the equations of the first variables of the queue are the first ones that are reached
pub walk_first : (s : Store) (xs queue ys zs : List VarName) (es : List Equation) → IsWalk s xs queue es → queue ≡ ys ++ zs → IsFirst (equations_among s ys) (reachable_equations s xs)
walk_first s xs queue ys zs es h e = go h.begins
  where
    go : IsFirst es (reachable_equations s xs) → IsFirst (equations_among s ys) (reachable_equations s xs)
    go (gs, q) =
        subst (λ (l : List Equation). IsFirst (equations_among s ys) l) (sym (reachable_fixed s xs))
        (subst (λ (l : List VarName). IsFirst (equations_among s ys) (equations_among s l)) (sym whole) (among_first s ys (zs ++ equation_vars gs)))
      where
        whole : xs ++ equation_vars (reachable_equations s xs) ≡ ys ++ (zs ++ equation_vars gs)
        whole =
            ap (λ (l : List Equation). xs ++ equation_vars l) q
            ∙ (ap (λ (l : List VarName). xs ++ l) (equation_vars_append es gs)
            ∙ (sym (append_assoc xs (equation_vars es) (equation_vars gs))
            ∙ (ap (λ (l : List VarName). l ++ equation_vars gs) (sym h.behind ∙ e) ∙ append_assoc ys zs (equation_vars gs))))

-- one more equation
pub walk_goes_on : (s : Store) (xs queue ys zs : List VarName) (es : List Equation) (e : Equation) → IsWalk s xs queue es → queue ≡ ys ++ zs → equations_among s ys ≡ es ++ e ∷ [] → IsWalk s xs (queue ++ vars_of e.1) (es ++ e ∷ [])
walk_goes_on s xs queue ys zs es e h parts is = record {
  behind = ap (λ (l : List VarName). l ++ vars_of e.1) h.behind ∙ (append_assoc xs (equation_vars es) (vars_of e.1)
      ∙ ap (λ (l : List VarName). xs ++ l) (ap (λ (l : List VarName). equation_vars es ++ l) (sym (append-nil (vars_of e.1))) ∙ sym (equation_vars_append es (e ∷ []))));
  begins = subst (λ (l : List Equation). IsFirst l (reachable_equations s xs)) is (walk_first s xs queue ys zs es h parts);
}

-- where the queue has nothing more, all are taken
pub walk_ends : (s : Store) (xs queue : List VarName) (es : List Equation) → IsWalk s xs queue es → equations_among s queue ≡ es → es ≡ reachable_equations s xs
walk_ends s xs queue es h is =
    first_both es (reachable_equations s xs) h.begins
    (fixed_has (length s) s xs es (sym is ∙ ap (λ (l : List VarName). equations_among s l) h.behind))
