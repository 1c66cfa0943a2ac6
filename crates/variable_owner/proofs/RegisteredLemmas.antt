-- How many registrations are kept, as one variable is made, registered for, or bound.
use Rattle.std.proofs.Common.{arith, ◌≡◌, ap, refl, ℕ, ◌+◌, ◌≤◌, List, [], ◌∷◌, ◌++◌, length, length-append, Bool, true, false, cond, Some, None}
use Rattle.std.specs.Prelude.{Option, IfSome}
use Rattle.tree_node.specs.declared.names.VarName.{VarName}
use Rattle.tree_node.specs.declared.node.Term.{Term}
use Rattle.tree_node.specs.Store.{equal_var}
use Rattle.variable_owner.specs.declared.owners.Owner.{Owner}
use Rattle.variable_owner.specs.declared.owners.Owner.TheVariants.{Open, Bound}
use Rattle.variable_owner.specs.declared.owners.Registered.TheVariants.{Kept}
use Rattle.variable_owner.specs.Owners.{Owned, AreAlone, IsMade, TellsRegistered, owner_of, sites_of, registrations_in, with_owner, after_register, after_ask}
use Rattle.variable_owner.proofs.OwnerLemmas.{unmade}

abbrev kept_by : Owner → ℕ
kept_by o = length (sites_of (Some o))

-- another owner in the place of one
put_counts : (es : List Owned) (x : VarName) (o p : Owner) → owner_of es x ≡ Some o → registrations_in (with_owner es x p) + kept_by o ≡ registrations_in es + kept_by p
put_counts [] x o p e = cc
put_counts ((y, r) ∷ es) x o p e = go (equal_var x y) e (λ k. put_counts es x o p k)
  where
    go : (b : Bool) → cond b (Some r) (owner_of es x) ≡ Some o → (owner_of es x ≡ Some o → registrations_in (with_owner es x p) + kept_by o ≡ registrations_in es + kept_by p) →
        registrations_in (cond b ((y, p) ∷ es) ((y, r) ∷ with_owner es x p)) + kept_by o ≡ registrations_in ((y, r) ∷ es) + kept_by p
    go true k ih =
        let same : r ≡ o = cc in
        let count : kept_by r ≡ kept_by o = ap kept_by same in
        omega (arith, count)
    go false k ih = let rest = ih k in omega (arith, rest)

-- a new variable has none
pub made_counts : (es : List Owned) (x : VarName) → owner_of es x ≡ None → registrations_in (with_owner es x (Open [])) ≡ registrations_in es
made_counts [] x e = refl
made_counts ((y, r) ∷ es) x e = go (equal_var x y) e (λ k. made_counts es x k)
  where
    go : (b : Bool) → cond b (Some r) (owner_of es x) ≡ None → (owner_of es x ≡ None → registrations_in (with_owner es x (Open [])) ≡ registrations_in es) →
        registrations_in (cond b ((y, Open []) ∷ es) ((y, r) ∷ with_owner es x (Open []))) ≡ registrations_in ((y, r) ∷ es)
    go true k ih = cc
    go false k ih = let rest = ih k in omega (arith, rest)

-- those of one variable are among all
pub held_within : (es : List Owned) (x : VarName) → length (sites_of (owner_of es x)) ≤ registrations_in es
held_within [] x = omega arith
held_within ((y, r) ∷ es) x = go (equal_var x y) (held_within es x)
  where
    go : (b : Bool) → length (sites_of (owner_of es x)) ≤ registrations_in es → length (sites_of (cond b (Some r) (owner_of es x))) ≤ registrations_in ((y, r) ∷ es)
    go true ih = omega arith
    go false ih = omega (arith, ih)

nobody : (ks : List ℕ) → length ks ≡ 0 → ks ≡ []
nobody [] e = refl
nobody (k ∷ ks) e = absurd (omega (arith, e))

-- where none are kept nobody is registered
pub alone : (es : List Owned) → registrations_in es ≡ 0 → AreAlone es
alone es e x = let few = held_within es x in nobody (sites_of (owner_of es x)) (omega (arith, e, few))

-- a registration that is kept is one more
pub kept_counts : (es : List Owned) (x : VarName) (k : ℕ) → IsMade es x → IfSome (owner_of es x) (λ o. TellsRegistered o Kept) → registrations_in (after_register es x k) ≡ registrations_in es + 1
kept_counts es x k made tells = go (owner_of es x) refl tells
  where
    go : (o : Option Owner) → owner_of es x ≡ o → IfSome o (λ o. TellsRegistered o Kept) → registrations_in (after_register es x k) ≡ registrations_in es + 1
    go None e t = absurd (unmade es x e made)
    go (Some (Open ks)) e t =
        let long : length (ks ++ k ∷ []) ≡ length ks + 1 = length-append ks (k ∷ []) in
        let count = put_counts es x (Open ks) (Open (ks ++ k ∷ [])) e in
        rw e (omega (arith, count, long))
    go (Some (Bound r)) e t = absurd t

-- a request to bind ends those of its variable
pub asked_counts : (es : List Owned) (x : VarName) (t : Term) → registrations_in (after_ask es x t) + length (sites_of (owner_of es x)) ≡ registrations_in es
asked_counts es x t = go (owner_of es x) refl
  where
    go : (o : Option Owner) → owner_of es x ≡ o → registrations_in (after_ask es x t) + length (sites_of (owner_of es x)) ≡ registrations_in es
    go None e = rw e (omega arith)
    go (Some (Open ks)) e = let count = put_counts es x (Open ks) (Bound t) e in rw e (omega (arith, count))
    go (Some (Bound r)) e = let count = put_counts es x (Bound r) (Bound r) e in rw e (omega (arith, count))
