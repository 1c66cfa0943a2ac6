-- A row by its columns: what is kept at a place, and what a change at one place leaves of the others.
use Rattle.std.proofs.Common.{arith, ◌≡◌, ◌∙◌, sym, ap, refl, ℕ, zero, suc, ◌+◌, ◌<◌, ◌≤◌, List, [], ◌∷◌, ◌++◌, length, get_or, set, Bool, true, false, cond}
use Rattle.std.specs.Prelude.{Some, Result, Ok, Err, OnErr}
use Rattle.std.specs.Map.{lookup, set_value}
use Rattle.tree_node.specs.declared.node.Term.{Term}
use Rattle.variable_owner.specs.declared.owners.Owner.{Owner}
use Rattle.variable_owner.specs.declared.owners.Owner.TheVariants.{Open, Bound}
use Rattle.variable_owner.specs.Owners.{with_registered, after_bind}
use Rattle.variable_owner.specs.Row.{owner_in, sites_at, AreBelow, owner_at, owners_in}

-- as many as there are places
pub many : (es : List (ℕ × List ℕ)) (i : ℕ) (bs : List Bool) (ts : List Term) → length ts ≡ length bs → length (owners_in es i bs ts) ≡ length bs
many es i [] ts e = refl
many es i (b ∷ bs) [] e = absurd (omega (arith, e))
many es i (b ∷ bs) (t ∷ ts) e = let rest = many es (suc i) bs ts (omega (arith, e)) in omega (arith, rest)

-- a variable that is bound
pub held_bound : (es : List (ℕ × List ℕ)) (i : ℕ) (bs : List Bool) (ts : List Term) (j : ℕ) (b : Bool) (t : Term) → length ts ≡ length bs → j < length bs → b ≡ get_or bs j b → b ≡ true → t ≡ get_or ts j t →
    owner_in (owners_in es i bs ts) j ≡ Bound t
held_bound es i [] ts j b t e below is is_true there = absurd (omega (arith, below))
held_bound es i (c ∷ bs) [] j b t e below is is_true there = absurd (omega (arith, e))
held_bound es i (c ∷ bs) (s ∷ ts) zero b t e below is is_true there =
    ap (λ (x : Bool). owner_at (sites_at es i) x s) (sym is ∙ is_true) ∙ ap (λ (x : Term). Bound x) (sym there)
held_bound es i (c ∷ bs) (s ∷ ts) (suc j) b t e below is is_true there = held_bound es (suc i) bs ts j b t (omega (arith, e)) (omega (arith, below)) is is_true there

-- .. with some term
pub is_bound : (es : List (ℕ × List ℕ)) (i : ℕ) (bs : List Bool) (ts : List Term) (j : ℕ) (b : Bool) → length ts ≡ length bs → j < length bs → b ≡ get_or bs j b → b ≡ true → (t : Term) × (owner_in (owners_in es i bs ts) j ≡ Bound t)
is_bound es i [] ts j b e below is is_true = absurd (omega (arith, below))
is_bound es i (c ∷ bs) [] j b e below is is_true = absurd (omega (arith, e))
is_bound es i (c ∷ bs) (s ∷ ts) zero b e below is is_true = (s, ap (λ (x : Bool). owner_at (sites_at es i) x s) (sym is ∙ is_true))
is_bound es i (c ∷ bs) (s ∷ ts) (suc j) b e below is is_true = is_bound es (suc i) bs ts j b (omega (arith, e)) (omega (arith, below)) is is_true

-- one that is unbound
held_open : (es : List (ℕ × List ℕ)) (i : ℕ) (bs : List Bool) (ts : List Term) (j : ℕ) (b : Bool) → length ts ≡ length bs → j < length bs → b ≡ get_or bs j b → b ≡ false →
    owner_in (owners_in es i bs ts) j ≡ Open (sites_at es (i + j))
held_open es i [] ts j b e below is is_false = absurd (omega (arith, below))
held_open es i (c ∷ bs) [] j b e below is is_false = absurd (omega (arith, e))
held_open es i (c ∷ bs) (s ∷ ts) zero b e below is is_false =
    let place : i ≡ i + 0 = omega arith in
    ap (λ (x : Bool). owner_at (sites_at es i) x s) (sym is ∙ is_false) ∙ ap (λ (n : ℕ). Open (sites_at es n)) place
held_open es i (c ∷ bs) (s ∷ ts) (suc j) b e below is is_false =
    let place : suc i + j ≡ i + suc j = omega arith in
    held_open es (suc i) bs ts j b (omega (arith, e)) (omega (arith, below)) is is_false ∙ ap (λ (n : ℕ). Open (sites_at es n)) place

-- one more, for which nobody is registered yet
one_more : (es : List (ℕ × List ℕ)) (i : ℕ) (bs : List Bool) (ts : List Term) (t : Term) → length ts ≡ length bs → sites_at es (i + length bs) ≡ [] →
    owners_in es i (bs ++ false ∷ []) (ts ++ t ∷ []) ≡ owners_in es i bs ts ++ Open [] ∷ []
one_more es i [] [] t e none = let place : i ≡ i + 0 = omega arith in ap (λ (ks : List ℕ). Open ks ∷ []) (ap (sites_at es) place ∙ none)
one_more es i [] (s ∷ ts) t e none = absurd (omega (arith, e))
one_more es i (b ∷ bs) [] t e none = absurd (omega (arith, e))
one_more es i (b ∷ bs) (s ∷ ts) t e none =
    let place : suc i + length bs ≡ i + suc (length bs) = omega arith in
    ap (λ (os : List Owner). owner_at (sites_at es i) b s ∷ os) (one_more es (suc i) bs ts t (omega (arith, e)) (ap (sites_at es) place ∙ none))

-- where the registrations from a place on are the same
same_from : (es fs : List (ℕ × List ℕ)) (i : ℕ) (bs : List Bool) (ts : List Term) → ((k : ℕ) → i ≤ k → sites_at fs k ≡ sites_at es k) → owners_in fs i bs ts ≡ owners_in es i bs ts
same_from es fs i [] ts same = refl
same_from es fs i (b ∷ bs) [] same = refl
same_from es fs i (b ∷ bs) (t ∷ ts) same =
    ap (λ (ks : List ℕ). owner_at ks b t ∷ owners_in fs (suc i) bs ts) (same i (omega arith))
    ∙ ap (λ (os : List Owner). owner_at (sites_at es i) b t ∷ os) (same_from es fs (suc i) bs ts (λ k least. same k (omega (arith, least))))

-- what is written at a place, the registrations of the others being the same
put_there : (es fs : List (ℕ × List ℕ)) (i : ℕ) (bs : List Bool) (ts : List Term) (j : ℕ) (b : Bool) (t : Term) → length ts ≡ length bs → j < length bs → ((k : ℕ) → (k ≡ i + j → ⊥) → sites_at fs k ≡ sites_at es k) →
    owners_in fs i (set bs j b) (set ts j t) ≡ set (owners_in es i bs ts) j (owner_at (sites_at fs (i + j)) b t)
put_there es fs i [] ts j b t e below same = absurd (omega (arith, below))
put_there es fs i (c ∷ bs) [] j b t e below same = absurd (omega (arith, e))
put_there es fs i (c ∷ bs) (s ∷ ts) zero b t e below same =
    let place : i ≡ i + 0 = omega arith in
    ap (λ (n : ℕ). owner_at (sites_at fs n) b t ∷ owners_in fs (suc i) bs ts) place
    ∙ ap (λ (os : List Owner). owner_at (sites_at fs (i + 0)) b t ∷ os) (same_from es fs (suc i) bs ts (λ k least. same k (λ is. omega (arith, least, is))))
put_there es fs i (c ∷ bs) (s ∷ ts) (suc j) b t e below same =
    let place : suc i + j ≡ i + suc j = omega arith in
    ap (λ (ks : List ℕ). owner_at ks c s ∷ owners_in fs (suc i) (set bs j b) (set ts j t)) (same i (λ is. omega (arith, is)))
    ∙ ap (λ (os : List Owner). owner_at (sites_at es i) c s ∷ os)
    (put_there es fs (suc i) bs ts j b t (omega (arith, e)) (omega (arith, below)) (λ k out. same k (λ is. out (omega (arith, is))))
    ∙ ap (λ (n : ℕ). set (owners_in es (suc i) bs ts) j (owner_at (sites_at fs n) b t)) place)

-- a registration at a place whose variable is unbound
joined_there : (es fs : List (ℕ × List ℕ)) (i : ℕ) (bs : List Bool) (ts : List Term) (j : ℕ) (b : Bool) → length ts ≡ length bs → j < length bs → b ≡ get_or bs j b → b ≡ false →
    ((k : ℕ) → (k ≡ i + j → ⊥) → sites_at fs k ≡ sites_at es k) → owners_in fs i bs ts ≡ set (owners_in es i bs ts) j (Open (sites_at fs (i + j)))
joined_there es fs i [] ts j b e below is is_false same = absurd (omega (arith, below))
joined_there es fs i (c ∷ bs) [] j b e below is is_false same = absurd (omega (arith, e))
joined_there es fs i (c ∷ bs) (s ∷ ts) zero b e below is is_false same =
    let place : i ≡ i + 0 = omega arith in
    ap (λ (x : Bool). owner_at (sites_at fs i) x s ∷ owners_in fs (suc i) bs ts) (sym is ∙ is_false)
    ∙ ap (λ (n : ℕ). Open (sites_at fs n) ∷ owners_in fs (suc i) bs ts) place
    ∙ ap (λ (os : List Owner). Open (sites_at fs (i + 0)) ∷ os) (same_from es fs (suc i) bs ts (λ k least. same k (λ at. omega (arith, least, at))))
joined_there es fs i (c ∷ bs) (s ∷ ts) (suc j) b e below is is_false same =
    let place : suc i + j ≡ i + suc j = omega arith in
    ap (λ (ks : List ℕ). owner_at ks c s ∷ owners_in fs (suc i) bs ts) (same i (λ at. omega (arith, at)))
    ∙ ap (λ (os : List Owner). owner_at (sites_at es i) c s ∷ os)
    (joined_there es fs (suc i) bs ts j b (omega (arith, e)) (omega (arith, below)) is is_false (λ k out. same k (λ at. out (omega (arith, at))))
    ∙ ap (λ (n : ℕ). set (owners_in es (suc i) bs ts) j (Open (sites_at fs n))) place)

-- ---- the same of the row from its first place on

pub open_here : (es : List (ℕ × List ℕ)) (bs : List Bool) (ts : List Term) (j : ℕ) (b : Bool) → length ts ≡ length bs → j < length bs → b ≡ get_or bs j b → b ≡ false → owner_in (owners_in es 0 bs ts) j ≡ Open (sites_at es j)
open_here es bs ts j b e below is is_false = let place : 0 + j ≡ j = omega arith in held_open es 0 bs ts j b e below is is_false ∙ ap (λ (n : ℕ). Open (sites_at es n)) place

pub more_here : (es : List (ℕ × List ℕ)) (bs cs : List Bool) (ts us : List Term) (t : Term) → length ts ≡ length bs → sites_at es (length bs) ≡ [] → cs ≡ bs ++ false ∷ [] → us ≡ ts ++ t ∷ [] → owners_in es 0 cs us ≡ owners_in es 0 bs ts ++ Open [] ∷ []
more_here es bs cs ts us t e none p q = let place : 0 + length bs ≡ length bs = omega arith in rw (p, q) (one_more es 0 bs ts t e (ap (sites_at es) place ∙ none))

pub put_here : (es fs : List (ℕ × List ℕ)) (bs : List Bool) (ts : List Term) (j : ℕ) (t : Term) → length ts ≡ length bs → j < length bs → ((k : ℕ) → (k ≡ j → ⊥) → sites_at fs k ≡ sites_at es k) →
    owners_in fs 0 (set bs j true) (set ts j t) ≡ set (owners_in es 0 bs ts) j (Bound t)
put_here es fs bs ts j t e below same = put_there es fs 0 bs ts j true t e below (λ k out. same k (λ at. out (omega (arith, at))))

pub joined_here : (es fs : List (ℕ × List ℕ)) (bs : List Bool) (ts : List Term) (j : ℕ) (b : Bool) (ks : List ℕ) → length ts ≡ length bs → j < length bs → b ≡ get_or bs j b → b ≡ false → ((k : ℕ) → (k ≡ j → ⊥) → sites_at fs k ≡ sites_at es k) → sites_at fs j ≡ ks →
    owners_in fs 0 bs ts ≡ set (owners_in es 0 bs ts) j (Open ks)
joined_here es fs bs ts j b ks e below is is_false same there =
    let place : 0 + j ≡ j = omega arith in
    joined_there es fs 0 bs ts j b e below is is_false (λ k out. same k (λ at. out (omega (arith, at)))) ∙ ap (λ (ls : List ℕ). set (owners_in es 0 bs ts) j (Open ls)) (ap (sites_at fs) place ∙ there)

-- no sites are registered behind the row, where one place below its end has others
pub still_below : (es fs : List (ℕ × List ℕ)) (n j : ℕ) → AreBelow es n → j < n → ((k : ℕ) → (k ≡ j → ⊥) → sites_at fs k ≡ sites_at es k) → AreBelow fs n
still_below es fs n j free below same k least = same k (λ is. omega (arith, below, least, is)) ∙ free k least

-- what is there, written again
put_back : (os : List Owner) (j : ℕ) → j < length os → os ≡ set os j (owner_in os j)
put_back [] j below = absurd (omega (arith, below))
put_back (o ∷ os) zero below = refl
put_back (o ∷ os) (suc j) below = ap (λ (l : List Owner). o ∷ l) (put_back os j (omega (arith, below)))

-- neither a registration nor a request to bind changes a variable that is bound
pub bound_joined : (os : List Owner) (j : ℕ) (t : Term) (k : ℕ) → j < length os → owner_in os j ≡ Bound t → os ≡ set os j (with_registered (owner_in os j) k)
bound_joined os j t k below is = put_back os j below ∙ ap (λ (o : Owner). set os j o) (is ∙ sym (ap (λ (o : Owner). with_registered o k) is))

pub bound_asked : (os : List Owner) (j : ℕ) (t u : Term) → j < length os → owner_in os j ≡ Bound t → os ≡ set os j (after_bind (owner_in os j) u)
bound_asked os j t u below is = put_back os j below ∙ ap (λ (o : Owner). set os j o) (is ∙ sym (ap (λ (o : Owner). after_bind o u) is))

-- a value that is there, written again
pub value_back : (test : ℕ → Bool) (es : List (ℕ × List ℕ)) (ks : List ℕ) → Some ks ≡ lookup test es → set_value test es ks ≡ es
value_back test [] ks e = refl
value_back test ((i, ls) ∷ es) ks e = go (test i) e (λ h. value_back test es ks h)
  where
    go : (r : Bool) → Some ks ≡ cond r (Some ls) (lookup test es) → (Some ks ≡ lookup test es → set_value test es ks ≡ es) → cond r ((i, ks) ∷ es) ((i, ls) ∷ set_value test es ks) ≡ (i, ls) ∷ es
    go true h ih = let same : ks ≡ ls = cc in ap (λ (l : List ℕ). (i, l) ∷ es) same
    go false h ih = ap (λ (l : List (ℕ × List ℕ)). (i, ls) ∷ l) (ih h)

pub all_err : {T E P : Type 0} (r : Result T E) → P → OnErr r P
all_err (Ok t) p = tt
all_err (Err e) p = p
