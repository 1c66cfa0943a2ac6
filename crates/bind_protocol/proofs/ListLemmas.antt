-- Lists: counts, places and elements.
use Rattle.std.proofs.Common.{arith, ◌≡◌, ◌≢◌, ◌∙◌, ℕ, zero, suc, ◌+◌, ◌<◌, ◌≤◌, List, [], ◌∷◌, ◌++◌, length, refl, sym, ap, subst, ◌⊎◌, inl, inr, Bool, true, false, cond}
use Rattle.std.specs.Prelude.{Some, Contains, remove, slice_get, slice_set}
use Rattle.std.specs.List.{count_by}
use Rattle.std.proofs.lemmas.List.Sums.{sum_by-append}
use Rattle.tree_node.specs.Each.{Each}
use Rattle.tree_node.proofs.ClassLemmas.{Contains-head, Contains-tail, Contains-cons_cases}
pub use Rattle.tree_node.proofs.EachLemmas.{each_at_place as each_at}

abbrev pub one : Bool → ℕ
one b = cond b 1 0

pub count_append : {X : Type 0} (p : X → Bool) (xs ys : List X) → count_by p (xs ++ ys) ≡ count_by p xs + count_by p ys
count_append p xs ys = sum_by-append (λ x. cond (p x) 1 0) xs ys

pub count_push : {X : Type 0} (p : X → Bool) (xs : List X) (y : X) → count_by p (xs ++ y ∷ []) ≡ count_by p xs + one (p y)
count_push p xs y = count_append p xs (y ∷ []) ∙ (let e : count_by p (y ∷ []) ≡ one (p y) = omega arith in ap (λ n. count_by p xs + n) e)

pub count_cons : {X : Type 0} (p : X → Bool) (x : X) (xs : List X) → count_by p (x ∷ xs) ≡ one (p x) + count_by p xs
count_cons p x xs =
    let e : count_by p (x ∷ []) ≡ one (p x) = omega arith in
    count_append p (x ∷ []) xs ∙ ap (λ n. n + count_by p xs) e

pub out_nil : {X : Type 0} (i : ℕ) → remove {X = X} [] i ≡ []
out_nil zero = refl
out_nil (suc i) = refl

pub out_head : {X : Type 0} (x : X) (xs : List X) → remove (x ∷ xs) zero ≡ xs
out_head x [] = refl
out_head x (y ∷ ys) = refl

-- one element taken out
pub count_out : {X : Type 0} (p : X → Bool) (xs : List X) (i : ℕ) (m : X) → slice_get xs i ≡ Some m → count_by p (remove xs i) + one (p m) ≡ count_by p xs
count_out p [] i m e = cc
count_out {X} p (x ∷ xs) zero m e =
    let same : x ≡ m = cc in
    let rest : count_by p (remove (x ∷ xs) zero) ≡ count_by p xs = ap (count_by p) (out_head x xs) in
    let whole : count_by p (x ∷ xs) ≡ one (p x) + count_by p xs = count_cons p x xs in
    let first : one (p m) ≡ one (p x) = ap (λ (z : X). one (p z)) (sym same) in
    omega arith
count_out p (x ∷ xs) (suc i) m e =
    let ih : count_by p (remove xs i) + one (p m) ≡ count_by p xs = count_out p xs i m e in
    let whole : count_by p (remove (x ∷ xs) (suc i)) ≡ one (p x) + count_by p (remove xs i) = count_cons p x (remove xs i) in
    let both : count_by p (x ∷ xs) ≡ one (p x) + count_by p xs = count_cons p x xs in
    omega arith

pub each_out : {X : Type 0} (P : X → Type 0) (xs : List X) (i : ℕ) → Each P xs → Each P (remove xs i)
each_out P [] i h = subst (Each P) (sym (out_nil i)) tt
each_out P (x ∷ xs) zero h = subst (Each P) (sym (out_head x xs)) h.1
each_out P (x ∷ xs) (suc i) h = (h.0, each_out P xs i h.1)

-- what is counted is there
abbrev pub Passing : {X : Type 0} → (X → Bool) → List X → Type 0
Passing {X} p xs = (m : X) × Contains xs m × (p m ≡ true)

pub counted_there : {X : Type 0} (p : X → Bool) (xs : List X) → 1 ≤ count_by p xs → Passing p xs
counted_there p [] h = absurd (omega arith)
counted_there {X} p (x ∷ xs) h = go (p x) refl (subst (λ n. 1 ≤ n) (count_cons p x xs) h) (λ k. counted_there p xs k)
  where
    go : (b : Bool) → p x ≡ b → 1 ≤ one (p x) + count_by p xs → (1 ≤ count_by p xs → Passing p xs) → Passing p (x ∷ xs)
    go true q k ih = (x, Contains-head x xs, q)
    go false q k ih = let none : one (p x) ≡ 0 = ap one q in let less : 1 ≤ count_by p xs = omega arith in let r = ih less in (r.0, Contains-tail x r.0 xs r.1, r.2)

pub there_counted : {X : Type 0} (p : X → Bool) (xs : List X) (m : X) → Contains xs m → p m ≡ true → 1 ≤ count_by p xs
there_counted p [] m at e = let h : at.0 < 0 = at.1 in absurd (omega arith)
there_counted {X} p (x ∷ xs) m at e = subst (λ n. 1 ≤ n) (sym (count_cons p x xs)) (go (Contains-cons_cases x m xs at) (λ k. there_counted p xs m k e))
  where
    go : (x ≡ m) ⊎ Contains xs m → (Contains xs m → 1 ≤ count_by p xs) → 1 ≤ one (p x) + count_by p xs
    go (inl same) ih = let q : one (p x) ≡ 1 = ap (λ (z : X). one (p z)) same ∙ ap one e in omega arith
    go (inr k) ih = let h : 1 ≤ count_by p xs = ih k in omega arith

-- an element of a place exchanged
pub set_here : {X : Type 0} (xs : List X) (k : ℕ) (y : X) → k < length xs → slice_get (slice_set xs k y) k ≡ Some y
set_here [] k y h = absurd (omega arith)
set_here (x ∷ xs) zero y h = refl
set_here (x ∷ xs) (suc k) y h = set_here xs k y (omega arith)

pub set_other : {X : Type 0} (xs : List X) (k j : ℕ) (y : X) → j ≢ k → slice_get (slice_set xs k y) j ≡ slice_get xs j
set_other [] k j y h = refl
set_other (x ∷ xs) zero zero y h = absurd (h refl)
set_other (x ∷ xs) zero (suc j) y h = refl
set_other (x ∷ xs) (suc k) zero y h = refl
set_other (x ∷ xs) (suc k) (suc j) y h = set_other xs k j y (λ e. h (ap suc e))

pub get_there : {X : Type 0} (xs : List X) (k : ℕ) → k < length xs → (y : X) × (slice_get xs k ≡ Some y)
get_there [] k h = absurd (omega arith)
get_there (x ∷ xs) zero h = (x, refl)
get_there (x ∷ xs) (suc k) h = get_there xs k (omega arith)
