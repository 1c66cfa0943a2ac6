-- What holds of each element of a list.
use Rattle.std.proofs.Common.{arith, ◌≡◌, subst, ℕ, zero, suc, ◌+◌, ◌<◌, List, [], ◌∷◌, ◌++◌, length, take, get_or, Some, sym, reverse}
use Rattle.std.proofs.lemmas.List.{reverse-append}
use Rattle.std.specs.Prelude.{Contains, slice_get}
use Rattle.tree_node.specs.Each.{Each}
use Rattle.tree_node.proofs.ClassLemmas.{Contains-head, Contains-tail}

pub each_in : {X : Type 0} (P : X → Type 0) (xs : List X) → ((x : X) → Contains xs x → P x) → Each P xs
each_in P [] f = tt
each_in P (x ∷ xs) f = (f x (Contains-head x xs), each_in P xs (λ y h. f y (Contains-tail x y xs h)))

pub each_append : {X : Type 0} (P : X → Type 0) (xs ys : List X) → Each P xs → Each P ys → Each P (xs ++ ys)
each_append P [] ys h g = g
each_append P (x ∷ xs) ys h g = (h.0, each_append P xs ys h.1 g)

-- what holds of each holds of the one at a place
pub each_at_place : {X : Type 0} (P : X → Type 0) (xs : List X) (k : ℕ) (x : X) → Each P xs → slice_get xs k ≡ Some x → P x
each_at_place P [] k x h e = cc
each_at_place P (y ∷ ys) zero x h e = let same : y ≡ x = cc in subst P same h.0
each_at_place P (y ∷ ys) (suc k) x h e = each_at_place P ys k x h.1 e

-- the first ones
pub each_take : {X : Type 0} (P : X → Type 0) (n : ℕ) (xs : List X) → Each P xs → Each P (take n xs)
each_take P zero xs h = tt
each_take P (suc n) [] h = tt
each_take P (suc n) (x ∷ xs) h = (h.0, each_take P n xs h.1)

-- and one more of them
pub each_take_more : {X : Type 0} (P : X → Type 0) (xs : List X) (i : ℕ) (d : X) → i < length xs → Each P (take i xs) → P (get_or xs i d) → Each P (take (i + 1) xs)
each_take_more {X} P xs i d inside h g = let e : suc i ≡ i + 1 = omega arith in subst (λ (n : ℕ). Each P (take n xs)) e (next xs i inside h g)
  where
    next : (xs : List X) (i : ℕ) → i < length xs → Each P (take i xs) → P (get_or xs i d) → Each P (take (suc i) xs)
    next [] i inside h g = absurd (omega (arith, inside))
    next (x ∷ xs) zero inside h g = (g, tt)
    next (x ∷ xs) (suc i) inside h g = (h.0, next xs i (omega (arith, inside)) h.1 g)

-- what holds of each on two grounds
pub each_two : {X : Type 0} (P Q R : X → Type 0) → ((x : X) → P x → Q x → R x) → (xs : List X) → Each P xs → Each Q xs → Each R xs
each_two P Q R f [] h g = tt
each_two P Q R f (x ∷ xs) h g = (f x h.0 g.0, each_two P Q R f xs h.1 g.1)

pub each_reverse : {X : Type 0} (P : X → Type 0) (xs : List X) → Each P xs → Each P (reverse xs)
each_reverse P [] h = tt
each_reverse {X} P (x ∷ xs) h = subst (λ (l : List X). Each P l) (sym (reverse-append (x ∷ []) xs)) (each_append P (reverse xs) (x ∷ []) (each_reverse P xs h.1) (h.0, tt))
