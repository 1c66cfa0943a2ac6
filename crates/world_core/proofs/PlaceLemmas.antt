-- What stands at the places of a list.
use Rattle.std.proofs.Common.{arith, ◌≡◌, ◌∙◌, sym, ap, refl, subst, ℕ, zero, suc, List, [], ◌∷◌, ◌++◌, length, map, get_or}
use Rattle.std.specs.Prelude.{Option, Some, None, slice_get, slice_set}

-- what holds of each item with its place, and of one more
pub push_all : {X : Type 0} (P : ℕ → X → Type 0) (xs : List X) (y : X) → ((i : ℕ) (x : X) → slice_get xs i ≡ Some x → P i x) → P (length xs) y → (i : ℕ) (x : X) → slice_get (xs ++ y ∷ []) i ≡ Some x → P i x
push_all P [] y all new zero x e = let same : y ≡ x = cc in subst (P 0) same new
push_all P [] y all new (suc i) x e = cc
push_all P (z ∷ zs) y all new zero x e = all 0 x e
push_all P (z ∷ zs) y all new (suc i) x e =
    let place : length (z ∷ zs) ≡ suc (length zs) = omega arith in
    push_all (λ k w. P (suc k) w) zs y (λ k w at. all (suc k) w at) (subst (λ (k : ℕ). P k y) place new) i x e

-- and of one that changed
pub set_all : {X : Type 0} (P : X → Type 0) (xs : List X) (k : ℕ) (y : X) → ((i : ℕ) (x : X) → slice_get xs i ≡ Some x → P x) → P y → (i : ℕ) (x : X) → slice_get (slice_set xs k y) i ≡ Some x → P x
set_all P [] k y all new i x e = cc
set_all P (z ∷ zs) zero y all new zero x e = let same : y ≡ x = cc in subst P same new
set_all P (z ∷ zs) zero y all new (suc i) x e = all (suc i) x e
set_all P (z ∷ zs) (suc k) y all new zero x e = all 0 x e
set_all P (z ∷ zs) (suc k) y all new (suc i) x e = set_all P zs k y (λ j w at. all (suc j) w at) new i x e

-- an item by its place, with a default
pub read_there : {X Y : Type 0} (f : X → Y) (xs : List X) (i : ℕ) (x : X) (d : Y) → slice_get xs i ≡ Some x → get_or (map f xs) i d ≡ f x
read_there f [] i x d e = cc
read_there f (z ∷ zs) zero x d e = let same : z ≡ x = cc in ap f same
read_there f (z ∷ zs) (suc i) x d e = read_there f zs i x d e

pub read_past : {X Y : Type 0} (f : X → Y) (xs : List X) (i : ℕ) (d : Y) → slice_get xs i ≡ None → get_or (map f xs) i d ≡ d
read_past f [] i d e = refl
read_past f (z ∷ zs) zero d e = cc
read_past f (z ∷ zs) (suc i) d e = read_past f zs i d e

-- two lists that have the same at a place, read there
pub read_same : {X Y : Type 0} (f : X → Y) (xs ys : List X) (i : ℕ) (d : Y) → slice_get xs i ≡ slice_get ys i → get_or (map f xs) i d ≡ get_or (map f ys) i d
read_same {X} {Y} f xs ys i d e = by (slice_get ys i) refl
  where
    by : (o : Option X) → slice_get ys i ≡ o → get_or (map f xs) i d ≡ get_or (map f ys) i d
    by None q = read_past f xs i d (e ∙ q) ∙ sym (read_past f ys i d q)
    by (Some x) q = read_there f xs i x d (e ∙ q) ∙ sym (read_there f ys i x d q)
