-- What stands behind the last of a list.
use Rattle.std.proofs.Common.{◌≡◌, ℕ, zero, suc, ◌+◌, ◌-◌, Bool, true, List, [], ◌∷◌, length, Some, None, refl, ap, arith}
use Rattle.std.specs.Prelude.{slice_get}
use Rattle.std.proofs.lemmas.Option.{slice_get_within, slice_get-get_or}
use Rattle.wire_reader.specs.Reading.{is_above}

above_at : {X A : Type 0} (key : X → A) (below : A → A → Bool) (front : List X) (a : A) (i : ℕ) (x : X) → i + 1 ≡ length front → slice_get front i ≡ Some x
    → is_above key below front a ≡ below (key x) a
above_at key below [] a i x e s = absurd (omega (arith, e))
above_at key below (y ∷ []) a zero x e s = let same : y ≡ x = cc in ap (λ (z : _). below (key z) a) same
above_at key below (y ∷ []) a (suc i) x e s = absurd (omega (arith, e))
above_at key below (y ∷ z ∷ xs) a zero x e s = absurd (omega (arith, e))
above_at key below (y ∷ z ∷ xs) a (suc i) x e s = above_at key below (z ∷ xs) a i x (omega (arith, e)) s

-- above the last item
pub above_some : {X A : Type 0} (key : X → A) (below : A → A → Bool) (front : List X) (a : A) (x : X) → slice_get front (length front - 1) ≡ Some x
    → is_above key below front a ≡ below (key x) a
above_some key below front a x s =
    let within = slice_get_within front (length front - 1) x s in
    above_at key below front a (length front - 1) x (omega (arith, within)) s

-- there is no last item
pub above_none : {X A : Type 0} (key : X → A) (below : A → A → Bool) (front : List X) (a : A) → slice_get front (length front - 1) ≡ None → is_above key below front a ≡ true
above_none key below [] a s = refl
above_none key below (x ∷ xs) a s = let there = slice_get-get_or (x ∷ xs) (length (x ∷ xs) - 1) x (omega arith) in absurd cc
