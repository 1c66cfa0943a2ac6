-- Whether a name is among those that are declared from a place on.
use Rattle.std.proofs.Common.{◌≡◌, ◌∙◌, ℕ, zero, suc, ◌+◌, List, [], ◌∷◌, drop, Bool, true, false, Option, Some, None, refl, sym, ap}
use Rattle.std.proofs.Math.Dec.{leb-zero, leb-suc-zero, leb-suc-suc}
use Rattle.std.proofs.Math.Numerals.{suc-eq-add-one}
use Rattle.std.specs.Prelude.{nat_le, ◌||◌}
use Rattle.std.specs.Str.{bytes_eq}
use Rattle.oz_grammar.specs.Scoping.{Scope, has_name, declared_behind, position_of}

-- a position is not before a place
abbrev is_from : ℕ → Option ℕ → Bool
is_from n None = false
is_from n (Some p) = nat_le n p

one_more : (n p : ℕ) → nat_le n p ≡ nat_le (suc n) (p + 1)
one_more n p = sym (leb-suc-suc n p) ∙ ap (λ (m : ℕ). nat_le (suc n) m) (suc-eq-add-one p)

declared_from : (scope : Scope) (n : ℕ) (x : List ℕ) → has_name (drop n scope) x ≡ is_from n (position_of scope x)
declared_from [] zero x = refl
declared_from [] (suc n) x = refl
declared_from (y ∷ ys) zero x = ap (λ (b : Bool). bytes_eq y x || b) (declared_from ys zero x) ∙ go (bytes_eq y x) (position_of ys x)
  where
    go : (b : Bool) (o : Option ℕ) → (b || is_from zero o) ≡ is_from zero (declared_behind b o)
    go true None = sym (leb-zero 0)
    go true (Some p) = sym (leb-zero (p + 1))
    go false None = refl
    go false (Some p) = leb-zero p ∙ sym (leb-zero (p + 1))
declared_from (y ∷ ys) (suc n) x = declared_from ys n x ∙ go (bytes_eq y x) (position_of ys x)
  where
    go : (b : Bool) (o : Option ℕ) → is_from n o ≡ is_from (suc n) (declared_behind b o)
    go true None = sym (leb-suc-zero n)
    go false None = refl
    go true (Some p) = one_more n p
    go false (Some p) = one_more n p

-- a name is among those where its position is not before the place
pub declared_some : (scope : Scope) (n p : ℕ) (x : List ℕ) → position_of scope x ≡ Some p → has_name (drop n scope) x ≡ nat_le n p
declared_some scope n p x e = declared_from scope n x ∙ ap (is_from n) e

pub declared_none : (scope : Scope) (n : ℕ) (x : List ℕ) → position_of scope x ≡ None → has_name (drop n scope) x ≡ false
declared_none scope n x e = declared_from scope n x ∙ ap (is_from n) e
