-- What truth values together come to.
use Rattle.std.proofs.Common.{◌≡◌, refl, Bool, true, false}
use Rattle.std.specs.Prelude.{◌&&◌, ◌||◌}

pub exchange : (a b c : Bool) → (a || (b || c)) ≡ (b || (a || c))
exchange true true c = refl
exchange true false c = refl
exchange false true c = refl
exchange false false c = refl

pub and_none : (b c : Bool) → c ≡ false → (b && c) ≡ false
and_none true c none = none
and_none false c none = refl
