-- What a reader answers: a value, or a fault.
use Rattle.std.proofs.Common.{◌≡◌, Bool, true, false, cond, Result, Ok, Err, refl, ap, ◌⊎◌, inl, inr}
use Rattle.byte_fields.specs.Reading.{◌>>=◌}

abbrev pub done : {E A : Type 0} → A → Result A E
done x = Ok x

abbrev pub failed : {E A : Type 0} → E → Result A E
failed f = Err f

pub ok_is : {E A : Type 0} (x y : A) → done {E = E} x ≡ done y → x ≡ y
ok_is x y e = cc

pub err_is : {E A : Type 0} (f g : E) → failed {A = A} f ≡ failed g → f ≡ g
err_is f g e = cc

pub no_err : {E A : Type 0} (x : A) (f : E) → done x ≡ failed f → ⊥
no_err x f e = cc

pub no_ok : {E A : Type 0} (x : A) (f : E) → failed f ≡ done x → ⊥
no_ok x f e = cc

pub bind_ok : {E A B : Type 0} (r : Result A E) (f : A → Result B E) (y : B) → (r >>= f) ≡ Ok y → (x : A) × (r ≡ Ok x) × (f x ≡ Ok y)
bind_ok (Ok x) f y e = (x, refl, e)
bind_ok (Err d) f y e = absurd (no_ok y d e)

pub bind_err : {E A B : Type 0} (r : Result A E) (f : A → Result B E) (g : E) → (r >>= f) ≡ Err g → (r ≡ Err g) ⊎ ((x : A) × (r ≡ Ok x) × (f x ≡ Err g))
bind_err (Ok x) f g e = inr (x, refl, e)
bind_err {E = E} {A = A} (Err d) f g e = inl (ap (λ (k : E). failed k) (err_is {A = _} d g e))

-- a test that was passed, and one that was not
pub passed : {E A : Type 0} (b : Bool) (d : E) (x y : A) → cond b (Ok x) (Err d) ≡ Ok y → (b ≡ true) × (x ≡ y)
passed true d x y e = (refl, ok_is x y e)
passed false d x y e = absurd (no_ok y d e)

pub not_passed : {E A : Type 0} (b : Bool) (d : E) (x : A) (f : E) → cond b (Ok x) (Err d) ≡ Err f → (b ≡ false) × (d ≡ f)
not_passed true d x f e = absurd (no_err x f e)
not_passed false d x f e = (refl, err_is d f e)

-- which of two it was
pub chosen : {A : Type 0} (b : Bool) (x y z : A) → cond b x y ≡ z → ((b ≡ true) × (x ≡ z)) ⊎ ((b ≡ false) × (y ≡ z))
chosen true x y z e = inl (refl, e)
chosen false x y z e = inr (refl, e)
