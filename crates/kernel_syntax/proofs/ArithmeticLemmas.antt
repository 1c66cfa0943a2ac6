-- Quotients, rests, and what fits 128 bits.
use Rattle.std.proofs.Common.{arith, ◌≡◌, ◌≢◌, refl, ap, subst, ℕ, zero, suc, ◌<◌, ◌≤◌, ◌%◌, Bool, true, false, cond, ℤ, pos, negsuc, neg_ℤ, ◌+ℤ◌, ◌-ℤ◌, ◌*ℤ◌, ◌≤ℤ◌, int_div, int_rem, unsigned_abs, IsTrue}
use Rattle.std.proofs.lemmas.Int.{quot-rem, rem_below}
use Rattle.std.proofs.Math.Nat.{mod-le}
use Rattle.std.specs.Ordering.{int_eq}
use Rattle.kernel_syntax.specs.declared.stmt.Op.TheVariants.{Add, Sub, Mul, Div, Mod, Le, Lt, Ge, Gt}
use Rattle.kernel_syntax.specs.Arithmetic.{OperatorResult, Number, Overflow, Zero, fit_or_overflow, is_integer}
use Rattle.kernel_syntax.specs.Laws.{DivisionIsExact, RestHasSign, NumbersFit}

some : (b : ℤ) → b ≢ pos 0 → 0 < unsigned_abs b
some (pos zero) e = absurd (e refl)
some (pos (suc n)) e = omega arith
some (negsuc n) e = omega arith

pub division_is_exact : DivisionIsExact
division_is_exact a b e = (quot-rem a b, rem_below a b (some b e))

not_above : (n : ℕ) → neg_ℤ (pos n) ≤ℤ pos 0
not_above zero = record { le = tt }
not_above (suc n) = record { le = tt }

least : (n : ℕ) → pos 0 ≤ℤ pos n
least n = grind arith

rest_of_none : (a d : ℕ) → pos a ≤ℤ pos 0 → pos (a % d) ≤ℤ pos 0
rest_of_none a d h = let less : a % d ≤ a = mod-le a d in grind (arith, less, h)

pub rest_has_sign : RestHasSign
rest_has_sign (pos a) b = (λ h. least (a % unsigned_abs b), λ h. rest_of_none a (unsigned_abs b) h)
rest_has_sign (negsuc a) b = (λ h. absurd h.le, λ h. not_above (suc a % unsigned_abs b))

-- the rest of an integer of 128 bits is one
negated : (r a : ℕ) → r ≤ suc a → IsTrue (is_integer (negsuc a)) → IsTrue (is_integer (neg_ℤ (pos r)))
negated zero a l h = grind arith
negated (suc r) a l h = grind (arith, l, h)

rest_fits : (a b : ℤ) → IsTrue (is_integer a) → IsTrue (is_integer (int_rem a b))
rest_fits (pos a) b h = let less : a % unsigned_abs b ≤ a = mod-le a (unsigned_abs b) in grind (arith, less, h)
rest_fits (negsuc a) b h = negated (suc a % unsigned_abs b) a (mod-le (suc a) (unsigned_abs b)) h

abbrev number_of : OperatorResult → ℤ
number_of (Number z) = z
number_of _ = pos 0

-- what is given as an integer fits
abbrev GivesIntegers : OperatorResult → Type 0
GivesIntegers c = (z : ℤ) → c ≡ Number z → IsTrue (is_integer z)

number_fits : (y : ℤ) → IsTrue (is_integer y) → GivesIntegers (Number y)
number_fits y h z e = subst (λ (x : ℤ). IsTrue (is_integer x)) (ap number_of e) h

fitted_fits : (y : ℤ) → GivesIntegers (fit_or_overflow y)
fitted_fits y = go (is_integer y) refl
  where
    go : (b : Bool) → is_integer y ≡ b → GivesIntegers (cond b (Number y) Overflow)
    go true h = number_fits y h
    go false h = λ z e. absurd (grind (arith, e))

unless_zero : (c : OperatorResult) (b : Bool) → GivesIntegers c → GivesIntegers (cond b Zero c)
unless_zero c true h = λ z e. absurd (grind (arith, e))
unless_zero c false h = h

pub numbers_fit : NumbersFit
numbers_fit Add a b z h e = fitted_fits (a +ℤ b) z e
numbers_fit Sub a b z h e = fitted_fits (a -ℤ b) z e
numbers_fit Mul a b z h e = fitted_fits (a *ℤ b) z e
numbers_fit Div a b z h e = unless_zero (fit_or_overflow (int_div a b)) (int_eq b (pos 0)) (fitted_fits (int_div a b)) z e
numbers_fit Mod a b z h e = unless_zero (Number (int_rem a b)) (int_eq b (pos 0)) (number_fits (int_rem a b) (rest_fits a b h)) z e
numbers_fit Le a b z h e = absurd (grind (arith, e))
numbers_fit Lt a b z h e = absurd (grind (arith, e))
numbers_fit Ge a b z h e = absurd (grind (arith, e))
numbers_fit Gt a b z h e = absurd (grind (arith, e))
