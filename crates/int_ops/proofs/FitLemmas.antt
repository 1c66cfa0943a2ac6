-- Which integers are of 128 bits.
use Rattle.std.proofs.Common.{arith, ◌≡◌, refl, true, false}
use Rattle.std.specs.Prelude.{ℤ, FitsSigned}
use Rattle.std.specs.Int.{w128}
use Rattle.std.proofs.lemmas.Int.{ints}
use Rattle.kernel_syntax.specs.Arithmetic.{Number, Overflow, fit_or_overflow, is_integer}

is_integer_there : (z : ℤ) → FitsSigned w128 z → is_integer z ≡ true
is_integer_there z h = grind (arith, ints)

is_integer_past : (z : ℤ) → (FitsSigned w128 z → ⊥) → is_integer z ≡ false
is_integer_past z h = grind (arith, ints)

pub fitted_there : (z : ℤ) → FitsSigned w128 z → Number z ≡ fit_or_overflow z
fitted_there z h = rw (is_integer_there z h) refl

pub fitted_past : (z : ℤ) → (FitsSigned w128 z → ⊥) → Overflow ≡ fit_or_overflow z
fitted_past z h = rw (is_integer_past z h) refl
