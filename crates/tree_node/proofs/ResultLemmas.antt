-- What is told of a result by its case.
use Rattle.std.proofs.Common.{◌≡◌, false}
use Rattle.std.specs.Prelude.{Result, Ok, Err, is_err, OnOk}

-- of no error, what is told of a value holds
pub of_made : {T E : Type 0} (r : Result T E) (P : Type 0) → is_err r ≡ false → OnOk r P → P
of_made (Ok x) P is h = h
of_made (Err e) P is h = cc

-- two things that are told of a value give a third
pub on_both : {A E : Type 0} (P Q R : Type 0) (r : Result A E) → (P → Q → R) → OnOk r P → OnOk r Q → OnOk r R
on_both P Q R (Ok a) f h g = f h g
on_both P Q R (Err e) f h g = tt
