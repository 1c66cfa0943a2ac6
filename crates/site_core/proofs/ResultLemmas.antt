-- What is told of results.
use Rattle.std.proofs.Common.{◌≡◌, true, false, Ok, Err}
use Rattle.std.specs.Prelude.{Result, is_err, IfOk, OnOk, OnErr}

-- of an error, nothing is told of a value
pub no_value : {T E : Type 0} (r : Result T E) (P : T → Type 0) → is_err r ≡ true → IfOk r P
no_value (Ok x) P is = cc
no_value (Err e) P is = tt

pub no_value_on : {T E : Type 0} (r : Result T E) (P : Type 0) → is_err r ≡ true → OnOk r P
no_value_on (Ok x) P is = cc
no_value_on (Err e) P is = tt

-- what holds anyway
pub on_ok_given : {T E : Type 0} (r : Result T E) (P : Type 0) → P → OnOk r P
on_ok_given (Ok x) P h = h
on_ok_given (Err e) P h = tt

pub on_err_given : {T E : Type 0} (r : Result T E) (P : Type 0) → P → OnErr r P
on_err_given (Ok x) P h = tt
on_err_given (Err e) P h = h

-- of a value, nothing is told of an error
pub no_error : {T E : Type 0} (r : Result T E) (P : Type 0) → is_err r ≡ false → OnErr r P
no_error (Ok x) P is = tt
no_error (Err e) P is = cc

pub not_spent : {P : Type 0} → true ≡ false → P
not_spent e = cc

-- what follows of a value
pub if_ok_more : {T E : Type 0} (r : Result T E) (P Q : T → Type 0) → ((x : T) → P x → Q x) → IfOk r P → IfOk r Q
if_ok_more (Ok x) P Q f h = f x h
if_ok_more (Err e) P Q f h = tt

-- what four facts of the value give
pub if_ok_four : {T E : Type 0} (r : Result T E) (A B C D F : T → Type 0) → ((x : T) → A x → B x → C x → D x → F x) → IfOk r A → IfOk r B → IfOk r C → IfOk r D → IfOk r F
if_ok_four (Ok x) A B C D F f a b c d = f x a b c d
if_ok_four (Err e) A B C D F f a b c d = tt

-- what two give
pub if_ok_two : {T E : Type 0} (r : Result T E) (A B F : T → Type 0) → ((x : T) → A x → B x → F x) → IfOk r A → IfOk r B → IfOk r F
if_ok_two (Ok x) A B F f a b = f x a b
if_ok_two (Err e) A B F f a b = tt
