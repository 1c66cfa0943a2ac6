-- The first element of a list, and those behind it.
use Rattle.std.proofs.Common.{◌≡◌, ◌∙◌, ℕ, suc, ◌+◌, ◌-◌, ◌<◌, ◌≤◌, List, [], ◌∷◌, length, take, drop, get_or, drop-cons, add-one, sym, ap, arith}
use Rattle.std.proofs.Math.Seq.{take-length}

pub first_others : {X : Type 0} (xs : List X) (x : X) → 1 ≤ length xs → x ≡ get_or xs 0 x → xs ≡ x ∷ take (length xs - 1) (drop 1 xs)
first_others [] x some e = absurd (omega arith)
first_others {X = X} (y ∷ ys) x some e =
    let n : length (y ∷ ys) - 1 ≡ length ys = omega arith in
    let behind : take (length (y ∷ ys) - 1) ys ≡ ys = ap (λ (k : ℕ). take k ys) n ∙ take-length ys in
    ap (λ (z : X). z ∷ ys) (sym e) ∙ ap (λ (zs : List X). x ∷ zs) (sym behind)

pub next_others : {X : Type 0} (xs : List X) (k : ℕ) (x : X) → k < length xs → x ≡ get_or xs k x → drop k xs ≡ x ∷ drop (k + 1) xs
next_others {X = X} xs k x lt e =
    drop-cons xs k x lt ∙ ap (λ (y : X). y ∷ drop (suc k) xs) (sym e) ∙ ap (λ (n : ℕ). x ∷ drop n xs) (sym (add-one k))
