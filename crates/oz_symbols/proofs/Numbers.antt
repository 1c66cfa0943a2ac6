-- Numbers named in decimal grow with each digit.
use Rattle.std.proofs.Common.{◌≡◌, ℕ, ◌+◌, ◌-◌, ◌*◌, ◌<◌, ◌≤◌, List, [], ◌∷◌, length, drop, false, arith}
use Rattle.std.specs.Prelude.{nat_le}
use Rattle.std.proofs.lemmas.List.{length-drop}
use Rattle.oz_grammar.specs.Symbols.{number_after}

grows : (digits : List ℕ) (n : ℕ) → n ≤ number_after n digits
grows [] n = omega arith
grows (c ∷ cs) n = let h = grows cs (10 * n + (c - 48)) in omega arith

tenfold : (digits : List ℕ) (n : ℕ) → 0 < length digits → 10 * n ≤ number_after n digits
tenfold [] n h = absurd (omega arith)
tenfold (c ∷ cs) n h = let g = grows cs (10 * n + (c - 48)) in omega arith

pub too_large : (digits : List ℕ) (i n whole : ℕ) → i < length digits → 17014118346046923173168730371588410572 < n → number_after n (drop i digits) ≡ whole → nat_le whole 170141183460469231731687303715884105728 ≡ false
too_large digits i n whole lt large e =
    let some : 0 < length (drop i digits) = omega (arith, length-drop i digits) in
    let h = tenfold (drop i digits) n some in
    let above : 170141183460469231731687303715884105728 < whole = omega arith in
    grind arith
