-- Positions below a number.
use Rattle.std.proofs.Common.{◌≡◌, ℕ, ◌+◌, ◌<◌, List, [], ◌∷◌, ltb, eqb, Bool, true, false, cond, refl, arith}
use Rattle.tree_node.specs.Each.{Each}
use Rattle.kernel_syntax.specs.Free.{with_position, with_positions, is_declared, without_declared}

abbrev pub Below : ℕ → List ℕ → Type 0
Below n js = Each (λ (j : ℕ). j < n) js

pub with_below : (n k : ℕ) (js : List ℕ) → k < n → Below n js → Below n (with_position k js)
with_below n k [] lt p = (lt, tt)
with_below n k (j ∷ js) lt p =
    let chosen : (b c : Bool) → Below n (cond b (j ∷ js) (cond c (k ∷ j ∷ js) (j ∷ with_position k js))) = elim [
      | true ↦ λ c. p
      | false ↦ elim [ true ↦ (lt, (p.0, p.1)) | false ↦ (p.0, with_below n k js lt p.1) ]
    ] in chosen (eqb k j) (ltb k j)

pub all_below : (n : ℕ) (js ks : List ℕ) → Below n js → Below n ks → Below n (with_positions js ks)
all_below n js [] p q = p
all_below n js (k ∷ ks) p q = all_below n (with_position k js) ks (with_below n k js q.0 p) q.1

outside : (first count k : ℕ) → k < first + count → is_declared first count k ≡ false → k < first
outside first count k lt e = grind arith

-- what is declared is taken out
pub without_below : (first count : ℕ) (ks : List ℕ) → Below (first + count) ks → Below first (without_declared first count ks)
without_below first count [] p = tt
without_below first count (k ∷ ks) p =
    let chosen : (b : Bool) → is_declared first count k ≡ b → Below first (cond b (without_declared first count ks) (k ∷ without_declared first count ks)) = elim [
      | true ↦ λ e. without_below first count ks p.1
      | false ↦ λ e. (outside first count k p.0 e, without_below first count ks p.1)
    ] in chosen (is_declared first count k) refl

pub still_below : (n first count : ℕ) (ks : List ℕ) → Below n ks → Below n (without_declared first count ks)
still_below n first count [] p = tt
still_below n first count (k ∷ ks) p =
    let chosen : (b : Bool) → Below n (cond b (without_declared first count ks) (k ∷ without_declared first count ks)) = elim [
      | true ↦ still_below n first count ks p.1
      | false ↦ (p.0, still_below n first count ks p.1)
    ] in chosen (is_declared first count k)

pub none_below : (js : List ℕ) → Below 0 js → js ≡ []
none_below [] p = refl
none_below (j ∷ js) p = absurd (omega (arith, p.0))
