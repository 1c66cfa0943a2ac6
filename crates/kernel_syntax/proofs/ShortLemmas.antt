-- A program's statements have few free positions.
use Rattle.std.proofs.Common.{arith, ◌≡◌, ℕ, zero, suc, ◌+◌, ◌-◌, ◌<◌, ◌≤◌, List, [], ◌∷◌, length}
use Rattle.std.specs.Prelude.{Contains, slice_get, unwrap_or}
use Rattle.tree_node.specs.declared.names.CodeId.{CodeId}
use Rattle.tree_node.specs.Each.{Each}
use Rattle.tree_node.proofs.ClassLemmas.{Contains-head, Contains-tail, Contains-cons_cases}
use Rattle.std.proofs.Common.{◌⊎◌, inl, inr}
use Rattle.kernel_syntax.specs.declared.stmt.Stmt.{Stmt}
use Rattle.kernel_syntax.specs.declared.stmt.Stmt.TheVariants.{Skip}
use Rattle.kernel_syntax.specs.Scopes.{stmt_at, named_positions}
use Rattle.kernel_syntax.specs.Free.{AreRising, free}
use Rattle.kernel_syntax.specs.Preorder.{whole_program}
use Rattle.kernel_syntax.specs.Uses.{IsUsed, itself, within}
use Rattle.kernel_syntax.specs.Laws.{FreeIsFew}
use Rattle.kernel_syntax.proofs.Below.{Below}
use Rattle.kernel_syntax.proofs.FreeLemmas.{free_ascends, free_is_used}
use Rattle.kernel_syntax.proofs.PreorderLemmas.{NamesFew, names_few}
use Rattle.tree_node.proofs.EnvLemmas.{each_more}

few_at : (p : List Stmt) (i : ℕ) → Each NamesFew p → NamesFew (unwrap_or (slice_get p i) Skip)
few_at [] i few = tt
few_at (st ∷ sts) zero few = few.0
few_at (st ∷ sts) (suc i) few = few_at sts i few.1

of_contained : (n : ℕ) (js : List ℕ) → Below n js → (k : ℕ) → Contains js k → k < n
of_contained n [] below k (i, lt, is) = absurd (omega arith)
of_contained n (j ∷ js) below k h = go (λ g. of_contained n js below.1 k g) (Contains-cons_cases j k js h)
  where
    go : (Contains js k → k < n) → (j ≡ k) ⊎ Contains js k → k < n
    go more (inl e) = let low = below.0 in omega arith
    go more (inr g) = more g

uses_few : (p : List Stmt) → Each NamesFew p → {code : CodeId} {k : ℕ} → IsUsed p code k → k < 12800
uses_few p few (itself {code} {k} h) = of_contained 12800 (named_positions (stmt_at p code)) (few_at p code.0 few) k h
uses_few p few (within c outside u) = uses_few p few u

each_contained : (n : ℕ) (js : List ℕ) → ((k : ℕ) → Contains js k → k < n) → Below n js
each_contained n [] h = tt
each_contained n (j ∷ js) h = (h j (Contains-head j js), each_contained n js (λ k g. h k (Contains-tail j k js g)))

rising_short : (js : List ℕ) (low high : ℕ) → AreRising js → Each (λ (j : ℕ). low ≤ j) js → Below high js → length js ≤ high - low
rising_short [] low high up above below = omega arith
rising_short (j ∷ js) low high up above below =
    let least = above.0 in
    let most = below.0 in
    let more = rising_short js (j + 1) high up.1 (each_more (λ (i : ℕ). j < i) (λ (i : ℕ). j + 1 ≤ i) js (λ i h. omega (arith, h)) up.0) below.1 in
    omega arith

all_above : (js : List ℕ) → Each (λ (j : ℕ). 0 ≤ j) js
all_above [] = tt
all_above (j ∷ js) = (omega arith, all_above js)

pub free_is_few : FreeIsFew
free_is_few p code is =
    let few = names_few 0 (whole_program ∷ []) p is.stmts (omega arith, tt) is.order in
    let below = each_contained 12800 (free p code) (λ k h. uses_few p few ((free_is_used p code k is).0 h)) in
    let short = rising_short (free p code) 0 12800 (free_ascends p code) (all_above (free p code)) below in
    (short, below)
