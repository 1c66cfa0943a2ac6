-- Ascending positions.
use Rattle.std.proofs.Common.{arith, ◌≡◌, sym, ap, refl, ℕ, zero, suc, ◌+◌, ◌-◌, ◌<◌, ◌≤◌, List, [], ◌∷◌, ◌++◌, length, get_or, drop, drop-cons, add-one, Bool, true, false, cond}
use Rattle.std.specs.Prelude.{◌==◌, nat_lt, insert, MatchResult, IfOk, IfErr, Result, Ok, Err}
use Rattle.std.specs.Ordering.{nat_cmp}
use Rattle.std.specs.List.Sorted.{IsBinarySearchResult}
use Rattle.std.proofs.lemmas.List.Sorted.{searched}
use Rattle.tree_node.specs.Each.{Each}
use Rattle.kernel_syntax.specs.Free.{AreRising, with_position, with_positions}
use Rattle.tree_node.proofs.EnvLemmas.{each_more}

pub Each-at : {X : Type 0} (P : X → Type 0) (xs : List X) (i : ℕ) (d : X) → Each P xs → i < length xs → P (get_or xs i d)
Each-at P [] i d h l = absurd (omega arith)
Each-at P (x ∷ xs) zero d h l = h.0
Each-at P (x ∷ xs) (suc i) d h l = Each-at P xs i d h.1 (omega arith)

pub Each-with : (P : ℕ → Type 0) (k : ℕ) (js : List ℕ) → P k → Each P js → Each P (with_position k js)
Each-with P k [] h hs = (h, tt)
Each-with P k (j ∷ js) h hs = go (k == j) (nat_lt k j) (Each-with P k js h hs.1)
  where
    go : (a b : Bool) → Each P (with_position k js) → Each P (cond a (j ∷ js) (cond b (k ∷ j ∷ js) (j ∷ with_position k js)))
    go true b rest = hs
    go false true rest = (h, hs)
    go false false rest = (hs.0, rest)

rise : (xs : List ℕ) → AreRising xs → (i j : ℕ) → i ≤ j → j < length xs → get_or xs i 0 ≤ get_or xs j 0
rise [] up i j le l = absurd (omega arith)
rise (x ∷ xs) up zero zero le l = omega arith
rise (x ∷ xs) up zero (suc j) le l = let h : x < get_or xs j 0 = Each-at (λ y. x < y) xs j 0 up.0 (omega arith) in omega (arith, h)
rise (x ∷ xs) up (suc i) zero le l = absurd (omega arith)
rise (x ∷ xs) up (suc i) (suc j) le l = rise xs up.1 i j (omega arith) (omega arith)

-- with_position where a search found the position, and where it found its place
pub found : (k : ℕ) (js : List ℕ) (i : ℕ) → AreRising js → i < length js → get_or js i 0 ≡ k → with_position k js ≡ js
found k [] i up l e = absurd (omega arith)
found k (j ∷ js) zero up l e = grind arith
found k (j ∷ js) (suc i) up l e =
    let above : j < get_or js i 0 = Each-at (λ y. j < y) js i 0 up.0 (omega arith) in
    let ih : with_position k js ≡ js = found k js i up.1 (omega arith) e in
    grind (arith, above, ih, e)

missing : (k : ℕ) (js : List ℕ) (i : ℕ) → i ≤ length js → ((m : ℕ) → m < i → get_or js m 0 < k) → ((m : ℕ) → i ≤ m → m < length js → k < get_or js m 0) → with_position k js ≡ insert js i k
missing k [] zero l low high = refl
missing k [] (suc i) l low high = absurd (omega arith)
missing k (j ∷ js) zero l low high = let below : k < j = high 0 (omega arith) (omega arith) in grind (arith, below)
missing k (j ∷ js) (suc i) l low high =
    let above : j < k = low 0 (omega arith) in
    let ih : with_position k js ≡ insert js i k = missing k js i (omega arith) (λ m h. low (suc m) (omega arith)) (λ m h g. high (suc m) (omega arith) (omega arith)) in
    grind (arith, above, ih)

-- .. where it found the last one below, and where none is
pub missing_behind : (k : ℕ) (js : List ℕ) (i : ℕ) → AreRising js → 0 < i → i ≤ length js → get_or js (i - 1) 0 < k → (i < length js → k < get_or js i 0) → insert js i k ≡ with_position k js
missing_behind k js i up some few below above =
    sym (missing k js i few (λ m l. let r = rise js up m (i - 1) (omega (arith, l)) (omega (arith, some, few)) in omega (arith, r, below)) (λ m le l. let a = above (omega (arith, le, l)) in let r = rise js up i m le l in omega (arith, a, r)))

pub missing_first : (k : ℕ) (js : List ℕ) → AreRising js → (0 < length js → k < get_or js 0 0) → insert js 0 k ≡ with_position k js
missing_first k js up above =
    sym (missing k js 0 (omega arith) (λ m l. absurd (omega (arith, l))) (λ m le l. let a = above (omega (arith, l)) in let r = rise js up 0 m le l in omega (arith, a, r)))

-- one more position keeps the order
pub ascends_with : (k : ℕ) (js : List ℕ) → AreRising js → AreRising (with_position k js)
ascends_with k [] up = (tt, tt)
ascends_with k (j ∷ js) up = go (k == j) refl (nat_lt k j) refl (ascends_with k js up.1)
  where
    go : (a : Bool) → (k == j) ≡ a → (b : Bool) → nat_lt k j ≡ b → AreRising (with_position k js) → AreRising (cond a (j ∷ js) (cond b (k ∷ j ∷ js) (j ∷ with_position k js)))
    go true e b f rest = up
    go false e true f rest = let low : k < j = grind (arith, f) in ((low, each_more (λ y. j < y) (λ y. k < y) js (λ y h. omega (arith, low, h)) up.0), up)
    go false e false f rest = let high : j < k = grind (arith, e, f) in (Each-with (λ y. j < y) k js high up.0, rest)

pub ascends_as : (k : ℕ) (js ks : List ℕ) → ks ≡ with_position k js → AreRising js → AreRising ks
ascends_as k js ks e up = rw e (ascends_with k js up)

pub ascends_with_all : (js ks : List ℕ) → AreRising js → AreRising (with_positions js ks)
ascends_with_all js [] up = up
ascends_with_all js (k ∷ ks) up = ascends_with_all (with_position k js) ks (ascends_with k js up)

-- what a search answers at ascending positions
with_position_searched : (k : ℕ) (js : List ℕ) (r : Result ℕ ℕ) → AreRising js → IsBinarySearchResult (λ y. nat_cmp y k) js r →
    MatchResult r (λ i. with_position k js ≡ js) (λ i. with_position k js ≡ insert js i k)
with_position_searched k js r up at = go r (searched js k r at (rise js up))
  where
    go : (r : Result ℕ ℕ) → MatchResult r (λ i. (i < length js) × (get_or js i 0 ≡ k)) (λ i. (i ≤ length js) × ((m : ℕ) → m < i → get_or js m 0 < k) × ((m : ℕ) → i ≤ m → m < length js → k < get_or js m 0)) →
        MatchResult r (λ i. with_position k js ≡ js) (λ i. with_position k js ≡ insert js i k)
    go (Ok i) h = found k js i up h.0 h.1
    go (Err i) h = missing k js i h.0 h.1 h.2

pub searched_found : (k : ℕ) (js : List ℕ) (r : Result ℕ ℕ) → AreRising js → IsBinarySearchResult (λ y. nat_cmp y k) js r → IfOk r (λ i. with_position k js ≡ js)
searched_found k js r up at = go r (with_position_searched k js r up at)
  where
    go : (r : Result ℕ ℕ) → MatchResult r (λ i. with_position k js ≡ js) (λ i. with_position k js ≡ insert js i k) → IfOk r (λ i. with_position k js ≡ js)
    go (Ok i) h = h
    go (Err i) h = tt

pub searched_missing : (k : ℕ) (js : List ℕ) (r : Result ℕ ℕ) → AreRising js → IsBinarySearchResult (λ y. nat_cmp y k) js r → IfErr r (λ i. insert js i k ≡ with_position k js)
searched_missing k js r up at = go r (with_position_searched k js r up at)
  where
    go : (r : Result ℕ ℕ) → MatchResult r (λ i. with_position k js ≡ js) (λ i. with_position k js ≡ insert js i k) → IfErr r (λ i. insert js i k ≡ with_position k js)
    go (Ok i) h = tt
    go (Err i) h = sym h

-- a position above all, by the last of them
pub above_all : (k : ℕ) (js : List ℕ) (i : ℕ) → AreRising js → suc i ≡ length js → get_or js i 0 < k → Each (λ j. j < k) js
above_all k [] i up e l = tt
above_all k (j ∷ []) zero up e l = (l, tt)
above_all k (j ∷ []) (suc i) up e l = absurd (omega (arith, e))
above_all k (j ∷ x ∷ xs) zero up e l = absurd (omega (arith, e))
above_all k (j ∷ x ∷ xs) (suc i) up e l =
    let rest : Each (λ y. y < k) (x ∷ xs) = above_all k (x ∷ xs) i up.1 (omega (arith, e)) l in
    let low : j < x = up.0.0 in
    let high : x < k = rest.0 in
    (omega (arith, low, high), rest)

pub position_above : (k : ℕ) (js : List ℕ) → Each (λ j. j < k) js → with_position k js ≡ js ++ k ∷ []
position_above k [] h = refl
position_above k (j ∷ js) h =
    let low : j < k = h.0 in
    let ih : with_position k js ≡ js ++ k ∷ [] = position_above k js h.1 in
    grind (arith, low, ih)

-- the next position of a list
pub with_positions_next : (js ks : List ℕ) (i : ℕ) → i < length ks → with_positions (with_position (get_or ks i 0) js) (drop (i + 1) ks) ≡ with_positions js (drop i ks)
with_positions_next js ks i l = rw (add-one i) (sym (ap (with_positions js) (drop-cons ks i 0 l)))

-- those before a place, by the last of them
pub below_place : (k : ℕ) (js : List ℕ) (n m : ℕ) → AreRising js → n ≤ length js → get_or js (n - 1) 0 < k → m < n → get_or js m 0 < k
below_place k js n m up within low l =
    let r = rise js up m (n - 1) (omega (arith, l)) (omega (arith, within, l)) in
    omega (arith, r, low)
