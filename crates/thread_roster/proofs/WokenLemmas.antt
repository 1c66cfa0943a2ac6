-- The slots of threads that go on come into the queue.
use Rattle.std.proofs.Common.{◌≡◌, ◌≢◌, ◌∙◌, sym, ap, refl, subst, ℕ, ◌<◌, ◌+◌, zero, suc, length, drop, get_or, add-one, drop-cons, append_assoc, append-nil, ◌⊎◌, inl, inr, List, [], ◌∷◌, ◌++◌, Bool, true, false, cond, Some}
use Rattle.std.specs.Prelude.{Contains, ◌==◌}
use Rattle.std.proofs.lemmas.Bool.Decides.{Decides-eqb as nat_decides}
use Rattle.thread_roster.specs.declared.mode.Event.{Event}
use Rattle.tree_node.specs.Each.{Each}
use Rattle.tree_node.proofs.ClassLemmas.{Contains-cons_cases, Contains-head, Contains-tail}
use Rattle.thread_roster.specs.Slots.{Slot, wake_slot_at, awaits_in, awaits_at, woken_at, woken}
use Rattle.thread_roster.proofs.WakeLemmas.{IsAwaitingAt}

there_awaits : {V : Type 0} (x : Event) (slots : List (Slot V)) (k : ℕ) → IsAwaitingAt slots k x → awaits_at x slots k ≡ true
there_awaits x [] k s = cc
there_awaits {V} x (o ∷ slots) zero (h, at, is) =
    let same : o ≡ Some h = cc in
    ap (λ (p : Slot V). awaits_in x p) same ∙ is
there_awaits x (o ∷ slots) (suc k) s = there_awaits x slots k s

awaits_after : {V : Type 0} (x : Event) (slots : List (Slot V)) (k j : ℕ) → IsAwaitingAt slots j x → j ≢ k → IsAwaitingAt (wake_slot_at x slots k) j x
awaits_after x [] k j s differs = s
awaits_after x (o ∷ slots) zero zero s differs = absurd (differs refl)
awaits_after x (o ∷ slots) zero (suc j) s differs = s
awaits_after x (o ∷ slots) (suc k) zero s differs = s
awaits_after x (o ∷ slots) (suc k) (suc j) s differs = awaits_after x slots k j s (λ e. differs (ap suc e))

-- each key of a thread that waits is there
pub woken_all : {V : Type 0} (x : Event) (slots : List (Slot V)) (keys : List ℕ) (j : ℕ) → IsAwaitingAt slots j x → Contains keys j → Contains (woken x slots keys) j
woken_all x slots [] j s c = c
woken_all {V} x slots (k ∷ keys) j s c =
    go (awaits_at x slots k) refl (place (λ differs d. woken_all x (wake_slot_at x slots k) keys j (awaits_after x slots k j s differs) d) (Contains-cons_cases k j keys c))
  where
    others : List ℕ
    others = woken x (wake_slot_at x slots k) keys

    later : (j ≢ k → Contains keys j → Contains others j) → (b : Bool) → (k == j) ≡ b → Contains keys j → (k ≡ j) ⊎ Contains others j
    later rest true e d = inl ((nat_decides k j).0 e)
    later rest false e d = inr (rest (λ same. let yes : (k == j) ≡ true = (nat_decides k j).1 (sym same) in cc) d)

    place : (j ≢ k → Contains keys j → Contains others j) → (k ≡ j) ⊎ Contains keys j → (k ≡ j) ⊎ Contains others j
    place rest (inl same) = inl same
    place rest (inr d) = later rest (k == j) refl d

    go : (b : Bool) → awaits_at x slots k ≡ b → (k ≡ j) ⊎ Contains others j → Contains (cond b (k ∷ []) [] ++ others) j
    go true e (inl same) = subst (Contains (k ∷ others)) same (Contains-head k others)
    go true e (inr d) = Contains-tail k j others d
    go false e (inl same) =
        let yes : awaits_at x slots k ≡ true = there_awaits x slots k (subst (λ (i : ℕ). IsAwaitingAt slots i x) (sym same) s) in cc
    go false e (inr d) = d

-- they are places, as the keys are
pub woken_inside : {V : Type 0} (x : Event) (slots : List (Slot V)) (keys : List ℕ) (n : ℕ) → Each (λ (j : ℕ). j < n) keys → Each (λ (j : ℕ). j < n) (woken x slots keys)
woken_inside x slots [] n h = tt
woken_inside {V} x slots (k ∷ keys) n h = go (awaits_at x slots k) (woken_inside x (wake_slot_at x slots k) keys n h.1)
  where
    others : List ℕ
    others = woken x (wake_slot_at x slots k) keys

    go : (b : Bool) → Each (λ (j : ℕ). j < n) others → Each (λ (j : ℕ). j < n) (cond b (k ∷ []) [] ++ others)
    go true rest = (h.0, rest)
    go false rest = rest

-- the next key
pub woken_next : {V : Type 0} (x : Event) (slots now : List (Slot V)) (queue more keys : List ℕ) (i d : ℕ) → i < length keys → now ≡ wake_slot_at x slots (get_or keys i d) → more ≡ queue ++ woken_at x slots (get_or keys i d) →
    more ++ woken x now (drop (i + 1) keys) ≡ queue ++ woken x slots (drop i keys)
woken_next {V} x slots now queue more keys i d below e f =
    rw (e, f, add-one)
    (append_assoc queue (woken_at x slots (get_or keys i d)) (woken x (wake_slot_at x slots (get_or keys i d)) (drop (suc i) keys))
    ∙ sym (ap (λ (l : List ℕ). queue ++ woken x slots l) (drop-cons keys i d below)))

pub woken_one : {V : Type 0} (x : Event) (slots : List (Slot V)) (queue now : List ℕ) (k : ℕ) → awaits_at x slots k ≡ true → now ≡ queue ++ k ∷ [] → now ≡ queue ++ woken_at x slots k
woken_one x slots queue now k e f = rw e f

pub woken_none : {V : Type 0} (x : Event) (slots : List (Slot V)) (queue : List ℕ) (k : ℕ) → awaits_at x slots k ≡ false → queue ≡ queue ++ woken_at x slots k
woken_none x slots queue k e = rw e (sym (append-nil queue))
