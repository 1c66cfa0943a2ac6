-- What slots, names, queue, keys and numbers keep together.
use Rattle.std.proofs.Common.{arith, ◌≡◌, ◌≢◌, ◌∙◌, sym, ap, refl, subst, ℕ, ◌+◌, zero, suc, length, map, ◌⊎◌, inl, inr, List, [], ◌∷◌, ◌++◌, Bool, true, false, cond, Some, None}
use Rattle.std.specs.Prelude.{Option, slice_set, slice_get, Contains, ◌<◌, ◌-◌, IfSome, IfNone, IsSome}
use Rattle.std.proofs.lemmas.List.Elements.{Contains-push, Contains-append_left, Contains-append_right}
use Rattle.tree_node.specs.declared.names.VarName.{VarName}
use Rattle.tree_node.specs.declared.names.ThreadName.{ThreadName}
use Rattle.tree_node.specs.Each.{Each}
use Rattle.tree_node.specs.Store.{equal_var}
use Rattle.tree_node.proofs.ClassLemmas.{Contains-cons_cases, Contains-head, Contains-tail}
use Rattle.tree_node.proofs.OrderLemmas.{Each-member}
use Rattle.thread_roster.specs.Parking.{HasMoreKeys}
use Rattle.thread_roster.specs.declared.mode.Event.{Event}
use Rattle.thread_roster.specs.declared.mode.Event.TheVariants as event
use Rattle.thread_roster.specs.declared.mode.Mode.{Mode}
use Rattle.thread_roster.specs.declared.mode.Mode.TheVariants as mode
use Rattle.thread_roster.specs.declared.slot.Occupant.{Occupant}
use Rattle.thread_roster.specs.Invariant.{IsConsistent}
use Rattle.thread_roster.specs.Slots.{Slot, IsNotSlotOf, IsSlotOf, IsOnlyAt, IsPlaced, ArePlaced, slot_in, with_slot, IsModeAt, AreInside, wakes, wake_by, wake_slot, wake_slots, total, one, weight, waiting, entry, threads_in, HasLeft, IsRest, IsNext, value_there, without_slot, woken}
use Rattle.thread_roster.specs.Threads.{is_waiting, wake_all, determine_all, set_mode, set_value, AllWait, IsRunnable}
use Rattle.tree_node.specs.Assoc.{value_of, without_key}
use Rattle.tree_node.specs.State.{equal_thread}
use Rattle.thread_roster.proofs.NameLemmas.{is_same, is_other, name_cases}
use Rattle.thread_roster.proofs.SlotLemmas.{placed_set, placed_end, placed_born, total_set, total_end, total_born, only_inside, only_at, held_at, lacking, found, placed_there, has_place, mode_put, value_put, thread_ended, thread_born, living_le}
use Rattle.thread_roster.proofs.WakeLemmas.{IsAwaitingAt, mode_in, never_waits, roused_all, living_roused, threads_bound, threads_determined}
use Rattle.thread_roster.proofs.WokenLemmas.{woken_all, woken_inside}
use Rattle.thread_roster.proofs.QueueLemmas.{stays, each_without}
use Rattle.thread_roster.proofs.TableLemmas.{Filed}
use Rattle.tree_node.proofs.EachLemmas.{each_append}
use Rattle.std.proofs.lemmas.List.{length_push}

abbrev pub Waiting : Type 0
Waiting = Event → List ℕ

pub kept_none : {V : Type 0} (slots : List (Slot V)) (by_name : Filed) (queue : List ℕ) (waiting_keys : Waiting) → slots ≡ [] → by_name ≡ [] → queue ≡ [] → ((e : Event) → waiting_keys e ≡ []) → IsConsistent slots by_name queue waiting_keys 0 0
kept_none {V} slots by_name queue waiting_keys a b c none = rw (a, b, c) (empty)
  where
    empty : IsConsistent {V = V} [] [] [] waiting_keys 0 0
    empty = record {
      placed = λ n. tt;
      queued = λ j h. cc;
      parked = λ j x m h w. cc;
      inside = tt;
      keys_inside = λ x. subst (λ (js : List ℕ). AreInside {X = Slot V} [] js) (sym (none x)) tt;
      alive = refl;
      waiters = refl;
    }

-- ---- the queue alone

-- the first slot leaves the queue, whose thread does not go on
pub kept_pop : {V : Type 0} (slots : List (Slot V)) (by_name : Filed) (queue rest : List ℕ) (waiting_keys : Waiting) (a b i : ℕ) → IsConsistent slots by_name queue waiting_keys a b → queue ≡ i ∷ rest → (IsModeAt slots i mode.Runs → ⊥) → IsConsistent slots by_name rest waiting_keys a b
kept_pop {V} slots by_name queue rest waiting_keys a b i h e still = record {
  placed = h.placed;
  parked = h.parked;
  keys_inside = h.keys_inside;
  queued = λ j s. go j s (Contains-cons_cases i j rest (subst (λ (q : List ℕ). Contains q j) e (h.queued j s)));
  inside = (subst (λ (q : List ℕ). AreInside slots q) e h.inside).1;
  alive = h.alive;
  waiters = h.waiters;
}
  where
    go : (j : ℕ) → IsModeAt slots j mode.Runs → (i ≡ j) ⊎ Contains rest j → Contains rest j
    go j s (inl same) = absurd (still (subst (λ (k : ℕ). IsModeAt slots k mode.Runs) (sym same) s))
    go j s (inr c) = c

-- the first slot goes behind the others
pub kept_rotated : {V : Type 0} (slots : List (Slot V)) (by_name : Filed) (queue rest now : List ℕ) (waiting_keys : Waiting) (a b i : ℕ) → IsConsistent slots by_name queue waiting_keys a b → queue ≡ i ∷ rest → now ≡ rest ++ i ∷ [] → IsConsistent slots by_name now waiting_keys a b
kept_rotated {V} slots by_name queue rest now waiting_keys a b i h e f = subst (λ (q : List ℕ). IsConsistent slots by_name q waiting_keys a b) (sym f) (record {
  placed = h.placed;
  parked = h.parked;
  keys_inside = h.keys_inside;
  queued = λ j s. go j (Contains-cons_cases i j rest (subst (λ (q : List ℕ). Contains q j) e (h.queued j s)));
  inside = let all : AreInside slots (i ∷ rest) = subst (λ (q : List ℕ). AreInside slots q) e h.inside in each_append _ rest (i ∷ []) all.1 (all.0, tt);
  alive = h.alive;
  waiters = h.waiters;
})
  where
    go : (j : ℕ) → (i ≡ j) ⊎ Contains rest j → Contains (rest ++ i ∷ []) j
    go j (inl same) = subst (λ (k : ℕ). Contains (rest ++ i ∷ []) k) same (Contains-push rest i)
    go j (inr c) = Contains-append_left rest (i ∷ []) j c

-- ---- waking

map_length : {V : Type 0} (x : Event) (slots : List (Slot V)) → length (map (wake_slot x) slots) ≡ length slots
map_length x [] = refl
map_length x (o ∷ slots) = ap suc (map_length x slots)

inside_same : {X Y : Type 0} (slots : List X) (now : List Y) (js : List ℕ) → length now ≡ length slots → AreInside slots js → AreInside now js
inside_same slots now js e h = subst (λ (n : ℕ). Each (λ (j : ℕ). j < n) js) (sym e) h

lacks_map : {V : Type 0} (x : Event) (n : ThreadName) (slots : List (Slot V)) → Each (IsNotSlotOf n) slots → Each (IsNotSlotOf n) (map (wake_slot x) slots)
lacks_map x n [] h = tt
lacks_map x n (None ∷ slots) h = (tt, lacks_map x n slots h.1)
lacks_map x n (Some e ∷ slots) h = (h.0, lacks_map x n slots h.1)

only_map : {V : Type 0} (x : Event) (n : ThreadName) (slots : List (Slot V)) (i : ℕ) → IsOnlyAt n slots i → IsOnlyAt n (map (wake_slot x) slots) i
only_map x n [] i h = h
only_map x n (None ∷ slots) zero h = absurd h.0
only_map x n (Some e ∷ slots) zero h = (h.0, lacks_map x n slots h.1)
only_map x n (None ∷ slots) (suc i) h = (tt, only_map x n slots i h.1)
only_map x n (Some e ∷ slots) (suc i) h = (h.0, only_map x n slots i h.1)

placed_map : {V : Type 0} (x : Event) (slots : List (Slot V)) (slot : ThreadName → Option ℕ) → ArePlaced slots slot → ArePlaced (map (wake_slot x) slots) slot
placed_map {V} x slots slot h n = go (slot n) (h n)
  where
    go : (o : Option ℕ) → IsPlaced slots n o → IsPlaced (map (wake_slot x) slots) n o
    go None k = lacks_map x n slots k
    go (Some i) k = only_map x n slots i k

-- a roused thread: it can go on now and waited, or stands as before
wake_cases : (x : Event) (m : Mode) → ((wakes x m ≡ true) × (wake_by x m ≡ mode.Runs)) ⊎ ((wake_by x m ≡ m) × (wakes x m ≡ false))
wake_cases x m = go (wakes x m) refl
  where
    go : (b : Bool) → wakes x m ≡ b → ((wakes x m ≡ true) × (cond b mode.Runs m ≡ mode.Runs)) ⊎ ((cond b mode.Runs m ≡ m) × (wakes x m ≡ false))
    go true e = inl (e, refl)
    go false e = inr (refl, e)

-- how a roused slot stood
stood : {V : Type 0} (x : Event) (slots : List (Slot V)) (j : ℕ) (m : Mode) → IsModeAt (map (wake_slot x) slots) j m → (old : Mode) × IsModeAt slots j old × (wake_by x old ≡ m)
stood x [] j m h = cc
stood x (None ∷ slots) zero m h = cc
stood {V} x (Some e ∷ slots) zero m h =
    let same : (Some (record e { mode = wake_by x e.mode })) ≡ Some h.0 = cc in
    (e.mode, (e, refl, refl), ap (λ (o : Slot V). mode_in o) same ∙ h.2)
stood x (o ∷ slots) (suc j) m h = stood x slots j m h

-- the keys of each stay, or it happened and has none
abbrev pub AreLeft : Event → Waiting → Waiting → Type 0
AreLeft x old left = (y : Event) → (left y ≡ old y) ⊎ ((left y ≡ []) × (x ≡ y))

kept_map : {V : Type 0} (x : Event) (slots : List (Slot V)) (by_name : Filed) (queue behind : List ℕ) (waiting_keys left : Waiting) (a b c : ℕ) → IsConsistent slots by_name queue waiting_keys a b → ((j : ℕ) → IsAwaitingAt slots j x → Contains behind j) → AreInside slots behind →
    AreLeft x waiting_keys left → c ≡ total waiting (map (wake_slot x) slots) → IsConsistent (map (wake_slot x) slots) by_name (queue ++ behind) left a c
kept_map {V} x slots by_name queue behind waiting_keys left a b c h among inner rest counted = record {
  placed = placed_map x slots (slot_in by_name) h.placed;
  queued = λ j s. goes j (stood x slots j mode.Runs s);
  parked = λ j y m s w. waits j y m (stood x slots j m s) w;
  inside = inside_same slots (map (wake_slot x) slots) (queue ++ behind) (map_length x slots) (each_append _ queue behind h.inside inner);
  keys_inside = λ y. some y (rest y);
  alive = h.alive ∙ sym (living_roused x slots);
  waiters = counted;
}
  where
    goes : (j : ℕ) → (old : Mode) × IsModeAt slots j old × (wake_by x old ≡ mode.Runs) → Contains (queue ++ behind) j
    goes j (old, at, is) = go (wake_cases x old)
      where
        go : ((wakes x old ≡ true) × (wake_by x old ≡ mode.Runs)) ⊎ ((wake_by x old ≡ old) × (wakes x old ≡ false)) → Contains (queue ++ behind) j
        go (inl w) = Contains-append_right queue behind j (among j (at.0, at.1, ap (λ (k : Mode). wakes x k) at.2 ∙ w.0))
        go (inr s) = Contains-append_left queue behind j (h.queued j (at.0, at.1, at.2 ∙ (sym s.0 ∙ is)))

    waits : (j : ℕ) (y : Event) (m : Mode) → (old : Mode) × IsModeAt slots j old × (wake_by x old ≡ m) → wakes y m ≡ true → Contains (left y) j
    waits j y m (old, at, is) w = go (wake_cases x old)
      where
        there : (left y ≡ waiting_keys y) ⊎ ((left y ≡ []) × (x ≡ y)) → wakes y old ≡ true → wakes x old ≡ false → Contains (left y) j
        there (inl e) k l = subst (λ (js : List ℕ). Contains js j) (sym e) (h.parked j y old at k)
        there (inr e) k l = let both : true ≡ false = sym k ∙ (ap (λ (z : Event). wakes z old) (sym e.1) ∙ l) in cc

        go : ((wakes x old ≡ true) × (wake_by x old ≡ mode.Runs)) ⊎ ((wake_by x old ≡ old) × (wakes x old ≡ false)) → Contains (left y) j
        go (inl s) = let both : true ≡ false = sym w ∙ (ap (wakes y) (sym is ∙ s.1) ∙ never_waits y) in cc
        go (inr s) = there (rest y) (subst (λ (k : Mode). wakes y k ≡ true) (sym is ∙ s.0) w) s.1

    some : (y : Event) → (left y ≡ waiting_keys y) ⊎ ((left y ≡ []) × (x ≡ y)) → AreInside (map (wake_slot x) slots) (left y)
    some y (inl e) = subst (λ (js : List ℕ). AreInside (map (wake_slot x) slots) js) (sym e) (inside_same slots (map (wake_slot x) slots) (waiting_keys y) (map_length x slots) (h.keys_inside y))
    some y (inr e) = subst (λ (js : List ℕ). AreInside (map (wake_slot x) slots) js) (sym e.0) tt

-- all that waited for this are roused
pub slots_roused : {V : Type 0} (x : Event) (slots now : List (Slot V)) (by_name : Filed) (queue js : List ℕ) (waiting_keys : Waiting) (a b : ℕ) → IsConsistent slots by_name queue waiting_keys a b → js ≡ waiting_keys x → now ≡ wake_slots x slots js →
    now ≡ map (wake_slot x) slots
slots_roused x slots now by_name queue js waiting_keys a b h e f =
    f ∙ (ap (λ (k : List ℕ). wake_slots x slots k) e ∙ roused_all x slots (waiting_keys x) (λ j s. h.parked j x s.0.mode (s.0, s.1, refl) s.2))

pub kept_roused : {V : Type 0} (x : Event) (slots now : List (Slot V)) (by_name : Filed) (queue more js : List ℕ) (waiting_keys left : Waiting) (a b c : ℕ) → IsConsistent slots by_name queue waiting_keys a b → js ≡ waiting_keys x → more ≡ queue ++ woken x slots js →
    now ≡ wake_slots x slots js → AreLeft x waiting_keys left → c ≡ total waiting now → IsConsistent now by_name more left a c
kept_roused {V} x slots now by_name queue more js waiting_keys left a b c h e m f rest counted =
    let all : now ≡ map (wake_slot x) slots = slots_roused x slots now by_name queue js waiting_keys a b h e f in
    rw (all, m)
    (kept_map x slots by_name queue (woken x slots js) waiting_keys left a b c h among (woken_inside x slots js (length slots) (subst (λ (l : List ℕ). AreInside slots l) (sym e) (h.keys_inside x))) rest
    (counted ∙ ap (λ (l : List (Slot V)). total waiting l) all))
  where
    among : (j : ℕ) → IsAwaitingAt slots j x → Contains (woken x slots js) j
    among j s = woken_all x slots js j s (subst (λ (l : List ℕ). Contains l j) (sym e) (h.parked j x s.0.mode (s.0, s.1, refl) s.2))

-- ---- one slot changes

stands_set : {V : Type 0} (slots : List (Slot V)) (i j : ℕ) (e : Occupant V) (m : Mode) → IsModeAt (slice_set slots i (Some e)) j m → ((j ≡ i) × (e.mode ≡ m)) ⊎ IsModeAt slots j m
stands_set [] i j e m h = inr h
stands_set {V} (o ∷ slots) zero zero e m h =
    let same : Some e ≡ Some h.0 = cc in
    inl (refl, ap (λ (p : Slot V). mode_in p) same ∙ h.2)
stands_set (o ∷ slots) zero (suc j) e m h = inr h
stands_set (o ∷ slots) (suc i) zero e m h = inr h
stands_set {V} (o ∷ slots) (suc i) (suc j) e m h = go (stands_set slots i j e m h)
  where
    go : ((j ≡ i) × (e.mode ≡ m)) ⊎ IsModeAt slots j m → ((suc j ≡ suc i) × (e.mode ≡ m)) ⊎ IsModeAt (o ∷ slots) (suc j) m
    go (inl s) = inl (ap suc s.0, s.1)
    go (inr s) = inr s

set_length : {X : Type 0} (xs : List X) (i : ℕ) (x : X) → length (slice_set xs i x) ≡ length xs
set_length [] i x = refl
set_length (y ∷ xs) zero x = refl
set_length (y ∷ xs) (suc i) x = ap suc (set_length xs i x)

inside_set : {X : Type 0} (xs : List X) (i : ℕ) (x : X) (js : List ℕ) → AreInside xs js → AreInside (slice_set xs i x) js
inside_set xs i x js h = inside_same xs (slice_set xs i x) js (set_length xs i x) h

-- a thread stands otherwise: where it can go on it is in the queue, where it waits for a variable it is among the keys
kept_set : {V : Type 0} (slots : List (Slot V)) (by_name : Filed) (queue more : List ℕ) (waiting_keys left : Waiting) (a b c : ℕ) (n : ThreadName) (i : ℕ) (old new : Occupant V) → IsConsistent slots by_name queue waiting_keys a b →
    slot_in by_name n ≡ Some i → slice_get slots i ≡ Some (Some old) → new.name ≡ n → ((j : ℕ) → Contains queue j → Contains more j) → ((y : Event) (j : ℕ) → Contains (waiting_keys y) j → Contains (left y) j) →
    (new.mode ≡ mode.Runs → Contains more i) → ((x : Event) → wakes x new.mode ≡ true → Contains (left x) i) →
    AreInside slots more → ((y : Event) → AreInside slots (left y)) → c + weight old.mode ≡ b + weight new.mode → IsConsistent (slice_set slots i (Some new)) by_name more left a c
kept_set {V} slots by_name queue more waiting_keys left a b c n i old new h e at is longer further runs waits inside keyed counted = record {
  placed = placed_set n slots (slot_in by_name) i new h.placed e is;
  queued = λ j s. goes j (stands_set slots i j new mode.Runs s);
  parked = λ j x m s w. rests j x m (stands_set slots i j new m s) w;
  inside = inside_set slots i (Some new) more inside;
  keys_inside = λ y. inside_set slots i (Some new) (left y) (keyed y);
  alive = let all = h.alive in let same = total_set one slots i old new at in omega (arith, all, same);
  waiters = let all = h.waiters in let same = total_set waiting slots i old new at in omega (arith, all, same, counted);
}
  where
    goes : (j : ℕ) → ((j ≡ i) × (new.mode ≡ mode.Runs)) ⊎ IsModeAt slots j mode.Runs → Contains more j
    goes j (inl s) = subst (λ (k : ℕ). Contains more k) (sym s.0) (runs s.1)
    goes j (inr s) = longer j (h.queued j s)

    rests : (j : ℕ) (x : Event) (m : Mode) → ((j ≡ i) × (new.mode ≡ m)) ⊎ IsModeAt slots j m → wakes x m ≡ true → Contains (left x) j
    rests j x m (inl s) w = subst (λ (k : ℕ). Contains (left x) k) (sym s.0) (waits x (subst (λ (k : Mode). wakes x k ≡ true) (sym s.1) w))
    rests j x m (inr s) w = further x j (h.parked j x m s w)

-- one more key at some variables, of a slot that is there
keyed_more : {V : Type 0} (slots : List (Slot V)) (by_name : Filed) (queue : List ℕ) (waiting_keys left : Waiting) (a b : ℕ) (n : ThreadName) (i : ℕ) → IsConsistent slots by_name queue waiting_keys a b → slot_in by_name n ≡ Some i →
    HasMoreKeys waiting_keys i left → (y : Event) → AreInside slots (left y)
keyed_more {V} slots by_name queue waiting_keys left a b n i h e more y = from_all (left y) (λ j k. inside j (more.only y j k))
  where
    below : i < length slots
    below = only_inside slots n i (only_at slots (slot_in by_name) n i h.placed e)

    inside : (j : ℕ) → Contains (waiting_keys y) j ⊎ (j ≡ i) → j < length slots
    inside j (inl k) = Each-member (λ (l : ℕ). l < length slots) (waiting_keys y) j (h.keys_inside y) k
    inside j (inr q) = subst (λ (l : ℕ). l < length slots) (sym q) below

    from_all : (js : List ℕ) → ((j : ℕ) → Contains js j → j < length slots) → AreInside slots js
    from_all [] f = tt
    from_all (j ∷ js) f = (f j (Contains-head j js), from_all js (λ l k. f l (Contains-tail j l js k)))

-- keys that are there besides change nothing
pub kept_keys : {V : Type 0} (slots : List (Slot V)) (by_name : Filed) (queue : List ℕ) (waiting_keys left : Waiting) (a b : ℕ) (n : ThreadName) (i : ℕ) → IsConsistent slots by_name queue waiting_keys a b → slot_in by_name n ≡ Some i →
    HasMoreKeys waiting_keys i left → IsConsistent slots by_name queue left a b
kept_keys slots by_name queue waiting_keys left a b n i h e more = record {
  placed = h.placed;
  queued = h.queued;
  parked = λ j x m s w. more.kept x j (h.parked j x m s w);
  inside = h.inside;
  keys_inside = keyed_more slots by_name queue waiting_keys left a b n i h e more;
  alive = h.alive;
  waiters = h.waiters;
}

-- it waits for something in a variable, or in several, and its slot is one more key at each
pub kept_parked : {V : Type 0} (slots now : List (Slot V)) (by_name : Filed) (queue : List ℕ) (waiting_keys left : Waiting) (a b c : ℕ) (n : ThreadName) (i : ℕ) (old : Occupant V) (m : Mode) → IsConsistent slots by_name queue waiting_keys a b →
    slot_in by_name n ≡ Some i → slice_get slots i ≡ Some (Some old) → old.name ≡ n → now ≡ slice_set slots i (Some (record old { mode = m })) →
    is_waiting m ≡ true → HasMoreKeys waiting_keys i left → ((e : Event) → wakes e m ≡ true → Contains (left e) i) → c + weight old.mode ≡ b + 1 → IsConsistent now by_name queue left a c
kept_parked {V} slots now by_name queue waiting_keys left a b c n i old m h e at is f waits more there counted =
    subst (λ (l : List (Slot V)). IsConsistent l by_name queue left a c) (sym f)
    (kept_set slots by_name queue queue waiting_keys left a b c n i old (record old { mode = m }) h e at is (λ j k. k) (λ y j k. more.kept y j k) (λ r. absurd (still r)) there h.inside (keyed_more slots by_name queue waiting_keys left a b n i h e more)
    (counted ∙ ap (λ (t : Bool). b + cond t 1 0) (sym waits)))
  where
    still : m ≡ mode.Runs → ⊥
    still r = let both : true ≡ false = sym waits ∙ ap is_waiting r in cc

-- it waits for something else
pub kept_waits_for : {V : Type 0} (slots now : List (Slot V)) (by_name : Filed) (queue : List ℕ) (waiting_keys : Waiting) (a b c : ℕ) (n : ThreadName) (i : ℕ) (old : Occupant V) (m : Mode) → IsConsistent slots by_name queue waiting_keys a b →
    slot_in by_name n ≡ Some i → slice_get slots i ≡ Some (Some old) → old.name ≡ n → now ≡ slice_set slots i (Some (record old { mode = m })) → m ≢ mode.Runs → ((x : Event) → wakes x m ≡ true → ⊥) → c + weight old.mode ≡ b + weight m →
    IsConsistent now by_name queue waiting_keys a c
kept_waits_for {V} slots now by_name queue waiting_keys a b c n i old m h e at is f still other counted =
    subst (λ (l : List (Slot V)). IsConsistent l by_name queue waiting_keys a c) (sym f)
    (kept_set slots by_name queue queue waiting_keys waiting_keys a b c n i old (record old { mode = m }) h e at is (λ j k. k) (λ y j k. k) (λ r. absurd (still r)) (λ x w. absurd (other x w)) h.inside h.keys_inside counted)

-- it goes on, and its slot is in the queue
pub kept_runs : {V : Type 0} (slots now : List (Slot V)) (by_name : Filed) (queue more : List ℕ) (waiting_keys : Waiting) (a b c : ℕ) (n : ThreadName) (i : ℕ) (old : Occupant V) → IsConsistent slots by_name queue waiting_keys a b →
    slot_in by_name n ≡ Some i → slice_get slots i ≡ Some (Some old) → old.name ≡ n → now ≡ slice_set slots i (Some (record old { mode = mode.Runs })) → more ≡ queue ++ i ∷ [] → c + weight old.mode ≡ b → IsConsistent now by_name more waiting_keys a c
kept_runs {V} slots now by_name queue more waiting_keys a b c n i old h e at is f g counted =
    subst (λ (l : List (Slot V)). IsConsistent l by_name more waiting_keys a c) (sym f)
    (subst (λ (q : List ℕ). IsConsistent (slice_set slots i (Some (record old { mode = mode.Runs }))) by_name q waiting_keys a c) (sym g)
    (kept_set slots by_name queue (queue ++ i ∷ []) waiting_keys waiting_keys a b c n i old (record old { mode = mode.Runs }) h e at is
    (λ j k. Contains-append_left queue (i ∷ []) j k) (λ y j k. k) (λ r. Contains-push queue i) (λ x w. let both : true ≡ false = sym w ∙ never_waits x in cc)
    (each_append (λ (j : ℕ). j < length slots) queue (i ∷ []) h.inside (only_inside slots n i (only_at slots (slot_in by_name) n i h.placed e), tt)) h.keys_inside (omega (arith, counted))))

-- its value is another
pub kept_value : {V : Type 0} (slots : List (Slot V)) (by_name : Filed) (queue : List ℕ) (waiting_keys : Waiting) (a b : ℕ) (n : ThreadName) (i : ℕ) (old : Occupant V) (v : V) → IsConsistent slots by_name queue waiting_keys a b →
    slot_in by_name n ≡ Some i → slice_get slots i ≡ Some (Some old) → old.name ≡ n → IsConsistent (slice_set slots i (Some (record old { value = v }))) by_name queue waiting_keys a b
kept_value {V} slots by_name queue waiting_keys a b n i old v h e at is =
    kept_set slots by_name queue queue waiting_keys waiting_keys a b b n i old (record old { value = v }) h e at is (λ j k. k) (λ y j k. k) (λ r. h.queued i (old, at, r)) (λ x w. h.parked i x old.mode (old, at, refl) w) h.inside h.keys_inside refl

-- ---- a thread ends

stands_none : {V : Type 0} (slots : List (Slot V)) (i j : ℕ) (m : Mode) → IsModeAt (slice_set slots i None) j m → IsModeAt slots j m
stands_none [] i j m h = h
stands_none (o ∷ slots) zero zero m h = cc
stands_none (o ∷ slots) zero (suc j) m h = h
stands_none (o ∷ slots) (suc i) zero m h = h
stands_none (o ∷ slots) (suc i) (suc j) m h = stands_none slots i j m h

pub kept_end : {V : Type 0} (slots now : List (Slot V)) (by_name rest : Filed) (queue : List ℕ) (waiting_keys : Waiting) (a b c d : ℕ) (n : ThreadName) (i : ℕ) (old : Occupant V) → IsConsistent slots by_name queue waiting_keys a b → slot_in by_name n ≡ Some i →
    slice_get slots i ≡ Some (Some old) → now ≡ slice_set slots i None → ((k : ThreadName) → slot_in rest k ≡ with_slot (slot_in by_name) n None k) → c + 1 ≡ a → d + weight old.mode ≡ b → IsConsistent now rest queue waiting_keys c d
kept_end {V} slots now by_name rest queue waiting_keys a b c d n i old h e at f g lived waited = subst (λ (l : List (Slot V)). IsConsistent l rest queue waiting_keys c d) (sym f) (record {
  placed = placed_end n slots (slot_in by_name) (slot_in rest) i h.placed e (g n ∙ rw (is_same n n refl) refl) (λ k differs. g k ∙ rw (is_other n k differs) refl);
  queued = λ j s. h.queued j (stands_none slots i j mode.Runs s);
  parked = λ j x m s w. h.parked j x m (stands_none slots i j m s) w;
  inside = inside_set slots i None queue h.inside;
  keys_inside = λ x. inside_set slots i None (waiting_keys x) (h.keys_inside x);
  alive = let all = h.alive in let less = total_end one slots i old at in omega (arith, all, less, lived);
  waiters = let all = h.waiters in let less = total_end waiting slots i old at in omega (arith, all, less, waited);
})

-- ---- a thread is born

stands_more : {V : Type 0} (slots : List (Slot V)) (w : Occupant V) (j : ℕ) (m : Mode) → IsModeAt (slots ++ Some w ∷ []) j m → ((j ≡ length slots) × (w.mode ≡ m)) ⊎ IsModeAt slots j m
stands_more {V} [] w zero m h =
    let same : Some w ≡ Some h.0 = cc in
    inl (refl, ap (λ (p : Slot V). mode_in p) same ∙ h.2)
stands_more [] w (suc j) m h = cc
stands_more (o ∷ slots) w zero m h = inr h
stands_more {V} (o ∷ slots) w (suc j) m h = go (stands_more slots w j m h)
  where
    go : ((j ≡ length slots) × (w.mode ≡ m)) ⊎ IsModeAt slots j m → ((suc j ≡ suc (length slots)) × (w.mode ≡ m)) ⊎ IsModeAt (o ∷ slots) (suc j) m
    go (inl s) = inl (ap suc s.0, s.1)
    go (inr s) = inr s

inside_more : {X : Type 0} (xs : List X) (x : X) (js : List ℕ) → AreInside xs js → AreInside (xs ++ x ∷ []) js
inside_more xs x [] h = tt
inside_more xs x (j ∷ js) h = let more = length_push xs x in let below = h.0 in (omega (arith, more, below), inside_more xs x js h.1)

pub kept_born : {V : Type 0} (slots now : List (Slot V)) (by_name more : Filed) (queue longer : List ℕ) (waiting_keys : Waiting) (a b c : ℕ) (n : ThreadName) (w : Occupant V) → IsConsistent slots by_name queue waiting_keys a b → slot_in by_name n ≡ None →
    w.name ≡ n → w.mode ≡ mode.Runs → now ≡ slots ++ Some w ∷ [] → ((k : ThreadName) → slot_in more k ≡ with_slot (slot_in by_name) n (Some (length slots)) k) → longer ≡ queue ++ length slots ∷ [] → c ≡ a + 1 → IsConsistent now more longer waiting_keys c b
kept_born {V} slots now by_name more queue longer waiting_keys a b c n w h none is runs f g q counted =
    rw (f, q) (record {
      placed = placed_born n slots (slot_in by_name) (slot_in more) w h.placed none (g n ∙ rw (is_same n n refl) refl) (λ k differs. g k ∙ rw (is_other n k differs) refl) is;
      queued = λ j s. goes j (stands_more slots w j mode.Runs s);
      parked = λ j x m s k. waits j x m (stands_more slots w j m s) k;
      inside = each_append _ queue (length slots ∷ []) (inside_more slots (Some w) queue h.inside) (let more = length_push slots (Some w) in omega (arith, more), tt);
      keys_inside = λ x. inside_more slots (Some w) (waiting_keys x) (h.keys_inside x);
      alive = let all = h.alive in let further = total_born one slots w in omega (arith, all, further, counted);
      waiters = let all = h.waiters in let further = total_born waiting slots w in let zero_weight : weight w.mode ≡ 0 = rw runs refl in omega (arith, all, further, zero_weight);
    })
  where
    goes : (j : ℕ) → ((j ≡ length slots) × (w.mode ≡ mode.Runs)) ⊎ IsModeAt slots j mode.Runs → Contains (queue ++ length slots ∷ []) j
    goes j (inl s) = subst (λ (k : ℕ). Contains (queue ++ length slots ∷ []) k) (sym s.0) (Contains-push queue (length slots))
    goes j (inr s) = Contains-append_left queue (length slots ∷ []) j (h.queued j s)

    waits : (j : ℕ) (x : Event) (m : Mode) → ((j ≡ length slots) × (w.mode ≡ m)) ⊎ IsModeAt slots j m → wakes x m ≡ true → Contains (waiting_keys x) j
    waits j x m (inl s) k = let both : true ≡ false = sym k ∙ (ap (wakes x) (sym s.1 ∙ runs) ∙ never_waits x) in cc
    waits j x m (inr s) k = h.parked j x m s k

-- ---- the slot that leaves the queue

put_there : {X : Type 0} (xs : List X) (i : ℕ) (x y : X) → slice_get (slice_set xs i x) i ≡ Some y → x ≡ y
put_there [] i x y e = cc
put_there (z ∷ xs) zero x y e = cc
put_there (z ∷ xs) (suc i) x y e = put_there xs i x y e

pub still_set : {V : Type 0} (slots now : List (Slot V)) (i : ℕ) (h : Occupant V) → now ≡ slice_set slots i (Some h) → h.mode ≢ mode.Runs → IsModeAt now i mode.Runs → ⊥
still_set {V} slots now i h f differs s =
    let same : Some h ≡ Some s.0 = put_there slots i (Some h) (Some s.0) (sym (ap (λ (l : List (Slot V)). slice_get l i) f) ∙ s.1) in
    differs (ap (λ (o : Slot V). mode_in o) same ∙ s.2)

pub still_none : {V : Type 0} (slots now : List (Slot V)) (i : ℕ) → now ≡ slice_set slots i None → IsModeAt now i mode.Runs → ⊥
still_none {V} slots now i f s = let same : None ≡ Some s.0 = put_there slots i None (Some s.0) (sym (ap (λ (l : List (Slot V)). slice_get l i) f) ∙ s.1) in cc

pub kept_left : {V : Type 0} (slots : List (Slot V)) (by_name : Filed) (queue rest : List ℕ) (waiting_keys : Waiting) (a b i : ℕ) → HasLeft i queue rest → (IsModeAt slots i mode.Runs → ⊥) → IsConsistent slots by_name queue waiting_keys a b →
    IsConsistent slots by_name rest waiting_keys a b
kept_left slots by_name queue rest waiting_keys a b i (inl same) still h = subst (λ (q : List ℕ). IsConsistent slots by_name q waiting_keys a b) (sym same) h
kept_left slots by_name queue rest waiting_keys a b i (inr first) still h = kept_pop slots by_name queue rest waiting_keys a b i h first still

-- a slot whose thread does not go on leaves the queue, wherever it stood
pub kept_without : {V : Type 0} (slots : List (Slot V)) (by_name : Filed) (queue rest : List ℕ) (waiting_keys : Waiting) (a b i : ℕ) → rest ≡ without_slot i queue → (IsModeAt slots i mode.Runs → ⊥) → IsConsistent slots by_name queue waiting_keys a b →
    IsConsistent slots by_name rest waiting_keys a b
kept_without {V} slots by_name queue rest waiting_keys a b i e still h = subst (λ (q : List ℕ). IsConsistent slots by_name q waiting_keys a b) (sym e) (record {
  placed = h.placed;
  parked = h.parked;
  keys_inside = h.keys_inside;
  queued = λ j s. stays i queue j (h.queued j s) (λ same. still (subst (λ (k : ℕ). IsModeAt slots k mode.Runs) (sym same) s));
  inside = each_without (λ (j : ℕ). j < length slots) i queue h.inside;
  alive = h.alive;
  waiters = h.waiters;
})

-- slots whose threads do not go on have left the front of the queue
pub kept_rest : {V : Type 0} (slots : List (Slot V)) (by_name : Filed) (queue rest : List ℕ) (waiting_keys : Waiting) (a b : ℕ) → IsRest slots queue rest → IsConsistent slots by_name queue waiting_keys a b → IsConsistent slots by_name rest waiting_keys a b
kept_rest {V} slots by_name queue rest waiting_keys a b (front, e, still) h = go front still (subst (λ (q : List ℕ). IsConsistent slots by_name q waiting_keys a b) e h)
  where
    go : (js : List ℕ) → Each (λ (j : ℕ). IsModeAt slots j mode.Runs → ⊥) js → IsConsistent slots by_name (js ++ rest) waiting_keys a b → IsConsistent slots by_name rest waiting_keys a b
    go [] s k = k
    go (j ∷ js) s k = go js s.1 (kept_pop slots by_name (j ∷ (js ++ rest)) (js ++ rest) waiting_keys a b j k refl s.0)

append_one : (js rest : List ℕ) (j : ℕ) → js ++ j ∷ rest ≡ (js ++ j ∷ []) ++ rest
append_one [] rest j = refl
append_one (i ∷ js) rest j = ap (λ (l : List ℕ). i ∷ l) (append_one js rest j)

pub rest_more : {V : Type 0} (slots : List (Slot V)) (queue now rest : List ℕ) (j : ℕ) → IsRest slots queue now → now ≡ j ∷ rest → (IsModeAt slots j mode.Runs → ⊥) → IsRest slots queue rest
rest_more slots queue now rest j (front, e, still) f s =
    (front ++ j ∷ [], e ∙ (ap (λ (l : List ℕ). front ++ l) f ∙ append_one front rest j), each_append _ front (j ∷ []) still (s, tt))

-- where the queue is empty, none can go on
pub none_runs : {V : Type 0} (slots : List (Slot V)) → ((j : ℕ) → IsModeAt slots j mode.Runs → ⊥) → AllWait (threads_in slots)
none_runs [] h = tt
none_runs (None ∷ slots) h = none_runs slots (λ j s. h (suc j) s)
none_runs {V} (Some k ∷ slots) h = each_append _ (threads_in slots) (entry k ∷ []) (none_runs slots (λ j s. h (suc j) s)) ((λ e. h 0 (k, refl, e)), tt)

pub none_left : {V : Type 0} (slots : List (Slot V)) (by_name : Filed) (queue rest : List ℕ) (waiting_keys : Waiting) (a b : ℕ) → IsConsistent slots by_name queue waiting_keys a b → IsRest slots queue rest → rest ≡ [] → AllWait (threads_in slots)
none_left {V} slots by_name queue rest waiting_keys a b h left e = none_runs slots (λ j s. nothing j (subst (λ (q : List ℕ). Contains q j) e (now.queued j s)))
  where
    now : IsConsistent slots by_name rest waiting_keys a b
    now = kept_rest slots by_name queue rest waiting_keys a b left h

    nothing : (j : ℕ) → Contains [] j → ⊥
    nothing j (k, below, is) = absurd (omega arith)

-- the first is a thread that can go on
pub next_goes : {V : Type 0} (slots : List (Slot V)) (by_name : Filed) (queue rest : List ℕ) (waiting_keys : Waiting) (a b : ℕ) (n : ThreadName) → IsConsistent slots by_name queue waiting_keys a b → IsNext slots rest n → IsRunnable (threads_in slots) n
next_goes {V} slots by_name queue rest waiting_keys a b n h (i, more, k, e, at, is, runs) =
    let placed = placed_there slots (slot_in by_name) i k n h.placed at is in
    let there = found n slots i k (only_at slots (slot_in by_name) n i h.placed placed) at in
    (k.value, there ∙ ap (λ (m : Mode). Some (k.value, m)) runs)

pub kept_turned : {V : Type 0} (slots : List (Slot V)) (by_name : Filed) (queue now : List ℕ) (waiting_keys : Waiting) (a b : ℕ) → ((i : ℕ) (rest : List ℕ) → queue ≡ i ∷ rest → now ≡ rest ++ i ∷ []) → (queue ≡ [] → now ≡ []) →
    IsConsistent slots by_name queue waiting_keys a b → IsConsistent slots by_name now waiting_keys a b
kept_turned {V} slots by_name [] now waiting_keys a b some none h = subst (λ (q : List ℕ). IsConsistent slots by_name q waiting_keys a b) (sym (none refl)) h
kept_turned slots by_name (i ∷ rest) now waiting_keys a b some none h = kept_rotated slots by_name (i ∷ rest) rest now waiting_keys a b i h refl (some i rest refl)

-- ---- what contracts see

pub mode_view : {V : Type 0} (slots now : List (Slot V)) (slot : ThreadName → Option ℕ) (n : ThreadName) (i : ℕ) (h : Occupant V) (m : Mode) → ArePlaced slots slot → slot n ≡ Some i → slice_get slots i ≡ Some (Some h) → h.name ≡ n →
    now ≡ slice_set slots i (Some (record h { mode = m })) → threads_in now ≡ set_mode (threads_in slots) n m
mode_view {V} slots now slot n i h m placed e at is f = ap (λ (l : List (Slot V)). threads_in l) f ∙ mode_put n slots i h m (only_at slots slot n i placed e) at is

pub value_view : {V : Type 0} (slots : List (Slot V)) (slot : ThreadName → Option ℕ) (n : ThreadName) (i : ℕ) (h : Occupant V) (v : V) → ArePlaced slots slot → slot n ≡ Some i → slice_get slots i ≡ Some (Some h) → h.name ≡ n →
    threads_in (slice_set slots i (Some (record h { value = v }))) ≡ set_value (threads_in slots) n v
value_view slots slot n i h v placed e at is = value_put n slots i h v (only_at slots slot n i placed e) at is

pub end_view : {V : Type 0} (slots now : List (Slot V)) (slot : ThreadName → Option ℕ) (n : ThreadName) (i : ℕ) → ArePlaced slots slot → slot n ≡ Some i → now ≡ slice_set slots i None → threads_in now ≡ without_key equal_thread (threads_in slots) n
end_view {V} slots now slot n i placed e f = ap (λ (l : List (Slot V)). threads_in l) f ∙ thread_ended n slots i (only_at slots slot n i placed e)

-- the number of those that have ended
abbrev pub ended_in : {V : Type 0} → List (Slot V) → ℕ
ended_in slots = length slots - total one slots

pub ended_set : {V : Type 0} (slots now : List (Slot V)) (i : ℕ) (h k : Occupant V) → slice_get slots i ≡ Some (Some h) → now ≡ slice_set slots i (Some k) → ended_in now ≡ ended_in slots
ended_set {V} slots now i h k at f = ap (λ (l : List (Slot V)). ended_in l) f ∙ same
  where
    same : ended_in (slice_set slots i (Some k)) ≡ ended_in slots
    same = let long = set_length slots i (Some k) in let sum = total_set one slots i h k at in omega (arith, long, sum)

pub ended_roused : {V : Type 0} (x : Event) (slots now : List (Slot V)) → now ≡ map (wake_slot x) slots → ended_in now ≡ ended_in slots
ended_roused {V} x slots now f = ap (λ (l : List (Slot V)). ended_in l) f ∙ same
  where
    same : ended_in (map (wake_slot x) slots) ≡ ended_in slots
    same = let long = map_length x slots in let sum = living_roused x slots in omega (arith, long, sum)

pub ended_more : {V : Type 0} (slots now : List (Slot V)) (i : ℕ) (h : Occupant V) → slice_get slots i ≡ Some (Some h) → now ≡ slice_set slots i None → ended_in now ≡ ended_in slots + 1
ended_more {V} slots now i h at f = ap (λ (l : List (Slot V)). ended_in l) f ∙ same
  where
    same : ended_in (slice_set slots i None) ≡ ended_in slots + 1
    same = let long = set_length slots i None in let sum = total_end one slots i h at in let most = living_le slots in omega (arith, long, sum, most)

pub ended_born : {V : Type 0} (slots now : List (Slot V)) (h : Occupant V) → now ≡ slots ++ Some h ∷ [] → ended_in now ≡ ended_in slots
ended_born {V} slots now h f = ap (λ (l : List (Slot V)). ended_in l) f ∙ same
  where
    same : ended_in (slots ++ Some h ∷ []) ≡ ended_in slots
    same = let long = length_push slots (Some h) in let sum = total_born one slots h in let most = living_le slots in omega (arith, long, sum, most)

pub born_view : {V : Type 0} (slots now : List (Slot V)) (h : Occupant V) → now ≡ slots ++ Some h ∷ [] → threads_in now ≡ entry h ∷ threads_in slots
born_view {V} slots now h f = ap (λ (l : List (Slot V)). threads_in l) f ∙ thread_born slots h

pub wake_view : {V : Type 0} (x : VarName) (slots now : List (Slot V)) → now ≡ map (wake_slot (event.Bound x)) slots → threads_in now ≡ wake_all x (threads_in slots)
wake_view {V} x slots now f = ap (λ (l : List (Slot V)). threads_in l) f ∙ threads_bound x slots

pub determine_view : {V : Type 0} (x : VarName) (slots now : List (Slot V)) → now ≡ map (wake_slot (event.Determined x)) slots → threads_in now ≡ determine_all (λ (y : VarName). equal_var y x) (threads_in slots)
determine_view {V} x slots now f = ap (λ (l : List (Slot V)). threads_in l) f ∙ threads_determined x slots

-- ---- a name without a thread, and one with one

pub no_place : {V : Type 0} (slots : List (Slot V)) (slot : ThreadName → Option ℕ) (n : ThreadName) → ArePlaced slots slot → value_of equal_thread (threads_in slots) n ≡ None → slot n ≡ None
no_place {V} slots slot n placed none = go (slot n) refl
  where
    go : (o : Option ℕ) → slot n ≡ o → slot n ≡ None
    go None e = e
    go (Some i) e =
        let only = only_at slots slot n i placed e in
        let held = held_at slots n i only in
        let there = found n slots i held.0 only held.1 in
        let both : ◌≡◌ {A = Option (V × Mode)} None (Some (held.0.value, held.0.mode)) = sym none ∙ there in cc

pub no_thread : {V : Type 0} (slots : List (Slot V)) (slot : ThreadName → Option ℕ) (n : ThreadName) → ArePlaced slots slot → slot n ≡ None → value_of equal_thread (threads_in slots) n ≡ None
no_thread {V} slots slot n placed e = lacking n slots (subst (λ (o : Option ℕ). IsPlaced slots n o) e (placed n))

pub thread_there : {V : Type 0} (slots : List (Slot V)) (slot : ThreadName → Option ℕ) (n : ThreadName) (i : ℕ) → ArePlaced slots slot → slot n ≡ Some i → (h : Occupant V) × (slice_get slots i ≡ Some (Some h)) × (h.name ≡ n)
thread_there slots slot n i placed e = held_at slots n i (only_at slots slot n i placed e)

pub inside_there : {V : Type 0} (slots : List (Slot V)) (slot : ThreadName → Option ℕ) (n : ThreadName) (i : ℕ) → ArePlaced slots slot → slot n ≡ Some i → i < length slots
inside_there slots slot n i placed e = only_inside slots n i (only_at slots slot n i placed e)

pub value_found : {V : Type 0} (slots : List (Slot V)) (slot : ThreadName → Option ℕ) (n : ThreadName) (i : ℕ) (h : Occupant V) → ArePlaced slots slot → slot n ≡ Some i → slice_get slots i ≡ Some (Some h) →
    value_of equal_thread (threads_in slots) n ≡ Some (h.value, h.mode)
value_found slots slot n i h placed e at = found n slots i h (only_at slots slot n i placed e) at

-- it stands there as its name says
pub stands_there : {V : Type 0} (slots : List (Slot V)) (slot : ThreadName → Option ℕ) (n : ThreadName) (i : ℕ) (h : Occupant V) (v : V) (m : Mode) → ArePlaced slots slot → slot n ≡ Some i → slice_get slots i ≡ Some (Some h) →
    value_of equal_thread (threads_in slots) n ≡ Some (v, m) → h.mode ≡ m
stands_there {V} slots slot n i h v m placed e at there =
    let both : Some (h.value, h.mode) ≡ Some (v, m) = sym (value_found slots slot n i h placed e at) ∙ there in
    let same : (h.value, h.mode) ≡ (v, m) = cc in
    ap (λ (u : V × Mode). u.1) same

-- what was popped was the first
pub popped : (queue now rest : List ℕ) (i : ℕ) (o : Option ℕ) → IfSome o (λ j. queue ≡ j ∷ now) → IfNone o (queue ≡ []) → queue ≡ i ∷ rest → queue ≡ i ∷ now
popped queue now rest i None some none e = let both : i ∷ rest ≡ [] = sym e ∙ none in cc
popped queue now rest i (Some j) some none e =
    let both : j ∷ now ≡ i ∷ rest = sym some ∙ e in
    let same : j ≡ i = cc in
    some ∙ ap (λ (k : ℕ). k ∷ now) same

pub stands_as : {V : Type 0} (slots : List (Slot V)) (i : ℕ) (o : Slot V) → slice_get slots i ≡ Some o → ((h : Occupant V) → o ≡ Some h → h.mode ≢ mode.Runs) → IsModeAt slots i mode.Runs → ⊥
stands_as slots i o at still s = let both : Some o ≡ Some (Some s.0) = sym at ∙ s.1 in let same : o ≡ Some s.0 = cc in still s.0 same s.2

-- what is found first
pub first_goes : {V : Type 0} (slots : List (Slot V)) (by_name : Filed) (queue rest : List ℕ) (waiting_keys : Waiting) (a b : ℕ) (o : Option ThreadName) → IsConsistent slots by_name queue waiting_keys a b → IfSome o (λ n. IsNext slots rest n) →
    IfSome o (λ n. IsRunnable (threads_in slots) n)
first_goes slots by_name queue rest waiting_keys a b None h next = tt
first_goes slots by_name queue rest waiting_keys a b (Some n) h next = next_goes slots by_name queue rest waiting_keys a b n h next

pub none_goes : {V : Type 0} (slots : List (Slot V)) (by_name : Filed) (queue rest : List ℕ) (waiting_keys : Waiting) (a b : ℕ) (o : Option ThreadName) → IsConsistent slots by_name queue waiting_keys a b → IsRest slots queue rest → IfNone o (rest ≡ []) →
    IfNone o (AllWait (threads_in slots))
none_goes slots by_name queue rest waiting_keys a b None h left none = none_left slots by_name queue rest waiting_keys a b h left none
none_goes slots by_name queue rest waiting_keys a b (Some n) h left none = tt

-- a slot that is of a name is that of the name
pub place_is : {V : Type 0} (slots : List (Slot V)) (slot : ThreadName → Option ℕ) (i : ℕ) (o : Slot V) (n : ThreadName) → ArePlaced slots slot → slice_get slots i ≡ Some o → IsSlotOf n o → Some i ≡ slot n
place_is slots slot i None n placed at h = absurd h
place_is slots slot i (Some k) n placed at h = sym (placed_there slots slot i k n placed at h)

pub lives_there : {V : Type 0} (slots : List (Slot V)) (slot : ThreadName → Option ℕ) (n : ThreadName) (o : Option ℕ) → ArePlaced slots slot → o ≡ slot n → IsSome o → IsSome (value_of equal_thread (threads_in slots) n)
lives_there slots slot n None placed e some = cc
lives_there slots slot n (Some i) placed e some =
    let only = only_at slots slot n i placed (sym e) in
    let held = held_at slots n i only in
    rw (found n slots i held.0 only held.1) refl

pub there_lives : {V : Type 0} (slots : List (Slot V)) (slot : ThreadName → Option ℕ) (n : ThreadName) (o : Option ℕ) → ArePlaced slots slot → o ≡ slot n → IsSome (value_of equal_thread (threads_in slots) n) → IsSome o
there_lives slots slot n None placed e some = absurd (has_place slots slot n placed some e)
there_lives slots slot n (Some i) placed e some = refl

-- ---- a loan of a value

pub slot_is : {V : Type 0} (slots : List (Slot V)) (i : ℕ) (o : Slot V) (h : Occupant V) → slice_get slots i ≡ Some o → slice_get slots i ≡ Some (Some h) → o ≡ Some h
slot_is slots i o h at is = let both : Some o ≡ Some (Some h) = sym at ∙ is in cc

pub value_is : {V : Type 0} (o : Slot V) (h : Occupant V) (v : V) → o ≡ Some h → value_there o ≡ Some v → h.value ≡ v
value_is o h v is there = let both : Some h.value ≡ Some v = ap value_there (sym is) ∙ there in cc

-- another table that says the same of each name
pub kept_named : {V : Type 0} (slots : List (Slot V)) (by_name more : Filed) (queue : List ℕ) (waiting_keys : Waiting) (a b : ℕ) → IsConsistent slots by_name queue waiting_keys a b → ((k : ThreadName) → slot_in more k ≡ slot_in by_name k) →
    IsConsistent slots more queue waiting_keys a b
kept_named {V} slots by_name more queue waiting_keys a b h same = record {
  placed = λ n. subst (λ (o : Option ℕ). IsPlaced slots n o) (sym (same n)) (h.placed n);
  queued = h.queued;
  parked = h.parked;
  inside = h.inside;
  keys_inside = h.keys_inside;
  alive = h.alive;
  waiters = h.waiters;
}

-- a name that had none gets a slot, and then has none again
pub forgotten : (by_name more less : Filed) (n : ThreadName) (i : ℕ) → slot_in by_name n ≡ None → ((k : ThreadName) → slot_in more k ≡ with_slot (slot_in by_name) n (Some i) k) → ((k : ThreadName) → slot_in less k ≡ with_slot (slot_in more) n None k) →
    (k : ThreadName) → slot_in less k ≡ slot_in by_name k
forgotten by_name more less n i none added left k = go (name_cases n k)
  where
    go : (n ≡ k) ⊎ (n ≢ k) → slot_in less k ≡ slot_in by_name k
    go (inl same) = left k ∙ rw (is_same n k same) (sym none ∙ ap (slot_in by_name) same)
    go (inr differ) = left k ∙ rw (is_other n k differ) (added k ∙ rw (is_other n k differ) refl)
