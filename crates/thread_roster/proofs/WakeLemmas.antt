-- Threads in slots that go on.
use Rattle.std.proofs.Common.{arith, length-append, ◌≡◌, ◌≢◌, ◌∙◌, sym, ap, refl, subst, ℕ, ◌+◌, ◌<◌, ◌≤◌, zero, suc, length, drop, get_or, add-one, drop-cons, map, filter, ◌⊎◌, inl, inr, List, [], ◌∷◌, ◌++◌, append-nil, Bool, true, false, cond, Some, None}
use Rattle.std.specs.Prelude.{slice_set, slice_get, Contains}
use Rattle.tree_node.specs.declared.names.VarName.{VarName}
use Rattle.tree_node.specs.Store.{equal_var}
use Rattle.thread_roster.specs.declared.mode.Event.{Event}
use Rattle.thread_roster.specs.declared.mode.Event.TheVariants as event
use Rattle.tree_node.proofs.ClassLemmas.{Contains-cons_cases, same_name_decides}
use Rattle.waiting_keys.specs.Keys.{keys_among, without_keys}
use Rattle.thread_roster.specs.declared.mode.Mode.{Mode}
use Rattle.thread_roster.specs.declared.mode.Mode.TheVariants as mode
use Rattle.thread_roster.specs.declared.slot.Occupant.{Occupant}
use Rattle.thread_roster.specs.Threads.{Entry, awaits, wake, wake_all, wake_where, determine_all, is_waiting, waiting_of, AllWait}
use Rattle.thread_roster.proofs.SlotLemmas.{total_set}
use Rattle.thread_roster.specs.Slots.{Slot, entry, threads_in, wakes, wake_by, wake_slot, wake_slot_at, wake_slots, awaits_in, awaits_at, woken, total, one, weight, waiting}

-- ---- one slot

set_same : {V : Type 0} (slots : List (Slot V)) (k : ℕ) (o : Slot V) (x : Event) → slice_get slots k ≡ Some o → slice_set slots k (wake_slot x o) ≡ wake_slot_at x slots k
set_same [] k o x e = cc
set_same (p ∷ slots) zero o x e = let same : p ≡ o = cc in rw same refl
set_same {V} (p ∷ slots) (suc k) o x e = ap (λ (l : List (Slot V)). p ∷ l) (set_same slots k o x e)

pub roused : {V : Type 0} (slots now : List (Slot V)) (k : ℕ) (x : Event) (o p : Slot V) → slice_get slots k ≡ Some o → p ≡ wake_slot x o → now ≡ slice_set slots k p → now ≡ wake_slot_at x slots k
roused slots now k x o p at made e = e ∙ (ap (slice_set slots k) made ∙ set_same slots k o x at)

-- whether the thread in a slot waits
pub awaits_as : {V : Type 0} (slots : List (Slot V)) (k : ℕ) (o : Slot V) (x : Event) → slice_get slots k ≡ Some o → awaits_at x slots k ≡ awaits_in x o
awaits_as [] k o x e = cc
awaits_as {V} (p ∷ slots) zero o x e = let same : p ≡ o = cc in ap (λ (q : Slot V). awaits_in x q) same
awaits_as (p ∷ slots) (suc k) o x e = awaits_as slots k o x e

-- ---- all slots of the keys

-- who can go on waits for nothing
pub never_waits : (x : Event) → wakes x mode.Runs ≡ false
never_waits (event.Bound y) = refl
never_waits (event.Determined y) = refl

pub runs_on : (x : Event) → wake_by x mode.Runs ≡ mode.Runs
runs_on x = ap (λ (c : Bool). cond c mode.Runs mode.Runs) (never_waits x)

-- what waits for something waits
pub wake_weight : (x : Event) (m : Mode) → cond (wakes x m) 1 0 + weight (wake_by x m) ≡ weight m
wake_weight x m = go m
  where
    one_less : (k : Mode) (b : Bool) → weight k ≡ 1 → cond b 1 0 + weight (cond b mode.Runs k) ≡ weight k
    one_less k true e = sym e
    one_less k false e = let same : 0 + weight k ≡ weight k = omega arith in same

    go : (k : Mode) → cond (wakes x k) 1 0 + weight (wake_by x k) ≡ weight k
    go mode.Runs = ap (λ (b : Bool). cond b 1 0 + weight (cond b mode.Runs mode.Runs)) (never_waits x)
    go (mode.Waits y) = one_less (mode.Waits y) (wakes x (mode.Waits y)) refl
    go (mode.Needs y) = one_less (mode.Needs y) (wakes x (mode.Needs y)) refl
    go (mode.WaitsAny ys) = one_less (mode.WaitsAny ys) (wakes x (mode.WaitsAny ys)) refl
    go (mode.WaitsFor c) = one_less (mode.WaitsFor c) (wakes x (mode.WaitsFor c)) refl

set_none : {V : Type 0} (slots : List (Slot V)) (k : ℕ) → slice_get slots k ≡ Some None → slice_set slots k None ≡ slots
set_none [] k e = cc
set_none {V} (p ∷ slots) zero e = let same : None ≡ p = cc in ap (λ (q : Slot V). q ∷ slots) same
set_none {V} (p ∷ slots) (suc k) e = ap (λ (l : List (Slot V)). p ∷ l) (set_none slots k e)

-- one that goes on waits no more
pub roused_count : {V : Type 0} (slots : List (Slot V)) (k : ℕ) (x : Event) (o : Slot V) → slice_get slots k ≡ Some o → cond (awaits_in x o) 1 0 + total waiting (slice_set slots k (wake_slot x o)) ≡ total waiting slots
roused_count {V} slots k x None at = ap (λ (l : List (Slot V)). 0 + total waiting l) (set_none slots k at) ∙ omega arith
roused_count slots k x (Some h) at =
    let set = total_set waiting slots k h (record h { mode = wake_by x h.mode }) at in
    let one = wake_weight x h.mode in
    omega (arith, set, one)

wake_twice : (x : Event) (m : Mode) → wake_by x (wake_by x m) ≡ wake_by x m
wake_twice x m = go (wakes x m) refl
  where
    go : (b : Bool) → wakes x m ≡ b → wake_by x (cond b mode.Runs m) ≡ cond b mode.Runs m
    go true e = runs_on x
    go false e = ap (λ (c : Bool). cond c mode.Runs m) e

rouse_twice : {V : Type 0} (x : Event) (o : Slot V) → wake_slot x (wake_slot x o) ≡ wake_slot x o
rouse_twice x None = refl
rouse_twice x (Some h) = rw (wake_twice x h.mode) refl

map_rouse_at : {V : Type 0} (x : Event) (slots : List (Slot V)) (k : ℕ) → map (wake_slot x) (wake_slot_at x slots k) ≡ map (wake_slot x) slots
map_rouse_at x [] k = refl
map_rouse_at {V} x (o ∷ slots) zero = ap (λ (p : Slot V). p ∷ map (wake_slot x) slots) (rouse_twice x o)
map_rouse_at {V} x (o ∷ slots) (suc k) = ap (λ (l : List (Slot V)). wake_slot x o ∷ l) (map_rouse_at x slots k)

-- a mode that does not wait for the variable stays
not_woken : (x : Event) (m : Mode) → (wakes x m ≡ true → ⊥) → wake_by x m ≡ m
not_woken x m h = go (wakes x m) refl
  where
    go : (b : Bool) → wakes x m ≡ b → cond b mode.Runs m ≡ m
    go false e = refl
    go true e = absurd (h e)

not_roused : {V : Type 0} (x : Event) (o : Slot V) → ((h : Occupant V) → o ≡ Some h → wakes x h.mode ≡ true → ⊥) → wake_slot x o ≡ o
not_roused x None h = refl
not_roused {V} x (Some k) h = ap (λ (m : Mode). Some (record k { mode = m })) (not_woken x k.mode (λ e. h k refl e))

-- the thread in a slot waits for this variable
abbrev pub IsAwaitingAt : {V : Type 0} → List (Slot V) → ℕ → Event → Type 0
IsAwaitingAt {V} slots j x = (h : Occupant V) × (slice_get slots j ≡ Some (Some h)) × (wakes x h.mode ≡ true)

-- where no thread waits, none goes on
asleep : (x : Event) (m : Mode) → weight m ≡ 0 → (wakes x m ≡ false) × (wake_by x m ≡ m)
asleep x mode.Runs e = (never_waits x, runs_on x)
asleep x (mode.Waits y) e = cc
asleep x (mode.Needs y) e = cc
asleep x (mode.WaitsAny ys) e = cc
asleep x (mode.WaitsFor c) e = cc

asleep_at : {V : Type 0} (x : Event) (slots : List (Slot V)) (k : ℕ) → total waiting slots ≡ 0 → (awaits_at x slots k ≡ false) × (wake_slot_at x slots k ≡ slots)
asleep_at x [] k e = (refl, refl)
asleep_at x (None ∷ slots) zero e = (refl, refl)
asleep_at {V} x (None ∷ slots) (suc k) e =
    let r = asleep_at x slots k e in
    (r.0, ap (λ (l : List (Slot V)). None ∷ l) r.1)
asleep_at {V} x (Some h ∷ slots) zero e =
    let sum : weight h.mode + total waiting slots ≡ 0 = e in
    let none : weight h.mode ≡ 0 = omega (arith, sum) in
    let r = asleep x h.mode none in
    (r.0, ap (λ (m : Mode). Some (record h { mode = m }) ∷ slots) r.1)
asleep_at {V} x (Some h ∷ slots) (suc k) e =
    let sum : weight h.mode + total waiting slots ≡ 0 = e in
    let none : total waiting slots ≡ 0 = omega (arith, sum) in
    let r = asleep_at x slots k none in
    (r.0, ap (λ (l : List (Slot V)). Some h ∷ l) r.1)

none_go_on : {V : Type 0} (x : Event) (slots : List (Slot V)) (keys : List ℕ) → total waiting slots ≡ 0 → (woken x slots keys ≡ []) × (wake_slots x slots keys ≡ slots)
none_go_on x slots [] e = (refl, refl)
none_go_on {V} x slots (k ∷ keys) e =
    let r = asleep_at x slots k e in
    let rest = none_go_on x slots keys e in (
      ap (λ (b : Bool). cond b (k ∷ []) [] ++ woken x (wake_slot_at x slots k) keys) r.0 ∙ (ap (λ (l : List (Slot V)). woken x l keys) r.1 ∙ rest.0),
      ap (λ (l : List (Slot V)). wake_slots x l keys) r.1 ∙ rest.1,
    )

pub idle_queue : {V : Type 0} (x : Event) (slots : List (Slot V)) (keys queue : List ℕ) (n : ℕ) → n ≡ total waiting slots → n ≡ 0 → queue ≡ queue ++ woken x slots keys
idle_queue x slots keys queue n is none = sym (ap (λ (l : List ℕ). queue ++ l) (none_go_on x slots keys (sym is ∙ none)).0 ∙ append-nil queue)

pub idle_slots : {V : Type 0} (x : Event) (slots : List (Slot V)) (keys : List ℕ) (n : ℕ) → n ≡ total waiting slots → n ≡ 0 → slots ≡ wake_slots x slots keys
idle_slots x slots keys n is none = sym (none_go_on x slots keys (sym is ∙ none)).1

-- where no key stands at a variable, nobody goes on and none is taken
pub unkeyed_queue : {V : Type 0} (x : Event) (slots : List (Slot V)) (keys queue : List ℕ) → keys ≡ [] → queue ≡ queue ++ woken x slots keys
unkeyed_queue x slots keys queue none = sym (ap (λ (ks : List ℕ). queue ++ woken x slots ks) none ∙ append-nil queue)

pub unkeyed_slots : {V : Type 0} (x : Event) (slots : List (Slot V)) (keys : List ℕ) → keys ≡ [] → slots ≡ wake_slots x slots keys
unkeyed_slots x slots keys none = sym (ap (λ (ks : List ℕ). wake_slots x slots ks) none)

pub none_taken : (waiters : List (VarName × List ℕ)) (x : VarName) → keys_among waiters x ≡ [] → (y : VarName) → keys_among waiters y ≡ without_keys (keys_among waiters) x y
none_taken waiters x none y = go (equal_var x y) refl
  where
    go : (b : Bool) → equal_var x y ≡ b → keys_among waiters y ≡ cond b [] (keys_among waiters y)
    go true e = subst (λ (z : VarName). keys_among waiters z ≡ []) ((same_name_decides x y).0 e) none
    go false e = refl

none_waits : {V : Type 0} (x : Event) (slots : List (Slot V)) → ((j : ℕ) → IsAwaitingAt slots j x → ⊥) → map (wake_slot x) slots ≡ slots
none_waits x [] h = refl
none_waits {V} x (o ∷ slots) h =
    let head : wake_slot x o ≡ o = not_roused x o (λ e is m. h 0 (e, ap Some is, m)) in
    let rest : map (wake_slot x) slots ≡ slots = none_waits x slots (λ j w. h (suc j) w) in
    rw (head, rest) refl

-- a roused thread does not wait for the variable
abbrev pub mode_in : {V : Type 0} → Slot V → Mode
mode_in None = mode.Runs
mode_in (Some h) = h.mode

wake_goes : (x : Event) (m : Mode) → wakes x (wake_by x m) ≡ true → ⊥
wake_goes x m e = go (wakes x m) refl e
  where
    go : (b : Bool) → wakes x m ≡ b → wakes x (cond b mode.Runs m) ≡ true → ⊥
    go true q k = let both : true ≡ false = sym k ∙ never_waits x in cc
    go false q k = let both : true ≡ false = sym k ∙ q in cc

roused_goes : {V : Type 0} (x : Event) (o : Slot V) (h : Occupant V) → wake_slot x o ≡ Some h → wakes x h.mode ≡ true → ⊥
roused_goes x None h is m = cc
roused_goes {V} x (Some d) h is m = wake_goes x d.mode (ap (λ (o : Slot V). wakes x (mode_in o)) is ∙ m)

-- a slot that waits after one was roused is another, and waited before
pub waits_before : {V : Type 0} (x : Event) (slots : List (Slot V)) (k j : ℕ) → IsAwaitingAt (wake_slot_at x slots k) j x → (j ≢ k) × IsAwaitingAt slots j x
waits_before x [] k j w = cc
waits_before x (o ∷ slots) zero zero w = absurd (roused_goes x o w.0 (cc) w.2)
waits_before x (o ∷ slots) zero (suc j) w = (omega arith, w)
waits_before x (o ∷ slots) (suc k) zero w = (omega arith, w)
waits_before x (o ∷ slots) (suc k) (suc j) w =
    let b = waits_before x slots k j w in (λ (same : suc j ≡ suc k). b.0 (omega (arith, same)), b.1)

-- where each slot that waits is among the keys, all that wait are roused
pub roused_all : {V : Type 0} (x : Event) (slots : List (Slot V)) (keys : List ℕ) → ((j : ℕ) → IsAwaitingAt slots j x → Contains keys j) → wake_slots x slots keys ≡ map (wake_slot x) slots
roused_all x slots [] h = sym (none_waits x slots (λ j w. nothing j (h j w)))
  where
    nothing : (j : ℕ) → Contains [] j → ⊥
    nothing j (k, below, is) = absurd (omega arith)
roused_all {V} x slots (k ∷ keys) h = roused_all x (wake_slot_at x slots k) keys (λ j w. among j (waits_before x slots k j w)) ∙ map_rouse_at x slots k
  where
    among : (j : ℕ) → (j ≢ k) × IsAwaitingAt slots j x → Contains keys j
    among j b = go (Contains-cons_cases k j keys (h j b.1))
      where
        go : (k ≡ j) ⊎ Contains keys j → Contains keys j
        go (inl e) = absurd (b.0 (sym e))
        go (inr c) = c

-- the next key
pub rouse_next : {V : Type 0} (x : Event) (slots now : List (Slot V)) (keys : List ℕ) (i d : ℕ) → i < length keys → now ≡ wake_slot_at x slots (get_or keys i d) → wake_slots x now (drop (i + 1) keys) ≡ wake_slots x slots (drop i keys)
rouse_next x slots now keys i d below e = rw (e, add-one) (sym (ap (λ (l : List ℕ). wake_slots x slots l) (drop-cons keys i d below)))

-- ---- the threads by name

where_append : {V : Type 0} (f : Mode → Bool) (es fs : List (Entry V)) → wake_where f (es ++ fs) ≡ wake_where f es ++ wake_where f fs
where_append f [] fs = refl
where_append {V} f (a ∷ es) fs = ap (λ (l : List (Entry V)). (a.0, (a.1.0, cond (f a.1.1) mode.Runs a.1.1)) ∷ l) (where_append f es fs)

threads_woken : {V : Type 0} (x : Event) (slots : List (Slot V)) → threads_in (map (wake_slot x) slots) ≡ wake_where (wakes x) (threads_in slots)
threads_woken x [] = refl
threads_woken x (None ∷ slots) = threads_woken x slots
threads_woken {V} x (Some h ∷ slots) =
    ap (λ (l : List (Entry V)). l ++ (h.name, (h.value, wake_by x h.mode)) ∷ []) (threads_woken x slots) ∙ sym (where_append (wakes x) (threads_in slots) (entry h ∷ []))

-- those that wait until x is bound are all whose wait that ends
all_where : {V : Type 0} (x : VarName) (ts : List (Entry V)) → wake_where (awaits x) ts ≡ wake_all x ts
all_where x [] = refl
all_where {V} x (t ∷ ts) = ap (λ (l : List (Entry V)). (t.0, (t.1.0, wake x t.1.1)) ∷ l) (all_where x ts)

pub threads_bound : {V : Type 0} (x : VarName) (slots : List (Slot V)) → threads_in (map (wake_slot (event.Bound x)) slots) ≡ wake_all x (threads_in slots)
threads_bound x slots = threads_woken (event.Bound x) slots ∙ all_where x (threads_in slots)

pub threads_determined : {V : Type 0} (x : VarName) (slots : List (Slot V)) → threads_in (map (wake_slot (event.Determined x)) slots) ≡ determine_all (λ (y : VarName). equal_var y x) (threads_in slots)
threads_determined x slots = threads_woken (event.Determined x) slots

pub living_roused : {V : Type 0} (x : Event) (slots : List (Slot V)) → total one (map (wake_slot x) slots) ≡ total one slots
living_roused x [] = refl
living_roused x (None ∷ slots) = living_roused x slots
living_roused x (Some h ∷ slots) = let rest = living_roused x slots in omega (arith, rest)

-- ---- numbers

pub living_is : {V : Type 0} (slots : List (Slot V)) → total one slots ≡ length (threads_in slots)
living_is [] = refl
living_is (None ∷ slots) = living_is slots
living_is {V} (Some h ∷ slots) = let rest = living_is slots in let more = length-append (threads_in slots) (entry h ∷ []) in omega (arith, rest, more)

waiting_append : {V : Type 0} (es : List (Entry V)) (h : Occupant V) → waiting_of (es ++ entry h ∷ []) ≡ waiting_of es + weight h.mode
waiting_append {V} [] h = go (is_waiting h.mode)
  where
    go : (b : Bool) → length (cond b (entry h ∷ []) []) ≡ 0 + cond b 1 0
    go true = refl
    go false = refl
waiting_append {V} (e ∷ es) h = go (is_waiting e.1.1) (waiting_append es h)
  where
    go : (b : Bool) → waiting_of (es ++ entry h ∷ []) ≡ waiting_of es + weight h.mode → length (cond b (e ∷ filter (λ (t : Entry V). is_waiting t.1.1) (es ++ entry h ∷ [])) (filter (λ (t : Entry V). is_waiting t.1.1) (es ++ entry h ∷ []))) ≡
        length (cond b (e ∷ filter (λ (t : Entry V). is_waiting t.1.1) es) (filter (λ (t : Entry V). is_waiting t.1.1) es)) + weight h.mode
    go true rest = omega (arith, rest)
    go false rest = rest

pub waiting_is : {V : Type 0} (slots : List (Slot V)) → total waiting slots ≡ waiting_of (threads_in slots)
waiting_is [] = refl
waiting_is (None ∷ slots) = waiting_is slots
waiting_is {V} (Some h ∷ slots) = let rest = waiting_is slots in let more = waiting_append (threads_in slots) h in omega (arith, rest, more)

pub waiting_at_most : {V : Type 0} (ts : List (Entry V)) → waiting_of ts ≤ length ts
waiting_at_most [] = omega arith
waiting_at_most {V} ((n, (v, mode.Runs)) ∷ ts) = let rest = waiting_at_most ts in omega (arith, rest)
waiting_at_most {V} ((n, (v, mode.Waits y)) ∷ ts) = let rest = waiting_at_most ts in omega (arith, rest)
waiting_at_most {V} ((n, (v, mode.Needs y)) ∷ ts) = let rest = waiting_at_most ts in omega (arith, rest)
waiting_at_most {V} ((n, (v, mode.WaitsAny ys)) ∷ ts) = let rest = waiting_at_most ts in omega (arith, rest)
waiting_at_most {V} ((n, (v, mode.WaitsFor c)) ∷ ts) = let rest = waiting_at_most ts in omega (arith, rest)

-- all wait, exactly where as many wait as there are
pub all_wait : {V : Type 0} (ts : List (Entry V)) → waiting_of ts ≡ length ts → AllWait ts
all_wait [] e = tt
all_wait {V} ((n, (v, mode.Runs)) ∷ ts) e = let most : waiting_of ts ≤ length ts = waiting_at_most ts in absurd (omega (arith, most, e))
all_wait {V} ((n, (v, mode.Waits y)) ∷ ts) e = (λ k. cc, all_wait ts (omega (arith, e)))
all_wait {V} ((n, (v, mode.Needs y)) ∷ ts) e = (λ k. cc, all_wait ts (omega (arith, e)))
all_wait {V} ((n, (v, mode.WaitsAny ys)) ∷ ts) e = (λ k. cc, all_wait ts (omega (arith, e)))
all_wait {V} ((n, (v, mode.WaitsFor c)) ∷ ts) e = (λ k. cc, all_wait ts (omega (arith, e)))

pub as_many_wait : {V : Type 0} (ts : List (Entry V)) → AllWait ts → waiting_of ts ≡ length ts
as_many_wait [] h = refl
as_many_wait {V} ((n, (v, mode.Runs)) ∷ ts) h = absurd (h.0 refl)
as_many_wait {V} ((n, (v, mode.Waits y)) ∷ ts) h = ap suc (as_many_wait ts h.1)
as_many_wait {V} ((n, (v, mode.Needs y)) ∷ ts) h = ap suc (as_many_wait ts h.1)
as_many_wait {V} ((n, (v, mode.WaitsAny ys)) ∷ ts) h = ap suc (as_many_wait ts h.1)
as_many_wait {V} ((n, (v, mode.WaitsFor c)) ∷ ts) h = ap suc (as_many_wait ts h.1)
