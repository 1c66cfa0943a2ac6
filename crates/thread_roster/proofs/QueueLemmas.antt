-- Each slot stands once in the queue, and its thread can go on: what keeps it so.
use Rattle.std.proofs.Common.{arith, eqb, ◌≡◌, ◌≢◌, ◌∙◌, sym, ap, refl, subst, ℕ, ◌<◌, zero, suc, length, map, ◌⊎◌, inl, inr, List, [], ◌∷◌, ◌++◌, Bool, true, false, not, cond, Some, None}
use Rattle.std.specs.Prelude.{Option, IfSome, IfNone, slice_set, slice_get, Contains, ◌==◌}
use Rattle.std.specs.Option.{option_eq}
use Rattle.std.proofs.lemmas.Bool.Decides.{Decides-eqb as nat_decides}
use Rattle.std.proofs.lemmas.List.Elements.{Contains-append_right, Contains-append_cases, Contains-push_cases}
use Rattle.thread_roster.specs.declared.mode.Event.{Event}
use Rattle.tree_node.specs.Each.{Each, AreDistinct}
use Rattle.tree_node.proofs.ClassLemmas.{Contains-cons_cases, Contains-head, Contains-tail}
use Rattle.tree_node.proofs.EachLemmas.{each_in, each_append}
use Rattle.tree_node.proofs.OrderLemmas.{none as nothing, Each-member}
use Rattle.thread_roster.specs.declared.mode.Mode.TheVariants as mode
use Rattle.thread_roster.specs.declared.slot.Occupant.{Occupant}
use Rattle.thread_roster.specs.Invariant.{IsOrdered}
use Rattle.thread_roster.specs.Slots.{Slot, AreInside, wakes, wake_by, wake_slot, wake_slot_at, awaits_at, woken, without_slot, HasLeft, IsRest}
use Rattle.thread_roster.proofs.WakeLemmas.{IsAwaitingAt, mode_in, waits_before, never_waits, runs_on}

-- ---- lists in which each stands once

distinct_append : (xs ys : List ℕ) → AreDistinct xs → AreDistinct ys → ((x : ℕ) → Contains xs x → Contains ys x → ⊥) → AreDistinct (xs ++ ys)
distinct_append [] ys h k apart = k
distinct_append (x ∷ xs) ys h k apart = (
  each_append (λ (y : ℕ). x ≢ y) xs ys h.0 (each_in (λ (y : ℕ). x ≢ y) ys (λ y c e. apart x (Contains-head x xs) (subst (Contains ys) (sym e) c))),
  distinct_append xs ys h.1 k (λ y c d. apart y (Contains-tail x y xs c) d),
)

distinct_push : (xs : List ℕ) (x : ℕ) → AreDistinct xs → (Contains xs x → ⊥) → AreDistinct (xs ++ x ∷ [])
distinct_push xs x h out = distinct_append xs (x ∷ []) h (tt, tt) (λ y c d. one y c (Contains-cons_cases x y [] d))
  where
    one : (y : ℕ) → Contains xs y → (x ≡ y) ⊎ Contains [] y → ⊥
    one y c (inl e) = out (subst (Contains xs) (sym e) c)
    one y c (inr d) = nothing y d

distinct_right : (xs ys : List ℕ) → AreDistinct (xs ++ ys) → AreDistinct ys
distinct_right [] ys h = h
distinct_right (x ∷ xs) ys h = distinct_right xs ys h.1

-- without one
within : (i : ℕ) (xs : List ℕ) (x : ℕ) → Contains (without_slot i xs) x → Contains xs x × (i ≢ x)
within i [] x c = absurd (nothing x c)
within i (y ∷ xs) x c = go (i == y) refl (λ d. within i xs x d) c
  where
    deeper : Contains xs x × (i ≢ x) → Contains (y ∷ xs) x × (i ≢ x)
    deeper w = (Contains-tail y x xs w.0, w.1)

    here : (i == y) ≡ false → (Contains (without_slot i xs) x → Contains xs x × (i ≢ x)) → (y ≡ x) ⊎ Contains (without_slot i xs) x → Contains (y ∷ xs) x × (i ≢ x)
    here e rest (inr d) = deeper (rest d)
    here e rest (inl same) = (
      subst (Contains (y ∷ xs)) same (Contains-head y xs),
      λ k. let yes : (i == y) ≡ true = (nat_decides i y).1 (k ∙ sym same) in cc,
    )

    go : (b : Bool) → (i == y) ≡ b → (Contains (without_slot i xs) x → Contains xs x × (i ≢ x)) → Contains (cond (not b) (y ∷ without_slot i xs) (without_slot i xs)) x → Contains (y ∷ xs) x × (i ≢ x)
    go true e rest d = deeper (rest d)
    go false e rest d = here e rest (Contains-cons_cases y x (without_slot i xs) d)

pub stays : (i : ℕ) (xs : List ℕ) (x : ℕ) → Contains xs x → i ≢ x → Contains (without_slot i xs) x
stays i [] x c differs = c
stays i (y ∷ xs) x c differs = go (i == y) refl (λ d. stays i xs x d differs) (Contains-cons_cases y x xs c)
  where
    go : (b : Bool) → (i == y) ≡ b → (Contains xs x → Contains (without_slot i xs) x) → (y ≡ x) ⊎ Contains xs x → Contains (cond (not b) (y ∷ without_slot i xs) (without_slot i xs)) x
    go true e rest (inl same) = absurd (differs ((nat_decides i y).0 e ∙ same))
    go true e rest (inr d) = rest d
    go false e rest (inl same) = subst (Contains (y ∷ without_slot i xs)) same (Contains-head y (without_slot i xs))
    go false e rest (inr d) = Contains-tail y x (without_slot i xs) (rest d)

pub each_without : (P : ℕ → Type 0) (i : ℕ) (xs : List ℕ) → Each P xs → Each P (without_slot i xs)
each_without P i xs h = each_in P (without_slot i xs) (λ x c. Each-member P xs x h (within i xs x c).0)

distinct_without : (i : ℕ) (xs : List ℕ) → AreDistinct xs → AreDistinct (without_slot i xs)
distinct_without i [] h = tt
distinct_without i (y ∷ xs) h = go (i == y) (distinct_without i xs h.1)
  where
    go : (b : Bool) → AreDistinct (without_slot i xs) → AreDistinct (cond (not b) (y ∷ without_slot i xs) (without_slot i xs))
    go true rest = rest
    go false rest = (each_without (λ (z : ℕ). y ≢ z) i xs h.0, rest)

-- a slot that is not there
pub not_there : (i : ℕ) (xs : List ℕ) → Each (λ (j : ℕ). i ≢ j) xs → without_slot i xs ≡ xs
not_there i [] h = refl
not_there i (y ∷ xs) h = go (i == y) refl (not_there i xs h.1)
  where
    go : (b : Bool) → (i == y) ≡ b → without_slot i xs ≡ xs → cond (not b) (y ∷ without_slot i xs) (without_slot i xs) ≡ y ∷ xs
    go true e rest = absurd (h.0 ((nat_decides i y).0 e))
    go false e rest = ap (λ (l : List ℕ). y ∷ l) rest

-- the first one leaves
first_left : (i : ℕ) (queue rest : List ℕ) → AreDistinct queue → queue ≡ i ∷ rest → rest ≡ without_slot i queue
first_left i queue rest once e =
    let apart : AreDistinct (i ∷ rest) = subst AreDistinct e once in
    let here : without_slot i (i ∷ rest) ≡ without_slot i rest = rw ((nat_decides i i).1 refl) refl in
    sym (ap (without_slot i) e ∙ (here ∙ not_there i rest apart.0))

-- the first was looked at, and popped
pub first_popped : (i : ℕ) (queue rest : List ℕ) (o p : Option ℕ) → AreDistinct queue → IfSome o (λ s. (more : List ℕ) × (queue ≡ s ∷ more)) → option_eq eqb o (Some i) ≡ true → IfSome p (λ s. queue ≡ s ∷ rest) → IfNone p (queue ≡ []) → rest ≡ without_slot i queue
first_popped i queue rest None p once some e first none = cc
first_popped i queue rest (Some s) None once (more, f) e first none = let both : s ∷ more ≡ [] = sym f ∙ none in cc
first_popped i queue rest (Some s) (Some t) once (more, f) e first none =
    let both : t ∷ rest ≡ s ∷ more = sym first ∙ f in
    let head : t ≡ s = cc in
    let same : s ≡ i = (nat_decides s i).0 e in
    first_left i queue rest once (first ∙ ap (λ (k : ℕ). k ∷ rest) (head ∙ same))

-- ---- the slots after a change

occupant_set : {V : Type 0} (slots : List (Slot V)) (i j : ℕ) (e h : Occupant V) → slice_get (slice_set slots i (Some e)) j ≡ Some (Some h) → ((i ≡ j) × (e ≡ h)) ⊎ ((i ≢ j) × (slice_get slots j ≡ Some (Some h)))
occupant_set [] i j e h k = cc
occupant_set (o ∷ slots) zero zero e h k = inl (refl, cc)
occupant_set (o ∷ slots) zero (suc j) e h k = inr (omega arith, k)
occupant_set (o ∷ slots) (suc i) zero e h k = inr (omega arith, k)
occupant_set {V} (o ∷ slots) (suc i) (suc j) e h k = go (occupant_set slots i j e h k)
  where
    go : ((i ≡ j) × (e ≡ h)) ⊎ ((i ≢ j) × (slice_get slots j ≡ Some (Some h))) → ((suc i ≡ suc j) × (e ≡ h)) ⊎ ((suc i ≢ suc j) × (slice_get slots j ≡ Some (Some h)))
    go (inl s) = inl (ap suc s.0, s.1)
    go (inr s) = inr (λ (same : suc i ≡ suc j). s.0 (omega (arith, same)), s.1)

occupant_none : {V : Type 0} (slots : List (Slot V)) (i j : ℕ) (h : Occupant V) → slice_get (slice_set slots i None) j ≡ Some (Some h) → slice_get slots j ≡ Some (Some h)
occupant_none [] i j h k = k
occupant_none (o ∷ slots) zero zero h k = cc
occupant_none (o ∷ slots) zero (suc j) h k = k
occupant_none (o ∷ slots) (suc i) zero h k = k
occupant_none (o ∷ slots) (suc i) (suc j) h k = occupant_none slots i j h k

occupant_more : {V : Type 0} (slots : List (Slot V)) (e h : Occupant V) (j : ℕ) → slice_get (slots ++ Some e ∷ []) j ≡ Some (Some h) → ((length slots ≡ j) × (e ≡ h)) ⊎ (slice_get slots j ≡ Some (Some h))
occupant_more [] e h zero k = inl (refl, cc)
occupant_more [] e h (suc j) k = cc
occupant_more (o ∷ slots) e h zero k = inr k
occupant_more {V} (o ∷ slots) e h (suc j) k = go (occupant_more slots e h j k)
  where
    go : ((length slots ≡ j) × (e ≡ h)) ⊎ (slice_get slots j ≡ Some (Some h)) → ((suc (length slots) ≡ suc j) × (e ≡ h)) ⊎ (slice_get slots j ≡ Some (Some h))
    go (inl s) = inl (ap suc s.0, s.1)
    go (inr s) = inr s

occupant_woken : {V : Type 0} (x : Event) (slots : List (Slot V)) (j : ℕ) (h : Occupant V) → slice_get (map (wake_slot x) slots) j ≡ Some (Some h) → (g : Occupant V) × (slice_get slots j ≡ Some (Some g)) × (h.mode ≡ wake_by x g.mode)
occupant_woken x [] j h k = cc
occupant_woken x (None ∷ slots) zero h k = cc
occupant_woken {V} x (Some g ∷ slots) zero h k =
    let same : record g { mode = wake_by x g.mode } ≡ h = cc in
    (g, refl, ap (λ (o : Occupant V). o.mode) (sym same))
occupant_woken x (o ∷ slots) (suc j) h k = occupant_woken x slots j h k

-- ---- those that are woken

waits_there : {V : Type 0} (x : Event) (slots : List (Slot V)) (k : ℕ) → awaits_at x slots k ≡ true → IsAwaitingAt slots k x
waits_there x [] k e = cc
waits_there x (None ∷ slots) zero e = cc
waits_there x (Some h ∷ slots) zero e = (h, refl, e)
waits_there x (o ∷ slots) (suc k) e = waits_there x slots k e

-- each of them waited
woken_waits : {V : Type 0} (x : Event) (slots : List (Slot V)) (keys : List ℕ) (j : ℕ) → Contains (woken x slots keys) j → IsAwaitingAt slots j x
woken_waits x slots [] j c = absurd (nothing j c)
woken_waits {V} x slots (k ∷ keys) j c = go (awaits_at x slots k) refl (λ d. (waits_before x slots k j (woken_waits x (wake_slot_at x slots k) keys j d)).1) c
  where
    others : List ℕ
    others = woken x (wake_slot_at x slots k) keys

    first : awaits_at x slots k ≡ true → (Contains others j → IsAwaitingAt slots j x) → (k ≡ j) ⊎ Contains others j → IsAwaitingAt slots j x
    first e rest (inl same) = subst (λ (i : ℕ). IsAwaitingAt slots i x) same (waits_there x slots k e)
    first e rest (inr d) = rest d

    go : (b : Bool) → awaits_at x slots k ≡ b → (Contains others j → IsAwaitingAt slots j x) → Contains (cond b (k ∷ []) [] ++ others) j → IsAwaitingAt slots j x
    go true e rest d = first e rest (Contains-cons_cases k j others d)
    go false e rest d = rest d

-- each once
woken_once : {V : Type 0} (x : Event) (slots : List (Slot V)) (keys : List ℕ) → AreDistinct (woken x slots keys)
woken_once x slots [] = tt
woken_once {V} x slots (k ∷ keys) = go (awaits_at x slots k) (woken_once x (wake_slot_at x slots k) keys)
  where
    others : List ℕ
    others = woken x (wake_slot_at x slots k) keys

    apart : (j : ℕ) → Contains others j → k ≢ j
    apart j c same = (waits_before x slots k j (woken_waits x (wake_slot_at x slots k) keys j c)).0 (sym same)

    go : (b : Bool) → AreDistinct others → AreDistinct (cond b (k ∷ []) [] ++ others)
    go true rest = (each_in (λ (j : ℕ). k ≢ j) others apart, rest)
    go false rest = rest

-- ---- what keeps the order

pub ordered_none : {V : Type 0} (slots : List (Slot V)) (queue : List ℕ) → queue ≡ [] → IsOrdered slots queue
ordered_none {V} slots queue e = rw e empty
  where
    empty : IsOrdered slots []
    empty = record { ready = λ j h c at. absurd (nothing j c); once = tt }

-- a part of the queue
ordered_part : {V : Type 0} (slots : List (Slot V)) (queue part : List ℕ) → IsOrdered slots queue → ((j : ℕ) → Contains part j → Contains queue j) → AreDistinct part → IsOrdered slots part
ordered_part slots queue part h inside once = record { ready = λ j k c at. h.ready j k (inside j c) at; once = once }

pub ordered_rest : {V : Type 0} (slots : List (Slot V)) (queue rest : List ℕ) → IsOrdered slots queue → IsRest slots queue rest → IsOrdered slots rest
ordered_rest slots queue rest h (front, e, still) =
    ordered_part slots queue rest h (λ j c. subst (λ (js : List ℕ). Contains js j) (sym e) (Contains-append_right front rest j c)) (distinct_right front rest (subst AreDistinct e h.once))

pub ordered_left : {V : Type 0} (slots : List (Slot V)) (queue rest : List ℕ) (i : ℕ) → IsOrdered slots queue → HasLeft i queue rest → IsOrdered slots rest
ordered_left {V} slots queue rest i h (inl same) = subst (λ (js : List ℕ). IsOrdered slots js) (sym same) h
ordered_left slots queue rest i h (inr first) =
    ordered_part slots queue rest h (λ j c. subst (λ (js : List ℕ). Contains js j) (sym first) (Contains-tail i j rest c)) (subst AreDistinct first h.once).1

pub ordered_rotated : {V : Type 0} (slots : List (Slot V)) (queue now : List ℕ) → IsOrdered slots queue → ((i : ℕ) (rest : List ℕ) → queue ≡ i ∷ rest → now ≡ rest ++ i ∷ []) → (queue ≡ [] → now ≡ []) → IsOrdered slots now
ordered_rotated {V} slots [] now h turns empty = subst (λ (js : List ℕ). IsOrdered slots js) (sym (empty refl)) h
ordered_rotated {V} slots (i ∷ rest) now h turns empty =
    subst (λ (js : List ℕ). IsOrdered slots js) (sym (turns i rest refl))
    (ordered_part slots (i ∷ rest) (rest ++ i ∷ []) h (λ j c. back j (Contains-push_cases rest i j c)) (distinct_push rest i h.once.1 (λ c. Each-member (λ (j : ℕ). i ≢ j) rest i h.once.0 c refl)))
  where
    back : (j : ℕ) → Contains rest j ⊎ (i ≡ j) → Contains (i ∷ rest) j
    back j (inl c) = Contains-tail i j rest c
    back j (inr e) = subst (Contains (i ∷ rest)) e (Contains-head i rest)

-- ---- one thread stands otherwise

-- it waits, and is not in the queue any more
pub ordered_waits : {V : Type 0} (slots now : List (Slot V)) (queue less : List ℕ) (i : ℕ) (new : Occupant V) → IsOrdered slots queue → now ≡ slice_set slots i (Some new) → less ≡ without_slot i queue → IsOrdered now less
ordered_waits {V} slots now queue less i new h e f =
    subst (λ (l : List (Slot V)). IsOrdered l less) (sym e) (subst (λ (js : List ℕ). IsOrdered (slice_set slots i (Some new)) js) (sym f) (record {
      ready = λ j k c there. goes j k (within i queue j c) (occupant_set slots i j new k there);
      once = distinct_without i queue h.once;
    }))
  where
    goes : (j : ℕ) (k : Occupant V) → Contains queue j × (i ≢ j) → ((i ≡ j) × (new ≡ k)) ⊎ ((i ≢ j) × (slice_get slots j ≡ Some (Some k))) → k.mode ≡ mode.Runs
    goes j k c (inl s) = absurd (c.1 s.0)
    goes j k c (inr s) = h.ready j k c.0 s.1

-- it waited, and can go on
pub ordered_runs : {V : Type 0} (slots now : List (Slot V)) (queue more : List ℕ) (i : ℕ) (old new : Occupant V) → IsOrdered slots queue → slice_get slots i ≡ Some (Some old) → old.mode ≢ mode.Runs → new.mode ≡ mode.Runs → now ≡ slice_set slots i (Some new) →
    more ≡ queue ++ i ∷ [] → IsOrdered now more
ordered_runs {V} slots now queue more i old new h at waited runs e f =
    subst (λ (l : List (Slot V)). IsOrdered l more) (sym e) (subst (λ (js : List ℕ). IsOrdered (slice_set slots i (Some new)) js) (sym f) (record {
      ready = λ j k c there. goes j k (Contains-push_cases queue i j c) (occupant_set slots i j new k there);
      once = distinct_push queue i h.once (λ c. waited (h.ready i old c at));
    }))
  where
    goes : (j : ℕ) (k : Occupant V) → Contains queue j ⊎ (i ≡ j) → ((i ≡ j) × (new ≡ k)) ⊎ ((i ≢ j) × (slice_get slots j ≡ Some (Some k))) → k.mode ≡ mode.Runs
    goes j k c (inl s) = ap (λ (o : Occupant V). o.mode) (sym s.1) ∙ runs
    goes j k (inl c) (inr s) = h.ready j k c s.1
    goes j k (inr same) (inr s) = absurd (s.0 same)

-- its value is another
pub ordered_value : {V : Type 0} (slots : List (Slot V)) (queue : List ℕ) (i : ℕ) (old : Occupant V) (v : V) → IsOrdered slots queue → slice_get slots i ≡ Some (Some old) → IsOrdered (slice_set slots i (Some (record old { value = v }))) queue
ordered_value {V} slots queue i old v h at = record { ready = λ j k c there. goes j k c (occupant_set slots i j new k there); once = h.once }
  where
    new : Occupant V
    new = record old { value = v }

    goes : (j : ℕ) (k : Occupant V) → Contains queue j → ((i ≡ j) × (new ≡ k)) ⊎ ((i ≢ j) × (slice_get slots j ≡ Some (Some k))) → k.mode ≡ mode.Runs
    goes j k c (inl s) = ap (λ (o : Occupant V). o.mode) (sym s.1) ∙ h.ready i old (subst (Contains queue) (sym s.0) c) at
    goes j k c (inr s) = h.ready j k c s.1

-- ---- a thread ends, one is born, some go on

pub ordered_end : {V : Type 0} (slots now : List (Slot V)) (queue : List ℕ) (i : ℕ) → IsOrdered slots queue → now ≡ slice_set slots i None → IsOrdered now queue
ordered_end {V} slots now queue i h e = subst (λ (l : List (Slot V)). IsOrdered l queue) (sym e) (record { ready = λ j k c there. h.ready j k c (occupant_none slots i j k there); once = h.once })

pub ordered_born : {V : Type 0} (slots now : List (Slot V)) (queue more : List ℕ) (new : Occupant V) → IsOrdered slots queue → AreInside slots queue → new.mode ≡ mode.Runs → now ≡ slots ++ Some new ∷ [] → more ≡ queue ++ length slots ∷ [] → IsOrdered now more
ordered_born {V} slots now queue more new h inside runs e f =
    subst (λ (l : List (Slot V)). IsOrdered l more) (sym e) (subst (λ (js : List ℕ). IsOrdered (slots ++ Some new ∷ []) js) (sym f) (record {
      ready = λ j k c there. goes j k (Contains-push_cases queue (length slots) j c) (occupant_more slots new k j there);
      once = distinct_push queue (length slots) h.once out;
    }))
  where
    out : Contains queue (length slots) → ⊥
    out c = let below : length slots < length slots = Each-member (λ (j : ℕ). j < length slots) queue (length slots) inside c in absurd (omega (arith, below))

    past : (l : List (Slot V)) (j : ℕ) (k : Occupant V) → length l ≡ j → slice_get l j ≡ Some (Some k) → ⊥
    past [] j k same s = cc
    past (o ∷ l) zero k same s = cc
    past (o ∷ l) (suc j) k same s = past l j k (omega (arith, same)) s

    goes : (j : ℕ) (k : Occupant V) → Contains queue j ⊎ (length slots ≡ j) → ((length slots ≡ j) × (new ≡ k)) ⊎ (slice_get slots j ≡ Some (Some k)) → k.mode ≡ mode.Runs
    goes j k c (inl s) = ap (λ (o : Occupant V). o.mode) (sym s.1) ∙ runs
    goes j k (inl c) (inr s) = h.ready j k c s
    goes j k (inr same) (inr s) = absurd (past slots j k same s)

-- those that wait for a variable go on, behind the others
pub ordered_woken : {V : Type 0} (x : Event) (slots now : List (Slot V)) (queue more keys : List ℕ) → IsOrdered slots queue → now ≡ map (wake_slot x) slots → more ≡ queue ++ woken x slots keys → IsOrdered now more
ordered_woken {V} x slots now queue more keys h e f =
    subst (λ (l : List (Slot V)). IsOrdered l more) (sym e) (subst (λ (js : List ℕ). IsOrdered (map (wake_slot x) slots) js) (sym f) (record {
      ready = λ j k c there. goes j k (Contains-append_cases queue (woken x slots keys) j c) (occupant_woken x slots j k there);
      once = distinct_append queue (woken x slots keys) h.once (woken_once x slots keys) (λ j c d. apart j c (woken_waits x slots keys j d));
    }))
  where
    apart : (j : ℕ) → Contains queue j → IsAwaitingAt slots j x → ⊥
    apart j c (o, at, is) = let runs : o.mode ≡ mode.Runs = h.ready j o c at in let never : wakes x o.mode ≡ false = ap (wakes x) runs ∙ never_waits x in let both : true ≡ false = sym is ∙ never in cc

    waited : (j : ℕ) (o : Occupant V) → slice_get slots j ≡ Some (Some o) → IsAwaitingAt slots j x → wakes x o.mode ≡ true
    waited j o at (g, there, is) =
        let both : Some (Some o) ≡ Some (Some g) = sym at ∙ there in
        let same : Some o ≡ Some g = cc in
        ap (λ (p : Slot V). wakes x (mode_in p)) same ∙ is

    goes : (j : ℕ) (k : Occupant V) → Contains queue j ⊎ Contains (woken x slots keys) j → (g : Occupant V) × (slice_get slots j ≡ Some (Some g)) × (k.mode ≡ wake_by x g.mode) → k.mode ≡ mode.Runs
    goes j k (inl c) (o, at, is) = is ∙ (ap (wake_by x) (h.ready j o c at) ∙ runs_on x)
    goes j k (inr c) (o, at, is) = is ∙ ap (λ (b : Bool). cond b mode.Runs o.mode) (waited j o at (woken_waits x slots keys j c))
