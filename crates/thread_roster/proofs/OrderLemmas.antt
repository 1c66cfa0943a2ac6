-- The names of the threads in the slots of a queue, as threads change.
use Rattle.std.proofs.Common.{arith, ◌≡◌, ◌≢◌, ◌∙◌, sym, ap, refl, subst, ℕ, ◌<◌, zero, suc, length, map, inl, inr, List, [], ◌∷◌, ◌++◌, append_assoc, Bool, true, false, not, cond, Some, None}
use Rattle.std.specs.Prelude.{Option, slice_set, slice_get, Contains, IfSome, IfNone, ◌==◌}
use Rattle.std.proofs.lemmas.Bool.Decides.{Decides-eqb as nat_decides}
use Rattle.std.proofs.lemmas.List.Elements.{Contains-append_left}
use Rattle.thread_roster.specs.declared.mode.Event.{Event}
use Rattle.tree_node.specs.declared.names.ThreadName.{ThreadName}
use Rattle.tree_node.specs.Each.{Each, AreDistinct}
use Rattle.tree_node.specs.State.{equal_thread}
use Rattle.tree_node.proofs.ClassLemmas.{Contains-head, Contains-tail}
use Rattle.tree_node.proofs.ListLemmas.{get_last}
use Rattle.thread_roster.specs.declared.mode.Mode.TheVariants as mode
use Rattle.thread_roster.specs.declared.slot.Occupant.{Occupant}
use Rattle.thread_roster.specs.Invariant.{IsOrdered}
use Rattle.thread_roster.specs.Order.{without_name, rotated}
use Rattle.thread_roster.specs.Slots.{Slot, IsNotSlotOf, IsOnlyAt, ArePlaced, IsModeAt, AreInside, wake_slot, without_slot, name_in, names_at, HasLeft, IsRest, IsNext}
use Rattle.thread_roster.proofs.NameLemmas.{is_same, is_other}
use Rattle.thread_roster.proofs.SlotLemmas.{held_at, only_at, placed_there}
use Rattle.thread_roster.proofs.QueueLemmas.{ordered_rest}

-- ---- lists of slots

pub names_append : {V : Type 0} (slots : List (Slot V)) (xs ys : List ℕ) → names_at slots (xs ++ ys) ≡ names_at slots xs ++ names_at slots ys
names_append slots [] ys = refl
names_append {V} slots (x ∷ xs) ys =
    ap (λ (l : List ThreadName). name_in (slice_get slots x) ++ l) (names_append slots xs ys) ∙ sym (append_assoc (name_in (slice_get slots x)) (names_at slots xs) (names_at slots ys))

-- slots with the same names
pub names_same : {V : Type 0} (slots now : List (Slot V)) → ((j : ℕ) → name_in (slice_get now j) ≡ name_in (slice_get slots j)) → (js : List ℕ) → names_at now js ≡ names_at slots js
names_same slots now h [] = refl
names_same {V} slots now h (j ∷ js) =
    ap (λ (l : List ThreadName). l ++ names_at now js) (h j) ∙ ap (λ (l : List ThreadName). name_in (slice_get slots j) ++ l) (names_same slots now h js)

-- another thread of the same name in a slot
name_put : {V : Type 0} (slots : List (Slot V)) (i : ℕ) (h k : Occupant V) → slice_get slots i ≡ Some (Some h) → k.name ≡ h.name → (j : ℕ) → name_in (slice_get (slice_set slots i (Some k)) j) ≡ name_in (slice_get slots j)
name_put [] i h k at same j = refl
name_put {V} (o ∷ slots) zero h k at same zero =
    let here : o ≡ Some h = cc in
    rw (here, same) refl
name_put (o ∷ slots) zero h k at same (suc j) = refl
name_put (o ∷ slots) (suc i) h k at same zero = refl
name_put (o ∷ slots) (suc i) h k at same (suc j) = name_put slots i h k at same j

pub names_put : {V : Type 0} (slots now : List (Slot V)) (i : ℕ) (h k : Occupant V) → slice_get slots i ≡ Some (Some h) → k.name ≡ h.name → now ≡ slice_set slots i (Some k) → (js : List ℕ) → names_at now js ≡ names_at slots js
names_put {V} slots now i h k at same e js = ap (λ (l : List (Slot V)). names_at l js) e ∙ names_same slots (slice_set slots i (Some k)) (name_put slots i h k at same) js

name_woken : {V : Type 0} (x : Event) (slots : List (Slot V)) (j : ℕ) → name_in (slice_get (map (wake_slot x) slots) j) ≡ name_in (slice_get slots j)
name_woken x [] j = refl
name_woken x (None ∷ slots) zero = refl
name_woken x (Some h ∷ slots) zero = refl
name_woken x (o ∷ slots) (suc j) = name_woken x slots j

pub names_woken : {V : Type 0} (x : Event) (slots now : List (Slot V)) → now ≡ map (wake_slot x) slots → (js : List ℕ) → names_at now js ≡ names_at slots js
names_woken {V} x slots now e js = ap (λ (l : List (Slot V)). names_at l js) e ∙ names_same slots (map (wake_slot x) slots) (name_woken x slots) js

-- ---- without a name

pub name_append : (n : ThreadName) (xs ys : List ThreadName) → without_name n (xs ++ ys) ≡ without_name n xs ++ without_name n ys
name_append n [] ys = refl
name_append n (x ∷ xs) ys = go (not (equal_thread x n)) (name_append n xs ys)
  where
    go : (b : Bool) → without_name n (xs ++ ys) ≡ without_name n xs ++ without_name n ys →
        cond b (x ∷ without_name n (xs ++ ys)) (without_name n (xs ++ ys)) ≡ cond b (x ∷ without_name n xs) (without_name n xs) ++ without_name n ys
    go true ih = ap (λ (l : List ThreadName). x ∷ l) ih
    go false ih = ih

lacks_name : {V : Type 0} (n : ThreadName) (slots : List (Slot V)) (j : ℕ) → Each (IsNotSlotOf n) slots → without_name n (name_in (slice_get slots j)) ≡ name_in (slice_get slots j)
lacks_name n [] j h = refl
lacks_name n (None ∷ slots) zero h = refl
lacks_name n (Some k ∷ slots) zero h = rw (is_other k.name n h.0) refl
lacks_name n (o ∷ slots) (suc j) h = lacks_name n slots j h.1

-- a slot other than that of the name
only_other : {V : Type 0} (n : ThreadName) (slots : List (Slot V)) (i j : ℕ) → IsOnlyAt n slots i → i ≢ j → without_name n (name_in (slice_get slots j)) ≡ name_in (slice_get slots j)
only_other n [] i j h differs = absurd h
only_other n (o ∷ slots) zero zero h differs = absurd (differs refl)
only_other n (o ∷ slots) zero (suc j) h differs = lacks_name n slots j h.1
only_other n (None ∷ slots) (suc i) zero h differs = refl
only_other n (Some k ∷ slots) (suc i) zero h differs = rw (is_other k.name n h.0) refl
only_other n (o ∷ slots) (suc i) (suc j) h differs = only_other n slots i j h.1 (λ e. differs (ap suc e))

-- the slot of the name
only_here : {V : Type 0} (n : ThreadName) (slots : List (Slot V)) (i : ℕ) → IsOnlyAt n slots i → name_in (slice_get slots i) ≡ n ∷ []
only_here n slots i h =
    let held = held_at slots n i h in
    ap name_in held.1 ∙ ap (λ (m : ThreadName). m ∷ []) held.2

none_here : (n : ThreadName) → without_name n (n ∷ []) ≡ []
none_here n = rw (is_same n n refl) refl

-- slots other than that of the name
pub names_other : {V : Type 0} (n : ThreadName) (slots : List (Slot V)) (i : ℕ) → IsOnlyAt n slots i → (js : List ℕ) → Each (λ (j : ℕ). i ≢ j) js → without_name n (names_at slots js) ≡ names_at slots js
names_other n slots i h [] differ = refl
names_other {V} n slots i h (j ∷ js) differ =
    name_append n (name_in (slice_get slots j)) (names_at slots js)
    ∙ (ap (λ (l : List ThreadName). l ++ without_name n (names_at slots js)) (only_other n slots i j h differ.0)
    ∙ ap (λ (l : List ThreadName). name_in (slice_get slots j) ++ l) (names_other n slots i h js differ.1))

-- the slot of the name leaves
pub names_without : {V : Type 0} (n : ThreadName) (slots : List (Slot V)) (i : ℕ) (js : List ℕ) → IsOnlyAt n slots i → names_at slots (without_slot i js) ≡ without_name n (names_at slots js)
names_without n slots i [] h = refl
names_without {V} n slots i (j ∷ js) h = go (i == j) refl (names_without n slots i js h)
  where
    both : without_name n (name_in (slice_get slots j) ++ names_at slots js) ≡ without_name n (name_in (slice_get slots j)) ++ without_name n (names_at slots js)
    both = name_append n (name_in (slice_get slots j)) (names_at slots js)

    gone : i ≡ j → without_name n (name_in (slice_get slots j)) ≡ []
    gone same = ap (λ (k : ℕ). without_name n (name_in (slice_get slots k))) (sym same) ∙ (ap (without_name n) (only_here n slots i h) ∙ none_here n)

    go : (b : Bool) → (i == j) ≡ b → names_at slots (without_slot i js) ≡ without_name n (names_at slots js) →
        names_at slots (cond (not b) (j ∷ without_slot i js) (without_slot i js)) ≡ without_name n (name_in (slice_get slots j) ++ names_at slots js)
    go true e ih = ih ∙ sym (both ∙ ap (λ (l : List ThreadName). l ++ without_name n (names_at slots js)) (gone ((nat_decides i j).0 e)))
    go false e ih =
        let differs : i ≢ j = λ same. (let yes : (i == j) ≡ true = (nat_decides i j).1 same in cc) in
        ap (λ (l : List ThreadName). name_in (slice_get slots j) ++ l) ih
        ∙ sym (both ∙ ap (λ (l : List ThreadName). l ++ without_name n (names_at slots js)) (only_other n slots i j h differs))

-- the thread ends
cleared_at : {V : Type 0} (n : ThreadName) (slots : List (Slot V)) (i : ℕ) → IsOnlyAt n slots i → (j : ℕ) → name_in (slice_get (slice_set slots i None) j) ≡ without_name n (name_in (slice_get slots j))
cleared_at n [] i h j = absurd h
cleared_at n (None ∷ slots) zero h j = absurd h.0
cleared_at n (Some k ∷ slots) zero h zero = rw (is_same k.name n h.0) refl
cleared_at n (Some k ∷ slots) zero h (suc j) = sym (lacks_name n slots j h.1)
cleared_at n (None ∷ slots) (suc i) h zero = refl
cleared_at n (Some k ∷ slots) (suc i) h zero = rw (is_other k.name n h.0) refl
cleared_at n (o ∷ slots) (suc i) h (suc j) = cleared_at n slots i h.1 j

pub names_cleared : {V : Type 0} (n : ThreadName) (slots now : List (Slot V)) (i : ℕ) → IsOnlyAt n slots i → now ≡ slice_set slots i None → (js : List ℕ) → names_at now js ≡ without_name n (names_at slots js)
names_cleared {V} n slots now i h e js = ap (λ (l : List (Slot V)). names_at l js) e ∙ go js
  where
    go : (ks : List ℕ) → names_at (slice_set slots i None) ks ≡ without_name n (names_at slots ks)
    go [] = refl
    go (j ∷ ks) =
        ap (λ (l : List ThreadName). l ++ names_at (slice_set slots i None) ks) (cleared_at n slots i h j)
        ∙ (ap (λ (l : List ThreadName). without_name n (name_in (slice_get slots j)) ++ l) (go ks) ∙ sym (name_append n (name_in (slice_get slots j)) (names_at slots ks)))

-- ---- a thread is born

get_left : {X : Type 0} (xs : List X) (x : X) (j : ℕ) → j < length xs → slice_get (xs ++ x ∷ []) j ≡ slice_get xs j
get_left [] x j below = absurd (omega (arith, below))
get_left (y ∷ xs) x zero below = refl
get_left (y ∷ xs) x (suc j) below = get_left xs x j (omega (arith, below))

pub names_born : {V : Type 0} (slots now : List (Slot V)) (o : Slot V) → now ≡ slots ++ o ∷ [] → (js : List ℕ) → AreInside slots js → names_at now js ≡ names_at slots js
names_born {V} slots now o e js inside = ap (λ (l : List (Slot V)). names_at l js) e ∙ go js inside
  where
    go : (ks : List ℕ) → AreInside slots ks → names_at (slots ++ o ∷ []) ks ≡ names_at slots ks
    go [] h = refl
    go (j ∷ ks) h =
        ap (λ (p : Option (Slot V)). name_in p ++ names_at (slots ++ o ∷ []) ks) (get_left slots o j h.0) ∙ ap (λ (l : List ThreadName). name_in (slice_get slots j) ++ l) (go ks h.1)

pub order_born : {V : Type 0} (slots now : List (Slot V)) (h : Occupant V) (queue more : List ℕ) → now ≡ slots ++ Some h ∷ [] → more ≡ queue ++ length slots ∷ [] → AreInside slots queue → names_at now more ≡ names_at slots queue ++ h.name ∷ []
order_born {V} slots now h queue more e f inside =
    ap (λ (js : List ℕ). names_at now js) f
    ∙ (names_append now queue (length slots ∷ [])
    ∙ (ap (λ (l : List ThreadName). l ++ names_at now (length slots ∷ [])) (names_born slots now (Some h) e queue inside)
    ∙ ap (λ (l : List ThreadName). names_at slots queue ++ l) last))
  where
    last : names_at now (length slots ∷ []) ≡ h.name ∷ []
    last = ap (λ (l : List (Slot V)). name_in (slice_get l (length slots)) ++ []) e ∙ ap (λ (p : Option (Slot V)). name_in p ++ []) (get_last slots (Some h))

-- ---- the queue is looked at from its front

name_none : {V : Type 0} (slots : List (Slot V)) (j : ℕ) → ((h : Occupant V) → slice_get slots j ≡ Some (Some h) → ⊥) → name_in (slice_get slots j) ≡ []
name_none {V} slots j absent = go (slice_get slots j) refl
  where
    go : (o : Option (Slot V)) → slice_get slots j ≡ o → name_in o ≡ []
    go None e = refl
    go (Some None) e = refl
    go (Some (Some h)) e = absurd (absent h e)

-- slots that leave the front are of ended threads
pub names_rest : {V : Type 0} (slots : List (Slot V)) (queue rest : List ℕ) → IsOrdered slots queue → IsRest slots queue rest → names_at slots queue ≡ names_at slots rest
names_rest {V} slots queue rest h (front, e, still) =
    ap (λ (js : List ℕ). names_at slots js) e ∙ go front still (λ j c. subst (λ (js : List ℕ). Contains js j) (sym e) (Contains-append_left front rest j c))
  where
    go : (js : List ℕ) → Each (λ (j : ℕ). IsModeAt slots j mode.Runs → ⊥) js → ((j : ℕ) → Contains js j → Contains queue j) → names_at slots (js ++ rest) ≡ names_at slots rest
    go [] s inside = refl
    go (j ∷ js) s inside =
        ap (λ (l : List ThreadName). l ++ names_at slots (js ++ rest)) (name_none slots j (λ k at. s.0 (k, at, h.ready j k (inside j (Contains-head j js)) at)))
        ∙ go js s.1 (λ k c. inside k (Contains-tail j k js c))

-- the first slot is of a thread that can go on
pub names_next : {V : Type 0} (slots : List (Slot V)) (queue : List ℕ) (n : ThreadName) (next : IsNext slots queue n) → names_at slots queue ≡ n ∷ names_at slots next.1
names_next {V} slots queue n (i, rest, h, e, at, name, runs) =
    ap (λ (js : List ℕ). names_at slots js) e ∙ (ap (λ (p : Option (Slot V)). name_in p ++ names_at slots rest) at ∙ ap (λ (m : ThreadName). m ∷ names_at slots rest) name)

pub order_rotated : {V : Type 0} (slots : List (Slot V)) (queue rest now : List ℕ) (o : Option ThreadName) → IsOrdered slots queue → IsRest slots queue rest → IfSome o (λ n. IsNext slots rest n) → IfNone o (rest ≡ []) →
    ((i : ℕ) (more : List ℕ) → rest ≡ i ∷ more → now ≡ more ++ i ∷ []) → (rest ≡ [] → now ≡ []) → names_at slots now ≡ rotated (names_at slots queue)
order_rotated {V} slots queue rest now None h left some none turns empty =
    ap (λ (js : List ℕ). names_at slots js) (empty none) ∙ sym (ap rotated (names_rest slots queue rest h left ∙ ap (λ (js : List ℕ). names_at slots js) none))
order_rotated {V} slots queue rest now (Some n) h left (i, more, k, e, at, name, runs) none turns empty =
    ap (λ (js : List ℕ). names_at slots js) (turns i more e)
    ∙ (names_append slots more (i ∷ [])
    ∙ (ap (λ (p : Option (Slot V)). names_at slots more ++ (name_in p ++ [])) at
    ∙ (ap (λ (m : ThreadName). names_at slots more ++ m ∷ []) name
    ∙ sym (ap rotated (names_rest slots queue rest h left ∙ names_next slots rest n (i, more, k, e, at, name, runs))))))

-- ---- what a call leaves

-- the slot of a thread alone
name_at : {V : Type 0} (slots : List (Slot V)) (n : ThreadName) (i : ℕ) (h : Occupant V) → slice_get slots i ≡ Some (Some h) → h.name ≡ n → names_at slots (i ∷ []) ≡ n ∷ []
name_at {V} slots n i h at is = ap (λ (p : Option (Slot V)). name_in p ++ []) at ∙ ap (λ (m : ThreadName). m ∷ []) is

-- a thread leaves the order
pub order_less : {V : Type 0} (slots now : List (Slot V)) (queue less : List ℕ) (slot : ThreadName → Option ℕ) (n : ThreadName) (i : ℕ) (h k : Occupant V) → ArePlaced slots slot → slot n ≡ Some i → slice_get slots i ≡ Some (Some h) → k.name ≡ h.name →
    now ≡ slice_set slots i (Some k) → less ≡ without_slot i queue → names_at now less ≡ without_name n (names_at slots queue)
order_less {V} slots now queue less slot n i h k placed there at same e f =
    names_put slots now i h k at same e less ∙ (ap (λ (js : List ℕ). names_at slots js) f ∙ names_without n slots i queue (only_at slots slot n i placed there))

-- one comes behind the others
pub order_more : {V : Type 0} (slots now : List (Slot V)) (queue more : List ℕ) (n : ThreadName) (i : ℕ) (h k : Occupant V) → slice_get slots i ≡ Some (Some h) → h.name ≡ n → k.name ≡ h.name → now ≡ slice_set slots i (Some k) → more ≡ queue ++ i ∷ [] →
    names_at now more ≡ names_at slots queue ++ n ∷ []
order_more {V} slots now queue more n i h k at is same e f =
    names_put slots now i h k at same e more
    ∙ (ap (λ (js : List ℕ). names_at slots js) f ∙ (names_append slots queue (i ∷ []) ∙ ap (λ (l : List ThreadName). names_at slots queue ++ l) (name_at slots n i h at is)))

-- those that wait for a variable come behind the others
pub order_woken : {V : Type 0} (x : Event) (slots now : List (Slot V)) (queue more woken : List ℕ) → now ≡ map (wake_slot x) slots → more ≡ queue ++ woken → names_at now more ≡ names_at slots queue ++ names_at slots woken
order_woken {V} x slots now queue more woken e f = names_woken x slots now e more ∙ (ap (λ (js : List ℕ). names_at slots js) f ∙ names_append slots queue woken)

-- a thread has ended
pub order_ended : {V : Type 0} (n : ThreadName) (slots now : List (Slot V)) (i : ℕ) (queue rest : List ℕ) → IsOnlyAt n slots i → now ≡ slice_set slots i None → HasLeft i queue rest → names_at now rest ≡ without_name n (names_at slots queue)
order_ended {V} n slots now i queue rest h e (inl same) = names_cleared n slots now i h e rest ∙ ap (λ (js : List ℕ). without_name n (names_at slots js)) same
order_ended {V} n slots now i queue rest h e (inr first) =
    names_cleared n slots now i h e rest
    ∙ sym (ap (λ (js : List ℕ). without_name n (names_at slots js)) first
    ∙ (name_append n (name_in (slice_get slots i)) (names_at slots rest)
    ∙ ap (λ (l : List ThreadName). l ++ without_name n (names_at slots rest)) (ap (without_name n) (only_here n slots i h) ∙ none_here n)))

-- the first of the queue is the first in the order, and is there once
pub order_first : {V : Type 0} (slots : List (Slot V)) (slot : ThreadName → Option ℕ) (queue rest : List ℕ) (o : Option ThreadName) → ArePlaced slots slot → IsOrdered slots queue → IsRest slots queue rest →
    IfSome o (λ n. IsNext slots rest n) → IfSome o (λ n. (more : List ThreadName) × (names_at slots queue ≡ n ∷ more) × (without_name n more ≡ more))
order_first slots slot queue rest None placed h left next = tt
order_first {V} slots slot queue rest (Some n) placed h left (i, more, k, e, at, name, runs) = (
  names_at slots more,
  names_rest slots queue rest h left ∙ names_next slots rest n (i, more, k, e, at, name, runs),
  names_other n slots i (only_at slots slot n i placed (placed_there slots slot i k n placed at name)) more apart,
)
  where
    once : AreDistinct (i ∷ more)
    once = subst AreDistinct e (ordered_rest slots queue rest h left).once

    apart : Each (λ (j : ℕ). i ≢ j) more
    apart = once.0

pub order_empty : {V : Type 0} (slots : List (Slot V)) (queue rest : List ℕ) (o : Option ThreadName) → IsOrdered slots queue → IsRest slots queue rest → IfNone o (rest ≡ []) → IfNone o (names_at slots queue ≡ [])
order_empty {V} slots queue rest None h left none = names_rest slots queue rest h left ∙ ap (λ (js : List ℕ). names_at slots js) none
order_empty slots queue rest (Some n) h left none = tt
