-- Threads in slots: each keeps its slot until it has ended, and no slot is used again, so that the order of the slots is
-- that in which threads were born.
use Rattle.std.specs.Prelude.{◌≡◌, ◌≢◌, ℕ, ◌+◌, ◌<◌, zero, suc, List, [], ◌∷◌, ◌++◌, length, Option, Some, None, Bool, false, slice_get, ◌⊎◌, ◌==◌, not, filter, if◌then◌else◌}
use Rattle.std.specs.Map.{lookup}
use Rattle.tree_node.specs.declared.names.VarName.{VarName}
use Rattle.tree_node.specs.declared.names.ThreadName.{ThreadName}
use Rattle.tree_node.specs.Each.{Each}
use Rattle.tree_node.specs.State.{equal_thread}
use Rattle.tree_node.specs.Store.{equal_var}
use Rattle.thread_roster.specs.declared.mode.Event.{Event}
use Rattle.thread_roster.specs.declared.mode.Event.TheVariants.{Bound, Determined}
use Rattle.thread_roster.specs.declared.mode.Mode.{Mode}
use Rattle.thread_roster.specs.declared.mode.Mode.TheVariants.{Runs}
use Rattle.thread_roster.specs.declared.slot.Occupant.{Occupant}
use Rattle.thread_roster.specs.Threads.{Entry, awaits, needs_one, is_waiting}

-- a thread with its value and how it stands; None once it has ended
abbrev pub Slot : Type 0 → Type 0
Slot V = Option (Occupant V)

-- the thread in a slot, as the list of threads has it
abbrev pub entry : {V : Type 0} → Occupant V → Entry V
entry h = (h.name, (h.value, h.mode))

-- those that live, the newest first
abbrev pub threads_in : {V : Type 0} → List (Slot V) → List (Entry V)
threads_in [] = []
threads_in (None ∷ slots) = threads_in slots
threads_in (Some h ∷ slots) = threads_in slots ++ entry h ∷ []

-- the thread in a slot has another value
abbrev pub with_value_in : {V : Type 0} → Slot V → V → Slot V
with_value_in None v = None
with_value_in (Some h) v = Some (record h { value = v })

-- the value of the thread in a slot
abbrev pub value_there : {V : Type 0} → Slot V → Option V
value_there None = None
value_there (Some h) = Some h.value

-- ---- names

-- the thread of this name is not here
abbrev pub IsNotSlotOf : {V : Type 0} → ThreadName → Slot V → Type 0
IsNotSlotOf n None = Unit {0}
IsNotSlotOf n (Some h) = h.name ≢ n

-- the thread of this name is here
abbrev pub IsSlotOf : {V : Type 0} → ThreadName → Slot V → Type 0
IsSlotOf n None = ⊥
IsSlotOf n (Some h) = h.name ≡ n

-- the thread of this name is here, and in no other slot
abbrev pub IsOnlyAt : {V : Type 0} → ThreadName → List (Slot V) → ℕ → Type 0
IsOnlyAt n [] i = ⊥
IsOnlyAt n (o ∷ slots) zero = IsSlotOf n o × Each (IsNotSlotOf n) slots
IsOnlyAt n (o ∷ slots) (suc i) = IsNotSlotOf n o × IsOnlyAt n slots i

-- what a table says of a name
abbrev pub IsPlaced : {V : Type 0} → List (Slot V) → ThreadName → Option ℕ → Type 0
IsPlaced slots n None = Each (IsNotSlotOf n) slots
IsPlaced slots n (Some i) = IsOnlyAt n slots i

-- the table has the slot of each thread
abbrev pub ArePlaced : {V : Type 0} → List (Slot V) → (ThreadName → Option ℕ) → Type 0
ArePlaced slots slot = (n : ThreadName) → IsPlaced slots n (slot n)

-- the slot that a table has for a name
abbrev pub slot_in : List (ThreadName × ℕ) → ThreadName → Option ℕ
slot_in by_name n = lookup (equal_thread n) by_name

-- one name has this slot, or none, and the others theirs
abbrev pub with_slot : (ThreadName → Option ℕ) → ThreadName → Option ℕ → ThreadName → Option ℕ
with_slot slot n o k = if equal_thread n k then o else slot k

-- ---- how threads stand

-- the thread in a slot stands so
abbrev pub IsModeAt : {V : Type 0} → List (Slot V) → ℕ → Mode → Type 0
IsModeAt {V} slots j m = (h : Occupant V) × (slice_get slots j ≡ Some (Some h)) × (h.mode ≡ m)

-- each of these numbers is a place of the list
abbrev pub AreInside : {X : Type 0} → List X → List ℕ → Type 0
AreInside slots js = Each (λ (j : ℕ). j < length slots) js

-- ---- waking

-- the variable to which this happens
abbrev pub var_of : Event → VarName
var_of (Bound x) = x
var_of (Determined x) = x

-- the thread goes on by this: it waits until the variable is bound, alone or among others, or needs its node
abbrev pub wakes : Event → Mode → Bool
wakes (Bound x) m = awaits x m
wakes (Determined x) m = needs_one (λ y. equal_var y x) m

-- a thread that waits for this goes on
abbrev pub wake_by : Event → Mode → Mode
wake_by e m = if wakes e m then Runs else m

-- the thread in a slot goes on, if it waits for this
abbrev pub wake_slot : {V : Type 0} → Event → Slot V → Slot V
wake_slot e None = None
wake_slot e (Some h) = Some (record h { mode = wake_by e h.mode })

-- the thread in one slot
abbrev pub wake_slot_at : {V : Type 0} → Event → List (Slot V) → ℕ → List (Slot V)
wake_slot_at e [] k = []
wake_slot_at e (o ∷ slots) zero = wake_slot e o ∷ slots
wake_slot_at e (o ∷ slots) (suc k) = o ∷ wake_slot_at e slots k

-- those in the slots of these keys
abbrev pub wake_slots : {V : Type 0} → Event → List (Slot V) → List ℕ → List (Slot V)
wake_slots e slots [] = slots
wake_slots e slots (k ∷ keys) = wake_slots e (wake_slot_at e slots k) keys

-- whether the thread in a slot waits for this
abbrev pub awaits_in : {V : Type 0} → Event → Slot V → Bool
awaits_in e None = false
awaits_in e (Some h) = wakes e h.mode

-- whether the thread in one of the slots does
abbrev pub awaits_at : {V : Type 0} → Event → List (Slot V) → ℕ → Bool
awaits_at e [] k = false
awaits_at e (o ∷ slots) zero = awaits_in e o
awaits_at e (o ∷ slots) (suc k) = awaits_at e slots k

-- the key, where the thread in its slot waits for this
abbrev pub woken_at : {V : Type 0} → Event → List (Slot V) → ℕ → List ℕ
woken_at e slots k = if awaits_at e slots k then k ∷ [] else []

-- the keys of the slots whose threads go on, as one after the other does, each once
abbrev pub woken : {V : Type 0} → Event → List (Slot V) → List ℕ → List ℕ
woken e slots [] = []
woken e slots (k ∷ keys) = woken_at e slots k ++ woken e (wake_slot_at e slots k) keys

-- ---- numbers

-- the sum over the threads in slots
abbrev pub total : {V : Type 0} → (Occupant V → ℕ) → List (Slot V) → ℕ
total f [] = 0
total f (None ∷ slots) = total f slots
total f (Some h ∷ slots) = f h + total f slots

-- a thread counts 1, so that the sum is the number of threads
abbrev pub one : {V : Type 0} → Occupant V → ℕ
one h = 1

-- 1, where it waits
abbrev pub weight : Mode → ℕ
weight m = if is_waiting m then 1 else 0

-- a thread counts 1 where it waits, so that the sum is the number of those that wait
abbrev pub waiting : {V : Type 0} → Occupant V → ℕ
waiting h = weight h.mode

-- ---- the queue

-- the slot stays in the queue, or was the first there and has left it
abbrev pub HasLeft : ℕ → List ℕ → List ℕ → Type 0
HasLeft i queue rest = (rest ≡ queue) ⊎ (queue ≡ i ∷ rest)

-- without this slot
abbrev pub without_slot : ℕ → List ℕ → List ℕ
without_slot i queue = filter (λ (j : ℕ). not (i == j)) queue

-- the name of the thread in a slot, if one lives there
abbrev pub name_in : {V : Type 0} → Option (Slot V) → List ThreadName
name_in None = []
name_in (Some None) = []
name_in (Some (Some h)) = h.name ∷ []

-- the names of the threads in these slots, in their order
abbrev pub names_at : {V : Type 0} → List (Slot V) → List ℕ → List ThreadName
names_at slots [] = []
names_at slots (j ∷ js) = name_in (slice_get slots j) ++ names_at slots js

-- slots whose threads do not go on have left the front of the queue
abbrev pub IsRest : {V : Type 0} → List (Slot V) → List ℕ → List ℕ → Type 0
IsRest slots queue rest = (front : List ℕ) × (queue ≡ front ++ rest) × Each (λ (j : ℕ). IsModeAt slots j Runs → ⊥) front

-- the first slot of the queue has a thread of this name, which can go on
abbrev pub IsNext : {V : Type 0} → List (Slot V) → List ℕ → ThreadName → Type 0
IsNext {V} slots queue n =
    (i : ℕ) × (rest : List ℕ) × (h : Occupant V) × (queue ≡ i ∷ rest) × (slice_get slots i ≡ Some (Some h)) × (h.name ≡ n) × (h.mode ≡ Runs)
