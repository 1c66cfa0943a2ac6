-- What holds of slots, the table of names, the run queue, the waiting keys and the numbers together.
use Rattle.std.specs.Prelude.{◌≡◌, ℕ, List, Some, Contains, slice_get, true}
use Rattle.tree_node.specs.declared.names.ThreadName.{ThreadName}
use Rattle.tree_node.specs.Each.{AreDistinct}
use Rattle.thread_roster.specs.declared.mode.Event.{Event}
use Rattle.thread_roster.specs.declared.mode.Mode.{Mode}
use Rattle.thread_roster.specs.declared.mode.Mode.TheVariants.{Runs}
use Rattle.thread_roster.specs.declared.slot.Occupant.{Occupant}
use Rattle.thread_roster.specs.Slots.{Slot, ArePlaced, slot_in, IsModeAt, AreInside, wakes, total, one, waiting}

-- each name has one slot, which the table has; each thread that can go on has its slot in the queue, and each that waits
-- for something in a variable, alone or among others, among the keys of that; the numbers of those that live and of those that wait are known. A slot in the
-- queue or among the keys whose thread stands otherwise is passed over
pub record IsConsistent {V : Type 0} (slots : List (Slot V)) (by_name : List (ThreadName × ℕ)) (queue : List ℕ) (keys : Event → List ℕ) (living_count waiting_count : ℕ) : Type 0 where
  pub placed : ArePlaced slots (slot_in by_name)
  pub queued : (j : ℕ) → IsModeAt slots j Runs → Contains queue j
  pub parked : (j : ℕ) (e : Event) (m : Mode) → IsModeAt slots j m → wakes e m ≡ true → Contains (keys e) j
  pub inside : AreInside slots queue
  pub keys_inside : (e : Event) → AreInside slots (keys e)
  pub alive : living_count ≡ total one slots
  pub waiters : waiting_count ≡ total waiting slots

-- each slot is in the queue once, and a thread that lives in one of them can go on. So the queue is the order of turns
pub record IsOrdered {V : Type 0} (slots : List (Slot V)) (queue : List ℕ) : Type 0 where
  pub ready : (j : ℕ) (h : Occupant V) → Contains queue j → slice_get slots j ≡ Some (Some h) → h.mode ≡ Runs
  pub once : AreDistinct queue
