-- Threads by name, each with a value and how it stands.
use Rattle.std.specs.Prelude.{◌≡◌, ◌≢◌, ◌↔◌, ℕ, List, [], ◌∷◌, filter, length, Contains, Bool, true, false, Some, if◌then◌else◌}
use Rattle.std.specs.List.{list_any}
use Rattle.tree_node.specs.declared.names.VarName.{VarName}
use Rattle.tree_node.specs.declared.names.ThreadName.{ThreadName}
use Rattle.tree_node.specs.Assoc.{value_of}
use Rattle.tree_node.specs.Each.{Each, AreDistinct}
use Rattle.tree_node.specs.State.{equal_thread}
use Rattle.tree_node.specs.Store.{equal_var}
use Rattle.thread_roster.specs.declared.mode.Mode.{Mode}
use Rattle.thread_roster.specs.declared.mode.Mode.TheVariants.{Runs, Waits, Needs, WaitsAny, WaitsFor}

-- a thread's name, its value, and how it stands
abbrev pub Entry : Type 0 → Type 0
Entry V = ThreadName × (V × Mode)

-- the threads that live, the newest first; the number of those that have ended; and the names of those that can go on, the next in
-- turn first
pub record Threads (V : Type 0) : Type 0 where
  pub living : List (Entry V)
  pub ended : ℕ
  pub order : List ThreadName

-- ---- one thread

-- the thread of a name has another value, and stands as before
abbrev pub set_value : {V : Type 0} → List (Entry V) → ThreadName → V → List (Entry V)
set_value [] n v = []
set_value (t ∷ ts) n v = if equal_thread t.0 n then (n, (v, t.1.1)) ∷ ts else t ∷ set_value ts n v

-- the thread of a name stands otherwise, with the value as before
abbrev pub set_mode : {V : Type 0} → List (Entry V) → ThreadName → Mode → List (Entry V)
set_mode [] n m = []
set_mode (t ∷ ts) n m = if equal_thread t.0 n then (n, (t.1.0, m)) ∷ ts else t ∷ set_mode ts n m

-- ---- waking

-- the thread waits until x is bound, alone or among others
abbrev pub awaits : VarName → Mode → Bool
awaits x Runs = false
awaits x (Waits y) = equal_var y x
awaits x (Needs y) = false
awaits x (WaitsAny ys) = list_any (λ y. equal_var y x) ys
awaits x (WaitsFor c) = false

-- a thread that waits for x goes on
abbrev pub wake : VarName → Mode → Mode
wake x m = if awaits x m then Runs else m

-- all those that wait for x go on
abbrev pub wake_all : {V : Type 0} → VarName → List (Entry V) → List (Entry V)
wake_all x [] = []
wake_all x (t ∷ ts) = (t.0, (t.1.0, wake x t.1.1)) ∷ wake_all x ts

-- the thread needs the node of a variable of which this holds
abbrev pub needs_one : (VarName → Bool) → Mode → Bool
needs_one f Runs = false
needs_one f (Waits y) = false
needs_one f (Needs y) = f y
needs_one f (WaitsAny ys) = false
needs_one f (WaitsFor c) = false

-- those that stand so go on
abbrev pub wake_where : {V : Type 0} → (Mode → Bool) → List (Entry V) → List (Entry V)
wake_where f [] = []
wake_where f (t ∷ ts) = (t.0, (t.1.0, if f t.1.1 then Runs else t.1.1)) ∷ wake_where f ts

-- all those that need the node of one of these variables go on
abbrev pub determine_all : {V : Type 0} → (VarName → Bool) → List (Entry V) → List (Entry V)
determine_all f ts = wake_where (needs_one f) ts

-- ---- waiting

-- the thread waits for a variable, for a node, for any of several variables, or for a cell
abbrev pub is_waiting : Mode → Bool
is_waiting Runs = false
is_waiting (Waits x) = true
is_waiting (Needs x) = true
is_waiting (WaitsAny xs) = true
is_waiting (WaitsFor c) = true

-- how many of them wait
abbrev pub waiting_of : {V : Type 0} → List (Entry V) → ℕ
waiting_of {V} ts = length (filter (λ (t : Entry V). is_waiting t.1.1) ts)

-- none of them can go on
abbrev pub AllWait : {V : Type 0} → List (Entry V) → Type 0
AllWait {V} ts = Each (λ (t : Entry V). t.1.1 ≢ Runs) ts

-- the thread of a name lives and waits
abbrev pub IsSuspended : {V : Type 0} → List (Entry V) → ThreadName → Type 0
IsSuspended {V} ts n = (v : V) × (m : Mode) × (value_of equal_thread ts n ≡ Some (v, m)) × (m ≢ Runs)

-- the thread of a name lives and can go on
abbrev pub IsRunnable : {V : Type 0} → List (Entry V) → ThreadName → Type 0
IsRunnable {V} ts n = (v : V) × (value_of equal_thread ts n ≡ Some (v, Runs))

-- exactly those of the threads stand in the order that can go on, each once
abbrev pub IsOrderOf : {V : Type 0} → List (Entry V) → List ThreadName → Type 0
IsOrderOf {V} ts order = ((n : ThreadName) → Contains order n ↔ IsRunnable ts n) × AreDistinct order

-- ---- what others see of threads

-- by name, what g tells of each
abbrev pub map_entries : {V W : Type 0} → (V × Mode → W) → List (Entry V) → List (ThreadName × W)
map_entries g [] = []
map_entries g (t ∷ ts) = (t.0, g t.1) ∷ map_entries g ts
