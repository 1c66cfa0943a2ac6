-- How many threads wait; where none does, a bind changes nothing.
use Rattle.std.proofs.Common.{arith, ◌≡◌, ap, refl, subst, ℕ, zero, suc, length, filter, List, [], ◌∷◌, Bool, true, false, cond, Some, None}
use Rattle.std.specs.Prelude.{Contains}
use Rattle.tree_node.specs.declared.names.ThreadName.{ThreadName}
use Rattle.tree_node.specs.declared.names.VarName.{VarName}
use Rattle.tree_node.specs.Each.{Each}
use Rattle.tree_node.specs.State.{equal_thread}
use Rattle.tree_node.specs.Store.{Store}
use Rattle.tree_node.proofs.ClassLemmas.{same_name_decides}
use Rattle.tree_node.proofs.EachLemmas.{each_append}
use Rattle.thread_roster.specs.declared.mode.Event.{Event}
use Rattle.thread_roster.specs.declared.mode.Event.TheVariants as event
use Rattle.thread_roster.specs.declared.mode.Mode.{Mode}
use Rattle.thread_roster.specs.declared.mode.Mode.TheVariants as mode
use Rattle.thread_roster.specs.Binds.{goes_on}
use Rattle.thread_roster.specs.Slots.{Slot, IsModeAt, entry, threads_in, wakes}
use Rattle.thread_roster.specs.Threads.{Entry, determine_all, is_waiting, needs_one, set_value, waiting_of, wake_where}

-- where no way to stand is one that goes on, all stay
pub all_stay : {V : Type 0} (f : Mode → Bool) (ts : List (Entry V)) → Each (λ (t : Entry V). f t.1.1 ≡ false) ts → wake_where f ts ≡ ts
all_stay f [] h = refl
all_stay f ((n, (v, m)) ∷ ts) h = rw (h.0, all_stay f ts h.1) refl

-- where none waits, none goes on
pub none_woken : {V : Type 0} (s : Store) (x : VarName) (ts : List (Entry V)) → waiting_of ts ≡ 0 → wake_where (goes_on s x) ts ≡ ts
none_woken s x [] e = refl
none_woken {V} s x ((n, (v, mode.Runs)) ∷ ts) e = ap (λ (l : List (Entry V)). (n, (v, mode.Runs)) ∷ l) (none_woken s x ts e)
none_woken s x ((n, (v, mode.Waits y)) ∷ ts) e = cc
none_woken s x ((n, (v, mode.Needs y)) ∷ ts) e = cc
none_woken s x ((n, (v, mode.WaitsAny ys)) ∷ ts) e = cc
none_woken s x ((n, (v, mode.WaitsFor c)) ∷ ts) e = cc

-- a thread has another value: as many wait
pub waiting_set : {V : Type 0} (ts : List (Entry V)) (n : ThreadName) (q : V) → waiting_of (set_value ts n q) ≡ waiting_of ts
waiting_set [] n q = refl
waiting_set {V} (t ∷ ts) n q = go (equal_thread t.0 n) (waiting_set ts n q)
  where
    head : (w : Bool) → length (cond w ((n, (q, t.1.1)) ∷ filter (λ (u : Entry V). is_waiting u.1.1) ts) (filter (λ (u : Entry V). is_waiting u.1.1) ts)) ≡ length (cond w (t ∷ filter (λ (u : Entry V). is_waiting u.1.1) ts) (filter (λ (u : Entry V). is_waiting u.1.1) ts))
    head true = refl
    head false = refl

    more : (w : Bool) → waiting_of (set_value ts n q) ≡ waiting_of ts → length (cond w (t ∷ filter (λ (u : Entry V). is_waiting u.1.1) (set_value ts n q)) (filter (λ (u : Entry V). is_waiting u.1.1) (set_value ts n q))) ≡ length (cond w (t ∷ filter (λ (u : Entry V). is_waiting u.1.1) ts) (filter (λ (u : Entry V). is_waiting u.1.1) ts))
    more true e = ap suc e
    more false e = e

    go : (b : Bool) → waiting_of (set_value ts n q) ≡ waiting_of ts → waiting_of (cond b ((n, (q, t.1.1)) ∷ ts) (t ∷ set_value ts n q)) ≡ waiting_of (t ∷ ts)
    go true ih = head (is_waiting t.1.1)
    go false ih = more (is_waiting t.1.1) ih

-- ---- where no keys of those that need a node are kept, none needs one

module _ {V : Type 0} (f : VarName → Bool) where
  slots_need : (slots : List (Slot V)) → ((j : ℕ) (y : VarName) → IsModeAt slots j (mode.Needs y) → ⊥) → Each (λ (t : Entry V). needs_one f t.1.1 ≡ false) (threads_in slots)
  slots_need [] h = tt
  slots_need (None ∷ slots) h = slots_need slots (λ j y k. h (suc j) y k)
  slots_need (Some o ∷ slots) h = each_append (λ (t : Entry V). needs_one f t.1.1 ≡ false) (threads_in slots) (entry o ∷ []) (slots_need slots (λ j y k. h (suc j) y k)) (go o.mode refl, tt)
    where
      go : (m : Mode) → o.mode ≡ m → needs_one f m ≡ false
      go mode.Runs e = refl
      go (mode.Waits y) e = refl
      go (mode.Needs y) e = absurd (h zero y (o, refl, e))
      go (mode.WaitsAny ys) e = refl
      go (mode.WaitsFor c) e = refl

pub none_need : {V : Type 0} (slots : List (Slot V)) (keys : Event → List ℕ) → ((j : ℕ) (e : Event) (m : Mode) → IsModeAt slots j m → wakes e m ≡ true → Contains (keys e) j) → ((y : VarName) → keys (event.Determined y) ≡ []) →
    (f : VarName → Bool) → determine_all f (threads_in slots) ≡ threads_in slots
none_need slots keys parked none f = all_stay (needs_one f) (threads_in slots) (slots_need f slots (λ j y k. nothing j (subst (λ (ks : List ℕ). Contains ks j) (none y) (parked j (event.Determined y) (mode.Needs y) k ((same_name_decides y y).1 refl)))))
  where
    nothing : (j : ℕ) → Contains [] j → ⊥
    nothing j (k, below, is) = absurd (omega arith)
