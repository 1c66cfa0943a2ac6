-- What contracts see of slots and queue.
use Rattle.std.proofs.Common.{◌≡◌, ◌≢◌, ◌∙◌, sym, ap, refl, subst, ℕ, ◌⊎◌, inl, inr, List, [], ◌∷◌, ◌++◌, Some, None}
use Rattle.std.specs.Prelude.{Option, ◌↔◌, slice_set, slice_get, Contains}
use Rattle.std.proofs.lemmas.List.Elements.{Contains-append_left, Contains-append_right, Contains-append_cases}
use Rattle.tree_node.specs.declared.names.ThreadName.{ThreadName}
use Rattle.tree_node.specs.Assoc.{value_of}
use Rattle.tree_node.specs.Each.{Each, AreDistinct}
use Rattle.tree_node.specs.State.{equal_thread}
use Rattle.tree_node.proofs.ClassLemmas.{Contains-cons_cases, Contains-head, Contains-tail}
use Rattle.tree_node.proofs.OrderLemmas.{none}
use Rattle.thread_roster.specs.declared.mode.Mode.{Mode}
use Rattle.thread_roster.specs.declared.mode.Mode.TheVariants as mode
use Rattle.thread_roster.specs.declared.slot.Occupant.{Occupant}
use Rattle.thread_roster.specs.Invariant.{IsConsistent, IsOrdered}
use Rattle.thread_roster.specs.Order.{rotated}
use Rattle.thread_roster.specs.Slots.{Slot, ArePlaced, slot_in, threads_in, name_in, names_at, with_value_in}
use Rattle.thread_roster.specs.Threads.{Threads, Entry, set_value, IsRunnable, IsOrderOf}
use Rattle.thread_roster.proofs.SlotLemmas.{found, only_at, placed_there}
use Rattle.thread_roster.proofs.ConsistencyLemmas.{Waiting, ended_in, ended_set, value_view, no_thread, thread_there, stands_there}
use Rattle.thread_roster.proofs.OrderLemmas.{names_put, names_other}
use Rattle.thread_roster.proofs.BehindLemmas.{is_not_left}
use Rattle.thread_roster.proofs.TableLemmas.{Filed}

-- the model
abbrev pub view_of : {V : Type 0} → List (Slot V) → List ℕ → Threads V
view_of slots queue = record { living = threads_in slots; ended = ended_in slots; order = names_at slots queue }

-- its parts
abbrev threads_of : {V : Type 0} → List (Entry V) → ℕ → List ThreadName → Threads V
threads_of living ended order = record { living = living; ended = ended; order = order }

pub lent_view : {V : Type 0} (s : Threads V) (slots : List (Slot V)) (slot : ThreadName → Option ℕ) (queue : List ℕ) (n : ThreadName) (i : ℕ) (o : Slot V) (h : Occupant V) (v : V) → ArePlaced slots slot → slot n ≡ Some i → slice_get slots i ≡ Some (Some h) → h.name ≡ n → o ≡ Some h →
    view_of slots queue ≡ s → ◌≡◌ {A = Threads V} (view_of (slice_set slots i (with_value_in o v)) queue) (record s { living = set_value s.living n v })
lent_view {V} s slots slot queue n i o h v placed e at is there view =
    subst (λ (t : Threads V). ◌≡◌ {A = Threads V} (view_of now queue) (record t { living = set_value t.living n v })) view
    (ap (λ (l : List (Entry V)). threads_of l (ended_in now) (names_at now queue)) living
    ∙ ap (λ (k : ℕ). threads_of (set_value (threads_in slots) n v) k (names_at now queue)) ended
    ∙ ap (λ (l : List ThreadName). threads_of (set_value (threads_in slots) n v) (ended_in slots) l) (names_put slots now i h (record h { value = v }) at refl put queue))
  where
    now : List (Slot V)
    now = slice_set slots i (with_value_in o v)

    put : now ≡ slice_set slots i (Some (record h { value = v }))
    put = ap (λ (p : Slot V). slice_set slots i (with_value_in p v)) there

    living : threads_in now ≡ set_value (threads_in slots) n v
    living = ap (λ (l : List (Slot V)). threads_in l) put ∙ value_view slots slot n i h v placed e at is

    ended : ended_in now ≡ ended_in slots
    ended = ended_set slots now i h (record h { value = v }) at put

-- the queue alone is another
pub turned_view : {V : Type 0} (s : Threads V) (slots : List (Slot V)) (queue now : List ℕ) → names_at slots now ≡ rotated (names_at slots queue) → view_of slots queue ≡ s → ◌≡◌ {A = Threads V} (view_of slots now) (record s { order = rotated s.order })
turned_view {V} s slots queue now turned view =
    subst (λ (t : Threads V). ◌≡◌ {A = Threads V} (view_of slots now) (record t { order = rotated t.order })) view
    (ap (λ (l : List ThreadName). threads_of (threads_in slots) (ended_in slots) l) turned)

pub looked_view : {V : Type 0} (s : Threads V) (slots : List (Slot V)) (queue now : List ℕ) → names_at slots queue ≡ names_at slots now → view_of slots queue ≡ s → ◌≡◌ {A = Threads V} (view_of slots now) s
looked_view {V} s slots queue now same view = ap (λ (l : List ThreadName). threads_of (threads_in slots) (ended_in slots) l) (sym same) ∙ view

-- ---- the order and those that can go on

-- the thread of a name lives in a slot
abbrev IsAt : {V : Type 0} → List (Slot V) → ThreadName → ℕ → Type 0
IsAt {V} slots n j = (h : Occupant V) × (slice_get slots j ≡ Some (Some h)) × (h.name ≡ n)

named_at : {V : Type 0} (slots : List (Slot V)) (n : ThreadName) (js : List ℕ) → Contains (names_at slots js) n → (j : ℕ) × Contains js j × IsAt slots n j
named_at slots n [] c = absurd (none n c)
named_at {V} slots n (j ∷ js) c = go (slice_get slots j) refl (λ d. named_at slots n js d) (Contains-append_cases (name_in (slice_get slots j)) (names_at slots js) n c)
  where
    here : (h : Occupant V) → slice_get slots j ≡ Some (Some h) → (h.name ≡ n) ⊎ Contains [] n → (k : ℕ) × Contains (j ∷ js) k × IsAt slots n k
    here h e (inl is) = (j, Contains-head j js, (h, e, is))
    here h e (inr d) = absurd (none n d)

    go : (o : Option (Slot V)) → slice_get slots j ≡ o → (Contains (names_at slots js) n → (k : ℕ) × Contains js k × IsAt slots n k) → Contains (name_in o) n ⊎ Contains (names_at slots js) n → (k : ℕ) × Contains (j ∷ js) k × IsAt slots n k
    go None e rest (inl d) = absurd (none n d)
    go (Some None) e rest (inl d) = absurd (none n d)
    go (Some (Some h)) e rest (inl d) = here h e (Contains-cons_cases h.name n [] d)
    go o e rest (inr d) = let r = rest d in (r.0, Contains-tail j r.0 js r.1, r.2)

at_named : {V : Type 0} (slots : List (Slot V)) (n : ThreadName) (i : ℕ) (js : List ℕ) → IsAt slots n i → Contains js i → Contains (names_at slots js) n
at_named slots n i [] at c = absurd (none i c)
at_named {V} slots n i (j ∷ js) at c = go (λ d. at_named slots n i js at d) (Contains-cons_cases j i js c)
  where
    here : j ≡ i → name_in (slice_get slots j) ≡ n ∷ []
    here same = ap (λ (k : ℕ). name_in (slice_get slots k)) same ∙ (ap name_in at.1 ∙ ap (λ (m : ThreadName). m ∷ []) at.2)

    go : (Contains js i → Contains (names_at slots js) n) → (j ≡ i) ⊎ Contains js i → Contains (name_in (slice_get slots j) ++ names_at slots js) n
    go rest (inl same) = Contains-append_left (name_in (slice_get slots j)) (names_at slots js) n (subst (λ (l : List ThreadName). Contains l n) (sym (here same)) (Contains-head n []))
    go rest (inr d) = Contains-append_right (name_in (slice_get slots j)) (names_at slots js) n (rest d)

pub order_all : {V : Type 0} (slots : List (Slot V)) (by_name : Filed) (queue : List ℕ) (waiting_keys : Waiting) (a b : ℕ) (n : ThreadName) → IsConsistent slots by_name queue waiting_keys a b → IsOrdered slots queue →
    Contains (names_at slots queue) n ↔ IsRunnable (threads_in slots) n
order_all {V} slots by_name queue waiting_keys a b n h k = (λ c. goes (named_at slots n queue c), λ r. among (slot_in by_name n) refl r.0 r.1)
  where
    goes : (j : ℕ) × Contains queue j × IsAt slots n j → IsRunnable (threads_in slots) n
    goes (j, c, (o, at, is)) =
        let there = found n slots j o (only_at slots (slot_in by_name) n j h.placed (placed_there slots (slot_in by_name) j o n h.placed at is)) at in
        (o.value, there ∙ ap (λ (m : Mode). Some (o.value, m)) (k.ready j o c at))

    among : (p : Option ℕ) → slot_in by_name n ≡ p → (v : V) → value_of equal_thread (threads_in slots) n ≡ Some (v, mode.Runs) → Contains (names_at slots queue) n
    among None e v there =
        let both : ◌≡◌ {A = Option (V × Mode)} None (Some (v, mode.Runs)) = sym (no_thread slots (slot_in by_name) n h.placed e) ∙ there in cc
    among (Some i) e v there =
        let at = thread_there slots (slot_in by_name) n i h.placed e in
        at_named slots n i queue at (h.queued i (at.0, at.1, stands_there slots (slot_in by_name) n i at.0 v mode.Runs h.placed e at.1 there))

-- a name that is not among others differs from each
differs : (n : ThreadName) (ns : List ThreadName) → (Contains ns n → ⊥) → Each (λ (m : ThreadName). n ≢ m) ns
differs n [] h = tt
differs n (m ∷ ns) h = (λ same. h (subst (λ (k : ThreadName). Contains (k ∷ ns) n) same (Contains-head n ns)), differs n ns (λ c. h (Contains-tail m n ns c)))

-- each name is there once
names_once : {V : Type 0} (slots : List (Slot V)) (slot : ThreadName → Option ℕ) (js : List ℕ) → ArePlaced slots slot → AreDistinct js → AreDistinct (names_at slots js)
names_once slots slot [] placed once = tt
names_once {V} slots slot (j ∷ js) placed once = go (slice_get slots j) refl (names_once slots slot js placed once.1)
  where
    apart : (h : Occupant V) → slice_get slots j ≡ Some (Some h) → Contains (names_at slots js) h.name → ⊥
    apart h at c =
        let other = names_other h.name slots j (only_at slots slot h.name j placed (placed_there slots slot j h h.name placed at refl)) js once.0 in
        is_not_left h.name (names_at slots js) (subst (λ (l : List ThreadName). Contains l h.name) (sym other) c)

    go : (o : Option (Slot V)) → slice_get slots j ≡ o → AreDistinct (names_at slots js) → AreDistinct (name_in o ++ names_at slots js)
    go None at rest = rest
    go (Some None) at rest = rest
    go (Some (Some h)) at rest = (differs h.name (names_at slots js) (apart h at), rest)

pub order_is : {V : Type 0} (slots : List (Slot V)) (by_name : Filed) (queue : List ℕ) (waiting_keys : Waiting) (a b : ℕ) → IsConsistent slots by_name queue waiting_keys a b → IsOrdered slots queue → IsOrderOf (threads_in slots) (names_at slots queue)
order_is slots by_name queue waiting_keys a b h k = (λ n. order_all slots by_name queue waiting_keys a b n h k, names_once slots (slot_in by_name) queue h.placed k.once)
