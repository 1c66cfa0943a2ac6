-- Threads in slots, and the same threads by name.
use Rattle.std.proofs.Common.{arith, ◌≡◌, ◌≢◌, ◌∙◌, sym, ap, refl, subst, ℕ, ◌+◌, ◌<◌, ◌≤◌, zero, suc, length, ◌⊎◌, inl, inr, List, [], ◌∷◌, ◌++◌, Bool, true, false, cond, Some, None, get_or}
use Rattle.std.specs.Prelude.{Option, slice_set, slice_get, IsSome}
use Rattle.std.proofs.lemmas.Option.{slice_get-get_or}
use Rattle.tree_node.specs.declared.names.ThreadName.{ThreadName}
use Rattle.tree_node.specs.Assoc.{value_of, without_key}
use Rattle.tree_node.specs.Each.{Each}
use Rattle.tree_node.specs.State.{equal_thread}
use Rattle.thread_roster.specs.declared.mode.Mode.{Mode}
use Rattle.thread_roster.specs.declared.slot.Occupant.{Occupant}
use Rattle.thread_roster.specs.Threads.{Entry, set_value, set_mode, is_waiting}
use Rattle.thread_roster.specs.Slots.{Slot, entry, threads_in, IsNotSlotOf, IsSlotOf, IsOnlyAt, IsPlaced, ArePlaced, total, one, weight, waiting}
use Rattle.thread_roster.proofs.NameLemmas.{is_same, is_other, name_cases, value_right, value_left, one_here, one_other, without_append, without_none, set_both, both_left, both_right, set_value_both, set_mode_both}
use Rattle.std.proofs.lemmas.List.{append-nil}

-- what an index gives
pub at_index : {X : Type 0} (xs : List X) (i : ℕ) (x : X) → i < length xs → x ≡ get_or xs i x → slice_get xs i ≡ Some x
at_index xs i x below e = slice_get-get_or xs i x below ∙ ap Some (sym e)

pub lacking : {V : Type 0} (n : ThreadName) (slots : List (Slot V)) → Each (IsNotSlotOf n) slots → value_of equal_thread (threads_in slots) n ≡ None
lacking n [] h = refl
lacking n (None ∷ slots) h = lacking n slots h.1
lacking n (Some h ∷ slots) l = value_right (threads_in slots) (entry h ∷ []) n (lacking n slots l.1) ∙ one_other (entry h) n l.0

pub found : {V : Type 0} (n : ThreadName) (slots : List (Slot V)) (i : ℕ) (h : Occupant V) → IsOnlyAt n slots i → slice_get slots i ≡ Some (Some h) → value_of equal_thread (threads_in slots) n ≡ Some (h.value, h.mode)
found n [] i h l e = absurd l
found n (None ∷ slots) zero h l e = absurd l.0
found {V} n (Some k ∷ slots) zero h l e =
    let same : k ≡ h = cc in
    value_right (threads_in slots) (entry k ∷ []) n (lacking n slots l.1) ∙ (one_here (entry k) n l.0 ∙ ap (λ (u : Occupant V). Some (u.value, u.mode)) same)
found n (None ∷ slots) (suc i) h l e = found n slots i h l.1 e
found n (Some k ∷ slots) (suc i) h l e = value_left (threads_in slots) (entry k ∷ []) n (h.value, h.mode) (found n slots i h l.1 e)

-- what a slot holds, where it is the only one of its name
pub held_at : {V : Type 0} (slots : List (Slot V)) (n : ThreadName) (i : ℕ) → IsOnlyAt n slots i → (h : Occupant V) × (slice_get slots i ≡ Some (Some h)) × (h.name ≡ n)
held_at [] n i l = absurd l
held_at (None ∷ slots) n zero l = absurd l.0
held_at (Some h ∷ slots) n zero l = (h, refl, l.0)
held_at (None ∷ slots) n (suc i) l = held_at slots n i l.1
held_at (Some h ∷ slots) n (suc i) l = held_at slots n i l.1

pub only_inside : {V : Type 0} (slots : List (Slot V)) (n : ThreadName) (i : ℕ) → IsOnlyAt n slots i → i < length slots
only_inside [] n i l = absurd l
only_inside (o ∷ slots) n zero l = omega arith
only_inside (o ∷ slots) n (suc i) l = let below : i < length slots = only_inside slots n i l.1 in omega (arith, below)

-- the slot where a thread of this name is found is the only one
not_here : {V : Type 0} (slots : List (Slot V)) (i : ℕ) (h : Occupant V) (n : ThreadName) → slice_get slots i ≡ Some (Some h) → h.name ≡ n → Each (IsNotSlotOf n) slots → ⊥
not_here [] i h n e is l = cc
not_here (None ∷ slots) zero h n e is l = cc
not_here (Some k ∷ slots) zero h n e is l = let same : k ≡ h = cc in l.0 (ap (λ (u : Occupant _). u.name) same ∙ is)
not_here (o ∷ slots) (suc i) h n e is l = not_here slots i h n e is l.1

same_slot : {V : Type 0} (slots : List (Slot V)) (i j : ℕ) (h : Occupant V) (n : ThreadName) → slice_get slots i ≡ Some (Some h) → h.name ≡ n → IsOnlyAt n slots j → j ≡ i
same_slot [] i j h n e is l = absurd l
same_slot (o ∷ slots) zero zero h n e is l = refl
same_slot (o ∷ slots) (suc i) zero h n e is l = absurd (not_here slots i h n e is l.1)
same_slot (None ∷ slots) zero (suc j) h n e is l = cc
same_slot (Some k ∷ slots) zero (suc j) h n e is l = let same : k ≡ h = cc in absurd (l.0 (ap (λ (u : Occupant _). u.name) same ∙ is))
same_slot (o ∷ slots) (suc i) (suc j) h n e is l = ap suc (same_slot slots i j h n e is l.1)

pub placed_there : {V : Type 0} (slots : List (Slot V)) (slot : ThreadName → Option ℕ) (i : ℕ) (h : Occupant V) (n : ThreadName) → ArePlaced slots slot → slice_get slots i ≡ Some (Some h) → h.name ≡ n → slot n ≡ Some i
placed_there {V} slots slot i h n all e is = go (slot n) refl (all n)
  where
    go : (o : Option ℕ) → slot n ≡ o → IsPlaced slots n o → slot n ≡ Some i
    go None p l = absurd (not_here slots i h n e is l)
    go (Some j) p l = p ∙ ap Some (same_slot slots i j h n e is l)

pub only_at : {V : Type 0} (slots : List (Slot V)) (slot : ThreadName → Option ℕ) (n : ThreadName) (i : ℕ) → ArePlaced slots slot → slot n ≡ Some i → IsOnlyAt n slots i
only_at slots slot n i all e = subst (λ (o : Option ℕ). IsPlaced slots n o) e (all n)

-- a name with a value has a slot
pub has_place : {V : Type 0} (slots : List (Slot V)) (slot : ThreadName → Option ℕ) (n : ThreadName) → ArePlaced slots slot → IsSome (value_of equal_thread (threads_in slots) n) → None ≡ slot n → ⊥
has_place {V} slots slot n all some none =
    let lacks : Each (IsNotSlotOf n) slots = subst (λ (o : Option ℕ). IsPlaced slots n o) (sym none) (all n) in
    let gone : value_of equal_thread (threads_in slots) n ≡ None = lacking n slots lacks in
    go (value_of equal_thread (threads_in slots) n) some gone
  where
    go : (o : Option (V × Mode)) → IsSome o → o ≡ None → ⊥
    go None s e = cc
    go (Some v) s e = cc

-- ---- a slot changes, and the threads with it

pub both_set : {V : Type 0} (f : V × Mode → V × Mode) (n : ThreadName) (slots : List (Slot V)) (i : ℕ) (h k : Occupant V) → IsOnlyAt n slots i → slice_get slots i ≡ Some (Some h) → k.name ≡ n → (k.value, k.mode) ≡ f (h.value, h.mode) →
    threads_in (slice_set slots i (Some k)) ≡ set_both f (threads_in slots) n
both_set f n [] i h k l e is makes = absurd l
both_set f n (None ∷ slots) zero h k l e is makes = absurd l.0
both_set {V} f n (Some g ∷ slots) zero h k l e is makes =
    let same : g ≡ h = cc in
    let now : (k.value, k.mode) ≡ f (g.value, g.mode) = makes ∙ ap (λ (u : Occupant V). f (u.value, u.mode)) (sym same) in
    let whole : entry k ≡ (n, f (g.value, g.mode)) = rw (is, now) refl in
    let last : set_both f (entry g ∷ []) n ≡ (n, f (g.value, g.mode)) ∷ [] = rw (is_same g.name n l.0) refl in
    ap (λ (x : Entry V). threads_in slots ++ x ∷ []) whole
    ∙ sym (both_right f (threads_in slots) (entry g ∷ []) n (lacking n slots l.1) ∙ ap (λ (xs : List (Entry V)). threads_in slots ++ xs) last)
both_set f n (None ∷ slots) (suc i) h k l e is makes = both_set f n slots i h k l.1 e is makes
both_set {V} f n (Some g ∷ slots) (suc i) h k l e is makes =
    ap (λ (xs : List (Entry V)). xs ++ entry g ∷ []) (both_set f n slots i h k l.1 e is makes) ∙ sym (both_left f (threads_in slots) (entry g ∷ []) n (h.value, h.mode) (found n slots i h l.1 e))

pub mode_put : {V : Type 0} (n : ThreadName) (slots : List (Slot V)) (i : ℕ) (h : Occupant V) (m : Mode) → IsOnlyAt n slots i → slice_get slots i ≡ Some (Some h) → h.name ≡ n →
    threads_in (slice_set slots i (Some (record h { mode = m }))) ≡ set_mode (threads_in slots) n m
mode_put {V} n slots i h m l e is = both_set (λ (w : V × Mode). (w.0, m)) n slots i h (record h { mode = m }) l e is refl ∙ set_mode_both (threads_in slots) n m

pub value_put : {V : Type 0} (n : ThreadName) (slots : List (Slot V)) (i : ℕ) (h : Occupant V) (v : V) → IsOnlyAt n slots i → slice_get slots i ≡ Some (Some h) → h.name ≡ n →
    threads_in (slice_set slots i (Some (record h { value = v }))) ≡ set_value (threads_in slots) n v
value_put {V} n slots i h v l e is = both_set (λ (w : V × Mode). (v, w.1)) n slots i h (record h { value = v }) l e is refl ∙ set_value_both (threads_in slots) n v

pub thread_ended : {V : Type 0} (n : ThreadName) (slots : List (Slot V)) (i : ℕ) → IsOnlyAt n slots i → threads_in (slice_set slots i None) ≡ without_key equal_thread (threads_in slots) n
thread_ended n [] i l = absurd l
thread_ended n (None ∷ slots) zero l = absurd l.0
thread_ended {V} n (Some h ∷ slots) zero l =
    let gone : without_key equal_thread (entry h ∷ []) n ≡ [] = rw (is_same h.name n l.0) refl in
    sym (without_append (threads_in slots) (entry h ∷ []) n ∙ (ap (λ (xs : List (Entry V)). without_key equal_thread (threads_in slots) n ++ xs) gone ∙ (append-nil (without_key equal_thread (threads_in slots) n) ∙ without_none (threads_in slots) n (lacking n slots l.1))))
thread_ended n (None ∷ slots) (suc i) l = thread_ended n slots i l.1
thread_ended {V} n (Some h ∷ slots) (suc i) l =
    let stays : without_key equal_thread (entry h ∷ []) n ≡ entry h ∷ [] = rw (is_other h.name n l.0) refl in
    ap (λ (xs : List (Entry V)). xs ++ entry h ∷ []) (thread_ended n slots i l.1)
    ∙ sym (without_append (threads_in slots) (entry h ∷ []) n ∙ ap (λ (xs : List (Entry V)). without_key equal_thread (threads_in slots) n ++ xs) stays)

pub thread_born : {V : Type 0} (slots : List (Slot V)) (h : Occupant V) → threads_in (slots ++ Some h ∷ []) ≡ entry h ∷ threads_in slots
thread_born [] h = refl
thread_born (None ∷ slots) h = thread_born slots h
thread_born {V} (Some g ∷ slots) h = ap (λ (xs : List (Entry V)). xs ++ entry g ∷ []) (thread_born slots h)

-- ---- the table of places

other_set : {V : Type 0} (n k : ThreadName) (slots : List (Slot V)) (i : ℕ) (o : Slot V) → IsOnlyAt n slots i → IsNotSlotOf k o → Each (IsNotSlotOf k) slots → Each (IsNotSlotOf k) (slice_set slots i o)
other_set n k [] i o h l each = tt
other_set n k (x ∷ slots) zero o h l each = (l, each.1)
other_set n k (x ∷ slots) (suc i) o h l each = (each.0, other_set n k slots i o h.1 l each.1)

holds_lacks : {V : Type 0} (n k : ThreadName) (o : Slot V) → n ≢ k → IsSlotOf n o → IsSlotOf k o → ⊥
holds_lacks n k None differs a b = absurd a
holds_lacks n k (Some v) differs a b = differs (sym a ∙ b)

only_set : {V : Type 0} (n k : ThreadName) (slots : List (Slot V)) (i j : ℕ) (o : Slot V) → n ≢ k → IsOnlyAt n slots i → IsNotSlotOf k o → IsOnlyAt k slots j → IsOnlyAt k (slice_set slots i o) j
only_set n k [] i j o differs h l g = absurd g
only_set n k (x ∷ slots) zero zero o differs h l g = absurd (holds_lacks n k x differs h.0 g.0)
only_set n k (x ∷ slots) zero (suc j) o differs h l g = (l, g.1)
only_set n k (x ∷ slots) (suc i) zero o differs h l g = (g.0, other_set n k slots i o h.1 l g.1)
only_set n k (x ∷ slots) (suc i) (suc j) o differs h l g = (g.0, only_set n k slots i j o differs h.1 l g.1)

-- the slot itself
same_set : {V : Type 0} (n : ThreadName) (slots : List (Slot V)) (i : ℕ) (w : Occupant V) → IsOnlyAt n slots i → w.name ≡ n → IsOnlyAt n (slice_set slots i (Some w)) i
same_set n [] i w h e = absurd h
same_set n (x ∷ slots) zero w h e = (e, h.1)
same_set n (x ∷ slots) (suc i) w h e = (h.0, same_set n slots i w h.1 e)

ended_set : {V : Type 0} (n : ThreadName) (slots : List (Slot V)) (i : ℕ) → IsOnlyAt n slots i → Each (IsNotSlotOf n) (slice_set slots i None)
ended_set n [] i h = absurd h
ended_set n (x ∷ slots) zero h = (tt, h.1)
ended_set n (x ∷ slots) (suc i) h = (h.0, ended_set n slots i h.1)

born_only : {V : Type 0} (n : ThreadName) (slots : List (Slot V)) (w : Occupant V) → Each (IsNotSlotOf n) slots → w.name ≡ n → IsOnlyAt n (slots ++ Some w ∷ []) (length slots)
born_only n [] w h e = (e, tt)
born_only n (x ∷ slots) w h e = (h.0, born_only n slots w h.1 e)

lacks_more : {V : Type 0} (k : ThreadName) (slots : List (Slot V)) (o : Slot V) → Each (IsNotSlotOf k) slots → IsNotSlotOf k o → Each (IsNotSlotOf k) (slots ++ o ∷ [])
lacks_more k [] o h l = (l, tt)
lacks_more k (x ∷ slots) o h l = (h.0, lacks_more k slots o h.1 l)

only_more : {V : Type 0} (k : ThreadName) (slots : List (Slot V)) (j : ℕ) (o : Slot V) → IsNotSlotOf k o → IsOnlyAt k slots j → IsOnlyAt k (slots ++ o ∷ []) j
only_more k [] j o l g = absurd g
only_more k (x ∷ slots) zero o l g = (g.0, lacks_more k slots o g.1 l)
only_more k (x ∷ slots) (suc j) o l g = (g.0, only_more k slots j o l g.1)

pub placed_set : {V : Type 0} (n : ThreadName) (slots : List (Slot V)) (slot : ThreadName → Option ℕ) (i : ℕ) (w : Occupant V) → ArePlaced slots slot → slot n ≡ Some i → w.name ≡ n → ArePlaced (slice_set slots i (Some w)) slot
placed_set {V} n slots slot i w all at e k = go (name_cases n k) (slot k) refl (all k)
  where
    here : IsOnlyAt n slots i
    here = only_at slots slot n i all at

    go : (n ≡ k) ⊎ (n ≢ k) → (o : Option ℕ) → slot k ≡ o → IsPlaced slots k o → IsPlaced (slice_set slots i (Some w)) k o
    go (inl same) o is h =
        let known : Some i ≡ o = sym at ∙ (ap slot same ∙ is) in
        subst (λ (q : Option ℕ). IsPlaced (slice_set slots i (Some w)) k q) known
        (subst (λ (m : ThreadName). IsOnlyAt m (slice_set slots i (Some w)) i) same (same_set n slots i w here e))
    go (inr differs) None is h = other_set n k slots i (Some w) here (λ q. differs (sym e ∙ q)) h
    go (inr differs) (Some j) is h = only_set n k slots i j (Some w) differs here (λ q. differs (sym e ∙ q)) h

-- the place of a name goes, the others stay
pub placed_end : {V : Type 0} (n : ThreadName) (slots : List (Slot V)) (slot after : ThreadName → Option ℕ) (i : ℕ) → ArePlaced slots slot → slot n ≡ Some i → after n ≡ None → ((k : ThreadName) → n ≢ k → after k ≡ slot k) →
    ArePlaced (slice_set slots i None) after
placed_end {V} n slots slot after i all at gone others k = go (name_cases n k) (slot k) refl (all k)
  where
    here : IsOnlyAt n slots i
    here = only_at slots slot n i all at

    go : (n ≡ k) ⊎ (n ≢ k) → (o : Option ℕ) → slot k ≡ o → IsPlaced slots k o → IsPlaced (slice_set slots i None) k (after k)
    go (inl same) o is h =
        let none : None ≡ after k = sym gone ∙ ap after same in
        subst (λ (q : Option ℕ). IsPlaced (slice_set slots i None) k q) none
        (subst (λ (m : ThreadName). Each (IsNotSlotOf m) (slice_set slots i None)) same (ended_set n slots i here))
    go (inr differs) None is h =
        subst (λ (q : Option ℕ). IsPlaced (slice_set slots i None) k q) (sym (others k differs ∙ is)) (other_set n k slots i None here tt h)
    go (inr differs) (Some j) is h =
        subst (λ (q : Option ℕ). IsPlaced (slice_set slots i None) k q) (sym (others k differs ∙ is)) (only_set n k slots i j None differs here tt h)

pub placed_born : {V : Type 0} (n : ThreadName) (slots : List (Slot V)) (slot after : ThreadName → Option ℕ) (w : Occupant V) → ArePlaced slots slot → slot n ≡ None → after n ≡ Some (length slots) →
    ((k : ThreadName) → n ≢ k → after k ≡ slot k) → w.name ≡ n → ArePlaced (slots ++ Some w ∷ []) after
placed_born {V} n slots slot after w all at put others e k = go (name_cases n k) (slot k) refl (all k)
  where
    none : Each (IsNotSlotOf n) slots
    none = subst (λ (o : Option ℕ). IsPlaced slots n o) at (all n)

    go : (n ≡ k) ⊎ (n ≢ k) → (o : Option ℕ) → slot k ≡ o → IsPlaced slots k o → IsPlaced (slots ++ Some w ∷ []) k (after k)
    go (inl same) o is h =
        let some : Some (length slots) ≡ after k = sym put ∙ ap after same in
        subst (λ (q : Option ℕ). IsPlaced (slots ++ Some w ∷ []) k q) some
        (subst (λ (m : ThreadName). IsOnlyAt m (slots ++ Some w ∷ []) (length slots)) same (born_only n slots w none e))
    go (inr differs) None is h =
        subst (λ (q : Option ℕ). IsPlaced (slots ++ Some w ∷ []) k q) (sym (others k differs ∙ is)) (lacks_more k slots (Some w) h (λ q. differs (sym e ∙ q)))
    go (inr differs) (Some j) is h =
        subst (λ (q : Option ℕ). IsPlaced (slots ++ Some w ∷ []) k q) (sym (others k differs ∙ is)) (only_more k slots j (Some w) (λ q. differs (sym e ∙ q)) h)

-- ---- sums over slots

pub total_set : {V : Type 0} (f : Occupant V → ℕ) (slots : List (Slot V)) (i : ℕ) (h k : Occupant V) → slice_get slots i ≡ Some (Some h) → total f (slice_set slots i (Some k)) + f h ≡ total f slots + f k
total_set f [] i h k e = cc
total_set f (None ∷ slots) zero h k e = cc
total_set {V} f (Some g ∷ slots) zero h k e = let same : f g ≡ f h = cc in omega (arith, same)
total_set f (None ∷ slots) (suc i) h k e = total_set f slots i h k e
total_set f (Some g ∷ slots) (suc i) h k e = let rest = total_set f slots i h k e in omega (arith, rest)

pub total_end : {V : Type 0} (f : Occupant V → ℕ) (slots : List (Slot V)) (i : ℕ) (h : Occupant V) → slice_get slots i ≡ Some (Some h) → total f (slice_set slots i None) + f h ≡ total f slots
total_end f [] i h e = cc
total_end f (None ∷ slots) zero h e = cc
total_end {V} f (Some g ∷ slots) zero h e = let same : f g ≡ f h = cc in omega (arith, same)
total_end f (None ∷ slots) (suc i) h e = total_end f slots i h e
total_end f (Some g ∷ slots) (suc i) h e = let rest = total_end f slots i h e in omega (arith, rest)

pub total_born : {V : Type 0} (f : Occupant V → ℕ) (slots : List (Slot V)) (h : Occupant V) → total f (slots ++ Some h ∷ []) ≡ total f slots + f h
total_born f [] h = omega arith
total_born f (None ∷ slots) h = total_born f slots h
total_born f (Some g ∷ slots) h = let rest = total_born f slots h in omega (arith, rest)

pub weight_le : (m : Mode) → weight m ≤ 1
weight_le m = go (is_waiting m)
  where
    go : (b : Bool) → cond b 1 0 ≤ 1
    go true = omega arith
    go false = omega arith

pub waiting_le : {V : Type 0} (slots : List (Slot V)) → total waiting slots ≤ total one slots
waiting_le [] = omega arith
waiting_le (None ∷ slots) = waiting_le slots
waiting_le (Some h ∷ slots) = let rest = waiting_le slots in let here = weight_le h.mode in omega (arith, rest, here)

pub living_le : {V : Type 0} (slots : List (Slot V)) → total one slots ≤ length slots
living_le [] = omega arith
living_le (None ∷ slots) = let rest = living_le slots in omega (arith, rest)
living_le (Some h ∷ slots) = let rest = living_le slots in omega (arith, rest)

-- a sum is at least what one slot has
pub total_holds : {V : Type 0} (f : Occupant V → ℕ) (slots : List (Slot V)) (i : ℕ) (h : Occupant V) → slice_get slots i ≡ Some (Some h) → f h ≤ total f slots
total_holds f slots i h at = let less = total_end f slots i h at in omega (arith, less)
