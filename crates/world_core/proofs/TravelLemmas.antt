-- Which messages travel after a turn.
use Rattle.std.proofs.Common.{arith, ◌≡◌, ◌∙◌, sym, ap, refl, subst, ℕ, zero, suc, ◌+◌, ◌-◌, ◌<◌, ◌≤◌, List, [], ◌∷◌, ◌++◌, length, Bool, true, false, cond, ◌⊎◌, inl, inr}
use Rattle.std.specs.Prelude.{Option, Some, None, ◌||◌, nat_eq, slice_get, Contains}
use Rattle.std.specs.List.{enumerate_from}
use Rattle.std.proofs.lemmas.Bool.{cases_lt}
use Rattle.std.proofs.lemmas.List.Elements.{Contains-append_right}
use Rattle.tree_node.proofs.ClassLemmas.{Contains-head, Contains-tail}
use Rattle.site_message.specs.declared.message.Sent.{Sent}
use Rattle.site_message.specs.declared.turn.Turn.{Turn}
use Rattle.site_message.specs.Journal.{Wired, IsTravelling, sent_of, was_delivered, is_number}
use Rattle.site_message.specs.Journal.{travelling, without_number}
use Rattle.site_message.proofs.JournalLemmas.{travelling_tells}
use Rattle.site_message.proofs.TravelLemmas.{travelling_grows}
use Rattle.world_model.proofs.PutLemmas.{nat_decides}
use Rattle.world_core.specs.Mail.{message_at}
use Rattle.world_core.specs.World.{travelling_at}

-- what travels by its number, in the words of the journal
pub travels_there : (j : List Turn) (k : ℕ) (m : Sent) → travelling_at j k ≡ Some m → IsTravelling j k m
travels_there j k m e = by (was_delivered j k) refl e
  where
    by : (b : Bool) → was_delivered j k ≡ b → cond b None (slice_get (sent_of j) k) ≡ Some m → IsTravelling j k m
    by true q h = cc
    by false q h = (h, q)

pub there_travels : (j : List Turn) (k : ℕ) (m : Sent) → IsTravelling j k m → travelling_at j k ≡ Some m
there_travels j k m h = rw h.1 h.0

-- ---- look-ups behind one another

abbrev first_or : Option Sent → Option Sent → Option Sent
first_or None o = o
first_or (Some x) o = Some x

lookup_append : (k : ℕ) (xs ys : List (ℕ × Sent)) → message_at (xs ++ ys) k ≡ first_or (message_at xs k) (message_at ys k)
lookup_append k [] ys = refl
lookup_append k ((n, s) ∷ xs) ys = by (nat_eq k n) (lookup_append k xs ys)
  where
    by : (b : Bool) → message_at (xs ++ ys) k ≡ first_or (message_at xs k) (message_at ys k) → cond b (Some s) (message_at (xs ++ ys) k) ≡ first_or (cond b (Some s) (message_at xs k)) (message_at ys k)
    by true ih = refl
    by false ih = ih

or_none : (o : Option Sent) → first_or o None ≡ o
or_none None = refl
or_none (Some x) = refl

-- numbers from c on
lookup_below : (k c : ℕ) (es : List Sent) → k < c → message_at (enumerate_from c es) k ≡ None
lookup_below k c [] low = refl
lookup_below k c (s ∷ es) low =
    let other : nat_eq k c ≡ false = no (nat_eq k c) refl in
    rw other (lookup_below k (c + 1) es (omega arith))
  where
    no : (b : Bool) → nat_eq k c ≡ b → nat_eq k c ≡ false
    no true q = let same : k ≡ c = (nat_decides k c).0 q in absurd (omega arith)
    no false q = q

lookup_from : (i k c : ℕ) (es : List Sent) → k ≡ c + i → message_at (enumerate_from c es) k ≡ slice_get es i
lookup_from i k c [] at = refl
lookup_from zero k c (s ∷ es) at =
    let same : nat_eq k c ≡ true = (nat_decides k c).1 (omega arith) in
    rw same refl
lookup_from (suc i) k c (s ∷ es) at =
    let other : nat_eq k c ≡ false = no (nat_eq k c) refl in
    rw other (lookup_from i k (c + 1) es (omega arith))
  where
    no : (b : Bool) → nat_eq k c ≡ b → nat_eq k c ≡ false
    no true q = let same : k ≡ c = (nat_decides k c).0 q in absurd (omega arith)
    no false q = q

get_low : {X : Type 0} (xs ys : List X) (k : ℕ) → k < length xs → slice_get (xs ++ ys) k ≡ slice_get xs k
get_low [] ys k low = absurd (omega arith)
get_low (x ∷ xs) ys zero low = refl
get_low (x ∷ xs) ys (suc k) low = get_low xs ys k (omega arith)

get_high : {X : Type 0} (xs ys : List X) (i k : ℕ) → k ≡ length xs + i → slice_get (xs ++ ys) k ≡ slice_get ys i
get_high [] ys i k at = let same : k ≡ i = omega arith in ap (slice_get ys) same
get_high (x ∷ xs) ys i zero at = absurd (omega arith)
get_high (x ∷ xs) ys i (suc k) at = get_high xs ys i k (omega arith)

numbered : (n : ℕ) (xs : List Sent) (k m : ℕ) (x : Sent) → m ≡ n + k → slice_get xs k ≡ Some x → Contains (enumerate_from n xs) (m, x)
numbered n [] k m x place e = cc
numbered n (y ∷ ys) zero m x place e =
    let message : y ≡ x = cc in
    let here : n ≡ m = omega arith in
    let pair : ◌≡◌ {A = ℕ × Sent} (n, y) (m, x) = λ i. (here i, message i) in
    subst (λ (z : ℕ × Sent). Contains ((n, y) ∷ enumerate_from (n + 1) ys) z) pair (Contains-head (n, y) (enumerate_from (n + 1) ys))
numbered n (y ∷ ys) (suc k) m x place e = Contains-tail (n, y) (m, x) (enumerate_from (n + 1) ys) (numbered (n + 1) ys k m x (omega arith) e)

pub get_past : {X : Type 0} (xs : List X) (k : ℕ) → length xs ≤ k → slice_get xs k ≡ None
get_past [] k high = refl
get_past (x ∷ xs) zero high = absurd (omega arith)
get_past (x ∷ xs) (suc k) high = get_past xs k (omega arith)

pub none_either : (b : Bool) (o : Option Sent) → o ≡ None → cond b None o ≡ None
none_either true o e = refl
none_either false o e = e

none_twice : (a b : Bool) (o : Option Sent) → cond a None (cond b None o) ≡ cond (a || b) None o
none_twice true b o = refl
none_twice false b o = refl

-- after a turn those travel that did, but for the one that it delivered, and those that it sent
module _ (j : List Turn) (e : Turn) (wired : Wired (e ∷ j)) (c : ℕ) (count : c ≡ length (sent_of j)) (ms ts : List (ℕ × Sent))
    (before : (k : ℕ) → message_at ms k ≡ travelling_at j k)
    (taken : (k : ℕ) → message_at ts k ≡ cond (is_number e.delivered k) None (message_at ms k)) where
  old_number : (k : ℕ) → k < c → message_at (ts ++ enumerate_from c e.sent) k ≡ travelling_at (e ∷ j) k
  old_number k low =
      lookup_append k ts (enumerate_from c e.sent)
      ∙ ap (first_or (message_at ts k)) (lookup_below k c e.sent low)
      ∙ or_none (message_at ts k)
      ∙ taken k
      ∙ ap (cond (is_number e.delivered k) None) (before k)
      ∙ none_twice (is_number e.delivered k) (was_delivered j k) (slice_get (sent_of j) k)
      ∙ ap (cond (was_delivered (e ∷ j) k) None) (sym (get_low (sent_of j) e.sent k (omega arith)))

  -- no old one has a new number
  gone : (k : ℕ) → c ≤ k → message_at ts k ≡ None
  gone k high = taken k ∙ none_either (is_number e.delivered k) (message_at ms k) (before k ∙ none_either (was_delivered j k) (slice_get (sent_of j) k) (get_past (sent_of j) k (omega arith)))

  sent_now : (k i : ℕ) → k ≡ c + i → slice_get e.sent i ≡ travelling_at (e ∷ j) k
  sent_now k i at = by (slice_get e.sent i) refl
    where
      get : slice_get (sent_of (e ∷ j)) k ≡ slice_get e.sent i
      get = get_high (sent_of j) e.sent i k (omega arith)

      by : (o : Option Sent) → slice_get e.sent i ≡ o → slice_get e.sent i ≡ travelling_at (e ∷ j) k
      by None q = q ∙ sym (none_either (was_delivered (e ∷ j) k) (slice_get (sent_of (e ∷ j)) k) (get ∙ q))
      by (Some m) q = q ∙ sym (there_travels (e ∷ j) k m ((travelling_tells (e ∷ j) k m).0 there))
        where
          new : Contains (enumerate_from (length (sent_of j)) e.sent) (k, m)
          new = numbered (length (sent_of j)) e.sent i k m (omega arith) q

          there : Contains (travelling (e ∷ j)) (k, m)
          there = subst (λ (xs : List (ℕ × Sent)). Contains xs (k, m)) (sym (travelling_grows j e wired)) (Contains-append_right (without_number e.delivered (travelling j)) (enumerate_from (length (sent_of j)) e.sent) (k, m) new)

  new_number : (k i : ℕ) → k ≡ c + i → message_at (ts ++ enumerate_from c e.sent) k ≡ travelling_at (e ∷ j) k
  new_number k i at =
      lookup_append k ts (enumerate_from c e.sent)
      ∙ ap (λ (o : Option Sent). first_or o (message_at (enumerate_from c e.sent) k)) (gone k (omega arith))
      ∙ lookup_from i k c e.sent at
      ∙ sent_now k i at

  pub mail_grows : (k : ℕ) → message_at (ts ++ enumerate_from c e.sent) k ≡ travelling_at (e ∷ j) k
  mail_grows k = by (cases_lt k c)
    where
      by : (k < c) ⊎ (c ≤ k) → message_at (ts ++ enumerate_from c e.sent) k ≡ travelling_at (e ∷ j) k
      by (inl low) = old_number k low
      by (inr high) = new_number k (k - c) (omega arith)
