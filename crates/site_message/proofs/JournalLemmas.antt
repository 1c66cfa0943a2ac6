-- What the definitions of journals say.
use Rattle.std.proofs.Common.{append_assoc, append-nil, arith, ◌≡◌, ◌∙◌, ℕ, zero, suc, ◌+◌, ◌<◌, ◌≤◌, List, [], ◌∷◌, ◌++◌, refl, sym, ap, subst, ◌⊎◌, inl, inr, Bool, true, false, cond, eqb-true, eq-eqb}
use Rattle.std.proofs.Common.{rules}
use Rattle.std.proofs.lemmas.Bool.{cases_lt, or_parts, not-true}
use Rattle.std.specs.Prelude.{◌↔◌, ◌&&◌, ◌||◌, ◌==◌, IsTrue, Option, Some, None, Contains, not, slice_get}
use Rattle.std.specs.List.{filter, enumerate_from}
use Rattle.tree_node.proofs.CompareLemmas.{filter_from}
use Rattle.tree_node.proofs.ClassLemmas.{Contains-head, Contains-tail, Contains-cons_cases}
use Rattle.site_message.specs.declared.message.Sent.{Sent}
use Rattle.site_message.specs.declared.turn.Turn.{Turn}
use Rattle.site_message.specs.Journal.{Wired, IsTravelling, sent_of, travelling, was_delivered, is_number, is_idle, are_idle, is_empty}
use Rattle.site_message.specs.Story.{own}
use Rattle.site_message.specs.Laws.{TravellingTells, WiredTells, IsAlone, QuietTells}
use Rattle.tree_node.proofs.OrderLemmas.{none}

-- a filter keeps what passes
pub kept : {X : Type 0} (p : X → Bool) (xs : List X) (x : X) → Contains xs x → p x ≡ true → Contains (filter p xs) x
kept p [] x at e = absurd (none x at)
kept {X} p (y ∷ ys) x at e = go (λ k. kept p ys x k e) (p y) refl (Contains-cons_cases y x ys at)
  where
    go : (Contains ys x → Contains (filter p ys) x) → (b : Bool) → p y ≡ b → (y ≡ x) ⊎ Contains ys x → Contains (cond (p y) (y ∷ filter p ys) (filter p ys)) x
    go rest true q (inl same) = rw q (subst (λ (z : X). Contains (y ∷ filter p ys) z) same (Contains-head y (filter p ys)))
    go rest true q (inr k) = rw q (Contains-tail y x (filter p ys) (rest k))
    go rest false q (inl same) = let contrary : false ≡ true = sym q ∙ ap p same ∙ e in cc
    go rest false q (inr k) = rw q (rest k)

-- an element with its place
numbered : {X : Type 0} (n : ℕ) (xs : List X) (k m : ℕ) (x : X) → m ≡ n + k → slice_get xs k ≡ Some x → Contains (enumerate_from n xs) (m, x)
numbered n [] k m x place e = cc
numbered {X} n (y ∷ ys) zero m x place e =
    let same : y ≡ x = cc in
    let here : n ≡ m = omega arith in
    subst (λ (i : ℕ). Contains (enumerate_from n (y ∷ ys)) (i, x)) here
    (subst (λ (z : X). Contains ((n, y) ∷ enumerate_from (n + 1) ys) (n, z)) same (Contains-head (n, y) (enumerate_from (n + 1) ys)))
numbered n (y ∷ ys) (suc k) m x place e = Contains-tail (n, y) (m, x) (enumerate_from (n + 1) ys) (numbered (n + 1) ys k m x (omega arith) e)

-- the element of a place
abbrev HasNumber : {X : Type 0} → ℕ → List X → ℕ → X → Type 0
HasNumber n xs m x = (k : ℕ) × (m ≡ n + k) × (slice_get xs k ≡ Some x)

at_number : {X : Type 0} (n : ℕ) (xs : List X) (m : ℕ) (x : X) → Contains (enumerate_from n xs) (m, x) → HasNumber n xs m x
at_number n [] m x at = absurd (none (m, x) at)
at_number {X} n (y ∷ ys) m x at = go (λ k. at_number (n + 1) ys m x k) (Contains-cons_cases (n, y) (m, x) (enumerate_from (n + 1) ys) at)
  where
    go : (Contains (enumerate_from (n + 1) ys) (m, x) → HasNumber (n + 1) ys m x) → (◌≡◌ {A = ℕ × X} (n, y) (m, x)) ⊎ Contains (enumerate_from (n + 1) ys) (m, x) → HasNumber n (y ∷ ys) m x
    go rest (inl e) =
        let place : n ≡ m = ap (λ (p : ℕ × X). p.0) e in
        let same : y ≡ x = ap (λ (p : ℕ × X). p.1) e in
        (0, omega arith, ap Some same)
    go rest (inr k) = let h = rest k in let e : m ≡ n + 1 + h.0 = h.1 in (suc h.0, omega arith, h.2)

pub travelling_tells : TravellingTells
travelling_tells j k m = (there, back)
  where
    there : Contains (travelling j) (k, m) → IsTravelling j k m
    there at =
        let h = filter_from (λ (p : ℕ × Sent). not (was_delivered j p.0)) (enumerate_from 0 (sent_of j)) (k, m) at in
        let place = at_number 0 (sent_of j) k m h.0 in
        let found : k ≡ 0 + place.0 = place.1 in
        let e : k ≡ place.0 = omega arith in
        (rw e place.2, not-true (was_delivered j k) h.1)

    back : IsTravelling j k m → Contains (travelling j) (k, m)
    back h = kept (λ (p : ℕ × Sent). not (was_delivered j p.0)) (enumerate_from 0 (sent_of j)) (k, m) (numbered 0 (sent_of j) k k m (omega arith) h.0) (ap not h.1)

-- what was delivered and what was sent stays so
pub sent_more : {X : Type 0} (xs ys : List X) (k : ℕ) (x : X) → slice_get xs k ≡ Some x → slice_get (xs ++ ys) k ≡ Some x
sent_more [] ys k x e = cc
sent_more (y ∷ xs) ys zero x e = e
sent_more (y ∷ xs) ys (suc k) x e = sent_more xs ys k x e

-- what was sent stays where it is
pub sent_later : (more j : List Turn) → (rest : List Sent) × (sent_of (more ++ j) ≡ sent_of j ++ rest)
sent_later [] j = ([], sym (append-nil (sent_of j)))
sent_later (e ∷ more) j = let h = sent_later more j in (h.0 ++ e.sent, ap (λ l. l ++ e.sent) h.1 ∙ append_assoc (sent_of j) h.0 e.sent)

-- a turn of the site is the newest of its own
pub own_this : (i : ℕ) (e : Turn) (j : List Turn) → e.site ≡ i → own i (e ∷ j) ≡ e ∷ own i j
own_this i e j is = ap (λ (b : Bool). cond b (e ∷ own i j) (own i j)) (eq-eqb e.site i is)

undelivered_before : (later earlier : List Turn) (e : Turn) (k : ℕ) → was_delivered (later ++ e ∷ earlier) k ≡ false → is_number e.delivered k ≡ false
undelivered_before [] earlier e k h = (or_parts (is_number e.delivered k) (was_delivered earlier k) h).0
undelivered_before (t ∷ later) earlier e k h = undelivered_before later earlier e k (or_parts (is_number t.delivered k) (was_delivered (later ++ e ∷ earlier) k) h).1

pub this_number : (o : Option ℕ) (k : ℕ) → is_number o k ≡ true → o ≡ Some k
this_number None k e = absurd (cc)
this_number (Some n) k e = ap Some (eqb-true n k e)

is_this : (o : Option ℕ) (k : ℕ) → o ≡ Some k → is_number o k ≡ true
is_this o k e = rw e (search rules)

not_this : (o : Option ℕ) (k : ℕ) → (o ≡ Some k → ⊥) → is_number o k ≡ false
not_this None k h = refl
not_this (Some n) k h = go (n == k) refl
  where
    go : (b : Bool) → (n == k) ≡ b → (n == k) ≡ false
    go true q = let same : n ≡ k = search rules in absurd (h (ap Some same))
    go false q = q

alone : (later earlier : List Turn) (e : Turn) (k : ℕ) → Wired (later ++ e ∷ earlier) → e.delivered ≡ Some k → IsAlone later earlier e k
alone [] earlier e k wired is = let h = wired.1 k is in (h.0, h.1, h.2, refl)
alone (t ∷ later) earlier e k wired is =
    let h = alone later earlier e k wired.0 is in
    (h.0, h.1, h.2, both (not_this t.delivered k (λ again. again_none again)) h.3)
  where
    both : {a b : Bool} → a ≡ false → b ≡ false → (a || b) ≡ false
    both p q = rw p q

    again_none : t.delivered ≡ Some k → ⊥
    again_none again =
        let o = wired.1 k again in
        let no : is_number e.delivered k ≡ false = undelivered_before later earlier e k o.1.1 in
        let yes : is_number e.delivered k ≡ true = is_this e.delivered k is in
        let contrary : true ≡ false = sym yes ∙ no in cc

pub wired_tells : WiredTells
wired_tells j wired later earlier e k is delivered = alone later earlier e k (subst Wired is wired) delivered

none_travels : (ms : List (ℕ × Sent)) → is_empty ms ≡ true ↔ ((k : ℕ) (m : Sent) → Contains ms (k, m) → ⊥)
none_travels [] = (λ e k m at. none (k, m) at, λ h. refl)
none_travels ((k, m) ∷ ms) = (λ e. cc, λ h. absurd (h k m (Contains-head (k, m) ms)))

both_true : (a b : Bool) → IsTrue (a && b) ↔ IsTrue a × IsTrue b
both_true true b = (λ h. (refl, h), λ h. h.1)
both_true false b = (λ h. cc, λ h. cc)

all_idle : (n : ℕ) (j : List Turn) → IsTrue (are_idle n j) ↔ ((i : ℕ) → 1 ≤ i → i ≤ n → IsTrue (is_idle j i))
all_idle zero j = (λ h i low high. absurd (omega arith), λ h. refl)
all_idle (suc n) j =
    let rest = all_idle n j in
    let split = both_true (is_idle j (suc n)) (are_idle n j) in
    (λ h. there (split.0 h).0 (rest.0 (split.0 h).1), λ h. split.1 (h (suc n) (omega arith) (omega arith), rest.1 (λ i low high. h i low (omega arith))))
  where
    there : IsTrue (is_idle j (suc n)) → ((i : ℕ) → 1 ≤ i → i ≤ n → IsTrue (is_idle j i)) → (i : ℕ) → 1 ≤ i → i ≤ suc n → IsTrue (is_idle j i)
    there last rest i low high = go (cases_lt n i)
      where
        go : (n < i) ⊎ (i ≤ n) → IsTrue (is_idle j i)
        go (inl above) = let e : suc n ≡ i = omega arith in subst (λ (k : ℕ). IsTrue (is_idle j k)) e last
        go (inr below) = rest i low below

pub quiet_tells : QuietTells
quiet_tells n j =
    let split = both_true (is_empty (travelling j)) (are_idle n j) in
    let empty = none_travels (travelling j) in
    let idle = all_idle n j in (
      λ h. let two = split.0 h in (λ k m t. (empty.0 (is_true two.0)) k m ((travelling_tells j k m).1 t), idle.0 two.1),
      λ h. split.1 (to_true (empty.1 (λ k m at. h.0 k m ((travelling_tells j k m).0 at))), idle.1 h.1),
    )
  where
    is_true : {b : Bool} → IsTrue b → b ≡ true
    is_true h = search rules

    to_true : {b : Bool} → b ≡ true → IsTrue b
    to_true h = search rules
