-- How the travelling messages change with a turn.
use Rattle.std.proofs.Common.{arith, ◌≡◌, ◌∙◌, ℕ, suc, ◌+◌, ◌<◌, ◌≤◌, List, [], ◌∷◌, ◌++◌, length, Bool, true, false, eqb, eq-eqb, ne_eqb, Option, Some, None, refl, sym, ap, ⊎_elim, length-append}
use Rattle.std.specs.Prelude.{◌||◌, not, Contains}
use Rattle.std.specs.List.{filter, enumerate_from}
use Rattle.std.proofs.lemmas.List.Elements.{filter-append}
use Rattle.std.proofs.lemmas.List.FromFn.{length-enumerate_from}
use Rattle.tree_node.proofs.ClassLemmas.{Contains-cons_cases}
use Rattle.site_message.specs.declared.message.Sent.{Sent}
use Rattle.site_message.specs.declared.turn.Turn.{Turn}
use Rattle.site_message.specs.Journal.{Wired, sent_of, travelling, was_delivered, is_number, without_number, deliveries, delivery_count}
use Rattle.site_message.specs.Laws.{IsAscending, TravellingGrows, TravellingAscends, MessagesAddUp, FewAreDelivered}
use Rattle.site_message.specs.Story.{own}
use Rattle.site_message.proofs.JournalLemmas.{this_number, travelling_tells}
use Rattle.tree_node.proofs.OrderLemmas.{none}
use Rattle.std.proofs.lemmas.Bool.{or_cases, false_from_ne_true}
use Rattle.std.proofs.lemmas.Option.{slice_get_within}

pub enumerate-append : {X : Type 0} (n : ℕ) (xs ys : List X) → enumerate_from n (xs ++ ys) ≡ enumerate_from n xs ++ enumerate_from (n + length xs) ys
enumerate-append n [] ys = ap (λ k. enumerate_from k ys) (omega arith)
enumerate-append n (x ∷ xs) ys = ap (λ l. (n, x) ∷ l) (enumerate-append (n + 1) xs ys ∙ ap (λ k. enumerate_from (n + 1) xs ++ enumerate_from k ys) (omega arith))

-- two filters in a row
filter_step : {X : Type 0} (a b : X → Bool) (x : X) (xs : List X) (s t : Bool) → a x ≡ s → b x ≡ t →
    filter (λ x. not (a x || b x)) xs ≡ filter (λ x. not (a x)) (filter (λ x. not (b x)) xs) →
    filter (λ x. not (a x || b x)) (x ∷ xs) ≡ filter (λ x. not (a x)) (filter (λ x. not (b x)) (x ∷ xs))
filter_step a b x xs true true p q rest = rw (p, q) rest
filter_step a b x xs true false p q rest = rw (p, q) (rw p rest)
filter_step a b x xs false true p q rest = rw (p, q) rest
filter_step a b x xs false false p q rest = rw (p, q) (rw p (ap (λ l. x ∷ l) rest))

filter_twice : {X : Type 0} (a b : X → Bool) (xs : List X) → filter (λ x. not (a x || b x)) xs ≡ filter (λ x. not (a x)) (filter (λ x. not (b x)) xs)
filter_twice a b [] = refl
filter_twice a b (x ∷ xs) = filter_step a b x xs (a x) (b x) refl refl (filter_twice a b xs)

delivered_inside : (j : List Turn) (e : Turn) → Wired (e ∷ j) → (k : ℕ) → is_number e.delivered k ≡ true → k < length (sent_of j)
delivered_inside j e w k h = let t = w.1 k (this_number e.delivered k h) in slice_get_within (sent_of j) k t.0 t.1.0

delivered_below : (j : List Turn) → Wired j → (k : ℕ) → was_delivered j k ≡ true → k < length (sent_of j)
delivered_below [] w k d = absurd (cc)
delivered_below (e ∷ j) w k d =
    let long = length-append (sent_of j) e.sent in
    ⊎_elim
    (λ (h : is_number e.delivered k ≡ true). let b = delivered_inside j e w k h in omega arith)
    (λ (h : was_delivered j k ≡ true). let b = delivered_below j w.0 k h in omega arith)
    (or_cases (is_number e.delivered k) (was_delivered j k) d)

-- a new message was not delivered
new_undelivered : (j : List Turn) (e : Turn) → Wired (e ∷ j) → (k : ℕ) → length (sent_of j) ≤ k → was_delivered (e ∷ j) k ≡ false
new_undelivered j e w k above =
    let now = false_from_ne_true (is_number e.delivered k) (λ h. let b = delivered_inside j e w k h in omega arith) in
    let before = false_from_ne_true (was_delivered j k) (λ h. let b = delivered_below j w.0 k h in omega arith) in
    rw (now, before) refl

abbrev undelivered : List Turn → ℕ × Sent → Bool
undelivered j p = not (was_delivered j p.0)

new_stay : (j : List Turn) (e : Turn) → Wired (e ∷ j) → (n : ℕ) (ss : List Sent) → length (sent_of j) ≤ n → filter (undelivered (e ∷ j)) (enumerate_from n ss) ≡ enumerate_from n ss
new_stay j e w n [] above = refl
new_stay j e w n (s ∷ ss) above =
    let here : undelivered (e ∷ j) (n, s) ≡ true = ap not (new_undelivered j e w n above) in
    rw here (ap (λ l. (n, s) ∷ l) (new_stay j e w (n + 1) ss (omega arith)))

zero_plus : (n : ℕ) → 0 + n ≡ n
zero_plus n = omega arith

pub travelling_grows : TravellingGrows
travelling_grows j e w =
    let old = sent_of j in
    let old_left = filter_twice (λ (p : ℕ × Sent). is_number e.delivered p.0) (λ (p : ℕ × Sent). was_delivered j p.0) (enumerate_from 0 old) in
    let new_left = new_stay j e w (length old) e.sent (omega arith) in
    ap (filter (undelivered (e ∷ j))) (enumerate-append 0 old e.sent)
    ∙ (filter-append (undelivered (e ∷ j)) (enumerate_from 0 old) (enumerate_from (0 + length old) e.sent)
    ∙ (ap (λ m. filter (undelivered (e ∷ j)) (enumerate_from 0 old) ++ filter (undelivered (e ∷ j)) (enumerate_from m e.sent)) (zero_plus (length old))
    ∙ (λ i. old_left i ++ new_left i)))

-- numbers that ascend
ascends_enumerate : {A : Type 0} (n : ℕ) (xs : List A) → IsAscending n (enumerate_from n xs)
ascends_enumerate n [] = tt
ascends_enumerate n (x ∷ xs) = (omega arith, ascends_enumerate (n + 1) xs)

ascends_lower : {A : Type 0} (b c : ℕ) (xs : List (ℕ × A)) → b ≤ c → IsAscending c xs → IsAscending b xs
ascends_lower b c [] below h = tt
ascends_lower b c (p ∷ ps) below h = let low = h.0 in (omega arith, h.1)

ascends_step : {A : Type 0} (t : ℕ × A → Bool) (b : ℕ) (p : ℕ × A) (ps : List (ℕ × A)) (s : Bool) → t p ≡ s → b ≤ p.0 → IsAscending (p.0 + 1) (filter t ps) → IsAscending b (filter t (p ∷ ps))
ascends_step t b p ps true e low rest = rw e (low, rest)
ascends_step t b p ps false e low rest = rw e (ascends_lower b (p.0 + 1) (filter t ps) (omega arith) rest)

pub ascends_filter : {A : Type 0} (t : ℕ × A → Bool) (b : ℕ) (xs : List (ℕ × A)) → IsAscending b xs → IsAscending b (filter t xs)
ascends_filter t b [] h = tt
ascends_filter t b (p ∷ ps) h = ascends_step t b p ps (t p) refl h.0 (ascends_filter t (p.0 + 1) ps h.1)

pub travelling_ascends : TravellingAscends
travelling_ascends j = ascends_filter (undelivered j) 0 (enumerate_from 0 (sent_of j)) (ascends_enumerate 0 (sent_of j))

-- one number, one message
number_from : (b : ℕ) (xs : List (ℕ × Sent)) → IsAscending b xs → (k : ℕ) (m : Sent) → Contains xs (k, m) → b ≤ k
number_from b [] h k m at = absurd (none (k, m) at)
number_from b ((n, s) ∷ ps) h k m at =
    let low : b ≤ n = h.0 in
    ⊎_elim
    (λ (e : ◌≡◌ {A = ℕ × Sent} (n, s) (k, m)). let same : n ≡ k = ap (λ (p : ℕ × Sent). p.0) e in omega arith)
    (λ (r : Contains ps (k, m)). let above = number_from (n + 1) ps h.1 k m r in omega arith)
    (Contains-cons_cases (n, s) (k, m) ps at)

none_without : (k b : ℕ) (xs : List (ℕ × Sent)) → IsAscending b xs → k < b → without_number (Some k) xs ≡ xs
none_without k b [] h below = refl
none_without k b ((n, s) ∷ ps) h below =
    let low : b ≤ n = h.0 in
    let other : eqb k n ≡ false = ne_eqb k n (λ same. absurd (omega arith)) in
    rw other (ap (λ l. (n, s) ∷ l) (none_without k (n + 1) ps h.1 (omega arith)))

one_without : (b : ℕ) (xs : List (ℕ × Sent)) → IsAscending b xs → (k : ℕ) (m : Sent) → Contains xs (k, m) → suc (length (without_number (Some k) xs)) ≡ length xs
one_without b [] h k m at = absurd (none (k, m) at)
one_without b ((n, s) ∷ ps) h k m at = ⊎_elim here (λ r. later r (one_without (n + 1) ps h.1 k m r)) (Contains-cons_cases (n, s) (k, m) ps at)
  where
    here : ◌≡◌ {A = ℕ × Sent} (n, s) (k, m) → suc (length (without_number (Some k) ((n, s) ∷ ps))) ≡ length ((n, s) ∷ ps)
    here e =
        let same : n ≡ k = ap (λ (p : ℕ × Sent). p.0) e in
        let test : eqb k n ≡ true = eq-eqb k n (sym same) in
        rw test (ap (λ l. suc (length l)) (none_without k (n + 1) ps h.1 (omega arith)))

    later : Contains ps (k, m) → suc (length (without_number (Some k) ps)) ≡ length ps → suc (length (without_number (Some k) ((n, s) ∷ ps))) ≡ length ((n, s) ∷ ps)
    later r rest =
        let above = number_from (n + 1) ps h.1 k m r in
        let test : eqb k n ≡ false = ne_eqb k n (λ same. absurd (omega arith)) in
        rw test (ap suc rest)

all_without : (xs : List (ℕ × Sent)) → without_number None xs ≡ xs
all_without [] = refl
all_without (x ∷ xs) = ap (λ l. x ∷ l) (all_without xs)

taken_out : (j : List Turn) (e : Turn) → Wired (e ∷ j) → (o : Option ℕ) → e.delivered ≡ o → delivery_count o + length (without_number o (travelling j)) ≡ length (travelling j)
taken_out j e w None is = let same = ap length (all_without (travelling j)) in omega arith
taken_out j e w (Some k) is =
    let t = w.1 k is in
    let one = one_without 0 (travelling j) (travelling_ascends j) k t.0 ((travelling_tells j k t.0).1 t.1) in
    omega arith

pub messages_add_up : MessagesAddUp
messages_add_up [] w = refl
messages_add_up (e ∷ j) w =
    let before = messages_add_up j w.0 in
    let out = taken_out j e w e.delivered refl in
    let grown = ap length (travelling_grows j e w) in
    let parts = length-append (without_number e.delivered (travelling j)) (enumerate_from (length (sent_of j)) e.sent) in
    let new = length-enumerate_from (length (sent_of j)) e.sent in
    let sent = length-append (sent_of j) e.sent in
    omega arith

-- a site delivers no more than all do
own_step : (k : ℕ) (e : Turn) (j : List Turn) (t : Bool) → eqb e.site k ≡ t → deliveries (own k j) ≤ deliveries j → deliveries (own k (e ∷ j)) ≤ deliveries (e ∷ j)
own_step k e j true is h = rw is (omega arith)
own_step k e j false is h = rw is (omega arith)

own_fewer : (k : ℕ) (j : List Turn) → deliveries (own k j) ≤ deliveries j
own_fewer k [] = omega arith
own_fewer k (e ∷ j) = own_step k e j (eqb e.site k) refl (own_fewer k j)

pub few_are_delivered : FewAreDelivered
few_are_delivered k j w = let all = messages_add_up j w in let mine = own_fewer k j in omega arith
