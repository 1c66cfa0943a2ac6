-- How the messages on their way are kept by places and by sites.
use Rattle.std.proofs.Common.{rules, arith, ◌≡◌, ◌≢◌, ◌∙◌, sym, ap, refl, subst, ℕ, zero, suc, ◌+◌, ◌-◌, ◌<◌, ◌≤◌, List, [], ◌∷◌, ◌++◌, length, length-take, map, take, get_or, Bool, true, false, cond, ◌⊎◌, inl, inr}
use Rattle.std.specs.Prelude.{Option, Some, None, ◌==◌, ◌↔◌, nat_eq, nat_lt, option_map, position, slice_get, slice_index_or, slice_set, Contains, MatchOption, IfSome, is_some}
use Rattle.std.specs.List.{IsDistinct, swap_remove, enumerate_from, position_from}
use Rattle.std.specs.Map.{keys_of, values_of}
use Rattle.std.specs.Ordering.{nat_cmp, is_eq, is_gt}
use Rattle.std.specs.declared.cmp.Ordering.TheVariants.{Less, Equal, Greater}
use Rattle.std.specs.Cmp.{nat_eq_equiv}
use Rattle.std.specs.BTreeMap.{is_at}
use Rattle.std.proofs.lemmas.List.{map-set, take-map, get_or-map, take_more, map-append, length-map}
use Rattle.std.proofs.lemmas.Iterator.Adapters.{position_from-zero}
use Rattle.std.proofs.lemmas.List.Quantifiers.{position-Some}
use Rattle.std.proofs.lemmas.Map.Entries.{lookup_from_place, place_from_lookup}
use Rattle.std.proofs.lemmas.Grind.{common_steps}
use Rattle.std.proofs.lemmas.Option.{slice_get-map}
use Rattle.tree_node.proofs.ClassLemmas.{Contains-head, Contains-tail, Contains-cons_cases}
use Rattle.site_message.specs.declared.message.Msg.{Msg}
use Rattle.site_message.specs.declared.message.Sent.{Sent}
use Rattle.world_core.specs.declared.travel.Travel.{Travel}
use Rattle.world_core.specs.Mail.{IsConsistent, message_at, is_queued, with_bit, without_bit, queue_at, is_for}
use Rattle.world_core.specs.Travels.{travel_of, IsNoneFor, IsFirstFor, IsAt, IsPlaceOf}
use Rattle.std.proofs.lemmas.Bool.Decides.{Decides-eqb}

-- ---- numbers

pub same_number : (a b : ℕ) → is_at (nat_cmp a) b ≡ (a == b)
same_number a b = by (nat_lt a b) (a == b) refl refl
  where
    by : (s t : Bool) → nat_lt a b ≡ s → (a == b) ≡ t → is_eq (cond s Less (cond t Equal Greater)) ≡ t
    by true true p q =
        let low : a < b = search rules in
        let same : a ≡ b = (Decides-eqb a b).0 q in
        absurd (omega arith)
    by true false p q = refl
    by false true p q = refl
    by false false p q = refl

pub not_above : (a b : ℕ) → is_gt (nat_cmp a b) ≡ false → a ≤ b
not_above a b e = by (nat_lt a b) (a == b) refl refl e
  where
    by : (s t : Bool) → nat_lt a b ≡ s → (a == b) ≡ t → is_gt (cond s Less (cond t Equal Greater)) ≡ false → a ≤ b
    by true t p q h = let low : a < b = search rules in omega arith
    by false true p q h = let same : a ≡ b = (Decides-eqb a b).0 q in omega arith
    by false false p q h = cc

-- ---- queues

module _ (qs rs : List (List ℕ)) (ms ns : List (ℕ × Sent)) (number : ℕ) (sent : Sent)
    (old : (i k : ℕ) → i < length qs → is_queued (queue_at qs i) k ≡ is_for i (message_at ms k))
    (long : length rs ≡ length qs)
    (others : (i : ℕ) → i ≢ sent.to → queue_at rs i ≡ queue_at qs i) where
  either_site : (i : ℕ) → (i ≡ sent.to) ⊎ (i ≢ sent.to)
  either_site i = search rules

  -- the message came
  pub queues_with : (sent.to < length qs → (k : ℕ) → is_queued (queue_at rs sent.to) k ≡ with_bit number (is_queued (queue_at qs sent.to)) k) →
      message_at ms number ≡ None → ((k : ℕ) → message_at ns k ≡ cond (nat_eq number k) (Some sent) (message_at ms k)) →
      (i k : ℕ) → i < length rs → is_queued (queue_at rs i) k ≡ is_for i (message_at ns k)
  queues_with here new now i k inside = by (either_site i)
    where
      at_home : sent.to < length qs → (b : Bool) → cond b true (is_queued (queue_at qs sent.to) k) ≡ is_for sent.to (cond b (Some sent) (message_at ms k))
      at_home within true = sym ((Decides-eqb sent.to sent.to).1 refl)
      at_home within false = old sent.to k within

      elsewhere : i ≢ sent.to → (b : Bool) → nat_eq number k ≡ b → is_queued (queue_at qs i) k ≡ is_for i (cond b (Some sent) (message_at ms k))
      elsewhere other true e =
          let same : number ≡ k = (Decides-eqb number k).0 e in
          old i k (omega arith) ∙ ap (is_for i) (ap (message_at ms) (sym same) ∙ new) ∙ no (sent.to == i) refl
        where
          no : (b : Bool) → (sent.to == i) ≡ b → false ≡ b
          no true q = absurd (other (sym ((Decides-eqb sent.to i).0 q)))
          no false q = refl
      elsewhere other false e = old i k (omega arith)

      by : (i ≡ sent.to) ⊎ (i ≢ sent.to) → is_queued (queue_at rs i) k ≡ is_for i (message_at ns k)
      by (inl same) =
          let within : sent.to < length qs = omega arith in
          subst (λ (x : ℕ). is_queued (queue_at rs x) k ≡ is_for x (message_at ns k)) (sym same) (here within k ∙ at_home within (nat_eq number k) ∙ ap (is_for sent.to) (sym (now k)))
      by (inr other) = ap (λ (q : List ℕ). is_queued q k) (others i other) ∙ elsewhere other (nat_eq number k) refl ∙ ap (is_for i) (sym (now k))

  -- the message left
  pub queues_without : (sent.to < length qs → (k : ℕ) → is_queued (queue_at rs sent.to) k ≡ without_bit number (is_queued (queue_at qs sent.to)) k) →
      message_at ms number ≡ Some sent → ((k : ℕ) → message_at ns k ≡ cond (nat_eq number k) None (message_at ms k)) →
      (i k : ℕ) → i < length rs → is_queued (queue_at rs i) k ≡ is_for i (message_at ns k)
  queues_without here there now i k inside = by (either_site i)
    where
      at_home : sent.to < length qs → (b : Bool) → cond b false (is_queued (queue_at qs sent.to) k) ≡ is_for sent.to (cond b None (message_at ms k))
      at_home within true = refl
      at_home within false = old sent.to k within

      elsewhere : i ≢ sent.to → (b : Bool) → nat_eq number k ≡ b → is_queued (queue_at qs i) k ≡ is_for i (cond b None (message_at ms k))
      elsewhere other true e =
          let same : number ≡ k = (Decides-eqb number k).0 e in
          old i k (omega arith) ∙ ap (is_for i) (ap (message_at ms) (sym same) ∙ there) ∙ no (sent.to == i) refl
        where
          no : (b : Bool) → (sent.to == i) ≡ b → b ≡ false
          no true q = absurd (other (sym ((Decides-eqb sent.to i).0 q)))
          no false q = refl
      elsewhere other false e = old i k (omega arith)

      by : (i ≡ sent.to) ⊎ (i ≢ sent.to) → is_queued (queue_at rs i) k ≡ is_for i (message_at ns k)
      by (inl same) =
          let within : sent.to < length qs = omega arith in
          subst (λ (x : ℕ). is_queued (queue_at rs x) k ≡ is_for x (message_at ns k)) (sym same) (here within k ∙ at_home within (nat_eq number k) ∙ ap (is_for sent.to) (sym (now k)))
      by (inr other) = ap (λ (q : List ℕ). is_queued q k) (others i other) ∙ elsewhere other (nat_eq number k) refl ∙ ap (is_for i) (sym (now k))

-- ---- places

pub map_swap_remove : {X Y : Type 0} (f : X → Y) (xs : List X) (i : ℕ) (x : X) (y : Y) → i < length xs → map f (swap_remove xs i x) ≡ swap_remove (map f xs) i y
map_swap_remove {X} {Y} f xs i x y inside =
    let last : length xs - 1 < length xs = omega arith in
    sym (take-map f (length xs - 1) (slice_set xs i (get_or xs (length xs - 1) x)))
    ∙ ap (take (length xs - 1)) (map-set f xs i (get_or xs (length xs - 1) x) ∙ ap (slice_set (map f xs) i) (sym (get_or-map f xs (length xs - 1) x y last)))
    ∙ ap (λ (n : ℕ). take (n - 1) (slice_set (map f xs) i (get_or (map f xs) (n - 1) y))) (sym (length-map xs f))

contains_at : {X : Type 0} (xs : List X) (x : X) → Contains xs x → (p : ℕ) × (slice_get xs p ≡ Some x)
contains_at [] x (k, below, is) = absurd (omega arith)
contains_at {X} (y ∷ ys) x at = by (λ k. contains_at ys x k) (Contains-cons_cases y x ys at)
  where
    by : (Contains ys x → (p : ℕ) × (slice_get ys p ≡ Some x)) → (y ≡ x) ⊎ Contains ys x → (p : ℕ) × (slice_get (y ∷ ys) p ≡ Some x)
    by rest (inl e) = (0, ap Some e)
    by rest (inr k) = let h = rest k in (suc h.0, h.1)

at_contains : {X : Type 0} (xs : List X) (x : X) (p : ℕ) → slice_get xs p ≡ Some x → Contains xs x
at_contains [] x p e = cc
at_contains {X} (y ∷ ys) x zero e = let same : y ≡ x = cc in subst (λ (z : X). Contains (y ∷ ys) z) same (Contains-head y ys)
at_contains (y ∷ ys) x (suc p) e = Contains-tail y x ys (at_contains ys x p e)

-- an entry from its number and its message
entry_of : (ms : List (ℕ × Sent)) (p k : ℕ) (m : Sent) → slice_get (values_of ms) p ≡ Some m → get_or (keys_of ms) p 0 ≡ k → slice_get ms p ≡ Some (k, m)
entry_of [] p k m e h = cc
entry_of ((n, s) ∷ ms) zero k m e h =
    let message : s ≡ m = cc in
    let pair : ◌≡◌ {A = ℕ × Sent} (n, s) (k, m) = λ i. (h i, message i) in
    ap Some pair
entry_of ((n, s) ∷ ms) (suc p) k m e h = entry_of ms p k m e h

-- an entry of the list is found by its number, and the other way round
pub found_at : (ms : List (ℕ × Sent)) (p k : ℕ) (m : Sent) → IsDistinct nat_eq (keys_of ms) → slice_get ms p ≡ Some (k, m) → message_at ms k ≡ Some m
found_at ms p k m once e = lookup_from_place nat_eq_equiv ms p k m once e

entry_at : (ms : List (ℕ × Sent)) (t : Travel) (p : ℕ) → slice_get (map travel_of ms) p ≡ Some t → (m : Sent) × (slice_get ms p ≡ Some (t.number, m)) × (m.to ≡ t.to)
entry_at [] t p e = cc
entry_at ((n, s) ∷ ms) t zero e =
    let same : travel_of (n, s) ≡ t = cc in
    let number : n ≡ t.number = ap (λ (x : Travel). x.number) same in
    let to : s.to ≡ t.to = ap (λ (x : Travel). x.to) same in
    (s, ap (λ (x : ℕ). Some (x, s)) number, to)
entry_at ((n, s) ∷ ms) t (suc p) e = entry_at ms t p e

pub travel_at : (ms : List (ℕ × Sent)) (p k : ℕ) (m : Sent) → slice_get ms p ≡ Some (k, m) → slice_get (map travel_of ms) p ≡ Some (record { number = k; to = m.to })
travel_at ms p k m e = slice_get-map travel_of ms p ∙ ap (option_map travel_of) e

-- the travels of the messages, by their numbers
pub travels_tell : (ms : List (ℕ × Sent)) → IsDistinct nat_eq (keys_of ms) → (k to : ℕ) → Contains (map travel_of ms) (record { number = k; to = to }) ↔ ((m : Msg) × (message_at ms k ≡ Some (record { to = to; msg = m })))
travels_tell ms once k to = (there, back)
  where
    there : Contains (map travel_of ms) (record { number = k; to = to }) → (m : Msg) × (message_at ms k ≡ Some (record { to = to; msg = m }))
    there at =
        let p = contains_at (map travel_of ms) _ at in
        let e = entry_at ms (record { number = k; to = to }) p.0 p.1 in
        (e.0.msg, subst (λ (x : ℕ). message_at ms k ≡ Some (record { to = x; msg = e.0.msg })) e.2 (found_at ms p.0 k e.0 once e.1))

    back : (m : Msg) × (message_at ms k ≡ Some (record { to = to; msg = m })) → Contains (map travel_of ms) (record { number = k; to = to })
    back (m, e) =
        let found = place_from_lookup (nat_eq k) ms (record { to = to; msg = m }) e in
        let same : k ≡ found.1 = (Decides-eqb k found.1).0 found.3 in
        let entry : slice_get ms found.0 ≡ Some (k, record { to = to; msg = m }) = subst (λ (x : ℕ). slice_get ms found.0 ≡ Some (x, record { to = to; msg = m })) (sym same) found.2 in
        at_contains (map travel_of ms) _ found.0 (travel_at ms found.0 k (record { to = to; msg = m }) entry)

-- ---- the message of a number

pub number_held : (ms : List (ℕ × Sent)) (number : ℕ) (m : Sent) →
    (r : Option ℕ) → r ≡ position (nat_eq number) (keys_of ms) → is_some r ≡ is_some (message_at ms number) → IfSome r (λ i. slice_get (values_of ms) i ≡ message_at ms number) → message_at ms number ≡ Some m →
    (place : ℕ) × (r ≡ Some place) × IsAt (map travel_of ms) m.to place number
number_held ms number m None index found value q = let no : false ≡ true = found ∙ ap is_some q in cc
number_held ms number m (Some place) index found value q =
    let key = (position-Some (nat_eq number) (keys_of ms) place 0 (sym index)).1 in
    let same : number ≡ get_or (keys_of ms) place 0 = (Decides-eqb number (get_or (keys_of ms) place 0)).0 key in
    (place, refl, travel_at ms place number m (entry_of ms place number m (value ∙ q) (sym same)))

pub number_place : (ms : List (ℕ × Sent)) (number : ℕ) → IsDistinct nat_eq (keys_of ms) →
    (r : Option ℕ) → r ≡ position (nat_eq number) (keys_of ms) → is_some r ≡ is_some (message_at ms number) → IfSome r (λ i. slice_get (values_of ms) i ≡ message_at ms number) → IsPlaceOf (map travel_of ms) number r
number_place ms number once None index found value = none
  where
    none : (t : Travel) → Contains (map travel_of ms) t → t.number ≡ number → ⊥
    none t at same =
        let p = contains_at (map travel_of ms) t at in
        let e = entry_at ms t p.0 p.1 in
        let some : message_at ms number ≡ Some e.0 = subst (λ (k : ℕ). message_at ms k ≡ Some e.0) same (found_at ms p.0 t.number e.0 once e.1) in
        let no : false ≡ true = found ∙ ap is_some some in
        cc
number_place ms number once (Some place) index found value = by (message_at ms number) refl
  where
    by : (o : Option Sent) → message_at ms number ≡ o → IsPlaceOf (map travel_of ms) number (Some place)
    by None q = let no : true ≡ false = found ∙ ap is_some q in cc
    by (Some m) q =
        let h = number_held ms number m (Some place) index found value q in
        let same : place ≡ h.0 = cc in
        (m.to, subst (λ (x : ℕ). IsAt (map travel_of ms) m.to x number) (sym same) h.2)

-- ---- looked through

-- at this place behind i others is the travel of this number; none, where there is no such travel
abbrev IsPlaceBehind : ℕ → List Travel → ℕ → Option ℕ → Type 0
IsPlaceBehind i ts number None = (t : Travel) → Contains ts t → t.number ≡ number → ⊥
IsPlaceBehind i ts number (Some place) = (p : ℕ) × (place ≡ i + p) × ((to : ℕ) × IsAt ts to p number)

module _ (number : ℕ) where
  place_behind : (ts : List Travel) (i : ℕ) → IsPlaceBehind i ts number (position_from (λ (t : Travel). t.number == number) i ts)
  place_behind [] i = λ t at same. absurd (no_travel t at)
    where
      no_travel : (t : Travel) → Contains [] t → ⊥
      no_travel t (k, below, is) = absurd (omega arith)
  place_behind (t ∷ ts) i = by (t.number == number) refl (place_behind ts (i + 1))
    where
      rest : Option ℕ
      rest = position_from (λ (u : Travel). u.number == number) (i + 1) ts

      next : (o : Option ℕ) → (t.number == number) ≡ false → IsPlaceBehind (i + 1) ts number o → IsPlaceBehind i (t ∷ ts) number o
      next None other none = λ u at same. here u same (Contains-cons_cases t u ts at)
        where
          here : (u : Travel) → u.number ≡ number → (t ≡ u) ⊎ Contains ts u → ⊥
          here u same (inl e) =
              let yes : (t.number == number) ≡ true = (Decides-eqb t.number number).1 (ap (λ (x : Travel). x.number) e ∙ same) in
              let clash : true ≡ false = sym yes ∙ other in
              cc
          here u same (inr k) = none u k same
      next (Some place) other (p, is, at) = (suc p, omega (arith, is), at)

      by : (b : Bool) → (t.number == number) ≡ b → IsPlaceBehind (i + 1) ts number rest → IsPlaceBehind i (t ∷ ts) number (cond b (Some i) rest)
      by true e behind =
          let same : t.number ≡ number = (Decides-eqb t.number number).0 e in
          (0, omega arith, (t.to, ap (λ (n : ℕ). Some (the_travel n)) same))
        where
          the_travel : ℕ → Travel
          the_travel n = record { number = n; to = t.to }
      by false e behind = next rest e behind

  first_place : (ts : List Travel) (o : Option ℕ) → IsPlaceBehind 0 ts number o → IsPlaceOf ts number o
  first_place ts None none = none
  first_place ts (Some place) (p, is, at) =
      let same : p ≡ place = omega (arith, is) in
      (at.0, subst (λ (x : ℕ). IsAt ts at.0 x number) same at.1)

  pub looked_through : (ts : List Travel) (r : Option ℕ) → r ≡ position (λ (t : Travel). t.number == number) ts → IsPlaceOf ts number r
  looked_through ts r is =
      subst (λ (o : Option ℕ). IsPlaceOf ts number o) (sym (is ∙ position_from-zero (λ (t : Travel). t.number == number) ts))
      (first_place ts (position_from (λ (t : Travel). t.number == number) 0 ts) (place_behind ts 0))

-- the place of a number is that of its message
pub place_held : (ms : List (ℕ × Sent)) (number : ℕ) → IsDistinct nat_eq (keys_of ms) → (r : Option ℕ) → IsPlaceOf (map travel_of ms) number r → (m : Sent) → message_at ms number ≡ Some m →
    (place : ℕ) × (r ≡ Some place) × IsAt (map travel_of ms) m.to place number
place_held ms number once None none m q = absurd (none (record { number = number; to = m.to }) ((travels_tell ms once number m.to).1 (m.msg, q)) refl)
place_held ms number once (Some place) (to, at) m q =
    let e = entry_at ms (record { number = number; to = to }) place at in
    let both : ◌≡◌ {A = Option Sent} (Some e.0) (Some m) = sym (found_at ms place number e.0 once e.1) ∙ q in
    let same : e.0 ≡ m = cc in
    (place, refl, subst (λ (x : ℕ). IsAt (map travel_of ms) x place number) (sym e.2 ∙ ap (λ (s : Sent). s.to) same) at)

-- ---- the next message for a site

module _ (ms : List (ℕ × Sent)) (ts : List Travel) (qs : List (List ℕ)) (kept : IsConsistent ms ts qs) (site : ℕ) (inside : site < length qs) where
  -- the numbers of those for the site are in its queue
  queued : (t : Travel) → Contains (map travel_of ms) t → t.to ≡ site → is_queued (queue_at qs site) t.number ≡ true
  queued t at to =
      let p = contains_at (map travel_of ms) t at in
      let e = entry_at ms t p.0 p.1 in
      let found = found_at ms p.0 t.number e.0 kept.once e.1 in
      kept.queues site t.number inside ∙ ap (is_for site) found ∙ (Decides-eqb e.0.to site).1 (e.2 ∙ to)

  pub none_queued : ((k : ℕ) → is_queued (queue_at qs site) k ≡ false) → IsNoneFor (map travel_of ms) site
  none_queued none t at to = let yes = queued t at to in let no = none t.number in cc

  -- the message whose number is in the queue
  held : (number : ℕ) → is_queued (queue_at qs site) number ≡ true → (m : Sent) × (message_at ms number ≡ Some m) × (m.to ≡ site)
  held number h = by (message_at ms number) refl
    where
      by : (o : Option Sent) → message_at ms number ≡ o → (m : Sent) × (message_at ms number ≡ Some m) × (m.to ≡ site)
      by None q = let no : true ≡ false = sym h ∙ kept.queues site number inside ∙ ap (is_for site) q in cc
      by (Some m) q =
          let yes : (m.to == site) ≡ true = sym (ap (is_for site) q) ∙ sym (kept.queues site number inside) ∙ h in
          (m, q, (Decides-eqb m.to site).0 yes)

  -- a number in the queue is that of a message for the site
  pub one_queued : (k : ℕ) × (is_queued (queue_at qs site) k ≡ true) → IsNoneFor (map travel_of ms) site → ⊥
  one_queued (k, there) none =
      let m = held k there in
      none (record { number = k; to = site }) ((travels_tell ms kept.once k site).1 (m.0.msg, subst (λ (x : ℕ). message_at ms k ≡ Some (record { to = x; msg = m.0.msg })) m.2 m.1)) refl

  pub first_queued : (number : ℕ) → is_queued (queue_at qs site) number ≡ true → ((k : ℕ) → is_queued (queue_at qs site) k ≡ true → number ≤ k) →
      (r : Option ℕ) → ((m : Sent) → message_at ms number ≡ Some m → (place : ℕ) × (r ≡ Some place) × IsAt (map travel_of ms) m.to place number) →
      MatchOption r (IsNoneFor (map travel_of ms) site) (λ place. IsFirstFor (map travel_of ms) site place)
  first_queued number there least r placed =
      let m = held number there in
      let p = placed m.0 m.1 in
      subst (λ (o : Option ℕ). MatchOption o (IsNoneFor (map travel_of ms) site) (λ place. IsFirstFor (map travel_of ms) site place)) (sym p.1)
      (number, subst (λ (x : ℕ). IsAt (map travel_of ms) x p.0 number) m.2 p.2, λ t in_list to. least t.number (queued t in_list to))

-- ---- calls

-- a message came
pub kept_with : (ms ns : List (ℕ × Sent)) (ts us : List Travel) (qs rs : List (List ℕ)) (number : ℕ) (sent : Sent) → IsConsistent ms ts qs → message_at ms number ≡ None → length rs ≡ length qs →
    (sent.to < length qs → (k : ℕ) → is_queued (queue_at rs sent.to) k ≡ with_bit number (is_queued (queue_at qs sent.to)) k) → ((i : ℕ) → i ≢ sent.to → queue_at rs i ≡ queue_at qs i) →
    us ≡ ts ++ record { number = number; to = sent.to } ∷ [] → ns ≡ ms ++ (number, sent) ∷ [] → IsDistinct nat_eq (keys_of ns) → ((k : ℕ) → message_at ns k ≡ cond (nat_eq number k) (Some sent) (message_at ms k)) → IsConsistent ns us rs
kept_with ms ns ts us qs rs number sent kept new long here others more grown once now = record {
  once = once;
  travels = more ∙ ap (λ (l : List Travel). l ++ record { number = number; to = sent.to } ∷ []) kept.travels ∙ sym (map-append travel_of ms ((number, sent) ∷ [])) ∙ ap (map travel_of) (sym grown);
  queues = queues_with qs rs ms ns number sent kept.queues long others here new now;
}

-- the message of this place left
pub kept_without : (ms ns : List (ℕ × Sent)) (ts us : List Travel) (qs rs : List (List ℕ)) (place number : ℕ) (sent : Sent) (t : Travel) → IsConsistent ms ts qs → place < length ms → slice_get ms place ≡ Some (number, sent) → length rs ≡ length qs →
    (sent.to < length qs → (k : ℕ) → is_queued (queue_at rs sent.to) k ≡ without_bit number (is_queued (queue_at qs sent.to)) k) → ((i : ℕ) → i ≢ sent.to → queue_at rs i ≡ queue_at qs i) →
    us ≡ swap_remove ts place t → ns ≡ swap_remove ms place (number, sent) → IsDistinct nat_eq (keys_of ns) → ((k : ℕ) → message_at ns k ≡ cond (nat_eq number k) None (message_at ms k)) → IsConsistent ns us rs
kept_without ms ns ts us qs rs place number sent t kept inside at long here others less fewer once now = record {
  once = once;
  travels = less ∙ ap (λ (l : List Travel). swap_remove l place t) kept.travels ∙ sym (map_swap_remove travel_of ms place (number, sent) t inside) ∙ ap (map travel_of) (sym fewer);
  queues = queues_without qs rs ms ns number sent kept.queues long others here (found_at ms place number sent kept.once at) now;
}

numbers_of : (ms : List (ℕ × Sent)) → map (λ (t : Travel). t.number) (map travel_of ms) ≡ keys_of ms
numbers_of [] = refl
numbers_of (m ∷ ms) = ap (λ (l : List ℕ). m.0 ∷ l) (numbers_of ms)

pub numbers_once : (ms : List (ℕ × Sent)) (ts : List Travel) → ts ≡ map travel_of ms → IsDistinct nat_eq (keys_of ms) → IsDistinct nat_eq (map (λ (t : Travel). t.number) ts)
numbers_once ms ts is once = subst (IsDistinct nat_eq) (sym (ap (map (λ (t : Travel). t.number)) is ∙ numbers_of ms)) once

pub queue_read : (qs : List (List ℕ)) (i : ℕ) (q : List ℕ) → i < length qs → q ≡ slice_index_or qs i q → queue_at qs i ≡ q
queue_read qs i q inside is = get_or_default qs i [] q inside ∙ sym is
  where
    get_or_default : (xs : List (List ℕ)) (i : ℕ) (a b : List ℕ) → i < length xs → get_or xs i a ≡ get_or xs i b
    get_or_default xs i a b h = grind (arith, common_steps)

pub from_some : {X : Type 0} (o : Option X) (x : X) (P : X → Type 0) → o ≡ Some x → IfSome o P → P x
from_some None x P e h = cc
from_some (Some y) x P e h = let same : y ≡ x = cc in subst P same h

-- ---- messages one after another

enumerate_push : (n : ℕ) (xs : List Sent) (x : Sent) → enumerate_from n (xs ++ x ∷ []) ≡ enumerate_from n xs ++ (n + length xs, x) ∷ []
enumerate_push n [] x = ap (λ (k : ℕ). (k, x) ∷ []) (omega arith)
enumerate_push n (y ∷ ys) x = ap (λ (l : List (ℕ × Sent)). (n, y) ∷ l) (enumerate_push (n + 1) ys x ∙ ap (λ (k : ℕ). enumerate_from (n + 1) ys ++ (k, x) ∷ []) (omega arith))

pub enumerate_more : (n : ℕ) (xs : List Sent) (i : ℕ) (x : Sent) → i < length xs → x ≡ get_or xs i x → enumerate_from n (take (i + 1) xs) ≡ enumerate_from n (take i xs) ++ (n + i, x) ∷ []
enumerate_more n xs i x inside is =
    let long : length (take i xs) ≡ i = simp length-take (omega arith) in
    ap (enumerate_from n) (take_more xs i x inside ∙ ap (λ (y : Sent). take i xs ++ y ∷ []) (sym is))
    ∙ enumerate_push n (take i xs) x
    ∙ ap (λ (k : ℕ). enumerate_from n (take i xs) ++ (n + k, x) ∷ []) long

pub none_after : (ms : List (ℕ × Sent)) (k number : ℕ) (s : Sent) → number < k → message_at ms k ≡ None → message_at (ms ++ (number, s) ∷ []) k ≡ None
none_after [] k number s low e = rw (no (nat_eq k number) refl) refl
  where
    no : (b : Bool) → nat_eq k number ≡ b → nat_eq k number ≡ false
    no true q = let same : k ≡ number = (Decides-eqb k number).0 q in absurd (omega arith)
    no false q = q
none_after ((n, t) ∷ ms) k number s low e = by (nat_eq k n) e (λ h. none_after ms k number s low h)
  where
    by : (b : Bool) → cond b (Some t) (message_at ms k) ≡ None → (message_at ms k ≡ None → message_at (ms ++ (number, s) ∷ []) k ≡ None) → cond b (Some t) (message_at (ms ++ (number, s) ∷ []) k) ≡ None
    by true h rest = cc
    by false h rest = rest h
