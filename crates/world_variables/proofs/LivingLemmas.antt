-- The threads of the centre are as many as those of the sites and those that travel.
use Rattle.std.proofs.Common.{rules, arith, ◌≡◌, ◌≢◌, ◌∙◌, sym, ap, refl, subst, ℕ, zero, suc, ◌+◌, ◌<◌, ◌≤◌, List, [], ◌∷◌, ◌++◌, map, length, length-append, ◌⊎◌, inl, inr, Bool, true, false, cond, Some}
use Rattle.std.specs.Prelude.{Contains, not}
use Rattle.std.specs.List.{filter, enumerate_from}
use Rattle.std.proofs.lemmas.List.Elements.{Contains-append_left, Contains-append_right, Contains-append_cases}
use Rattle.tree_node.proofs.ClassLemmas.{Contains-cons_cases, Contains-head, Contains-tail}
use Rattle.tree_node.specs.declared.names.VarName.{VarName}
use Rattle.tree_node.specs.declared.names.CodeId.{CodeId}
use Rattle.tree_node.specs.declared.names.ThreadName.{ThreadName}
use Rattle.tree_node.specs.Assoc.{value_of}
use Rattle.tree_node.specs.Each.{Each, AreDistinct}
use Rattle.tree_node.specs.State.{Stack, State, equal_thread}
use Rattle.tree_node.specs.Store.{Equation}
use Rattle.kernel_syntax.specs.declared.stmt.Stmt.{Stmt}
use Rattle.site_message.specs.declared.message.Msg.{Msg}
use Rattle.site_message.specs.declared.message.Msg.TheVariants as msg
use Rattle.site_message.specs.declared.message.Sent.{Sent}
use Rattle.site_message.specs.declared.turn.Turn.{Turn}
use Rattle.site_message.specs.Journal.{travelling, sent_of, was_delivered}
use Rattle.site_model.specs.Site.{ThreadState}
use Rattle.world_model.specs.World.{Sites, Mail, IsOnItsWay, threads}
use Rattle.world_model.specs.Schedule.{sum_to}
use Rattle.world_model.specs.Matches.{IsThreadAt, IsInSpawn, ThreadsMatch, one_if_spawn, spawn_count, living}
use Rattle.world_model.proofs.MailLemmas.{nothing}
use Rattle.world_variables.proofs.SumLemmas.{names}
use Rattle.tree_node.proofs.NameLemmas.{same_thread_decides}

-- ---- lists whose elements differ

module _ {X : Type 0} where
  -- a list without one of its elements
  abbrev TakesOut : List X → X → Type 0
  TakesOut xs x = (ys : List X) × (length xs ≡ suc (length ys)) × ((z : X) → Contains xs z → z ≢ x → Contains ys z)

  take_out : (xs : List X) (x : X) → Contains xs x → TakesOut xs x
  take_out [] x h = absurd (nothing x h)
  take_out (y ∷ xs) x h = go (Contains-cons_cases y x xs h) (λ k. take_out xs x k)
    where
      go : (y ≡ x) ⊎ Contains xs x → (Contains xs x → TakesOut xs x) → TakesOut (y ∷ xs) x
      go (inl e) ih = (xs, refl, λ z k d. one z d (Contains-cons_cases y z xs k))
        where
          one : (z : X) → z ≢ x → (y ≡ z) ⊎ Contains xs z → Contains xs z
          one z d (inl q) = absurd (d (sym q ∙ e))
          one z d (inr q) = q
      go (inr q) ih = let r = ih q in (y ∷ r.0, ap suc r.1, λ z k d. two r.0 r.2 z d (Contains-cons_cases y z xs k))
        where
          two : (ys : List X) → ((z : X) → Contains xs z → z ≢ x → Contains ys z) → (z : X) → z ≢ x → (y ≡ z) ⊎ Contains xs z → Contains (y ∷ ys) z
          two ys more z d (inl e) = subst (λ (u : X). Contains (y ∷ ys) u) e (Contains-head y ys)
          two ys more z d (inr k) = Contains-tail y z ys (more z k d)

  each_in : (P : X → Type 0) (xs : List X) → Each P xs → (x : X) → Contains xs x → P x
  each_in P [] h x k = absurd (nothing x k)
  each_in P (y ∷ xs) h x k = go (Contains-cons_cases y x xs k) (λ q. each_in P xs h.1 x q)
    where
      go : (y ≡ x) ⊎ Contains xs x → (Contains xs x → P x) → P x
      go (inl e) ih = subst P e h.0
      go (inr q) ih = ih q

  each_all : (P : X → Type 0) (xs : List X) → ((x : X) → Contains xs x → P x) → Each P xs
  each_all P [] h = tt
  each_all P (x ∷ xs) h = (h x (Contains-head x xs), each_all P xs (λ y k. h y (Contains-tail x y xs k)))

  no_more : (xs ys : List X) → AreDistinct xs → ((z : X) → Contains xs z → Contains ys z) → length xs ≤ length ys
  no_more [] ys d h = omega arith
  no_more (x ∷ xs) ys d h =
      let t = take_out ys x (h x (Contains-head x xs)) in
      let ih : length xs ≤ length t.0 = no_more xs t.0 d.1 (λ z k. t.2 z (h z (Contains-tail x z xs k)) (λ e. each_in (λ y. x ≢ y) xs d.0 z k (sym e))) in
      let size = t.1 in
      omega (arith, ih, size)

  append_once : (xs ys : List X) → AreDistinct xs → AreDistinct ys → ((z : X) → Contains xs z → Contains ys z → ⊥) → AreDistinct (xs ++ ys)
  append_once [] ys d e h = e
  append_once (x ∷ xs) ys d e h =
      (each_all (λ y. x ≢ y) (xs ++ ys) (λ y k. go y (Contains-append_cases xs ys y k)), append_once xs ys d.1 e (λ z a b. h z (Contains-tail x z xs a) b))
    where
      go : (y : X) → Contains xs y ⊎ Contains ys y → x ≢ y
      go y (inl k) = each_in (λ z. x ≢ z) xs d.0 y k
      go y (inr k) = λ q. h x (Contains-head x xs) (subst (λ (z : X). Contains ys z) (sym q) k)

-- ---- names and values

named_value : {V : Type 0} (ts : List (ThreadName × V)) (n : ThreadName) → Contains (names ts) n → (v : V) × (value_of equal_thread ts n ≡ Some v)
named_value [] n h = absurd (nothing n h)
named_value {V} ((m, u) ∷ ts) n h = go (equal_thread m n) refl (Contains-cons_cases m n (names ts) h) (λ k. named_value ts n k)
  where
    go : (b : Bool) → equal_thread m n ≡ b → (m ≡ n) ⊎ Contains (names ts) n → (Contains (names ts) n → (v : V) × (value_of equal_thread ts n ≡ Some v)) → (v : V) × (cond b (Some u) (value_of equal_thread ts n) ≡ Some v)
    go true q k ih = (u, refl)
    go false q (inl e) ih = let yes : equal_thread m n ≡ true = (same_thread_decides m n).1 e in absurd (cc)
    go false q (inr k) ih = ih k

value_named : {V : Type 0} (ts : List (ThreadName × V)) (n : ThreadName) (v : V) → value_of equal_thread ts n ≡ Some v → Contains (names ts) n
value_named [] n v h = cc
value_named {V} ((m, u) ∷ ts) n v h = go (equal_thread m n) refl h (λ k. value_named ts n v k)
  where
    go : (b : Bool) → equal_thread m n ≡ b → cond b (Some u) (value_of equal_thread ts n) ≡ Some v → (value_of equal_thread ts n ≡ Some v → Contains (names ts) n) → Contains (m ∷ names ts) n
    go true q k ih = subst (λ (x : ThreadName). Contains (m ∷ names ts) x) ((same_thread_decides m n).0 q) (Contains-head m (names ts))
    go false q k ih = Contains-tail m n (names ts) (ih k)

names_length : {V : Type 0} (ts : List (ThreadName × V)) → length (names ts) ≡ length ts
names_length [] = refl
names_length (t ∷ ts) = ap suc (names_length ts)

-- ---- the names at sites 1 to n

abbrev names_at : ℕ → Sites → List ThreadName
names_at zero f = []
names_at (suc n) f = names_at n f ++ names (f (suc n)).threads

at_length : (n : ℕ) (f : Sites) → length (names_at n f) ≡ sum_to n (living f)
at_length zero f = refl
at_length (suc n) f =
    let ih = at_length n f in
    let here : length (names (f (suc n)).threads) ≡ length (f (suc n)).threads = names_length (f (suc n)).threads in
    let both : length (names_at n f ++ names (f (suc n)).threads) ≡ length (names_at n f) + length (names (f (suc n)).threads) = length-append (names_at n f) (names (f (suc n)).threads) in
    omega (arith, ih, here, both)

abbrev IsNamedAt : ℕ → Sites → ThreadName → Type 0
IsNamedAt n f z = (i : ℕ) × (1 ≤ i) × (i ≤ n) × Contains (names (f i).threads) z

at_some : (n : ℕ) (f : Sites) (z : ThreadName) → Contains (names_at n f) z → IsNamedAt n f z
at_some zero f z h = absurd (nothing z h)
at_some (suc n) f z h = go (Contains-append_cases (names_at n f) (names (f (suc n)).threads) z h) (λ k. at_some n f z k)
  where
    go : Contains (names_at n f) z ⊎ Contains (names (f (suc n)).threads) z → (Contains (names_at n f) z → IsNamedAt n f z) → IsNamedAt (suc n) f z
    go (inl k) ih = let r = ih k in let high = r.2 in (r.0, r.1, omega (arith, high), r.3)
    go (inr k) ih = (suc n, omega arith, omega arith, k)

some_at : (n : ℕ) (f : Sites) (z : ThreadName) (i : ℕ) → 1 ≤ i → i ≤ n → Contains (names (f i).threads) z → Contains (names_at n f) z
some_at zero f z i low high h = absurd (omega (arith, low, high))
some_at (suc n) f z i low high h = go (is_or i (suc n)) (λ k. some_at n f z i low k h)
  where
    is_or : (i j : ℕ) → (i ≡ j) ⊎ (i ≢ j)
    is_or i j = search (rules, arith)

    go : (i ≡ suc n) ⊎ (i ≢ suc n) → (i ≤ n → Contains (names_at n f) z) → Contains (names_at n f ++ names (f (suc n)).threads) z
    go (inl e) ih = Contains-append_right (names_at n f) (names (f (suc n)).threads) z (subst (λ (k : ℕ). Contains (names (f k).threads) z) e h)
    go (inr d) ih = Contains-append_left (names_at n f) (names (f (suc n)).threads) z (ih (omega (arith, high, d)))

at_once : (n : ℕ) (f : Sites) → ((i : ℕ) → AreDistinct (names (f i).threads)) → ((i j : ℕ) (z : ThreadName) → Contains (names (f i).threads) z → Contains (names (f j).threads) z → i ≡ j) → AreDistinct (names_at n f)
at_once zero f once home = tt
at_once (suc n) f once home = append_once (names_at n f) (names (f (suc n)).threads) (at_once n f once home) (once (suc n)) (λ z a b. apart z (at_some n f z a) b)
  where
    apart : (z : ThreadName) → IsNamedAt n f z → Contains (names (f (suc n)).threads) z → ⊥
    apart z (i, low, high, k) b = let same : i ≡ suc n = home i (suc n) z k b in omega (arith, same, high)

-- ---- the names that travel

abbrev spawned_by : Msg → List ThreadName
spawned_by (msg.Spawn n code vars bundle) = n ∷ []
spawned_by _ = []

abbrev spawned : Mail → List ThreadName
spawned [] = []
spawned (m ∷ ms) = spawned_by m.1.msg ++ spawned ms

by_length : (m : Msg) → length (spawned_by m) ≡ one_if_spawn m
by_length (msg.Spawn n code vars bundle) = refl
by_length (msg.Register x k) = refl
by_length (msg.BindReq x n t bundle) = refl
by_length (msg.Binding x t bundle) = refl
by_length (msg.Get c k) = refl
by_length (msg.Forward c k) = refl
by_length (msg.Put c v bundle) = refl
by_length (msg.PortSend q n k) = refl
by_length (msg.PortEnd n old new bundle) = refl
by_length (msg.CellMake c v bundle) = refl
by_length (msg.CellAsk c n k v bundle) = refl
by_length (msg.CellOld n v bundle) = refl

spawned_length : (mail : Mail) → length (spawned mail) ≡ spawn_count mail
spawned_length [] = refl
spawned_length (m ∷ ms) =
    let ih = spawned_length ms in
    let here = by_length m.1.msg in
    let both : length (spawned_by m.1.msg ++ spawned ms) ≡ length (spawned_by m.1.msg) + length (spawned ms) = length-append (spawned_by m.1.msg) (spawned ms) in
    omega (arith, ih, here, both)

-- message k brings a thread of this name
abbrev Carries : Mail → ℕ → ThreadName → Type 0
Carries mail k z = (to : ℕ) × (code : CodeId) × (vars : List VarName) × (bundle : List Equation) × IsOnItsWay mail k to (msg.Spawn z code vars bundle)

carries_more : (m : ℕ × Sent) (ms : Mail) (k : ℕ) (z : ThreadName) → Carries ms k z → Carries (m ∷ ms) k z
carries_more m ms k z (to, code, vars, bundle, at) = (to, code, vars, bundle, Contains-tail m _ ms at)

carried_by : (k to : ℕ) (m : Msg) (ms : Mail) (z : ThreadName) → Contains (spawned_by m) z → Carries ((k, record { to = to; msg = m }) ∷ ms) k z
carried_by k to (msg.Spawn n code vars bundle) ms z h = go (Contains-cons_cases n z [] h)
  where
    go : (n ≡ z) ⊎ Contains [] z → Carries ((k, record { to = to; msg = msg.Spawn n code vars bundle }) ∷ ms) k z
    go (inl e) = subst (λ (x : ThreadName). Carries ((k, record { to = to; msg = msg.Spawn n code vars bundle }) ∷ ms) k x) e (to, code, vars, bundle, Contains-head _ ms)
    go (inr q) = absurd (nothing z q)
carried_by k to (msg.Register x o) ms z h = absurd (nothing z h)
carried_by k to (msg.BindReq x n t bundle) ms z h = absurd (nothing z h)
carried_by k to (msg.Binding x t bundle) ms z h = absurd (nothing z h)
carried_by k to (msg.Get c o) ms z h = absurd (nothing z h)
carried_by k to (msg.Forward c o) ms z h = absurd (nothing z h)
carried_by k to (msg.Put c v bundle) ms z h = absurd (nothing z h)
carried_by k to (msg.PortSend q n a) ms z h = absurd (nothing z h)
carried_by k to (msg.PortEnd n old new bundle) ms z h = absurd (nothing z h)
carried_by k to (msg.CellMake c v bundle) ms z h = absurd (nothing z h)
carried_by k to (msg.CellAsk c n a v bundle) ms z h = absurd (nothing z h)
carried_by k to (msg.CellOld n v bundle) ms z h = absurd (nothing z h)

spawned_some : (mail : Mail) (z : ThreadName) → Contains (spawned mail) z → (k : ℕ) × Carries mail k z
spawned_some [] z h = absurd (nothing z h)
spawned_some (m ∷ ms) z h = go (Contains-append_cases (spawned_by m.1.msg) (spawned ms) z h) (λ k. spawned_some ms z k)
  where
    go : Contains (spawned_by m.1.msg) z ⊎ Contains (spawned ms) z → (Contains (spawned ms) z → (k : ℕ) × Carries ms k z) → (k : ℕ) × Carries (m ∷ ms) k z
    go (inl q) ih = (m.0, carried_by m.0 m.1.to m.1.msg ms z q)
    go (inr q) ih = let r = ih q in (r.0, carries_more m ms r.0 z r.1)

some_spawned : (mail : Mail) (k : ℕ) (z : ThreadName) → Carries mail k z → Contains (spawned mail) z
some_spawned [] k z h = absurd (nothing _ h.4)
some_spawned (m ∷ ms) k z (to, code, vars, bundle, at) = go (Contains-cons_cases m _ ms at) (λ q. some_spawned ms k z (to, code, vars, bundle, q))
  where
    go : (m ≡ (k, record { to = to; msg = msg.Spawn z code vars bundle })) ⊎ IsOnItsWay ms k to (msg.Spawn z code vars bundle) → (IsOnItsWay ms k to (msg.Spawn z code vars bundle) → Contains (spawned ms) z) → Contains (spawned_by m.1.msg ++ spawned ms) z
    go (inl e) ih = subst (λ (x : ℕ × Sent). Contains (spawned_by x.1.msg ++ spawned ms) z) (sym e) (Contains-head z (spawned ms))
    go (inr q) ih = Contains-append_right (spawned_by m.1.msg) (spawned ms) z (ih q)

abbrev pub numbers : {X : Type 0} → List (ℕ × X) → List ℕ
numbers {X} ms = map (λ (m : ℕ × X). m.0) ms

number_in : (mail : Mail) (k : ℕ) (x : Sent) → Contains mail (k, x) → Contains (numbers mail) k
number_in [] k x h = absurd (nothing _ h)
number_in (m ∷ ms) k x h = go (Contains-cons_cases m _ ms h) (λ q. number_in ms k x q)
  where
    go : (m ≡ (k, x)) ⊎ Contains ms (k, x) → (Contains ms (k, x) → Contains (numbers ms) k) → Contains (m.0 ∷ numbers ms) k
    go (inl e) ih = subst (λ (l : ℕ). Contains (m.0 ∷ numbers ms) l) (ap (λ (y : ℕ × Sent). y.0) e) (Contains-head m.0 (numbers ms))
    go (inr q) ih = Contains-tail m.0 k (numbers ms) (ih q)

by_once : (m : Msg) → AreDistinct (spawned_by m)
by_once (msg.Spawn n code vars bundle) = (tt, tt)
by_once (msg.Register x k) = tt
by_once (msg.BindReq x n t bundle) = tt
by_once (msg.Binding x t bundle) = tt
by_once (msg.Get c k) = tt
by_once (msg.Forward c k) = tt
by_once (msg.Put c v bundle) = tt
by_once (msg.PortSend q n k) = tt
by_once (msg.PortEnd n old new bundle) = tt
by_once (msg.CellMake c v bundle) = tt
by_once (msg.CellAsk c n k v bundle) = tt
by_once (msg.CellOld n v bundle) = tt

spawned_once : (mail : Mail) → AreDistinct (numbers mail) → ((k l : ℕ) (z : ThreadName) → Carries mail k z → Carries mail l z → k ≡ l) → AreDistinct (spawned mail)
spawned_once [] d one = tt
spawned_once (m ∷ ms) d one =
    append_once (spawned_by m.1.msg) (spawned ms) (by_once m.1.msg) (spawned_once ms d.1 (λ k l z a b. one k l z (carries_more m ms k z a) (carries_more m ms l z b))) (λ z a b. apart z a (spawned_some ms z b))
  where
    apart : (z : ThreadName) → Contains (spawned_by m.1.msg) z → (k : ℕ) × Carries ms k z → ⊥
    apart z a (k, c) = each_in (λ l. m.0 ≢ l) (numbers ms) d.0 k (number_in ms k _ c.4) (one m.0 k z (carried_by m.0 m.1.to m.1.msg ms z a) (carries_more m ms k z c))

-- ---- the numbers of those that travel differ

above : {X : Type 0} (n m : ℕ) (xs : List X) → n < m → Each (λ k. n ≢ k) (numbers (enumerate_from m xs))
above n m [] h = tt
above n m (x ∷ xs) h = ((λ (e : n ≡ m). absurd (omega (arith, h, e))), above n (m + 1) xs (omega (arith, h)))

enumerate_once : {X : Type 0} (n : ℕ) (xs : List X) → AreDistinct (numbers (enumerate_from n xs))
enumerate_once n [] = tt
enumerate_once n (x ∷ xs) = (above n (n + 1) xs (omega arith), enumerate_once (n + 1) xs)

filter_each : {X : Type 0} (P : ℕ → Type 0) (p : ℕ × X → Bool) (xs : List (ℕ × X)) → Each P (numbers xs) → Each P (numbers (filter p xs))
filter_each P p [] h = tt
filter_each {X} P p (x ∷ xs) h = go (p x) (filter_each P p xs h.1)
  where
    go : (b : Bool) → Each P (numbers (filter p xs)) → Each P (numbers (cond b (x ∷ filter p xs) (filter p xs)))
    go true r = (h.0, r)
    go false r = r

filter_once : {X : Type 0} (p : ℕ × X → Bool) (xs : List (ℕ × X)) → AreDistinct (numbers xs) → AreDistinct (numbers (filter p xs))
filter_once p [] h = tt
filter_once {X} p (x ∷ xs) h = go (p x) (filter_once p xs h.1)
  where
    go : (b : Bool) → AreDistinct (numbers (filter p xs)) → AreDistinct (numbers (cond b (x ∷ filter p xs) (filter p xs)))
    go true r = (filter_each (λ k. x.0 ≢ k) p xs h.0, r)
    go false r = r

pub travelling_once : (j : List Turn) → AreDistinct (numbers (travelling j))
travelling_once j = filter_once (λ (m : ℕ × Sent). not (was_delivered j m.0)) (enumerate_from 0 (sent_of j)) (enumerate_once 0 (sent_of j))

-- ---- all

pub all_living : (p : List Stmt) (n : ℕ) (f : Sites) (mail : Mail) (s : State) → ThreadsMatch p (threads f) mail s.threads → AreDistinct (names s.threads) → ((i : ℕ) → AreDistinct (names (f i).threads)) → AreDistinct (numbers mail) →
    ((i : ℕ) (z : ThreadName) (v : ThreadState) → value_of equal_thread (f i).threads z ≡ Some v → (1 ≤ i) × (i ≤ n)) → length s.threads ≡ sum_to n (living f) + spawn_count mail
all_living p n f mail s placed central once numbered inside = omega (arith, up, down, size, sites, flying, threads_long)
  where
    all : List ThreadName
    all = names_at n f ++ spawned mail

    is_at : (i : ℕ) (z : ThreadName) → Contains (names (f i).threads) z → (st : Stack) × IsThreadAt (threads f) i z st
    is_at i z h = let r = named_value (f i).threads z h in (r.0.0, (r.0.1, r.1))

    brings : (k : ℕ) (z : ThreadName) → Carries mail k z → (st : Stack) × IsInSpawn p mail k z st
    brings k z (to, code, vars, bundle, at) = (_, (to, code, vars, bundle, at, refl))

    home : (i j : ℕ) (z : ThreadName) → Contains (names (f i).threads) z → Contains (names (f j).threads) z → i ≡ j
    home i j z a b = let x = is_at i z a in let y = is_at j z b in placed.home i j z x.0 y.0 x.1 y.1

    one : (k l : ℕ) (z : ThreadName) → Carries mail k z → Carries mail l z → k ≡ l
    one k l z a b = let x = brings k z a in let y = brings l z b in placed.once k l z x.0 y.0 x.1 y.1

    apart : (z : ThreadName) → IsNamedAt n f z → (k : ℕ) × Carries mail k z → ⊥
    apart z (i, low, high, a) (k, b) = let x = is_at i z a in let y = brings k z b in placed.apart i k z x.0 y.0 x.1 y.1

    all_once : AreDistinct all
    all_once = append_once (names_at n f) (spawned mail) (at_once n f once home) (spawned_once mail numbered one) (λ z a b. apart z (at_some n f z a) (spawned_some mail z b))

    in_centre : (z : ThreadName) → Contains (names_at n f) z ⊎ Contains (spawned mail) z → Contains (names s.threads) z
    in_centre z (inl a) = let r = at_some n f z a in let x = is_at r.0 z r.3 in value_named s.threads z x.0 (placed.up r.0 z x.0 x.1)
    in_centre z (inr b) = let r = spawned_some mail z b in let y = brings r.0 z r.1 in value_named s.threads z y.0 (placed.flies r.0 z y.0 y.1)

    from_centre : (z : ThreadName) → Contains (names s.threads) z → Contains all z
    from_centre z h = go r.0 (placed.down z r.0 r.1)
      where
        r : (st : Stack) × (value_of equal_thread s.threads z ≡ Some st)
        r = named_value s.threads z h

        go : (st : Stack) → ((i : ℕ) × IsThreadAt (threads f) i z st) ⊎ ((k : ℕ) × IsInSpawn p mail k z st) → Contains all z
        go st (inl (i, (m, at))) = let q = inside i z (st, m) at in Contains-append_left (names_at n f) (spawned mail) z (some_at n f z i q.0 q.1 (value_named (f i).threads z (st, m) at))
        go st (inr (k, (to, code, vars, bundle, at, born))) = Contains-append_right (names_at n f) (spawned mail) z (some_spawned mail k z (to, code, vars, bundle, at))

    up : length all ≤ length (names s.threads)
    up = no_more all (names s.threads) all_once (λ z h. in_centre z (Contains-append_cases (names_at n f) (spawned mail) z h))

    down : length (names s.threads) ≤ length all
    down = no_more (names s.threads) all central from_centre

    size : length all ≡ length (names_at n f) + length (spawned mail)
    size = length-append (names_at n f) (spawned mail)

    sites : length (names_at n f) ≡ sum_to n (living f)
    sites = at_length n f

    flying : length (spawned mail) ≡ spawn_count mail
    flying = spawned_length mail

    threads_long : length (names s.threads) ≡ length s.threads
    threads_long = names_length s.threads
