-- No thread asks twice to bind a variable: what changes of a site and new messages keep.
use Rattle.std.proofs.Common.{arith, ◌≡◌, ◌≢◌, ◌∙◌, sym, ap, refl, subst, ℕ, zero, suc, ◌+◌, ◌<◌, ◌≤◌, List, [], ◌∷◌, ◌++◌, ◌⊎◌, inl, inr, Bool, true, false, cond, Some}
use Rattle.std.specs.Prelude.{Option, Contains, ◌&&◌}
use Rattle.tree_node.specs.declared.names.VarName.{VarName}
use Rattle.tree_node.specs.declared.names.ThreadName.{ThreadName}
use Rattle.tree_node.specs.declared.node.Term.{Term}
use Rattle.tree_node.specs.Each.{Each}
use Rattle.tree_node.specs.State.{Stack, equal_thread}
use Rattle.tree_node.specs.Store.{Store, equal_var, IsFree}
use Rattle.tree_node.proofs.ClassLemmas.{same_name_decides, Contains-head, Contains-tail}
use Rattle.site_message.specs.declared.message.Sent.{Sent}
use Rattle.bind_protocol.specs.Rows.{request}
use Rattle.bind_protocol.proofs.ListLemmas.{one, count_cons, count_append, count_push}
use Rattle.site_model.specs.Site.{Site, Counters, ThreadState, thread_state, Threads}
use Rattle.thread_roster.specs.declared.mode.Awaited.{Awaited}
use Rattle.thread_roster.specs.declared.mode.Mode.{Mode}
use Rattle.thread_roster.specs.declared.mode.Mode.TheVariants.{Runs, WaitsFor}
use Rattle.site_model.specs.Bundle.{with_own_bundle}
use Rattle.site_model.specs.Unit.{with_mode}
use Rattle.kernel_syntax.specs.Free.{free}
use Rattle.tree_node.specs.Assoc.{value_of, with_optional_value}
use Rattle.thread_roster.specs.Binds.{goes_on}
use Rattle.thread_roster.specs.Threads.{wake_where}
use Rattle.thread_roster.proofs.ThreadLemmas.{woken_by}
use Rattle.thread_roster.specs.declared.mode.Mode.TheVariants as site
use Rattle.world_model.specs.Matches.{IsBound}
use Rattle.world_model.proofs.KeyLemmas.{goes_cases, woken_old}
use Rattle.world_messages.specs.Messages.{is_request}
use Rattle.world_messages.specs.BindRequests.{requests, is_spawn, flights, Asks}
use Rattle.tree_node.proofs.NameLemmas.{same_thread_decides}

-- ---- messages that are no requests

abbrev pub IsNone : Sent → Type 0
IsNone m = (n : ThreadName) (x : VarName) → (is_request n x m ≡ false) × (is_spawn n m ≡ false)

none_of : (out : List Sent) → Each IsNone out → (n : ThreadName) (x : VarName) → requests n x out ≡ 0
none_of [] h n x = refl
none_of (m ∷ out) h n x =
    let first : one (is_request n x m) ≡ 0 = ap one (h.0 n x).0 in
    omega (arith, first, none_of out h.1 n x, count_cons (is_request n x) m out)

nobody : VarName
nobody = record { site = 0; num = 0 }

none_fly : (out : List Sent) → Each IsNone out → (n : ThreadName) → flights n out ≡ 0
none_fly [] h n = refl
none_fly (m ∷ out) h n =
    let first : one (is_spawn n m) ≡ 0 = ap one (h.0 n nobody).1 in
    omega (arith, first, none_fly out h.1 n, count_cons (is_spawn n) m out)

fly_more : (base out : List Sent) → Each IsNone out → (n : ThreadName) → flights n (base ++ out) ≡ flights n base
fly_more base out h n = omega (arith, none_fly out h n, count_append (is_spawn n) base out)

-- the messages sent on top of others
quiet_more : (base out : List Sent) → Each IsNone out → (n : ThreadName) (x : VarName) → requests n x (base ++ out) ≡ requests n x base
quiet_more base out h n x = omega (arith, none_of out h n x, count_append (is_request n x) base out)

pub runs_not : (x : VarName) → Runs ≡ site.Waits x → ⊥
runs_not x e = cc

pub waits_not : (a : Awaited) (x : VarName) → WaitsFor a ≡ site.Waits x → ⊥
waits_not a x e = cc

-- a thread that can go on, or waits for a token, knows all that it asked for bound
bound_of : (s : Store) (m : Mode) (x : VarName) → IsBound s x ⊎ (m ≡ site.Waits x) → (m ≡ site.Waits x → ⊥) → IsBound s x
bound_of s m x (inl h) f = h
bound_of s m x (inr e) f = absurd (f e)

-- messages that are no requests change nothing
pub asks_more : (i low cap : ℕ) (P : ThreadName → Type 0) (start : List Sent) (base out : List Sent) (s : Site) → Each IsNone out → Asks i low cap P start base s → Asks i low cap P start (base ++ out) s
asks_more i low cap P start base out s none h = record {
  once = λ n x. omega (arith, h.once n x, quiet_more base out none n x);
  stands = λ n v x at asked. h.stands n v x at (omega (arith, asked, quiet_more base out none n x));
  counted = h.counted;
  asked = λ n x asked own. h.asked n x (omega (arith, asked, quiet_more base out none n x)) own;
  since = h.since;
  capped = h.capped;
  who = h.who;
  asker = λ n x more. h.asker n x (omega (arith, more, quiet_more base out none n x));
  flown = λ n more. let f = h.flown n (omega (arith, more, fly_more base out none n)) in (λ x. quiet_more base out none n x ∙ f.0 x, f.1, f.2, f.3);
}

-- another state of the site, with more equations, the same counters, and threads that stand as before or know all bound
changes : (i low cap : ℕ) (P : ThreadName → Type 0) (start : List Sent) (base : List Sent) (s t : Site) → ((x : VarName) → IsBound s.equations x → IsBound t.equations x) → s.counters.threads ≤ t.counters.threads →
    ((n : ThreadName) (v : ThreadState) → thread_state t n ≡ Some v → (w : ThreadState) × (thread_state s n ≡ Some w) × ((x : VarName) → w.1 ≡ site.Waits x → IsBound t.equations x ⊎ (v.1 ≡ site.Waits x))) → Asks i low cap P start base s → Asks i low cap P start base t
changes i low cap P start base s t more made from h = record {
  once = h.once;
  stands = λ n v x at asked. stands n v x (from n v at) asked;
  counted = λ n v at own. let w = from n v at in h.counted n w.0 w.1 own;
  asked = h.asked;
  since = h.since;
  capped = omega (arith, h.capped, made);
  who = λ n v at. let w = from n v at in h.who n w.0 w.1;
  asker = h.asker;
  flown = λ n more. let f = h.flown n more in (f.0, λ v at. (let w = from n v at in f.1 w.0 w.1), f.2, f.3);
}
  where
    old_case : (n : ThreadName) (v w : ThreadState) (x : VarName) → ((x : VarName) → w.1 ≡ site.Waits x → IsBound t.equations x ⊎ (v.1 ≡ site.Waits x)) → IsBound s.equations x ⊎ (w.1 ≡ site.Waits x) → IsBound t.equations x ⊎ (v.1 ≡ site.Waits x)
    old_case n v w x f (inl b) = inl (more x b)
    old_case n v w x f (inr e) = f x e

    stands : (n : ThreadName) (v : ThreadState) (x : VarName) → (w : ThreadState) × (thread_state s n ≡ Some w) × ((x : VarName) → w.1 ≡ site.Waits x → IsBound t.equations x ⊎ (v.1 ≡ site.Waits x)) → 1 ≤ requests n x base → IsBound t.equations x ⊎ (v.1 ≡ site.Waits x)
    stands n v x (w, at, f) asked = old_case n v w x f (h.stands n w x at asked)

-- all threads stand as before
pub same_threads : (i low cap : ℕ) (P : ThreadName → Type 0) (start : List Sent) (base : List Sent) (s t : Site) → t.threads ≡ s.threads → ((x : VarName) → IsBound s.equations x → IsBound t.equations x) → s.counters.threads ≤ t.counters.threads → Asks i low cap P start base s → Asks i low cap P start base t
same_threads i low cap P start base s t e more made h = changes i low cap P start base s t more made (λ n v at. (v, (subst (λ (ts : Threads). value_of equal_thread ts n ≡ Some v) e at), λ x q. inr q)) h

-- an equation is learnt, and threads wake
pub wakes : (i low cap : ℕ) (P : ThreadName → Type 0) (start : List Sent) (base : List Sent) (s t : Site) (x : VarName) (r : Term) → t.threads ≡ wake_where (goes_on ((x, r) ∷ s.equations) x) s.threads → t.equations ≡ (x, r) ∷ s.equations → t.counters ≡ s.counters → Asks i low cap P start base s → Asks i low cap P start base t
wakes i low cap P start base s t x r e f g h = changes i low cap P start base s t more (omega (arith, ap (λ (c : Counters). c.threads) g)) from h
  where
    new : IsBound t.equations x
    new = (r, subst (λ (q : Store). Contains q (x, r)) (sym f) (Contains-head (x, r) s.equations))

    more : (y : VarName) → IsBound s.equations y → IsBound t.equations y
    more y (u, at) = (u, subst (λ (q : Store). Contains q (y, u)) (sym f) (Contains-tail (x, r) (y, u) s.equations at))

    woke : (m : Mode) (y : VarName) → m ≡ site.Waits y → IsBound t.equations y ⊎ (woken_by (goes_on ((x, r) ∷ s.equations) x) m ≡ site.Waits y)
    woke m y q = subst (λ (o : Mode). IsBound t.equations y ⊎ (woken_by (goes_on ((x, r) ∷ s.equations) x) o ≡ site.Waits y)) (sym q) (go (equal_var y x) refl)
      where
        go : (b : Bool) → equal_var y x ≡ b → IsBound t.equations y ⊎ (cond b Runs (site.Waits y) ≡ site.Waits y)
        go true k = inl (subst (λ (z : VarName). IsBound t.equations z) (sym ((same_name_decides y x).0 k)) new)
        go false k = inr refl

    from : (n : ThreadName) (v : ThreadState) → thread_state t n ≡ Some v → (w : ThreadState) × (thread_state s n ≡ Some w) × ((y : VarName) → w.1 ≡ site.Waits y → IsBound t.equations y ⊎ (v.1 ≡ site.Waits y))
    from n v at =
        let o = woken_old (goes_on ((x, r) ∷ s.equations) x) s.threads n v.0 v.1 (subst (λ (ts : Threads). value_of equal_thread ts n ≡ Some v) e at) in
        ((v.0, o.0), o.1, λ y q. subst (λ (m : Mode). IsBound t.equations y ⊎ (m ≡ site.Waits y)) o.2 (woke o.0 y q))

-- one thread goes on to another standing, which knows all bound that it asked for; or it is gone
pub goes : (i low cap : ℕ) (P : ThreadName → Type 0) (start : List Sent) (base : List Sent) (s t : Site) (th : ThreadName) (w : ThreadState) (r : Option ThreadState) → t.threads ≡ with_optional_value equal_thread s.threads th r → t.equations ≡ s.equations → t.counters ≡ s.counters →
    thread_state s th ≡ Some w → ((x : VarName) → w.1 ≡ site.Waits x → ⊥) → Asks i low cap P start base s → Asks i low cap P start base t
goes i low cap P start base s t th w r e f g at runs h = changes i low cap P start base s t (λ x b. subst (λ (q : Store). IsBound q x) (sym f) b) (omega (arith, ap (λ (c : Counters). c.threads) g)) from h
  where
    by : (n : ThreadName) (v : ThreadState) → ((n ≡ th) × (r ≡ Some v)) ⊎ ((th ≢ n) × (value_of equal_thread s.threads n ≡ Some v)) → (u : ThreadState) × (thread_state s n ≡ Some u) × ((x : VarName) → u.1 ≡ site.Waits x → IsBound t.equations x ⊎ (v.1 ≡ site.Waits x))
    by n v (inl k) = (w, subst (λ (z : ThreadName). thread_state s z ≡ Some w) (sym k.0) at, λ x q. absurd (runs x q))
    by n v (inr k) = (v, k.1, λ x q. inr q)

    from : (n : ThreadName) (v : ThreadState) → thread_state t n ≡ Some v → (u : ThreadState) × (thread_state s n ≡ Some u) × ((x : VarName) → u.1 ≡ site.Waits x → IsBound t.equations x ⊎ (v.1 ≡ site.Waits x))
    from n v q = by n v (goes_cases equal_thread same_thread_decides s.threads th n r w v at (subst (λ (ts : Threads). value_of equal_thread ts n ≡ Some v) e q))

-- ---- a request

-- a thread that can go on asks to bind a variable that has no equation here, and waits for it
pub asks_once : (i limit low cap : ℕ) (P : ThreadName → Type 0) (start : List Sent) (base : List Sent) (s : Site) (th : ThreadName) (st : Stack) (u : VarName) (r : Term) → thread_state s th ≡ Some (st, Runs) → IsFree s.equations u → Asks i low cap P start base s →
    Asks i low cap P start (base ++ with_own_bundle limit s.equations (request u r th) ∷ []) (with_mode th st (site.Waits u) s)
asks_once i limit low cap P start base s th st u r at free h = record {
  once = λ n x. once n x (equal_thread n th && equal_var x u) refl;
  stands = λ n v x q asked. by n v x (goes_cases equal_thread same_thread_decides s.threads th n (Some (st, site.Waits u)) (st, Runs) v at q) asked;
  counted = λ n v q own. counted n v own (goes_cases equal_thread same_thread_decides s.threads th n (Some (st, site.Waits u)) (st, Runs) v at q);
  asked = λ n x asked own. was n x own (equal_thread n th && equal_var x u) refl asked;
  since = h.since;
  capped = h.capped;
  who = λ n v q. who n v (goes_cases equal_thread same_thread_decides s.threads th n (Some (st, site.Waits u)) (st, Runs) v at q);
  asker = λ n x more. asker n x (equal_thread n th && equal_var x u) refl more;
  flown = λ n more. let f = h.flown n (omega (arith, more, no_flight n)) in (λ x. none_new n x f (equal_thread n th && equal_var x u) refl, λ v q. gone n v f (goes_cases equal_thread same_thread_decides s.threads th n (Some (st, site.Waits u)) (st, Runs) v at q), f.2, f.3);
}
  where
    new : Sent
    new = with_own_bundle limit s.equations (request u r th)

    total : (n : ThreadName) (x : VarName) → requests n x (base ++ with_own_bundle limit s.equations (request u r th) ∷ []) ≡ requests n x base + one (equal_thread n th && equal_var x u)
    total n x = count_push (is_request n x) base (with_own_bundle limit s.equations (request u r th))

    no_flight : (n : ThreadName) → flights n (base ++ with_own_bundle limit s.equations (request u r th) ∷ []) ≡ flights n base
    no_flight n = let e : flights n (base ++ with_own_bundle limit s.equations (request u r th) ∷ []) ≡ flights n base + one false = count_push (is_spawn n) base (with_own_bundle limit s.equations (request u r th)) in omega arith

    here : (n : ThreadName) → n ≡ th → thread_state s n ≡ Some (st, Runs)
    here n e = subst (λ (z : ThreadName). thread_state s z ≡ Some (st, Runs)) (sym e) at

    who : (n : ThreadName) (v : ThreadState) → ((n ≡ th) × (Some (st, site.Waits u) ≡ Some v)) ⊎ ((th ≢ n) × (value_of equal_thread s.threads n ≡ Some v)) → P n
    who n v (inl k) = h.who n (st, Runs) (here n k.0)
    who n v (inr k) = h.who n v k.1

    abbrev_flown : ThreadName → Type 0
    abbrev_flown n = ((x : VarName) → requests n x base ≡ 0) × ((v : ThreadState) → thread_state s n ≡ Some v → ⊥) × (n.site ≡ i) × (n.num < cap)

    gone : (n : ThreadName) (v : ThreadState) → abbrev_flown n → ((n ≡ th) × (Some (st, site.Waits u) ≡ Some v)) ⊎ ((th ≢ n) × (value_of equal_thread s.threads n ≡ Some v)) → ⊥
    gone n v f (inl k) = f.1 (st, Runs) (here n k.0)
    gone n v f (inr k) = f.1 v k.1

    both : (a b : Bool) → (a && b) ≡ true → (a ≡ true) × (b ≡ true)
    both true true e = (refl, refl)
    both true false e = cc
    both false b e = cc

    -- it has not asked for it yet
    not_yet : requests th u base ≡ 0
    not_yet = go (requests th u base) refl
      where
        never : 1 ≤ requests th u base → ⊥
        never k = let b = bound_of s.equations Runs u (h.stands th (st, Runs) u at k) (runs_not u) in free b.0 b.1

        go : (k : ℕ) → requests th u base ≡ k → k ≡ 0
        go zero e = refl
        go (suc k) e = absurd (never (omega (arith, e)))

    is_this : (n : ThreadName) (x : VarName) → (equal_thread n th && equal_var x u) ≡ true → requests n x base ≡ 0
    is_this n x q =
        let k = both (equal_thread n th) (equal_var x u) q in
        subst (λ (m : ThreadName). requests m x base ≡ 0) (sym ((same_thread_decides n th).0 k.0)) (subst (λ (y : VarName). requests th y base ≡ 0) (sym ((same_name_decides x u).0 k.1)) not_yet)

    once : (n : ThreadName) (x : VarName) (b : Bool) → (equal_thread n th && equal_var x u) ≡ b → requests n x (base ++ with_own_bundle limit s.equations (request u r th) ∷ []) ≤ 1
    once n x true q = let o : one (equal_thread n th && equal_var x u) ≡ 1 = ap one q in omega (arith, total n x, is_this n x q)
    once n x false q = let o : one (equal_thread n th && equal_var x u) ≡ 0 = ap one q in omega (arith, total n x, h.once n x)

    by : (n : ThreadName) (v : ThreadState) (x : VarName) → ((n ≡ th) × (Some (st, site.Waits u) ≡ Some v)) ⊎ ((th ≢ n) × (value_of equal_thread s.threads n ≡ Some v)) → 1 ≤ requests n x (base ++ with_own_bundle limit s.equations (request u r th) ∷ []) → IsBound s.equations x ⊎ (v.1 ≡ site.Waits x)
    by n v x (inl k) asked = this (equal_var x u) refl
      where
        mode : v.1 ≡ site.Waits u
        mode = let same : ◌≡◌ {A = ThreadState} (st, site.Waits u) v = (let e : ◌≡◌ {A = Option ThreadState} (Some (st, site.Waits u)) (Some v) = k.1 in cc) in ap (λ (w : ThreadState). w.1) (sym same)

        this : (b : Bool) → equal_var x u ≡ b → IsBound s.equations x ⊎ (v.1 ≡ site.Waits x)
        this true q = inr (mode ∙ ap (λ (y : VarName). site.Waits y) (sym ((same_name_decides x u).0 q)))
        this false q =
            let none : (equal_thread n th && equal_var x u) ≡ false = (rw q (no_and (equal_thread n th))) in
            let o : one (equal_thread n th && equal_var x u) ≡ 0 = ap one none in
            let old : 1 ≤ requests n x base = omega (arith, asked, total n x) in
            inl (bound_of s.equations Runs x (h.stands n (st, Runs) x (subst (λ (z : ThreadName). thread_state s z ≡ Some (st, Runs)) (sym k.0) at) old) (runs_not x))
          where
            no_and : (b : Bool) → (b && false) ≡ false
            no_and true = refl
            no_and false = refl
    by n v x (inr k) asked =
        let apart : equal_thread n th ≡ false = differ (equal_thread n th) refl in
        let o : one (equal_thread n th && equal_var x u) ≡ 0 = ap (λ (b : Bool). one (b && equal_var x u)) apart in
        h.stands n v x k.1 (omega (arith, asked, total n x))
      where
        differ : (b : Bool) → equal_thread n th ≡ b → equal_thread n th ≡ false
        differ true q = absurd (k.0 (sym ((same_thread_decides n th).0 q)))
        differ false q = q

    asker : (n : ThreadName) (x : VarName) (b : Bool) → (equal_thread n th && equal_var x u) ≡ b → requests n x start + 1 ≤ requests n x (base ++ with_own_bundle limit s.equations (request u r th) ∷ []) → P n
    asker n x true q more = h.who n (st, Runs) (here n ((same_thread_decides n th).0 (both (equal_thread n th) (equal_var x u) q).0))
    asker n x false q more = let o : one (equal_thread n th && equal_var x u) ≡ 0 = ap one q in h.asker n x (omega (arith, more, total n x))

    none_new : (n : ThreadName) (x : VarName) → abbrev_flown n → (b : Bool) → (equal_thread n th && equal_var x u) ≡ b → requests n x (base ++ with_own_bundle limit s.equations (request u r th) ∷ []) ≡ 0
    none_new n x f true q = absurd (f.1 (st, Runs) (here n ((same_thread_decides n th).0 (both (equal_thread n th) (equal_var x u) q).0)))
    none_new n x f false q = let o : one (equal_thread n th && equal_var x u) ≡ 0 = ap one q in omega (arith, total n x, f.0 x)

    counted : (n : ThreadName) (v : ThreadState) → n.site ≡ i → ((n ≡ th) × (Some (st, site.Waits u) ≡ Some v)) ⊎ ((th ≢ n) × (value_of equal_thread s.threads n ≡ Some v)) → n.num < cap
    counted n v own (inl k) = h.counted n (st, Runs) (subst (λ (z : ThreadName). thread_state s z ≡ Some (st, Runs)) (sym k.0) at) own
    counted n v own (inr k) = h.counted n v k.1 own

    was : (n : ThreadName) (x : VarName) → n.site ≡ i → (b : Bool) → (equal_thread n th && equal_var x u) ≡ b → 1 ≤ requests n x (base ++ with_own_bundle limit s.equations (request u r th) ∷ []) → n.num < cap
    was n x own true q asked = h.counted n (st, Runs) (subst (λ (z : ThreadName). thread_state s z ≡ Some (st, Runs)) (sym ((same_thread_decides n th).0 (both (equal_thread n th) (equal_var x u) q).0)) at) own
    was n x own false q asked = let o : one (equal_thread n th && equal_var x u) ≡ 0 = ap one q in h.asked n x (omega (arith, asked, total n x)) own
