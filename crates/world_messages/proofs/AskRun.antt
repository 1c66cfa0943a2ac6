-- No thread asks twice to bind a variable, in every run.
use Rattle.std.proofs.Common.{arith, ◌≡◌, ◌≢◌, ◌∙◌, sym, ap, refl, subst, ℕ, zero, suc, ◌+◌, ◌<◌, ◌≤◌, List, [], ◌∷◌, ◌++◌, ◌⊎◌, inl, inr, Bool, true, false, cond}
use Rattle.std.specs.Prelude.{Option, Some, None, Contains, ◌==◌, slice_get}
use Rattle.tree_node.specs.declared.names.VarName.{VarName}
use Rattle.tree_node.specs.declared.names.CellName.{CellName}
use Rattle.tree_node.specs.declared.names.ThreadName.{ThreadName}
use Rattle.tree_node.specs.declared.node.Term.{Term}
use Rattle.tree_node.specs.Assoc.{value_of}
use Rattle.tree_node.specs.State.{Stack, equal_thread}
use Rattle.tree_node.specs.Store.{Equation}
use Rattle.tree_node.proofs.ClassLemmas.{Contains-head, Contains-tail}
use Rattle.kernel_syntax.specs.declared.stmt.Stmt.{Stmt}
use Rattle.site_message.specs.declared.message.Msg.{Msg}
use Rattle.site_message.specs.declared.message.Msg.TheVariants as msg
use Rattle.site_message.specs.declared.message.Sent.{Sent}
use Rattle.site_message.specs.declared.turn.Turn.{Turn}
use Rattle.site_message.specs.Journal.{IsTravelling, sent_of, was_delivered, is_number}
use Rattle.oz_model.specs.Effect.{body_item}
use Rattle.oz_model.specs.Run.{first_thread, start}
use Rattle.bind_protocol.specs.Records.{is_own, knowledge}
use Rattle.bind_protocol.proofs.ListLemmas.{there_counted, count_append}
use Rattle.site_model.specs.Site.{Site, CellRecord, HomeRecord, Counters, ThreadState, thread_state, cell_record_in, initial_site, runnable_threads}
use Rattle.thread_roster.specs.declared.mode.Awaited.{Awaited}
use Rattle.thread_roster.specs.declared.mode.Awaited.TheVariants.{Cell}
use Rattle.thread_roster.specs.declared.mode.Mode.TheVariants.{WaitsFor}
use Rattle.thread_roster.specs.Binds.{goes_on}
use Rattle.thread_roster.specs.Threads.{wake_where}
use Rattle.thread_roster.proofs.ThreadLemmas.{woken_by}
use Rattle.thread_roster.specs.declared.mode.Mode.TheVariants as site
use Rattle.site_model.specs.Bundle.{message_bundle}
use Rattle.site_model.specs.Transition.{Transition}
use Rattle.site_model.specs.Variables.{with_known_equation, with_known_equations, opening}
use Rattle.site_model.specs.Run.{WorldRun, delivered_message, message_of}
use Rattle.world_model.specs.World.{Sites, put}
use Rattle.world_model.specs.Claims.{home_in}
use Rattle.world_model.specs.Matches.{IsBound}
use Rattle.world_model.proofs.PutLemmas.{nat_decides, at_all, at_here, at_other}
use Rattle.world_model.proofs.KeyLemmas.{woken_old, running_old}
use Rattle.world_messages.specs.BindRequests.{requests, is_spawn, flights, Awaits, ComesNew, BringsThread, AnswersThread, ThreadsPlaced, ThreadsArePlaced, AsksAreFew}
use Rattle.world_messages.proofs.AskRowLemmas.{turn_asks, Full, HearsNew}
use Rattle.world_messages.proofs.CountLemmas.{counted_in}
use Rattle.world_messages.proofs.DeedLemmas.{opens_counts}
use Rattle.world_messages.proofs.HomeRowLemmas.{told_all_same}
use Rattle.world_messages.proofs.RunLemmas.{Entry, every_run}
use Rattle.tree_node.proofs.NameLemmas.{same_thread_decides}
use Rattle.std.proofs.lemmas.Bool.{or_parts}
use Rattle.site_model.proofs.FrameLemmas.{told_all_counters}

-- the thread was made by its site
abbrev pub IsReal : Sites → ThreadName → Type 0
IsReal f n = (1 ≤ n.site) × (n.num < (f n.site).counters.threads)

pub record SiteAsks (f : Sites) (i : ℕ) (base : List Sent) (s : Site) : Type 0 where
  pub stands : (n : ThreadName) (v : ThreadState) (x : VarName) → thread_state s n ≡ Some v → 1 ≤ requests n x base → IsBound s.equations x ⊎ (v.1 ≡ site.Waits x)
  pub real : (n : ThreadName) (v : ThreadState) → thread_state s n ≡ Some v → IsReal f n

pub record AskedIn (j : List Turn) (f : Sites) : Type 0 where
  pub once : (n : ThreadName) (x : VarName) → requests n x (sent_of j) ≤ 1
  pub sites : (i : ℕ) → SiteAsks f i (sent_of j) (f i)
  pub asked : (n : ThreadName) (x : VarName) → 1 ≤ requests n x (sent_of j) → IsReal f n
  pub flies : (k to : ℕ) (n : ThreadName) (m : Msg) → IsTravelling j k (record { to = to; msg = m }) → BringsThread n m → ((x : VarName) → requests n x (sent_of j) ≡ 0) × IsReal f n

-- ---- lists

get_cases : {X : Type 0} (xs ys : List X) (k : ℕ) (m : X) → slice_get (xs ++ ys) k ≡ Some m → (slice_get xs k ≡ Some m) ⊎ Contains ys m
get_cases [] ys k m e = inr (place ys k e)
  where
    place : (zs : List _) (k : ℕ) → slice_get zs k ≡ Some m → Contains zs m
    place [] k e = cc
    place (z ∷ zs) zero e = let same : z ≡ m = cc in subst (λ w. Contains (z ∷ zs) w) same (Contains-head z zs)
    place (z ∷ zs) (suc k) e = Contains-tail z m zs (place zs k e)
get_cases (x ∷ xs) ys zero m e = inl e
get_cases (x ∷ xs) ys (suc k) m e = get_cases xs ys k m e

zero_or : (k : ℕ) → (k ≡ 0) ⊎ (1 ≤ k)
zero_or zero = inl refl
zero_or (suc k) = inr (omega arith)

never_more : (k : ℕ) → k + 1 ≤ k → ⊥
never_more k h = omega (arith, h)

-- ---- a message is opened

told_standing : (s : Site) (x : VarName) (t : Term) (n : ThreadName) (w : ThreadState) → thread_state (with_known_equation s x t) n ≡ Some w → (u : ThreadState) × (thread_state s n ≡ Some u) × ((a : Awaited) → u.1 ≡ WaitsFor a → w.1 ≡ WaitsFor a)
told_standing s x t n w at = go (is_own s.records x) refl (knowledge s.records x) refl at
  where
    Goal : Site → Type 0
    Goal q = thread_state q n ≡ Some w → (u : ThreadState) × (thread_state s n ≡ Some u) × ((a : Awaited) → u.1 ≡ WaitsFor a → w.1 ≡ WaitsFor a)

    same : thread_state s n ≡ Some w → (u : ThreadState) × (thread_state s n ≡ Some u) × ((a : Awaited) → u.1 ≡ WaitsFor a → w.1 ≡ WaitsFor a)
    same e = (w, e, λ a q. q)

    woke : value_of equal_thread (wake_where (goes_on ((x, t) ∷ s.equations) x) s.threads) n ≡ Some w → (u : ThreadState) × (thread_state s n ≡ Some u) × ((a : Awaited) → u.1 ≡ WaitsFor a → w.1 ≡ WaitsFor a)
    woke e = let o = woken_old (goes_on ((x, t) ∷ s.equations) x) s.threads n w.0 w.1 e in ((w.0, o.0), o.1, λ a q. sym o.2 ∙ ap (woken_by (goes_on ((x, t) ∷ s.equations) x)) q)

    go : (b : Bool) → is_own s.records x ≡ b → (o : Option (Option Term)) → knowledge s.records x ≡ o → thread_state (with_known_equation s x t) n ≡ Some w → (u : ThreadState) × (thread_state s n ≡ Some u) × ((a : Awaited) → u.1 ≡ WaitsFor a → w.1 ≡ WaitsFor a)
    go true q o k = rw (k, q) same
    go false q None k = rw (k, q) woke
    go false q (Some None) k = rw (k, q) woke
    go false q (Some (Some r)) k = rw (k, q) same

told_all_standing : (es : List Equation) (s : Site) (n : ThreadName) (w : ThreadState) → thread_state (with_known_equations s es) n ≡ Some w → (u : ThreadState) × (thread_state s n ≡ Some u) × ((a : Awaited) → u.1 ≡ WaitsFor a → w.1 ≡ WaitsFor a)
told_all_standing [] s n w at = (w, at, λ a q. q)
told_all_standing (e ∷ es) s n w at =
    let later = told_all_standing es (with_known_equation s e.0 e.1) n w at in
    let first = told_standing s e.0 e.1 n later.0 later.1 in
    (first.0, first.1, λ a q. later.2 a (first.2 a q))

-- ---- an entry

module _ (p : List Stmt) (n limit : ℕ) (placed : ThreadsArePlaced p n limit) (j : List Turn) (e : Turn) (f : Sites) (d : Transition) (entry : Entry p n limit j e f d) (h : AskedIn j f) where
  here : Site
  here = f e.site

  own : (f e.site).records.site ≡ e.site
  own = (counted_in p n limit j f entry.run).0 e.site

  where_placed : ThreadsPlaced j f
  where_placed = placed j f entry.run

  -- who may ask in this turn: who stands here, comes, or is born
  abbrev Came : Option Msg → ThreadName → Type 0
  Came None m = ⊥
  Came (Some o) m = BringsThread m o

  abbrev MayAsk : ThreadName → Type 0
  MayAsk m = ((v : ThreadState) × (thread_state (f e.site) m ≡ Some v)) ⊎ (Came (delivered_message j e.delivered) m ⊎ ((m.site ≡ e.site) × ((f e.site).counters.threads ≤ m.num)))

  -- the message that comes, with its number
  abbrev Coming : ThreadName → Type 0
  Coming m = (k to : ℕ) × (o : Msg) × (e.delivered ≡ Some k) × IsTravelling j k (record { to = to; msg = o }) × BringsThread m o

  coming : (m : ThreadName) → Came (delivered_message j e.delivered) m → Coming m
  coming m c = by e.delivered refl c
    where
      by : (o : Option ℕ) → e.delivered ≡ o → Came (delivered_message j o) m → Coming m
      by None q c = absurd c
      by (Some k) q c = go (entry.wired k q)
        where
          go : (s : Sent) × IsTravelling j k s × (s.to ≡ e.site) → Coming m
          go (s, at, to) = (k, s.to, s.msg, q, at, subst (λ (o : Option Sent). Came (message_of o) m) at.0 c)

  may_be_real : (m : ThreadName) → MayAsk m → (m.site ≡ e.site → m.num < d.site.counters.threads) → (1 ≤ m.site) × ((m.site ≢ e.site → m.num < (f m.site).counters.threads))
  may_be_real m (inl (v, at)) low = let r = (h.sites e.site).real m v at in (r.0, λ other. r.1)
  may_be_real m (inr (inl c)) low = let k = coming m c in let r = (h.flies k.0 k.1 m k.2 k.4 k.5).1 in (r.0, λ other. r.1)
  may_be_real m (inr (inr (at, fresh))) low = (subst (λ (i : ℕ). 1 ≤ i) (sym at) entry.site.0, λ other. absurd (other at))

  begin : Full p n limit e.site (f e.site).counters.threads MayAsk (sent_of j) (λ m at low. inr (inr (at, low))) (sent_of j) (f e.site)
  begin = record {
    once = h.once;
    stands = (h.sites e.site).stands;
    counted = λ m v at mine. subst (λ (i : ℕ). m.num < (f i).counters.threads) mine ((h.sites e.site).real m v at).1;
    asked = λ m x asked mine. subst (λ (i : ℕ). m.num < (f i).counters.threads) mine (h.asked m x asked).1;
    since = omega arith;
    capped = omega arith;
    who = λ m v at. inl (v, at);
    asker = λ m x more. absurd (never_more (requests m x (sent_of j)) more);
    flown = λ m more. absurd (never_more (flights m (sent_of j)) more);
  }

  made_same : (o : Msg) → (opening o (f e.site)).site.counters.threads ≡ (f e.site).counters.threads
  made_same o = ap (λ (c : Counters). c.threads) (told_all_counters (message_bundle o) (f e.site))

  number_same : (o : Msg) → (opening o (f e.site)).site.records.site ≡ e.site
  number_same o = (opens_counts o (f e.site)).site ∙ own

  -- the thread that is answered waits, also once the message is opened
  awaits : (k : ℕ) (o : Msg) (m : ThreadName) → IsTravelling j k (record { to = e.site; msg = o }) → AnswersThread m o → Awaits m (opening o (f e.site)).site
  awaits k o m at is w stands =
      let u = told_all_standing (message_bundle o) (f e.site) m w stands in
      let a = where_placed.answered k e.site m o at is u.0 u.1 in
      (a.0, u.2 a.0 a.1)

  new_of : (k : ℕ) (o : Msg) → IsTravelling j k (record { to = e.site; msg = o }) → delivered_message j e.delivered ≡ Some o → ComesNew e.site MayAsk (sent_of j) o (opening o (f e.site)).site
  new_of k (msg.Spawn m code vars bundle) at is =
      let r = h.flies k e.site m (msg.Spawn m code vars bundle) at refl in
      (r.0, λ mine. subst (λ (c : ℕ). m.num < c) (sym (made_same (msg.Spawn m code vars bundle))) (subst (λ (i : ℕ). m.num < (f i).counters.threads) mine r.1.1), inr (inl (subst (λ (o : Option Msg). Came o m) (sym is) refl)))
  new_of k (msg.Put c v bundle) at is = λ m w listed stands.
      let o = told_all_standing bundle (f e.site) m w stands in
      o.2 (Cell c) (where_placed.queues e.site c m o.0 (subst (λ (qs : List (CellName × CellRecord)). Contains (cell_record_in qs c).queue m) (told_all_same (λ (s : Site). s.cell_records) (λ s x r. refl) bundle (f e.site)) listed) o.1)
  new_of k (msg.Register a b) at is = tt
  new_of k (msg.BindReq a b c q) at is = tt
  new_of k (msg.Binding a b c) at is = tt
  new_of k (msg.Get a b) at is = tt
  new_of k (msg.Forward a b) at is = tt
  new_of k (msg.PortSend a b c) at is = tt
  new_of k (msg.PortEnd m old new bundle) at is = awaits k (msg.PortEnd m old new bundle) m at refl
  new_of k (msg.CellMake c v bundle) at is = λ r w listed mine stands.
      let o = told_all_standing bundle (f e.site) r.thread w stands in
      o.2 (Cell c) (where_placed.early k e.site c v bundle r o.0 at (subst (λ (hs : List (CellName × HomeRecord)). Contains (home_in hs c).early r) (told_all_same (λ (s : Site). s.homes) (λ s x r. refl) bundle (f e.site)) listed) (mine ∙ number_same (msg.CellMake c v bundle)) o.1)
  new_of k (msg.CellAsk c m b v bundle) at is = λ mine. where_placed.elsewhere k e.site c m b v bundle at (mine ∙ number_same (msg.CellAsk c m b v bundle))
  new_of k (msg.CellOld m v bundle) at is = awaits k (msg.CellOld m v bundle) m at refl

  hears : HearsNew p n limit e.site (f e.site).counters.threads MayAsk (sent_of j) (λ m at low. inr (inr (at, low))) (delivered_message j e.delivered) (f e.site)
  hears = by e.delivered refl
    where
      by : (o : Option ℕ) → e.delivered ≡ o → HearsNew p n limit e.site (f e.site).counters.threads MayAsk (sent_of j) (λ m at low. inr (inr (at, low))) (delivered_message j e.delivered) (f e.site)
      by None q = subst (λ (o : Option Msg). HearsNew p n limit e.site (f e.site).counters.threads MayAsk (sent_of j) (λ m at low. inr (inr (at, low))) o (f e.site)) (sym (ap (delivered_message j) q)) tt
      by (Some k) q = go (entry.wired k q)
        where
          go : (s : Sent) × IsTravelling j k s × (s.to ≡ e.site) → HearsNew p n limit e.site (f e.site).counters.threads MayAsk (sent_of j) (λ m at low. inr (inr (at, low))) (delivered_message j e.delivered) (f e.site)
          go (s, at, to) =
              let is : delivered_message j e.delivered ≡ Some s.msg = ap (delivered_message j) q ∙ ap message_of at.0 in
              subst (λ (o : Option Msg). HearsNew p n limit e.site (f e.site).counters.threads MayAsk (sent_of j) (λ m at low. inr (inr (at, low))) o (f e.site)) (sym is) (new_of k s.msg (subst (λ (i : ℕ). IsTravelling j k (record { to = i; msg = s.msg })) to at) is)

  end : Full p n limit e.site (f e.site).counters.threads MayAsk (sent_of j) (λ m at low. inr (inr (at, low))) (sent_of j ++ e.sent) d.site
  end = subst (λ (ms : List Sent). Full p n limit e.site (f e.site).counters.threads MayAsk (sent_of j) (λ m at low. inr (inr (at, low))) (sent_of j ++ ms) d.site) (sym entry.tells.sent)
      (turn_asks p n limit e.site (f e.site).counters.threads MayAsk (sent_of j) (λ m at low. inr (inr (at, low))) (delivered_message j e.delivered) (f e.site) d own hears begin entry.turn)

  after : Sites
  after = put f e.site d.site

  more_made : (f e.site).counters.threads ≤ d.site.counters.threads
  more_made = end.since

  here_after : (i : ℕ) → i ≡ e.site → put f e.site d.site i ≡ d.site
  here_after i q = ap (put f e.site d.site) q ∙ at_here f e.site d.site

  site_cases : (i : ℕ) → (i ≡ e.site) ⊎ (i ≢ e.site)
  site_cases i = go (i == e.site) refl
    where
      go : (b : Bool) → (i == e.site) ≡ b → (i ≡ e.site) ⊎ (i ≢ e.site)
      go true q = inl ((nat_decides i e.site).0 q)
      go false q = inr (λ z. let yes : (i == e.site) ≡ true = (nat_decides i e.site).1 z in cc)

  low_after : (m : ThreadName) → (m.site ≡ e.site → m.num < d.site.counters.threads) → (m.site ≢ e.site → m.num < (f m.site).counters.threads) → m.num < (put f e.site d.site m.site).counters.threads
  low_after m mine other = go (site_cases m.site)
    where
      go : (m.site ≡ e.site) ⊎ (m.site ≢ e.site) → m.num < (put f e.site d.site m.site).counters.threads
      go (inl q) = subst (λ (s : Site). m.num < s.counters.threads) (sym (here_after m.site q)) (mine q)
      go (inr q) = subst (λ (s : Site). m.num < s.counters.threads) (sym (at_other f e.site d.site m.site q)) (other q)

  real_stays : (m : ThreadName) → IsReal f m → IsReal (put f e.site d.site) m
  real_stays m (low, num) = (low, low_after m (λ q. (let was : m.num < (f e.site).counters.threads = subst (λ (i : ℕ). m.num < (f i).counters.threads) q num in omega (arith, was, more_made))) (λ q. num))

  real_of : (m : ThreadName) → MayAsk m → (m.site ≡ e.site → m.num < d.site.counters.threads) → IsReal (put f e.site d.site) m
  real_of m may mine = let r = may_be_real m may mine in (r.0, low_after m mine r.1)

  -- a thread at another site did not ask in this turn
  not_elsewhere : (i : ℕ) (m : ThreadName) (v : ThreadState) → i ≢ e.site → thread_state (f i) m ≡ Some v → MayAsk m → ⊥
  not_elsewhere i m v other at (inl (w, stood)) = other (where_placed.home i e.site m v w at stood)
  not_elsewhere i m v other at (inr (inl c)) = let k = coming m c in where_placed.apart i k.0 k.1 m v k.2 at k.4 k.5
  not_elsewhere i m v other at (inr (inr (mine, fresh))) =
      let num : m.num < (f e.site).counters.threads = subst (λ (l : ℕ). m.num < (f l).counters.threads) mine ((h.sites i).real m v at).1 in absurd (omega (arith, num, fresh))

  elsewhere : (i : ℕ) → i ≢ e.site → SiteAsks (put f e.site d.site) i (sent_of j ++ e.sent) (f i)
  elsewhere i other = record {
    stands = λ m v x at asked. by m v x at asked (zero_or (requests m x (sent_of j)));
    real = λ m v at. real_stays m ((h.sites i).real m v at);
  }
    where
      by : (m : ThreadName) (v : ThreadState) (x : VarName) → thread_state (f i) m ≡ Some v → 1 ≤ requests m x (sent_of j ++ e.sent) → (requests m x (sent_of j) ≡ 0) ⊎ (1 ≤ requests m x (sent_of j)) → IsBound (f i).equations x ⊎ (v.1 ≡ site.Waits x)
      by m v x at asked (inr old) = (h.sites i).stands m v x at old
      by m v x at asked (inl none) = absurd (not_elsewhere i m v other at (end.asker m x (omega (arith, asked, none))))

  -- a thread that travels did not ask
  not_travelling : (k to : ℕ) (m : ThreadName) (o : Msg) → IsTravelling j k (record { to = to; msg = o }) → BringsThread m o → is_number e.delivered k ≡ false → MayAsk m → ⊥
  not_travelling k to m o at brings still (inl (v, stood)) = where_placed.apart e.site k to m v o stood at brings
  not_travelling k to m o at brings still (inr (inl c)) =
      let q = coming m c in
      let same : k ≡ q.0 = where_placed.sole k q.0 to q.1 m o q.2 at q.4 brings q.5 in
      let yes : is_number e.delivered k ≡ true = ap (λ (u : Option ℕ). is_number u k) q.3 ∙ (nat_decides q.0 k).1 (sym same) in cc
  not_travelling k to m o at brings still (inr (inr (mine, fresh))) =
      let num : m.num < (f e.site).counters.threads = subst (λ (l : ℕ). m.num < (f l).counters.threads) mine (h.flies k to m o at brings).1.1 in absurd (omega (arith, num, fresh))

  brings_is : (to : ℕ) (m : ThreadName) (o : Msg) → BringsThread m o → is_spawn m (record { to = to; msg = o }) ≡ true
  brings_is to m (msg.Spawn q code vars bundle) b = (same_thread_decides m q).1 (sym b)
  brings_is to m (msg.Register a c) b = absurd b
  brings_is to m (msg.BindReq a c q r) b = absurd b
  brings_is to m (msg.Binding a c q) b = absurd b
  brings_is to m (msg.Get a c) b = absurd b
  brings_is to m (msg.Forward a c) b = absurd b
  brings_is to m (msg.Put a c q) b = absurd b
  brings_is to m (msg.PortSend a c q) b = absurd b
  brings_is to m (msg.PortEnd a c q r) b = absurd b
  brings_is to m (msg.CellMake a c q) b = absurd b
  brings_is to m (msg.CellAsk a c q r t) b = absurd b
  brings_is to m (msg.CellOld a c q) b = absurd b

  flies_after : (k to : ℕ) (m : ThreadName) (o : Msg) → IsTravelling (e ∷ j) k (record { to = to; msg = o }) → BringsThread m o → ((x : VarName) → requests m x (sent_of j ++ e.sent) ≡ 0) × IsReal (put f e.site d.site) m
  flies_after k to m o (at, still) brings = go (get_cases (sent_of j) e.sent k (record { to = to; msg = o }) at)
    where
      apart : (is_number e.delivered k ≡ false) × (was_delivered j k ≡ false)
      apart = or_parts (is_number e.delivered k) (was_delivered j k) still

      none_of : (x : VarName) → IsTravelling j k (record { to = to; msg = o }) → (requests m x (sent_of j ++ e.sent) ≡ 0) ⊎ (1 ≤ requests m x (sent_of j ++ e.sent)) → requests m x (sent_of j ++ e.sent) ≡ 0
      none_of x old (inl z) = z
      none_of x old (inr some) =
          let was : requests m x (sent_of j) ≡ 0 = (h.flies k to m o old brings).0 x in
          absurd (not_travelling k to m o old brings apart.0 (end.asker m x (omega (arith, was, some))))

      go : (slice_get (sent_of j) k ≡ Some (record { to = to; msg = o })) ⊎ Contains e.sent (record { to = to; msg = o }) → ((x : VarName) → requests m x (sent_of j ++ e.sent) ≡ 0) × IsReal (put f e.site d.site) m
      go (inl old) =
          let travels : IsTravelling j k (record { to = to; msg = o }) = (old, apart.1) in
          (λ x. none_of x travels (zero_or (requests m x (sent_of j ++ e.sent))), real_stays m (h.flies k to m o travels brings).1)
      go (inr new) =
          let some : 1 ≤ flights m e.sent = there_counted (is_spawn m) e.sent (record { to = to; msg = o }) new (brings_is to m o brings) in
          let fl = end.flown m (omega (arith, some, count_append (is_spawn m) (sent_of j) e.sent)) in
          (fl.0, (subst (λ (i : ℕ). 1 ≤ i) (sym fl.2) entry.site.0, low_after m (λ q. fl.3) (λ q. absurd (q fl.2))))

  asked_after : (m : ThreadName) (x : VarName) → 1 ≤ requests m x (sent_of j ++ e.sent) → IsReal (put f e.site d.site) m
  asked_after m x asked = go (zero_or (requests m x (sent_of j)))
    where
      go : (requests m x (sent_of j) ≡ 0) ⊎ (1 ≤ requests m x (sent_of j)) → IsReal (put f e.site d.site) m
      go (inr old) = real_stays m (h.asked m x old)
      go (inl none) = real_of m (end.asker m x (omega (arith, asked, none))) (end.asked m x asked)

  asked_entry : AskedIn (e ∷ j) (put f e.site d.site)
  asked_entry = record {
    once = end.once;
    sites = at_all f e.site d.site (λ (i : ℕ) (s : Site). SiteAsks (put f e.site d.site) i (sent_of j ++ e.sent) s) (record { stands = end.stands; real = λ m v at. real_of m (end.who m v at) (end.counted m v at) }) elsewhere;
    asked = asked_after;
    flies = flies_after;
  }

-- ---- every run

never_one : 1 ≤ 0 → ⊥
never_one h = omega (arith, h)

no_place : {X : Type 0} (k : ℕ) (x : X) → slice_get [] k ≡ Some x → ⊥
no_place k x e = cc

first_real : (p : List Stmt) (n i : ℕ) (m : ThreadName) (v : ThreadState) → thread_state (initial_site p n i) m ≡ Some v → IsReal (initial_site p n) m
first_real p n i m v at = go (i == 1) at
  where
    one : (st : Stack) (c : Bool) → equal_thread first_thread m ≡ c → cond c (Some st) None ≡ Some v.0 → IsReal (initial_site p n) m
    one st true q e = subst (IsReal (initial_site p n)) ((same_thread_decides first_thread m).0 q) (omega arith, omega arith)
    one st false q e = cc

    go : (b : Bool) → value_of equal_thread (cond b (runnable_threads (start p).threads) []) m ≡ Some v → IsReal (initial_site p n) m
    go true e = one (body_item p (record { 0 = 0 }) [] ∷ []) (equal_thread first_thread m) refl (running_old (start p).threads m v e).0
    go false e = cc

pub asked_in : (p : List Stmt) (n limit : ℕ) → ThreadsArePlaced p n limit → (j : List Turn) (f : Sites) → WorldRun p n limit j f → AskedIn j f
asked_in p n limit placed j f run = every_run p n limit AskedIn (record {
  once = λ m x. omega arith;
  sites = λ i. record { stands = λ m v x at asked. absurd (never_one asked); real = λ m v at. first_real p n i m v at };
  asked = λ m x asked. absurd (never_one asked);
  flies = λ k to m o at brings. absurd (no_place k (record { to = to; msg = o }) at.0);
}) (λ j e f d entry h. asked_entry p n limit placed j e f d entry h) j f run

pub asks_are_few : AsksAreFew
asks_are_few p n limit j f placed run th x = (asked_in p n limit placed j f run).once th x
