-- Where threads are, as one goes on, is born, leaves and lands.
use Rattle.std.proofs.Common.{rules, ◌≡◌, ◌∙◌, sym, ap, refl, subst, ℕ, List, ◌∷◌, ◌⊎◌, inl, inr, Bool, true, false, cond, Some, None}
use Rattle.std.specs.Prelude.{Option, Contains, ◌≢◌}
use Rattle.tree_node.specs.declared.names.VarName.{VarName}
use Rattle.tree_node.specs.declared.names.CellName.{CellName}
use Rattle.tree_node.specs.declared.names.ThreadName.{ThreadName}
use Rattle.tree_node.specs.declared.names.Name.{Name}
use Rattle.tree_node.specs.declared.node.Term.{Term}
use Rattle.tree_node.specs.Assoc.{value_of, with_optional_value}
use Rattle.tree_node.specs.Names.{EachOfStack}
use Rattle.tree_node.specs.State.{Stack, equal_thread}
use Rattle.tree_node.specs.Store.{Store, IsFree}
use Rattle.kernel_syntax.specs.declared.stmt.Stmt.{Stmt}
use Rattle.bind_protocol.specs.Records.{Records}
use Rattle.site_model.specs.Site.{ThreadState, Threads}
use Rattle.thread_roster.specs.declared.mode.Awaited.TheVariants.{Cell}
use Rattle.thread_roster.specs.declared.mode.Mode.{Mode}
use Rattle.thread_roster.specs.declared.mode.Mode.TheVariants.{Runs, WaitsFor}
use Rattle.thread_roster.specs.declared.mode.Mode.TheVariants as site
use Rattle.site_model.specs.Unit.{runnable_state}
use Rattle.world_model.specs.World.{Mail, at_put}
use Rattle.world_model.specs.Names.{IsHere, AreHome}
use Rattle.world_model.specs.Matches.{IsThreadAt, IsInSpawn, ThreadsMatch, IsWaiting, IsNeeding, IsWaitingAny, IsOpenOn, NeedsFirst, IsAsked, IsExchange, IsAwaited, WaitersMatch}
use Rattle.world_model.proofs.PutLemmas.{at_all, at_here}
use Rattle.world_model.proofs.MailLemmas.{Gone}
use Rattle.world_model.proofs.KeyLemmas.{goes_cases, goes_here, goes_there}
use Rattle.tree_node.proofs.NameLemmas.{same_thread_decides}

-- ---- one in front

pub front_is : {V : Type 0} (ts : List (ThreadName × V)) (n o : ThreadName) (v u : V) → value_of equal_thread ((n, v) ∷ ts) o ≡ Some u → ((o ≡ n) × (u ≡ v)) ⊎ ((n ≢ o) × (value_of equal_thread ts o ≡ Some u))
front_is {V} ts n o v u h = go (equal_thread n o) refl h
  where
    go : (b : Bool) → equal_thread n o ≡ b → cond b (Some v) (value_of equal_thread ts o) ≡ Some u → ((o ≡ n) × (u ≡ v)) ⊎ ((n ≢ o) × (value_of equal_thread ts o ≡ Some u))
    go true q k = let same : u ≡ v = cc in inl (sym ((same_thread_decides n o).0 q), same)
    go false q k = inr ((λ (e : n ≡ o). let yes : equal_thread n o ≡ true = (same_thread_decides n o).1 e in cc), k)

pub front_own : {V : Type 0} (ts : List (ThreadName × V)) (n : ThreadName) (v : V) → value_of equal_thread ((n, v) ∷ ts) n ≡ Some v
front_own ts n v = rw ((same_thread_decides n n).1 refl) refl

pub front_stays : {V : Type 0} (ts : List (ThreadName × V)) (n o : ThreadName) (v u : V) → value_of equal_thread ts n ≡ None → value_of equal_thread ts o ≡ Some u → value_of equal_thread ((n, v) ∷ ts) o ≡ Some u
front_stays {V} ts n o v u none h = go (equal_thread n o) refl
  where
    go : (b : Bool) → equal_thread n o ≡ b → cond b (Some v) (value_of equal_thread ts o) ≡ Some u
    go true q =
        let same : n ≡ o = (same_thread_decides n o).0 q in
        let gone : value_of equal_thread ts o ≡ None = rw (← same) none in
        let both : None ≡ Some u = sym gone ∙ h in cc
    go false q = h

-- a thread stands in front at site i
abbrev pub fronted : (ℕ → Threads) → ℕ → ThreadName → Stack → ℕ → Threads
fronted threads i n st = at_put threads i ((n, (st, Runs)) ∷ threads i)

module _ (threads : ℕ → Threads) (i : ℕ) (n : ThreadName) (st : Stack) (none : (j : ℕ) → value_of equal_thread (threads j) n ≡ None) where
  pub fronted_old : (j : ℕ) (o : ThreadName) (v : ThreadState) → value_of equal_thread (fronted threads i n st j) o ≡ Some v → ((j ≡ i) × (o ≡ n) × (v ≡ (st, Runs))) ⊎ ((n ≢ o) × (value_of equal_thread (threads j) o ≡ Some v))
  fronted_old = at_all threads i ((n, (st, Runs)) ∷ threads i) (λ j (ts : Threads). (o : ThreadName) (v : ThreadState) → value_of equal_thread ts o ≡ Some v → ((j ≡ i) × (o ≡ n) × (v ≡ (st, Runs))) ⊎ ((n ≢ o) × (value_of equal_thread (threads j) o ≡ Some v)))
      (λ o v h. go o v (front_is (threads i) n o (st, Runs) v h)) (λ j other o v h. inr (differ j o v h, h))
    where
      go : (o : ThreadName) (v : ThreadState) → ((o ≡ n) × (v ≡ (st, Runs))) ⊎ ((n ≢ o) × (value_of equal_thread (threads i) o ≡ Some v)) → ((i ≡ i) × (o ≡ n) × (v ≡ (st, Runs))) ⊎ ((n ≢ o) × (value_of equal_thread (threads i) o ≡ Some v))
      go o v (inl e) = inl (refl, e.0, e.1)
      go o v (inr h) = inr h

      differ : (j : ℕ) (o : ThreadName) (v : ThreadState) → value_of equal_thread (threads j) o ≡ Some v → n ≢ o
      differ j o v h e =
          let gone : value_of equal_thread (threads j) o ≡ None = rw (← e) (none j) in
          let both : None ≡ Some v = sym gone ∙ h in cc

  pub fronted_new : (j : ℕ) (o : ThreadName) (v : ThreadState) → value_of equal_thread (threads j) o ≡ Some v → value_of equal_thread (fronted threads i n st j) o ≡ Some v
  fronted_new = at_all threads i ((n, (st, Runs)) ∷ threads i) (λ j (ts : Threads). (o : ThreadName) (v : ThreadState) → value_of equal_thread (threads j) o ≡ Some v → value_of equal_thread ts o ≡ Some v)
      (λ o v h. front_stays (threads i) n o (st, Runs) v (none i) h) (λ j other o v h. h)

  pub fronted_here : value_of equal_thread (fronted threads i n st i) n ≡ Some (st, Runs)
  fronted_here = subst (λ (ts : Threads). value_of equal_thread ts n ≡ Some (st, Runs)) (sym (at_here threads i ((n, (st, Runs)) ∷ threads i))) (front_own (threads i) n (st, Runs))

  pub waiting_fronted : (p : List Stmt) (eqs : ℕ → Store) (records : ℕ → Records) (mail : Mail) (c : Store) → WaitersMatch p eqs records threads mail c → WaitersMatch p eqs records (fronted threads i n st) mail c
  waiting_fronted p eqs records mail c w = record {
    asks = λ k to x t o bundle h. asked x t o (w.asks k to x t o bundle h);
    waits = λ j o su x h. wait j o su x (fronted_old j o (su, site.Waits x) h);
    needs = λ j o su x h. need j o su x (fronted_old j o (su, site.Needs x) h);
    compares = λ j o su xs h. compare j o su xs (fronted_old j o (su, site.WaitsAny xs) h);
    exchanges = λ j o su d h. exchange j o su d (fronted_old j o (su, WaitsFor (Cell d)) h);
  }
    where
      asked : (x : VarName) (t : Term) (o : ThreadName) → IsAwaited p eqs threads c x t o → IsAwaited p eqs (fronted threads i n st) c x t o
      asked x t o (inl h) = inl h
      asked x t o (inr (j, su, h, wants)) = inr (j, su, fronted_new j o (su, site.Waits x) h, wants)

      wait : (j : ℕ) (o : ThreadName) (su : Stack) (x : VarName) → ((j ≡ i) × (o ≡ n) × (◌≡◌ {A = ThreadState} (su, site.Waits x) (st, Runs))) ⊎ ((n ≢ o) × IsWaiting threads j o su x) →
          IsFree (eqs j) x × IsHere (records j) x × IsAsked mail c o x
      wait j o su x (inl e) = let modes : site.Waits x ≡ Runs = ap (λ (v : ThreadState). v.1) e.2 in cc
      wait j o su x (inr h) = w.waits j o su x h.1

      need : (j : ℕ) (o : ThreadName) (su : Stack) (x : VarName) → ((j ≡ i) × (o ≡ n) × (◌≡◌ {A = ThreadState} (su, site.Needs x) (st, Runs))) ⊎ ((n ≢ o) × IsNeeding threads j o su x) → (j ≢ 0) × NeedsFirst p (eqs j) su x
      need j o su x (inl e) = let modes : site.Needs x ≡ Runs = ap (λ (v : ThreadState). v.1) e.2 in cc
      need j o su x (inr h) = w.needs j o su x h.1

      compare : (j : ℕ) (o : ThreadName) (su : Stack) (xs : List VarName) → ((j ≡ i) × (o ≡ n) × (◌≡◌ {A = ThreadState} (su, site.WaitsAny xs) (st, Runs))) ⊎ ((n ≢ o) × IsWaitingAny threads j o su xs) →
          IsOpenOn p (eqs j) su xs × ((x : VarName) → Contains xs x → IsFree (eqs j) x × IsHere (records j) x)
      compare j o su xs (inl e) = let modes : site.WaitsAny xs ≡ Runs = ap (λ (v : ThreadState). v.1) e.2 in cc
      compare j o su xs (inr h) = w.compares j o su xs h.1

      exchange : (j : ℕ) (o : ThreadName) (su : Stack) (d : CellName) → ((j ≡ i) × (o ≡ n) × (◌≡◌ {A = ThreadState} (su, WaitsFor (Cell d)) (st, Runs))) ⊎ ((n ≢ o) × (value_of equal_thread (threads j) o ≡ Some (su, WaitsFor (Cell d)))) → IsExchange p (eqs j) su d
      exchange j o su d (inl e) = let modes : WaitsFor (Cell d) ≡ Runs = ap (λ (v : ThreadState). v.1) e.2 in cc
      exchange j o su d (inr h) = w.exchanges j o su d h.1

  pub homes_fronted : (here : ℕ → Name → Type 0) (eqs : ℕ → Store) → EachOfStack (here i) st → AreHome here eqs threads → AreHome here eqs (fronted threads i n st)
  homes_fronted here eqs is h j = record { equations = (h j).equations; stacks = λ o v q. go o v (fronted_old j o v q) }
    where
      go : (o : ThreadName) (v : ThreadState) → ((j ≡ i) × (o ≡ n) × (v ≡ (st, Runs))) ⊎ ((n ≢ o) × (value_of equal_thread (threads j) o ≡ Some v)) → EachOfStack (here j) v.0
      go o v (inl e) = subst (λ (u : ThreadState). EachOfStack (here j) u.0) (sym e.2) (subst (λ (k : ℕ). EachOfStack (here k) st) (sym e.0) is)
      go o v (inr q) = (h j).stacks o v q.1

-- what is nowhere at the centre is at no site, and in no message
pub none_at : (p : List Stmt) (threads : ℕ → Threads) (mail : Mail) (ts : List (ThreadName × Stack)) (n : ThreadName) → ThreadsMatch p threads mail ts → value_of equal_thread ts n ≡ None → (j : ℕ) → value_of equal_thread (threads j) n ≡ None
none_at p threads mail ts n k none j = go (value_of equal_thread (threads j) n) refl
  where
    go : (o : Option ThreadState) → value_of equal_thread (threads j) n ≡ o → value_of equal_thread (threads j) n ≡ None
    go None e = e
    go (Some v) e = let both : None ≡ Some v.0 = sym none ∙ k.up j n v.0 (v.1, e) in cc

pub none_comes : (p : List Stmt) (threads : ℕ → Threads) (mail : Mail) (ts : List (ThreadName × Stack)) (n : ThreadName) → ThreadsMatch p threads mail ts → value_of equal_thread ts n ≡ None → (l : ℕ) (st : Stack) → IsInSpawn p mail l n st → ⊥
none_comes p threads mail ts n k none l st h = let both : None ≡ Some st = sym none ∙ k.flies l n st h in cc

-- a new thread at a site
pub placed_birth : (p : List Stmt) (threads : ℕ → Threads) (mail : Mail) (ts : List (ThreadName × Stack)) (i : ℕ) (n : ThreadName) (st : Stack) → value_of equal_thread ts n ≡ None → ThreadsMatch p threads mail ts →
    ThreadsMatch p (fronted threads i n st) mail ((n, st) ∷ ts)
placed_birth p threads mail ts i n st none k = record {
  up = λ j o su h. up j o su (old j o (su, h.0) h.1);
  flies = λ l o su h. front_stays ts n o st su none (k.flies l o su h);
  down = λ o su h. down o su (front_is ts n o st su h);
  home = λ j m o v u h g. home j m o v u (old j o (v, h.0) h.1) (old m o (u, g.0) g.1);
  apart = λ j l o v u h g. apart j l o v u (old j o (v, h.0) h.1) g;
  once = k.once;
  sole = k.sole;
}
  where
    at_none : (j : ℕ) → value_of equal_thread (threads j) n ≡ None
    at_none = none_at p threads mail ts n k none

    old : (j : ℕ) (o : ThreadName) (v : ThreadState) → value_of equal_thread (fronted threads i n st j) o ≡ Some v → ((j ≡ i) × (o ≡ n) × (v ≡ (st, Runs))) ⊎ ((n ≢ o) × (value_of equal_thread (threads j) o ≡ Some v))
    old = fronted_old threads i n st at_none

    up : (j : ℕ) (o : ThreadName) (su : Stack) {m : Mode} → ((j ≡ i) × (o ≡ n) × (◌≡◌ {A = ThreadState} (su, m) (st, Runs))) ⊎ ((n ≢ o) × (value_of equal_thread (threads j) o ≡ Some (su, m))) → value_of equal_thread ((n, st) ∷ ts) o ≡ Some su
    up j o su (inl e) = rw (e.1, ap (λ (v : ThreadState). v.0) e.2) (front_own ts n st)
    up j o su {m} (inr h) = front_stays ts n o st su none (k.up j o su (m, h.1))

    down : (o : ThreadName) (su : Stack) → ((o ≡ n) × (su ≡ st)) ⊎ ((n ≢ o) × (value_of equal_thread ts o ≡ Some su)) → ((j : ℕ) × IsThreadAt (fronted threads i n st) j o su) ⊎ ((l : ℕ) × IsInSpawn p mail l o su)
    down o su (inl e) = rw (e.0, e.1) (inl (i, (Runs, fronted_here threads i n st at_none)))
    down o su (inr h) = go (k.down o su h.1)
      where
        go : ((j : ℕ) × IsThreadAt threads j o su) ⊎ ((l : ℕ) × IsInSpawn p mail l o su) → ((j : ℕ) × IsThreadAt (fronted threads i n st) j o su) ⊎ ((l : ℕ) × IsInSpawn p mail l o su)
        go (inl q) = inl (q.0, (q.1.0, fronted_new threads i n st at_none q.0 o (su, q.1.0) q.1.1))
        go (inr q) = inr q

    home : (j m : ℕ) (o : ThreadName) (v u : Stack) {a b : Mode} → ((j ≡ i) × (o ≡ n) × (◌≡◌ {A = ThreadState} (v, a) (st, Runs))) ⊎ ((n ≢ o) × (value_of equal_thread (threads j) o ≡ Some (v, a))) →
        ((m ≡ i) × (o ≡ n) × (◌≡◌ {A = ThreadState} (u, b) (st, Runs))) ⊎ ((n ≢ o) × (value_of equal_thread (threads m) o ≡ Some (u, b))) → j ≡ m
    home j m o v u (inl e) (inl f) = e.0 ∙ sym f.0
    home j m o v u (inl e) (inr f) = absurd (f.0 (sym e.1))
    home j m o v u (inr e) (inl f) = absurd (e.0 (sym f.1))
    home j m o v u {a} {b} (inr e) (inr f) = k.home j m o v u (a, e.1) (b, f.1)

    apart : (j l : ℕ) (o : ThreadName) (v u : Stack) {a : Mode} → ((j ≡ i) × (o ≡ n) × (◌≡◌ {A = ThreadState} (v, a) (st, Runs))) ⊎ ((n ≢ o) × (value_of equal_thread (threads j) o ≡ Some (v, a))) → IsInSpawn p mail l o u → ⊥
    apart j l o v u (inl e) g = none_comes p threads mail ts n k none l u (subst (λ (x : ThreadName). IsInSpawn p mail l x u) e.1 g)
    apart j l o v u {a} (inr h) g = k.apart j l o v u (a, h.1) g

-- a thread lands: its message is gone, and it is at a site
pub lands_none : (p : List Stmt) (threads : ℕ → Threads) (mail : Mail) (ts : List (ThreadName × Stack)) (l : ℕ) (n : ThreadName) (st : Stack) → ThreadsMatch p threads mail ts → IsInSpawn p mail l n st → (j : ℕ) → value_of equal_thread (threads j) n ≡ None
lands_none p threads mail ts l n st k brings j = go (value_of equal_thread (threads j) n) refl
  where
    go : (o : Option ThreadState) → value_of equal_thread (threads j) n ≡ o → value_of equal_thread (threads j) n ≡ None
    go None e = e
    go (Some v) e = absurd (k.apart j l n v.0 st (v.1, e) brings)

pub placed_lands : (p : List Stmt) (threads : ℕ → Threads) (mail less : Mail) (ts : List (ThreadName × Stack)) (i l : ℕ) (n : ThreadName) (st : Stack) → Gone l mail less → IsInSpawn p mail l n st → ThreadsMatch p threads mail ts →
    ThreadsMatch p (fronted threads i n st) less ts
placed_lands p threads mail less ts i l n st gone brings k = record {
  up = λ j o su h. up j o su (old j o (su, h.0) h.1);
  flies = λ m o su h. k.flies m o su (before m o su h);
  down = λ o su h. down o su (k.down o su h);
  home = λ j m o v u h g. home j m o v u (old j o (v, h.0) h.1) (old m o (u, g.0) g.1);
  apart = λ j m o v u h g. apart j m o v u (old j o (v, h.0) h.1) g;
  once = λ a b o v u h g. k.once a b o v u (before a o v h) (before b o u g);
  sole = λ a o q v u h g. k.sole a o q v u (before a o v h) (before a q u g);
}
  where
    at_none : (j : ℕ) → value_of equal_thread (threads j) n ≡ None
    at_none = lands_none p threads mail ts l n st k brings

    before : (m : ℕ) (o : ThreadName) (su : Stack) → IsInSpawn p less m o su → IsInSpawn p mail m o su
    before m o su h = (h.0, h.1, h.2, h.3, (gone.old m h.0 _ h.4).0, h.5)

    other : (m : ℕ) (o : ThreadName) (su : Stack) → IsInSpawn p less m o su → m ≢ l
    other m o su h = (gone.old m h.0 _ h.4).1

    old : (j : ℕ) (o : ThreadName) (v : ThreadState) → value_of equal_thread (fronted threads i n st j) o ≡ Some v → ((j ≡ i) × (o ≡ n) × (v ≡ (st, Runs))) ⊎ ((n ≢ o) × (value_of equal_thread (threads j) o ≡ Some v))
    old = fronted_old threads i n st at_none

    up : (j : ℕ) (o : ThreadName) (su : Stack) {m : Mode} → ((j ≡ i) × (o ≡ n) × (◌≡◌ {A = ThreadState} (su, m) (st, Runs))) ⊎ ((n ≢ o) × (value_of equal_thread (threads j) o ≡ Some (su, m))) → value_of equal_thread ts o ≡ Some su
    up j o su (inl e) = rw (e.1, ap (λ (v : ThreadState). v.0) e.2) (k.flies l n st brings)
    up j o su {m} (inr h) = k.up j o su (m, h.1)

    number : (a b : ℕ) → (a ≡ b) ⊎ (a ≢ b)
    number a b = search rules

    down : (o : ThreadName) (su : Stack) → ((j : ℕ) × IsThreadAt threads j o su) ⊎ ((m : ℕ) × IsInSpawn p mail m o su) → ((j : ℕ) × IsThreadAt (fronted threads i n st) j o su) ⊎ ((m : ℕ) × IsInSpawn p less m o su)
    down o su (inl q) = inl (q.0, (q.1.0, fronted_new threads i n st at_none q.0 o (su, q.1.0) q.1.1))
    down o su (inr q) = go (number q.0 l)
      where
        go : (q.0 ≡ l) ⊎ (q.0 ≢ l) → ((j : ℕ) × IsThreadAt (fronted threads i n st) j o su) ⊎ ((m : ℕ) × IsInSpawn p less m o su)
        go (inr differ) = inr (q.0, (q.1.0, q.1.1, q.1.2, q.1.3, gone.kept q.0 q.1.0 _ q.1.4 differ, q.1.5))
        go (inl e) =
            let here : IsInSpawn p mail l o su = subst (λ (m : ℕ). IsInSpawn p mail m o su) e q.1 in
            let named : n ≡ o = k.sole l n o st su brings here in
            let both : Some st ≡ Some su = sym (k.flies l n st brings) ∙ subst (λ (x : ThreadName). value_of equal_thread ts x ≡ Some su) (sym named) (k.flies l o su here) in
            let stack : st ≡ su = cc in
            inl (i, (Runs, subst (λ (x : ThreadName). value_of equal_thread (fronted threads i n st i) x ≡ Some (su, Runs)) named (subst (λ (x : Stack). value_of equal_thread (fronted threads i n st i) n ≡ Some (x, Runs)) stack (fronted_here threads i n st at_none))))

    home : (j m : ℕ) (o : ThreadName) (v u : Stack) {a b : Mode} → ((j ≡ i) × (o ≡ n) × (◌≡◌ {A = ThreadState} (v, a) (st, Runs))) ⊎ ((n ≢ o) × (value_of equal_thread (threads j) o ≡ Some (v, a))) →
        ((m ≡ i) × (o ≡ n) × (◌≡◌ {A = ThreadState} (u, b) (st, Runs))) ⊎ ((n ≢ o) × (value_of equal_thread (threads m) o ≡ Some (u, b))) → j ≡ m
    home j m o v u (inl e) (inl f) = e.0 ∙ sym f.0
    home j m o v u (inl e) (inr f) = absurd (f.0 (sym e.1))
    home j m o v u (inr e) (inl f) = absurd (e.0 (sym f.1))
    home j m o v u {a} {b} (inr e) (inr f) = k.home j m o v u (a, e.1) (b, f.1)

    apart : (j m : ℕ) (o : ThreadName) (v u : Stack) {a : Mode} → ((j ≡ i) × (o ≡ n) × (◌≡◌ {A = ThreadState} (v, a) (st, Runs))) ⊎ ((n ≢ o) × (value_of equal_thread (threads j) o ≡ Some (v, a))) → IsInSpawn p less m o u → ⊥
    apart j m o v u (inl e) g = other m o u g (k.once m l n u st (subst (λ (x : ThreadName). IsInSpawn p mail m x u) e.1 (before m o u g)) brings)
    apart j m o v u {a} (inr h) g = k.apart j m o v u (a, h.1) (before m o u g)

-- a new thread leaves by a message of a new number
pub record IsSent (p : List Stmt) (mail more : Mail) (l : ℕ) (n : ThreadName) (st : Stack) : Type 0 where
  pub new : IsInSpawn p more l n st
  pub unused : (o : ThreadName) (su : Stack) → IsInSpawn p mail l o su → ⊥
  pub kept : (m : ℕ) (o : ThreadName) (su : Stack) → IsInSpawn p mail m o su → IsInSpawn p more m o su
  pub from : (m : ℕ) (o : ThreadName) (su : Stack) → IsInSpawn p more m o su → IsInSpawn p mail m o su ⊎ ((m ≡ l) × (o ≡ n) × (su ≡ st))

pub placed_leaves : (p : List Stmt) (threads : ℕ → Threads) (mail more : Mail) (ts : List (ThreadName × Stack)) (l : ℕ) (n : ThreadName) (st : Stack) → IsSent p mail more l n st → value_of equal_thread ts n ≡ None → ThreadsMatch p threads mail ts →
    ThreadsMatch p threads more ((n, st) ∷ ts)
placed_leaves p threads mail more ts l n st sent none k = record {
  up = λ j o su h. front_stays ts n o st su none (k.up j o su h);
  flies = λ m o su h. flies o su (sent.from m o su h);
  down = λ o su h. down o su (front_is ts n o st su h);
  home = k.home;
  apart = λ j m o v u h g. apart j o v u h (sent.from m o u g);
  once = λ a b o v u h g. once a b o v u (sent.from a o v h) (sent.from b o u g);
  sole = λ a o q v u h g. sole a o q v u (sent.from a o v h) (sent.from a q u g);
}
  where
    flies : (o : ThreadName) (su : Stack) {m : ℕ} → IsInSpawn p mail m o su ⊎ ((m ≡ l) × (o ≡ n) × (su ≡ st)) → value_of equal_thread ((n, st) ∷ ts) o ≡ Some su
    flies o su {m} (inl h) = front_stays ts n o st su none (k.flies m o su h)
    flies o su {m} (inr e) = rw (e.1, e.2) (front_own ts n st)

    down : (o : ThreadName) (su : Stack) → ((o ≡ n) × (su ≡ st)) ⊎ ((n ≢ o) × (value_of equal_thread ts o ≡ Some su)) → ((j : ℕ) × IsThreadAt threads j o su) ⊎ ((m : ℕ) × IsInSpawn p more m o su)
    down o su (inl e) = rw (e.0, e.1) (inr (l, sent.new))
    down o su (inr h) = go (k.down o su h.1)
      where
        go : ((j : ℕ) × IsThreadAt threads j o su) ⊎ ((m : ℕ) × IsInSpawn p mail m o su) → ((j : ℕ) × IsThreadAt threads j o su) ⊎ ((m : ℕ) × IsInSpawn p more m o su)
        go (inl q) = inl q
        go (inr q) = inr (q.0, sent.kept q.0 o su q.1)

    apart : (j : ℕ) (o : ThreadName) (v u : Stack) {m : ℕ} → IsThreadAt threads j o v → IsInSpawn p mail m o u ⊎ ((m ≡ l) × (o ≡ n) × (u ≡ st)) → ⊥
    apart j o v u {m} h (inl g) = k.apart j m o v u h g
    apart j o v u {m} h (inr e) =
        let gone : value_of equal_thread (threads j) o ≡ None = rw e.1 (none_at p threads mail ts n k none j) in
        let both : ◌≡◌ {A = Option ThreadState} None (Some (v, h.0)) = sym gone ∙ h.1 in cc

    once : (a b : ℕ) (o : ThreadName) (v u : Stack) → IsInSpawn p mail a o v ⊎ ((a ≡ l) × (o ≡ n) × (v ≡ st)) → IsInSpawn p mail b o u ⊎ ((b ≡ l) × (o ≡ n) × (u ≡ st)) → a ≡ b
    once a b o v u (inl h) (inl g) = k.once a b o v u h g
    once a b o v u (inr e) (inr f) = e.0 ∙ sym f.0
    once a b o v u (inl h) (inr f) = absurd (none_comes p threads mail ts n k none a v (subst (λ (x : ThreadName). IsInSpawn p mail a x v) f.1 h))
    once a b o v u (inr e) (inl g) = absurd (none_comes p threads mail ts n k none b u (subst (λ (x : ThreadName). IsInSpawn p mail b x u) e.1 g))

    sole : (a : ℕ) (o q : ThreadName) (v u : Stack) → IsInSpawn p mail a o v ⊎ ((a ≡ l) × (o ≡ n) × (v ≡ st)) → IsInSpawn p mail a q u ⊎ ((a ≡ l) × (q ≡ n) × (u ≡ st)) → o ≡ q
    sole a o q v u (inl h) (inl g) = k.sole a o q v u h g
    sole a o q v u (inr e) (inr f) = e.1 ∙ sym f.1
    sole a o q v u (inl h) (inr f) = absurd (sent.unused o v (subst (λ (x : ℕ). IsInSpawn p mail x o v) f.0 h))
    sole a o q v u (inr e) (inl g) = absurd (sent.unused q u (subst (λ (x : ℕ). IsInSpawn p mail x q u) e.0 g))

-- ---- a thread goes on

abbrev pub gone_on : (ℕ → Threads) → ℕ → ThreadName → Option Stack → ℕ → Threads
gone_on threads i n r = at_put threads i (with_optional_value equal_thread (threads i) n (runnable_state r))

runs_is : (r : Option Stack) (v : ThreadState) → runnable_state r ≡ Some v → (r ≡ Some v.0) × (v.1 ≡ Runs)
runs_is None v e = cc
runs_is (Some st) v e =
    let same : ◌≡◌ {A = ThreadState} (st, Runs) v = cc in
    (ap (λ (u : ThreadState). Some u.0) same, sym (ap (λ (u : ThreadState). u.1) same))

module _ (threads : ℕ → Threads) (i : ℕ) (n : ThreadName) (st : Stack) (r : Option Stack) (at : value_of equal_thread (threads i) n ≡ Some (st, Runs)) where
  pub goes_old : (j : ℕ) (o : ThreadName) (v : ThreadState) → value_of equal_thread (gone_on threads i n r j) o ≡ Some v → ((j ≡ i) × (o ≡ n) × (r ≡ Some v.0) × (v.1 ≡ Runs)) ⊎ ((j ≡ i → n ≢ o) × (value_of equal_thread (threads j) o ≡ Some v))
  goes_old = at_all threads i (with_optional_value equal_thread (threads i) n (runnable_state r)) (λ j (ts : Threads). (o : ThreadName) (v : ThreadState) → value_of equal_thread ts o ≡ Some v → ((j ≡ i) × (o ≡ n) × (r ≡ Some v.0) × (v.1 ≡ Runs)) ⊎ ((j ≡ i → n ≢ o) × (value_of equal_thread (threads j) o ≡ Some v)))
      (λ o v h. go o v (goes_cases equal_thread same_thread_decides (threads i) n o (runnable_state r) (st, Runs) v at h)) (λ j other o v h. inr ((λ e. absurd (other e)), h))
    where
      go : (o : ThreadName) (v : ThreadState) → ((o ≡ n) × (runnable_state r ≡ Some v)) ⊎ ((n ≢ o) × (value_of equal_thread (threads i) o ≡ Some v)) → ((i ≡ i) × (o ≡ n) × (r ≡ Some v.0) × (v.1 ≡ Runs)) ⊎ ((i ≡ i → n ≢ o) × (value_of equal_thread (threads i) o ≡ Some v))
      go o v (inl e) = let is = runs_is r v e.1 in inl (refl, e.0, is.0, is.1)
      go o v (inr h) = inr ((λ e. h.0), h.1)

  pub goes_new : (j : ℕ) (o : ThreadName) (v : ThreadState) → (j ≡ i → n ≢ o) → value_of equal_thread (threads j) o ≡ Some v → value_of equal_thread (gone_on threads i n r j) o ≡ Some v
  goes_new = at_all threads i (with_optional_value equal_thread (threads i) n (runnable_state r)) (λ j (ts : Threads). (o : ThreadName) (v : ThreadState) → (j ≡ i → n ≢ o) → value_of equal_thread (threads j) o ≡ Some v → value_of equal_thread ts o ≡ Some v)
      (λ o v other h. goes_there equal_thread same_thread_decides (threads i) n o (runnable_state r) (other refl) ∙ h) (λ j other o v differ h. h)

  pub goes_own : (su : Stack) → r ≡ Some su → value_of equal_thread (gone_on threads i n r i) n ≡ Some (su, Runs)
  goes_own su e = subst (λ (ts : Threads). value_of equal_thread ts n ≡ Some (su, Runs)) (sym (at_here threads i (with_optional_value equal_thread (threads i) n (runnable_state r))))
      (goes_here equal_thread same_thread_decides (threads i) n (runnable_state r) (st, Runs) at ∙ ap runnable_state e)

  waiting_other : (j : ℕ) (o : ThreadName) (su : Stack) (x : VarName) → IsWaiting threads j o su x → j ≡ i → n ≢ o
  waiting_other j o su x h e q =
      let here : value_of equal_thread (threads i) n ≡ Some (su, site.Waits x) = subst (λ (a : ThreadName). value_of equal_thread (threads i) a ≡ Some (su, site.Waits x)) (sym q) (subst (λ (a : ℕ). value_of equal_thread (threads a) o ≡ Some (su, site.Waits x)) e h) in
      let both : ◌≡◌ {A = Option ThreadState} (Some (st, Runs)) (Some (su, site.Waits x)) = sym at ∙ here in
      let pair : ◌≡◌ {A = ThreadState} (st, Runs) (su, site.Waits x) = cc in
      let modes : Runs ≡ site.Waits x = ap (λ (v : ThreadState). v.1) pair in cc

  pub waiting_goes : (p : List Stmt) (eqs : ℕ → Store) (records : ℕ → Records) (mail : Mail) (c : Store) → WaitersMatch p eqs records threads mail c → WaitersMatch p eqs records (gone_on threads i n r) mail c
  waiting_goes p eqs records mail c w = record {
    asks = λ k to x t o bundle h. asked x t o (w.asks k to x t o bundle h);
    waits = λ j o su x h. wait j o su x (goes_old j o (su, site.Waits x) h);
    needs = λ j o su x h. need j o su x (goes_old j o (su, site.Needs x) h);
    compares = λ j o su xs h. compare j o su xs (goes_old j o (su, site.WaitsAny xs) h);
    exchanges = λ j o su d h. exchange j o su d (goes_old j o (su, WaitsFor (Cell d)) h);
  }
    where
      asked : (x : VarName) (t : Term) (o : ThreadName) → IsAwaited p eqs threads c x t o → IsAwaited p eqs (gone_on threads i n r) c x t o
      asked x t o (inl h) = inl h
      asked x t o (inr (j, su, h, wants)) = inr (j, su, goes_new j o (su, site.Waits x) (waiting_other j o su x h) h, wants)

      wait : (j : ℕ) (o : ThreadName) (su : Stack) (x : VarName) → ((j ≡ i) × (o ≡ n) × (r ≡ Some su) × (site.Waits x ≡ Runs)) ⊎ ((j ≡ i → n ≢ o) × IsWaiting threads j o su x) →
          IsFree (eqs j) x × IsHere (records j) x × IsAsked mail c o x
      wait j o su x (inl e) = let no = e.3 in cc
      wait j o su x (inr h) = w.waits j o su x h.1

      need : (j : ℕ) (o : ThreadName) (su : Stack) (x : VarName) → ((j ≡ i) × (o ≡ n) × (r ≡ Some su) × (site.Needs x ≡ Runs)) ⊎ ((j ≡ i → n ≢ o) × IsNeeding threads j o su x) → (j ≢ 0) × NeedsFirst p (eqs j) su x
      need j o su x (inl e) = let no = e.3 in cc
      need j o su x (inr h) = w.needs j o su x h.1

      compare : (j : ℕ) (o : ThreadName) (su : Stack) (xs : List VarName) → ((j ≡ i) × (o ≡ n) × (r ≡ Some su) × (site.WaitsAny xs ≡ Runs)) ⊎ ((j ≡ i → n ≢ o) × IsWaitingAny threads j o su xs) →
          IsOpenOn p (eqs j) su xs × ((x : VarName) → Contains xs x → IsFree (eqs j) x × IsHere (records j) x)
      compare j o su xs (inl e) = let no = e.3 in cc
      compare j o su xs (inr h) = w.compares j o su xs h.1

      exchange : (j : ℕ) (o : ThreadName) (su : Stack) (d : CellName) → ((j ≡ i) × (o ≡ n) × (r ≡ Some su) × (WaitsFor (Cell d) ≡ Runs)) ⊎ ((j ≡ i → n ≢ o) × (value_of equal_thread (threads j) o ≡ Some (su, WaitsFor (Cell d)))) → IsExchange p (eqs j) su d
      exchange j o su d (inl e) = let no = e.3 in cc
      exchange j o su d (inr h) = w.exchanges j o su d h.1

  pub homes_goes : (here : ℕ → Name → Type 0) (eqs : ℕ → Store) → ((su : Stack) → r ≡ Some su → EachOfStack (here i) su) → AreHome here eqs threads → AreHome here eqs (gone_on threads i n r)
  homes_goes here eqs is h j = record { equations = (h j).equations; stacks = λ o v q. go o v (goes_old j o v q) }
    where
      go : (o : ThreadName) (v : ThreadState) → ((j ≡ i) × (o ≡ n) × (r ≡ Some v.0) × (v.1 ≡ Runs)) ⊎ ((j ≡ i → n ≢ o) × (value_of equal_thread (threads j) o ≡ Some v)) → EachOfStack (here j) v.0
      go o v (inl e) = subst (λ (k : ℕ). EachOfStack (here k) v.0) (sym e.0) (is v.0 e.2)
      go o v (inr q) = (h j).stacks o v q.1

  pub placed_goes : (p : List Stmt) (mail : Mail) (ts : List (ThreadName × Stack)) → ThreadsMatch p threads mail ts → ThreadsMatch p (gone_on threads i n r) mail (with_optional_value equal_thread ts n r)
  placed_goes p mail ts k = record {
    up = λ j o su h. up j o su h.0 (goes_old j o (su, h.0) h.1);
    flies = λ l o su h. goes_there equal_thread same_thread_decides ts n o r (apart_name l o su h) ∙ k.flies l o su h;
    down = λ o su h. down o su (goes_cases equal_thread same_thread_decides ts n o r st su central h);
    home = λ j m o v u h g. home j m o v u h.0 g.0 (goes_old j o (v, h.0) h.1) (goes_old m o (u, g.0) g.1);
    apart = λ j l o v u h g. apart j l o v u h.0 (goes_old j o (v, h.0) h.1) g;
    once = k.once;
    sole = k.sole;
  }
    where
      central : value_of equal_thread ts n ≡ Some st
      central = k.up i n st (Runs, at)

      apart_name : (l : ℕ) (o : ThreadName) (su : Stack) → IsInSpawn p mail l o su → n ≢ o
      apart_name l o su h e = k.apart i l n st su (Runs, at) (subst (λ (x : ThreadName). IsInSpawn p mail l x su) (sym e) h)

      -- another site's thread has another name
      far : (j : ℕ) (o : ThreadName) (su : Stack) (m : Mode) → (j ≡ i → n ≢ o) → value_of equal_thread (threads j) o ≡ Some (su, m) → n ≢ o
      far j o su m other h e = other (k.home j i n su st (m, subst (λ (x : ThreadName). value_of equal_thread (threads j) x ≡ Some (su, m)) (sym e) h) (Runs, at)) e

      up : (j : ℕ) (o : ThreadName) (su : Stack) (m : Mode) → ((j ≡ i) × (o ≡ n) × (r ≡ Some su) × (m ≡ Runs)) ⊎ ((j ≡ i → n ≢ o) × (value_of equal_thread (threads j) o ≡ Some (su, m))) → value_of equal_thread (with_optional_value equal_thread ts n r) o ≡ Some su
      up j o su m (inl e) = rw e.1 (goes_here equal_thread same_thread_decides ts n r st central ∙ e.2)
      up j o su m (inr h) = goes_there equal_thread same_thread_decides ts n o r (far j o su m h.0 h.1) ∙ k.up j o su (m, h.1)

      down : (o : ThreadName) (su : Stack) → ((o ≡ n) × (r ≡ Some su)) ⊎ ((n ≢ o) × (value_of equal_thread ts o ≡ Some su)) → ((j : ℕ) × IsThreadAt (gone_on threads i n r) j o su) ⊎ ((l : ℕ) × IsInSpawn p mail l o su)
      down o su (inl e) = rw e.0 (inl (i, (Runs, goes_own su e.1)))
      down o su (inr h) = go (k.down o su h.1)
        where
          go : ((j : ℕ) × IsThreadAt threads j o su) ⊎ ((l : ℕ) × IsInSpawn p mail l o su) → ((j : ℕ) × IsThreadAt (gone_on threads i n r) j o su) ⊎ ((l : ℕ) × IsInSpawn p mail l o su)
          go (inl q) = inl (q.0, (q.1.0, goes_new q.0 o (su, q.1.0) (λ e. h.0) q.1.1))
          go (inr q) = inr q

      home : (j m : ℕ) (o : ThreadName) (v u : Stack) (a b : Mode) → ((j ≡ i) × (o ≡ n) × (r ≡ Some v) × (a ≡ Runs)) ⊎ ((j ≡ i → n ≢ o) × (value_of equal_thread (threads j) o ≡ Some (v, a))) →
          ((m ≡ i) × (o ≡ n) × (r ≡ Some u) × (b ≡ Runs)) ⊎ ((m ≡ i → n ≢ o) × (value_of equal_thread (threads m) o ≡ Some (u, b))) → j ≡ m
      home j m o v u a b (inl e) (inl f) = e.0 ∙ sym f.0
      home j m o v u a b (inl e) (inr f) = absurd (far m o u b f.0 f.1 (sym e.1))
      home j m o v u a b (inr e) (inl f) = absurd (far j o v a e.0 e.1 (sym f.1))
      home j m o v u a b (inr e) (inr f) = k.home j m o v u (a, e.1) (b, f.1)

      apart : (j l : ℕ) (o : ThreadName) (v u : Stack) (a : Mode) → ((j ≡ i) × (o ≡ n) × (r ≡ Some v) × (a ≡ Runs)) ⊎ ((j ≡ i → n ≢ o) × (value_of equal_thread (threads j) o ≡ Some (v, a))) → IsInSpawn p mail l o u → ⊥
      apart j l o v u a (inl e) g = apart_name l o u g (sym e.1)
      apart j l o v u a (inr h) g = k.apart j l o v u (a, h.1) g
