-- A thread that could go on waits, a thread lands, and a thread goes on with its births.
use Rattle.std.proofs.Common.{◌≡◌, ◌∙◌, sym, ap, subst, ℕ, List, [], ◌∷◌, ◌++◌, ◌⊎◌, inl, inr, Some}
use Rattle.std.specs.Prelude.{Option, Contains, ◌≢◌}
use Rattle.tree_node.specs.declared.names.VarName.{VarName}
use Rattle.tree_node.specs.declared.names.CellName.{CellName}
use Rattle.tree_node.specs.declared.names.ThreadName.{ThreadName}
use Rattle.tree_node.specs.declared.names.Name.{Name}
use Rattle.tree_node.specs.declared.node.Term.{Term}
use Rattle.tree_node.specs.Assoc.{value_of, with_value}
use Rattle.tree_node.specs.Each.{Each}
use Rattle.tree_node.specs.Names.{EachOfStack}
use Rattle.tree_node.specs.State.{Stack, State, equal_thread}
use Rattle.tree_node.specs.Store.{Store, Equation, IsFree}
use Rattle.kernel_syntax.specs.declared.stmt.Stmt.{Stmt}
use Rattle.site_message.specs.declared.message.Msg.{Msg}
use Rattle.site_message.specs.declared.message.Msg.TheVariants as msg
use Rattle.bind_protocol.specs.Records.{Records}
use Rattle.site_model.specs.Site.{ThreadState, Threads, Counters}
use Rattle.thread_roster.specs.declared.mode.Awaited.TheVariants.{Cell, Port}
use Rattle.thread_roster.specs.declared.mode.Mode.{Mode}
use Rattle.thread_roster.specs.declared.mode.Mode.TheVariants.{Runs, WaitsFor}
use Rattle.thread_roster.specs.declared.mode.Mode.TheVariants as site
use Rattle.site_message.specs.declared.message.Sent.{Sent}
use Rattle.site_model.specs.Fit as Fit
use Rattle.tree_node.proofs.ClassLemmas.{Contains-cons_cases, Contains-head}
use Rattle.world_model.specs.World.{Mail, IsOnItsWay, at_put, mail_from}
use Rattle.world_model.specs.Names.{IsMade, IsHere, IsHome, AreHome}
use Rattle.world_model.proofs.MailLemmas.{nothing, sent_to, Posts, posts}
use Rattle.world_variables.proofs.AlikeLemmas.{knowledge_posts, placed_posts, told_posts, addressed_posts, said_posts, asked_posts}
use Rattle.world_model.specs.Matches.{IsThreadAt, ThreadsMatch, HasAllowedBind, IsWaiting, IsNeeding, IsWaitingAny, IsOpenOn, NeedsFirst, IsAsked, IsExchange, IsAwaited, PartsMatch}
use Rattle.world_model.proofs.PutLemmas.{at_all, at_here}
use Rattle.world_variables.proofs.LearnLemmas.{placed_alike}
use Rattle.world_model.proofs.KeyLemmas.{with_here, with_there, goes_cases}
use Rattle.tree_node.proofs.NameLemmas.{same_thread_decides}
use Rattle.thread_roster.proofs.NameLemmas.{name_cases as threads_decide}

-- why a thread of site i may wait so
abbrev pub MayWait : List Stmt → ℕ → Store → Records → Mail → Store → ThreadName → Stack → Mode → Type 0
MayWait p i s b mail c n st Runs = Unit {0}
MayWait p i s b mail c n st (site.Waits x) = IsFree s x × IsHere b x × IsAsked mail c n x
MayWait p i s b mail c n st (site.Needs x) = (i ≢ 0) × NeedsFirst p s st x
MayWait p i s b mail c n st (site.WaitsAny xs) = IsOpenOn p s st xs × ((x : VarName) → Contains xs x → IsFree s x × IsHere b x)
MayWait p i s b mail c n st (WaitsFor (Cell d)) = IsExchange p s st d
MayWait p i s b mail c n st (WaitsFor (Port q)) = ⊥

module _ (p : List Stmt) (here : ℕ → Name → Type 0) (eqs : ℕ → Store) (records : ℕ → Records) (threads : ℕ → Threads) (made : ℕ → Counters) (mail : Mail) (s : State) (parts : PartsMatch p here eqs records threads made mail s) where
  -- thread n of site i, which could go on, stands so from now on
  module _ (i : ℕ) (n : ThreadName) (st : Stack) (m : Mode) (at : value_of equal_thread (threads i) n ≡ Some (st, Runs)) where
    abbrev waits : Threads
    waits = with_value equal_thread (threads i) n (st, m)

    mode_old : (o : ThreadName) (v : ThreadState) → value_of equal_thread waits o ≡ Some v → ((o ≡ n) × (v ≡ (st, m))) ⊎ ((n ≢ o) × (value_of equal_thread (threads i) o ≡ Some v))
    mode_old o v h = go (goes_cases equal_thread same_thread_decides (threads i) n o (Some (st, m)) (st, Runs) v at h)
      where
        go : ((o ≡ n) × (◌≡◌ {A = Option ThreadState} (Some (st, m)) (Some v))) ⊎ ((n ≢ o) × (value_of equal_thread (threads i) o ≡ Some v)) → ((o ≡ n) × (v ≡ (st, m))) ⊎ ((n ≢ o) × (value_of equal_thread (threads i) o ≡ Some v))
        go (inl e) = let is : ◌≡◌ {A = ThreadState} v (st, m) = cc in inl (e.0, is)
        go (inr h) = inr h

    mode_new : (o : ThreadName) (su : Stack) (l : Mode) → value_of equal_thread (threads i) o ≡ Some (su, l) → (q : Mode) × (value_of equal_thread waits o ≡ Some (su, q))
    mode_new o su l h = go (threads_decide n o)
      where
        go : (n ≡ o) ⊎ (n ≢ o) → (q : Mode) × (value_of equal_thread waits o ≡ Some (su, q))
        go (inl e) =
            let both : ◌≡◌ {A = Option ThreadState} (Some (st, Runs)) (Some (su, l)) = sym at ∙ subst (λ (a : ThreadName). value_of equal_thread (threads i) a ≡ Some (su, l)) (sym e) h in
            let pair : ◌≡◌ {A = ThreadState} (st, Runs) (su, l) = cc in
            let stack : st ≡ su = ap (λ (v : ThreadState). v.0) pair in
            (m, subst (λ (a : ThreadName). value_of equal_thread waits a ≡ Some (su, m)) e (subst (λ (u : Stack). value_of equal_thread waits n ≡ Some (u, m)) stack (with_here equal_thread same_thread_decides (threads i) n (st, m) (st, Runs) at)))
        go (inr other) = (l, with_there equal_thread same_thread_decides (threads i) n o (st, m) other ∙ h)

    waiting_stays : (j : ℕ) (o : ThreadName) (su : Stack) (x : VarName) → IsWaiting threads j o su x → IsWaiting (at_put threads i waits) j o su x
    waiting_stays j o su x = at_all threads i waits (λ j (ts : Threads). IsWaiting threads j o su x → value_of equal_thread ts o ≡ Some (su, site.Waits x)) (λ h. go h (threads_decide n o)) (λ j other h. h) j
      where
        go : IsWaiting threads i o su x → (n ≡ o) ⊎ (n ≢ o) → value_of equal_thread waits o ≡ Some (su, site.Waits x)
        go h (inl e) =
            let both : ◌≡◌ {A = Option ThreadState} (Some (st, Runs)) (Some (su, site.Waits x)) = sym at ∙ subst (λ (a : ThreadName). value_of equal_thread (threads i) a ≡ Some (su, site.Waits x)) (sym e) h in
            let pair : ◌≡◌ {A = ThreadState} (st, Runs) (su, site.Waits x) = cc in
            let modes : Runs ≡ site.Waits x = ap (λ (v : ThreadState). v.1) pair in cc
        go h (inr other) = with_there equal_thread same_thread_decides (threads i) n o (st, m) other ∙ h

    back : (o : ThreadName) (su : Stack) (q : Mode) → ((o ≡ n) × (◌≡◌ {A = ThreadState} (su, q) (st, m))) ⊎ ((n ≢ o) × (value_of equal_thread (threads i) o ≡ Some (su, q))) → IsThreadAt threads i o su
    back o su q (inl e) = (Runs, rw (e.0, ap (λ (v : ThreadState). v.0) e.1) at)
    back o su q (inr h) = (q, h.1)

    home : (o : ThreadName) (v : ThreadState) → ((o ≡ n) × (v ≡ (st, m))) ⊎ ((n ≢ o) × (value_of equal_thread (threads i) o ≡ Some v)) → EachOfStack (here i) v.0
    home o v (inl e) = subst (λ (u : ThreadState). EachOfStack (here i) u.0) (sym e.1) ((parts.homes i).stacks n (st, Runs) at)
    home o v (inr h) = (parts.homes i).stacks o v h.1

    mode_placed : ThreadsMatch p (at_put threads i waits) mail s.threads
    mode_placed = placed_alike _ _ _ _ (value_of equal_thread s.threads)
        (at_all threads i waits (λ j (ts : Threads). (o : ThreadName) (su : Stack) → IsThreadAt threads j o su → (q : Mode) × (value_of equal_thread ts o ≡ Some (su, q))) (λ o su h. mode_new o su h.0 h.1) (λ j other o su h. h))
        (at_all threads i waits (λ j (ts : Threads). (o : ThreadName) (su : Stack) → (q : Mode) × (value_of equal_thread ts o ≡ Some (su, q)) → IsThreadAt threads j o su) (λ o su h. back o su h.0 (mode_old o (su, h.0) h.1)) (λ j other o su h. h))
        (λ k o su h. h) (λ k o su h. h) parts.placed

    mode_homes : AreHome here eqs (at_put threads i waits)
    mode_homes = at_all threads i waits (λ j (ts : Threads). IsHome (here j) (eqs j) ts) (record { equations = (parts.homes i).equations; stacks = λ o v h. home o v (mode_old o v h) }) (λ j other. parts.homes j)

    pub mode_parts : MayWait p i (eqs i) (records i) mail s.equations n st m → PartsMatch p here eqs records (at_put threads i waits) made mail s
    mode_parts may = record {
      knowledge = parts.knowledge;
      kept = parts.kept;
      placed = mode_placed;
      told = parts.told;
      addressed = parts.addressed;
      waiting = record {
        asks = λ k to x t o bundle h. asked x t o (parts.waiting.asks k to x t o bundle h);
        waits = at_all threads i waits (λ j (ts : Threads). (o : ThreadName) (su : Stack) (x : VarName) → value_of equal_thread ts o ≡ Some (su, site.Waits x) → IsFree (eqs j) x × IsHere (records j) x × IsAsked mail s.equations o x)
            (λ o su x h. wait o su x (mode_old o (su, site.Waits x) h)) (λ j other o su x h. parts.waiting.waits j o su x h);
        needs = at_all threads i waits (λ j (ts : Threads). (o : ThreadName) (su : Stack) (x : VarName) → value_of equal_thread ts o ≡ Some (su, site.Needs x) → (j ≢ 0) × NeedsFirst p (eqs j) su x)
            (λ o su x h. need o su x (mode_old o (su, site.Needs x) h)) (λ j other o su x h. parts.waiting.needs j o su x h);
        compares = at_all threads i waits (λ j (ts : Threads). (o : ThreadName) (su : Stack) (xs : List VarName) → value_of equal_thread ts o ≡ Some (su, site.WaitsAny xs) → IsOpenOn p (eqs j) su xs × ((x : VarName) → Contains xs x → IsFree (eqs j) x × IsHere (records j) x))
            (λ o su xs h. compare o su xs (mode_old o (su, site.WaitsAny xs) h)) (λ j other o su xs h. parts.waiting.compares j o su xs h);
        exchanges = at_all threads i waits (λ j (ts : Threads). (o : ThreadName) (su : Stack) (d : CellName) → value_of equal_thread ts o ≡ Some (su, WaitsFor (Cell d)) → IsExchange p (eqs j) su d)
            (λ o su d h. exchange o su d (mode_old o (su, WaitsFor (Cell d)) h)) (λ j other o su d h. parts.waiting.exchanges j o su d h);
      };
      homes = mode_homes;
      centred = parts.centred;
      makers = parts.makers;
      said = parts.said;
    }
      where
        asked : (x : VarName) (t : Term) (o : ThreadName) → IsAwaited p eqs threads s.equations x t o → IsAwaited p eqs (at_put threads i waits) s.equations x t o
        asked x t o (inl h) = inl h
        asked x t o (inr (j, su, w, wants)) = inr (j, su, waiting_stays j o su x w, wants)

        wait : (o : ThreadName) (su : Stack) (x : VarName) → ((o ≡ n) × (◌≡◌ {A = ThreadState} (su, site.Waits x) (st, m))) ⊎ ((n ≢ o) × IsWaiting threads i o su x) → IsFree (eqs i) x × IsHere (records i) x × IsAsked mail s.equations o x
        wait o su x (inr h) = parts.waiting.waits i o su x h.1
        wait o su x (inl e) =
            let modes : site.Waits x ≡ m = ap (λ (v : ThreadState). v.1) e.1 in
            rw e.0 (subst (λ (q : Mode). MayWait p i (eqs i) (records i) mail s.equations n st q) (sym modes) may)

        need : (o : ThreadName) (su : Stack) (x : VarName) → ((o ≡ n) × (◌≡◌ {A = ThreadState} (su, site.Needs x) (st, m))) ⊎ ((n ≢ o) × IsNeeding threads i o su x) → (i ≢ 0) × NeedsFirst p (eqs i) su x
        need o su x (inr h) = parts.waiting.needs i o su x h.1
        need o su x (inl e) =
            let modes : site.Needs x ≡ m = ap (λ (v : ThreadState). v.1) e.1 in
            rw (ap (λ (v : ThreadState). v.0) e.1) (subst (λ (q : Mode). MayWait p i (eqs i) (records i) mail s.equations n st q) (sym modes) may)

        compare : (o : ThreadName) (su : Stack) (xs : List VarName) → ((o ≡ n) × (◌≡◌ {A = ThreadState} (su, site.WaitsAny xs) (st, m))) ⊎ ((n ≢ o) × IsWaitingAny threads i o su xs) → IsOpenOn p (eqs i) su xs × ((x : VarName) → Contains xs x → IsFree (eqs i) x × IsHere (records i) x)
        compare o su xs (inr h) = parts.waiting.compares i o su xs h.1
        compare o su xs (inl e) =
            let modes : site.WaitsAny xs ≡ m = ap (λ (v : ThreadState). v.1) e.1 in
            rw (ap (λ (v : ThreadState). v.0) e.1) (subst (λ (q : Mode). MayWait p i (eqs i) (records i) mail s.equations n st q) (sym modes) may)

        exchange : (o : ThreadName) (su : Stack) (d : CellName) → ((o ≡ n) × (◌≡◌ {A = ThreadState} (su, WaitsFor (Cell d)) (st, m))) ⊎ ((n ≢ o) × (value_of equal_thread (threads i) o ≡ Some (su, WaitsFor (Cell d)))) → IsExchange p (eqs i) su d
        exchange o su d (inr h) = parts.waiting.exchanges i o su d h.1
        exchange o su d (inl e) =
            let modes : WaitsFor (Cell d) ≡ m = ap (λ (v : ThreadState). v.1) e.1 in
            rw (ap (λ (v : ThreadState). v.0) e.1) (subst (λ (q : Mode). MayWait p i (eqs i) (records i) mail s.equations n st q) (sym modes) may)

    -- it asked for a bind, and waits for the answer
    pub ask_parts : (k : ℕ) (x : VarName) (t : Term) (bundle : List Equation) → m ≡ site.Waits x → IsFree (eqs i) x → IsHere (records i) x → IsHere (records x.site) x → HasAllowedBind p (eqs i) st x t → Each (Contains s.equations) bundle → Fit.EachOfMsg (IsMade made) (msg.BindReq x n t bundle) →
        PartsMatch p here eqs records (at_put threads i waits) made (mail ++ mail_from k (sent_to x.site (msg.BindReq x n t bundle) ∷ [])) s
    ask_parts k x t bundle mode free is owner wants carried said = record {
      knowledge = knowledge_posts mail more out sent eqs s.equations (λ a o h. rw (only a o h).1 carried) parts.knowledge;
      kept = parts.kept;
      placed = placed_posts mail more out sent p (at_put threads i waits) s.threads (λ a o code vars bs h. let e = (only a _ h).1 in cc) mode_placed;
      told = λ j y unbound far. told_posts mail more out sent records j y (parts.told j y unbound far);
      addressed = addressed_posts mail more out sent records (λ a o h. rw (only a o h).1 ((only a o h).0, owner, wants.4)) parts.addressed;
      waiting = record {
        asks = λ l a y u o bs h. asked a y u o bs (sent.from l a _ h);
        waits = at_all threads i waits (λ j (ts : Threads). (o : ThreadName) (su : Stack) (y : VarName) → value_of equal_thread ts o ≡ Some (su, site.Waits y) → IsFree (eqs j) y × IsHere (records j) y × IsAsked more s.equations o y)
            (λ o su y h. wait o su y (mode_old o (su, site.Waits y) h)) (λ j other o su y h. let r = parts.waiting.waits j o su y h in (r.0, r.1, asked_posts mail more out sent s.equations o y r.2));
        needs = at_all threads i waits (λ j (ts : Threads). (o : ThreadName) (su : Stack) (y : VarName) → value_of equal_thread ts o ≡ Some (su, site.Needs y) → (j ≢ 0) × NeedsFirst p (eqs j) su y)
            (λ o su y h. need o su y (mode_old o (su, site.Needs y) h)) (λ j other o su y h. parts.waiting.needs j o su y h);
        compares = at_all threads i waits (λ j (ts : Threads). (o : ThreadName) (su : Stack) (ys : List VarName) → value_of equal_thread ts o ≡ Some (su, site.WaitsAny ys) → IsOpenOn p (eqs j) su ys × ((y : VarName) → Contains ys y → IsFree (eqs j) y × IsHere (records j) y))
            (λ o su ys h. compare o su ys (mode_old o (su, site.WaitsAny ys) h)) (λ j other o su ys h. parts.waiting.compares j o su ys h);
        exchanges = at_all threads i waits (λ j (ts : Threads). (o : ThreadName) (su : Stack) (d : CellName) → value_of equal_thread ts o ≡ Some (su, WaitsFor (Cell d)) → IsExchange p (eqs j) su d)
            (λ o su d h. exchange o su d (mode_old o (su, WaitsFor (Cell d)) h)) (λ j other o su d h. parts.waiting.exchanges j o su d h);
      };
      homes = mode_homes;
      centred = parts.centred;
      makers = parts.makers;
      said = said_posts mail more out sent made (λ a o h. rw (only a o h).1 said) parts.said;
    }
      where
        request : Msg
        request = msg.BindReq x n t bundle

        out : List Sent
        out = sent_to x.site request ∷ []

        more : Mail
        more = mail ++ mail_from k out

        sent : Posts mail more out
        sent = posts mail k out

        only : (a : ℕ) (o : Msg) → Contains out (sent_to a o) → (a ≡ x.site) × (o ≡ msg.BindReq x n t bundle)
        only a o h = go (Contains-cons_cases _ _ [] h)
          where
            go : (sent_to x.site request ≡ sent_to a o) ⊎ Contains [] (sent_to a o) → (a ≡ x.site) × (o ≡ msg.BindReq x n t bundle)
            go (inl q) = (sym (ap (λ (r : Sent). r.to) q), sym (ap (λ (r : Sent). r.msg) q))
            go (inr q) = absurd (nothing _ q)

        here_now : IsWaiting (at_put threads i waits) i n st x
        here_now = subst (λ (ts : Threads). value_of equal_thread ts n ≡ Some (st, site.Waits x)) (sym (at_here threads i waits))
            (subst (λ (q : Mode). value_of equal_thread waits n ≡ Some (st, q)) mode (with_here equal_thread same_thread_decides (threads i) n (st, m) (st, Runs) at))

        asked : (a : ℕ) (y : VarName) (u : Term) (o : ThreadName) (bs : List Equation) {l : ℕ} → IsOnItsWay mail l a (msg.BindReq y o u bs) ⊎ Contains out (sent_to a (msg.BindReq y o u bs)) → IsAwaited p eqs (at_put threads i waits) s.equations y u o
        asked a y u o bs {l} (inl h) = go (parts.waiting.asks l a y u o bs h)
          where
            go : IsAwaited p eqs threads s.equations y u o → IsAwaited p eqs (at_put threads i waits) s.equations y u o
            go (inl b) = inl b
            go (inr (j, su, w, wanted)) = inr (j, su, waiting_stays j o su y w, wanted)
        asked a y u o bs {l} (inr h) =
            let e : msg.BindReq y o u bs ≡ msg.BindReq x n t bundle = (only a _ h).1 in
            let var : y ≡ x = cc in
            let thread : o ≡ n = cc in
            let term : u ≡ t = cc in
            rw (var, thread, term) (inr (i, st, here_now, wants))

        wait : (o : ThreadName) (su : Stack) (y : VarName) → ((o ≡ n) × (◌≡◌ {A = ThreadState} (su, site.Waits y) (st, m))) ⊎ ((n ≢ o) × IsWaiting threads i o su y) → IsFree (eqs i) y × IsHere (records i) y × IsAsked more s.equations o y
        wait o su y (inr h) = let r = parts.waiting.waits i o su y h.1 in (r.0, r.1, asked_posts mail more out sent s.equations o y r.2)
        wait o su y (inl e) =
            let modes : site.Waits y ≡ site.Waits x = ap (λ (v : ThreadState). v.1) e.1 ∙ mode in
            let var : y ≡ x = cc in
            let posted = sent.new x.site request (Contains-head _ []) in
            rw (e.0, var) (free, is, inl (posted.0, t, bundle, posted.1))

        need : (o : ThreadName) (su : Stack) (y : VarName) → ((o ≡ n) × (◌≡◌ {A = ThreadState} (su, site.Needs y) (st, m))) ⊎ ((n ≢ o) × IsNeeding threads i o su y) → (i ≢ 0) × NeedsFirst p (eqs i) su y
        need o su y (inr h) = parts.waiting.needs i o su y h.1
        need o su y (inl e) = let modes : site.Needs y ≡ site.Waits x = ap (λ (v : ThreadState). v.1) e.1 ∙ mode in cc

        compare : (o : ThreadName) (su : Stack) (ys : List VarName) → ((o ≡ n) × (◌≡◌ {A = ThreadState} (su, site.WaitsAny ys) (st, m))) ⊎ ((n ≢ o) × IsWaitingAny threads i o su ys) → IsOpenOn p (eqs i) su ys × ((y : VarName) → Contains ys y → IsFree (eqs i) y × IsHere (records i) y)
        compare o su ys (inr h) = parts.waiting.compares i o su ys h.1
        compare o su ys (inl e) = let modes : site.WaitsAny ys ≡ site.Waits x = ap (λ (v : ThreadState). v.1) e.1 ∙ mode in cc

        exchange : (o : ThreadName) (su : Stack) (d : CellName) → ((o ≡ n) × (◌≡◌ {A = ThreadState} (su, WaitsFor (Cell d)) (st, m))) ⊎ ((n ≢ o) × (value_of equal_thread (threads i) o ≡ Some (su, WaitsFor (Cell d)))) → IsExchange p (eqs i) su d
        exchange o su d (inr h) = parts.waiting.exchanges i o su d h.1
        exchange o su d (inl e) = let modes : WaitsFor (Cell d) ≡ site.Waits x = ap (λ (v : ThreadState). v.1) e.1 ∙ mode in cc
