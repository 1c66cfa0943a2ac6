-- A thread that waited for a cell exchanges, as a step of the centralised machine.
use Rattle.std.proofs.Common.{◌≡◌, ◌∙◌, sym, ap, refl, subst, ℕ, List, [], ◌∷◌, ◌⊎◌, inl, inr, Bool, true, false, cond, Some}
use Rattle.std.specs.Prelude.{Option, Contains, ◌≢◌}
use Rattle.tree_node.specs.declared.names.VarName.{VarName}
use Rattle.tree_node.specs.declared.names.CellName.{CellName}
use Rattle.tree_node.specs.declared.names.ThreadName.{ThreadName}
use Rattle.tree_node.specs.declared.names.Name.{Name}
use Rattle.tree_node.specs.declared.names.Name.TheVariants as name
use Rattle.tree_node.specs.declared.node.Term.{Term}
use Rattle.tree_node.specs.Assoc.{value_of, with_value, with_optional_value}
use Rattle.tree_node.specs.Goal.{equal_cell}
use Rattle.tree_node.specs.Names.{EachOfStack}
use Rattle.tree_node.specs.State.{Stack, State, equal_thread}
use Rattle.tree_node.specs.Store.{Store, IsFree, IsSound}
use Rattle.kernel_syntax.specs.declared.stmt.Stmt.{Stmt}
use Rattle.oz_model.proofs.EffectNames.{step_names}
use Rattle.bind_protocol.specs.Records.{Records}
use Rattle.site_model.specs.Site.{ThreadState, Threads, Counters}
use Rattle.thread_roster.specs.declared.mode.Awaited.TheVariants.{Cell}
use Rattle.thread_roster.specs.declared.mode.Mode.{Mode}
use Rattle.thread_roster.specs.declared.mode.Mode.TheVariants.{WaitsFor}
use Rattle.thread_roster.specs.declared.mode.Mode.TheVariants as site
use Rattle.world_model.specs.World.{Mail, at_put}
use Rattle.world_model.specs.Names.{IsHere, IsHome, IsMade, IsCentreMade, here_at}
use Rattle.world_model.specs.Matches.{PartsMatch, IsThreadAt, IsWaiting, IsNeeding, IsWaitingAny, IsAwaited, IsOpenOn, NeedsFirst, IsAsked, IsExchange}
use Rattle.world_model.proofs.PutLemmas.{at_all, at_here, at_twice}
use Rattle.world_variables.proofs.LearnLemmas.{placed_alike}
use Rattle.world_model.proofs.KeyLemmas.{with_here, with_there, goes_cases}
use Rattle.world_variables.proofs.StepLemmas.{goes_parts}
use Rattle.world_cells.proofs.ExchangeStepLemmas.{Exchanges, exchange_steps, exchange_home, stack_left, plain_pick}
use Rattle.tree_node.proofs.NameLemmas.{same_thread_decides}
use Rattle.thread_roster.proofs.NameLemmas.{name_cases as threads_decide}

module _ (p : List Stmt) (here : ℕ → Name → Type 0) (eqs : ℕ → Store) (records : ℕ → Records) (threads : ℕ → Threads) (made : ℕ → Counters) (mail : Mail) (s : State) (parts : PartsMatch p here eqs records threads made mail s) where
  -- thread n of site i, which waited for a cell, can go on
  module _ (i : ℕ) (n : ThreadName) (st : Stack) (c : CellName) (at : value_of equal_thread (threads i) n ≡ Some (st, WaitsFor (Cell c))) where
    abbrev resumed : Threads
    resumed = with_value equal_thread (threads i) n (st, site.Runs)

    resumed_old : (o : ThreadName) (v : ThreadState) → value_of equal_thread resumed o ≡ Some v → ((o ≡ n) × (v ≡ (st, site.Runs))) ⊎ ((n ≢ o) × (value_of equal_thread (threads i) o ≡ Some v))
    resumed_old o v h = go (goes_cases equal_thread same_thread_decides (threads i) n o (Some (st, site.Runs)) (st, WaitsFor (Cell c)) v at h)
      where
        go : ((o ≡ n) × (◌≡◌ {A = Option ThreadState} (Some (st, site.Runs)) (Some v))) ⊎ ((n ≢ o) × (value_of equal_thread (threads i) o ≡ Some v)) → ((o ≡ n) × (v ≡ (st, site.Runs))) ⊎ ((n ≢ o) × (value_of equal_thread (threads i) o ≡ Some v))
        go (inl e) = let is : ◌≡◌ {A = ThreadState} v (st, site.Runs) = cc in inl (e.0, is)
        go (inr h) = inr h

    resumed_new : (o : ThreadName) (su : Stack) (l : Mode) → value_of equal_thread (threads i) o ≡ Some (su, l) → (q : Mode) × (value_of equal_thread resumed o ≡ Some (su, q))
    resumed_new o su l h = go (threads_decide n o)
      where
        go : (n ≡ o) ⊎ (n ≢ o) → (q : Mode) × (value_of equal_thread resumed o ≡ Some (su, q))
        go (inl e) =
            let both : ◌≡◌ {A = Option ThreadState} (Some (st, WaitsFor (Cell c))) (Some (su, l)) = sym at ∙ subst (λ (a : ThreadName). value_of equal_thread (threads i) a ≡ Some (su, l)) (sym e) h in
            let pair : ◌≡◌ {A = ThreadState} (st, WaitsFor (Cell c)) (su, l) = cc in
            let stack : st ≡ su = ap (λ (v : ThreadState). v.0) pair in
            (site.Runs, subst (λ (a : ThreadName). value_of equal_thread resumed a ≡ Some (su, site.Runs)) e (subst (λ (u : Stack). value_of equal_thread resumed n ≡ Some (u, site.Runs)) stack (with_here equal_thread same_thread_decides (threads i) n (st, site.Runs) (st, WaitsFor (Cell c)) at)))
        go (inr other) = (l, with_there equal_thread same_thread_decides (threads i) n o (st, site.Runs) other ∙ h)

    waiting_stays : (j : ℕ) (o : ThreadName) (su : Stack) (x : VarName) → IsWaiting threads j o su x → IsWaiting (at_put threads i resumed) j o su x
    waiting_stays j o su x = at_all threads i resumed (λ j (ts : Threads). IsWaiting threads j o su x → value_of equal_thread ts o ≡ Some (su, site.Waits x)) (λ h. go h (threads_decide n o)) (λ j other h. h) j
      where
        go : IsWaiting threads i o su x → (n ≡ o) ⊎ (n ≢ o) → value_of equal_thread resumed o ≡ Some (su, site.Waits x)
        go h (inl e) =
            let both : ◌≡◌ {A = Option ThreadState} (Some (st, WaitsFor (Cell c))) (Some (su, site.Waits x)) = sym at ∙ subst (λ (a : ThreadName). value_of equal_thread (threads i) a ≡ Some (su, site.Waits x)) (sym e) h in
            let pair : ◌≡◌ {A = ThreadState} (st, WaitsFor (Cell c)) (su, site.Waits x) = cc in
            let modes : WaitsFor (Cell c) ≡ site.Waits x = ap (λ (v : ThreadState). v.1) pair in cc
        go h (inr other) = with_there equal_thread same_thread_decides (threads i) n o (st, site.Runs) other ∙ h

    pub resume_parts : PartsMatch p here eqs records (at_put threads i resumed) made mail s
    resume_parts = record {
      knowledge = parts.knowledge;
      kept = parts.kept;
      placed = placed_alike _ _ _ _ (value_of equal_thread s.threads)
          (at_all threads i resumed (λ j (ts : Threads). (o : ThreadName) (su : Stack) → IsThreadAt threads j o su → (q : Mode) × (value_of equal_thread ts o ≡ Some (su, q))) (λ o su h. resumed_new o su h.0 h.1) (λ j other o su h. h))
          (at_all threads i resumed (λ j (ts : Threads). (o : ThreadName) (su : Stack) → (q : Mode) × (value_of equal_thread ts o ≡ Some (su, q)) → IsThreadAt threads j o su) (λ o su h. back o su h.0 (resumed_old o (su, h.0) h.1)) (λ j other o su h. h))
          (λ k o su h. h) (λ k o su h. h) parts.placed;
      told = parts.told;
      addressed = parts.addressed;
      waiting = record {
        asks = λ k to x t o bundle h. asked x t o (parts.waiting.asks k to x t o bundle h);
        waits = at_all threads i resumed (λ j (ts : Threads). (o : ThreadName) (su : Stack) (x : VarName) → value_of equal_thread ts o ≡ Some (su, site.Waits x) → IsFree (eqs j) x × IsHere (records j) x × IsAsked mail s.equations o x)
            (λ o su x h. wait o su x (resumed_old o (su, site.Waits x) h)) (λ j other o su x h. parts.waiting.waits j o su x h);
        needs = at_all threads i resumed (λ j (ts : Threads). (o : ThreadName) (su : Stack) (x : VarName) → value_of equal_thread ts o ≡ Some (su, site.Needs x) → (j ≢ 0) × NeedsFirst p (eqs j) su x)
            (λ o su x h. need o su x (resumed_old o (su, site.Needs x) h)) (λ j other o su x h. parts.waiting.needs j o su x h);
        compares = at_all threads i resumed (λ j (ts : Threads). (o : ThreadName) (su : Stack) (xs : List VarName) → value_of equal_thread ts o ≡ Some (su, site.WaitsAny xs) → IsOpenOn p (eqs j) su xs × ((x : VarName) → Contains xs x → IsFree (eqs j) x × IsHere (records j) x))
            (λ o su xs h. compare o su xs (resumed_old o (su, site.WaitsAny xs) h)) (λ j other o su xs h. parts.waiting.compares j o su xs h);
        exchanges = at_all threads i resumed (λ j (ts : Threads). (o : ThreadName) (su : Stack) (d : CellName) → value_of equal_thread ts o ≡ Some (su, WaitsFor (Cell d)) → IsExchange p (eqs j) su d)
            (λ o su d h. exchange o su d (resumed_old o (su, WaitsFor (Cell d)) h)) (λ j other o su d h. parts.waiting.exchanges j o su d h);
      };
      homes = at_all threads i resumed (λ j (ts : Threads). IsHome (here j) (eqs j) ts) (record { equations = (parts.homes i).equations; stacks = λ o v h. home o v (resumed_old o v h) }) (λ j other. parts.homes j);
      centred = parts.centred;
      makers = parts.makers;
      said = parts.said;
    }
      where
        back : (o : ThreadName) (su : Stack) (q : Mode) → ((o ≡ n) × (◌≡◌ {A = ThreadState} (su, q) (st, site.Runs))) ⊎ ((n ≢ o) × (value_of equal_thread (threads i) o ≡ Some (su, q))) → IsThreadAt threads i o su
        back o su q (inl e) = (WaitsFor (Cell c), rw (e.0, ap (λ (v : ThreadState). v.0) e.1) at)
        back o su q (inr h) = (q, h.1)

        asked : (x : VarName) (t : Term) (o : ThreadName) → IsAwaited p eqs threads s.equations x t o → IsAwaited p eqs (at_put threads i resumed) s.equations x t o
        asked x t o (inl h) = inl h
        asked x t o (inr (j, su, w, wants)) = inr (j, su, waiting_stays j o su x w, wants)

        wait : (o : ThreadName) (su : Stack) (x : VarName) → ((o ≡ n) × (◌≡◌ {A = ThreadState} (su, site.Waits x) (st, site.Runs))) ⊎ ((n ≢ o) × IsWaiting threads i o su x) → IsFree (eqs i) x × IsHere (records i) x × IsAsked mail s.equations o x
        wait o su x (inr h) = parts.waiting.waits i o su x h.1
        wait o su x (inl e) = let modes : site.Waits x ≡ site.Runs = ap (λ (v : ThreadState). v.1) e.1 in absurd (cc)

        need : (o : ThreadName) (su : Stack) (x : VarName) → ((o ≡ n) × (◌≡◌ {A = ThreadState} (su, site.Needs x) (st, site.Runs))) ⊎ ((n ≢ o) × IsNeeding threads i o su x) → (i ≢ 0) × NeedsFirst p (eqs i) su x
        need o su x (inr h) = parts.waiting.needs i o su x h.1
        need o su x (inl e) = let modes : site.Needs x ≡ site.Runs = ap (λ (v : ThreadState). v.1) e.1 in absurd (cc)

        compare : (o : ThreadName) (su : Stack) (xs : List VarName) → ((o ≡ n) × (◌≡◌ {A = ThreadState} (su, site.WaitsAny xs) (st, site.Runs))) ⊎ ((n ≢ o) × IsWaitingAny threads i o su xs) → IsOpenOn p (eqs i) su xs × ((x : VarName) → Contains xs x → IsFree (eqs i) x × IsHere (records i) x)
        compare o su xs (inr h) = parts.waiting.compares i o su xs h.1
        compare o su xs (inl e) = let modes : site.WaitsAny xs ≡ site.Runs = ap (λ (v : ThreadState). v.1) e.1 in absurd (cc)

        exchange : (o : ThreadName) (su : Stack) (d : CellName) → ((o ≡ n) × (◌≡◌ {A = ThreadState} (su, WaitsFor (Cell d)) (st, site.Runs))) ⊎ ((n ≢ o) × (value_of equal_thread (threads i) o ≡ Some (su, WaitsFor (Cell d)))) → IsExchange p (eqs i) su d
        exchange o su d (inr h) = parts.waiting.exchanges i o su d h.1
        exchange o su d (inl e) = let modes : WaitsFor (Cell d) ≡ site.Runs = ap (λ (v : ThreadState). v.1) e.1 in absurd (cc)

        home : (o : ThreadName) (v : ThreadState) → ((o ≡ n) × (v ≡ (st, site.Runs))) ⊎ ((n ≢ o) × (value_of equal_thread (threads i) o ≡ Some v)) → EachOfStack (here i) v.0
        home o v (inl e) = subst (λ (u : ThreadState). EachOfStack (here i) u.0) (sym e.1) ((parts.homes i).stacks n (st, WaitsFor (Cell c)) at)
        home o v (inr h) = (parts.homes i).stacks o v h.1

with_twice : (ts : Threads) (n : ThreadName) (a b : ThreadState) → with_value equal_thread (with_value equal_thread ts n a) n b ≡ with_value equal_thread ts n b
with_twice [] n a b = refl
with_twice ((m, u) ∷ ts) n a b = go (equal_thread m n) refl (with_twice ts n a b)
  where
    self : equal_thread n n ≡ true
    self = (same_thread_decides n n).1 refl

    go : (x : Bool) → equal_thread m n ≡ x → with_value equal_thread (with_value equal_thread ts n a) n b ≡ with_value equal_thread ts n b →
        with_value equal_thread (cond x ((n, a) ∷ ts) ((m, u) ∷ with_value equal_thread ts n a)) n b ≡ cond x ((n, b) ∷ ts) ((m, u) ∷ with_value equal_thread ts n b)
    go true q ih = rw self refl
    go false q ih = rw q (ap (λ (l : Threads). (m, u) ∷ l) ih)

-- it exchanges: the machine steps, and all that the parts say holds again
module _ (p : List Stmt) (eqs : ℕ → Store) (records : ℕ → Records) (threads : ℕ → Threads) (made : ℕ → Counters) (mail : Mail) (z : State) (parts : PartsMatch p (here_at records) eqs records threads made mail z)
    (i : ℕ) (n : ThreadName) (st : Stack) (c : CellName) (v : VarName) (sound : IsSound z.equations) (at : value_of equal_thread (threads i) n ≡ Some (st, WaitsFor (Cell c))) (value : value_of equal_cell z.cells c ≡ Some v) (home : IsHere (records i) v) (real : i ≢ 0) where
  abbrev new_stack : Stack
  new_stack = stack_left p (eqs i) st (parts.waiting.exchanges i n st c at).1 v

  pub serve_step : (t : State) × Exchanges p z n c (parts.waiting.exchanges i n st c at).0 new_stack t
  serve_step = exchange_steps p (eqs i) z n st c v (parts.waiting.exchanges i n st c at) sound (parts.knowledge.known i) (parts.placed.up i n st (WaitsFor (Cell c), at)) value

  names : EachOfStack (here_at records i) new_stack × here_at records i (name.Var (parts.waiting.exchanges i n st c at).0)
  names = exchange_home p (here_at records i) (inl (inl refl)) (inl tt) (eqs i) st c v (parts.waiting.exchanges i n st c at) (parts.homes i).equations ((parts.homes i).stacks n (st, WaitsFor (Cell c)) at) (inl home)

  pub new_home : IsHere (records i) (parts.waiting.exchanges i n st c at).0
  new_home = at_site names.1
    where
      at_site : here_at records i (name.Var (parts.waiting.exchanges i n st c at).0) → IsHere (records i) (parts.waiting.exchanges i n st c at).0
      at_site (inl h) = h
      at_site (inr zero) = absurd (real zero)

  pub serve_parts : (t : State) → Exchanges p z n c (parts.waiting.exchanges i n st c at).0 new_stack t → PartsMatch p (here_at records) eqs records (at_put threads i (with_value equal_thread (threads i) n (new_stack, site.Runs))) made mail t
  serve_parts t e = subst (λ (f : ℕ → Threads). PartsMatch p (here_at records) eqs records f made mail t) (at_twice threads i ready _ ∙ ap (λ (ts : Threads). at_put threads i ts) twice) gone
    where
      ready : Threads
      ready = with_value equal_thread (threads i) n (st, site.Runs)

      resumed_now : PartsMatch p (here_at records) eqs records (at_put threads i (with_value equal_thread (threads i) n (st, site.Runs))) made mail z
      resumed_now = resume_parts p (here_at records) eqs records threads made mail z parts i n st c at

      at_ready : value_of equal_thread (at_put threads i (with_value equal_thread (threads i) n (st, site.Runs)) i) n ≡ Some (st, site.Runs)
      at_ready = subst (λ (ts : Threads). value_of equal_thread ts n ≡ Some (st, site.Runs)) (sym (at_here threads i (with_value equal_thread (threads i) n (st, site.Runs))))
          (with_here equal_thread same_thread_decides (threads i) n (st, site.Runs) (st, WaitsFor (Cell c)) at)

      centred : IsCentreMade made t
      centred = subst (λ (x : State). IsCentreMade made x) (sym e.step.1) (record {
        all = step_names (IsMade made) (inl refl) p z (plain_pick n) parts.centred.all tt e.step.0;
        nobody = λ x h. subst (λ (q : Store). IsFree q x) (sym (ap (λ (y : State). y.equations) (sym e.step.1) ∙ e.equations)) (parts.centred.nobody x h);
      })

      gone : PartsMatch p (here_at records) eqs records (at_put (at_put threads i (with_value equal_thread (threads i) n (st, site.Runs))) i (with_optional_value equal_thread (at_put threads i (with_value equal_thread (threads i) n (st, site.Runs)) i) n (Some (new_stack, site.Runs)))) made mail t
      gone = goes_parts p (here_at records) eqs records _ made mail z resumed_now i n st (Some new_stack) t at_ready (λ su q. subst (λ (x : Stack). EachOfStack (here_at records i) x) (same su q) names.0) e.equations e.threads centred
        where
          same : (su : Stack) → ◌≡◌ {A = Option Stack} (Some new_stack) (Some su) → new_stack ≡ su
          same su q = cc

      twice : with_optional_value equal_thread (at_put threads i (with_value equal_thread (threads i) n (st, site.Runs)) i) n (Some (new_stack, site.Runs)) ≡ with_value equal_thread (threads i) n (new_stack, site.Runs)
      twice = ap (λ (ts : Threads). with_value equal_thread ts n (new_stack, site.Runs)) (at_here threads i (with_value equal_thread (threads i) n (st, site.Runs)))
          ∙ with_twice (threads i) n (st, site.Runs) (new_stack, site.Runs)
