-- A thread asks the owner of a port or the home of a stationary cell, and waits for the answer.
use Rattle.std.proofs.Common.{◌≡◌, ◌∙◌, sym, ap, refl, subst, ℕ, List, [], ◌∷◌, ◌++◌, ◌⊎◌, inl, inr, true, Some, None}
use Rattle.std.specs.Prelude.{Option, codes, ◌≢◌}
use Rattle.tree_node.specs.declared.names.VarName.{VarName}
use Rattle.tree_node.specs.declared.names.CellName.{CellName}
use Rattle.tree_node.specs.declared.names.PortName.{PortName}
use Rattle.tree_node.specs.declared.names.ThreadName.{ThreadName}
use Rattle.tree_node.specs.declared.names.Name.{Name}
use Rattle.tree_node.specs.declared.names.Name.TheVariants as name
use Rattle.tree_node.specs.declared.names.NameKind.{NameKind}
use Rattle.tree_node.specs.declared.item.Item.TheVariants.{Run, Goals, Mark, Report}
use Rattle.tree_node.specs.declared.node.Node.{Node}
use Rattle.tree_node.specs.declared.node.Term.{Term}
use Rattle.tree_node.specs.declared.pick.Pick.{Pick}
use Rattle.tree_node.specs.Assoc.{value_of, with_value, without_key}
use Rattle.tree_node.specs.Each.{AreDistinct}
use Rattle.tree_node.specs.Env.{Env}
use Rattle.tree_node.specs.Goal.{Case, Dropped, Binds, Opened as Parted, Failed, case_of}
use Rattle.tree_node.specs.Names.{EachOfStack}
use Rattle.tree_node.specs.Shown.{shown as text_of}
use Rattle.tree_node.specs.State.{Stack, State, equal_thread}
use Rattle.tree_node.specs.Store.{Store}
use Rattle.tree_node.proofs.NameLemmas.{same_thread_decides}
use Rattle.kernel_syntax.specs.declared.stmt.Stmt.{Stmt}
use Rattle.kernel_syntax.specs.Free.{stmt_at}
use Rattle.oz_model.specs.declared.outcome.Outcome.{Outcome}
use Rattle.oz_model.specs.declared.outcome.Outcome.TheVariants as outcome
use Rattle.oz_model.specs.declared.outcome.SystemException.{SystemException}
use Rattle.oz_model.specs.declared.outcome.SystemException.TheVariants.{FailureTell}
use Rattle.oz_model.specs.Outcome.{outcome_of, print_outcome}
use Rattle.oz_model.specs.Need.{Need, Takes, variable_kinds, stack_need, outcome_need, goal_need, pair_need, kinds_of}
use Rattle.oz_model.specs.Effect.{Exchanged, Sent as SentTo, Effect, outcome_effect, goal_effect, pair_effect, exception_effect, stack_effect, vars_among}
use Rattle.oz_model.specs.Run.{IsRun}
use Rattle.bind_protocol.specs.Records.{Records}
use Rattle.thread_roster.specs.declared.mode.Awaited.{Awaited}
use Rattle.thread_roster.specs.declared.mode.Mode.TheVariants as mode
use Rattle.thread_roster.proofs.NameLemmas.{name_cases as threads_decide}
use Rattle.site_model.specs.Site.{Site, Threads, ThreadState, Counters, thread_state}
use Rattle.site_model.specs.Transition.{Transition}
use Rattle.world_model.specs.Claims.{EndOf, ContentOf, Asks, Claim, IsClaim, claimant, FitsClaim, IsGrounded, IsAsking, AskingMatch}
use Rattle.world_model.specs.Keepers.{homes, early_at}
use Rattle.world_model.specs.Matches.{PartsMatch}
use Rattle.world_model.specs.Names.{IsHere, IsHereName, here_at}
use Rattle.world_model.specs.Shown.{is_asking, standing, shown, shown_world}
use Rattle.world_model.specs.World.{World, put, eqs, records, threads, counters, after_transition}
use Rattle.world_model.proofs.KeyLemmas.{with_here, with_there}
use Rattle.world_model.proofs.PutLemmas.{at_all, at_here, at_other, field_kept}
use Rattle.world_variables.specs.Sums.{names}
use Rattle.world_variables.proofs.PlaceLemmas.{fronted, gone_on}
use Rattle.world_variables.proofs.RegisterLemmas.{MaySend, parts_posts}
use Rattle.world_variables.proofs.SumLemmas.{with_names, none_named}
use Rattle.world_cells.proofs.FrameLemmas.{NoCells}
use Rattle.world_cells.proofs.QueueLemmas.{SameWaiters, goes_waiters, running_not}
use Rattle.world_cells.proofs.UnitLemmas.{stack_lone}
use Rattle.world_answers.specs.Joined.{Joined}
use Rattle.world_answers.proofs.ClaimLemmas.{front_far, front_is, goes_away}
use Rattle.world_answers.proofs.MoveLemmas.{moves_parts}
use Rattle.world_answers.proofs.PackLemmas.{ReachedAt, packed, shown_is}
use Rattle.world_answers.proofs.ShownLemmas.{standing_asks, standing_distinct, stands_to, shown_threads_real}
use Rattle.world_answers.proofs.StandLemmas.{EachOfStack-weaker}

-- ---- what a unit asks for

abbrev IsSendNeed : (List Name → Effect) → Need → List Name → Type 0
IsSendNeed f d fresh = (q : PortName) (value new : VarName) → (f fresh).port ≡ SentTo q value new → (d ≡ Takes (variable_kinds 1)) × ((v : VarName) × ((w : VarName) → (f (name.Var w ∷ [])).port ≡ SentTo q v w))

fails_send : (x : SystemException) (rest : Stack) (xs : List VarName) (q : PortName) (value new : VarName) → (exception_effect x rest xs).port ≡ SentTo q value new → ⊥
fails_send x rest [] q value new e = cc
fails_send x rest (a ∷ []) q value new e = cc
fails_send x rest (a ∷ b ∷ []) q value new e = cc
fails_send x rest (a ∷ b ∷ y ∷ zs) q value new e = cc

outcome_sends : (p : List Stmt) (env : Env) (rest : Stack) (fresh : List Name) (o : Outcome) → IsSendNeed (λ ns. outcome_effect p env rest ns o) (outcome_need o) fresh
outcome_sends p env rest fresh (outcome.Sends port v) q value new e = let same : port ≡ q = cc in (refl, (v, λ w. ap (λ (r : PortName). SentTo r v w) same))
outcome_sends p env rest fresh (outcome.Fails exception) q value new e = absurd (fails_send exception rest (vars_among fresh) q value new e)
outcome_sends p env rest fresh (outcome.MakesCell at content t) q value new e = cc
outcome_sends p env rest fresh (outcome.MakesPort stream t) q value new e = cc
outcome_sends p env rest fresh (outcome.Exchanges cell n t) q value new e = cc
outcome_sends p env rest fresh (outcome.Waits x) q value new e = cc
outcome_sends p env rest fresh (outcome.WaitsAny left right) q value new e = cc
outcome_sends p env rest fresh (outcome.Runs bodies) q value new e = cc
outcome_sends p env rest fresh (outcome.Tells x t) q value new e = cc
outcome_sends p env rest fresh (outcome.Declares first count body) q value new e = cc
outcome_sends p env rest fresh (outcome.MakesProc left code formals vars) q value new e = cc
outcome_sends p env rest fresh (outcome.Spawns at body vars) q value new e = cc
outcome_sends p env rest fresh (outcome.Tries body body_env handler first handler_env) q value new e = cc
outcome_sends p env rest fresh (outcome.Raises x) q value new e = cc
outcome_sends p env rest fresh (outcome.Prints line) q value new e = cc

pair_sends : (a b : Term) (pairs : List (Term × Term)) (met : List (Node × Node)) (rest : Stack) (fresh : List Name) (x : Case) → IsSendNeed (λ ns. pair_effect a b pairs met rest ns None x) (pair_need a b x) fresh
pair_sends a b pairs met rest fresh Dropped q value new e = cc
pair_sends a b pairs met rest fresh Binds q value new e = cc
pair_sends a b pairs met rest fresh (Parted m n fields) q value new e = cc
pair_sends a b pairs met rest fresh Failed q value new e = absurd (fails_send FailureTell rest (vars_among fresh) q value new e)

-- a send to a port asks for its end
pub sends_asks : (p : List Stmt) (s : Store) (fresh : List Name) (st : Stack) (q : PortName) (value new : VarName) → (stack_effect p s fresh None st).port ≡ SentTo q value new → Asks p s st (EndOf q)
sends_asks p s fresh [] q value new e = cc
sends_asks p s fresh (Run code env ∷ rest) q value new e = outcome_sends p env rest fresh (outcome_of p s code env (stmt_at p code)) q value new e
sends_asks p s fresh (Mark code at env ∷ rest) q value new e = cc
sends_asks p s fresh (Report x ∷ rest) q value new e = outcome_sends p [] rest fresh (print_outcome (codes "uncaught ") (text_of s x)) q value new e
sends_asks p s fresh (Goals b ∷ rest) q value new e = go b.pairs q value new e
  where
    go : (pairs : List (Term × Term)) → IsSendNeed (λ ns. goal_effect s b.met rest ns None pairs) (goal_need s b.met pairs) fresh
    go [] q value new e = cc
    go ((x, y) ∷ pairs) q value new e = pair_sends x y pairs b.met rest fresh (case_of s b.met x y) q value new e

-- an exchange asks for the content
pub exchange_asks : (p : List Stmt) (s : Store) (fresh : List Name) (kinds : List NameKind) (st : Stack) (c : CellName) (new told : VarName) → stack_need p s st ≡ Takes kinds → (stack_effect p s fresh None st).cell ≡ Exchanged c new told → Asks p s st (ContentOf c new)
exchange_asks p s fresh kinds st c new told need is =
    let l = stack_lone p s fresh st c new told is in
    (need ∙ ap Takes (sym (ap kinds_of need) ∙ l.0), told, ap (λ (x : Effect). x.cell) l.1 ∙ is)

-- ---- the thread is away

-- what the row of such a thread does besides
pub record IsAskingRow (s : Site) (n : ThreadName) (st : Stack) (a : Awaited) (d : Transition) : Type 0 where
  pub threads : d.site.threads ≡ with_value equal_thread s.threads n (st, mode.WaitsFor a)
  pub equations : d.site.equations ≡ s.equations
  pub records : d.site.records ≡ s.records
  pub counters : d.site.counters ≡ s.counters
  pub still : NoCells s d
  pub ports : d.site.ports ≡ s.ports
  pub ended : d.site.ended ≡ s.ended
  pub picks : d.picks ≡ []
  pub lines : d.lines ≡ []

module _ (p : List Stmt) (i : ℕ) (real : i ≢ 0) (w : World) (ks : List Pick) (j : Joined p w ks) (n : ThreadName) (st : Stack) (at : thread_state (w.sites i) n ≡ Some (st, mode.Runs)) where
  abbrev c : State
  c = j.reached.centre

  abbrev u : Threads
  u = (n, (st, mode.Runs)) ∷ j.transit

  pub shown_at : value_of equal_thread (threads (shown w.sites j.transit) i) n ≡ Some (st, mode.Runs)
  shown_at = ap (λ (ts : Threads). value_of equal_thread ts n) (shown_threads_real w.sites j.transit i real) ∙ stands_to (threads w.sites i) n (st, mode.Runs) at refl

  -- a thread that can go on at a site waits nowhere for an answer
  pub nobody_asks : (k : ℕ) (b : Awaited) (su : Stack) → IsAsking (threads w.sites) k n b su → ⊥
  nobody_asks k b su h =
      let r = j.answers.asking.stands k n b su h in
      real (sym (j.reached.parts.placed.home 0 i n r.0 st (mode.Runs, r.1) (mode.Runs, shown_at)))

  none_away : value_of equal_thread j.transit n ≡ None
  none_away = go (value_of equal_thread j.transit n) refl
    where
      go : (o : Option ThreadState) → value_of equal_thread j.transit n ≡ o → value_of equal_thread j.transit n ≡ None
      go None e = e
      go (Some v) e = let r = j.answers.asking.known n v e in absurd (nobody_asks r.1 r.2 r.3 r.4)

  -- the names of its stack are here
  named : EachOfStack (here_at (records w.sites) i) st
  named = (j.reached.parts.homes i).stacks n (st, mode.Runs) shown_at

  module _ (a : Awaited) (asks : is_asking (mode.WaitsFor a) ≡ true) (d : Transition) (row : IsAskingRow (w.sites i) n st a d)
      (may : MaySend p (eqs w.sites) (records w.sites) (threads (shown (put w.sites i d.site) u)) (counters w.sites) c.equations d.sent) where
    abbrev v : World
    v = after_transition w i d

    moved : ℕ → Threads
    moved = fronted (gone_on (threads (shown w.sites j.transit)) i n None) 0 n st

    gone : standing d.site.threads ≡ without_key equal_thread (standing (w.sites i).threads) n
    gone = ap standing row.threads ∙ standing_asks (w.sites i).threads n (st, mode.WaitsFor a) (st, mode.Runs) at refl asks

    same : ◌≡◌ {A = ℕ → Threads} (fronted (gone_on (threads (shown w.sites j.transit)) i n None) 0 n st) (threads (shown (put w.sites i d.site) u))
    same = shown_is w.sites u i d.site (fronted (gone_on (threads (shown w.sites j.transit)) i n None) 0 n st) real
        (at_here (gone_on (threads (shown w.sites j.transit)) i n None) 0 _
        ∙ ap (λ (ts : Threads). (n, (st, mode.Runs)) ∷ ts) (at_other (threads (shown w.sites j.transit)) i _ 0 (λ e. real (sym e))))
        (at_other (gone_on (threads (shown w.sites j.transit)) i n None) 0 _ i real
        ∙ at_here (threads (shown w.sites j.transit)) i _
        ∙ ap (λ (ts : Threads). without_key equal_thread ts n) (shown_threads_real w.sites j.transit i real) ∙ sym gone)
        (λ k far other. at_other (gone_on (threads (shown w.sites j.transit)) i n None) 0 _ k far ∙ at_other (threads (shown w.sites j.transit)) i _ k other ∙ shown_threads_real w.sites j.transit k far)

    parts_moved : PartsMatch p (here_at (records w.sites)) (eqs w.sites) (records w.sites) (threads (shown (put w.sites i d.site) u)) (counters w.sites) w.mail c
    parts_moved = subst (λ (g : ℕ → Threads). PartsMatch p (here_at (records w.sites)) (eqs w.sites) (records w.sites) g (counters w.sites) w.mail c) same
        (moves_parts p (here_at (records w.sites)) (eqs w.sites) (records w.sites) (threads (shown w.sites j.transit)) (counters w.sites) w.mail c j.reached.parts i 0 n st shown_at
        (EachOfStack-weaker (here_at (records w.sites) i) (here_at (records w.sites) 0) (λ y q. inr refl) st named))

    records_same : ◌≡◌ {A = ℕ → Records} (records v.sites) (records w.sites)
    records_same = field_kept (λ (s : Site). s.records) w.sites i d.site row.records

    parts_now : PartsMatch p (here_at (records v.sites)) (eqs v.sites) (records v.sites) (threads (shown v.sites u)) (counters v.sites) v.mail c
    parts_now =
        subst (λ (r : ℕ → Records). PartsMatch p (here_at r) (eqs v.sites) r (threads (shown v.sites u)) (counters v.sites) v.mail c) (sym records_same)
        (subst (λ (e : ℕ → Store). PartsMatch p (here_at (records w.sites)) e (records w.sites) (threads (shown v.sites u)) (counters v.sites) v.mail c) (sym (field_kept (λ (s : Site). s.equations) w.sites i d.site row.equations))
        (subst (λ (m : ℕ → Counters). PartsMatch p (here_at (records w.sites)) (eqs w.sites) (records w.sites) (threads (shown v.sites u)) m v.mail c) (sym (field_kept (λ (s : Site). s.counters) w.sites i d.site row.counters))
        (parts_posts p (here_at (records w.sites)) (eqs w.sites) (records w.sites) (threads (shown v.sites u)) (counters w.sites) w.mail c parts_moved w.sent d.sent may)))

    pub once_names : AreDistinct (names d.site.threads)
    once_names = subst (λ (xs : List ThreadName). AreDistinct xs) (sym (ap (λ (ts : Threads). names ts) row.threads ∙ with_names (w.sites i).threads n (st, mode.WaitsFor a))) (j.once i)

    -- the machine does nothing
    pub asks_reached : ReachedAt p (shown_world v u) (ks ++ d.picks) c
    asks_reached = packed p w ks j.transit j.reached i d u c real (record {
      run = subst (λ (ls : List Pick). IsRun p c ls c) (sym row.picks) refl;
      parts = parts_now;
      still = row.still;
      cells = refl;
      here = λ b. subst (λ (ts : Threads). SameWaiters (standing (w.sites i).threads) ts b) (sym gone)
          (goes_waiters (standing (w.sites i).threads) n None (st, mode.Runs) b (stands_to (w.sites i).threads n (st, mode.Runs) at refl) (λ su q. running_not st su b q) (λ su q. cc));
      away = λ b. record {
        old = λ o su h. old b o su (front_is j.transit n o (st, mode.Runs) (su, mode.WaitsFor b) h);
        new = λ o su h. front_far j.transit n o (st, mode.Runs) (λ e. absurd (not_there b o su h e)) ∙ h;
      };
      wider = λ y h. subst (λ (b : Records). IsHere b y) (sym row.records) h;
      lines = (refl, row.lines);
      ended = (refl, row.ended);
      once = (standing_distinct d.site.threads once_names, (none_named j.transit n none_away, transit_once));
    })
      where
        transit_once : AreDistinct (names j.transit)
        transit_once = j.reached.sums.once 0

        old : (b : Awaited) (o : ThreadName) (su : Stack) → ((o ≡ n) × (◌≡◌ {A = ThreadState} (su, mode.WaitsFor b) (st, mode.Runs))) ⊎ ((n ≢ o) × (value_of equal_thread j.transit o ≡ Some (su, mode.WaitsFor b))) → value_of equal_thread j.transit o ≡ Some (su, mode.WaitsFor b)
        old b o su (inl e) = let modes : mode.WaitsFor b ≡ mode.Runs = ap (λ (v : ThreadState). v.1) e.1 in absurd (cc)
        old b o su (inr h) = h.1

        not_there : (b : Awaited) (o : ThreadName) (su : Stack) → value_of equal_thread j.transit o ≡ Some (su, mode.WaitsFor b) → n ≡ o → ⊥
        not_there b o su h e = let both : ◌≡◌ {A = Option ThreadState} None (Some (su, mode.WaitsFor b)) = sym none_away ∙ ap (value_of equal_thread j.transit) e ∙ h in cc

    -- ---- who waits then

    pub own_waits : IsAsking (threads v.sites) i n a st
    own_waits = (ap (λ (s : Site). value_of equal_thread s.threads n) (at_here w.sites i d.site) ∙ ap (λ (ts : Threads). value_of equal_thread ts n) row.threads ∙ with_here equal_thread same_thread_decides (w.sites i).threads n (st, mode.WaitsFor a) (st, mode.Runs) at, asks)

    pub from_wait : (k : ℕ) (o : ThreadName) (b : Awaited) (su : Stack) → IsAsking (threads v.sites) k o b su → ((k ≡ i) × (o ≡ n) × (b ≡ a) × (su ≡ st)) ⊎ IsAsking (threads w.sites) k o b su
    from_wait = at_all w.sites i d.site (λ k (s : Site). (o : ThreadName) (b : Awaited) (su : Stack) → (value_of equal_thread s.threads o ≡ Some (su, mode.WaitsFor b)) × (is_asking (mode.WaitsFor b) ≡ true) → ((k ≡ i) × (o ≡ n) × (b ≡ a) × (su ≡ st)) ⊎ IsAsking (threads w.sites) k o b su)
        (λ o b su h. go o b su h (threads_decide n o)) (λ k other o b su h. inr h)
      where
        go : (o : ThreadName) (b : Awaited) (su : Stack) → (value_of equal_thread d.site.threads o ≡ Some (su, mode.WaitsFor b)) × (is_asking (mode.WaitsFor b) ≡ true) → (n ≡ o) ⊎ (n ≢ o) → ((i ≡ i) × (o ≡ n) × (b ≡ a) × (su ≡ st)) ⊎ IsAsking (threads w.sites) i o b su
        go o b su h (inr other) = inr (sym (with_there equal_thread same_thread_decides (w.sites i).threads n o (st, mode.WaitsFor a) other) ∙ ap (λ (ts : Threads). value_of equal_thread ts o) (sym row.threads) ∙ h.0, h.1)
        go o b su h (inl e) =
            let own : value_of equal_thread d.site.threads o ≡ Some (st, mode.WaitsFor a) = ap (λ (ts : Threads). value_of equal_thread ts o) row.threads ∙ subst (λ (x : ThreadName). value_of equal_thread (with_value equal_thread (w.sites i).threads n (st, mode.WaitsFor a)) x ≡ Some (st, mode.WaitsFor a)) e (with_here equal_thread same_thread_decides (w.sites i).threads n (st, mode.WaitsFor a) (st, mode.Runs) at) in
            let both : ◌≡◌ {A = Option ThreadState} (Some (su, mode.WaitsFor b)) (Some (st, mode.WaitsFor a)) = sym h.0 ∙ own in
            let pair : ◌≡◌ {A = ThreadState} (su, mode.WaitsFor b) (st, mode.WaitsFor a) = cc in
            let modes : mode.WaitsFor b ≡ mode.WaitsFor a = ap (λ (v : ThreadState). v.1) pair in
            let same_awaited : b ≡ a = cc in
            inl (refl, sym e, same_awaited, ap (λ (v : ThreadState). v.0) pair)

    old_wait : (k : ℕ) (o : ThreadName) (b : Awaited) (su : Stack) → IsAsking (threads w.sites) k o b su → IsAsking (threads v.sites) k o b su
    old_wait k o b su h = at_all w.sites i d.site (λ l (s : Site). IsAsking (threads w.sites) l o b su → (value_of equal_thread s.threads o ≡ Some (su, mode.WaitsFor b)) × (is_asking (mode.WaitsFor b) ≡ true)) own (λ l other q. q) k h
      where
        other : n ≢ o
        other e = nobody_asks k b su (subst (λ (x : ThreadName). IsAsking (threads w.sites) k x b su) (sym e) h)

        own : IsAsking (threads w.sites) i o b su → (value_of equal_thread d.site.threads o ≡ Some (su, mode.WaitsFor b)) × (is_asking (mode.WaitsFor b) ≡ true)
        own q = (ap (λ (ts : Threads). value_of equal_thread ts o) row.threads ∙ with_there equal_thread same_thread_decides (w.sites i).threads n o (st, mode.WaitsFor a) other ∙ q.0, q.1)

    -- the thread has this claim from now on
    pub asks_claims : (x : Claim) (now : Claim → Type 0) → claimant x ≡ n → FitsClaim p (eqs w.sites i) i a st st x → IsGrounded p (eqs w.sites) (IsAsking (threads v.sites)) x →
        ((y : Claim) → now y → IsClaim w.mail (early_at (homes w.sites)) y ⊎ (y ≡ x)) → ((y : Claim) → IsClaim w.mail (early_at (homes w.sites)) y → now y) → now x → AskingMatch p (eqs v.sites) (IsAsking (threads v.sites)) now u
    asks_claims x now is fits ground from old there =
        subst (λ (e : ℕ → Store). AskingMatch p e (IsAsking (threads v.sites)) now u) (sym (field_kept (λ (s : Site). s.equations) w.sites i d.site row.equations))
        (goes_away p (eqs w.sites) (IsAsking (threads w.sites)) (IsClaim w.mail (early_at (homes w.sites))) j.transit j.answers.asking i n a st x (IsAsking (threads v.sites)) now nobody_asks from_wait old_wait own_waits is fits ground from old there)

    -- the names of its stack are known
    pub asks_named : (k : ℕ) (o : ThreadName) (b : Awaited) (su : Stack) → IsAsking (threads v.sites) k o b su → (k ≢ 0) × EachOfStack (IsHereName (records v.sites k)) su
    asks_named k o b su h = subst (λ (r : ℕ → Records). (k ≢ 0) × EachOfStack (IsHereName (r k)) su) (sym records_same) (go (from_wait k o b su h))
      where
        out : (y : Name) → here_at (records w.sites) i y → IsHereName (records w.sites i) y
        out y (inl q) = q
        out y (inr zero) = absurd (real zero)

        go : ((k ≡ i) × (o ≡ n) × (b ≡ a) × (su ≡ st)) ⊎ IsAsking (threads w.sites) k o b su → (k ≢ 0) × EachOfStack (IsHereName (records w.sites k)) su
        go (inr q) = j.answers.named k o b su q
        go (inl (e, f, g, q)) = rw (e, q) (real, EachOfStack-weaker (here_at (records w.sites) i) (IsHereName (records w.sites i)) out st named)
