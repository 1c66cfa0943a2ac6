-- No thread asks twice to bind a variable: what each part of a turn keeps.
use Rattle.std.proofs.Common.{arith, ◌≡◌, ◌≢◌, ◌∙◌, sym, ap, refl, subst, append_assoc, ℕ, zero, suc, ◌+◌, ◌<◌, ◌≤◌, List, [], ◌∷◌, ◌++◌, map, ◌⊎◌, inl, inr, Bool, true, false, cond, Some, None}
use Rattle.std.specs.Prelude.{Option, Contains, ◌==◌, is_some, codes}
use Rattle.tree_node.specs.declared.names.VarName.{VarName}
use Rattle.tree_node.specs.declared.names.CellName.{CellName}
use Rattle.tree_node.specs.declared.names.ThreadName.{ThreadName}
use Rattle.tree_node.specs.declared.names.Name.{Name}
use Rattle.tree_node.specs.Goal.{Case, case_of}
use Rattle.tree_node.specs.declared.names.NameKind.{NameKind}
use Rattle.tree_node.specs.declared.node.Term.{Term}
use Rattle.tree_node.specs.declared.pick.Pick.{Pick}
use Rattle.tree_node.specs.Each.{Each}
use Rattle.tree_node.specs.State.{Stack, equal_thread}
use Rattle.tree_node.specs.Store.{Store, Equation, IsFree}
use Rattle.tree_node.proofs.ClassLemmas.{Contains-head, Contains-tail}
use Rattle.kernel_syntax.specs.declared.stmt.Stmt.{Stmt}
use Rattle.site_message.specs.declared.message.Msg.{Msg}
use Rattle.site_message.specs.declared.message.Msg.TheVariants as msg
use Rattle.site_message.specs.declared.message.Sent.{Sent}
use Rattle.oz_model.specs.Need.{Need, Waits, WaitsAny, Binds, Takes, stack_need, outcome_need}
use Rattle.oz_model.specs.Effect.{Birth, CellChange, Stays, Made, Exchanged, Effect, vars_among, stack_effect, outcome_effect, goal_effect, pair_effect, exception_effect}
use Rattle.bind_protocol.specs.Records.{Records, is_own, knowledge}
use Rattle.proxy_table.specs.Proxies.{entry_of}
use Rattle.bind_protocol.specs.Rows.{sent_message, register, binding, register_answer, after_meet, meet_sends, meets_send, after_ask}
use Rattle.bind_protocol.proofs.ListLemmas.{one, count_push}
use Rattle.site_model.specs.Requests.{Answer, NewEnd, OldContent, answered_stack, after_answer, with_asking, with_home_content, send_request_row, home_request_row, early_request_row, port_send_row, cell_ask_row, serve_request, serve_early}
use Rattle.site_model.specs.Site.{Site, Counters, ThreadState, EarlyRequest, thread_state, cell_record, home_record, Threads, runnable_threads}
use Rattle.thread_roster.specs.declared.mode.Awaited.{Awaited}
use Rattle.thread_roster.specs.declared.mode.Awaited.TheVariants.{Cell, Port}
use Rattle.thread_roster.specs.declared.mode.Mode.TheVariants.{Runs, WaitsFor}
use Rattle.thread_roster.specs.Binds.{goes_on}
use Rattle.site_model.specs.Bundle.{with_own_bundle, with_own_bundles, message_bundle, message_vars}
use Rattle.site_model.specs.Transition.{Transition, without_output, with_messages, with_pick, and_then}
use Rattle.site_model.specs.Variables.{with_new_equation, with_known_equation, with_known_equations, with_site_equation, own_bind, own_binds, opening}
use Rattle.token_chain.specs.Mail as token
use Rattle.site_model.specs.Cells.{leave_row, forward_row, get_row, serving, request_row, with_exchange_waiting, after_exchange, content_after_exchange, exchange_stack}
use Rattle.site_model.specs.Messages.{with_thread, bind_request_row, message_row, reception, birth}
use Rattle.site_model.specs.Unit.{next_names, with_fresh_names, birth_row, placement, step_row, after_effect, thread_step, kept_step, kept_step_row, kept_stack, with_stack, fresh_names, effect_here, step_pick, bind_attempt, after_cell, IsUnitFor, counter_after, runnable_state, content_here, counters_after, with_mode}
use Rattle.site_model.specs.Turn.{IsReception, AreUnits, SiteTurn}
use Rattle.tree_node.specs.declared.names.NameKind.TheVariants as kind
use Rattle.tree_node.specs.declared.node.Node.{Node}
use Rattle.tree_node.specs.declared.item.Item.TheVariants as item
use Rattle.tree_node.specs.Env.{Env, env_for}
use Rattle.tree_node.specs.Goal as goal
use Rattle.tree_node.specs.Shown.{shown}
use Rattle.kernel_syntax.specs.Free.{stmt_at, free}
use Rattle.oz_model.specs.declared.outcome.SystemException.{SystemException}
use Rattle.oz_model.specs.declared.outcome.SystemException.TheVariants.{FailureTell}
use Rattle.oz_model.specs.declared.outcome.Outcome.{Outcome}
use Rattle.oz_model.specs.declared.outcome.Outcome.TheVariants as outcome
use Rattle.oz_model.specs.Outcome.{outcome_of, print_outcome as prints_outcome}
use Rattle.variable_owner.specs.Owners.{owner_of, sites_of}
use Rattle.variable_owner.specs.declared.owners.Owner.{Owner}
use Rattle.variable_owner.specs.declared.owners.Owner.TheVariants.{Open, Bound}
use Rattle.world_messages.proofs.TermLemmas.{value_cases}
use Rattle.world_messages.proofs.EffectLemmas.{bind_effect}
use Rattle.oz_model.specs.Step.{living_stack, threads_born}
use Rattle.tree_node.specs.Assoc.{value_of, with_value, with_optional_value}
use Rattle.thread_roster.specs.declared.mode.Mode.TheVariants as site
use Rattle.world_model.specs.Matches.{IsBound}
use Rattle.world_model.proofs.CellLemmas.{OnlyCells, letters, request_only}
use Rattle.world_model.proofs.KeyLemmas.{goes_cases, woken_new}
use Rattle.world_model.proofs.PutLemmas.{nat_decides}
use Rattle.world_messages.proofs.DeedLemmas.{unit_tally}
use Rattle.world_messages.proofs.HomeRowLemmas.{Apart, kept_before, kept_apart, kept_site, tell_each, serve_rest, answer_cases}
use Rattle.world_messages.proofs.PickLemmas.{heard_site}
use Rattle.world_messages.proofs.WayLemmas.{Way, Steps, Opens, Sends, Makes, Exchanges, AsksToken, AsksPort, AsksHome, WaitsEarly, WaitsPort, way_of}
use Rattle.world_messages.specs.Messages.{is_request}
use Rattle.world_messages.specs.BindRequests.{requests, is_spawn, flights, Asks, ComesNew}
use Rattle.world_messages.proofs.AskLemmas.{IsNone, runs_not, waits_not, asks_more, same_threads, wakes, goes, asks_once}
use Rattle.tree_node.proofs.EachLemmas.{each_append}
use Rattle.tree_node.proofs.NameLemmas.{same_thread_decides}
use Rattle.site_model.proofs.FrameLemmas.{told_all_counters}

-- ---- transitions without requests

record Quiet (i low cap : ℕ) (P : ThreadName → Type 0) (start base : List Sent) (d : Transition) : Type 0 where
  site : Asks i low cap P start base d.site
  none : Each IsNone d.sent

quiet_then : (i low cap : ℕ) (P : ThreadName → Type 0) (start base : List Sent) (d : Transition) (f : Site → Transition) → Quiet i low cap P start base d → (Asks i low cap P start base d.site → Quiet i low cap P start base (f d.site)) → Quiet i low cap P start base (and_then d f)
quiet_then i low cap P start base d f h g = let k : Quiet i low cap P start base (f d.site) = g h.site in record { site = k.site; none = each_append IsNone d.sent (f d.site).sent h.none k.none }

module _ (p : List Stmt) (n limit : ℕ) where
  -- a thread born is new
  abbrev pub NewBirth : ℕ → Counters → Counters → Option Birth → Type 0
  NewBirth k old new None = Unit {0}
  NewBirth k old new (Some b) = (b.name.site ≡ k) × (old.threads ≤ b.name.num) × (b.name.num < new.threads)

  no_birth : (k : ℕ) (old new : Counters) (b : Option Birth) → b ≡ None → NewBirth k old new b
  no_birth k old new b e = subst (NewBirth k old new) (sym e) tt

  fails_none : (e : SystemException) (rest : Stack) (xs : List VarName) → (exception_effect e rest xs).born ≡ None
  fails_none e rest [] = refl
  fails_none e rest (a ∷ []) = refl
  fails_none e rest (a ∷ x ∷ []) = refl
  fails_none e rest (a ∷ x ∷ y ∷ xs) = refl

  takes_same : (ks ls : List NameKind) → Takes ks ≡ Takes ls → ls ≡ ks
  takes_same ks ls e = cc

  spawn_new : (k : ℕ) (c : Counters) (env : Env) (rest : Stack) (o : Outcome) (kinds : List NameKind) → kinds ≡ kind.Thread ∷ [] → NewBirth k c (counters_after c (kind.Thread ∷ [])) (outcome_effect p env rest (next_names k c (kind.Thread ∷ [])) o).born → NewBirth k c (counters_after c kinds) (outcome_effect p env rest (next_names k c kinds) o).born
  spawn_new k c env rest o kinds e h = subst (λ (ks : List NameKind). NewBirth k c (counters_after c ks) (outcome_effect p env rest (next_names k c ks) o).born) (sym e) h

  outcome_new : (k : ℕ) (c : Counters) (env : Env) (rest : Stack) (o : Outcome) (kinds : List NameKind) → outcome_need o ≡ Takes kinds → NewBirth k c (counters_after c kinds) (outcome_effect p env rest (next_names k c kinds) o).born
  outcome_new k c env rest (outcome.Spawns at body vars) kinds e = spawn_new k c env rest (outcome.Spawns at body vars) kinds (takes_same (kind.Thread ∷ []) kinds e) (refl, omega arith, omega arith)
  outcome_new k c env rest (outcome.Fails x) kinds e = no_birth k c (counters_after c kinds) _ (fails_none x rest (vars_among (next_names k c kinds)))
  outcome_new k c env rest (outcome.Waits x) kinds e = tt
  outcome_new k c env rest (outcome.WaitsAny left right) kinds e = tt
  outcome_new k c env rest (outcome.Runs items) kinds e = tt
  outcome_new k c env rest (outcome.Tells x t) kinds e = tt
  outcome_new k c env rest (outcome.Declares first count body) kinds e = tt
  outcome_new k c env rest (outcome.MakesProc left code formals vars) kinds e = tt
  outcome_new k c env rest (outcome.MakesCell at content told) kinds e = tt
  outcome_new k c env rest (outcome.MakesPort stream told) kinds e = tt
  outcome_new k c env rest (outcome.Sends port value) kinds e = tt
  outcome_new k c env rest (outcome.Exchanges cell new told) kinds e = tt
  outcome_new k c env rest (outcome.Tries body body_env handler first handler_env) kinds e = tt
  outcome_new k c env rest (outcome.Raises x) kinds e = tt
  outcome_new k c env rest (outcome.Prints line) kinds e = tt

  goal_none : (s : Store) (met : List (Node × Node)) (rest : Stack) (fresh : List Name) (pairs : List (Term × Term)) → (goal_effect s met rest fresh None pairs).born ≡ None
  goal_none s met rest fresh [] = refl
  goal_none s met rest fresh ((a, b) ∷ pairs) = go (case_of s met a b)
    where
      go : (c : Case) → (pair_effect a b pairs met rest fresh None c).born ≡ None
      go goal.Dropped = refl
      go goal.Binds = refl
      go (goal.Opened m n fs) = refl
      go goal.Failed = fails_none FailureTell rest (vars_among fresh)

  pub stack_new : (k : ℕ) (c : Counters) (s : Store) (st : Stack) (kinds : List NameKind) → stack_need p s st ≡ Takes kinds → NewBirth k c (counters_after c kinds) (stack_effect p s (next_names k c kinds) None st).born
  stack_new k c s [] kinds e = tt
  stack_new k c s (item.Run code env ∷ rest) kinds e = outcome_new k c env rest (outcome_of p s code env (stmt_at p code)) kinds e
  stack_new k c s (item.Goals b ∷ rest) kinds e = no_birth k c (counters_after c kinds) _ (goal_none s b.met rest (next_names k c kinds) b.pairs)
  stack_new k c s (item.Mark code at env ∷ rest) kinds e = tt
  stack_new k c s (item.Report x ∷ rest) kinds e = outcome_new k c [] rest (prints_outcome (codes "uncaught ") (shown s x)) kinds e

  pub more_threads : (c : Counters) (kinds : List NameKind) → c.threads ≤ (counters_after c kinds).threads
  more_threads c [] = omega arith
  more_threads c (kind.Var ∷ ks) = more_threads (counter_after c kind.Var) ks
  more_threads c (kind.Cell ∷ ks) = more_threads (counter_after c kind.Cell) ks
  more_threads c ((kind.CellAt at_home) ∷ ks) = more_threads (counter_after c (kind.CellAt at_home)) ks
  more_threads c (kind.Proc ∷ ks) = more_threads (counter_after c kind.Proc) ks
  more_threads c (kind.Port ∷ ks) = more_threads (counter_after c kind.Port) ks
  more_threads c (kind.Thread ∷ ks) = omega (arith, more_threads (counter_after c kind.Thread) ks)

  pub runs_stay : (es : List Equation) (s : Site) (th : ThreadName) (st : Stack) → thread_state s th ≡ Some (st, Runs) → thread_state (own_binds limit es s).site th ≡ Some (st, Runs)
  runs_stay [] s th st e = e
  runs_stay (q ∷ es) s th st e = woken_new (goes_on (q ∷ (own_binds limit es s).site.equations) q.0) (own_binds limit es s).site.threads th st Runs (runs_stay es s th st e)

  pub made_stay : (es : List Equation) (s : Site) → (own_binds limit es s).site.counters ≡ s.counters
  made_stay [] s = refl
  made_stay (q ∷ es) s = made_stay es s

  pub cell_threads : (c : CellChange) (s : Site) → ((after_cell c s).threads ≡ s.threads) × ((after_cell c s).equations ≡ s.equations) × ((after_cell c s).counters ≡ s.counters)
  cell_threads Stays s = (refl, refl, refl)
  cell_threads (Made c v) s = (refl, refl, refl)
  cell_threads (Exchanged c new told) s = (refl, refl, refl)

module _ (p : List Stmt) (n limit : ℕ) (i low cap : ℕ) (P : ThreadName → Type 0) (start : List Sent) where
  still : (base : List Sent) (s : Site) → Asks i low cap P start base s → Quiet i low cap P start base (without_output s)
  still base s h = record { site = h; none = tt }

  told_none : (s : Store) (x : VarName) (t : Term) (ks : List ℕ) → Each IsNone (with_own_bundles limit s (map (λ (k : ℕ). binding x t k) ks))
  told_none s x t [] = tt
  told_none s x t (k ∷ ks) = (λ n x. (refl, refl), told_none s x t ks)

  meets_none : (xs : List VarName) (b : Records) → Each IsNone (meets_send b xs)
  meets_none [] b = tt
  meets_none (x ∷ xs) b = each_append IsNone (meet_sends b x) (meets_send (after_meet b x) xs) (one_name (is_own b x) (is_some (entry_of b.proxies x))) (meets_none xs (after_meet b x))
    where
      one_name : (c d : Bool) → Each IsNone (cond c [] (cond d [] (register x b.site ∷ [])))
      one_name true d = tt
      one_name false true = tt
      one_name false false = (λ n x. (refl, refl), tt)

  told_asks : (base : List Sent) (s : Site) (x : VarName) (t : Term) → Asks i low cap P start base s → Asks i low cap P start base (with_known_equation s x t)
  told_asks base s x t h = go (is_own s.records x) refl (knowledge s.records x) refl
    where
      go : (c : Bool) → is_own s.records x ≡ c → (o : Option (Option Term)) → knowledge s.records x ≡ o → Asks i low cap P start base (with_known_equation s x t)
      go true q o k = rw (k, q) h
      go false q None k = rw (k, q) (wakes i low cap P start base s (with_new_equation s x t) x t refl refl refl h)
      go false q (Some None) k = rw (k, q) (wakes i low cap P start base s (with_new_equation s x t) x t refl refl refl h)
      go false q (Some (Some r)) k = rw (k, q) h

  told_all_asks : (base : List Sent) (es : List Equation) (s : Site) → Asks i low cap P start base s → Asks i low cap P start base (with_known_equations s es)
  told_all_asks base [] s h = h
  told_all_asks base (e ∷ es) s h = told_all_asks base es (with_known_equation s e.0 e.1) (told_asks base s e.0 e.1 h)

  opens_asks : (base : List Sent) (m : Msg) (s : Site) → Asks i low cap P start base s → Quiet i low cap P start base (opening m s)
  opens_asks base m s h = record {
    site = same_threads i low cap P start base (with_known_equations s (message_bundle m)) (opening m s).site refl (λ x b. b) (omega arith) (told_all_asks base (message_bundle m) s h);
    none = meets_none (message_vars m) (with_known_equations s (message_bundle m)).records;
  }

  binds_asks : (base : List Sent) (x : VarName) (t : Term) (s : Site) → Asks i low cap P start base s → Quiet i low cap P start base (own_bind limit x t s)
  binds_asks base x t s h = record { site = wakes i low cap P start base s (with_site_equation s x t (after_ask s.records x t)) x t refl refl refl h; none = told_none ((x, t) ∷ s.equations) x t (sites_of (owner_of s.records.owners x)) }

  binds_each_asks : (base : List Sent) (es : List Equation) (s : Site) → Asks i low cap P start base s → Quiet i low cap P start base (own_binds limit es s)
  binds_each_asks base [] s h = still base s h
  binds_each_asks base (e ∷ es) s h = quiet_then i low cap P start base (own_binds limit es s) (own_bind limit e.0 e.1) (binds_each_asks base es s h) (λ k. binds_asks base e.0 e.1 (own_binds limit es s).site k)

  letters_none : (c : CellName) (s : Store) (ms : List token.Mail) → Each IsNone (letters limit c s ms)
  letters_none c s [] = tt
  letters_none c s (token.Get k ∷ ms) = (λ m x. (refl, refl), letters_none c s ms)
  letters_none c s (token.Forward to k ∷ ms) = (λ m x. (refl, refl), letters_none c s ms)
  letters_none c s (token.Put to v ∷ ms) = (λ m x. (refl, refl), letters_none c s ms)

  leave_asks : (base : List Sent) (c : CellName) (s : Site) → Asks i low cap P start base s → Quiet i low cap P start base (leave_row limit c s)
  leave_asks base c s h = record { site = same_threads i low cap P start base s (leave_row limit c s).site refl (λ x b. b) (omega arith) h; none = letters_none c s.equations _ }

  forward_asks : (base : List Sent) (c : CellName) (k : ℕ) (s : Site) → Asks i low cap P start base s → Quiet i low cap P start base (forward_row limit c k s)
  forward_asks base c k s h = record { site = same_threads i low cap P start base s (forward_row limit c k s).site refl (λ x b. b) (omega arith) h; none = letters_none c s.equations _ }

  get_asks : (base : List Sent) (c : CellName) (k : ℕ) (s : Site) → Asks i low cap P start base s → Quiet i low cap P start base (get_row limit c k s)
  get_asks base c k s h = record { site = same_threads i low cap P start base s (get_row limit c k s).site refl (λ x b. b) (omega arith) h; none = letters_none c s.equations _ }

  -- ---- threads of cells

  cell_asks : (base : List Sent) (c : CellName) (new : VarName) (th : ThreadName) (st : Stack) (s : Site) → thread_state s th ≡ Some (st, Runs) → Asks i low cap P start base s → Quiet i low cap P start base (request_row limit c new th st s)
  cell_asks base c new th st s at h = record {
    site = same_threads i low cap P start base (with_exchange_waiting c th st s) after.site only.threads (λ x b. subst (λ (q : Store). IsBound q x) (sym only.equations) b) (omega (arith, ap (λ (k : Counters). k.threads) only.counters)) now;
    none = letters_none c after.site.equations _;
  }
    where
      after : Transition
      after = request_row limit c new th st s

      only : OnlyCells (with_exchange_waiting c th st s) after
      only = request_only limit c new th st s

      now : Asks i low cap P start base (with_exchange_waiting c th st s)
      now = goes i low cap P start base s (with_exchange_waiting c th st s) th (st, Runs) (Some (st, WaitsFor (Cell c))) refl refl refl at runs_not h

  -- ---- threads that begin

  starts_asks : (most : ℕ) (base : List Sent) (b : Birth) (s : Site) → cap ≤ most → most ≤ s.counters.threads → ((x : VarName) → requests b.name x base ≡ 0) → (b.name.site ≡ i → b.name.num < most) → P b.name → (flights b.name start + 1 ≤ flights b.name base → ⊥) →
      Asks i low cap P start base s → Asks i low most P start base (with_thread p (Some b) s)
  starts_asks most base b s up top new low_name good apart h = record {
    once = h.once;
    stands = stands;
    counted = counted;
    asked = λ m x asked own. omega (arith, h.asked m x asked own, up);
    since = omega (arith, h.since, up);
    capped = top;
    who = who;
    asker = h.asker;
    flown = λ m more. let f = h.flown m more in (f.0, λ v at. gone m v more f.1 (value_cases (runnable_threads (threads_born p (Some b))) s.threads m v at), f.2, omega (arith, f.3, up));
  }
    where
      name_of : (m : ThreadName) (v : ThreadState) → value_of equal_thread (runnable_threads (threads_born p (Some b))) m ≡ Some v → b.name ≡ m
      name_of m v e = go (equal_thread b.name m) refl e
        where
          go : (c : Bool) → equal_thread b.name m ≡ c → cond {A = Option ThreadState} c (Some (item.Run b.code (env_for (free p b.code) b.vars) ∷ [], Runs)) None ≡ Some v → b.name ≡ m
          go true q k = (same_thread_decides b.name m).0 q
          go false q k = cc

      gone : (m : ThreadName) (v : ThreadState) → flights m start + 1 ≤ flights m base → ((v : ThreadState) → thread_state s m ≡ Some v → ⊥) → (value_of equal_thread (runnable_threads (threads_born p (Some b))) m ≡ Some v) ⊎ (value_of equal_thread s.threads m ≡ Some v) → ⊥
      gone m v more f (inl k) = apart (subst (λ (z : ThreadName). flights z start + 1 ≤ flights z base) (sym (name_of m v k)) more)
      gone m v more f (inr k) = f v k

      who : (m : ThreadName) (v : ThreadState) → value_of equal_thread (runnable_threads (threads_born p (Some b)) ++ s.threads) m ≡ Some v → P m
      who m v at = by (value_cases (runnable_threads (threads_born p (Some b))) s.threads m v at)
        where
          by : (value_of equal_thread (runnable_threads (threads_born p (Some b))) m ≡ Some v) ⊎ (value_of equal_thread s.threads m ≡ Some v) → P m
          by (inl k) = subst P (name_of m v k) good
          by (inr k) = h.who m v k

      stands : (m : ThreadName) (v : ThreadState) (x : VarName) → value_of equal_thread (runnable_threads (threads_born p (Some b)) ++ s.threads) m ≡ Some v → 1 ≤ requests m x base → IsBound s.equations x ⊎ (v.1 ≡ site.Waits x)
      stands m v x at asked = by (value_cases (runnable_threads (threads_born p (Some b))) s.threads m v at)
        where
          by : (value_of equal_thread (runnable_threads (threads_born p (Some b))) m ≡ Some v) ⊎ (value_of equal_thread s.threads m ≡ Some v) → IsBound s.equations x ⊎ (v.1 ≡ site.Waits x)
          by (inl k) = let none : requests m x base ≡ 0 = subst (λ (z : ThreadName). requests z x base ≡ 0) (name_of m v k) (new x) in absurd (omega (arith, none, asked))
          by (inr k) = h.stands m v x k asked

      counted : (m : ThreadName) (v : ThreadState) → value_of equal_thread (runnable_threads (threads_born p (Some b)) ++ s.threads) m ≡ Some v → m.site ≡ i → m.num < most
      counted m v at own = by (value_cases (runnable_threads (threads_born p (Some b))) s.threads m v at)
        where
          by : (value_of equal_thread (runnable_threads (threads_born p (Some b))) m ≡ Some v) ⊎ (value_of equal_thread s.threads m ≡ Some v) → m.num < most
          by (inl k) = let same : b.name ≡ m = name_of m v k in subst (λ (z : ThreadName). z.num < most) same (low_name (ap (λ (z : ThreadName). z.site) same ∙ own))
          by (inr k) = omega (arith, h.counted m v k own, up)

  -- a new thread is sent away
  spawn_asks : (most : ℕ) (base : List Sent) (b : Birth) (s : Site) (q : Store) (to : ℕ) → cap ≤ most → most ≤ s.counters.threads → ((x : VarName) → requests b.name x base ≡ 0) → b.name.site ≡ i → cap ≤ b.name.num → b.name.num < most →
      Asks i low cap P start base s → Asks i low most P start (base ++ with_own_bundle limit q (sent_message to (msg.Spawn b.name b.code b.vars [])) ∷ []) s
  spawn_asks most base b s q to up top new own fresh below h = record {
    once = λ m x. omega (arith, h.once m x, same m x);
    stands = λ m v x at asked. h.stands m v x at (omega (arith, asked, same m x));
    counted = λ m v at mine. omega (arith, h.counted m v at mine, up);
    asked = λ m x asked mine. omega (arith, h.asked m x (omega (arith, asked, same m x)) mine, up);
    since = omega (arith, h.since, up);
    capped = top;
    who = h.who;
    asker = λ m x more. h.asker m x (omega (arith, more, same m x));
    flown = λ m more. flown m (equal_thread m b.name) refl more;
  }
    where
      out : Sent
      out = with_own_bundle limit q (sent_message to (msg.Spawn b.name b.code b.vars []))

      same : (m : ThreadName) (x : VarName) → requests m x (base ++ with_own_bundle limit q (sent_message to (msg.Spawn b.name b.code b.vars [])) ∷ []) ≡ requests m x base
      same m x = let e : requests m x (base ++ with_own_bundle limit q (sent_message to (msg.Spawn b.name b.code b.vars [])) ∷ []) ≡ requests m x base + one false = count_push (is_request m x) base (with_own_bundle limit q (sent_message to (msg.Spawn b.name b.code b.vars []))) in omega arith

      more_flights : (m : ThreadName) → flights m (base ++ with_own_bundle limit q (sent_message to (msg.Spawn b.name b.code b.vars [])) ∷ []) ≡ flights m base + one (equal_thread m b.name)
      more_flights m = count_push (is_spawn m) base (with_own_bundle limit q (sent_message to (msg.Spawn b.name b.code b.vars [])))

      flown : (m : ThreadName) (c : Bool) → equal_thread m b.name ≡ c → flights m start + 1 ≤ flights m (base ++ with_own_bundle limit q (sent_message to (msg.Spawn b.name b.code b.vars [])) ∷ []) →
          ((x : VarName) → requests m x (base ++ with_own_bundle limit q (sent_message to (msg.Spawn b.name b.code b.vars [])) ∷ []) ≡ 0) × ((v : ThreadState) → thread_state s m ≡ Some v → ⊥) × (m.site ≡ i) × (m.num < most)
      flown m true e more =
          let is : m ≡ b.name = (same_thread_decides m b.name).0 e in (
            λ x. same m x ∙ subst (λ (z : ThreadName). requests z x base ≡ 0) (sym is) (new x),
            λ v at. (let low_one : m.num < cap = h.counted m v at (ap (λ (z : ThreadName). z.site) is ∙ own) in let num : m.num ≡ b.name.num = ap (λ (z : ThreadName). z.num) is in absurd (omega (arith, low_one, num, fresh))),
            ap (λ (z : ThreadName). z.site) is ∙ own,
            subst (λ (z : ThreadName). z.num < most) (sym is) below,
          )
      flown m false e more =
          let o : one (equal_thread m b.name) ≡ 0 = ap one e in
          let f = h.flown m (omega (arith, more, more_flights m)) in
          (λ x. same m x ∙ f.0 x, f.1, f.2, omega (arith, f.3, up))

  -- ---- messages

  -- none of them waits for a variable
  abbrev NoneWaits : List ThreadName → Site → Type 0
  NoneWaits ns s = (m : ThreadName) (w : ThreadState) → Contains ns m → thread_state s m ≡ Some w → (x : VarName) → w.1 ≡ site.Waits x → ⊥

  serves_asks : (base : List Sent) (c : CellName) (ns : List ThreadName) (v : VarName) (s : Site) → NoneWaits ns s → Asks i low cap P start base s → Quiet i low cap P start base (serving p c ns v s)
  serves_asks base c [] v s w h = still base _ (same_threads i low cap P start base s _ refl (λ x b. b) (omega arith) h)
  serves_asks base c (th ∷ ns) v s w h = go (thread_state s th) refl (λ t k g. serves_asks base c ns (content_after_exchange p th v s) t k g)
    where
      all : (t : Site) → after_exchange p th v s ≡ t → Quiet i low cap P start base (serving p c ns (content_after_exchange p th v s) t) → Quiet i low cap P start base (serving p c (th ∷ ns) v s)
      all t e q = let k : Quiet i low cap P start base (serving p c ns (content_after_exchange p th v s) (after_exchange p th v s)) = subst (λ (u : Site). Quiet i low cap P start base (serving p c ns (content_after_exchange p th v s) u)) (sym e) q in record { site = k.site; none = k.none }

      exchanged_stack : Stack → Stack
      exchanged_stack st = exchange_stack v (stack_effect p s.equations [] None st).cell (stack_effect p s.equations [] None st).stack

      after : ThreadState → Site
      after u = record s { threads = with_value equal_thread s.threads th (exchange_stack v (stack_effect p s.equations [] None u.0).cell (stack_effect p s.equations [] None u.0).stack, Runs) }

      still_none : (u : ThreadState) → thread_state s th ≡ Some u → NoneWaits ns (record s { threads = with_value equal_thread s.threads th (exchange_stack v (stack_effect p s.equations [] None u.0).cell (stack_effect p s.equations [] None u.0).stack, Runs) })
      still_none u e m r c0 at x q = by (goes_cases equal_thread same_thread_decides s.threads th m (Some (exchange_stack v (stack_effect p s.equations [] None u.0).cell (stack_effect p s.equations [] None u.0).stack, Runs)) u r e at)
        where
          by : ((m ≡ th) × (Some (exchange_stack v (stack_effect p s.equations [] None u.0).cell (stack_effect p s.equations [] None u.0).stack, Runs) ≡ Some r)) ⊎ ((th ≢ m) × (value_of equal_thread s.threads m ≡ Some r)) → ⊥
          by (inl k) =
              let same : ◌≡◌ {A = ThreadState} (exchange_stack v (stack_effect p s.equations [] None u.0).cell (stack_effect p s.equations [] None u.0).stack, Runs) r = (let f : ◌≡◌ {A = Option ThreadState} (Some (exchange_stack v (stack_effect p s.equations [] None u.0).cell (stack_effect p s.equations [] None u.0).stack, Runs)) (Some r) = k.1 in cc) in
              runs_not x (ap (λ (z : ThreadState). z.1) same ∙ q)
          by (inr k) = w m r (Contains-tail th m ns c0) k.1 x q

      go : (o : Option ThreadState) → thread_state s th ≡ o → ((t : Site) → NoneWaits ns t → Asks i low cap P start base t → Quiet i low cap P start base (serving p c ns (content_after_exchange p th v s) t)) → Quiet i low cap P start base (serving p c (th ∷ ns) v s)
      go None e ih = all s (rw e refl) (ih s (λ m r c0 at. w m r (Contains-tail th m ns c0) at) h)
      go (Some u) e ih = all (after u) (rw e refl) (ih (after u) (still_none u e) (goes i low cap P start base s (after u) th u (Some (exchange_stack v (stack_effect p s.equations [] None u.0).cell (stack_effect p s.equations [] None u.0).stack, Runs)) refl refl refl e (w th u (Contains-head th ns) e) h))

  -- ---- ports and stationary cells

  -- a thread that is answered did not wait for a variable
  abbrev NoneOf : ThreadName → Site → Type 0
  NoneOf th s = (w : ThreadState) → thread_state s th ≡ Some w → (x : VarName) → w.1 ≡ site.Waits x → ⊥

  answer_asks : (base : List Sent) (th : ThreadName) (a : Answer) (s : Site) → NoneOf th s → Asks i low cap P start base s → Asks i low cap P start base (after_answer p th a s)
  answer_asks base th a s none h = go (thread_state s th) refl
    where
      go : (o : Option ThreadState) → thread_state s th ≡ o → Asks i low cap P start base (after_answer p th a s)
      go None q = rw q h
      go (Some w) q = rw q (goes i low cap P start base s (record s { threads = with_value equal_thread s.threads th (answered_stack p s a w.0, Runs) }) th w (Some (answered_stack p s a w.0, Runs)) refl refl refl q (none w q) h)

  serve_asks : (base : List Sent) (c : CellName) (r : EarlyRequest) (v : VarName) (s : Site) → (r.asking ≡ s.records.site → NoneOf r.thread s) → Asks i low cap P start base s → Quiet i low cap P start base (serve_request p limit c r v s)
  serve_asks base c r v s none h = go (r.asking == s.records.site) refl
    where
      told : Asks i low cap P start base (with_home_content c r.new s)
      told = same_threads i low cap P start base s (with_home_content c r.new s) refl (λ x b. b) (omega arith) h

      go : (b : Bool) → (r.asking == s.records.site) ≡ b → Quiet i low cap P start base (cond b (with_pick (after_answer p r.thread (OldContent v) (with_home_content c r.new s)) (step_pick r.thread [] None))
          (and_then (with_pick (with_home_content c r.new s) (step_pick r.thread [] None)) (λ t. with_messages t (with_own_bundle limit t.equations (sent_message r.asking (msg.CellOld r.thread v [])) ∷ []))))
      go true q = record { site = answer_asks base r.thread (OldContent v) (with_home_content c r.new s) (none ((nat_decides r.asking s.records.site).0 q)) told; none = tt }
      go false q = record { site = told; none = (λ m x. (refl, refl), tt) }

  -- nor did those of the site among these
  abbrev NoneEarly : List EarlyRequest → Site → Type 0
  NoneEarly rs s = (r : EarlyRequest) → Contains rs r → r.asking ≡ s.records.site → NoneOf r.thread s

  served_none : (c : CellName) (r : EarlyRequest) (v : VarName) (s : Site) (th : ThreadName) → NoneOf th s → NoneOf th (serve_request p limit c r v s).site
  served_none c r v s th none = go (r.asking == s.records.site)
    where
      by : (w : ThreadState) → ((r.thread ≡ th) × (w.1 ≡ Runs)) ⊎ (thread_state s th ≡ Some w) → (x : VarName) → w.1 ≡ site.Waits x → ⊥
      by w (inl k) x e = runs_not x (sym k.1 ∙ e)
      by w (inr k) x e = none w k x e

      go : (b : Bool) → NoneOf th (cond b (with_pick (after_answer p r.thread (OldContent v) (with_home_content c r.new s)) (step_pick r.thread [] None))
          (and_then (with_pick (with_home_content c r.new s) (step_pick r.thread [] None)) (λ t. with_messages t (with_own_bundle limit t.equations (sent_message r.asking (msg.CellOld r.thread v [])) ∷ [])))).site
      go true w at = by w (answer_cases p r.thread (OldContent v) (with_home_content c r.new s) th w at)
      go false w at = none w at

  early_asks : (base : List Sent) (c : CellName) (rs : List EarlyRequest) (v : VarName) (s : Site) → NoneEarly rs s → Asks i low cap P start base s → Quiet i low cap P start base (serve_early p limit c v rs s)
  early_asks base c [] v s none h = still base _ (same_threads i low cap P start base s _ refl (λ x b. b) (omega arith) h)
  early_asks base c (r ∷ rs) v s none h = quiet_then i low cap P start base (serve_request p limit c r v s) (serve_early p limit c r.new rs) (serve_asks base c r v s (none r (Contains-head r rs)) h)
      (λ k. early_asks base c rs r.new (serve_request p limit c r v s).site (λ q at own. served_none c r v s q.thread (none q (Contains-tail r q rs at) (own ∙ ap (λ (b : Records). b.site) (serve_rest p limit c r v s).records))) k)

  -- a thread asks another site, or waits
  away_asks : (base : List Sent) (th : ThreadName) (st : Stack) (a : Awaited) (s : Site) → thread_state s th ≡ Some (st, Runs) → Asks i low cap P start base s → Asks i low cap P start base (with_asking th st a s)
  away_asks base th st a s at h = goes i low cap P start base s (with_asking th st a s) th (st, Runs) (Some (st, WaitsFor a)) refl refl refl at runs_not h

  answered_none : (s : Store) (x : VarName) (k : ℕ) (o : Option Owner) → Each IsNone (with_own_bundles limit s (register_answer o x k))
  answered_none s x k None = tt
  answered_none s x k (Some (Open ks)) = tt
  answered_none s x k (Some (Bound t)) = (λ m y. (refl, refl), tt)

  asked_asks : (base : List Sent) (x : VarName) (t : Term) (th : ThreadName) (s : Site) → Asks i low cap P start base s → Quiet i low cap P start base (bind_request_row limit x t th s)
  asked_asks base x t th s h = go (knowledge s.records x) refl
    where
      bound_now : Quiet i low cap P start base (own_bind limit x t s)
      bound_now = binds_asks base x t s h

      go : (o : Option (Option Term)) → knowledge s.records x ≡ o → Quiet i low cap P start base (bind_request_row limit x t th s)
      go None q = rw q (still base s h)
      go (Some None) q = rw q (record { site = bound_now.site; none = bound_now.none })
      go (Some (Some r)) q = rw q (still base s h)

  takes_asks : (base : List Sent) (m : Msg) (s : Site) → cap ≡ s.counters.threads → base ≡ start → ComesNew i P base m s → Asks i low cap P start base s → Quiet i low cap P start base (message_row p limit m s)
  takes_asks base (msg.Spawn th code vars es) s cap_is base_is new h =
      still base _ (starts_asks cap base (birth th code vars) s (omega arith) h.capped new.0 (λ own. subst (λ (k : ℕ). th.num < k) (sym cap_is) (new.1 own)) new.2 (λ more. absurd (omega (arith, more, ap (flights th) base_is))) h)
  takes_asks base (msg.Register x k) s cap_is base_is new h = record { site = same_threads i low cap P start base s _ refl (λ x b. b) (omega arith) h; none = answered_none s.equations x k (owner_of s.records.owners x) }
  takes_asks base (msg.BindReq x th t es) s cap_is base_is new h = asked_asks base x t th s h
  takes_asks base (msg.Binding x t es) s cap_is base_is new h = still base (with_known_equation s x t) (told_asks base s x t h)
  takes_asks base (msg.Get c k) s cap_is base_is new h = get_asks base c k s h
  takes_asks base (msg.Forward c k) s cap_is base_is new h = forward_asks base c k s h
  takes_asks base (msg.Put c v es) s cap_is base_is new h = quiet_then i low cap P start base (serving p c (cell_record s c).queue v s) (leave_row limit c) (serves_asks base c (cell_record s c).queue v s (λ m w at e x q. waits_not (Cell c) x (sym (new m w at e) ∙ q)) h) (λ k. leave_asks base c (serving p c (cell_record s c).queue v s).site k)
  takes_asks base (msg.PortSend q th k) s cap_is base_is new h = record { site = same_threads i low cap P start base s (port_send_row limit q th k s).site refl (λ x b. b) (omega arith) h; none = (λ m x. (refl, refl), tt) }
  takes_asks base (msg.PortEnd th old new_end es) s cap_is base_is new h = still base (after_answer p th (NewEnd old new_end) s) (answer_asks base th (NewEnd old new_end) s (λ w at x e. (let k = new w at in waits_not k.0 x (sym k.1 ∙ e))) h)
  takes_asks base (msg.CellMake c v es) s cap_is base_is new h = early_asks base c (home_record s c).early v s (λ r at own w stands x e. waits_not (Cell c) x (sym (new r w at own stands) ∙ e)) h
  takes_asks base (msg.CellAsk c th k v es) s cap_is base_is new h = go (home_record s c).content refl
    where
      go : (o : Option VarName) → (home_record s c).content ≡ o → Quiet i low cap P start base (cell_ask_row p limit c (record { thread = th; asking = k; new = v }) s)
      go None q = rw q (still base _ (same_threads i low cap P start base s _ refl (λ x b. b) (omega arith) h))
      go (Some u) q = rw q (serve_asks base c (record { thread = th; asking = k; new = v }) u s (λ own w at x e. absurd (new own)) h)
  takes_asks base (msg.CellOld th v es) s cap_is base_is new h = still base (after_answer p th (OldContent v) s) (answer_asks base th (OldContent v) s (λ w at x e. (let k = new w at in waits_not k.0 x (sym k.1 ∙ e))) h)

  receives_asks : (base : List Sent) (m : Msg) (s : Site) → cap ≡ (opening m s).site.counters.threads → base ≡ start → ComesNew i P base m (opening m s).site → Asks i low cap P start base s → Quiet i low cap P start base (reception p limit m s)
  receives_asks base m s cap_is base_is new h = quiet_then i low cap P start base (opening m s) (message_row p limit m) (opens_asks base m s h) (λ k. takes_asks base m (opening m s).site cap_is base_is new k)

-- ---- steps

-- higher counters
raise : (i low cap most : ℕ) (P : ThreadName → Type 0) (start base : List Sent) (s : Site) → cap ≤ most → most ≤ s.counters.threads → Asks i low cap P start base s → Asks i low most P start base s
raise i low cap most P start base s up top h = record {
  once = h.once;
  stands = h.stands;
  counted = λ m v at own. omega (arith, h.counted m v at own, up);
  asked = λ m x asked own. omega (arith, h.asked m x asked own, up);
  since = omega (arith, h.since, up);
  capped = top;
  who = h.who;
  asker = h.asker;
  flown = λ m more. let f = h.flown m more in (f.0, f.1, f.2, omega (arith, f.3, up));
}

module _ (p : List Stmt) (n limit : ℕ) (i low : ℕ) (P : ThreadName → Type 0) (start : List Sent) (born_is : (th : ThreadName) → th.site ≡ i → low ≤ th.num → P th) where
  -- at the site's own counters
  abbrev pub Full : List Sent → Site → Type 0
  Full base s = Asks i low s.counters.threads P start base s

  full : (cap : ℕ) (base : List Sent) (s : Site) → Asks i low cap P start base s → Full base s
  full cap base s h = raise i low cap s.counters.threads P start base s h.capped (omega arith) h

  abbrev AsksOn : List Sent → Transition → Type 0
  AsksOn base d = Full (base ++ d.sent) d.site

  of_quiet : (cap : ℕ) (base : List Sent) (d : Transition) → Quiet i low cap P start base d → AsksOn base d
  of_quiet cap base d h = full cap (base ++ d.sent) d.site (asks_more i low cap P start base d.sent d.site h.none h.site)

  append_both : (base xs ys : List Sent) (s : Site) → Full ((base ++ xs) ++ ys) s → Full (base ++ (xs ++ ys)) s
  append_both base xs ys s h = subst (λ (ms : List Sent). Full ms s) (append_assoc base xs ys) h

  bears_asks : (old : ℕ) (c : Counters) (base : List Sent) (b : Option Birth) (s : Site) → c.threads ≡ old → NewBirth p n limit i c s.counters b → Asks i low old P start base s → AsksOn base (birth_row p n limit b s)
  bears_asks old c base None s e new h = of_quiet old base (without_output s) (still p n limit i low old P start base s h)
  bears_asks old c base (Some b) s e new h = go (placement n s.records.site b.at == s.records.site)
    where
      none : (x : VarName) → requests b.name x base ≡ 0
      none x = by (requests b.name x base) refl
        where
          by : (k : ℕ) → requests b.name x base ≡ k → k ≡ 0
          by zero q = refl
          by (suc k) q = absurd (omega (arith, h.asked b.name x (omega (arith, q)) new.0, new.1, e))

      not_flown : flights b.name start + 1 ≤ flights b.name base → ⊥
      not_flown more = let f = h.flown b.name more in absurd (omega (arith, f.3, new.1, e))

      go : (k : Bool) → AsksOn base (cond k (without_output (with_thread p (Some b) s)) (with_messages s (with_own_bundle limit s.equations (sent_message (placement n s.records.site b.at) (msg.Spawn b.name b.code b.vars [])) ∷ [])))
      go true = of_quiet s.counters.threads base (without_output (with_thread p (Some b) s)) (record {
        site = starts_asks p n limit i low old P start s.counters.threads base b s h.capped (omega arith) none (λ own. new.2) (born_is b.name new.0 (omega (arith, h.since, new.1, e))) not_flown h;
        none = tt;
      })
      go false = spawn_asks p n limit i low old P start s.counters.threads base b s s.equations (placement n s.records.site b.at) h.capped (omega arith) none new.0 (omega (arith, new.1, e)) new.2 h

  steps_asks : (base : List Sent) (k : Pick) (kinds : List NameKind) (e : Effect) (s : Site) (st : Stack) → thread_state s k.thread ≡ Some (st, Runs) → NewBirth p n limit i s.counters (with_fresh_names kinds s).counters e.born → Full base s → AsksOn base (step_row p n limit k kinds e s)
  steps_asks base k kinds e s st at new h =
      append_both base ((own_binds limit e.adds (with_fresh_names kinds s)).sent ++ []) _ _ (bears_asks s.counters.threads s.counters (base ++ ((own_binds limit e.adds (with_fresh_names kinds s)).sent ++ [])) e.born (after_effect k.thread e (own_binds limit e.adds (with_fresh_names kinds s)).site) refl
      (subst (λ (c : Counters). NewBirth p n limit i s.counters c e.born) (sym made) new)
      (asks_more i low s.counters.threads P start base ((own_binds limit e.adds (with_fresh_names kinds s)).sent ++ []) (after_effect k.thread e (own_binds limit e.adds (with_fresh_names kinds s)).site) (each_append IsNone (own_binds limit e.adds (with_fresh_names kinds s)).sent [] two.none tt) on))
    where
      two : Quiet i low s.counters.threads P start base (own_binds limit e.adds (with_fresh_names kinds s))
      two = binds_each_asks p n limit i low s.counters.threads P start base e.adds (with_fresh_names kinds s) (same_threads i low s.counters.threads P start base s (with_fresh_names kinds s) refl (λ x b. b) (more_threads p n limit s.counters kinds) h)

      same : ((after_cell e.cell (own_binds limit e.adds (with_fresh_names kinds s)).site).threads ≡ (own_binds limit e.adds (with_fresh_names kinds s)).site.threads) × ((after_cell e.cell (own_binds limit e.adds (with_fresh_names kinds s)).site).equations ≡ (own_binds limit e.adds (with_fresh_names kinds s)).site.equations) × ((after_cell e.cell (own_binds limit e.adds (with_fresh_names kinds s)).site).counters ≡ (own_binds limit e.adds (with_fresh_names kinds s)).site.counters)
      same = cell_threads p n limit e.cell (own_binds limit e.adds (with_fresh_names kinds s)).site

      on : Asks i low s.counters.threads P start base (after_effect k.thread e (own_binds limit e.adds (with_fresh_names kinds s)).site)
      on = goes i low s.counters.threads P start base (own_binds limit e.adds (with_fresh_names kinds s)).site (after_effect k.thread e (own_binds limit e.adds (with_fresh_names kinds s)).site) k.thread (st, Runs)
          (runnable_state (living_stack (exchange_stack (content_here (own_binds limit e.adds (with_fresh_names kinds s)).site e.cell) e.cell e.stack)))
          (ap (λ (ts : Threads). with_optional_value equal_thread ts k.thread (runnable_state (living_stack (exchange_stack (content_here (own_binds limit e.adds (with_fresh_names kinds s)).site e.cell) e.cell e.stack)))) same.0) same.1 same.2
          (runs_stay p n limit e.adds (with_fresh_names kinds s) k.thread st at) runs_not two.site

      made : (after_effect k.thread e (own_binds limit e.adds (with_fresh_names kinds s)).site).counters ≡ (with_fresh_names kinds s).counters
      made = same.2 ∙ made_stay p n limit e.adds (with_fresh_names kinds s)

  -- ---- units

  bind_asks : (base : List Sent) (s : Site) (th : ThreadName) (st : Stack) (a b : Term) (u : VarName) (t : Term) (c : Bool) → thread_state s th ≡ Some (st, Runs) → stack_need p s.equations st ≡ Binds a b → IsFree s.equations u → Full base s → AsksOn base (bind_attempt p n limit th st u t c s)
  bind_asks base s th st a b u t true at need free h =
      steps_asks base (step_pick th [] (Some (u, t))) [] (effect_here p s [] (Some (u, t)) st) s st at (subst (λ (e : Effect). NewBirth p n limit i s.counters s.counters e.born) (sym (bind_effect p s.equations st a b u t need)) tt) h
  bind_asks base s th st a b u t false at need free h = asks_once i limit low s.counters.threads P start base s th st u t at free h

  kept_asks : (base : List Sent) (k : Pick) (kinds : List NameKind) (e : Effect) (s : Site) (st : Stack) → thread_state s k.thread ≡ Some (st, Runs) → Full base s → AsksOn base (kept_step_row limit k kinds e s)
  kept_asks base k kinds e s st at h = of_quiet s.counters.threads base (kept_step_row limit k kinds e s) (record {
    site = subst (λ (t : Site). Asks i low s.counters.threads P start base t) (sym (kept_site limit k kinds e s)) on;
    none = tell_each IsNone limit e.cell (with_stack k.thread (kept_stack s e) (kept_before kinds e s)) (λ b v is other m x. (refl, refl));
  })
    where
      apart : Apart (with_fresh_names kinds s) (kept_before kinds e s)
      apart = kept_apart kinds e s

      before : Asks i low s.counters.threads P start base (kept_before kinds e s)
      before = same_threads i low s.counters.threads P start base s (kept_before kinds e s) apart.threads (λ x b. subst (λ (q : Store). IsBound q x) (sym apart.rest.equations) b)
          (omega (arith, more_threads p n limit s.counters kinds, ap (λ (c : Counters). c.threads) apart.rest.counters)) h

      on : Asks i low s.counters.threads P start base (with_stack k.thread (kept_stack s e) (kept_before kinds e s))
      on = goes i low s.counters.threads P start base (kept_before kinds e s) (with_stack k.thread (kept_stack s e) (kept_before kinds e s)) k.thread (st, Runs) (runnable_state (living_stack (kept_stack s e))) refl refl refl
          (subst (λ (ts : Threads). value_of equal_thread ts k.thread ≡ Some (st, Runs)) (sym apart.threads) at) runs_not before

  way_asks : (base : List Sent) (th : ThreadName) (st : Stack) (s : Site) (step kept : Transition) (e : Effect) (d : Transition) → thread_state s th ≡ Some (st, Runs) → Full base s → AsksOn base step → AsksOn base kept → Way limit th st s step kept e d → AsksOn base d
  way_asks base th st s step kept e d at h k g (Steps finds same) = subst (AsksOn base) (sym same) k
  way_asks base th st s step kept e d at h k g (Opens q end is same) = subst (AsksOn base) (sym same) g
  way_asks base th st s step kept e d at h k g (Sends q value new end is has same) = subst (AsksOn base) (sym same) g
  way_asks base th st s step kept e d at h k g (Makes c v keeps is same) = subst (AsksOn base) (sym same) g
  way_asks base th st s step kept e d at h k g (Exchanges c new told v keeps is has same) = subst (AsksOn base) (sym same) g
  way_asks base th st s step kept e d at h k g (AsksToken c new none same) = subst (AsksOn base) (sym same) (of_quiet s.counters.threads base (request_row limit c new th st s) (cell_asks p n limit i low s.counters.threads P start base c new th st s at h))
  way_asks base th st s step kept e d at h k g (AsksPort q other same) = subst (AsksOn base) (sym same) (of_quiet s.counters.threads base (send_request_row limit q th st s) (record { site = away_asks p n limit i low s.counters.threads P start base th st (Port q) s at h; none = (λ m x. (refl, refl), tt) }))
  way_asks base th st s step kept e d at h k g (AsksHome c new told is other same) = subst (AsksOn base) (sym same) (of_quiet s.counters.threads base (home_request_row limit c new th st s) (record { site = away_asks p n limit i low s.counters.threads P start base th st (Cell c) s at h; none = (λ m x. (refl, refl), tt) }))
  way_asks base th st s step kept e d at h k g (WaitsEarly c new told is same) = subst (AsksOn base) (sym same) (of_quiet s.counters.threads base (early_request_row c new th st s)
      (record { site = same_threads i low s.counters.threads P start base (with_asking th st (Cell c) s) (early_request_row c new th st s).site refl (λ x b. b) (omega arith) (away_asks p n limit i low s.counters.threads P start base th st (Cell c) s at h); none = tt }))
  way_asks base th st s step kept e d at h k g (WaitsPort q same) = subst (AsksOn base) (sym same) (of_quiet s.counters.threads base (without_output (with_asking th st (Port q) s)) (record { site = away_asks p n limit i low s.counters.threads P start base th st (Port q) s at h; none = tt }))

  need_asks : (base : List Sent) (s : Site) (th : ThreadName) (st : Stack) (need : Need) (d : Transition) → s.records.site ≡ i → thread_state s th ≡ Some (st, Runs) → Full base s → stack_need p s.equations st ≡ need → IsUnitFor p n limit s th st need d → AsksOn base d
  need_asks base s th st (Waits x) d own at h e (z, names, g) =
      subst (AsksOn base) (sym g) (of_quiet s.counters.threads base (without_output (with_mode th st (site.Needs z) s)) (still p n limit i low s.counters.threads P start base (with_mode th st (site.Needs z) s) (goes i low s.counters.threads P start base s (with_mode th st (site.Needs z) s) th (st, Runs) (Some (st, site.Needs z)) refl refl refl at runs_not h)))
  need_asks base s th st (WaitsAny q) d own at h e (xs, open_on, g) =
      subst (AsksOn base) (sym g) (of_quiet s.counters.threads base (without_output (with_mode th st (site.WaitsAny xs) s)) (still p n limit i low s.counters.threads P start base (with_mode th st (site.WaitsAny xs) s) (goes i low s.counters.threads P start base s (with_mode th st (site.WaitsAny xs) s) th (st, Runs) (Some (st, site.WaitsAny xs)) refl refl refl at runs_not h)))
  need_asks base s th st (Binds a b) d own at h e (u, t, root, g) = subst (AsksOn base) (sym g) (bind_asks base s th st a b u t (u.site == s.records.site) at e root.1 h)
  need_asks base s th st (Takes kinds) d own at h e g =
      way_asks base th st s (thread_step p n limit th st kinds (fresh_names s kinds) None s) (kept_step p limit th st kinds (fresh_names s kinds) s) (effect_here p s (fresh_names s kinds) None st) d at h
      (steps_asks base (step_pick th (fresh_names s kinds) None) kinds (effect_here p s (fresh_names s kinds) None st) s st at
      (subst (λ (k : ℕ). NewBirth p n limit k s.counters (with_fresh_names kinds s).counters (effect_here p s (fresh_names s kinds) None st).born) own (stack_new p n limit s.records.site s.counters s.equations st kinds e)) h)
      (kept_asks base (step_pick th (fresh_names s kinds) None) kinds (effect_here p s (fresh_names s kinds) None st) s st at h)
      (way_of limit th st s (thread_step p n limit th st kinds (fresh_names s kinds) None s) (kept_step p limit th st kinds (fresh_names s kinds) s) (effect_here p s (fresh_names s kinds) None st) d g)

  units_asks : (ths : List ThreadName) (base : List Sent) (s : Site) (d : Transition) → s.records.site ≡ i → Full base s → AreUnits p n limit ths s d → AsksOn base d
  units_asks [] base s d own h e = subst (AsksOn base) (sym e) (of_quiet s.counters.threads base (without_output s) (still p n limit i low s.counters.threads P start base s h))
  units_asks (th ∷ ths) base s d own h (one, rest, unit, units, e) =
      let first : AsksOn base one = need_asks base s th unit.0 (stack_need p s.equations unit.0) one own unit.1 h refl unit.2 in
      let number : one.site.records.site ≡ i = (unit_tally p n limit th s one unit).counts.site ∙ own in
      subst (AsksOn base) (sym e) (append_both base one.sent rest.sent rest.site (units_asks ths (base ++ one.sent) one.site rest number first units))

  abbrev pub HearsNew : Option Msg → Site → Type 0
  HearsNew None s = Unit {0}
  HearsNew (Some m) s = ComesNew i P start m (opening m s).site

  heard_asks : (m : Option Msg) (s : Site) (d : Transition) → HearsNew m s → Full start s → IsReception p n limit m s d → AsksOn start d
  heard_asks None s d new h e = subst (AsksOn start) (sym e) (of_quiet s.counters.threads start (without_output s) (still p n limit i low s.counters.threads P start start s h))
  heard_asks (Some m) s d new h (inl e) = subst (AsksOn start) (sym e.1) (of_quiet s.counters.threads start (reception p limit m s) (receives_asks p n limit i low s.counters.threads P start start m s (ap (λ (c : Counters). c.threads) (sym (told_all_counters (message_bundle m) s))) refl new h))
  heard_asks (Some m) s d new h (inr e) = subst (AsksOn start) (sym e.1) (of_quiet s.counters.threads start (without_output s) (still p n limit i low s.counters.threads P start start s h))

  -- in a whole turn no thread of the site asks twice
  pub turn_asks : (m : Option Msg) (s : Site) (d : Transition) → s.records.site ≡ i → HearsNew m s → Full start s → SiteTurn p n limit s m d → Full (start ++ d.sent) d.site
  turn_asks m s d own new h (ths, few, (heard, rest, first, units, e)) =
      let one : AsksOn start heard = heard_asks m s heard new h first in
      let number : heard.site.records.site ≡ i = heard_site p n limit m s heard first ∙ own in
      subst (AsksOn start) (sym e) (append_both start heard.sent rest.sent rest.site (units_asks ths (start ++ heard.sent) heard.site rest number one units))
