-- Births, steps and requests for tokens at a site that fits.
use Rattle.std.proofs.Common.{arith, ◌≡◌, ◌≢◌, ◌∙◌, sym, ap, refl, subst, ℕ, zero, suc, ◌<◌, ◌≤◌, List, [], ◌∷◌, ◌++◌, length, Bool, true, false, cond, Some, None}
use Rattle.std.specs.Prelude.{Option, ◌==◌, ℤ, pos, negsuc}
use Rattle.tree_node.specs.declared.limits.TheConstants.{MOST_SITES}
use Rattle.tree_node.specs.declared.names.VarName.{VarName}
use Rattle.tree_node.specs.declared.names.CellName.{CellName}
use Rattle.tree_node.specs.declared.names.PortName.{PortName}
use Rattle.tree_node.specs.declared.names.ThreadName.{ThreadName}
use Rattle.tree_node.specs.declared.names.NameKind.{NameKind}
use Rattle.tree_node.specs.declared.names.NameKind.TheVariants as kind
use Rattle.tree_node.specs.declared.node.Term.{Term}
use Rattle.tree_node.specs.declared.pick.Pick.{Pick}
use Rattle.tree_node.specs.declared.item.Item.TheVariants.{Run}
use Rattle.tree_node.specs.Assoc.{value_of, with_value, with_optional_value}
use Rattle.tree_node.specs.Each.{Each}
use Rattle.tree_node.specs.Env.{env_for}
use Rattle.tree_node.specs.Goal.{IsAllowedBind, Binds}
use Rattle.tree_node.specs.State.{Stack, equal_thread}
use Rattle.tree_node.specs.Store.{Equation}
use Rattle.tree_node.proofs.EachLemmas.{each_append}
use Rattle.tree_node.proofs.NameLemmas.{same_thread_decides}
use Rattle.kernel_syntax.specs.declared.stmt.Stmt.{Stmt}
use Rattle.kernel_syntax.specs.Free.{free}
use Rattle.kernel_syntax.specs.Program.{IsProgram}
use Rattle.site_message.specs.declared.message.Msg.TheVariants as msg
use Rattle.site_message.specs.declared.message.Sent.{Sent}
use Rattle.site_message.specs.Wire.{IsSite, FitsVar, FitsCell, FitsWire}
use Rattle.oz_model.specs.Need.{Need, stack_need, kinds_of}
use Rattle.oz_model.specs.Need as need
use Rattle.oz_model.specs.Effect.{Birth, CellChange, Stays, Made, Exchanged, Effect}
use Rattle.oz_model.specs.EffectNames.{EachOfChange}
use Rattle.oz_model.specs.Step.{AreOfKinds, IsBindFor, living_stack}
use Rattle.oz_model.proofs.ClosureLemmas.{for_names}
use Rattle.oz_model.proofs.CoverLemmas.{covers_for}
use Rattle.bind_protocol.specs.Rows.{sent_message}
use Rattle.thread_roster.specs.declared.mode.Awaited.{Awaited}
use Rattle.thread_roster.specs.declared.mode.Awaited.TheVariants.{Cell, Port}
use Rattle.thread_roster.specs.declared.mode.Mode.TheVariants.{Runs}
use Rattle.thread_roster.specs.declared.mode.Mode.TheVariants as mode
use Rattle.thread_roster.specs.Binds.{goes_on}
use Rattle.token_chain.specs.declared.token.Token.{Token}
use Rattle.token_chain.specs.declared.token.Token.TheVariants.{Away, Asked, Here}
use Rattle.token_chain.specs.Holding.{here_with}
use Rattle.site_model.specs.Site.{Site, ThreadState, Threads, Counters, thread_state, cell_record, with_cell_record}
use Rattle.site_model.specs.Bundle.{with_own_bundle}
use Rattle.site_model.specs.Transition.{without_output, with_messages}
use Rattle.site_model.specs.Variables.{own_binds}
use Rattle.site_model.specs.Cells.{exchange_stack, with_own_request, with_last_asker, with_exchange_waiting, request_row}
use Rattle.site_model.specs.Requests.{with_asking}
use Rattle.site_model.specs.Messages.{with_thread}
use Rattle.site_model.specs.Unit.{home_among, next_names, counter_after, with_fresh_names, placement, birth_row, content_here, after_cell, runnable_state, after_effect, step_row, step_pick, effect_here, IsTokenHere, bind_attempt, with_mode}
use Rattle.site_model.proofs.EffectLemmas.{bind_effect}
use Rattle.world_model.proofs.KeyLemmas.{goes_there, woken_new}
use Rattle.world_model.proofs.AbsentLemmas.{woken_none}
use Rattle.site_wire.specs.Sending.{IsOfSites, EquationsFit, StackFits, IsAtNameless, IsAtSend, ThreadFits, QueueFits, ContentFits, SiteFits, TransitionFits}
use Rattle.site_wire.proofs.TextLemmas.{free_short}
use Rattle.site_wire.proofs.TermLemmas.{term_spelled}
use Rattle.site_wire.proofs.BundleLemmas.{carried}
use Rattle.site_wire.proofs.EffectLemmas.{BirthFits, EffectFits, effect_fits}
use Rattle.site_wire.proofs.ThreadLemmas.{running_fits, goes_fit, starts_fit, lines_up}
use Rattle.site_wire.proofs.CellLemmas.{request_fits, contents_put, queues_put, line_mobile}
use Rattle.site_wire.proofs.SiteLemmas.{still, binds_fit, fresh_fits, reply_fits, in_queue}
use Rattle.site_model.proofs.FrameLemmas.{binds_counters}

-- ---- fresh names

-- a home is one of the sites
home_low : (n : ℕ) (k : ℤ) → n ≤ MOST_SITES → home_among n k ≤ MOST_SITES
home_low (suc n) (pos (suc k)) few = omega (arith, few)
home_low (suc n) (pos zero) few = omega arith
home_low (suc n) (negsuc k) few = omega arith
home_low zero k few = omega arith

pub fresh_of : (i : ℕ) (c : Counters) (kinds : List NameKind) → IsSite i → c.sites ≤ MOST_SITES → Each IsOfSites (next_names i c kinds)
fresh_of i c [] low few = tt
fresh_of i c (kind.Var ∷ ks) low few = (low, fresh_of i (counter_after c kind.Var) ks low few)
fresh_of i c (kind.Cell ∷ ks) low few = ((low, omega arith), fresh_of i (counter_after c kind.Cell) ks low few)
fresh_of i c ((kind.CellAt k) ∷ ks) low few = ((low, home_low c.sites k few), fresh_of i (counter_after c (kind.CellAt k)) ks low few)
fresh_of i c (kind.Proc ∷ ks) low few = (low, fresh_of i (counter_after c kind.Proc) ks low few)
fresh_of i c (kind.Port ∷ ks) low few = (low, fresh_of i (counter_after c kind.Port) ks low few)
fresh_of i c (kind.Thread ∷ ks) low few = (low, fresh_of i (counter_after c kind.Thread) ks low few)

-- ---- a name that no thread has

dead_goes : (ts : Threads) (th n : ThreadName) (r : Option ThreadState) (w : ThreadState) → value_of equal_thread ts th ≡ Some w → value_of equal_thread ts n ≡ None → value_of equal_thread (with_optional_value equal_thread ts th r) n ≡ None
dead_goes ts th n r w now none = goes_there equal_thread same_thread_decides ts th n r apart ∙ none
  where
    apart : th ≢ n
    apart same =
        let here : value_of equal_thread ts n ≡ Some w = subst (λ (z : ThreadName). value_of equal_thread ts z ≡ Some w) same now in
        let contrary : ◌≡◌ {A = Option ThreadState} None (Some w) = sym none ∙ here in cc

dead_binds : (limit : ℕ) (es : List Equation) (s : Site) (n : ThreadName) → thread_state s n ≡ None → thread_state (own_binds limit es s).site n ≡ None
dead_binds limit [] s n none = none
dead_binds limit (e ∷ es) s n none = woken_none (goes_on (e ∷ (own_binds limit es s).site.equations) e.0) (own_binds limit es s).site.threads n (dead_binds limit es s n none)

-- ---- what binds leave as it was

runs_stay : (limit : ℕ) (es : List Equation) (s : Site) (th : ThreadName) (st : Stack) → thread_state s th ≡ Some (st, Runs) → thread_state (own_binds limit es s).site th ≡ Some (st, Runs)
runs_stay limit [] s th st e = e
runs_stay limit (q ∷ es) s th st e = woken_new (goes_on (q ∷ (own_binds limit es s).site.equations) q.0) (own_binds limit es s).site.threads th st Runs (runs_stay limit es s th st e)

tokens_stay : (limit : ℕ) (es : List Equation) (s : Site) (c : CellName) → IsTokenHere s c → IsTokenHere (own_binds limit es s).site c
tokens_stay limit [] s c h = h
tokens_stay limit (q ∷ es) s c h = tokens_stay limit es s c h

-- what a step takes: a name for the thread that it bears, and the token of the cell that it exchanges
pub record IsGiven (i : ℕ) (kinds : List NameKind) (e : Effect) (s : Site) : Type 0 where
  pub none : (b : Birth) → e.born ≡ Some b → thread_state s b.name ≡ None
  pub number : (b : Birth) → e.born ≡ Some b → b.name.site ≡ i → b.name.num < (with_fresh_names kinds s).counters.threads
  pub token : (c : CellName) (new told : VarName) → e.cell ≡ Exchanged c new told → IsTokenHere s c

module _ (p : List Stmt) (is : IsProgram p) (n limit : ℕ) (high : limit ≤ 256) (i : ℕ) (low : IsSite i) where
  -- ---- threads

  pub thread_fits : (th : ThreadName) (st : Stack) (r : Option ThreadState) (s : Site) → thread_state s th ≡ Some (st, Runs) → ((v : ThreadState) → r ≡ Some v → ThreadFits p th v) → SiteFits p i s
      → SiteFits p i (record s { threads = with_optional_value equal_thread s.threads th r })
  thread_fits th st r s now f h = record { site = h.site; equations = h.equations; owners = h.owners; threads = goes_fit p i s.counters.threads s.threads _ th st r now f h.threads; contents = h.contents; kept = h.kept }

  pub needing_fits : (th : ThreadName) (st : Stack) (x : VarName) (s : Site) → thread_state s th ≡ Some (st, Runs) → SiteFits p i s → SiteFits p i (with_mode th st (mode.Needs x) s)
  needing_fits th st x s now h = thread_fits th st (Some (st, mode.Needs x)) s now (λ v e. running_fits p th st (mode.Needs x) (λ (a : Awaited) (q : mode.Needs x ≡ mode.WaitsFor a). cc) (st, Runs) (h.threads.each th (st, Runs) now) (h.threads.each th (st, Runs) now).stack v e) h

  waits_fits : (th : ThreadName) (st : Stack) (x : VarName) (s : Site) → thread_state s th ≡ Some (st, Runs) → SiteFits p i s → SiteFits p i (with_mode th st (mode.Waits x) s)
  waits_fits th st x s now h = thread_fits th st (Some (st, mode.Waits x)) s now (λ v e. running_fits p th st (mode.Waits x) (λ (a : Awaited) (q : mode.Waits x ≡ mode.WaitsFor a). cc) (st, Runs) (h.threads.each th (st, Runs) now) (h.threads.each th (st, Runs) now).stack v e) h

  pub several_fits : (th : ThreadName) (st : Stack) (xs : List VarName) (s : Site) → thread_state s th ≡ Some (st, Runs) → SiteFits p i s → SiteFits p i (with_mode th st (mode.WaitsAny xs) s)
  several_fits th st xs s now h = thread_fits th st (Some (st, mode.WaitsAny xs)) s now (λ v e. running_fits p th st (mode.WaitsAny xs) (λ (a : Awaited) (q : mode.WaitsAny xs ≡ mode.WaitsFor a). cc) (st, Runs) (h.threads.each th (st, Runs) now) (h.threads.each th (st, Runs) now).stack v e) h

  pub begins_fits : (b : Birth) (s : Site) → BirthFits p (Some b) → thread_state s b.name ≡ None → (b.name.site ≡ i → b.name.num < s.counters.threads) → SiteFits p i s → SiteFits p i (with_thread p (Some b) s)
  begins_fits b s f none below h = record {
    site = h.site;
    equations = h.equations;
    owners = h.owners;
    threads = starts_fit p i s.counters.threads s.threads _ b.name (Run b.code (env_for (free p b.code) b.vars) ∷ []) none f.0
        (record { names = (for_names IsOfSites (free p b.code) b.vars f.1, tt); nodes = (tt, tt); covered = (covers_for (free p b.code) b.vars f.2, tt) }) below h.threads;
    contents = h.contents;
    kept = h.kept;
  }

  bears_fit : (o : Option Birth) (s : Site) → BirthFits p o → ((b : Birth) → o ≡ Some b → (thread_state s b.name ≡ None) × (b.name.site ≡ i → b.name.num < s.counters.threads)) → SiteFits p i s → TransitionFits p i (birth_row p n limit o s)
  bears_fit None s f g h = still p is limit high i low s h
  bears_fit (Some b) s f g h = go (placement n s.records.site b.at == s.records.site)
    where
      few : length b.vars ≤ 65535
      few = let short = free_short p is b.code in omega (arith, f.2, short)

      go : (c : Bool) → TransitionFits p i (cond c (without_output (with_thread p (Some b) s)) (with_messages s (with_own_bundle limit s.equations (sent_message (placement n s.records.site b.at) (msg.Spawn b.name b.code b.vars [])) ∷ [])))
      go true = still p is limit high i low (with_thread p (Some b) s) (begins_fits b s f (g b refl).0 (g b refl).1 h)
      go false = record { site = h; sent = (carried p is limit high s.equations (msg.Spawn b.name b.code b.vars []) h.equations (f.0, (few, f.1), (omega arith, tt, tt)), tt) }

  -- ---- cells

  record_fits : (c : CellName) (t : Token) (s : Site) → ContentFits t → SiteFits p i s → SiteFits p i (with_cell_record s c (record (cell_record s c) { held = record (cell_record s c).held { token = t } }))
  record_fits c t s f h = record {
    site = h.site;
    equations = h.equations;
    owners = h.owners;
    threads = queues_put p i s.counters.threads s.threads s.cell_records s.homes c (record (cell_record s c) { held = record (cell_record s c).held { token = t } }) (in_queue p is limit high i low c s h) h.threads;
    contents = contents_put s.cell_records c (record (cell_record s c) { held = record (cell_record s c).held { token = t } }) f h.contents;
    kept = h.kept;
  }

  cell_fits : (c : CellChange) (s : Site) → EachOfChange IsOfSites c → SiteFits p i s → SiteFits p i (after_cell c s)
  cell_fits Stays s f h = h
  cell_fits (Made c v) s f h = record {
    site = h.site;
    equations = h.equations;
    owners = h.owners;
    threads = queues_put p i s.counters.threads s.threads s.cell_records s.homes c (record { held = here_with v; queue = [] }) (λ e. record { once = tt; inside = tt }) h.threads;
    contents = contents_put s.cell_records c (record { held = here_with v; queue = [] }) f.1 h.contents;
    kept = h.kept;
  }
  cell_fits (Exchanged c new told) s f h = record_fits c (Here new) s f.1 h

  cell_alike : (c : CellChange) (s : Site) → ((after_cell c s).threads ≡ s.threads) × ((after_cell c s).counters ≡ s.counters)
  cell_alike Stays s = (refl, refl)
  cell_alike (Made c v) s = (refl, refl)
  cell_alike (Exchanged c new told) s = (refl, refl)

  -- the stack goes on with the content that was here
  pub settled_fits : (v : VarName) (c : CellChange) (st : Stack) → ((d : CellName) (new told : VarName) → c ≡ Exchanged d new told → FitsVar v) → EachOfChange IsOfSites c → StackFits p st → StackFits p (exchange_stack v c st)
  settled_fits v Stays st f g h = h
  settled_fits v (Made d w) st f g h = h
  settled_fits v (Exchanged d new told) st f g h = record {
    names = ((((g.2, f d new told refl), tt), tt), h.names);
    nodes = ((((tt, tt), tt), tt), h.nodes);
    covered = (tt, h.covered);
  }

  here_fits : (c : CellChange) (s : Site) → ((d : CellName) (new told : VarName) → c ≡ Exchanged d new told → IsTokenHere s d) → SiteFits p i s → (d : CellName) (new told : VarName) → c ≡ Exchanged d new told → FitsVar (content_here s c)
  here_fits Stays s f h d new told e = cc
  here_fits (Made b w) s f h d new told e = cc
  here_fits (Exchanged b m t) s f h d new told e = go (f b m t refl)
    where
      go : IsTokenHere s b → FitsVar (content_here s (Exchanged b m t))
      go (v, k) = rw k (subst ContentFits k (h.contents b))

  pub left_fits : (th : ThreadName) (st : Stack) (w : ThreadState) → ThreadFits p th w → StackFits p st → (v : ThreadState) → runnable_state (living_stack st) ≡ Some v → ThreadFits p th v
  left_fits th [] w f h v e = cc
  left_fits th (k ∷ st) w f h v e = running_fits p th (k ∷ st) Runs (λ (a : Awaited) (q : Runs ≡ mode.WaitsFor a). cc) w f h v e

  -- ---- steps

  pub steps_fit : (k : Pick) (kinds : List NameKind) (e : Effect) (s : Site) (st : Stack) → thread_state s k.thread ≡ Some (st, Runs) → EffectFits p e → IsGiven i kinds e s → SiteFits p i s → TransitionFits p i (step_row p n limit k kinds e s)
  steps_fit k kinds e s st now f g h = record {
    site = born.site;
    sent = each_append (λ (m : Sent). FitsWire m.msg) ((own_binds limit e.adds (with_fresh_names kinds s)).sent ++ []) _ (each_append (λ (m : Sent). FitsWire m.msg) (own_binds limit e.adds (with_fresh_names kinds s)).sent [] bound.sent tt) born.sent;
  }
    where
      bound : TransitionFits p i (own_binds limit e.adds (with_fresh_names kinds s))
      bound = binds_fit p is limit high i low e.adds (with_fresh_names kinds s) f.adds (fresh_fits p is limit high i low kinds s h)

      still_runs : thread_state (own_binds limit e.adds (with_fresh_names kinds s)).site k.thread ≡ Some (st, Runs)
      still_runs = runs_stay limit e.adds (with_fresh_names kinds s) k.thread st now

      same : ((after_cell e.cell (own_binds limit e.adds (with_fresh_names kinds s)).site).threads ≡ (own_binds limit e.adds (with_fresh_names kinds s)).site.threads) × ((after_cell e.cell (own_binds limit e.adds (with_fresh_names kinds s)).site).counters ≡ (own_binds limit e.adds (with_fresh_names kinds s)).site.counters)
      same = cell_alike e.cell (own_binds limit e.adds (with_fresh_names kinds s)).site

      runs : thread_state (after_cell e.cell (own_binds limit e.adds (with_fresh_names kinds s)).site) k.thread ≡ Some (st, Runs)
      runs = subst (λ (ts : Threads). value_of equal_thread ts k.thread ≡ Some (st, Runs)) (sym same.0) still_runs

      changed : SiteFits p i (after_cell e.cell (own_binds limit e.adds (with_fresh_names kinds s)).site)
      changed = cell_fits e.cell (own_binds limit e.adds (with_fresh_names kinds s)).site f.cell bound.site

      content : (d : CellName) (new told : VarName) → e.cell ≡ Exchanged d new told → FitsVar (content_here (own_binds limit e.adds (with_fresh_names kinds s)).site e.cell)
      content = here_fits e.cell (own_binds limit e.adds (with_fresh_names kinds s)).site (λ d new told q. tokens_stay limit e.adds (with_fresh_names kinds s) d (g.token d new told q)) bound.site

      left : StackFits p (exchange_stack (content_here (own_binds limit e.adds (with_fresh_names kinds s)).site e.cell) e.cell e.stack)
      left = settled_fits (content_here (own_binds limit e.adds (with_fresh_names kinds s)).site e.cell) e.cell e.stack content f.cell f.stack

      on : SiteFits p i (after_effect k.thread e (own_binds limit e.adds (with_fresh_names kinds s)).site)
      on = let t : SiteFits p i (record (after_cell e.cell (own_binds limit e.adds (with_fresh_names kinds s)).site) { threads = with_optional_value equal_thread (after_cell e.cell (own_binds limit e.adds (with_fresh_names kinds s)).site).threads k.thread (runnable_state (living_stack (exchange_stack (content_here (own_binds limit e.adds (with_fresh_names kinds s)).site e.cell) e.cell e.stack))) }) =
          thread_fits k.thread st (runnable_state (living_stack (exchange_stack (content_here (own_binds limit e.adds (with_fresh_names kinds s)).site e.cell) e.cell e.stack))) (after_cell e.cell (own_binds limit e.adds (with_fresh_names kinds s)).site) runs
          (left_fits k.thread (exchange_stack (content_here (own_binds limit e.adds (with_fresh_names kinds s)).site e.cell) e.cell e.stack) (st, Runs) (changed.threads.each k.thread (st, Runs) runs) left) changed in
          record { site = t.site; equations = t.equations; owners = t.owners; threads = t.threads; contents = t.contents; kept = t.kept }

      given : (b : Birth) → e.born ≡ Some b → (thread_state (after_effect k.thread e (own_binds limit e.adds (with_fresh_names kinds s)).site) b.name ≡ None) × (b.name.site ≡ i → b.name.num < (after_effect k.thread e (own_binds limit e.adds (with_fresh_names kinds s)).site).counters.threads)
      given b q = (
        dead_goes (after_cell e.cell (own_binds limit e.adds (with_fresh_names kinds s)).site).threads k.thread b.name _ (st, Runs) runs
            (subst (λ (ts : Threads). value_of equal_thread ts b.name ≡ None) (sym same.0) (dead_binds limit e.adds (with_fresh_names kinds s) b.name (g.none b q))),
        (λ mine. subst (λ (c : Counters). b.name.num < c.threads) (sym (same.1 ∙ binds_counters limit e.adds (with_fresh_names kinds s))) (g.number b q mine)),
      )

      born : TransitionFits p i (birth_row p n limit e.born (after_effect k.thread e (own_binds limit e.adds (with_fresh_names kinds s)).site))
      born = bears_fit e.born (after_effect k.thread e (own_binds limit e.adds (with_fresh_names kinds s)).site) f.born given on

  -- ---- binds

  pub bind_attempts_fit : (s : Site) (th : ThreadName) (st : Stack) (a b : Term) (u : VarName) (t : Term) (c : Bool) → thread_state s th ≡ Some (st, Runs) → stack_need p s.equations st ≡ need.Binds a b → IsAllowedBind s.equations a b (u, t) → SiteFits p i s
      → TransitionFits p i (bind_attempt p n limit th st u t c s)
  bind_attempts_fit s th st a b u t c now needs allows h = go c
    where
      was : ThreadFits p th (st, Runs)
      was = h.threads.each th (st, Runs) now

      f : EffectFits p (effect_here p s [] (Some (u, t)) st)
      f = effect_fits p is s.equations [] (Some (u, t)) st h.equations was.stack tt (subst (λ (d : Need). AreOfKinds [] (kinds_of d)) (sym needs) tt) (subst (λ (d : Need). IsBindFor s.equations d (Some (u, t))) (sym needs) allows)

      only : EquationsFit p ((u, t) ∷ [])
      only = subst (λ (e : Effect). EquationsFit p e.adds) (bind_effect p s.equations st a b (u, t) needs) f.adds

      none_born : (q : Birth) → (effect_here p s [] (Some (u, t)) st).born ≡ Some q → ⊥
      none_born q e = let contrary : ◌≡◌ {A = Option Birth} None (Some q) = sym (ap (λ (k : Effect). k.born) (bind_effect p s.equations st a b (u, t) needs)) ∙ e in cc

      none_exchanged : (d : CellName) (new told : VarName) → (effect_here p s [] (Some (u, t)) st).cell ≡ Exchanged d new told → ⊥
      none_exchanged d new told e = let contrary : Stays ≡ Exchanged d new told = sym (ap (λ (k : Effect). k.cell) (bind_effect p s.equations st a b (u, t) needs)) ∙ e in cc

      go : (c : Bool) → TransitionFits p i (bind_attempt p n limit th st u t c s)
      go true = steps_fit (step_pick th [] (Some (u, t))) [] (effect_here p s [] (Some (u, t)) st) s st now f
          (record { none = λ q e. absurd (none_born q e); number = λ q e. absurd (none_born q e); token = λ d new told e. absurd (none_exchanged d new told e) }) h
      go false = record {
        site = waits_fits th st u s now h;
        sent = (carried p is limit high s.equations (msg.BindReq u th t []) h.equations (only.names.0.0, was.name, term_spelled p is t (only.names.0.1, only.nodes.0), (omega arith, tt, tt)), tt);
      }

  -- ---- requests

  own_request_fits : (c : CellName) (t : Token) (s : Site) → SiteFits p i s → SiteFits p i (with_own_request c t s)
  own_request_fits c Away s h = go (c.site == s.records.site)
    where
      go : (b : Bool) → SiteFits p i (cond b (with_last_asker c s.records.site s) s)
      go true = record { site = h.site; equations = h.equations; owners = h.owners; threads = h.threads; contents = h.contents; kept = h.kept }
      go false = h
  own_request_fits c Asked s h = h
  own_request_fits c (Here v) s h = h

  own_request_threads : (c : CellName) (t : Token) (s : Site) → (with_own_request c t s).threads ≡ s.threads
  own_request_threads c Away s = go (c.site == s.records.site)
    where
      go : (b : Bool) → (cond b (with_last_asker c s.records.site s) s).threads ≡ s.threads
      go true = refl
      go false = refl
  own_request_threads c Asked s = refl
  own_request_threads c (Here v) s = refl

  -- the thread waits for this
  pub asking_stands : (th : ThreadName) (st : Stack) (a : Awaited) (s : Site) → thread_state s th ≡ Some (st, Runs) → ((c : CellName) → a ≡ Cell c → IsAtNameless p st) → ((q : PortName) → a ≡ Port q → IsAtSend p st) → SiteFits p i s
      → SiteFits p i (with_asking th st a s)
  asking_stands th st a s now calm sends h = thread_fits th st (Some (st, mode.WaitsFor a)) s now (λ v e. stood v e) h
    where
      was : ThreadFits p th (st, Runs)
      was = h.threads.each th (st, Runs) now

      stood : (v : ThreadState) → ◌≡◌ {A = Option ThreadState} (Some (st, mode.WaitsFor a)) (Some v) → ThreadFits p th v
      stood v e =
          let same : ◌≡◌ {A = ThreadState} (st, mode.WaitsFor a) v = cc in
          subst (ThreadFits p th) same (record {
            name = was.name;
            stack = was.stack;
            calm = λ c q. (let k : a ≡ Cell c = cc in calm c k);
            sends = λ r q. (let k : a ≡ Port r = cc in sends r k);
          })

  pub requests_fit : (c : CellName) (new : VarName) (th : ThreadName) (st : Stack) (s : Site) → thread_state s th ≡ Some (st, Runs) → IsAtNameless p st → FitsCell c → FitsVar new → SiteFits p i s → TransitionFits p i (request_row limit c new th st s)
  requests_fit c new th st s now calm pc fits h = reply_fits p is limit high i low c _ _ (with_own_request c (cell_record s c).held.token (with_exchange_waiting c th st s)) pc
      (request_fits c.site _ s.records.site new (cell_record s c).held (subst IsSite (sym h.site) low) fits)
      (λ e. subst (λ (ts : Threads). QueueFits ts c ((cell_record s c).queue ++ th ∷ [])) (sym (own_request_threads c (cell_record s c).held.token (with_exchange_waiting c th st s)))
      (subst (λ (ns : List ThreadName). QueueFits (with_value equal_thread s.threads th (st, mode.WaitsFor (Cell c))) c (ns ++ th ∷ [])) (line_mobile i s.cell_records s.homes c e) (lines_up p i s.counters.threads s.threads _ th c st now h.threads stands.threads)))
      (own_request_fits c (cell_record s c).held.token (with_exchange_waiting c th st s) stands)
    where
      stands : SiteFits p i (with_exchange_waiting c th st s)
      stands = asking_stands th st (Cell c) s now (λ d q. calm) (λ q k. cc) h
