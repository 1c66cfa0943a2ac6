-- Each unit of a site, those that exchange cells among them, is followed by the centre.
use Rattle.std.proofs.Common.{◌≡◌, ◌∙◌, sym, ap, refl, subst, ℕ, List, [], ◌∷◌, ◌++◌, ◌⊎◌, inl, inr, Bool, true, false, Some, None, append-nil}
use Rattle.std.specs.Prelude.{Option, ◌≢◌, ◌==◌, unwrap_or, codes}
use Rattle.tree_node.specs.declared.names.VarName.{VarName}
use Rattle.tree_node.specs.declared.names.CellName.{CellName}
use Rattle.tree_node.specs.declared.names.ThreadName.{ThreadName}
use Rattle.tree_node.specs.declared.names.Name.{Name}
use Rattle.tree_node.specs.declared.names.Name.TheVariants as name
use Rattle.tree_node.specs.declared.names.NameKind.{NameKind}
use Rattle.tree_node.specs.declared.node.Node.{Node}
use Rattle.tree_node.specs.declared.node.Term.{Term}
use Rattle.tree_node.specs.declared.item.Item.TheVariants.{Run, Goals, Mark, Report}
use Rattle.tree_node.specs.declared.pick.Pick.{Pick}
use Rattle.tree_node.specs.Assoc.{value_of, with_value}
use Rattle.tree_node.specs.Compare.{Pair}
use Rattle.tree_node.specs.Each.{Each, AreDistinct}
use Rattle.tree_node.specs.Env.{Env}
use Rattle.tree_node.specs.Goal.{Case, Dropped, Binds, Opened, Failed, case_of, equal_cell}
use Rattle.tree_node.specs.Shown.{shown}
use Rattle.tree_node.specs.Names.{IsNew}
use Rattle.tree_node.specs.State.{Stack, State, equal_thread}
use Rattle.tree_node.specs.Store.{Store, Equation, IsSound}
use Rattle.kernel_syntax.specs.declared.stmt.Stmt.{Stmt}
use Rattle.kernel_syntax.specs.Free.{stmt_at}
use Rattle.oz_model.specs.declared.outcome.Outcome.{Outcome}
use Rattle.oz_model.specs.declared.outcome.Outcome.TheVariants as outcome
use Rattle.oz_model.specs.declared.outcome.SystemException.{SystemException}
use Rattle.oz_model.specs.declared.outcome.SystemException.TheVariants.{FailureTell}
use Rattle.oz_model.specs.Outcome.{outcome_of, print_outcome}
use Rattle.oz_model.specs.Need as need
use Rattle.oz_model.specs.Need.{Need, Takes, stack_need, outcome_need, goal_need, pair_need, kinds_of}
use Rattle.oz_model.specs.Effect.{Effect, Birth, CellChange, Stays, Made, Exchanged, PortChange, Keeps, Opened as OpenedPort, Sent, stack_effect, outcome_effect, goal_effect, pair_effect, exception_effect, vars_among}
use Rattle.oz_model.specs.Laws.{FindsCell}
use Rattle.oz_model.specs.Run.{IsRun, start, Run as ModelRun}
use Rattle.oz_model.specs.Step as Step
use Rattle.oz_model.specs.Step.{AreOfKinds, next}
use Rattle.oz_model.proofs.CellLemmas.{steps_find_cells}
use Rattle.oz_model.specs.EffectNames.{EachOfChange}
use Rattle.oz_model.proofs.ExchangeLemmas.{MakesFrom, stack_makes}
use Rattle.oz_model.proofs.OnceLemmas.{BornFrom, stack_born}
use Rattle.bind_protocol.specs.Records.{Records}
use Rattle.token_chain.specs.declared.token.Token.TheVariants.{Away}
use Rattle.token_chain.specs.Holding.{Holding}
use Rattle.token_chain.proofs.MoveLemmas.{tokens_have_contents}
use Rattle.site_model.specs.Site.{Site, ThreadState, Threads, CellRecord, cell_record, thread_state}
use Rattle.thread_roster.specs.declared.mode.Awaited.TheVariants.{Cell}
use Rattle.thread_roster.specs.declared.mode.Mode.{Mode}
use Rattle.thread_roster.specs.declared.mode.Mode.TheVariants as site
use Rattle.site_model.specs.Transition.{Transition, without_output}
use Rattle.site_model.specs.Cells.{request_row, with_exchange_waiting}
use Rattle.site_model.specs.Unit.{IsUnit, IsUnitFor, IsStepOrRequest, kept_step, IsCellUnit as IsUnitOfCell, IsRootBind, bind_attempt, counters_after, token_content, content_here, next_names, step_row, step_pick, IsTokenHere, with_mode}
use Rattle.world_model.specs.World.{World, after_transition, records, threads, counters, eqs}
use Rattle.world_model.specs.Names.{IsHere, here_at}
use Rattle.world_model.specs.Matches.{IsNumbered, CellsMatch, IsExchange}
use Rattle.world_model.proofs.PutLemmas.{field_kept, at_here, nat_decides}
use Rattle.world_variables.proofs.PlaceLemmas.{none_at}
use Rattle.world_variables.proofs.OwnLemmas.{new_none}
use Rattle.world_variables.proofs.MakeLemmas.{IsNextOf, next_are}
use Rattle.world_model.proofs.CellLemmas.{OnlyCells, request_only}
use Rattle.world_cells.proofs.QueueLemmas.{SameWaiters, goes_waiters, running_not, mode_in}
use Rattle.world_cells.proofs.CellRowLemmas.{asks_kept}
use Rattle.world_cells.proofs.ExchangeStepLemmas.{exchange_found}
use Rattle.world_variables.proofs.RunsLemmas.{runs_append}
use Rattle.world_variables.proofs.ReceiveLemmas.{numbered_acts}
use Rattle.world_variables.proofs.UnitLemmas.{step_here, SiteStep, CellAgrees, UnitDone, unit_step}
use Rattle.world_variables.proofs.FollowLemmas.{Follows, steps_picks, unit_follows, kept_made, kept_exchanged, kept_opened, kept_sent, stays_cell}
use Rattle.site_model.proofs.EffectLemmas.{bind_effect}
use Rattle.world_cells.proofs.FrameLemmas.{NoCells}
use Rattle.world_variables.specs.Plain.{IsKept, IsCellUnit}
use Rattle.world_cells.proofs.ChainLemmas.{ChainAt}
use Rattle.world_cells.proofs.UnitCellLemmas.{begun}
use Rattle.world_cells.proofs.UnitQueueLemmas.{IsUnused}
use Rattle.world_variables.proofs.SumLemmas.{names, with_names, SameSums, Sums, sums_row, quiet_summed, same_summed, IsUnborn, steps_summed}
use Rattle.world_cells.proofs.UnitCellRowLemmas.{nothing_match, same_match, IsReachable, reach_mobile, IsOwnCell, IsContentHere, begun_place, unit_match}
use Rattle.world_variables.specs.Laws.{PartsIn}
use Rattle.oz_model.proofs.KindLemmas.{cells_differ}
use Rattle.oz_model.proofs.ExchangeLemmas.{put_there}
pub use Rattle.world_cells.specs.Reached.{Reached, ReachedFrom, KeepsAnswers}
use Rattle.world_cells.specs.Standing.{IsKeptUnit}
use Rattle.world_model.proofs.MobileLemmas.{IsMobile, mobile_has, mobile_after, finds_mobile}
use Rattle.world_model.specs.Chain.{mobile_cells}
use Rattle.thread_roster.specs.declared.mode.Awaited.{Awaited}

-- ---- an exchange takes no names

abbrev pub IsLone : List NameKind → Effect → Effect → Type 0
IsLone kinds e none = (c : CellName) (new told : VarName) → e.cell ≡ Exchanged c new told → (kinds ≡ []) × (none ≡ e)

fails_lone : (kinds : List NameKind) (x : SystemException) (rest : Stack) (xs : List VarName) (none : Effect) → IsLone kinds (exception_effect x rest xs) none
fails_lone kinds x rest [] none c new told e = cc
fails_lone kinds x rest (a ∷ []) none c new told e = cc
fails_lone kinds x rest (a ∷ b ∷ []) none c new told e = cc
fails_lone kinds x rest (a ∷ b ∷ y ∷ ys) none c new told e = cc

outcome_lone : (p : List Stmt) (env : Env) (rest : Stack) (fresh : List Name) (o : Outcome) → IsLone (kinds_of (outcome_need o)) (outcome_effect p env rest fresh o) (outcome_effect p env rest [] o)
outcome_lone p env rest fresh (outcome.Exchanges cell n t) c new told e = (refl, refl)
outcome_lone p env rest fresh (outcome.Fails exception) c new told e = fails_lone _ exception rest (vars_among fresh) _ c new told e
outcome_lone p env rest fresh (outcome.MakesCell at content t) c new told e = cc
outcome_lone p env rest fresh (outcome.MakesPort stream t) c new told e = cc
outcome_lone p env rest fresh (outcome.Sends port value) c new told e = cc
outcome_lone p env rest fresh (outcome.Waits x) c new told e = cc
outcome_lone p env rest fresh (outcome.WaitsAny left right) c new told e = cc
outcome_lone p env rest fresh (outcome.Runs codes) c new told e = cc
outcome_lone p env rest fresh (outcome.Tells x t) c new told e = cc
outcome_lone p env rest fresh (outcome.Declares first count body) c new told e = cc
outcome_lone p env rest fresh (outcome.MakesProc left code formals vars) c new told e = cc
outcome_lone p env rest fresh (outcome.Spawns at body vars) c new told e = cc
outcome_lone p env rest fresh (outcome.Tries body body_env handler first handler_env) c new told e = cc
outcome_lone p env rest fresh (outcome.Raises x) c new told e = cc
outcome_lone p env rest fresh (outcome.Prints line) c new told e = cc

pair_lone : (a b : Term) (pairs : List (Term × Term)) (met : List (Node × Node)) (rest : Stack) (fresh : List Name) (x : Case) → IsLone (kinds_of (pair_need a b x)) (pair_effect a b pairs met rest fresh None x) (pair_effect a b pairs met rest [] None x)
pair_lone a b pairs met rest fresh Dropped c new told e = cc
pair_lone a b pairs met rest fresh Binds c new told e = cc
pair_lone a b pairs met rest fresh (Opened m n fields) c new told e = cc
pair_lone a b pairs met rest fresh Failed c new told e = fails_lone _ FailureTell rest (vars_among fresh) _ c new told e

pub stack_lone : (p : List Stmt) (s : Store) (fresh : List Name) (st : Stack) → IsLone (kinds_of (stack_need p s st)) (stack_effect p s fresh None st) (stack_effect p s [] None st)
stack_lone p s fresh [] c new told e = cc
stack_lone p s fresh (Run code env ∷ rest) c new told e = outcome_lone p env rest fresh (outcome_of p s code env (stmt_at p code)) c new told e
stack_lone p s fresh (Mark code at env ∷ rest) c new told e = cc
stack_lone p s fresh (Report x ∷ rest) c new told e = outcome_lone p [] rest fresh (print_outcome (codes "uncaught ") (shown s x)) c new told e
stack_lone p s fresh (Goals b ∷ rest) c new told e = go b.pairs c new told e
  where
    go : (pairs : List (Term × Term)) → IsLone (kinds_of (goal_need s b.met pairs)) (goal_effect s b.met rest fresh None pairs) (goal_effect s b.met rest [] None pairs)
    go [] c new told e = cc
    go ((x, y) ∷ pairs) c new told e = pair_lone x y pairs b.met rest fresh (case_of s b.met x y) c new told e

-- so it is an exchange without them
pub lone_exchange : (p : List Stmt) (s : Store) (fresh : List Name) (kinds : List NameKind) (st : Stack) (c : CellName) (new told : VarName) → stack_need p s st ≡ Takes kinds → (stack_effect p s fresh None st).cell ≡ Exchanged c new told → IsExchange p s st c
lone_exchange p s fresh kinds st c new told n e =
    let l = stack_lone p s fresh st c new told e in
    (new, told, n ∙ ap Takes (sym (ap kinds_of n) ∙ l.0), ap (λ (x : Effect). x.cell) l.1 ∙ e)

abbrev stack_in : Option ThreadState → Stack
stack_in None = []
stack_in (Some v) = v.0

-- ---- ports and stationary cells

pub keeps_same : (c : State) → KeepsAnswers c c
keeps_same c = record { ports = refl; stationary = λ d far. refl }

-- a change of a mobile cell changes no stationary one
far_after : (cells : List (CellName × VarName)) (ch : CellChange) → IsMobile ch → (d : CellName) → d.at ≢ 0 → value_of equal_cell (Step.cells_after cells ch) d ≡ value_of equal_cell cells d
far_after cells Stays h d far = refl
far_after cells (Made x v) h d far = rw (cells_differ x d (λ e. far (sym (ap (λ (y : CellName). y.at) e) ∙ h))) refl
far_after cells (Exchanged x new told) h d far = put_there cells x d new (cells_differ x d (λ e. far (sym (ap (λ (y : CellName). y.at) e) ∙ h)))

-- ---- a step, with its cell

module _ (p : List Stmt) (n limit i : ℕ) (real : i ≢ 0) (w : World) (ks : List Pick) (c : State) (run : ModelRun p ks c) (sound : IsSound c.equations) (parts : PartsIn p (here_at (records w.sites)) w c) (numbers : IsNumbered w.sent w.mail) (x : CellsMatch w c) (y : Sums w.sites w.lines c) where
  abbrev number : (w.sites i).records.site ≡ i
  number = (parts.kept i).site

  module _ (th : ThreadName) (st : Stack) (kinds : List NameKind) (bind : Option Equation) (at : value_of equal_thread (threads w.sites i) th ≡ Some (st, site.Runs)) (step : SiteStep p (eqs w.sites i) i st kinds bind) where
    abbrev fresh : List Name
    fresh = next_names i (counters w.sites i) kinds

    abbrev pick : Pick
    pick = step_pick th fresh bind

    abbrev effect : Effect
    effect = stack_effect p (eqs w.sites i) fresh bind st

    abbrev deed : Transition
    deed = step_row p n limit pick kinds effect (w.sites i)

    abbrev after : World
    after = after_transition w i deed

    -- the content that the token has here is the machine's, and here
    pub agrees : (ch : CellChange) → IsReachable (w.sites i) ch → CellAgrees (here_at (records after.sites) i) c (begun p n limit pick kinds effect (w.sites i)).site ch
    agrees Stays reach = tt
    agrees (Made d v) reach = tt
    agrees (Exchanged d new told) (u, reach) = found (value_of equal_cell (mobile_cells c.cells) d) refl
      where
        found : (o : Option VarName) → value_of equal_cell (mobile_cells c.cells) d ≡ o →
            (content_here (begun p n limit pick kinds effect (w.sites i)).site (Exchanged d new told) ≡ Step.content_of c.cells d) × here_at (records after.sites) i (name.Var (Step.content_of c.cells d))
        found None e =
            let none : (cell_record (w.sites i) d).held.token ≡ Away = ap (λ (h : Holding). h.token) ((x.cells.others d e).away i) in absurd (cc)
        found (Some v) e =
            let chain : ChainAt w.sites w.mail d v = x.cells.chains d v e in
            let same : u ≡ v = (tokens_have_contents chain.0 _ _ v u i chain.2 reach).0 in
            let here : token_content (cell_record (begun p n limit pick kinds effect (w.sites i)).site d).held.token ≡ u = ap (λ (q : CellRecord). token_content q.held.token) (begun_place p n limit pick kinds effect w c i x number d) ∙ ap token_content reach in
            let there : Step.content_of c.cells d ≡ v = ap (λ (o : Option VarName). unwrap_or o (record { site = 0; num = 0 })) (mobile_has c.cells d v e).1 in
            (here ∙ same ∙ sym there, inl (subst (λ (y : VarName). IsHere (records after.sites i) y) (same ∙ sym there) (known u (x.contents i d u reach))))
          where
            known : (y : VarName) → IsHere (records w.sites i) y → IsHere (records after.sites i) y
            known y h = subst (λ (s : Site). IsHere s.records y) (sym (at_here w.sites i deed.site)) (step_here p n limit pick kinds effect (w.sites i) y h)

    module _ (reach : IsReachable (w.sites i) effect.cell) (keeps : effect.port ≡ Keeps) where
      pub done : UnitDone p w c n limit i th st kinds bind
      done = unit_step p w c n limit i th st kinds bind real sound numbers.below at step (agrees effect.cell reach) keeps parts

      mobile : IsMobile effect.cell
      mobile = reach_mobile w c i effect.cell x reach

      unused : IsUnused p n limit pick kinds effect (w.sites i) st at effect.born
      unused = go effect.born (stack_born p (eqs w.sites i) fresh bind st (subst (AreOfKinds fresh) (sym kinds_here) done.news.of_kinds))
        where
          kinds_here : kinds_of (stack_need p (eqs w.sites i) st) ≡ kinds
          kinds_here = one bind step
            where
              one : (b : Option Equation) → SiteStep p (eqs w.sites i) i st kinds b → kinds_of (stack_need p (eqs w.sites i) st) ≡ kinds
              one None e = ap kinds_of e
              one (Some q) e = ap kinds_of e.2 ∙ sym e.7

          go : (o : Option Birth) → BornFrom fresh o → IsUnused p n limit pick kinds effect (w.sites i) st at o
          go None f = tt
          go (Some b) (rest, is) = none_at p (threads w.sites) w.mail c.threads b.name parts.placed (new_none c.threads b.name (subst (λ (ns : List Name). Each (IsNew c) ns) is done.news.unused).0.3) i

      unborn : IsUnborn (w.sites i) effect.born
      unborn = go effect.born unused
        where
          go : (o : Option Birth) → IsUnused p n limit pick kinds effect (w.sites i) st at o → IsUnborn (w.sites i) o
          go None h = h
          go (Some b) h = h

      pub finds : FindsCell c.cells effect.cell
      finds = subst (λ (e : Effect). FindsCell c.cells e.cell) done.effect (steps_find_cells p ks c pick run done.allowed)

      pub own : IsOwnCell i effect.cell
      own = go effect.cell (stack_makes p (eqs w.sites i) fresh bind st (subst (AreOfKinds fresh) (sym kinds_here) done.news.of_kinds))
        where
          kinds_here : kinds_of (stack_need p (eqs w.sites i) st) ≡ kinds
          kinds_here = one bind step
            where
              one : (b : Option Equation) → SiteStep p (eqs w.sites i) i st kinds b → kinds_of (stack_need p (eqs w.sites i) st) ≡ kinds
              one None e = ap kinds_of e
              one (Some q) e = ap kinds_of e.2 ∙ sym e.7

          go : (ch : CellChange) → MakesFrom fresh ch → IsOwnCell i ch
          go Stays f = tt
          go (Exchanged d new told) f = tt
          go (Made d v) (rest, is) = (subst (Each (IsNextOf i (counters w.sites i) (counters_after (counters w.sites i) kinds))) is (next_are i (counters w.sites i) kinds)).0.0

      site_here : (y : VarName) → IsHere (records after.sites i) y → IsHere deed.site.records y
      site_here y h = subst (λ (s : Site). IsHere s.records y) (at_here w.sites i deed.site) h

      home : IsContentHere deed.site.records effect.cell
      home = go effect.cell done.names.cell
        where
          at_site : (y : VarName) → here_at (records after.sites) i (name.Var y) → IsHere (records after.sites i) y
          at_site y (inl h) = h
          at_site y (inr zero) = absurd (real zero)

          go : (ch : CellChange) → EachOfChange (here_at (records after.sites) i) ch → IsContentHere deed.site.records ch
          go Stays h = tt
          go (Made d v) h = site_here v (at_site v h.1)
          go (Exchanged d new told) h = site_here new (at_site new h.1)

      pub step_reached : ReachedFrom p c after (ks ++ deed.picks)
      step_reached = (
        record {
          centre = next p c pick;
          run = runs_append p ks deed.picks (start p) c (next p c pick) run (subst (λ (ls : List Pick). IsRun p c ls (next p c pick)) (sym (steps_picks p n limit pick kinds effect (w.sites i))) (next p c pick, (done.allowed, refl), refl));
          parts = done.parts;
          numbers = numbered_acts w i deed numbers;
          cells = unit_match p n limit pick kinds effect w c i x number st at unused (finds_mobile c.cells effect.cell mobile finds) reach own done.wider home (next p c pick) (ap (λ (e : Effect). mobile_cells (Step.cells_after c.cells e.cell)) done.effect ∙ mobile_after c.cells effect.cell mobile);
          sums = sums_row w i deed c (next p c pick) (steps_summed p n limit pick kinds effect (w.sites i) c done.effect keeps unborn) y;
        },
        record {
          ports = ap (λ (e : Effect). Step.ports_after c.ports e.port) done.effect ∙ ap (Step.ports_after c.ports) keeps;
          stationary = λ d far. ap (λ (e : Effect). value_of equal_cell (Step.cells_after c.cells e.cell) d) done.effect ∙ far_after c.cells effect.cell mobile d far;
        },
      )

  -- a thread asks for a token that is elsewhere
  pub asks_reached : (th : ThreadName) (st : Stack) (d : CellName) (new : VarName) → value_of equal_thread (threads w.sites i) th ≡ Some (st, site.Runs) → IsExchange p (eqs w.sites i) st d → d.at ≡ 0 → (IsTokenHere (w.sites i) d → ⊥) → ReachedFrom p c (after_transition w i (request_row limit d new th st (w.sites i))) (ks ++ (request_row limit d new th st (w.sites i)).picks)
  asks_reached th st d new at exchange mobile elsewhere = (
    record {
      centre = c;
      run = subst (λ (ls : List Pick). ModelRun p (ks ++ ls) c) (sym only.picks) (subst (λ (ls : List Pick). ModelRun p ls c) (sym (append-nil ks)) run);
      parts = subst (λ (r : ℕ → Records). PartsIn p (here_at r) (after_transition w i (request_row limit d new th st (w.sites i))) c) (sym (field_kept (λ (u : Site). u.records) w.sites i (request_row limit d new th st (w.sites i)).site only.records)) row.0;
      numbers = numbered_acts w i (request_row limit d new th st (w.sites i)) numbers;
      cells = row.1;
      sums = sums_row w i (request_row limit d new th st (w.sites i)) c c (quiet_summed (w.sites i) (request_row limit d new th st (w.sites i)) c c only.lines only.ended refl refl
          (λ h. subst (λ (ts : List ThreadName). AreDistinct ts) (sym (ap (λ (ts : Threads). names ts) only.threads ∙ with_names (w.sites i).threads th (st, site.WaitsFor (Cell d)))) h)) y;
    },
    keeps_same c,
  )
    where
      only : OnlyCells (with_exchange_waiting d th st (w.sites i)) (request_row limit d new th st (w.sites i))
      only = request_only limit d new th st (w.sites i)

      found : (v : VarName) × (value_of equal_cell c.cells d ≡ Some v)
      found = exchange_found p (eqs w.sites i) c ks th st d exchange run sound (parts.knowledge.known i) (parts.placed.up i th st (site.Runs, at))

      row : PartsIn p (here_at (records w.sites)) (after_transition w i (request_row limit d new th st (w.sites i))) c × CellsMatch (after_transition w i (request_row limit d new th st (w.sites i))) c
      row = asks_kept p limit w c parts x i d new th st found.0 at exchange found.1 mobile (parts.kept i).site (λ u e. elsewhere (u, e))

  -- a unit that makes no pick and has nothing to do with cells
  pub plain_reached : (d : Transition) → Follows p w c i d → d.picks ≡ [] → NoCells (w.sites i) d → ((b : Awaited) → SameWaiters (w.sites i).threads d.site.threads b) → d.site.records ≡ (w.sites i).records → d.lines ≡ [] → SameSums (w.sites i) d.site → ReachedFrom p c (after_transition w i d) (ks ++ d.picks)
  plain_reached d (c2, runs, after_parts) none still same keeps silent kept = (
    record {
      centre = c2;
      run = runs_append p ks d.picks (start p) c c2 run runs;
      parts = after_parts;
      numbers = numbered_acts w i d numbers;
      cells = same_match (after_transition w i d) c c2 (ap (λ (t : State). t.cells) (subst (λ (ls : List Pick). IsRun p c ls c2) none runs))
          (nothing_match w c i d x still same (λ y h. subst (λ (r : Records). IsHere r y) (sym keeps) h));
      sums = sums_row w i d c c2 (same_summed (w.sites i) d c c2 silent kept (ap (λ (t : State). t.lines) stays) (ap (λ (t : State). t.ended) stays)) y;
    },
    subst (KeepsAnswers c) (sym stays) (keeps_same c),
  )
    where
      stays : c2 ≡ c
      stays = subst (λ (ls : List Pick). IsRun p c ls c2) none runs

  -- a thread that could go on does not wait for a cell afterwards
  stands_waiters : (th : ThreadName) (st : Stack) (m : Mode) → ((b : Awaited) → m ≢ site.WaitsFor b) → value_of equal_thread (threads w.sites i) th ≡ Some (st, site.Runs) → (b : Awaited) → SameWaiters (w.sites i).threads (with_value equal_thread (w.sites i).threads th (st, m)) b
  stands_waiters th st m never at b = goes_waiters (w.sites i).threads th (Some (st, m)) (st, site.Runs) b at (λ r q. running_not st r b q) (λ r q. never b (ap mode_in q))

  -- a unit that is on no port and on no stationary cell
  pub unit_reached : (th : ThreadName) (d : Transition) → IsUnit p n limit th (w.sites i) d → (IsKeptUnit p (w.sites i) th → ⊥) → ReachedFrom p c (after_transition w i d) (ks ++ d.picks)
  unit_reached th d (st, at, unit) other = go (stack_need p (eqs w.sites i) st) refl unit
    where
      Goal : Type 0
      Goal = ReachedFrom p c (after_transition w i d) (ks ++ d.picks)

      -- what does not take names exchanges no cell
      follows : ((kinds : List NameKind) → stack_need p (eqs w.sites i) st ≡ Takes kinds → ⊥) → Follows p w c i d
      follows never = one (unit_follows p w c n limit i th real sound numbers parts d (st, at, unit))
        where
          one : ((su : Stack) × (thread_state (w.sites i) th ≡ Some (su, site.Runs)) × IsCellUnit p (eqs w.sites i) su) ⊎ Follows p w c i d → Follows p w c i d
          one (inr f) = f
          one (inl (su, there, (kinds, names, takes, is))) =
              let same : st ≡ su = stack_same st su (sym at ∙ there) in
              absurd (never kinds (ap (stack_need p (eqs w.sites i)) same ∙ takes))
            where
              stack_same : (a b : Stack) → ◌≡◌ {A = Option ThreadState} (Some (a, site.Runs)) (Some (b, site.Runs)) → a ≡ b
              stack_same a b e = ap stack_in e

      needs : (y z : VarName) → stack_need p (eqs w.sites i) st ≡ need.Waits y → d ≡ without_output (with_mode th st (site.Needs z) (w.sites i)) → Goal
      needs y z e is = plain_reached d (follows (λ kinds q. not_takes y kinds (sym e ∙ q))) (ap (λ (q : Transition). q.picks) is)
          (subst (NoCells (w.sites i)) (sym is) (record { cell_records = refl; managers = refl; site = refl; silent = tt }))
          (λ b. subst (λ (q : Transition). SameWaiters (w.sites i).threads q.site.threads b) (sym is) (stands_waiters th st (site.Needs z) (λ (c : Awaited) (q : site.Needs z ≡ site.WaitsFor c). cc) at b))
          (ap (λ (q : Transition). q.site.records) is)
          (ap (λ (q : Transition). q.lines) is)
          (subst (λ (q : Transition). SameSums (w.sites i) q.site) (sym is) (record { ended = refl; names = with_names (w.sites i).threads th (st, site.Needs z) }))
        where
          not_takes : (y : VarName) (kinds : List NameKind) → need.Waits y ≡ Takes kinds → ⊥
          not_takes y kinds q = cc

      waits_any : (q : Pair) (zs : List VarName) → stack_need p (eqs w.sites i) st ≡ need.WaitsAny q → d ≡ without_output (with_mode th st (site.WaitsAny zs) (w.sites i)) → Goal
      waits_any q zs e is = plain_reached d (follows (λ kinds r. not_takes kinds (sym e ∙ r))) (ap (λ (t : Transition). t.picks) is)
          (subst (NoCells (w.sites i)) (sym is) (record { cell_records = refl; managers = refl; site = refl; silent = tt }))
          (λ b. subst (λ (t : Transition). SameWaiters (w.sites i).threads t.site.threads b) (sym is) (stands_waiters th st (site.WaitsAny zs) (λ (c : Awaited) (q : site.WaitsAny zs ≡ site.WaitsFor c). cc) at b))
          (ap (λ (t : Transition). t.site.records) is)
          (ap (λ (t : Transition). t.lines) is)
          (subst (λ (t : Transition). SameSums (w.sites i) t.site) (sym is) (record { ended = refl; names = with_names (w.sites i).threads th (st, site.WaitsAny zs) }))
        where
          not_takes : (kinds : List NameKind) → need.WaitsAny q ≡ Takes kinds → ⊥
          not_takes kinds r = cc

      binds : (a b : Term) → stack_need p (eqs w.sites i) st ≡ need.Binds a b → (u : VarName) (t : Term) → IsRootBind (eqs w.sites i) a b u t → d ≡ bind_attempt p n limit th st u t (u.site == (w.sites i).records.site) (w.sites i) → Goal
      binds a b e u t (allows, free, low, root) is = one (u.site == (w.sites i).records.site) refl is
        where
          not_takes : (kinds : List NameKind) → need.Binds a b ≡ Takes kinds → ⊥
          not_takes kinds q = cc

          one : (q : Bool) → (u.site == (w.sites i).records.site) ≡ q → d ≡ bind_attempt p n limit th st u t q (w.sites i) → Goal
          one true q is = subst (λ (y : Transition). ReachedFrom p c (after_transition w i y) (ks ++ y.picks)) (sym is)
              (step_reached th st [] (Some (u, t)) at (a, b, e, allows, free, low, (nat_decides u.site (w.sites i).records.site).0 q ∙ number, refl)
              (subst (IsReachable (w.sites i)) (sym (ap (λ (y : Effect). y.cell) (bind_effect p (eqs w.sites i) st a b (u, t) e))) tt) (ap (λ (y : Effect). y.port) (bind_effect p (eqs w.sites i) st a b (u, t) e)))
          one false q is = plain_reached d (follows (λ kinds r. not_takes kinds (sym e ∙ r))) (ap (λ (y : Transition). y.picks) is)
              (subst (NoCells (w.sites i)) (sym is) (record { cell_records = refl; managers = refl; site = refl; silent = (tt, tt) }))
              (λ b. subst (λ (y : Transition). SameWaiters (w.sites i).threads y.site.threads b) (sym is) (stands_waiters th st (site.Waits u) (λ (c : Awaited) (q : site.Waits u ≡ site.WaitsFor c). cc) at b))
              (ap (λ (y : Transition). y.site.records) is)
              (ap (λ (y : Transition). y.lines) is)
              (subst (λ (y : Transition). SameSums (w.sites i) y.site) (sym is) (record { ended = refl; names = with_names (w.sites i).threads th (st, site.Waits u) }))

      takes : (kinds : List NameKind) → stack_need p (eqs w.sites i) st ≡ Takes kinds → (o : ℕ) → o ≡ i → (IsKept (stack_effect p (eqs w.sites i) (next_names o (counters w.sites i) kinds) None st) → ⊥) →
          IsStepOrRequest limit th st (w.sites i) (step_row p n limit (step_pick th (next_names o (counters w.sites i) kinds) None) kinds (stack_effect p (eqs w.sites i) (next_names o (counters w.sites i) kinds) None st) (w.sites i)) (kept_step p limit th st kinds (next_names o (counters w.sites i) kinds) (w.sites i)) (stack_effect p (eqs w.sites i) (next_names o (counters w.sites i) kinds) None st) d → Goal
      takes kinds e o same not_kept s = ported (stack_effect p (eqs w.sites i) (next_names i (counters w.sites i) kinds) None st).port refl
          (subst (λ (k : ℕ). IsKept (stack_effect p (eqs w.sites i) (next_names k (counters w.sites i) kinds) None st) → ⊥) same not_kept)
          (subst (λ (k : ℕ). IsStepOrRequest limit th st (w.sites i) (step_row p n limit (step_pick th (next_names k (counters w.sites i) kinds) None) kinds (stack_effect p (eqs w.sites i) (next_names k (counters w.sites i) kinds) None st) (w.sites i)) (kept_step p limit th st kinds (next_names k (counters w.sites i) kinds) (w.sites i)) (stack_effect p (eqs w.sites i) (next_names k (counters w.sites i) kinds) None st) d) same s)
        where
          effect_now : Effect
          effect_now = stack_effect p (eqs w.sites i) (next_names i (counters w.sites i) kinds) None st

          stepped : Transition
          stepped = step_row p n limit (step_pick th (next_names i (counters w.sites i) kinds) None) kinds effect_now (w.sites i)

          kept_now : Transition
          kept_now = kept_step p limit th st kinds (next_names i (counters w.sites i) kinds) (w.sites i)

          step_now : d ≡ stepped → IsReachable (w.sites i) effect_now.cell → effect_now.port ≡ Keeps → Goal
          step_now is reach keeps = subst (λ (y : Transition). ReachedFrom p c (after_transition w i y) (ks ++ y.picks)) (sym is) (step_reached th st kinds None at e reach keeps)

          one : (ch : CellChange) → effect_now.cell ≡ ch → effect_now.port ≡ Keeps → (IsKept effect_now → ⊥) → IsUnitOfCell limit th st (w.sites i) stepped kept_now ch d → Goal
          one Stays q keeps not_kept is = step_now is (subst (IsReachable (w.sites i)) (sym q) tt) keeps
          one (Made y v) q keeps not_kept (inl (mobile, is)) = step_now is (subst (IsReachable (w.sites i)) (sym q) mobile) keeps
          one (Made y v) q keeps not_kept (inr (far, is)) = absurd (not_kept (kept_made effect_now y v keeps q far))
          one (Exchanged y new told) q keeps not_kept (inl (mobile, inl (here, is))) = step_now is (subst (IsReachable (w.sites i)) (sym q) here) keeps
          one (Exchanged y new told) q keeps not_kept (inl (mobile, inr (elsewhere, is))) = subst (λ (y : Transition). ReachedFrom p c (after_transition w i y) (ks ++ y.picks)) (sym is)
              (asks_reached th st y new at (lone_exchange p (eqs w.sites i) (next_names i (counters w.sites i) kinds) kinds st y new told e q) mobile elsewhere)
          one (Exchanged y new told) q keeps not_kept (inr (far, is)) = absurd (not_kept (kept_exchanged effect_now y new told keeps q far))

          ported : (q : PortChange) → effect_now.port ≡ q → (IsKept effect_now → ⊥) → IsStepOrRequest limit th st (w.sites i) stepped kept_now effect_now d → Goal
          ported Keeps q not_kept u = one effect_now.cell refl q not_kept (stays_cell limit th st (w.sites i) stepped kept_now effect_now d q u)
          ported (OpenedPort r end) q not_kept u = absurd (not_kept (kept_opened effect_now r end q))
          ported (Sent r value new) q not_kept u = absurd (not_kept (kept_sent effect_now r value new q))

      go : (d0 : Need) → stack_need p (eqs w.sites i) st ≡ d0 → IsUnitFor p n limit (w.sites i) th st d0 d → Goal
      go (need.Waits y) e (z, class, is) = needs y z e is
      go (need.WaitsAny q) e (zs, open_on, is) = waits_any q zs e is
      go (need.Binds a b) e (u, t, root, is) = binds a b e u t root is
      go (Takes kinds) e s = takes kinds e (w.sites i).records.site number (λ k. other (st, kinds, at, e, k)) s
