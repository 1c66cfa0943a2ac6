-- Each delivered message, those of cells among them, is followed by the centre.
use Rattle.std.proofs.Common.{arith, append-nil, ◌≡◌, ◌∙◌, sym, ap, refl, subst, ℕ, ◌+◌, ◌<◌, List, [], ◌∷◌, ◌++◌, ◌⊎◌, inl, inr, Bool, true, false, Some, None}
use Rattle.std.specs.Prelude.{Option, Contains, ◌≢◌, option_to_list}
use Rattle.std.proofs.lemmas.List.Elements.{Contains-append_left}
use Rattle.tree_node.specs.declared.names.VarName.{VarName}
use Rattle.tree_node.specs.declared.names.CellName.{CellName}
use Rattle.tree_node.specs.declared.names.ThreadName.{ThreadName}
use Rattle.tree_node.specs.declared.names.CodeId.{CodeId}
use Rattle.tree_node.specs.declared.names.Name.{Name}
use Rattle.tree_node.specs.declared.node.Term.{Term}
use Rattle.tree_node.specs.declared.pick.Pick.{Pick}
use Rattle.tree_node.specs.Assoc.{value_of}
use Rattle.tree_node.specs.Each.{Each, AreDistinct}
use Rattle.tree_node.specs.Goal.{equal_cell}
use Rattle.tree_node.specs.State.{Stack, State, equal_thread}
use Rattle.tree_node.specs.Store.{Store, Equation}
use Rattle.kernel_syntax.specs.declared.stmt.Stmt.{Stmt}
use Rattle.site_message.specs.declared.message.Msg.{Msg}
use Rattle.site_message.specs.declared.message.Msg.TheVariants as msg
use Rattle.oz_model.specs.Need as need
use Rattle.oz_model.specs.Need.{Need, stack_need}
use Rattle.oz_model.specs.Effect.{Keeps, Effect, Stays, stack_effect}
use Rattle.oz_model.specs.Run.{IsRun, start}
use Rattle.oz_model.specs.Step as Step
use Rattle.oz_model.specs.Step.{Step, IsAllowed, IsBindFor, need_of, stack_of, effect_of, next, threads_born, end_count}
use Rattle.oz_model.proofs.SoundLemmas.{runs_are_sound}
use Rattle.bind_protocol.specs.Records.{Records, knowledge}
use Rattle.thread_roster.specs.Binds.{goes_on}
use Rattle.site_model.specs.Site.{Site, ThreadState, Threads, thread_state, cell_record, runnable_threads}
use Rattle.site_model.specs.Bundle.{message_vars, message_bundle}
use Rattle.site_model.specs.Transition.{Transition}
use Rattle.site_model.specs.Variables.{with_known_equations, opening}
use Rattle.site_model.specs.Cells.{get_row, forward_row, after_exchange, after_exchange_as, content_after_exchange, serving, put_row}
use Rattle.site_model.specs.Messages.{reception, message_row, birth, bind_pick, bind_request_as, bind_request_row}
use Rattle.world_model.specs.World.{World, IsOnItsWay, after_transition, after_receipt, mail_from, records, threads}
use Rattle.world_variables.specs.Plain.{IsPlain}
use Rattle.world_model.specs.Names.{IsHere, here_at}
use Rattle.world_model.specs.Matches.{IsNumbered, CellsMatch, IsAddressed, equations_in}
use Rattle.world_model.proofs.PutLemmas.{field_kept, at_here}
use Rattle.world_model.proofs.MailLemmas.{gone, acts_after}
use Rattle.world_variables.proofs.PlaceLemmas.{lands_none}
use Rattle.site_model.proofs.EffectLemmas.{bind_effect}
use Rattle.world_variables.proofs.OpenLemmas.{meets_known, told_all_known, Opened, opens_row}
use Rattle.world_variables.proofs.ReceiveLemmas.{IsAtOwner, takes_known, numbered_acts, Received, receive_row}
use Rattle.world_variables.proofs.RunsLemmas.{runs_append}
use Rattle.world_variables.proofs.JournalLemmas.{came_acts}
use Rattle.world_model.proofs.CellLemmas.{get_only, forward_only, leave_only}
use Rattle.world_cells.proofs.TallyLemmas.{IsOfNone}
use Rattle.world_variables.proofs.SumLemmas.{names, woken_names, told_sums, told_all_sums, none_named, serves_names, Sums, Summed, sums_row, quiet_summed, same_summed, opens_summed}
use Rattle.world_cells.proofs.FrameLemmas.{NoCells, opens_nothing, registers_nothing, asked_for_nothing, told_nothing}
use Rattle.world_cells.proofs.QueueLemmas.{SameWaiters, waiters_same, woken_waiters, born_waiters}
use Rattle.world_cells.proofs.UnitQueueLemmas.{told_waiters, told_all_waiters, not_both}
use Rattle.world_cells.proofs.PutRowLemmas.{OneMessage, one_number, at_real_site, put_kept}
use Rattle.world_cells.proofs.CellRowLemmas.{get_kept, forward_kept}
use Rattle.world_cells.proofs.UnitCellRowLemmas.{nothing_match, same_match, gone_match}
use Rattle.world_cells.proofs.UnitLemmas.{keeps_same, Reached}
use Rattle.world_variables.specs.Laws.{IsForeignBinding, PartsIn}
use Rattle.tree_node.proofs.NameLemmas.{same_thread_decides}
use Rattle.world_cells.specs.Standing.{IsStanding}
use Rattle.thread_roster.specs.declared.mode.Awaited.{Awaited}
use Rattle.world_cells.specs.Reached.{ReachedFrom, KeepsAnswers}

-- a bind changes no cell
pub bind_stays : (p : List Stmt) (c : State) (k : Pick) (e : Equation) → IsAllowed p c k → k.fresh ≡ [] → k.bind ≡ Some e → (effect_of p c k).cell ≡ Stays
bind_stays p c k e allowed none bound = go (need_of p c k.thread) refl (subst (λ (b : Option Equation). IsBindFor c.equations (need_of p c k.thread) b) bound allowed.bind)
  where
    go : (d : Need) → need_of p c k.thread ≡ d → IsBindFor c.equations d (Some e) → (effect_of p c k).cell ≡ Stays
    go (need.Waits x) q h = absurd h
    go (need.WaitsAny r) q h = absurd h
    go (need.Takes kinds) q h = absurd h
    go (need.Binds a b) q h =
        ap (λ (l : List Name). (stack_effect p c.equations l k.bind (stack_of c k.thread)).cell) none
        ∙ ap (λ (b : Option Equation). (stack_effect p c.equations [] b (stack_of c k.thread)).cell) bound
        ∙ ap (λ (y : Effect). y.cell) (bind_effect p c.equations (stack_of c k.thread) a b e q)

-- what a delivered message that says nothing of cells picks: nothing, or one bind
abbrev pub PicksBind : List Pick → Type 0
PicksBind ks = (ks ≡ []) ⊎ ((n : ThreadName) × (x : VarName) × (t : Term) × (ks ≡ bind_pick n x t ∷ []))

pub same_cells : (p : List Stmt) (c t : State) (ks : List Pick) → PicksBind ks → IsRun p c ks t → t.cells ≡ c.cells
same_cells p c t ks (inl none) run = ap (λ (y : State). y.cells) (subst (λ (l : List Pick). IsRun p c l t) none run)
same_cells p c t ks (inr (n, x, u, is)) run = go (subst (λ (l : List Pick). IsRun p c l t) is run)
  where
    go : (m : State) × Step p c (bind_pick n x u) m × (t ≡ m) → t.cells ≡ c.cells
    go (m, step, end) =
        ap (λ (y : State). y.cells) (end ∙ step.1)
        ∙ ap (Step.cells_after c.cells) (bind_stays p c (bind_pick n x u) (x, u) step.0 refl refl)

-- nor a port
bind_keeps : (p : List Stmt) (c : State) (k : Pick) (e : Equation) → IsAllowed p c k → k.fresh ≡ [] → k.bind ≡ Some e → (effect_of p c k).port ≡ Keeps
bind_keeps p c k e allowed none bound = go (need_of p c k.thread) refl (subst (λ (b : Option Equation). IsBindFor c.equations (need_of p c k.thread) b) bound allowed.bind)
  where
    go : (d : Need) → need_of p c k.thread ≡ d → IsBindFor c.equations d (Some e) → (effect_of p c k).port ≡ Keeps
    go (need.Waits x) q h = absurd h
    go (need.WaitsAny r) q h = absurd h
    go (need.Takes kinds) q h = absurd h
    go (need.Binds a b) q h =
        ap (λ (l : List Name). (stack_effect p c.equations l k.bind (stack_of c k.thread)).port) none
        ∙ ap (λ (b : Option Equation). (stack_effect p c.equations [] b (stack_of c k.thread)).port) bound
        ∙ ap (λ (y : Effect). y.port) (bind_effect p c.equations (stack_of c k.thread) a b e q)

pub same_kept : (p : List Stmt) (c t : State) (ks : List Pick) → PicksBind ks → IsRun p c ks t → KeepsAnswers c t
same_kept p c t ks picks run = record { ports = ports picks; stationary = λ d far. ap (λ (cs : List (CellName × VarName)). value_of equal_cell cs d) (same_cells p c t ks picks run) }
  where
    ports : PicksBind ks → t.ports ≡ c.ports
    ports (inl none) = ap (λ (y : State). y.ports) (subst (λ (l : List Pick). IsRun p c l t) none run)
    ports (inr (n, x, u, is)) = go (subst (λ (l : List Pick). IsRun p c l t) is run)
      where
        go : (m : State) × Step p c (bind_pick n x u) m × (t ≡ m) → t.ports ≡ c.ports
        go (m, step, end) =
            ap (λ (y : State). y.ports) (end ∙ step.1)
            ∙ ap (Step.ports_after c.ports) (bind_keeps p c (bind_pick n x u) (x, u) step.0 refl refl)

-- nor prints a line, nor ends a thread
needs_item : (p : List Stmt) (s : Store) (st : Stack) (a b : Term) → stack_need p s st ≡ need.Binds a b → end_count st ≡ 0
needs_item p s [] a b e = cc
needs_item p s (i ∷ is) a b e = refl

bind_told : (p : List Stmt) (c : State) (k : Pick) (e : Equation) → IsAllowed p c k → k.fresh ≡ [] → k.bind ≡ Some e → ((next p c k).lines ≡ c.lines) × ((next p c k).ended ≡ c.ended)
bind_told p c k e allowed none bound = go (need_of p c k.thread) refl (subst (λ (b : Option Equation). IsBindFor c.equations (need_of p c k.thread) b) bound allowed.bind)
  where
    go : (d : Need) → need_of p c k.thread ≡ d → IsBindFor c.equations d (Some e) → ((next p c k).lines ≡ c.lines) × ((next p c k).ended ≡ c.ended)
    go (need.Waits x) q h = absurd h
    go (need.WaitsAny r) q h = absurd h
    go (need.Takes kinds) q h = absurd h
    go (need.Binds a b) q h = (ap (λ (y : Effect). c.lines ++ option_to_list y.line) effect ∙ append-nil c.lines, ap (λ (y : Effect). c.ended + end_count (Step.stack_left c y)) effect ∙ ap (λ (x : ℕ). c.ended + x) (needs_item p c.equations (stack_of c k.thread) a b q) ∙ omega arith)
      where
        effect : effect_of p c k ≡ record { adds = e ∷ []; stack = stack_of c k.thread; line = None; born = None; cell = Stays; port = Keeps }
        effect =
            ap (λ (l : List Name). stack_effect p c.equations l k.bind (stack_of c k.thread)) none
            ∙ ap (λ (b : Option Equation). stack_effect p c.equations [] b (stack_of c k.thread)) bound
            ∙ bind_effect p c.equations (stack_of c k.thread) a b e q

pub same_told : (p : List Stmt) (c t : State) (ks : List Pick) → PicksBind ks → IsRun p c ks t → (t.lines ≡ c.lines) × (t.ended ≡ c.ended)
same_told p c t ks (inl none) run = let same : t ≡ c = subst (λ (l : List Pick). IsRun p c l t) none run in (ap (λ (y : State). y.lines) same, ap (λ (y : State). y.ended) same)
same_told p c t ks (inr (n, x, u, is)) run = go (subst (λ (l : List Pick). IsRun p c l t) is run)
  where
    go : (m : State) × Step p c (bind_pick n x u) m × (t ≡ m) → (t.lines ≡ c.lines) × (t.ended ≡ c.ended)
    go (m, step, end) =
        let told = bind_told p c (bind_pick n x u) (x, u) step.0 refl refl in
        (ap (λ (y : State). y.lines) (end ∙ step.1) ∙ told.0, ap (λ (y : State). y.ended) (end ∙ step.1) ∙ told.1)

module _ (p : List Stmt) (limit : ℕ) (w : World) (ks : List Pick) (r : Reached p w ks) (k i : ℕ) (m : Msg) (real : i ≢ 0) (at : IsOnItsWay w.mail k i m) where
  abbrev pub s : Site
  s = w.sites i

  abbrev pub d : Transition
  d = opening m (w.sites i)

  abbrev pub v : World
  v = after_transition w i (opening m (w.sites i))

  pub has : Each (Contains r.centre.equations) (message_bundle m)
  has = bundle m (r.parts.knowledge.told k i m at)
    where
      bundle : (m : Msg) → Each (Contains r.centre.equations) (equations_in m) → Each (Contains r.centre.equations) (message_bundle m)
      bundle (msg.Binding x t es) h = h.1
      bundle (msg.Spawn n code vars es) h = h
      bundle (msg.Register x o) h = h
      bundle (msg.BindReq x o t es) h = h
      bundle (msg.Get c o) h = h
      bundle (msg.Forward c o) h = h
      bundle (msg.Put c v es) h = h
      bundle (msg.PortSend q n o) h = tt
      bundle (msg.PortEnd n old new es) h = h
      bundle (msg.CellMake c v es) h = h
      bundle (msg.CellAsk c n o v es) h = h
      bundle (msg.CellOld n v es) h = h

  pub opened : Opened p w r.centre i m
  opened = opens_row p w r.centre k i m r.parts at has

  pub numbers_v : IsNumbered v.sent v.mail
  numbers_v = numbered_acts w i d r.numbers

  pub cells_v : CellsMatch v r.centre
  cells_v = nothing_match w r.centre i d r.cells (opens_nothing m s) (λ b. told_all_waiters s (message_bundle m) b) wider
    where
      wider : (y : VarName) → IsHere s.records y → IsHere d.site.records y
      wider y (inl zero) = inl zero
      wider y (inr q) = inr (meets_known (message_vars m) (with_known_equations s (message_bundle m)).records y (told_all_known (message_bundle m) s y q))

  pub sums_v : Sums v.sites v.lines r.centre
  sums_v = sums_row w i d r.centre r.centre (opens_summed m s r.centre) r.sums

  pub at_v : IsOnItsWay v.mail k i m
  at_v = Contains-append_left w.mail (mail_from w.sent d.sent) _ at

  pub low : k < v.sent
  low = numbers_v.below k i m at_v

  pub once : OneMessage v k
  once a b x o h g = numbers_v.once k a b x o h g

  pub site_v : v.sites i ≡ d.site
  site_v = at_here w.sites i d.site

  -- from the row on the opened world to the whole
  abbrev pub Whole : Type 0
  Whole = ReachedFrom p r.centre (after_receipt (Some k) (after_transition w i (reception p limit m (w.sites i)))) (ks ++ (reception p limit m (w.sites i)).picks)

  finish : (t : State) → IsRun p r.centre (message_row p limit m (v.sites i)).picks t → PartsIn p (here_at (records (after_transition (after_receipt (Some k) v) i (message_row p limit m (v.sites i))).sites)) (after_transition (after_receipt (Some k) v) i (message_row p limit m (v.sites i))) t →
      CellsMatch (after_transition (after_receipt (Some k) v) i (message_row p limit m (v.sites i))) t → Summed (v.sites i) (message_row p limit m (v.sites i)) r.centre t → KeepsAnswers r.centre t → Whole
  finish t run parts cells summed keeps = subst (λ (u : World). ReachedFrom p r.centre u (ks ++ (reception p limit m (w.sites i)).picks)) (sym whole) (
    record {
      centre = t;
      run = runs_append p ks (reception p limit m (w.sites i)).picks (start p) r.centre t r.run (subst (λ (y : Site). IsRun p r.centre (message_row p limit m y).picks t) site_v run);
      parts = subst (λ (y : Site). PartsIn p (here_at (records (after_transition (after_receipt (Some k) v) i (message_row p limit m y)).sites)) (after_transition (after_receipt (Some k) v) i (message_row p limit m y)) t) site_v parts;
      numbers = numbers_end;
      cells = subst (λ (y : Site). CellsMatch (after_transition (after_receipt (Some k) v) i (message_row p limit m y)) t) site_v cells;
      sums = sums_row (after_receipt (Some k) v) i (message_row p limit m d.site) r.centre t (subst (λ (y : Site). Summed y (message_row p limit m d.site) r.centre t) (sym site_v) (subst (λ (y : Site). Summed y (message_row p limit m y) r.centre t) site_v summed)) sums_v;
    },
    keeps,
  )
    where
      whole : after_receipt (Some k) (after_transition w i (reception p limit m (w.sites i))) ≡ after_transition (after_receipt (Some k) v) i (message_row p limit m d.site)
      whole = ap (after_receipt (Some k)) (acts_after w i d (message_row p limit m d.site)) ∙ came_acts v i (message_row p limit m d.site) k low

      numbers_came : IsNumbered (after_receipt (Some k) v).sent (after_receipt (Some k) v).mail
      numbers_came = record {
        below = λ l a o q. numbers_v.below l a o ((gone k v.mail).old l a o q).0;
        once = λ l a b o u q z. numbers_v.once l a b o u ((gone k v.mail).old l a o q).0 ((gone k v.mail).old l b u z).0;
      }

      numbers_end : IsNumbered (after_transition (after_receipt (Some k) v) i (message_row p limit m d.site)).sent (after_transition (after_receipt (Some k) v) i (message_row p limit m d.site)).mail
      numbers_end = numbered_acts (after_receipt (Some k) v) i (message_row p limit m d.site) numbers_came

-- ---- messages of cells

records_stay : (p : List Stmt) (u : World) (i : ℕ) (d : Transition) (t : State) → d.site.records ≡ (u.sites i).records → PartsIn p (here_at (records u.sites)) (after_transition u i d) t → PartsIn p (here_at (records (after_transition u i d).sites)) (after_transition u i d) t
records_stay p u i d t same h = subst (λ (r : ℕ → Records). PartsIn p (here_at r) (after_transition u i d) t) (sym (field_kept (λ (y : Site). y.records) u.sites i d.site same)) h

no_picks : (p : List Stmt) (c : State) (ks : List Pick) → ks ≡ [] → IsRun p c ks c
no_picks p c ks e = subst (λ (l : List Pick). IsRun p c l c) (sym e) refl

pub get_reached : (p : List Stmt) (limit : ℕ) (w : World) (ks : List Pick) (r : Reached p w ks) (k i : ℕ) (c : CellName) (asker : ℕ) (real : i ≢ 0) (at : IsOnItsWay w.mail k i (msg.Get c asker)) → Whole p limit w ks r k i (msg.Get c asker) real at
get_reached p limit w ks r k i c asker real at =
    let u = v p limit w ks r k i (msg.Get c asker) real at in
    let only = get_only limit c asker (u.sites i) in
    let row = get_kept p limit u r.centre (opened p limit w ks r k i (msg.Get c asker) real at).parts (cells_v p limit w ks r k i (msg.Get c asker) real at) k i c asker (at_v p limit w ks r k i (msg.Get c asker) real at)
    (once p limit w ks r k i (msg.Get c asker) real at) ((opened p limit w ks r k i (msg.Get c asker) real at).parts.kept i).site in
    finish p limit w ks r k i (msg.Get c asker) real at r.centre (no_picks p r.centre _ only.picks) (records_stay p (after_receipt (Some k) u) i (get_row limit c asker (u.sites i)) r.centre only.records row.0) row.1
    (same_summed (u.sites i) (get_row limit c asker (u.sites i)) r.centre r.centre only.lines (record { ended = only.ended; names = ap (λ (ts : Threads). names ts) only.threads }) refl refl)
    (keeps_same r.centre)

pub forward_reached : (p : List Stmt) (limit : ℕ) (w : World) (ks : List Pick) (r : Reached p w ks) (k i : ℕ) (c : CellName) (next : ℕ) (real : i ≢ 0) (at : IsOnItsWay w.mail k i (msg.Forward c next)) → Whole p limit w ks r k i (msg.Forward c next) real at
forward_reached p limit w ks r k i c next real at =
    let u = v p limit w ks r k i (msg.Forward c next) real at in
    let only = forward_only limit c next (u.sites i) in
    let row = forward_kept p limit u r.centre (opened p limit w ks r k i (msg.Forward c next) real at).parts (cells_v p limit w ks r k i (msg.Forward c next) real at) k i c next (at_v p limit w ks r k i (msg.Forward c next) real at)
    (once p limit w ks r k i (msg.Forward c next) real at) in
    finish p limit w ks r k i (msg.Forward c next) real at r.centre (no_picks p r.centre _ only.picks) (records_stay p (after_receipt (Some k) u) i (forward_row limit c next (u.sites i)) r.centre only.records row.0) row.1
    (same_summed (u.sites i) (forward_row limit c next (u.sites i)) r.centre r.centre only.lines (record { ended = only.ended; names = ap (λ (ts : Threads). names ts) only.threads }) refl refl)
    (keeps_same r.centre)

pub put_reached : (p : List Stmt) (limit : ℕ) (w : World) (ks : List Pick) (r : Reached p w ks) (k i : ℕ) (c : CellName) (x : VarName) (bundle : List Equation) (real : i ≢ 0) (at : IsOnItsWay w.mail k i (msg.Put c x bundle)) → Whole p limit w ks r k i (msg.Put c x bundle) real at
put_reached p limit w ks r k i c x bundle real at =
    let u = v p limit w ks r k i (msg.Put c x bundle) real at in
    let o = opened p limit w ks r k i (msg.Put c x bundle) real at in
    let row = put_kept p limit u r.centre k i c x bundle o.parts (cells_v p limit w ks r k i (msg.Put c x bundle) real at) (runs_are_sound p ks r.centre r.run) (at_v p limit w ks r k i (msg.Put c x bundle) real at)
    (once p limit w ks r k i (msg.Put c x bundle) real at) (at_real_site (records u.sites) i x real o.vars.0) real in
    finish p limit w ks r k i (msg.Put c x bundle) real at row.state row.runs (records_stay p (after_receipt (Some k) u) i (put_row p limit c x (u.sites i)) row.state row.keeps row.parts) row.cells
    (same_summed (u.sites i) (put_row p limit c x (u.sites i)) r.centre row.state row.lines.1 (record {
      ended = row.site.0;
      names = ap (λ (ts : Threads). names ts) (leave_only limit c (serving p c (cell_record (u.sites i) c).queue x (u.sites i)).site).threads ∙ serves_names p c (cell_record (u.sites i) c).queue x (u.sites i);
    }) row.lines.0 row.totals.0)
    (record { ports = row.ports; stationary = row.stationary })

-- ---- messages of variables and threads

pub record IsApart (s : Site) (d : Transition) : Type 0 where
  pub still : NoCells s d
  pub waiters : (b : Awaited) → SameWaiters s.threads d.site.threads b
  pub picks : PicksBind d.picks
  pub silent : d.lines ≡ []
  pub ended : d.site.ended ≡ s.ended
  pub once : AreDistinct (names s.threads) → AreDistinct (names d.site.threads)

apart_asked : (limit : ℕ) (x : VarName) (t : Term) (n : ThreadName) (s : Site) → IsApart s (bind_request_row limit x t n s)
apart_asked limit x t n s = record { still = asked_for_nothing limit x t n s; waiters = λ b. waiters b (knowledge s.records x); picks = picks (knowledge s.records x); silent = silent (knowledge s.records x); ended = ended (knowledge s.records x); once = λ h. once (knowledge s.records x) h }
  where
    waiters : (b : Awaited) (o : Option (Option Term)) → SameWaiters s.threads (bind_request_as o limit x t n s).site.threads b
    waiters b None = waiters_same s.threads b
    waiters b (Some None) = woken_waiters ((x, t) ∷ s.equations) x s.threads b
    waiters b (Some (Some q)) = waiters_same s.threads b

    silent : (o : Option (Option Term)) → (bind_request_as o limit x t n s).lines ≡ []
    silent None = refl
    silent (Some None) = refl
    silent (Some (Some q)) = refl

    ended : (o : Option (Option Term)) → (bind_request_as o limit x t n s).site.ended ≡ s.ended
    ended None = refl
    ended (Some None) = refl
    ended (Some (Some q)) = refl

    once : (o : Option (Option Term)) → AreDistinct (names s.threads) → AreDistinct (names (bind_request_as o limit x t n s).site.threads)
    once None h = h
    once (Some None) h = subst (λ (xs : List ThreadName). AreDistinct xs) (sym (woken_names (goes_on ((x, t) ∷ s.equations) x) s.threads)) h
    once (Some (Some q)) h = h

    picks : (o : Option (Option Term)) → PicksBind (bind_request_as o limit x t n s).picks
    picks None = inl refl
    picks (Some None) = inr (n, x, t, refl)
    picks (Some (Some q)) = inl refl

pub takes_apart : (p : List Stmt) (limit : ℕ) (m : Msg) (s : Site) → IsPlain m → ((n : ThreadName) (code : CodeId) (vars : List VarName) (bundle : List Equation) → m ≡ msg.Spawn n code vars bundle → value_of equal_thread s.threads n ≡ None) → IsApart s (message_row p limit m s)
takes_apart p limit (msg.Spawn n code vars bundle) s plain none = record {
  still = record { cell_records = refl; managers = refl; site = refl; silent = tt };
  waiters = λ b. born_waiters (threads_born p (Some (birth n code vars))) s.threads b (λ o st h. apart o (value_of equal_thread s.threads o) (none n code vars bundle refl) h refl);
  picks = inl refl;
  silent = refl;
  ended = refl;
  once = λ h. (none_named s.threads n (none n code vars bundle refl), h);
}
  where
    apart : (o : ThreadName) {st : ThreadState} (q : Option ThreadState) → value_of equal_thread s.threads n ≡ None → q ≡ Some st → value_of equal_thread s.threads o ≡ q → value_of equal_thread (runnable_threads (threads_born p (Some (birth n code vars)))) o ≡ None
    apart o {st} q gone h e = go (equal_thread n o) refl
      where
        go : (b : Bool) → equal_thread n o ≡ b → value_of equal_thread (runnable_threads (threads_born p (Some (birth n code vars)))) o ≡ None
        go true f = absurd (not_both (value_of equal_thread s.threads o) st (e ∙ h) (subst (λ (x : ThreadName). value_of equal_thread s.threads x ≡ None) ((same_thread_decides n o).0 f) gone))
        go false f = rw f refl
takes_apart p limit (msg.Register x k) s plain none = record { still = registers_nothing limit x k s; waiters = λ b. waiters_same s.threads b; picks = inl refl; silent = refl; ended = refl; once = λ h. h }
takes_apart p limit (msg.BindReq x n t bundle) s plain none = apart_asked limit x t n s
takes_apart p limit (msg.Binding x t bundle) s plain none = record { still = told_nothing s x t; waiters = λ b. told_waiters s x t b; picks = inl refl; silent = refl; ended = (told_sums s x t).ended; once = λ h. subst (λ (xs : List ThreadName). AreDistinct xs) (sym (told_sums s x t).names) h }
takes_apart p limit (msg.Get c k) s plain none = absurd plain
takes_apart p limit (msg.Forward c k) s plain none = absurd plain
takes_apart p limit (msg.Put c v bundle) s plain none = absurd plain
takes_apart p limit (msg.PortSend q n k) s plain none = absurd plain
takes_apart p limit (msg.PortEnd n old new bundle) s plain none = absurd plain
takes_apart p limit (msg.CellMake c v bundle) s plain none = absurd plain
takes_apart p limit (msg.CellAsk c n k v bundle) s plain none = absurd plain
takes_apart p limit (msg.CellOld n v bundle) s plain none = absurd plain

pub plain_none : (m : Msg) → IsPlain m → IsOfNone m
plain_none (msg.Spawn n code vars bundle) h = tt
plain_none (msg.Register x k) h = tt
plain_none (msg.BindReq x n t bundle) h = tt
plain_none (msg.Binding x t bundle) h = tt
plain_none (msg.Get c k) h = h
plain_none (msg.Forward c k) h = h
plain_none (msg.Put c v bundle) h = h
plain_none (msg.PortSend q n k) h = tt
plain_none (msg.PortEnd n old new bundle) h = tt
plain_none (msg.CellMake c v bundle) h = tt
plain_none (msg.CellAsk c n k v bundle) h = tt
plain_none (msg.CellOld n v bundle) h = tt

module _ (p : List Stmt) (limit : ℕ) (w : World) (ks : List Pick) (r : Reached p w ks) (k i : ℕ) (m : Msg) (real : i ≢ 0) (at : IsOnItsWay w.mail k i m) (plain : IsPlain m) (far : IsForeignBinding i m) where
  abbrev u : World
  u = after_transition w i (opening m (w.sites i))

  abbrev there : Site
  there = (opening m (w.sites i)).site

  abbrev e : Transition
  e = message_row p limit m (opening m (w.sites i)).site

  site_u : u.sites i ≡ there
  site_u = at_here w.sites i there

  arrived : IsOnItsWay u.mail k i m
  arrived = at_v p limit w ks r k i m real at

  pub got : Received p limit w r.centre k i m
  got = receive_row p limit w r.centre k i m r.parts r.numbers real (runs_are_sound p ks r.centre r.run) plain far at (has p limit w ks r k i m real at)

  pub apart : IsApart there e
  apart = takes_apart p limit m there plain (λ n code vars bundle is. subst (λ (y : Site). value_of equal_thread y.threads n ≡ None) site_u
      (lands_none p (threads u.sites) u.mail r.centre.threads k n _ (opened p limit w ks r k i m real at).parts.placed
      (i, code, vars, bundle, subst (λ (y : Msg). IsOnItsWay u.mail k i y) is arrived, refl) i))

  wider : (y : VarName) → IsHere there.records y → IsHere e.site.records y
  wider y (inl zero) = inl zero
  wider y (inr q) = inr (takes_known p limit i m there plain (subst (λ (t : Site). t.records.site ≡ i) site_u ((opened p limit w ks r k i m real at).parts.kept i).site) (is_at m ((opened p limit w ks r k i m real at).parts.addressed k i m arrived)) y q)
    where
      is_at : (m : Msg) → IsAddressed (records u.sites) i m → IsAtOwner i m
      is_at (msg.Register x o) q = q.0
      is_at (msg.BindReq x n t bundle) q = tt
      is_at (msg.Spawn n code vars bundle) q = tt
      is_at (msg.Binding x t bundle) q = tt
      is_at (msg.Get f o) q = tt
      is_at (msg.Forward f o) q = tt
      is_at (msg.Put f o bundle) q = tt
      is_at (msg.PortSend q n k) z = tt
      is_at (msg.PortEnd n old new bundle) z = tt
      is_at (msg.CellMake c v bundle) z = tt
      is_at (msg.CellAsk c n k v bundle) z = tt
      is_at (msg.CellOld n v bundle) z = tt

  cells_taken : CellsMatch (after_transition u i e) r.centre
  cells_taken = nothing_match u r.centre i e (cells_v p limit w ks r k i m real at) (subst (λ (y : Site). NoCells y e) (sym site_u) apart.still)
      (λ b. subst (λ (y : Site). SameWaiters y.threads e.site.threads b) (sym site_u) (apart.waiters b))
      (λ y h. wider y (subst (λ (t : Site). IsHere t.records y) site_u h))

  cells_end : CellsMatch (after_receipt (Some k) (after_transition u i e)) r.centre
  cells_end = gone_match (after_transition u i e) r.centre k i m (Contains-append_left u.mail (mail_from u.sent e.sent) _ arrived)
      (one_number (after_transition u i e) k i m (Contains-append_left u.mail (mail_from u.sent e.sent) _ arrived) (λ a b x o h g. (numbered_acts u i e (numbers_v p limit w ks r k i m real at)).once k a b x o h g)) (plain_none m plain) cells_taken

  pub plain_message : Whole p limit w ks r k i m real at
  plain_message = (
    record {
      centre = got.centre;
      run = runs_append p ks (reception p limit m (w.sites i)).picks (start p) r.centre got.centre r.run got.run;
      parts = got.parts;
      numbers = record {
        below = λ l a o q. up.below l a o ((gone k (after_transition w i (reception p limit m (w.sites i))).mail).old l a o q).0;
        once = λ l a b o y q z. up.once l a b o y ((gone k (after_transition w i (reception p limit m (w.sites i))).mail).old l a o q).0 ((gone k (after_transition w i (reception p limit m (w.sites i))).mail).old l b y z).0;
      };
      cells = same_match (after_receipt (Some k) (after_transition w i (reception p limit m (w.sites i)))) r.centre got.centre (same_cells p r.centre got.centre (reception p limit m (w.sites i)).picks apart.picks got.run)
          (subst (λ (y : World). CellsMatch (after_receipt (Some k) y) r.centre) (sym (acts_after w i (opening m (w.sites i)) e)) cells_end);
      sums = sums_row w i (reception p limit m (w.sites i)) r.centre got.centre (record {
        printed = taken.printed;
        more = taken.more;
        here = taken.here ∙ ap (λ (x : ℕ). x + taken.more) (told_all_sums (w.sites i) (message_bundle m)).ended;
        there = taken.there;
        once = λ h. taken.once ((opens_summed m (w.sites i) r.centre).once h);
      }) r.sums;
    },
    same_kept p r.centre got.centre (reception p limit m (w.sites i)).picks apart.picks got.run,
  )
    where
      taken : Summed there e r.centre got.centre
      taken = let q = same_told p r.centre got.centre (reception p limit m (w.sites i)).picks apart.picks got.run in quiet_summed there e r.centre got.centre apart.silent apart.ended q.0 q.1 apart.once

      up : IsNumbered (after_transition w i (reception p limit m (w.sites i))).sent (after_transition w i (reception p limit m (w.sites i))).mail
      up = numbered_acts w i (reception p limit m (w.sites i)) r.numbers

-- every message but requests and answers
pub message_reached : (p : List Stmt) (limit : ℕ) (w : World) (ks : List Pick) (r : Reached p w ks) (k i : ℕ) (m : Msg) (real : i ≢ 0) → IsStanding m → IsForeignBinding i m → (at : IsOnItsWay w.mail k i m) → Whole p limit w ks r k i m real at
message_reached p limit w ks r k i (msg.Get c asker) real stands far at = get_reached p limit w ks r k i c asker real at
message_reached p limit w ks r k i (msg.Forward c next) real stands far at = forward_reached p limit w ks r k i c next real at
message_reached p limit w ks r k i (msg.Put c v bundle) real stands far at = put_reached p limit w ks r k i c v bundle real at
message_reached p limit w ks r k i (msg.Spawn n code vars bundle) real stands far at = plain_message p limit w ks r k i (msg.Spawn n code vars bundle) real at tt far
message_reached p limit w ks r k i (msg.Register x o) real stands far at = plain_message p limit w ks r k i (msg.Register x o) real at tt far
message_reached p limit w ks r k i (msg.BindReq x n t bundle) real stands far at = plain_message p limit w ks r k i (msg.BindReq x n t bundle) real at tt far
message_reached p limit w ks r k i (msg.Binding x t bundle) real stands far at = plain_message p limit w ks r k i (msg.Binding x t bundle) real at tt far
message_reached p limit w ks r k i (msg.PortSend q n a) real stands far at = absurd stands
message_reached p limit w ks r k i (msg.PortEnd n old new bundle) real stands far at = absurd stands
message_reached p limit w ks r k i (msg.CellMake c v bundle) real stands far at = absurd stands
message_reached p limit w ks r k i (msg.CellAsk c n a v bundle) real stands far at = absurd stands
message_reached p limit w ks r k i (msg.CellOld n v bundle) real stands far at = absurd stands

-- what is known at the site stays known
pub message_wider : (p : List Stmt) (limit : ℕ) (w : World) (ks : List Pick) (r : Reached p w ks) (k i : ℕ) (m : Msg) (real : i ≢ 0) → IsStanding m → IsForeignBinding i m → (at : IsOnItsWay w.mail k i m) →
    (y : VarName) → IsHere (w.sites i).records y → IsHere (reception p limit m (w.sites i)).site.records y
message_wider p limit w ks r k i m real stands far at y h = go m stands far at (opened_wider h)
  where
    opened_wider : IsHere (w.sites i).records y → IsHere (opening m (w.sites i)).site.records y
    opened_wider (inl zero) = inl zero
    opened_wider (inr q) = inr (meets_known (message_vars m) (with_known_equations (w.sites i) (message_bundle m)).records y (told_all_known (message_bundle m) (w.sites i) y q))

    exchange_records : (n : ThreadName) (v : VarName) (s : Site) → (after_exchange p n v s).records ≡ s.records
    exchange_records n v s = one (thread_state s n)
      where
        one : (o : Option ThreadState) → (after_exchange_as p n v s o).records ≡ s.records
        one None = refl
        one (Some st) = refl

    serving_records : (c : CellName) (ns : List ThreadName) (v : VarName) (s : Site) → (serving p c ns v s).site.records ≡ s.records
    serving_records c [] v s = refl
    serving_records c (n ∷ ns) v s = serving_records c ns (content_after_exchange p n v s) (after_exchange p n v s) ∙ exchange_records n v s

    go : (m : Msg) → IsStanding m → IsForeignBinding i m → IsOnItsWay w.mail k i m → IsHere (opening m (w.sites i)).site.records y → IsHere (message_row p limit m (opening m (w.sites i)).site).site.records y
    go (msg.Spawn n code vars bundle) stands far at h = wider p limit w ks r k i (msg.Spawn n code vars bundle) real at tt far y h
    go (msg.Register x o) stands far at h = wider p limit w ks r k i (msg.Register x o) real at tt far y h
    go (msg.BindReq x n t bundle) stands far at h = wider p limit w ks r k i (msg.BindReq x n t bundle) real at tt far y h
    go (msg.Binding x t bundle) stands far at h = wider p limit w ks r k i (msg.Binding x t bundle) real at tt far y h
    go (msg.Get c o) stands far at h = subst (λ (b : Records). IsHere b y) (sym (get_only limit c o (opening (msg.Get c o) (w.sites i)).site).records) h
    go (msg.Forward c o) stands far at h = subst (λ (b : Records). IsHere b y) (sym (forward_only limit c o (opening (msg.Forward c o) (w.sites i)).site).records) h
    go (msg.Put c v bundle) stands far at h = subst (λ (b : Records). IsHere b y) (sym (serving_records c (cell_record (opening (msg.Put c v bundle) (w.sites i)).site c).queue v (opening (msg.Put c v bundle) (w.sites i)).site)) h
    go (msg.PortSend q n a) stands far at h = absurd stands
    go (msg.PortEnd n old new bundle) stands far at h = absurd stands
    go (msg.CellMake c v bundle) stands far at h = absurd stands
    go (msg.CellAsk c n a v bundle) stands far at h = absurd stands
    go (msg.CellOld n v bundle) stands far at h = absurd stands
