-- Own steps of threads that take names.
use Rattle.std.proofs.Common.{arith, ◌≡◌, ◌∙◌, sym, ap, refl, subst, ℕ, List, [], ◌++◌, ◌⊎◌, inl, inr, None}
use Rattle.std.specs.Prelude.{Option, Contains, ◌+◌, ◌*◌, ◌^◌}
use Rattle.tree_node.specs.declared.names.VarName.{VarName}
use Rattle.tree_node.specs.declared.names.ThreadName.{ThreadName}
use Rattle.tree_node.specs.declared.names.Name.{Name}
use Rattle.tree_node.specs.declared.names.Name.TheVariants as name
use Rattle.tree_node.specs.declared.pick.Pick.{Pick}
use Rattle.tree_node.specs.Assoc.{with_optional_value}
use Rattle.tree_node.specs.Each.{Each}
use Rattle.tree_node.specs.State.{Stack, equal_thread}
use Rattle.tree_node.specs.Store.{Equation}
use Rattle.kernel_syntax.specs.declared.stmt.Stmt.{Stmt}
use Rattle.oz_model.specs.Need.{Need, Takes}
use Rattle.oz_model.specs.Effect.{PortChange, Keeps, Birth, CellChange, Stays, Made, Exchanged, Effect, vars_among}
use Rattle.oz_model.specs.Step.{end_count, living_stack}
use Rattle.bind_protocol.specs.Records.{Records}
use Rattle.thread_machine.specs.declared.answer.StepOut.{StepOut}
use Rattle.thread_machine.specs.Running.{Running}
use Rattle.thread_machine.specs.Step.{IsPickStep, effect_of}
use Rattle.thread_machine.specs.Fits.{EquationsFit}
use Rattle.name_supply.specs.Supply.{names_for, known_after, site_in, IsMade, HasMade, AreBelow}
use Rattle.name_supply.specs.declared.fresh.Fresh.{Fresh}
use Rattle.name_supply.proofs.SupplyLemmas.{kept_after, named_after, each_known}
use Rattle.name_supply.proofs.MadeLemmas.{counted_in}
use Rattle.thread_roster.specs.declared.mode.Mode.TheVariants as mode
use Rattle.thread_roster.specs.Threads.{Entry, set_value}
use Rattle.thread_roster.proofs.ThreadLemmas.{each_found, value_there}
use Rattle.oz_model.proofs.NameLemmas.{Each-weaker}
use Rattle.tree_store.specs.Contents.{Contents}
use Rattle.site_cells.specs.Tables.{CellTables}
use Rattle.site_variables.specs.Variables.{stacks_of}
use Rattle.site_model.specs.Site.{Site}
use Rattle.site_model.specs.Transition.{Transition}
use Rattle.site_model.specs.Variables.{after_makes}
use Rattle.site_model.specs.Unit.{IsUnit, IsUnitFor, IsCellUnit, IsStepOrRequest, step_row, kept_step_row, step_pick, thread_step, kept_step, effect_here, fresh_names, with_fresh_names, with_stack, runnable_state, next_names, counters_after}
use Rattle.site_units.specs.declared.data.Core.{Core}
use Rattle.site_units.specs.Core.{site_of, stack_in, counters_of}
use Rattle.site_units.specs.Invariant.{ThreadFits, AwaitKnown}
use Rattle.site_units.specs.Units.{IsStepping, IsFinished, without_ended}
use Rattle.site_units.proofs.AwaitLemmas.{await_step}
use Rattle.site_units.proofs.ThreadLemmas.{Living, WaitsStay, threads_settled, thread_found, settled_each, waits_trans, waits_set, waits_settled, waited_set, waited_settled}
use Rattle.site_units.proofs.FreshLemmas.{names_next, counters_next, made_split, each_var, makes_site}
use Rattle.site_units.proofs.NextLemmas.{Next, thread_grows, asks_before, exchanges_known, sends_known}
use Rattle.site_units.proofs.SiteLemmas.{same_site}
use Rattle.tree_node.proofs.OrderLemmas.{Each-member}

-- the effect of the step
pub record Taken (p : List Stmt) (c0 c : Core) (r q : Running) (k : Pick) (adds : List Equation) (line : Option (List ℕ)) (born : Option Birth) (cell : CellChange) (port : PortChange) : Type 0 where
  pub goes : IsPickStep p r c0.variables.store c0.fresh k q c.variables.store c.fresh
  pub printed : (effect_of p c0.variables.store r k.fresh).line ≡ line
  pub births : (effect_of p c0.variables.store r k.fresh).born ≡ born
  pub change : (effect_of p c0.variables.store r k.fresh).cell ≡ cell
  pub ends : (effect_of p c0.variables.store r k.fresh).port ≡ port
  pub equations : (effect_of p c0.variables.store r k.fresh).adds ≡ adds

abbrev pub effect_with : List Equation → Stack → Option (List ℕ) → Option Birth → CellChange → PortChange → Effect
effect_with adds st line born cell port = record { adds = adds; stack = st; line = line; born = born; cell = cell; port = port }

same_effect : (e : Effect) (adds : List Equation) (st : Stack) (line : Option (List ℕ)) (born : Option Birth) (cell : CellChange) (port : PortChange) → e.adds ≡ adds → e.stack ≡ st → e.line ≡ line → e.born ≡ born → e.cell ≡ cell → e.port ≡ port →
    e ≡ record { adds = adds; stack = st; line = line; born = born; cell = cell; port = port }
same_effect e adds st line born cell port a b c d f g = rw (sym a, sym b, sym c, sym d, sym f, sym g) refl

pub same_pick : (k : Pick) (th : ThreadName) → k.thread ≡ th → k.bind ≡ None → k ≡ step_pick th k.fresh None
same_pick k th a b = rw (sym a, sym b) refl

-- no exchange, and no stationary cell
abbrev pub IsMobileChange : CellChange → Type 0
IsMobileChange Stays = Unit {0}
IsMobileChange (Made c v) = c.at ≡ 0
IsMobileChange (Exchanged c new told) = ⊥

step_alone : (limit : ℕ) (th : ThreadName) (st : Stack) (s : Site) (step kept d : Transition) (cell : CellChange) → IsMobileChange cell → d ≡ step → IsCellUnit limit th st s step kept cell d
step_alone limit th st s step kept d Stays h e = e
step_alone limit th st s step kept d (Made c v) h e = inl (h, e)
step_alone limit th st s step kept d (Exchanged c new told) h e = absurd h

module _ (p : List Stmt) (c0 c : Core) (th : ThreadName) (r q : Running) (o : StepOut) (k : Pick) (adds : List Equation) (line : Option (List ℕ)) (born : Option Birth) (cell : CellChange) (port : PortChange)
    (h : IsStepping p c0 c th r q o) (t : Taken p c0 c r q k adds line born cell port) (made : Each (HasMade c.fresh) k.fresh) where
  abbrev pub row : Transition
  row = step_row p c0.sites 0 k t.goes.takes.kinds (effect_with adds q.stack line born cell port) (site_of c0)

  abbrev pub kept_row : Transition
  kept_row = kept_step_row 0 k t.goes.takes.kinds (effect_with adds q.stack line born cell port) (site_of c0)

  pub names : fresh_names (site_of c0) t.goes.takes.kinds ≡ k.fresh
  names = sym (names_next c0.fresh c0.variables.binder.site t.goes.takes.kinds h.consistent.site) ∙ sym t.goes.takes.fresh

  effect : effect_of p c0.variables.store r k.fresh ≡ effect_with adds q.stack line born cell port
  effect = same_effect (effect_of p c0.variables.store r k.fresh) adds q.stack line born cell port t.equations (sym t.goes.does.stack) t.printed t.births t.change t.ends

  pub thread : k.thread ≡ th
  thread = t.goes.takes.thread ∙ named
    where
      named : r.name ≡ th
      named = (each_found (ThreadFits p c0.variables.store.known) c0.threads.living th (r, mode.Runs) h.running h.consistent.threads).named

  picked : k ≡ step_pick th k.fresh None
  picked = same_pick k th thread t.goes.takes.bind

  -- a unit by what becomes of the cell and of the port
  unit_by : (d : Transition) →
      IsStepOrRequest 0 th r.stack (site_of c0) (step_row p c0.sites 0 (step_pick th k.fresh None) t.goes.takes.kinds (effect_with adds q.stack line born cell port) (site_of c0))
      (kept_step_row 0 (step_pick th k.fresh None) t.goes.takes.kinds (effect_with adds q.stack line born cell port) (site_of c0)) (effect_with adds q.stack line born cell port) d →
      IsUnit p c0.sites 0 th (site_of c0) d
  unit_by d at_effect = (
    r.stack,
    thread_found c0.threads.living th r mode.Runs h.running,
    subst (λ (need : Need). IsUnitFor p c0.sites 0 (site_of c0) th r.stack need d) (sym t.goes.takes.takes) named,
  )
    where
      at_names : IsStepOrRequest 0 th r.stack (site_of c0) (thread_step p c0.sites 0 th r.stack t.goes.takes.kinds k.fresh None (site_of c0)) (kept_step p 0 th r.stack t.goes.takes.kinds k.fresh (site_of c0)) (effect_here p (site_of c0) k.fresh None r.stack) d
      at_names =
          subst (λ (e : Effect). IsStepOrRequest 0 th r.stack (site_of c0) (step_row p c0.sites 0 (step_pick th k.fresh None) t.goes.takes.kinds e (site_of c0)) (kept_step_row 0 (step_pick th k.fresh None) t.goes.takes.kinds e (site_of c0)) e d)
          (sym effect) at_effect

      named : IsUnitFor p c0.sites 0 (site_of c0) th r.stack (Takes t.goes.takes.kinds) d
      named =
          subst (λ (ns : List Name). IsStepOrRequest 0 th r.stack (site_of c0) (thread_step p c0.sites 0 th r.stack t.goes.takes.kinds ns None (site_of c0)) (kept_step p 0 th r.stack t.goes.takes.kinds ns (site_of c0)) (effect_here p (site_of c0) ns None r.stack) d)
          (sym names) at_names

  pub is_unit : IsMobileChange cell → port ≡ Keeps → IsUnit p c0.sites 0 th (site_of c0) row
  is_unit mobile keeps = unit_by row
      (subst (λ (o : PortChange). IsStepOrRequest 0 th r.stack (site_of c0) (step_row p c0.sites 0 (step_pick th k.fresh None) t.goes.takes.kinds (effect_with adds q.stack line born cell port) (site_of c0))
      (kept_step_row 0 (step_pick th k.fresh None) t.goes.takes.kinds (effect_with adds q.stack line born cell port) (site_of c0)) (effect_with adds q.stack line born cell o) row) (sym keeps)
      (step_alone 0 th r.stack (site_of c0) _ _ row cell mobile (ap (λ (j : Pick). step_row p c0.sites 0 j t.goes.takes.kinds (effect_with adds q.stack line born cell port) (site_of c0)) picked)))

  -- a step on a stationary cell or on a port
  pub is_kept : (IsStepOrRequest 0 th r.stack (site_of c0) (step_row p c0.sites 0 (step_pick th k.fresh None) t.goes.takes.kinds (effect_with adds q.stack line born cell port) (site_of c0))
      (kept_step_row 0 (step_pick th k.fresh None) t.goes.takes.kinds (effect_with adds q.stack line born cell port) (site_of c0)) (effect_with adds q.stack line born cell port)
      (kept_step_row 0 (step_pick th k.fresh None) t.goes.takes.kinds (effect_with adds q.stack line born cell port) (site_of c0))) → IsUnit p c0.sites 0 th (site_of c0) kept_row
  is_kept at_effect =
      subst (λ (j : Pick). IsUnit p c0.sites 0 th (site_of c0) (kept_step_row 0 j t.goes.takes.kinds (effect_with adds q.stack line born cell port) (site_of c0))) (sym picked) (unit_by _ at_effect)

  -- the site once the names are made and the thread is left
  pub finished_site : adds ≡ [] → (c1 : Core) → IsFinished c th q k c1 → site_of c1 ≡ with_stack k.thread q.stack (with_fresh_names t.goes.takes.kinds (site_of c0))
  finished_site none c1 f =
      same_site equations records (ap (λ (x : CellTables). x.managers) (f.cells ∙ h.cells)) (ap (λ (x : CellTables). x.cell_records) (f.cells ∙ h.cells)) (f.ports ∙ h.ports) threads (f.homes ∙ h.homes) counters ended steps
    where
      equations : c1.variables.store.equations ≡ c0.variables.store.equations
      equations = ap (λ (x : Contents). x.equations) f.store ∙ (t.goes.does.equations ∙ ap (λ (es : List Equation). es ++ c0.variables.store.equations) (t.equations ∙ none))

      records : c1.variables.binder ≡ after_makes c0.variables.binder (vars_among (next_names c0.variables.binder.site (counters_of c0.fresh) t.goes.takes.kinds))
      records =
          f.records
          ∙ (ap (λ (b : Records). after_makes b (vars_among k.fresh)) h.records
          ∙ ap (λ (ns : List Name). after_makes c0.variables.binder (vars_among ns)) (sym names))

      threads : (site_of c1).threads ≡ (with_stack k.thread q.stack (with_fresh_names t.goes.takes.kinds (site_of c0))).threads
      threads =
          ap (λ (l : Living). stacks_of stack_in l) (f.living ∙ ap (λ (l : Living). without_ended l th q.stack) h.living)
          ∙ (threads_settled c0.threads.living th r q h.running
          ∙ ap (λ (n : ThreadName). with_optional_value equal_thread (stacks_of stack_in c0.threads.living) n (runnable_state (living_stack q.stack))) (sym thread))

      counters : counters_of c1.fresh ≡ counters_after (counters_of c0.fresh) t.goes.takes.kinds
      counters =
          ap counters_of (f.fresh ∙ t.goes.takes.rest)
          ∙ counters_next c0.fresh t.goes.takes.kinds (counted_in c0.fresh c0.variables.binder.site h.consistent.site)

      ended : c1.threads.ended ≡ c0.threads.ended + end_count q.stack
      ended = f.ended ∙ ap (λ (m : ℕ). m + end_count q.stack) h.ended

      steps : c1.steps ≡ c0.steps + 1
      steps = f.steps ∙ ap (λ (m : ℕ). m + 1) h.steps

  pub known : c.variables.store.known ≡ known_after c0.variables.store.known (vars_among k.fresh)
  known = t.goes.does.known

  pub kept : (x : VarName) → Contains c0.variables.store.known x → Contains c.variables.store.known x
  kept x m = subst (λ (l : List VarName). Contains l x) (sym known) (kept_after c0.variables.store.known (vars_among k.fresh) x m)

  pub named : q.name ≡ th
  named = t.goes.name ∙ (each_found (ThreadFits p c0.variables.store.known) c0.threads.living th (r, mode.Runs) h.running h.consistent.threads).named

  pub known_made : Each (λ (x : VarName). IsMade c.fresh (name.Var x)) c.variables.store.known
  known_made =
      subst (Each (λ (x : VarName). IsMade c.fresh (name.Var x))) (sym known)
      (each_known (λ (x : VarName). IsMade c.fresh (name.Var x)) (vars_among k.fresh) c0.variables.store.known
      (Each-weaker (λ (x : VarName). IsMade c0.fresh (name.Var x)) (λ (x : VarName). IsMade c.fresh (name.Var x)) (λ x m. h.stays (name.Var x) m) c0.variables.store.known h.consistent.known_made)
      (each_var (λ (x : VarName). IsMade c.fresh (name.Var x)) (HasMade c.fresh) (HasMade c.fresh) k.fresh (λ x a b. a.1) made made))

  pub made_known : (x : VarName) → HasMade c.fresh (name.Var x) → Contains c.variables.store.known x
  made_known x m =
      go (made_split c0.fresh t.goes.takes.kinds x (counted_in c0.fresh c0.variables.binder.site h.consistent.site) (subst (λ (g : Fresh). HasMade g (name.Var x)) t.goes.takes.rest m))
    where
      go : HasMade c0.fresh (name.Var x) ⊎ Contains (vars_among (names_for c0.fresh t.goes.takes.kinds)) x → Contains c.variables.store.known x
      go (inl old) = kept x (h.consistent.made_known x old)
      go (inr new) =
          subst (λ (l : List VarName). Contains l x) (sym known)
          (Each-member (λ (y : VarName). Contains (known_after c0.variables.store.known (vars_among k.fresh)) y) (vars_among k.fresh) x (named_after c0.variables.store.known (vars_among k.fresh))
          (subst (λ (ns : List Name). Contains (vars_among ns) x) (sym t.goes.takes.fresh) new))

  -- the data once the names are made and the thread is left
  pub finished_next : adds ≡ [] → (c1 : Core) → IsFinished c th q k c1 → Next p c0 c1
  finished_next none c1 f = record {
    linked = f.linked;
    grows = λ x m. subst (λ (l : List VarName). Contains l x) (sym stored) (kept x m);
    threads = subst (λ (l : List VarName). Each (ThreadFits p l) c1.threads.living) (sym stored) (subst (Each (ThreadFits p c.variables.store.known)) (sym living) threads);
    equations = subst (λ (x : Contents). EquationsFit p x.known x.equations) (sym f.store) h.fits.equations;
    own = f_own;
    site = ap site_in f.fresh ∙ h.site;
    below = subst (λ (g : Fresh). AreBelow (64 * c1.steps + 2 ^ 56) g) (sym f.fresh) (subst (λ (m : ℕ). AreBelow m c.fresh) room (h.few (64 * c0.steps + 2 ^ 56) h.consistent.below));
    known_made = subst (λ (g : Fresh). Each (λ (x : VarName). IsMade g (name.Var x)) c1.variables.store.known) (sym f.fresh) (subst (Each (λ (x : VarName). IsMade c.fresh (name.Var x))) (sym stored) known_made);
    made_known = λ x m. subst (λ (l : List VarName). Contains l x) (sym stored) (made_known x (subst (λ (g : Fresh). HasMade g (name.Var x)) f.fresh m));
    threads_made = subst (λ (g : Fresh). Each (λ (t : Entry Running). IsMade g (name.Thread t.0)) c1.threads.living) (sym f.fresh) (subst (Each (λ (t : Entry Running). IsMade c.fresh (name.Thread t.0))) (sym living) threads_made);
    stays = λ x m. subst (λ (g : Fresh). IsMade g x) (sym f.fresh) (h.stays x m);
    cells = f.cells ∙ h.cells;
    ports = f.ports ∙ h.ports;
    homes = f.homes ∙ h.homes;
    waits = subst (λ (l : Living). WaitsStay c0.threads.living l) (sym living) waits;
    asks = asks_before p c1.variables.store.known c1.variables.store.equations c0.threads.living c1.threads.living (subst (λ (l : Living). WaitsStay l c0.threads.living) (sym living) waited);
    awaits = subst (AwaitKnown c1.variables.store.known) (sym living) (await_step c0.variables.store.known c1.variables.store.known c0.threads.living th q q.stack (λ x m. subst (λ (l : List VarName). Contains l x) (sym stored) (kept x m)) h.consistent.awaits);
    exchanges = exchanges_known p c0.variables.store.known c1.variables.store.known c0.variables.store.equations c1.variables.store.equations same_equations (λ x m. subst (λ (l : List VarName). Contains l x) (sym stored) (kept x m));
    sends = sends_known p c0.variables.store.known c1.variables.store.known c0.variables.store.equations c1.variables.store.equations same_equations (λ x m. subst (λ (l : List VarName). Contains l x) (sym stored) (kept x m));
    sites = f.sites ∙ h.sites;
  }
    where
      stored : c1.variables.store.known ≡ c.variables.store.known
      stored = ap (λ (x : Contents). x.known) f.store

      living : c1.threads.living ≡ without_ended (set_value c0.threads.living th q) th q.stack
      living = f.living ∙ ap (λ (l : Living). without_ended l th q.stack) h.living

      threads : Each (ThreadFits p c.variables.store.known) (without_ended (set_value c0.threads.living th q) th q.stack)
      threads =
          settled_each (ThreadFits p c.variables.store.known) c0.threads.living th q q.stack (λ goes m. record { named = named; goes = goes; fits = h.fits.stack })
          (Each-weaker (ThreadFits p c0.variables.store.known) (ThreadFits p c.variables.store.known) (λ t1 g. thread_grows p c0.variables.store.known c.variables.store.known t1 kept g) c0.threads.living h.consistent.threads)

      f_own : c1.variables.binder.site ≡ c0.variables.binder.site
      f_own = ap (λ (b : Records). b.site) f.records ∙ (makes_site c.variables.binder (vars_among k.fresh) ∙ ap (λ (b : Records). b.site) h.records)

      room : 64 * c0.steps + 2 ^ 56 + 64 ≡ 64 * c1.steps + 2 ^ 56
      room = let one : c1.steps ≡ c0.steps + 1 = f.steps ∙ ap (λ (m : ℕ). m + 1) h.steps in omega arith

      threads_made : Each (λ (t : Entry Running). IsMade c.fresh (name.Thread t.0)) (without_ended (set_value c0.threads.living th q) th q.stack)
      threads_made =
          settled_each (λ (t : Entry Running). IsMade c.fresh (name.Thread t.0)) c0.threads.living th q q.stack
          (λ goes m. h.stays (name.Thread th) (each_found (λ (t : Entry Running). IsMade c0.fresh (name.Thread t.0)) c0.threads.living th (r, mode.Runs) h.running h.consistent.threads_made))
          (Each-weaker (λ (t : Entry Running). IsMade c0.fresh (name.Thread t.0)) (λ (t : Entry Running). IsMade c.fresh (name.Thread t.0)) (λ t m. h.stays (name.Thread t.0) m) c0.threads.living h.consistent.threads_made)

      waits : WaitsStay c0.threads.living (without_ended (set_value c0.threads.living th q) th q.stack)
      waits =
          waits_trans c0.threads.living (set_value c0.threads.living th q) (without_ended (set_value c0.threads.living th q) th q.stack)
          (waits_set c0.threads.living th r q h.running) (waits_settled (set_value c0.threads.living th q) th q q.stack (value_there c0.threads.living th r mode.Runs q h.running))

      waited : WaitsStay (without_ended (set_value c0.threads.living th q) th q.stack) c0.threads.living
      waited =
          waits_trans (without_ended (set_value c0.threads.living th q) th q.stack) (set_value c0.threads.living th q) c0.threads.living
          (waited_settled (set_value c0.threads.living th q) th q.stack) (waited_set c0.threads.living th r q h.running)

      same_equations : c1.variables.store.equations ≡ c0.variables.store.equations
      same_equations = ap (λ (x : Contents). x.equations) f.store ∙ (t.goes.does.equations ∙ ap (λ (es : List Equation). es ++ c0.variables.store.equations) (t.equations ∙ none))
