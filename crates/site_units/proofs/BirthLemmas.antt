-- Units that make a thread or a cell.
use Rattle.std.proofs.Common.{◌≡◌, ◌≢◌, ◌∙◌, sym, ap, refl, subst, ℕ, List, [], ◌∷◌, ◌++◌, ◌⊎◌, inl, inr, Bool, true, false, cond, Some, None}
use Rattle.std.specs.Prelude.{Option, Contains, ℤ, ◌==◌}
use Rattle.tree_node.specs.declared.names.VarName.{VarName}
use Rattle.tree_node.specs.declared.names.CellName.{CellName}
use Rattle.tree_node.specs.declared.names.ThreadName.{ThreadName}
use Rattle.tree_node.specs.declared.names.CodeId.{CodeId}
use Rattle.tree_node.specs.declared.names.Name.{Name}
use Rattle.tree_node.specs.declared.names.Name.TheVariants as name
use Rattle.tree_node.specs.declared.names.NameKind.TheVariants as kind
use Rattle.tree_node.specs.declared.item.Item.TheVariants as item
use Rattle.tree_node.specs.declared.pick.Pick.{Pick}
use Rattle.tree_node.specs.Assoc.{value_of}
use Rattle.tree_node.specs.Each.{Each}
use Rattle.tree_node.specs.Env.{env_for}
use Rattle.tree_node.specs.State.{Stack, equal_thread}
use Rattle.kernel_syntax.specs.declared.stmt.Stmt.{Stmt}
use Rattle.kernel_syntax.specs.Free.{free}
use Rattle.oz_model.specs.Need.{kinds_of, stack_need}
use Rattle.oz_model.specs.Effect.{Birth, Stays, Made, Keeps, thread_among, vars_among}
use Rattle.oz_model.proofs.NameLemmas.{Each-weaker}
use Rattle.site_message.specs.declared.message.Msg.TheVariants as msg
use Rattle.thread_machine.specs.declared.answer.StepOut.{StepOut}
use Rattle.thread_machine.specs.declared.answer.StepOut.TheVariants as out
use Rattle.name_supply.specs.declared.fresh.Fresh.{Fresh}
use Rattle.name_supply.specs.declared.fresh.Fresh.TheVariants as fresh
use Rattle.thread_machine.specs.Fits.{StackFits}
use Rattle.thread_machine.specs.Running.{Running}
use Rattle.name_supply.specs.Supply.{names_for, IsCounted, site_in, IsMade, HasMade}
use Rattle.name_supply.proofs.MadeLemmas.{counted_in}
use Rattle.thread_roster.specs.declared.mode.Awaited.{Awaited}
use Rattle.thread_roster.specs.declared.mode.Awaited.TheVariants.{Cell}
use Rattle.thread_roster.specs.declared.mode.Mode.{Mode}
use Rattle.thread_roster.specs.declared.mode.Mode.TheVariants as mode
use Rattle.thread_roster.specs.Threads.{Threads as Roster, Entry}
use Rattle.thread_roster.proofs.ThreadLemmas.{each_found}
use Rattle.thread_roster.proofs.NameLemmas.{is_same, is_other, name_cases}
use Rattle.token_chain.specs.Holding.{here_with}
use Rattle.site_model.specs.Site.{Site, CellRecord, ThreadState, cell_record_in}
use Rattle.site_model.specs.Bundle.{with_own_bundle}
use Rattle.site_model.specs.Transition.{Transition, without_output, with_messages}
use Rattle.site_model.specs.Messages.{with_thread}
use Rattle.site_model.specs.Unit.{IsUnit, placement, birth_row, with_stack, with_fresh_names, after_cell, next_names}
use Rattle.bind_protocol.specs.Rows.{sent_message}
use Rattle.site_cells.specs.Tables.{CellTables, AreTablesOf, IsChange, with_tables}
use Rattle.site_variables.specs.Variables.{stacks_of}
use Rattle.site_units.specs.declared.data.Core.{Core}
use Rattle.site_units.specs.declared.data.Output.{Output}
use Rattle.site_units.specs.Core.{site_of, stack_in, counters_of}
use Rattle.site_cells.specs.Homes.{home_in}
use Rattle.site_units.specs.Invariant.{ThreadFits, IsAsking, IsQueued, IsEarly, CellFits, CellsFit, own_threads, IsConsistent, AwaitKnown}
use Rattle.site_units.specs.Units.{IsStepping, IsFinished, IsUnitMade, without_ended}
use Rattle.site_units.proofs.ThreadLemmas.{Living, mode_in, runs_other}
use Rattle.site_units.proofs.FreshLemmas.{makes_site}
use Rattle.oz_model.proofs.BirthLemmas.{BornBy, stack_born}
use Rattle.site_units.proofs.SiteLemmas.{nil_right}
use Rattle.site_units.proofs.NextLemmas.{next_consistent}
use Rattle.site_units.proofs.CellLemmas.{replaced}
use Rattle.site_units.proofs.StepLemmas.{Taken, row, is_unit, finished_site, finished_next}
use Rattle.site_units.proofs.ChainLemmas.{others_there}
use Rattle.std.proofs.lemmas.Bool.{ne_eqb, eq-eqb}

-- ---- cells

-- the same threads and variables
pub fits_alike : (p : List Stmt) (c : Core) (t : CellTables) (e : CellName × CellRecord) → CellFits p c e → CellFits p (record c { cells = t }) e
fits_alike p c t e k = record { content = k.content; queue = k.queue; once = k.once }

pub cells_consistent : (p : List Stmt) (c : Core) (t : CellTables) → IsConsistent p c → t.site ≡ c.cells.site → CellsFit p c t.cell_records → IsConsistent p (record c { cells = t })
cells_consistent p c t h site fits = record {
  linked = h.linked;
  threads = h.threads;
  equations = h.equations;
  site = h.site;
  below = h.below;
  known_made = h.known_made;
  made_known = h.made_known;
  threads_made = h.threads_made;
  tables = site ∙ h.tables;
  cells = λ cell. fits_alike p c t (cell, cell_record_in t.cell_records cell) (fits cell);
  ports = h.ports;
  homes = λ cell. record { content = (h.homes cell).content; news = (h.homes cell).news; waits = (h.homes cell).waits; once = (h.homes cell).once };
  asks = h.asks;
  awaits = h.awaits;
  among = h.among;
  some = h.some;
}

pub cell_made : (p : List Stmt) (c0 c c1 : Core) (t2 : CellTables) (o0 o1 : Output) (th : ThreadName) (r q : Running) (k : Pick) (cell : CellName) (v : VarName) → cell.at ≡ 0 → IsStepping p c0 c th r q (out.NewCell k cell v) → IsFinished c th q k c1 →
    IsChange (after_cell (Made cell v)) c1.cells t2 → o1.picks ≡ o0.picks ++ k ∷ [] → o1.sent ≡ o0.sent → o1.lines.items ≡ o0.lines.items → IsUnitMade p th c0 o0 (record c1 { cells = t2 }) o1
cell_made p c0 c c1 t2 o0 o1 th r q k cell v mobile h f change picks sent lines = (
  row p c0 c th r q (out.NewCell k cell v) k [] None None (Made cell v) Keeps h t h.made,
  is_unit p c0 c th r q (out.NewCell k cell v) k [] None None (Made cell v) Keeps h t h.made mobile refl,
  record {
    site =
        ap (λ (s : Site). with_tables t2 s) (finished_site p c0 c th r q (out.NewCell k cell v) k [] None None (Made cell v) Keeps h t h.made refl c1 f)
        ∙ ap (λ (s : Site). with_stack k.thread q.stack s) (sym changed);
    picks = picks;
    sent = sent ∙ sym (nil_right o0.sent);
    lines = lines ∙ sym (nil_right o0.lines.items);
    consistent = cells_consistent p c1 t2 before change.0 records;
    sites = f.sites ∙ h.sites;
  },
)
  where
    t : Taken p c0 c r q k [] None None (Made cell v) Keeps
    t = record { goes = h.step.0; printed = h.step.1.line; births = h.step.2; change = h.step.1.cell; ends = h.step.1.port; equations = h.step.3 }

    before : IsConsistent p c1
    before = next_consistent p c0 c1 h.consistent (finished_next p c0 c th r q (out.NewCell k cell v) k [] None None (Made cell v) Keeps h t h.made refl c1 f)

    begun : Site
    begun = with_fresh_names t.goes.takes.kinds (site_of c0)

    same : c1.cells ≡ c0.cells
    same = f.cells ∙ h.cells

    tables : AreTablesOf (with_fresh_names t.goes.takes.kinds (site_of c0)) c1.cells
    tables = record {
      site =
          ap (λ (x : CellTables). x.site) same
          ∙ (h.consistent.tables ∙ sym (makes_site c0.variables.binder (vars_among (next_names c0.variables.binder.site (counters_of c0.fresh) t.goes.takes.kinds))));
      managers = ap (λ (x : CellTables). x.managers) same;
      cell_records = ap (λ (x : CellTables). x.cell_records) same;
    }

    changed : after_cell (Made cell v) (with_fresh_names t.goes.takes.kinds (site_of c0)) ≡ with_tables t2 (with_fresh_names t.goes.takes.kinds (site_of c0))
    changed = change.1 (with_fresh_names t.goes.takes.kinds (site_of c0)) tables

    known : Contains c1.variables.store.known v
    known = subst (λ s. Contains s.known v) (sym f.store) h.handed

    records : CellsFit p c1 t2.cell_records
    records =
        subst (CellsFit p c1) (ap (λ (s : Site). s.cell_records) changed)
        (replaced p c1 c0.cells.cell_records cell (record { held = here_with v; queue = [] }) (record { content = known; queue = tt; once = tt })
        (subst (λ (x : CellTables). CellsFit p c1 x.cell_records) same before.cells))

-- ---- threads

born_name : (f : Fresh) → IsCounted f → (n : ThreadName) × (names_for f (kind.Thread ∷ []) ≡ name.Thread n ∷ [])
born_name (fresh.Counted site sites vars cells procs threads ports) h = (record { site = site; num = threads }, refl)
born_name (fresh.Given names) h = absurd h

lives_apart : (ts : Living) (n m : ThreadName) (r : Running) → value_of equal_thread ts n ≡ Some (r, mode.Runs) → value_of equal_thread ts m ≡ None → n ≢ m
lives_apart ts n m r runs none same =
    let both : ◌≡◌ {A = Option (Running × Mode)} (Some (r, mode.Runs)) None = sym runs ∙ (ap (λ (x : ThreadName). value_of equal_thread ts x) same ∙ none) in cc

-- a thread whose name was not made does not live
pub unmade_new : (f : Fresh) (ts : Living) (n : ThreadName) → Each (λ (t : Entry Running). IsMade f (name.Thread t.0)) ts → (IsMade f (name.Thread n) → ⊥) → value_of equal_thread ts n ≡ None
unmade_new f ts n all unmade = go (value_of equal_thread ts n) refl
  where
    go : (o : Option (Running × Mode)) → value_of equal_thread ts n ≡ o → value_of equal_thread ts n ≡ None
    go None e = e
    go (Some v) e = absurd (unmade (each_found (λ (t : Entry Running). IsMade f (name.Thread t.0)) ts n v e all))

-- one more thread
pub thread_consistent : (p : List Stmt) (c : Core) (ts : Roster Running) (n : ThreadName) (w : Running) → IsConsistent p c → ts.living ≡ (n, (w, mode.Runs)) ∷ c.threads.living → value_of equal_thread c.threads.living n ≡ None →
    ThreadFits p c.variables.store.known (n, (w, mode.Runs)) → IsMade c.fresh (name.Thread n) → IsConsistent p (record c { threads = ts })
thread_consistent p c ts n w h living new fits made = record {
  linked = h.linked;
  threads = subst (Each (ThreadFits p c.variables.store.known)) (sym living) (fits, h.threads);
  equations = h.equations;
  site = h.site;
  below = h.below;
  known_made = h.known_made;
  made_known = h.made_known;
  threads_made = subst (Each (λ (t : Entry Running). IsMade c.fresh (name.Thread t.0))) (sym living) (made, h.threads_made);
  tables = h.tables;
  cells = λ cell. record {
    content = (h.cells cell).content;
    queue = Each-weaker (IsQueued p c cell) (IsQueued p (record c { threads = ts }) cell) (λ m a. (a.0, (a.1.0, still m (Cell cell) a.1.0 a.1.1, a.1.2))) (cell_record_in c.cells.cell_records cell).queue (h.cells cell).queue;
    once = (h.cells cell).once;
  };
  ports = h.ports;
  homes = λ cell. record {
    content = (h.homes cell).content;
    news = (h.homes cell).news;
    waits = Each-weaker (IsEarly p c cell) (IsEarly p (record c { threads = ts }) cell) (λ m a. (a.0, a.1, (a.2.0, still m (Cell cell) a.2.0 a.2.1, a.2.2))) (own_threads c.variables.binder.site (home_in c.homes cell).early) (h.homes cell).waits;
    once = (h.homes cell).once;
  };
  asks = asked;
  awaits = subst (AwaitKnown c.variables.store.known) (sym living) (tt, h.awaits);
  among = h.among;
  some = h.some;
}
  where
    still : (m : ThreadName) (a : Awaited) (s : Running) → value_of equal_thread c.threads.living m ≡ Some (s, mode.WaitsFor a) → value_of equal_thread ts.living m ≡ Some (s, mode.WaitsFor a)
    still m a s e =
        let apart : n ≢ m = λ same. let both : ◌≡◌ {A = Option (Running × Mode)} None (Some (s, mode.WaitsFor a)) = sym new ∙ (ap (λ (x : ThreadName). value_of equal_thread c.threads.living x) same ∙ e) in cc in
        ap (λ (l : Living). value_of equal_thread l m) living ∙ (rw (is_other n m apart) refl ∙ e)

    asked : (m : ThreadName) (s : Running) (a : Awaited) → value_of equal_thread ts.living m ≡ Some (s, mode.WaitsFor a) → IsAsking p c.variables.store.known c.variables.store.equations a s
    asked m s a e = go (name_cases n m)
      where
        go : (n ≡ m) ⊎ (n ≢ m) → IsAsking p c.variables.store.known c.variables.store.equations a s
        go (inl same) =
            let first : value_of equal_thread ((n, (w, mode.Runs)) ∷ c.threads.living) m ≡ Some (w, mode.Runs) = rw (is_same n m same) refl in
            absurd (runs_other a (ap mode_in (sym e ∙ (ap (λ (l : Living). value_of equal_thread l m) living ∙ first))))
        go (inr apart) =
            let rest : value_of equal_thread ((n, (w, mode.Runs)) ∷ c.threads.living) m ≡ value_of equal_thread c.threads.living m = rw (is_other n m apart) refl in
            h.asks m s a (sym (ap (λ (l : Living). value_of equal_thread l m) living ∙ rest) ∙ e)

module _ (p : List Stmt) (c0 c c1 : Core) (o0 o1 : Output) (th : ThreadName) (r q : Running) (k : Pick) (at : Option ℤ) (n : ThreadName) (code : CodeId) (vars : List VarName)
    (h : IsStepping p c0 c th r q (out.Spawn k at n code vars)) (f : IsFinished c th q k c1) where
  abbrev birth : Birth
  birth = record { at = at; name = n; code = code; vars = vars }

  taken : Taken p c0 c r q k [] None (Some (record { at = at; name = n; code = code; vars = vars })) Stays Keeps
  taken = record { goes = h.step.0; printed = h.step.1.line; births = h.step.2; change = h.step.1.cell; ends = h.step.1.port; equations = h.step.3 }

  abbrev whole : Transition
  whole = row p c0 c th r q (out.Spawn k at n code vars) k [] None (Some (record { at = at; name = n; code = code; vars = vars })) Stays Keeps h taken h.made

  before : IsConsistent p c1
  before = next_consistent p c0 c1 h.consistent (finished_next p c0 c th r q (out.Spawn k at n code vars) k [] None (Some birth) Stays Keeps h taken h.made refl c1 f)

  by : BornBy k.fresh birth (stack_need p c0.variables.store.equations r.stack)
  by = stack_born p c0.variables.store.equations k.fresh None r.stack birth h.step.2

  kinds : taken.goes.takes.kinds ≡ kind.Thread ∷ []
  kinds = ap kinds_of (sym taken.goes.takes.takes ∙ by.1)

  first : (m : ThreadName) × (names_for c0.fresh (kind.Thread ∷ []) ≡ name.Thread m ∷ [])
  first = born_name c0.fresh (counted_in c0.fresh c0.variables.binder.site h.consistent.site)

  names : k.fresh ≡ name.Thread first.0 ∷ []
  names = taken.goes.takes.fresh ∙ (ap (λ ks. names_for c0.fresh ks) kinds ∙ first.1)

  called : n ≡ first.0
  called = by.0 ∙ ap thread_among names

  born_made : IsMade c.fresh (name.Thread n)
  born_made =
      let all : Each (HasMade c.fresh) (name.Thread first.0 ∷ []) = subst (Each (HasMade c.fresh)) names h.made in
      subst (λ (m : ThreadName). IsMade c.fresh (name.Thread m)) (sym called) all.0.1

  born_unmade : IsMade c0.fresh (name.Thread n) → ⊥
  born_unmade =
      let all : Each (λ (x : Name). IsMade c0.fresh x → ⊥) (name.Thread first.0 ∷ []) = subst (Each (λ (x : Name). IsMade c0.fresh x → ⊥)) names h.unmade in
      subst (λ (m : ThreadName). IsMade c0.fresh (name.Thread m) → ⊥) (sym called) all.0

  not_here : value_of equal_thread c0.threads.living n ≡ None
  not_here = unmade_new c0.fresh c0.threads.living n h.consistent.threads_made born_unmade

  -- it is not the one that made the thread
  pub born_apart : th ≢ n
  born_apart = lives_apart c0.threads.living th n r h.running not_here

  -- the name of the new thread is new
  pub born_new : value_of equal_thread c1.threads.living n ≡ None
  born_new =
      ap (λ (l : Living). value_of equal_thread l n) (f.living ∙ ap (λ (l : Living). without_ended l th q.stack) h.living)
      ∙ (others_there c0.threads.living th n q q.stack (lives_apart c0.threads.living th n r h.running not_here) ∙ not_here)

  -- the site before the birth, and what was done so far
  abbrev begun : Site
  begun = with_stack k.thread q.stack (with_fresh_names taken.goes.takes.kinds (site_of c0))

  begun_is : site_of c1 ≡ with_stack k.thread q.stack (with_fresh_names taken.goes.takes.kinds (site_of c0))
  begun_is = finished_site p c0 c th r q (out.Spawn k at n code vars) k [] None (Some birth) Stays Keeps h taken h.made refl c1 f

  own : (with_fresh_names taken.goes.takes.kinds (site_of c0)).records.site ≡ c0.variables.binder.site
  own = makes_site c0.variables.binder (vars_among (next_names c0.variables.binder.site (counters_of c0.fresh) taken.goes.takes.kinds))

  births : (b : Bool) → (placement c0.sites c0.variables.binder.site at == c0.variables.binder.site) ≡ b →
      birth_row p c0.sites 0 (Some birth) begun ≡ cond b (without_output (with_thread p (Some birth) begun)) (with_messages begun (with_own_bundle 0 begun.equations (sent_message (placement c0.sites begun.records.site at) (msg.Spawn n code vars [])) ∷ []))
  births b e =
      ap (λ (z : Bool). cond z (without_output (with_thread p (Some birth) begun)) (with_messages begun (with_own_bundle 0 begun.equations (sent_message (placement c0.sites begun.records.site at) (msg.Spawn n code vars [])) ∷ [])))
      (subst (λ (i : ℕ). (placement c0.sites i at == i) ≡ b) (sym own) e)

  unit : IsUnit p c0.sites 0 th (site_of c0) whole
  unit = is_unit p c0 c th r q (out.Spawn k at n code vars) k [] None (Some birth) Stays Keeps h taken h.made tt refl

  pub spawned_here : (ts : Roster Running) (w : Running) → (placement c0.sites c0.variables.binder.site at == c0.variables.binder.site) ≡ true → w ≡ record { name = n; stack = item.Run code (env_for (free p code) vars) ∷ []; told = None } →
      ((known : List VarName) → Each (λ (x : VarName). Contains known x) vars → StackFits p known w.stack) →
      ts.living ≡ (n, (w, mode.Runs)) ∷ c1.threads.living → ts.ended ≡ c1.threads.ended →
      o1.picks ≡ o0.picks ++ k ∷ [] → o1.sent ≡ o0.sent → o1.lines.items ≡ o0.lines.items → IsUnitMade p th c0 o0 (record c1 { threads = ts }) o1
  spawned_here ts w here is fits living ended picks sent lines = (
    whole,
    unit,
    record {
      site = started ∙ (ap (λ (s : Site). with_thread p (Some birth) s) begun_is ∙ sym (ap (λ (d : Transition). d.site) (births true here)));
      picks = picks ∙ ap (λ l. o0.picks ++ k ∷ l) (sym (ap (λ (d : Transition). d.picks) (births true here)));
      sent = sent ∙ (sym (nil_right o0.sent) ∙ ap (λ l. o0.sent ++ l) (sym (ap (λ (d : Transition). d.sent) (births true here))));
      lines = lines ∙ (sym (nil_right o0.lines.items) ∙ ap (λ l. o0.lines.items ++ l) (sym (ap (λ (d : Transition). d.lines) (births true here))));
      consistent = thread_consistent p c1 ts n w before living born_new born_fits (subst (λ (g : Fresh). IsMade g (name.Thread n)) (sym f.fresh) born_made);
      sites = f.sites ∙ h.sites;
    },
  )
    where
      stack : w.stack ≡ item.Run code (env_for (free p code) vars) ∷ []
      stack = ap (λ (x : Running). x.stack) is

      started : site_of (record c1 { threads = ts }) ≡ with_thread p (Some birth) (site_of c1)
      started =
          ap (λ (l : List (ThreadName × ThreadState)). record (site_of c1) { threads = l; ended = ts.ended })
          (ap (λ (l : Living). stacks_of stack_in l) living ∙ ap (λ (st : Stack). (n, (st, mode.Runs)) ∷ stacks_of stack_in c1.threads.living) stack)
          ∙ ap (λ (m : ℕ). record (with_thread p (Some birth) (site_of c1)) { ended = m }) ended

      known : Each (λ (x : VarName). Contains c1.variables.store.known x) vars
      known = subst (λ s. Each (λ (x : VarName). Contains s.known x) vars) (sym f.store) h.handed.2

      born_fits : ThreadFits p c1.variables.store.known (n, (w, mode.Runs))
      born_fits = record {
        named = ap (λ (x : Running). x.name) is;
        goes = λ e. let none : item.Run code (env_for (free p code) vars) ∷ [] ≡ [] = sym stack ∙ e in cc;
        fits = fits c1.variables.store.known known;
      }

  pub spawned_away : (to : ℕ) → (placement c0.sites c0.variables.binder.site at == c0.variables.binder.site) ≡ false → to ≡ placement c0.sites c0.variables.binder.site at →
      o1.picks ≡ o0.picks ++ k ∷ [] → o1.sent ≡ o0.sent ++ record { to = to; msg = msg.Spawn n code vars [] } ∷ [] → o1.lines.items ≡ o0.lines.items → IsUnitMade p th c0 o0 c1 o1
  spawned_away to away placed picks sent lines = (
    whole,
    unit,
    record {
      site = begun_is ∙ sym (ap (λ (d : Transition). d.site) (births false away));
      picks = picks ∙ ap (λ l. o0.picks ++ k ∷ l) (sym (ap (λ (d : Transition). d.picks) (births false away)));
      sent = sent ∙ ap (λ l. o0.sent ++ l) (ap (λ (i : ℕ). record { to = i; msg = msg.Spawn n code vars [] } ∷ []) (placed ∙ ap (λ (i : ℕ). placement c0.sites i at) (sym own)) ∙ sym (ap (λ (d : Transition). d.sent) (births false away)));
      lines = lines ∙ (sym (nil_right o0.lines.items) ∙ ap (λ l. o0.lines.items ++ l) (sym (ap (λ (d : Transition). d.lines) (births false away))));
      consistent = before;
      sites = f.sites ∙ h.sites;
    },
  )

-- ---- where a thread is placed

pub placed_at : (p : List Stmt) (c0 c : Core) (th : ThreadName) (r q : Running) (o : StepOut) (at : Option ℤ) (to site : ℕ) → IsStepping p c0 c th r q o → to ≡ placement c.sites site at →
    ((i : ℕ) → site_in c.fresh ≡ Some i → site ≡ i) → to ≡ placement c0.sites c0.variables.binder.site at
placed_at p c0 c th r q o at to site h e own =
    let here : site ≡ c0.variables.binder.site = own c0.variables.binder.site (h.site ∙ h.consistent.site) in
    e ∙ (ap (λ (n : ℕ). placement n site at) h.sites ∙ ap (λ (i : ℕ). placement c0.sites i at) here)

pub placed_here : (p : List Stmt) (c0 c : Core) (th : ThreadName) (r q : Running) (o : StepOut) (at : Option ℤ) (to site : ℕ) → IsStepping p c0 c th r q o → to ≡ placement c.sites site at →
    ((i : ℕ) → site_in c.fresh ≡ Some i → site ≡ i) → to ≡ site → (placement c0.sites c0.variables.binder.site at == c0.variables.binder.site) ≡ true
placed_here p c0 c th r q o at to site h e own same =
    eq-eqb (placement c0.sites c0.variables.binder.site at) c0.variables.binder.site
    (sym (placed_at p c0 c th r q o at to site h e own) ∙ (same ∙ own c0.variables.binder.site (h.site ∙ h.consistent.site)))

pub placed_away : (p : List Stmt) (c0 c : Core) (th : ThreadName) (r q : Running) (o : StepOut) (at : Option ℤ) (to site : ℕ) → IsStepping p c0 c th r q o → to ≡ placement c.sites site at →
    ((i : ℕ) → site_in c.fresh ≡ Some i → site ≡ i) → to ≢ site → (placement c0.sites c0.variables.binder.site at == c0.variables.binder.site) ≡ false
placed_away p c0 c th r q o at to site h e own apart =
    ne_eqb (placement c0.sites c0.variables.binder.site at) c0.variables.binder.site
    (λ same. apart (placed_at p c0 c th r q o at to site h e own ∙ (same ∙ sym (own c0.variables.binder.site (h.site ∙ h.consistent.site)))))
