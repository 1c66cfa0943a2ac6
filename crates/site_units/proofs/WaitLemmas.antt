-- Units that end in waiting.
use Rattle.std.proofs.Common.{◌≡◌, ◌∙◌, sym, ap, refl, subst, ℕ, List, Some}
use Rattle.std.specs.Prelude.{Contains, ◌+◌, ◌*◌, ◌^◌}
use Rattle.tree_node.specs.declared.names.VarName.{VarName}
use Rattle.tree_node.specs.declared.names.ThreadName.{ThreadName}
use Rattle.tree_node.specs.declared.names.Name.TheVariants as name
use Rattle.tree_node.specs.Assoc.{value_of, with_value}
use Rattle.tree_node.specs.Each.{Each}
use Rattle.tree_node.specs.State.{Stack, equal_thread}
use Rattle.tree_node.specs.Compare.{Pair, Open, compared}
use Rattle.tree_node.specs.Store.{IsClassName}
use Rattle.tree_store.specs.Contents.{Contents}
use Rattle.kernel_syntax.specs.declared.stmt.Stmt.{Stmt}
use Rattle.oz_model.specs.Need.{Need, Waits, WaitsAny, stack_need}
use Rattle.bind_protocol.specs.Records.{Records}
use Rattle.thread_machine.specs.declared.answer.StepOut.{StepOut}
use Rattle.thread_machine.specs.declared.answer.StepOut.TheVariants as out
use Rattle.name_supply.specs.declared.fresh.Fresh.{Fresh}
use Rattle.thread_machine.specs.Fits.{StackFits, EquationsFit}
use Rattle.thread_machine.specs.Running.{Running}
use Rattle.name_supply.specs.Supply.{site_in, IsMade, HasMade, AreBelow}
use Rattle.thread_roster.specs.declared.mode.Awaited.{Awaited}
use Rattle.thread_roster.specs.declared.mode.Mode.{Mode}
use Rattle.thread_roster.specs.declared.mode.Mode.TheVariants as mode
use Rattle.thread_roster.specs.Threads.{Entry, set_value, set_mode}
use Rattle.thread_roster.proofs.ThreadLemmas.{each_found, each_value, each_mode, value_there}
use Rattle.site_model.specs.Transition.{Transition, without_output}
use Rattle.site_model.specs.Unit.{IsUnit, IsUnitFor, with_mode}
use Rattle.site_cells.specs.Tables.{CellTables, with_tables}
use Rattle.site_variables.specs.declared.variables.Variables.{Variables}
use Rattle.site_variables.specs.Variables.{IsLinked, IsRecorded, stacks_of}
use Rattle.site_units.specs.declared.data.Core.{Core}
use Rattle.site_units.specs.declared.data.Output.{Output}
use Rattle.site_units.specs.Core.{site_of, stack_in, counters_of}
use Rattle.site_units.specs.Invariant.{ThreadFits, IsAsking, AwaitKnown, AwaitsKnown}
use Rattle.site_units.specs.Units.{IsStepping, IsUnitMade}
use Rattle.site_units.proofs.AwaitLemmas.{await_mode, await_set, needs_known, several_known}
use Rattle.site_units.proofs.ThreadLemmas.{Living, WaitsStay, found_same, threads_wait, thread_found, waits_trans, waits_set, waits_mode, waited_set}
use Rattle.site_units.proofs.SiteLemmas.{same_site, nil_right}
use Rattle.site_units.proofs.NextLemmas.{Next, next_consistent, exchanges_known, sends_known, AskRightly, asks_mode, asks_trans}

pub linked_same : (v w : Variables) → w.store ≡ v.store → w.binder ≡ v.binder → IsLinked v → IsLinked w
linked_same v w a b h = subst (λ (x : Contents). IsRecorded x.equations x.known w.binder) (sym a) (subst (λ (y : Records). IsRecorded v.store.equations v.store.known y) (sym b) h)

-- the thread keeps its stack, and stands otherwise; variables and counters are as before
module _ (p : List Stmt) (c0 c c1 : Core) (th : ThreadName) (r q : Running) (o : StepOut) (k : Mode)
    (h : IsStepping p c0 c th r q o) (stack : q.stack ≡ r.stack) (called : q.name ≡ r.name)
    (store : c.variables.store ≡ c0.variables.store) (fresh : c.fresh ≡ c0.fresh)
    (variables1 : c1.variables ≡ c.variables) (fresh1 : c1.fresh ≡ c.fresh) (living1 : c1.threads.living ≡ set_mode c.threads.living th k)
    (steps1 : c1.steps ≡ c.steps) (sites1 : c1.sites ≡ c.sites) (ports1 : c1.ports ≡ c.ports) (homes1 : c1.homes ≡ c.homes) where
  stored : c1.variables.store ≡ c0.variables.store
  stored = ap (λ (v : Variables). v.store) variables1 ∙ store

  recorded : c1.variables.binder ≡ c0.variables.binder
  recorded = ap (λ (v : Variables). v.binder) variables1 ∙ h.records

  supplied : c1.fresh ≡ c0.fresh
  supplied = fresh1 ∙ fresh

  living : c1.threads.living ≡ set_mode (set_value c0.threads.living th q) th k
  living = living1 ∙ ap (λ (l : Living). set_mode l th k) h.living

  fits : ThreadFits p c0.variables.store.known (th, (r, mode.Runs))
  fits = each_found (ThreadFits p c0.variables.store.known) c0.threads.living th (r, mode.Runs) h.running h.consistent.threads

  here : (m : Mode) → ThreadFits p c0.variables.store.known (th, (q, m))
  here m = record {
    named = called ∙ fits.named;
    goes = λ e. fits.goes (sym stack ∙ e);
    fits = subst (λ (st : Stack). StackFits p c0.variables.store.known st) (sym stack) fits.fits;
  }

  found : value_of equal_thread (set_value c0.threads.living th q) th ≡ Some (q, mode.Runs)
  found = value_there c0.threads.living th r mode.Runs q h.running

  each_here : (P : Entry Running → Type 0) → ((m : Mode) → P (th, (q, m))) → Each P c0.threads.living → Each P (set_mode (set_value c0.threads.living th q) th k)
  each_here P at all =
      each_mode P (set_value c0.threads.living th q) th k (λ v m e. only v m e) (each_value P c0.threads.living th q at all)
    where
      only : (v : Running) (m : Mode) → value_of equal_thread (set_value c0.threads.living th q) th ≡ Some (v, m) → P (th, (v, k))
      only v m e = let same : v ≡ q = found_same (set_value c0.threads.living th q) th v q m mode.Runs e found in subst (λ (x : Running). P (th, (x, k))) (sym same) (at k)

  pub waits_next : ((a : Awaited) → k ≡ mode.WaitsFor a → IsAsking p c0.variables.store.known c0.variables.store.equations a q) → AwaitsKnown c0.variables.store.known k → c1.cells ≡ c.cells → Next p c0 c1
  waits_next asking awaited cells = record {
    linked = linked_same c0.variables c1.variables stored recorded h.consistent.linked;
    grows = λ x m. subst (λ (s : Contents). Contains s.known x) (sym stored) m;
    threads = subst (λ (s : Contents). Each (ThreadFits p s.known) c1.threads.living) (sym stored) (subst (Each (ThreadFits p c0.variables.store.known)) (sym living) (each_here (ThreadFits p c0.variables.store.known) here h.consistent.threads));
    equations = subst (λ (s : Contents). EquationsFit p s.known s.equations) (sym stored) h.consistent.equations;
    own = ap (λ (b : Records). b.site) recorded;
    site = ap site_in supplied;
    below = subst (λ (g : Fresh). AreBelow (64 * c1.steps + 2 ^ 56) g) (sym supplied) (subst (λ (m : ℕ). AreBelow (64 * m + 2 ^ 56) c0.fresh) (sym (steps1 ∙ h.steps)) h.consistent.below);
    known_made = subst (λ (g : Fresh). Each (λ (x : VarName). IsMade g (name.Var x)) c1.variables.store.known) (sym supplied) (subst (λ (s : Contents). Each (λ (x : VarName). IsMade c0.fresh (name.Var x)) s.known) (sym stored) h.consistent.known_made);
    made_known = λ x m. subst (λ (s : Contents). Contains s.known x) (sym stored) (h.consistent.made_known x (subst (λ (g : Fresh). HasMade g (name.Var x)) supplied m));
    threads_made = subst (λ (g : Fresh). Each (λ (t : Entry Running). IsMade g (name.Thread t.0)) c1.threads.living) (sym supplied) (subst (Each (λ (t : Entry Running). IsMade c0.fresh (name.Thread t.0))) (sym living)
        (each_here (λ (t : Entry Running). IsMade c0.fresh (name.Thread t.0)) (λ m. each_found (λ (t : Entry Running). IsMade c0.fresh (name.Thread t.0)) c0.threads.living th (r, mode.Runs) h.running h.consistent.threads_made) h.consistent.threads_made));
    stays = λ x m. subst (λ (g : Fresh). IsMade g x) (sym supplied) m;
    cells = cells ∙ h.cells;
    ports = ports1 ∙ h.ports;
    homes = homes1 ∙ h.homes;
    waits = subst (λ (l : Living). WaitsStay c0.threads.living l) (sym living)
        (waits_trans c0.threads.living (set_value c0.threads.living th q) (set_mode (set_value c0.threads.living th q) th k) (waits_set c0.threads.living th r q h.running) (waits_mode (set_value c0.threads.living th q) th q k found));
    asks = subst (λ (s : Contents). AskRightly p s.known s.equations c0.threads.living c1.threads.living) (sym stored)
        (subst (λ (l : Living). AskRightly p c0.variables.store.known c0.variables.store.equations c0.threads.living l) (sym living)
        (asks_trans p c0.variables.store.known c0.variables.store.equations c0.threads.living (set_value c0.threads.living th q) (set_mode (set_value c0.threads.living th q) th k) (waited_set c0.threads.living th r q h.running)
        (asks_mode p c0.variables.store.known c0.variables.store.equations (set_value c0.threads.living th q) th q k found asking)));
    awaits = subst (λ (s : Contents). AwaitKnown s.known c1.threads.living) (sym stored)
        (subst (AwaitKnown c0.variables.store.known) (sym living)
        (await_mode c0.variables.store.known (set_value c0.threads.living th q) th k awaited (await_set c0.variables.store.known c0.threads.living th q h.consistent.awaits)));
    exchanges = exchanges_known p c0.variables.store.known c1.variables.store.known c0.variables.store.equations c1.variables.store.equations (ap (λ (s : Contents). s.equations) stored) (λ x m. subst (λ (s : Contents). Contains s.known x) (sym stored) m);
    sends = sends_known p c0.variables.store.known c1.variables.store.known c0.variables.store.equations c1.variables.store.equations (ap (λ (s : Contents). s.equations) stored) (λ x m. subst (λ (s : Contents). Contains s.known x) (sym stored) m);
    sites = sites1 ∙ h.sites;
  }

  -- the thread stands otherwise in the site, whose tables of cells may have changed
  pub waits_site : c1.threads.ended ≡ c.threads.ended → site_of c1 ≡ with_tables c1.cells (record (site_of c0) { threads = with_value equal_thread (stacks_of stack_in c0.threads.living) th (r.stack, k) })
  waits_site ended1 =
      same_site (ap (λ (s : Contents). s.equations) stored) recorded refl refl (ports1 ∙ h.ports) threads (homes1 ∙ h.homes) (ap counters_of supplied) (ended1 ∙ h.ended) (steps1 ∙ h.steps)
    where
      threads : stacks_of stack_in c1.threads.living ≡ with_value equal_thread (stacks_of stack_in c0.threads.living) th (r.stack, k)
      threads =
          ap (λ (l : Living). stacks_of stack_in l) living
          ∙ (threads_wait c0.threads.living th r q k h.running
          ∙ ap (λ (st : Stack). with_value equal_thread (stacks_of stack_in c0.threads.living) th (st, k)) stack)

-- ---- the node of a class

-- the unit of a thread with this need
pub unit_of : (p : List Stmt) (c : Core) (th : ThreadName) (r : Running) (need : Need) (d : Transition) → value_of equal_thread c.threads.living th ≡ Some (r, mode.Runs) → stack_need p c.variables.store.equations r.stack ≡ need →
    IsUnitFor p c.sites 0 (site_of c) th r.stack need d → IsUnit p c.sites 0 th (site_of c) d
unit_of p c th r need d runs e u =
    (r.stack, thread_found c.threads.living th r mode.Runs runs, subst (λ (k : Need). IsUnitFor p c.sites 0 (site_of c) th r.stack k d) (sym e) u)

pub wait_made : (p : List Stmt) (c0 c c1 : Core) (o0 : Output) (th : ThreadName) (r q : Running) (x : VarName) → IsStepping p c0 c th r q (out.Waits x) →
    c1.variables ≡ c.variables → c1.fresh ≡ c.fresh → c1.threads.living ≡ set_mode c.threads.living th (mode.Needs x) → c1.steps ≡ c.steps → c1.sites ≡ c.sites → c1.threads.ended ≡ c.threads.ended → c1.cells ≡ c.cells → c1.ports ≡ c.ports → c1.homes ≡ c.homes →
    IsUnitMade p th c0 o0 c1 o0
wait_made p c0 c c1 o0 th r q x h v f l s n e t ps hs =
    let unchanged = h.step.0 in
    let z : VarName = h.step.1.0 in
    let need : stack_need p c0.variables.store.equations r.stack ≡ Waits z = h.step.1.1 in
    let class : IsClassName c0.variables.store.equations z x = h.step.1.2.1 in
    let stack : q.stack ≡ r.stack = ap (λ (y : Running). y.stack) unchanged.0 in
    let called : q.name ≡ r.name = ap (λ (y : Running). y.name) unchanged.0 in
    let site : site_of c1 ≡ with_tables c1.cells (with_mode th r.stack (mode.Needs x) (site_of c0)) = waits_site p c0 c c1 th r q (out.Waits x) (mode.Needs x) h stack called unchanged.1 unchanged.2 v f l s n ps hs e in (
      without_output (with_mode th r.stack (mode.Needs x) (site_of c0)),
      unit_of p c0 th r (Waits z) (without_output (with_mode th r.stack (mode.Needs x) (site_of c0))) h.running need (x, class, refl),
      record {
        site = site ∙ ap (λ (y : CellTables). with_tables y (with_mode th r.stack (mode.Needs x) (site_of c0))) (t ∙ h.cells);
        picks = sym (nil_right o0.picks);
        sent = sym (nil_right o0.sent);
        lines = sym (nil_right o0.lines.items);
        consistent = next_consistent p c0 c1 h.consistent (waits_next p c0 c c1 th r q (out.Waits x) (mode.Needs x) h stack called unchanged.1 unchanged.2 v f l s n ps hs (λ a z. cc) (needs_known p c0.variables.store.known c0.variables.store.equations r.stack h.consistent.equations.names (fits p c0 c c1 th r q (out.Waits x) (mode.Needs x) h stack called unchanged.1 unchanged.2 v f l s n ps hs).fits.names z x need class) t);
        sites = n ∙ h.sites;
      },
    )

-- ---- several variables

pub wait_any_made : (p : List Stmt) (c0 c c1 : Core) (o0 : Output) (th : ThreadName) (r q : Running) (xs : List VarName) → IsStepping p c0 c th r q (out.WaitsAny xs) →
    c1.variables ≡ c.variables → c1.fresh ≡ c.fresh → c1.threads.living ≡ set_mode c.threads.living th (mode.WaitsAny xs) → c1.steps ≡ c.steps → c1.sites ≡ c.sites → c1.threads.ended ≡ c.threads.ended → c1.cells ≡ c.cells → c1.ports ≡ c.ports → c1.homes ≡ c.homes →
    IsUnitMade p th c0 o0 c1 o0
wait_any_made p c0 c c1 o0 th r q xs h v f l s n e t ps hs =
    let unchanged = h.step.0 in
    let pair : Pair = h.step.1.0 in
    let need : stack_need p c0.variables.store.equations r.stack ≡ WaitsAny pair = h.step.1.1 in
    let open_on : compared c0.variables.store.equations pair ≡ Open xs = h.step.1.2 in
    let stack : q.stack ≡ r.stack = ap (λ (y : Running). y.stack) unchanged.0 in
    let called : q.name ≡ r.name = ap (λ (y : Running). y.name) unchanged.0 in
    let site : site_of c1 ≡ with_tables c1.cells (with_mode th r.stack (mode.WaitsAny xs) (site_of c0)) = waits_site p c0 c c1 th r q (out.WaitsAny xs) (mode.WaitsAny xs) h stack called unchanged.1 unchanged.2 v f l s n ps hs e in (
      without_output (with_mode th r.stack (mode.WaitsAny xs) (site_of c0)),
      unit_of p c0 th r (WaitsAny pair) (without_output (with_mode th r.stack (mode.WaitsAny xs) (site_of c0))) h.running need (xs, open_on, refl),
      record {
        site = site ∙ ap (λ (y : CellTables). with_tables y (with_mode th r.stack (mode.WaitsAny xs) (site_of c0))) (t ∙ h.cells);
        picks = sym (nil_right o0.picks);
        sent = sym (nil_right o0.sent);
        lines = sym (nil_right o0.lines.items);
        consistent = next_consistent p c0 c1 h.consistent (waits_next p c0 c c1 th r q (out.WaitsAny xs) (mode.WaitsAny xs) h stack called unchanged.1 unchanged.2 v f l s n ps hs (λ a z. cc) (several_known p c0.variables.store.known c0.variables.store.equations r.stack h.consistent.equations.names (fits p c0 c c1 th r q (out.WaitsAny xs) (mode.WaitsAny xs) h stack called unchanged.1 unchanged.2 v f l s n ps hs).fits.names pair xs need open_on) t);
        sites = n ∙ h.sites;
      },
    )
