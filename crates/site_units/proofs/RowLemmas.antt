-- What messages do to a site.
use Rattle.std.proofs.Common.{◌≡◌, ◌∙◌, sym, ap, refl, subst, ℕ, List, [], ◌∷◌, ◌++◌, Bool, true, false, cond, Some, None}
use Rattle.std.specs.Prelude.{Option, Contains, ◌==◌}
use Rattle.tree_node.specs.declared.names.VarName.{VarName}
use Rattle.tree_node.specs.declared.names.CellName.{CellName}
use Rattle.tree_node.specs.declared.names.ThreadName.{ThreadName}
use Rattle.tree_node.specs.declared.names.CodeId.{CodeId}
use Rattle.tree_node.specs.declared.names.Name.TheVariants as name
use Rattle.tree_node.specs.declared.item.Item.TheVariants as item
use Rattle.tree_node.specs.declared.pick.Pick.{Pick}
use Rattle.tree_node.specs.Assoc.{value_of}
use Rattle.tree_node.specs.Each.{Each}
use Rattle.tree_node.specs.Env.{env_for}
use Rattle.tree_node.specs.State.{Stack, equal_thread}
use Rattle.tree_store.specs.Contents.{Contents}
use Rattle.kernel_syntax.specs.declared.stmt.Stmt.{Stmt}
use Rattle.kernel_syntax.specs.Free.{free}
use Rattle.site_message.specs.declared.message.Sent.{Sent}
use Rattle.thread_machine.specs.Fits.{StackFits, EquationsFit}
use Rattle.thread_machine.specs.Running.{Running}
use Rattle.name_supply.specs.Supply.{IsMade}
use Rattle.thread_roster.specs.declared.mode.Mode.TheVariants as mode
use Rattle.thread_roster.specs.Threads.{Threads as Roster}
use Rattle.token_chain.specs.Holding.{Holding, departure_of}
use Rattle.token_chain.specs.Mail.{Forward}
use Rattle.token_chain.specs.Rows.{leave_with, forward_reply, get_reply}
use Rattle.site_model.specs.Site.{Site, ThreadState, cell_record_in}
use Rattle.site_model.specs.Transition.{Transition, without_output, with_messages}
use Rattle.site_model.specs.Messages.{with_thread, birth, register_row}
use Rattle.site_model.specs.Cells.{get_row, forward_row, last_before}
use Rattle.site_cells.specs.Tables.{CellTables, AreTablesOf, IsRow, same_site, with_tables}
use Rattle.site_variables.specs.declared.variables.Variables.{Variables}
use Rattle.site_variables.specs.Variables.{IsLinked, IsVariableRow, parts_of, stacks_of}
use Rattle.site_units.specs.declared.data.Core.{Core}
use Rattle.site_units.specs.declared.data.Output.{Output}
use Rattle.site_units.specs.Core.{site_of, stack_in}
use Rattle.site_units.specs.Invariant.{ThreadFits, ContentKnown, CellFits, CellsFit, IsConsistent, AwaitKnown}
use Rattle.site_units.specs.Turns.{IsRowMade}
use Rattle.site_units.proofs.ThreadLemmas.{Living}
use Rattle.site_units.proofs.SiteLemmas.{nil_right}
use Rattle.site_units.proofs.NextLemmas.{next_consistent, asks_before, exchanges_known, sends_known}
use Rattle.site_units.proofs.CellLemmas.{replaced}
use Rattle.site_units.proofs.BirthLemmas.{cells_consistent, thread_consistent}

-- ---- rows of variables

pub row_reached : (p : List Stmt) (f : Site → Transition) (ks : List Pick) (c : Core) (v1 : Variables) (ts1 : Roster Running) (o0 o1 : Output) →
    IsVariableRow f ks (parts_of c.variables (stacks_of stack_in c.threads.living) o0.sent) (parts_of v1 (stacks_of stack_in ts1.living) o1.sent) → ts1.ended ≡ c.threads.ended →
    o1.picks ≡ o0.picks ++ ks → o1.lines.items ≡ o0.lines.items → IsConsistent p (record c { variables = v1; threads = ts1 }) → IsRowMade p f c o0 (record c { variables = v1; threads = ts1 }) o1
row_reached p f ks c v1 ts1 o0 o1 done ended picks lines consistent = record {
  site = ap (λ (m : ℕ). record (site_of (record c { variables = v1; threads = ts1 })) { ended = m }) ended ∙ sym (ap (λ (d : Transition). d.site) is);
  picks = picks ∙ ap (λ (l : List Pick). o0.picks ++ l) (sym (ap (λ (d : Transition). d.picks) is));
  sent = done.sent ∙ ap (λ (l : List Sent). o0.sent ++ l) (sym (ap (λ (d : Transition). d.sent) is));
  lines = lines ∙ (sym (nil_right o0.lines.items) ∙ ap (λ (l : List (List ℕ)). o0.lines.items ++ l) (sym (ap (λ (d : Transition). d.lines) is)));
  consistent = consistent;
  sites = refl;
}
  where
    is : f (site_of c) ≡ record { site = record (site_of (record c { variables = v1; threads = ts1 })) { ended = c.threads.ended }; picks = ks; sent = done.more; lines = [] }
    is = done.done (site_of c)

-- the store stays
pub registered_consistent : (p : List Stmt) (c : Core) (v1 : Variables) → IsConsistent p c → IsLinked v1 → v1.store ≡ c.variables.store → v1.binder.site ≡ c.variables.binder.site → IsConsistent p (record c { variables = v1 })
registered_consistent p c v1 h linked store own = next_consistent p c (record c { variables = v1 }) h (record {
  linked = linked;
  grows = grows;
  threads = subst (λ (s : Contents). Each (ThreadFits p s.known) c.threads.living) (sym store) h.threads;
  equations = subst (λ (s : Contents). EquationsFit p s.known s.equations) (sym store) h.equations;
  own = own;
  site = refl;
  below = h.below;
  known_made = subst (λ (s : Contents). Each (λ (x : VarName). IsMade c.fresh (name.Var x)) s.known) (sym store) h.known_made;
  made_known = λ x m. grows x (h.made_known x m);
  threads_made = h.threads_made;
  stays = λ x m. m;
  cells = refl;
  ports = refl;
  homes = refl;
  waits = λ m s a e. e;
  asks = asks_before p v1.store.known v1.store.equations c.threads.living c.threads.living (λ m s a e. e);
  awaits = subst (λ (s : Contents). AwaitKnown s.known c.threads.living) (sym store) h.awaits;
  exchanges = exchanges_known p c.variables.store.known v1.store.known c.variables.store.equations v1.store.equations (ap (λ (s : Contents). s.equations) store) grows;
  sends = sends_known p c.variables.store.known v1.store.known c.variables.store.equations v1.store.equations (ap (λ (s : Contents). s.equations) store) grows;
  sites = refl;
})
  where
    grows : (x : VarName) → Contains c.variables.store.known x → Contains v1.store.known x
    grows x m = subst (λ (s : Contents). Contains s.known x) (sym store) m

pub register_made : (p : List Stmt) (c : Core) (v1 : Variables) (o0 o1 : Output) (x : VarName) (k : ℕ) →
    ((ts : List (ThreadName × ThreadState)) → IsVariableRow (register_row 0 x k) [] (parts_of c.variables ts o0.sent) (parts_of v1 ts o1.sent)) → IsLinked v1 → v1.store ≡ c.variables.store →
    o1.picks ≡ o0.picks → o1.lines.items ≡ o0.lines.items → IsConsistent p c → IsRowMade p (register_row 0 x k) c o0 (record c { variables = v1 }) o1
register_made p c v1 o0 o1 x k done linked store picks lines h =
    row_reached p (register_row 0 x k) [] c v1 c.threads o0 o1 (done (stacks_of stack_in c.threads.living)) refl (picks ∙ sym (nil_right o0.picks)) lines
    (registered_consistent p c v1 h linked store (sym (ap (λ (d : Transition). d.site.records.site) ((done []).done (site_of c)))))

-- ---- rows of cells

pub tables_of : (p : List Stmt) (c : Core) → IsConsistent p c → AreTablesOf (site_of c) c.cells
tables_of p c h = record { site = h.tables; managers = refl; cell_records = refl }

pub cells_reached : (p : List Stmt) (f : Site → Transition) (c : Core) (t2 : CellTables) (o0 o1 : Output) → IsRow f same_site c.cells t2 o0.sent o1.sent → o1.picks ≡ o0.picks → o1.lines.items ≡ o0.lines.items →
    IsConsistent p c → CellsFit p c t2.cell_records → IsRowMade p f c o0 (record c { cells = t2 }) o1
cells_reached p f c t2 o0 o1 h picks lines consistent fits = record {
  site = sym (ap (λ (d : Transition). d.site) is);
  picks = picks ∙ (sym (nil_right o0.picks) ∙ ap (λ (l : List Pick). o0.picks ++ l) (sym (ap (λ (d : Transition). d.picks) is)));
  sent = h.step.1 ∙ ap (λ (l : List Sent). o0.sent ++ l) (sym (ap (λ (d : Transition). d.sent) is));
  lines = lines ∙ (sym (nil_right o0.lines.items) ∙ ap (λ (l : List (List ℕ)). o0.lines.items ++ l) (sym (ap (λ (d : Transition). d.lines) is)));
  consistent = cells_consistent p c t2 consistent h.site fits;
  sites = refl;
}
  where
    is : f (site_of c) ≡ with_messages (with_tables t2 (site_of c)) h.step.0
    is = h.step.2 (site_of c) (tables_of p c consistent)

pub left_content : (known : List VarName) (h : Holding) (o : Option (ℕ × VarName)) → ContentKnown known h.token → ContentKnown known (leave_with h o).held.token
left_content known h None k = k
left_content known h (Some (to, v)) k = tt

forward_content : (known : List VarName) (h : Holding) (k : ℕ) → ContentKnown known h.token → ContentKnown known (forward_reply h k).held.token
forward_content known h k e = left_content known (record h { next = Some k }) (departure_of (record h { next = Some k })) e

get_content : (known : List VarName) (manager last k : ℕ) (h : Holding) → ContentKnown known h.token → ContentKnown known (get_reply manager last k h).held.token
get_content known manager last k h e = go (last == manager)
  where
    go : (b : Bool) → ContentKnown known (cond b (forward_reply h k) (record { held = h; sent = Forward last k ∷ [] })).held.token
    go true = forward_content known h k e
    go false = e

pub get_made : (p : List Stmt) (c : Core) (t2 : CellTables) (o0 o1 : Output) (cell : CellName) (k : ℕ) → IsRow (get_row 0 cell k) same_site c.cells t2 o0.sent o1.sent →
    o1.picks ≡ o0.picks → o1.lines.items ≡ o0.lines.items → IsConsistent p c → IsRowMade p (get_row 0 cell k) c o0 (record c { cells = t2 }) o1
get_made p c t2 o0 o1 cell k h picks lines consistent = cells_reached p (get_row 0 cell k) c t2 o0 o1 h picks lines consistent records
  where
    now : CellFits p c (cell, cell_record_in c.cells.cell_records cell)
    now = consistent.cells cell

    records : CellsFit p c t2.cell_records
    records =
        subst (CellsFit p c) (ap (λ (d : Transition). d.site.cell_records) (h.step.2 (site_of c) (tables_of p c consistent)))
        (replaced p c c.cells.cell_records cell _
        (record { content = get_content c.variables.store.known c.variables.binder.site (last_before (site_of c) cell) k (cell_record_in c.cells.cell_records cell).held now.content; queue = now.queue; once = now.once }) consistent.cells)

pub forward_made : (p : List Stmt) (c : Core) (t2 : CellTables) (o0 o1 : Output) (cell : CellName) (k : ℕ) → IsRow (forward_row 0 cell k) same_site c.cells t2 o0.sent o1.sent →
    o1.picks ≡ o0.picks → o1.lines.items ≡ o0.lines.items → IsConsistent p c → IsRowMade p (forward_row 0 cell k) c o0 (record c { cells = t2 }) o1
forward_made p c t2 o0 o1 cell k h picks lines consistent = cells_reached p (forward_row 0 cell k) c t2 o0 o1 h picks lines consistent records
  where
    now : CellFits p c (cell, cell_record_in c.cells.cell_records cell)
    now = consistent.cells cell

    records : CellsFit p c t2.cell_records
    records =
        subst (CellsFit p c) (ap (λ (d : Transition). d.site.cell_records) (h.step.2 (site_of c) (tables_of p c consistent)))
        (replaced p c c.cells.cell_records cell _
        (record { content = forward_content c.variables.store.known (cell_record_in c.cells.cell_records cell).held k now.content; queue = now.queue; once = now.once }) consistent.cells)

-- ---- a thread of another site

pub begin_made : (p : List Stmt) (c : Core) (ts : Roster Running) (o : Output) (n : ThreadName) (code : CodeId) (vars : List VarName) (w : Running) → value_of equal_thread c.threads.living n ≡ None → IsMade c.fresh (name.Thread n) →
    Each (λ (x : VarName). Contains c.variables.store.known x) vars → w ≡ record { name = n; stack = item.Run code (env_for (free p code) vars) ∷ []; told = None } →
    ((known : List VarName) → Each (λ (x : VarName). Contains known x) vars → StackFits p known w.stack) → ts.living ≡ (n, (w, mode.Runs)) ∷ c.threads.living → ts.ended ≡ c.threads.ended → IsConsistent p c →
    IsRowMade p (λ s. without_output (with_thread p (Some (birth n code vars)) s)) c o (record c { threads = ts }) o
begin_made p c ts o n code vars w new made known is fits living ended h = record {
  site =
      ap (λ (l : List (ThreadName × ThreadState)). record (site_of c) { threads = l; ended = ts.ended })
      (ap (λ (l : Living). stacks_of stack_in l) living ∙ ap (λ (st : Stack). (n, (st, mode.Runs)) ∷ stacks_of stack_in c.threads.living) (ap (λ (x : Running). x.stack) is))
      ∙ ap (λ (m : ℕ). record (with_thread p (Some (birth n code vars)) (site_of c)) { ended = m }) ended;
  picks = sym (nil_right o.picks);
  sent = sym (nil_right o.sent);
  lines = sym (nil_right o.lines.items);
  consistent = thread_consistent p c ts n w h living new (record {
    named = ap (λ (x : Running). x.name) is;
    goes = λ e. let none : item.Run code (env_for (free p code) vars) ∷ [] ≡ [] = sym (ap (λ (x : Running). x.stack) is) ∙ e in cc;
    fits = fits c.variables.store.known known;
  }) made;
  sites = refl;
}
