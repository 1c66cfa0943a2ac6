-- The lists of those that wait for cells, in a step of a thread and in the rows on variables.
use Rattle.std.proofs.Common.{arith, ◌≡◌, ◌∙◌, sym, ap, refl, subst, ℕ, List, [], ◌∷◌, length, ◌⊎◌, inl, inr, Bool, true, false, cond, Some, None}
use Rattle.std.specs.Prelude.{Option, ◌≢◌, ◌==◌}
use Rattle.tree_node.specs.declared.names.VarName.{VarName}
use Rattle.tree_node.specs.declared.names.CellName.{CellName}
use Rattle.tree_node.specs.declared.names.ThreadName.{ThreadName}
use Rattle.tree_node.specs.declared.names.NameKind.{NameKind}
use Rattle.tree_node.specs.declared.node.Term.{Term}
use Rattle.tree_node.specs.declared.pick.Pick.{Pick}
use Rattle.tree_node.specs.Assoc.{value_of, with_optional_value}
use Rattle.tree_node.specs.State.{Stack, equal_thread}
use Rattle.tree_node.specs.Store.{Equation}
use Rattle.kernel_syntax.specs.declared.stmt.Stmt.{Stmt}
use Rattle.site_message.specs.declared.message.Msg.TheVariants as msg
use Rattle.oz_model.specs.Effect.{Birth, CellChange, Stays, Made, Exchanged, Effect}
use Rattle.oz_model.specs.Step.{living_stack, threads_born}
use Rattle.bind_protocol.specs.Records.{is_own}
use Rattle.proxy_table.specs.Proxies.{entry_of}
use Rattle.token_chain.specs.Holding.{Holding, nothing_held}
use Rattle.site_model.specs.Site.{Site, Threads, CellRecord, cell_record_in, cell_record, runnable_threads}
use Rattle.thread_roster.specs.declared.mode.Awaited.TheVariants.{Cell}
use Rattle.thread_roster.specs.declared.mode.Mode.TheVariants.{Runs, WaitsFor}
use Rattle.site_model.specs.Bundle.{with_own_bundle}
use Rattle.site_model.specs.Transition.{Transition, without_output, with_messages, with_pick, and_then}
use Rattle.site_model.specs.Cells.{exchange_stack}
use Rattle.site_model.specs.Variables.{with_known_equation, with_known_equations, own_binds}
use Rattle.site_model.specs.Messages.{with_thread}
use Rattle.site_model.specs.Unit.{with_fresh_names, placement, birth_row, after_cell, content_here, runnable_state, after_effect, step_row}
use Rattle.world_model.specs.Matches.{IsQueue}
use Rattle.site_model.proofs.CellKeyLemmas.{place_here, place_other}
use Rattle.world_cells.proofs.QueueLemmas.{SameWaiters, waiters_same, waiters_then, queue_same, woken_waiters, goes_waiters, born_waiters, running_not, IsOtherMode}
use Rattle.world_cells.proofs.UnitCellLemmas.{step_places, begins}
use Rattle.tree_node.proofs.NameLemmas.{same_thread_decides}
use Rattle.world_variables.proofs.OwnLemmas.{binds_run}
use Rattle.oz_model.proofs.KindLemmas.{cell_cases}
use Rattle.thread_roster.specs.declared.mode.Awaited.{Awaited}

abbrev pub Lists : Site → Type 0
Lists s = (d : CellName) → IsQueue (cell_record s d) s.threads d

pub not_both : {X : Type 0} (o : Option X) (v : X) → o ≡ Some v → o ≡ None → ⊥
not_both o v e f = cc

-- a row that leaves what is kept of cells
pub lists_of : (s t : Site) → t.cell_records ≡ s.cell_records → ((d : Awaited) → SameWaiters s.threads t.threads d) → Lists s → Lists t
lists_of s t e w all d =
    let p : cell_record t d ≡ cell_record s d = ap (λ (qs : List (CellName × CellRecord)). cell_record_in qs d) e in
    queue_same (cell_record s d) (cell_record t d) s.threads t.threads d (ap (λ (q : CellRecord). q.queue) p) (ap (λ (q : CellRecord). q.held.waiting) p) (w (Cell d)) (all d)

-- ---- variables

pub told_waiters : (s : Site) (x : VarName) (t : Term) (d : Awaited) → SameWaiters s.threads (with_known_equation s x t).threads d
told_waiters s x t d = go (is_own s.records x) (entry_of s.records.proxies x) refl refl
  where
    go : (o : Bool) (k : Option (Option Term)) → is_own s.records x ≡ o → entry_of s.records.proxies x ≡ k → SameWaiters s.threads (with_known_equation s x t).threads d
    go true k e f = rw e (waiters_same s.threads d)
    go false None e f = rw (e, f) (woken_waiters ((x, t) ∷ s.equations) x s.threads d)
    go false (Some None) e f = rw (e, f) (woken_waiters ((x, t) ∷ s.equations) x s.threads d)
    go false (Some (Some r)) e f = rw (e, f) (waiters_same s.threads d)

pub told_all_waiters : (s : Site) (es : List Equation) (d : Awaited) → SameWaiters s.threads (with_known_equations s es).threads d
told_all_waiters s [] d = waiters_same s.threads d
told_all_waiters s (e ∷ es) d = waiters_then s.threads (with_known_equation s e.0 e.1).threads _ d (told_waiters s e.0 e.1 d) (told_all_waiters (with_known_equation s e.0 e.1) es d)

pub binds_each_waiters : (limit : ℕ) (es : List Equation) (s : Site) (d : Awaited) → SameWaiters s.threads (own_binds limit es s).site.threads d
binds_each_waiters limit [] s d = waiters_same s.threads d
binds_each_waiters limit (e ∷ es) s d = waiters_then s.threads (own_binds limit es s).site.threads _ d (binds_each_waiters limit es s d) (woken_waiters (e ∷ (own_binds limit es s).site.equations) e.0 (own_binds limit es s).site.threads d)

-- ---- a step

module _ (p : List Stmt) (n limit : ℕ) (k : Pick) (kinds : List NameKind) (e : Effect) (s : Site) (st : Stack) (runs : value_of equal_thread s.threads k.thread ≡ Some (st, Runs)) where
  abbrev begun : Transition
  begun = and_then (with_pick (with_fresh_names kinds s) k) (own_binds limit e.adds)

  abbrev left : Stack
  left = exchange_stack (content_here begun.site e.cell) e.cell e.stack

  abbrev went : Threads
  went = with_optional_value equal_thread begun.site.threads k.thread (runnable_state (living_stack left))

  begun_waiters : (d : Awaited) → SameWaiters s.threads begun.site.threads d
  begun_waiters d = binds_each_waiters limit e.adds (with_fresh_names kinds s) d

  same_threads : (c : CellChange) → (after_cell c begun.site).threads ≡ begun.site.threads
  same_threads Stays = refl
  same_threads (Made c v) = refl
  same_threads (Exchanged c new told) = refl

  went_is : (after_effect k.thread e begun.site).threads ≡ went
  went_is = ap (λ (ts : Threads). with_optional_value equal_thread ts k.thread (runnable_state (living_stack left))) (same_threads e.cell)

  runs_other : (o : Option Stack) (d : Awaited) → IsOtherMode d (runnable_state o)
  runs_other None d r q = absurd (cc)
  runs_other (Some x) d r q = running_not x r d q

  went_waiters : (d : Awaited) → SameWaiters s.threads (after_effect k.thread e begun.site).threads d
  went_waiters d = subst (λ (ts : Threads). SameWaiters s.threads ts d) (sym went_is)
      (waiters_then s.threads begun.site.threads went d (begun_waiters d)
      (goes_waiters begun.site.threads k.thread (runnable_state (living_stack left)) (st, Runs) d (binds_run limit e.adds (with_fresh_names kinds s) k.thread st runs) (λ r q. running_not st r d q) (runs_other (living_stack left) d)))

  -- a new thread's name is no other thread's
  abbrev pub IsUnused : Option Birth → Type 0
  IsUnused None = Unit {0}
  IsUnused (Some b) = value_of equal_thread s.threads b.name ≡ None

  born_after : (b : Option Birth) → IsUnused b → (d : Awaited) → SameWaiters s.threads (birth_row p n limit b (after_effect k.thread e begun.site)).site.threads d
  born_after None new d = went_waiters d
  born_after (Some b) new d = go (placement n (after_effect k.thread e begun.site).records.site b.at == (after_effect k.thread e begun.site).records.site)
    where
      apart : (m : ThreadName) (r : Stack) → value_of equal_thread (after_effect k.thread e begun.site).threads m ≡ Some (r, WaitsFor d) → value_of equal_thread (runnable_threads (threads_born p (Some b))) m ≡ None
      apart m r h = one (equal_thread b.name m) refl
        where
          was : value_of equal_thread s.threads m ≡ Some (r, WaitsFor d)
          was = (went_waiters d).old m r h

          one : (x : Bool) → equal_thread b.name m ≡ x → value_of equal_thread (runnable_threads (threads_born p (Some b))) m ≡ None
          one true q =
              let same : b.name ≡ m = (same_thread_decides b.name m).0 q in
              let none : value_of equal_thread s.threads m ≡ None = ap (value_of equal_thread s.threads) (sym same) ∙ new in
              absurd (not_both (value_of equal_thread s.threads m) (r, WaitsFor d) was none)
          one false q = rw q refl

      go : (here : Bool) → SameWaiters s.threads (cond here (without_output (with_thread p (Some b) (after_effect k.thread e begun.site))) (with_messages (after_effect k.thread e begun.site) (with_own_bundle limit (after_effect k.thread e begun.site).equations (record { to = placement n (after_effect k.thread e begun.site).records.site b.at; msg = msg.Spawn b.name b.code b.vars [] }) ∷ []))).site.threads d
      go true = waiters_then s.threads (after_effect k.thread e begun.site).threads _ d (went_waiters d) (born_waiters (threads_born p (Some b)) (after_effect k.thread e begun.site).threads d apart)
      go false = went_waiters d

  pub step_waiters : IsUnused e.born → (d : Awaited) → SameWaiters s.threads (step_row p n limit k kinds e s).site.threads d
  step_waiters new d = born_after e.born new d

  -- a cell that is made is nowhere before
  abbrev pub IsUnmade : CellChange → Type 0
  IsUnmade (Made c v) = (cell_record s c).held ≡ nothing_held
  IsUnmade _ = Unit {0}

  pub step_lists : IsUnused e.born → IsUnmade e.cell → Lists s → Lists (step_row p n limit k kinds e s).site
  step_lists new unmade all d = go e.cell refl unmade
    where
      t : Site
      t = (step_row p n limit k kinds e s).site

      was : (b : CellName) → cell_record begun.site b ≡ cell_record s b
      was b = ap (λ (qs : List (CellName × CellRecord)). cell_record_in qs b) (begins p n limit k kinds e s).cell_records

      at : (c : CellChange) → e.cell ≡ c → (b : CellName) → cell_record t b ≡ cell_record (after_cell c begun.site) b
      at c is b = ap (λ (qs : List (CellName × CellRecord)). cell_record_in qs b) (step_places p n limit k kinds e s ∙ ap (λ (x : CellChange). (after_cell x begun.site).cell_records) is)

      kept : (q : CellRecord) → cell_record t d ≡ q → q.queue ≡ (cell_record s d).queue → q.held.waiting ≡ (cell_record s d).held.waiting → IsQueue (cell_record t d) t.threads d
      kept q e f g = queue_same (cell_record s d) (cell_record t d) s.threads t.threads d (ap (λ (x : CellRecord). x.queue) e ∙ f) (ap (λ (x : CellRecord). x.held.waiting) e ∙ g) (step_waiters new (Cell d)) (all d)

      go : (c : CellChange) → e.cell ≡ c → IsUnmade c → IsQueue (cell_record t d) t.threads d
      go Stays is h = kept (cell_record s d) (at Stays is d ∙ was d) refl refl
      go (Exchanged c fresh told) is h = one (cell_cases d c)
        where
          one : (d ≡ c) ⊎ (d ≢ c) → IsQueue (cell_record t d) t.threads d
          one (inl same) =
              let q = at (Exchanged c fresh told) is d ∙ ap (cell_record_in (after_cell (Exchanged c fresh told) begun.site).cell_records) same ∙ place_here begun.site.cell_records c _ in
              kept _ q (ap (λ (x : CellRecord). x.queue) (was c) ∙ ap (λ (x : CellName). (cell_record s x).queue) (sym same)) (ap (λ (x : CellRecord). x.held.waiting) (was c) ∙ ap (λ (x : CellName). (cell_record s x).held.waiting) (sym same))
          one (inr other) = kept (cell_record s d) (at (Exchanged c fresh told) is d ∙ place_other begun.site.cell_records c d _ other ∙ was d) refl refl
      go (Made c v) is h = one (cell_cases d c)
        where
          one : (d ≡ c) ⊎ (d ≢ c) → IsQueue (cell_record t d) t.threads d
          one (inl same) =
              let q = at (Made c v) is d ∙ ap (cell_record_in (after_cell (Made c v) begun.site).cell_records) same ∙ place_here begun.site.cell_records c _ in
              let zero : (cell_record s d).held.waiting ≡ 0 = ap (λ (x : CellName). (cell_record s x).held.waiting) same ∙ ap (λ (x : Holding). x.waiting) h in
              let long = (all d).long in
              let empty : (cell_record s d).queue ≡ [] = none (cell_record s d).queue (omega arith) in
              kept _ q (sym empty) (sym zero)
            where
              none : (xs : List ThreadName) → length xs ≡ 0 → xs ≡ []
              none [] e = refl
              none (x ∷ xs) e = absurd (omega arith)
          one (inr other) = kept (cell_record s d) (at (Made c v) is d ∙ place_other begun.site.cell_records c d _ other ∙ was d) refl refl
