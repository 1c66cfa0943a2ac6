-- Counters grow: what was made stays made.
use Rattle.std.proofs.Common.{◌≡◌, ◌∙◌, sym, refl, subst, ℕ, List, [], ◌∷◌, inl, inr, Bool, true, false, cond, Some, None}
use Rattle.std.specs.Prelude.{Option, ◌==◌}
use Rattle.tree_node.specs.declared.names.VarName.{VarName}
use Rattle.tree_node.specs.declared.names.CellName.{CellName}
use Rattle.tree_node.specs.declared.names.ThreadName.{ThreadName}
use Rattle.tree_node.specs.declared.names.Name.{Name}
use Rattle.tree_node.specs.declared.names.NameKind.{NameKind}
use Rattle.tree_node.specs.declared.node.Term.{Term}
use Rattle.tree_node.specs.Order.{site_of}
use Rattle.tree_node.specs.State.{Stack}
use Rattle.kernel_syntax.specs.declared.stmt.Stmt.{Stmt}
use Rattle.site_message.specs.declared.message.Msg.{Msg}
use Rattle.site_message.specs.declared.message.Msg.TheVariants as msg
use Rattle.oz_model.specs.Effect.{Birth, CellChange, Stays, Made, Exchanged}
use Rattle.bind_protocol.specs.Records.{knowledge}
use Rattle.site_model.specs.Bundle.{message_bundle, with_own_bundle}
use Rattle.bind_protocol.specs.Rows.{sent_message}
use Rattle.site_model.specs.Cells.{after_exchange, after_exchange_as, content_after_exchange, effect_here, serving}
use Rattle.site_model.specs.Fit.{IsBelowCounter}
use Rattle.site_model.specs.Messages.{with_thread, bind_request_as, message_row, reception}
use Rattle.site_model.specs.Site.{Site, Counters, ThreadState, cell_record, thread_state}
use Rattle.site_model.specs.Transition.{Transition, without_output, with_messages}
use Rattle.site_model.specs.Unit.{counters_after, after_cell, after_effect, birth_row, placement, with_fresh_names}
use Rattle.site_model.specs.Variables.{own_binds, opening}
use Rattle.site_model.proofs.FrameLemmas.{told_counters, told_all_counters, binds_counters}
use Rattle.world_model.specs.Names.{IsMade}
use Rattle.world_model.specs.World.{Sites, put, counters}
use Rattle.world_model.proofs.CellLemmas.{request_only}
use Rattle.world_model.proofs.PutLemmas.{at_all}
use Rattle.world_variables.proofs.MakeLemmas.{all_more}
use Rattle.world_cells.specs.Standing.{IsStanding}
use Rattle.world_answers.proofs.RowsLemmas.{IsRow, Waited, Stepped, Requested, Bound}

pub made_grow : (f : Sites) (i : ℕ) (s : Site) → ((x : Name) → IsBelowCounter (f i).counters x → IsBelowCounter s.counters x) → (x : Name) → IsMade (counters f) x → IsMade (counters (put f i s)) x
made_grow f i s grow x (inl zero) = inl zero
made_grow f i s grow x (inr h) = inr (at_all f i s (λ l (t : Site). IsBelowCounter (counters f l) x → IsBelowCounter t.counters x) (grow x) (λ l far g. g) (site_of x) h)

pub same_grow : (c d : Counters) → d ≡ c → (x : Name) → IsBelowCounter c x → IsBelowCounter d x
same_grow c d e x h = subst (λ (m : Counters). IsBelowCounter m x) (sym e) h

pub kinds_grow : (c d : Counters) (kinds : List NameKind) → d ≡ counters_after c kinds → (x : Name) → IsBelowCounter c x → IsBelowCounter d x
kinds_grow c d kinds e x h = subst (λ (m : Counters). IsBelowCounter m x) (sym e) (all_more c kinds x h)

-- ---- units

cell_counters : (ch : CellChange) (s : Site) → (after_cell ch s).counters ≡ s.counters
cell_counters Stays s = refl
cell_counters (Made c v) s = refl
cell_counters (Exchanged c new told) s = refl

birth_counters : (p : List Stmt) (n limit : ℕ) (b : Option Birth) (s : Site) → (birth_row p n limit b s).site.counters ≡ s.counters
birth_counters p n limit None s = refl
birth_counters p n limit (Some b) s = go (placement n s.records.site b.at == s.records.site)
  where
    go : (q : Bool) → (cond q (without_output (with_thread p (Some b) s)) (with_messages s (with_own_bundle limit s.equations (sent_message (placement n s.records.site b.at) (msg.Spawn b.name b.code b.vars [])) ∷ []))).site.counters ≡ s.counters
    go true = refl
    go false = refl

pub rows_counted : (p : List Stmt) (n limit : ℕ) (th : ThreadName) (s : Site) (st : Stack) (d : Transition) → IsRow p n limit th st s d → (x : Name) → IsBelowCounter s.counters x → IsBelowCounter d.site.counters x
rows_counted p n limit th s st d (Waited m f is) x h = subst (λ (t : Transition). IsBelowCounter t.site.counters x) (sym is) h
rows_counted p n limit th s st d (Bound u t is) x h = subst (λ (e : Transition). IsBelowCounter e.site.counters x) (sym is) h
rows_counted p n limit th s st d (Requested c new zero is) x h = subst (λ (t : Transition). IsBelowCounter t.site.counters x) (sym is) (subst (λ (m : Counters). IsBelowCounter m x) (sym (request_only limit c new th st s).counters) h)
rows_counted p n limit th s st d (Stepped kinds fresh bind born known is) x h = subst (λ (t : Transition). IsBelowCounter t.site.counters x) (sym is)
    (subst (λ (m : Counters). IsBelowCounter m x)
    (sym (birth_counters p n limit (effect_here p s fresh bind st).born (after_effect th (effect_here p s fresh bind st) (own_binds limit (effect_here p s fresh bind st).adds (with_fresh_names kinds s)).site)
    ∙ cell_counters (effect_here p s fresh bind st).cell (own_binds limit (effect_here p s fresh bind st).adds (with_fresh_names kinds s)).site ∙ binds_counters limit (effect_here p s fresh bind st).adds (with_fresh_names kinds s)))
    (all_more s.counters kinds x h))

-- ---- messages

pub opens_counters : (m : Msg) (s : Site) → (opening m s).site.counters ≡ s.counters
opens_counters m s = told_all_counters (message_bundle m) s

exchange_counters : (p : List Stmt) (n : ThreadName) (v : VarName) (s : Site) → (after_exchange p n v s).counters ≡ s.counters
exchange_counters p n v s = go (thread_state s n)
  where
    go : (o : Option ThreadState) → (after_exchange_as p n v s o).counters ≡ s.counters
    go None = refl
    go (Some st) = refl

serving_counters : (p : List Stmt) (c : CellName) (ns : List ThreadName) (v : VarName) (s : Site) → (serving p c ns v s).site.counters ≡ s.counters
serving_counters p c [] v s = refl
serving_counters p c (n ∷ ns) v s = serving_counters p c ns (content_after_exchange p n v s) (after_exchange p n v s) ∙ exchange_counters p n v s

row_counters : (p : List Stmt) (limit : ℕ) (m : Msg) (s : Site) → IsStanding m → (message_row p limit m s).site.counters ≡ s.counters
row_counters p limit (msg.Spawn n code vars bundle) s h = refl
row_counters p limit (msg.Register y k) s h = refl
row_counters p limit (msg.BindReq y n t bundle) s h = go (knowledge s.records y)
  where
    go : (o : Option (Option Term)) → (bind_request_as o limit y t n s).site.counters ≡ s.counters
    go None = refl
    go (Some None) = refl
    go (Some (Some r)) = refl
row_counters p limit (msg.Binding y t bundle) s h = told_counters s y t
row_counters p limit (msg.Get d k) s h = refl
row_counters p limit (msg.Forward d k) s h = refl
row_counters p limit (msg.Put d v bundle) s h = serving_counters p d (cell_record s d).queue v s
row_counters p limit (msg.PortSend q n k) s h = absurd h
row_counters p limit (msg.PortEnd n old new bundle) s h = absurd h
row_counters p limit (msg.CellMake d v bundle) s h = absurd h
row_counters p limit (msg.CellAsk d n k v bundle) s h = absurd h
row_counters p limit (msg.CellOld n v bundle) s h = absurd h

pub heard_counters : (p : List Stmt) (limit : ℕ) (m : Msg) (s : Site) → IsStanding m → (reception p limit m s).site.counters ≡ s.counters
heard_counters p limit m s h = row_counters p limit m (opening m s).site h ∙ opens_counters m s
