-- Records of cells, and threads that wait there.
use Rattle.std.proofs.Common.{◌≡◌, ◌≢◌, sym, refl, subst, ℕ, List, [], ◌∷◌, ◌++◌, Bool, true, false, cond}
use Rattle.std.specs.Prelude.{◌==◌, ◌+◌}
use Rattle.indexmap.specs.IndexMap.{insert_entry}
use Rattle.tree_node.specs.declared.names.VarName.{VarName}
use Rattle.tree_node.specs.declared.names.CellName.{CellName}
use Rattle.tree_node.specs.declared.names.ThreadName.{ThreadName}
use Rattle.tree_node.specs.Each.{Each, AreDistinct}
use Rattle.tree_node.specs.Goal.{equal_cell}
use Rattle.kernel_syntax.specs.declared.stmt.Stmt.{Stmt}
use Rattle.oz_model.proofs.KindLemmas.{equal_cell_decides}
use Rattle.token_chain.specs.declared.token.Token.{Token}
use Rattle.token_chain.specs.declared.token.Token.TheVariants.{Away, Asked, Here}
use Rattle.token_chain.specs.Holding.{Holding}
use Rattle.token_chain.specs.Mail.{Get, Forward}
use Rattle.token_chain.specs.Rows.{forward_reply, get_reply, exchange_reply}
use Rattle.site_model.specs.Site.{CellRecord, cell_record_in}
use Rattle.site_cells.proofs.RecordLemmas.{record_here, record_other}
use Rattle.site_units.specs.declared.data.Core.{Core}
use Rattle.site_units.specs.Invariant.{ContentKnown, CellFits, CellsFit}
pub use Rattle.site_model.proofs.FrameLemmas.{request_records}

-- a record in the place of the cell's own
pub replaced : (p : List Stmt) (c : Core) (es : List (CellName × CellRecord)) (cell : CellName) (v : CellRecord) → CellFits p c (cell, v) → CellsFit p c es → CellsFit p c (insert_entry equal_cell es cell v)
replaced p c es cell v here all d = go (equal_cell d cell) refl
  where
    go : (b : Bool) → equal_cell d cell ≡ b → CellFits p c (d, cell_record_in (insert_entry equal_cell es cell v) d)
    go true q =
        let same : d ≡ cell = (equal_cell_decides d cell).0 q in
        subst (λ (x : CellName). CellFits p c (x, cell_record_in (insert_entry equal_cell es cell v) x)) (sym same)
        (subst (λ (x : CellRecord). CellFits p c (cell, x)) (sym (record_here es cell v)) here)
    go false q =
        let apart : d ≢ cell = λ e. let yes : equal_cell d cell ≡ true = (equal_cell_decides d cell).1 e in cc in
        subst (λ (x : CellRecord). CellFits p c (d, x)) (sym (record_other es cell d v apart)) (all d)

-- ---- a request

-- a token that is not here does not come by a request
pub not_content : (known : List VarName) (manager last s : ℕ) (w : VarName) (h : Holding) → ((v : VarName) → h.token ≡ Here v → ⊥) → ContentKnown known (exchange_reply manager last s w h).held.token
not_content known manager last s w h away = go h.token refl
  where
    at_last : (b : Bool) → ContentKnown known (cond b (forward_reply (record { token = Asked; next = h.next; waiting = h.waiting + 1 }) s) (record { held = record { token = Asked; next = h.next; waiting = h.waiting + 1 }; sent = Forward last s ∷ [] })).held.token
    at_last true = tt
    at_last false = tt

    at_site : (b : Bool) → ContentKnown known (cond b (get_reply manager last s (record { token = Asked; next = h.next; waiting = h.waiting + 1 })) (record { held = record { token = Asked; next = h.next; waiting = h.waiting + 1 }; sent = Get s ∷ [] })).held.token
    at_site true = at_last (last == manager)
    at_site false = tt

    go : (t : Token) → h.token ≡ t → ContentKnown known (exchange_reply manager last s w (record { token = t; next = h.next; waiting = h.waiting })).held.token
    go Away e = at_site (s == manager)
    go Asked e = tt
    go (Here v) e = absurd (away v e)

-- ---- queues

pub distinct_end : (xs : List ThreadName) (x : ThreadName) → AreDistinct xs → Each (λ (y : ThreadName). y ≢ x) xs → AreDistinct (xs ++ x ∷ [])
distinct_end [] x h g = (tt, tt)
distinct_end (y ∷ xs) x h g = (each_end xs h.0 (g.0), distinct_end xs x h.1 g.1)
  where
    each_end : (zs : List ThreadName) → Each (λ (z : ThreadName). y ≢ z) zs → y ≢ x → Each (λ (z : ThreadName). y ≢ z) (zs ++ x ∷ [])
    each_end [] e apart = (apart, tt)
    each_end (z ∷ zs) e apart = (e.0, each_end zs e.1 apart)
