-- A table by the names of cells after a write.
use Rattle.std.proofs.Common.{◌≡◌, ◌∙◌, ◌≢◌, sym, ap, subst, refl, List, [], ◌∷◌, Bool, true, false, cond, Option, Some}
use Rattle.std.specs.Prelude.{unwrap_or}
use Rattle.std.specs.Map.{lookup, set_value}
use Rattle.indexmap.specs.IndexMap.{insert_entry}
use Rattle.tree_node.specs.declared.names.CellName.{CellName}
use Rattle.tree_node.specs.declared.names.ThreadName.{ThreadName}
use Rattle.tree_node.specs.Goal.{equal_cell}
use Rattle.site_model.specs.Site.{CellRecord, cell_record_in, unused_cell}
use Rattle.site_cells.specs.Tables.{CellTables, queue_of, with_record}
use Rattle.oz_model.proofs.KindLemmas.{equal_cell_decides, cell_same}
use Rattle.site_model.proofs.CellKeyLemmas.{entry_here, entry_other}

-- ---- one table

-- a value written in its place
pub written : {V : Type 0} (es : List (CellName × V)) (c : CellName) (v w : V) → lookup (equal_cell c) es ≡ Some v → set_value (equal_cell c) es w ≡ insert_entry equal_cell es c w
written [] c v w e = cc
written {V} ((d, r) ∷ es) c v w e = go (equal_cell c d) refl e (λ k. written es c v w k)
  where
    go : (b : Bool) → equal_cell c d ≡ b → cond b (Some r) (lookup (equal_cell c) es) ≡ Some v → (lookup (equal_cell c) es ≡ Some v → set_value (equal_cell c) es w ≡ insert_entry equal_cell es c w) →
        cond b ((d, w) ∷ es) ((d, r) ∷ set_value (equal_cell c) es w) ≡ cond b ((d, w) ∷ es) ((d, r) ∷ insert_entry equal_cell es c w)
    go true q k ih = refl
    go false q k ih = ap (λ (zs : List (CellName × V)). (d, r) ∷ zs) (ih k)

-- the value that is there, written again
pub written_back : {V : Type 0} (es : List (CellName × V)) (c : CellName) (v : V) → lookup (equal_cell c) es ≡ Some v → insert_entry equal_cell es c v ≡ es
written_back [] c v e = cc
written_back {V} ((d, r) ∷ es) c v e = go (equal_cell c d) refl e (λ k. written_back es c v k)
  where
    go : (b : Bool) → equal_cell c d ≡ b → cond b (Some r) (lookup (equal_cell c) es) ≡ Some v → (lookup (equal_cell c) es ≡ Some v → insert_entry equal_cell es c v ≡ es) →
        cond b ((d, v) ∷ es) ((d, r) ∷ insert_entry equal_cell es c v) ≡ (d, r) ∷ es
    go true q k ih = let same : r ≡ v = cc in ap (λ (z : V). (d, z) ∷ es) (sym same)
    go false q k ih = ap (λ (zs : List (CellName × V)). (d, r) ∷ zs) (ih k)

-- of two values written the second stays
pub written_twice : {V : Type 0} (es : List (CellName × V)) (c : CellName) (v w : V) → insert_entry equal_cell (insert_entry equal_cell es c v) c w ≡ insert_entry equal_cell es c w
written_twice [] c v w = rw (cell_same c) refl
written_twice {V} ((d, r) ∷ es) c v w = go (equal_cell c d) refl (written_twice es c v w)
  where
    go : (b : Bool) → equal_cell c d ≡ b → insert_entry equal_cell (insert_entry equal_cell es c v) c w ≡ insert_entry equal_cell es c w →
        insert_entry equal_cell (cond (equal_cell c d) ((d, v) ∷ es) ((d, r) ∷ insert_entry equal_cell es c v)) c w ≡ cond (equal_cell c d) ((d, w) ∷ es) ((d, r) ∷ insert_entry equal_cell es c w)
    go true q ih = rw (q, q) refl
    go false q ih = rw (q, q) (ap (λ (zs : List (CellName × V)). (d, r) ∷ zs) ih)

-- ---- the table of records

pub record_found : (qs : List (CellName × CellRecord)) (c : CellName) (q : CellRecord) → Some q ≡ lookup (equal_cell c) qs → cell_record_in qs c ≡ q
record_found qs c q e = sym (ap (λ (o : Option CellRecord). unwrap_or o unused_cell) e)

pub record_here : (qs : List (CellName × CellRecord)) (c : CellName) (q : CellRecord) → cell_record_in (with_record c q qs) c ≡ q
record_here qs c q = ap (λ (o : Option CellRecord). unwrap_or o unused_cell) (entry_here qs c q)

pub token_here : (qs rs : List (CellName × CellRecord)) (c : CellName) (q : CellRecord) → rs ≡ with_record c q qs → (cell_record_in rs c).held.token ≡ q.held.token
token_here qs rs c q e = ap (λ (zs : List (CellName × CellRecord)). (cell_record_in zs c).held.token) e ∙ ap (λ (x : CellRecord). x.held.token) (record_here qs c q)

pub record_other : (qs : List (CellName × CellRecord)) (c d : CellName) (q : CellRecord) → d ≢ c → cell_record_in (with_record c q qs) d ≡ cell_record_in qs d
record_other qs c d q h = ap (λ (o : Option CellRecord). unwrap_or o unused_cell) (entry_other qs c d q h)

-- the queues after one record is written
pub queue_changed : (t : CellTables) (qs rs : List (CellName × CellRecord)) (c : CellName) (q : CellRecord) (queue : List ThreadName) → qs ≡ t.cell_records → rs ≡ with_record c q qs → q.queue ≡ queue →
    ((cell_record_in rs c).queue ≡ queue) × ((d : CellName) → d ≢ c → (cell_record_in rs d).queue ≡ queue_of t d)
queue_changed t qs rs c q queue view e same = (
  ap (λ (zs : List (CellName × CellRecord)). (cell_record_in zs c).queue) e ∙ ap (λ (x : CellRecord). x.queue) (record_here qs c q) ∙ same,
  (λ d h. ap (λ (zs : List (CellName × CellRecord)). (cell_record_in zs d).queue) e ∙ ap (λ (x : CellRecord). x.queue) (record_other qs c d q h) ∙ ap (λ (zs : List (CellName × CellRecord)). (cell_record_in zs d).queue) view),
)

pub queues_kept : (t : CellTables) (qs rs : List (CellName × CellRecord)) (c : CellName) (q : CellRecord) → qs ≡ t.cell_records → rs ≡ with_record c q qs → q.queue ≡ (cell_record_in qs c).queue →
    (d : CellName) → (cell_record_in rs d).queue ≡ queue_of t d
queues_kept t qs rs c q view e same d = go (equal_cell d c) refl
  where
    changed : ((cell_record_in rs c).queue ≡ queue_of t c) × ((d : CellName) → d ≢ c → (cell_record_in rs d).queue ≡ queue_of t d)
    changed = queue_changed t qs rs c q (queue_of t c) view e (same ∙ ap (λ (zs : List (CellName × CellRecord)). (cell_record_in zs c).queue) view)

    go : (k : Bool) → equal_cell d c ≡ k → (cell_record_in rs d).queue ≡ queue_of t d
    go true f = let is : d ≡ c = (equal_cell_decides d c).0 f in subst (λ (x : CellName). (cell_record_in rs x).queue ≡ queue_of t x) (sym is) changed.0
    go false f = changed.1 d (λ is. let yes : equal_cell d c ≡ true = (equal_cell_decides d c).1 is in cc)

-- a call on the record in its place that makes it a function of what it was
pub record_written : (qs rs : List (CellName × CellRecord)) (c : CellName) (f : CellRecord → CellRecord) (q p : CellRecord) → Some q ≡ lookup (equal_cell c) qs → rs ≡ set_value (equal_cell c) qs p → p ≡ f q →
    rs ≡ with_record c (f (cell_record_in qs c)) qs
record_written qs rs c f q p found e is =
    e ∙ written qs c q p (sym found) ∙ ap (λ (x : CellRecord). with_record c x qs) (is ∙ ap f (sym (record_found qs c q found)))

-- or leaves it
pub record_left : (qs rs : List (CellName × CellRecord)) (c : CellName) (q p : CellRecord) → Some q ≡ lookup (equal_cell c) qs → rs ≡ set_value (equal_cell c) qs p → p ≡ q → rs ≡ qs
record_left qs rs c q p found e is = e ∙ written qs c q p (sym found) ∙ ap (λ (x : CellRecord). insert_entry equal_cell qs c x) is ∙ written_back qs c q (sym found)
