-- What a site keeps of cells, as one of them changes.
use Rattle.std.proofs.Common.{◌≡◌, ◌∙◌, sym, ap, refl, List, [], ◌∷◌, Bool, true, false, cond, Some}
use Rattle.std.specs.Prelude.{Option, ◌≢◌, unwrap_or}
use Rattle.std.specs.Map.{lookup}
use Rattle.indexmap.specs.IndexMap.{insert_entry}
use Rattle.tree_node.specs.declared.names.CellName.{CellName}
use Rattle.tree_node.specs.Goal.{equal_cell}
use Rattle.oz_model.proofs.KindLemmas.{equal_cell_decides, cell_same, cells_differ}
use Rattle.site_model.specs.Site.{CellRecord, cell_record_in, unused_cell}

pub entry_here : {V : Type 0} (es : List (CellName × V)) (c : CellName) (v : V) → lookup (equal_cell c) (insert_entry equal_cell es c v) ≡ Some v
entry_here [] c v = rw (cell_same c) refl
entry_here {V} ((d, u) ∷ es) c v = go (equal_cell c d) refl (entry_here es c v)
  where
    go : (b : Bool) → equal_cell c d ≡ b → lookup (equal_cell c) (insert_entry equal_cell es c v) ≡ Some v → lookup (equal_cell c) (cond (equal_cell c d) ((d, v) ∷ es) ((d, u) ∷ insert_entry equal_cell es c v)) ≡ Some v
    go true q ih = rw (q, q) refl
    go false q ih = rw (q, q) ih

pub entry_other : {V : Type 0} (es : List (CellName × V)) (c b : CellName) (v : V) → b ≢ c → lookup (equal_cell b) (insert_entry equal_cell es c v) ≡ lookup (equal_cell b) es
entry_other [] c b v h = rw (cells_differ b c h) refl
entry_other {V} ((d, u) ∷ es) c b v h = go (equal_cell c d) refl (entry_other es c b v h)
  where
    go : (x : Bool) → equal_cell c d ≡ x → lookup (equal_cell b) (insert_entry equal_cell es c v) ≡ lookup (equal_cell b) es →
        lookup (equal_cell b) (cond (equal_cell c d) ((d, v) ∷ es) ((d, u) ∷ insert_entry equal_cell es c v)) ≡ lookup (equal_cell b) ((d, u) ∷ es)
    go true q ih =
        let same : c ≡ d = (equal_cell_decides c d).0 q in
        let differs : equal_cell b d ≡ false = cells_differ b d (λ e. h (e ∙ sym same)) in
        rw (q, differs) refl
    go false q ih = rw q (ap (λ (o : Option V). cond (equal_cell b d) (Some u) o) ih)

pub place_here : (qs : List (CellName × CellRecord)) (c : CellName) (q : CellRecord) → cell_record_in (insert_entry equal_cell qs c q) c ≡ q
place_here qs c q = ap (λ (o : Option CellRecord). unwrap_or o unused_cell) (entry_here qs c q)

pub place_other : (qs : List (CellName × CellRecord)) (c b : CellName) (q : CellRecord) → b ≢ c → cell_record_in (insert_entry equal_cell qs c q) b ≡ cell_record_in qs b
place_other qs c b q h = ap (λ (o : Option CellRecord). unwrap_or o unused_cell) (entry_other qs c b q h)
