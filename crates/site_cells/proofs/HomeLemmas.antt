-- The table of homes after a write.
use Rattle.std.proofs.Common.{◌≡◌, ◌∙◌, sym, ap, Option, Some}
use Rattle.std.specs.Prelude.{unwrap_or}
use Rattle.std.specs.Map.{lookup, set_value}
use Rattle.tree_node.specs.declared.names.CellName.{CellName}
use Rattle.tree_node.specs.Goal.{equal_cell}
use Rattle.site_model.specs.Site.{HomeRecord, unheard_cell}
use Rattle.site_cells.specs.Homes.{HomeTable, home_in, with_home}
use Rattle.site_cells.proofs.RecordLemmas.{written, written_back}

pub home_found : (hs : HomeTable) (c : CellName) (h : HomeRecord) → Some h ≡ lookup (equal_cell c) hs → home_in hs c ≡ h
home_found hs c h e = sym (ap (λ (o : Option HomeRecord). unwrap_or o unheard_cell) e)

-- a call on the record in its place that makes it a function of what it was
pub home_written : (hs gs : HomeTable) (c : CellName) (f : HomeRecord → HomeRecord) (h k : HomeRecord) → Some h ≡ lookup (equal_cell c) hs → gs ≡ set_value (equal_cell c) hs k → k ≡ f h →
    gs ≡ with_home c (f (home_in hs c)) hs
home_written hs gs c f h k found e is =
    e ∙ written hs c h k (sym found) ∙ ap (λ (x : HomeRecord). with_home c x hs) (is ∙ ap f (sym (home_found hs c h found)))

-- or leaves it
pub home_left : (hs gs : HomeTable) (c : CellName) (h k : HomeRecord) → Some h ≡ lookup (equal_cell c) hs → gs ≡ set_value (equal_cell c) hs k → k ≡ h → gs ≡ hs
home_left hs gs c h k found e is = e ∙ written hs c h k (sym found) ∙ ap (λ (x : HomeRecord). with_home c x hs) is ∙ written_back hs c h (sym found)
