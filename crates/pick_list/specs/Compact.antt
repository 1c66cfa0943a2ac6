-- Picks to which none is added.
use Rattle.std.specs.Prelude.{◌≡◌, ℕ, List, [], ◌∷◌, map}
use Rattle.tree_node.specs.declared.names.Name.{Name}
use Rattle.tree_node.specs.declared.names.Name.TheVariants as name
use Rattle.tree_node.specs.declared.names.ThreadName.{ThreadName}
use Rattle.tree_node.specs.declared.pick.Pick.{Pick}
use Rattle.pick_list.specs.declared.columns.Stretch.{Stretch}
use Rattle.pick_list.specs.declared.columns.Naming.{Naming}
use Rattle.pick_list.specs.declared.columns.SmallNaming.{SmallNaming}
use Rattle.pick_list.specs.declared.names.CompactNames.{CompactNames}
use Rattle.pick_list.specs.declared.names.CompactNames.TheVariants.{Row, Column}
use Rattle.pick_list.specs.declared.compact.Form.{Form}
use Rattle.pick_list.specs.declared.compact.Form.TheVariants.{One, Several, Whole}
use Rattle.pick_list.specs.Names.{row_of}
use Rattle.pick_list.specs.Columns.{Columns, AreColumns, columns_of, picks_below}

-- a naming with small numbers
abbrev pub wide : SmallNaming → Naming
wide t = record { pick = t.pick; first = t.first }

-- the only stretch of picks, where all are of this thread
abbrev pub stretch_of : ThreadName → Stretch
stretch_of t = record { first = 0; thread = t }

-- the names of a column
abbrev pub compact_names : CompactNames → List Name
compact_names (Row count site num) = row_of (name.Var (record { site = site; num = num })) count
compact_names (Column names) = names.value

-- the picks, by how they are kept
abbrev pub picks_in : Form → List Pick
picks_in (One count site num names namings binds) = picks_below (columns_of (stretch_of (record { site = site; num = num }) ∷ []) (map wide namings.items) (compact_names names) binds.items) count
picks_in (Several count stretches names namings binds) = picks_below (columns_of stretches.value.items (map wide namings.items) (compact_names names) binds.items) count
picks_in (Whole list) = list.value

-- the columns are those of picks
abbrev pub IsForm : Form → Type 0
IsForm (One count site num names namings binds) = AreColumns count (columns_of (stretch_of (record { site = site; num = num }) ∷ []) (map wide namings.items) (compact_names names) binds.items)
IsForm (Several count stretches names namings binds) = AreColumns count (columns_of stretches.value.items (map wide namings.items) (compact_names names) binds.items)
IsForm (Whole list) = Unit {0}

-- so many picks are kept, which columns tell
pub record IsFormOf (count : ℕ) (c : Columns) (f : Form) : Type 0 where
  pub picks : picks_in f ≡ picks_below c count
  pub form : IsForm f
