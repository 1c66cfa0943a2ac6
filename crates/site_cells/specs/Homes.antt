-- What a site keeps of the stationary cells that are at home there.
use Rattle.std.specs.Prelude.{List, unwrap_or}
use Rattle.std.specs.Map.{lookup}
use Rattle.indexmap.specs.IndexMap.{insert_entry}
use Rattle.tree_node.specs.declared.names.CellName.{CellName}
use Rattle.tree_node.specs.Goal.{equal_cell}
use Rattle.site_model.specs.Site.{HomeRecord, unheard_cell}

-- the cells that the site made, or heard of, or was asked for, with what it keeps of each
abbrev pub HomeTable : Type 0
HomeTable = List (CellName × HomeRecord)

-- what the home keeps of a cell
abbrev pub home_in : HomeTable → CellName → HomeRecord
home_in hs c = unwrap_or (lookup (equal_cell c) hs) unheard_cell

-- it keeps this of the cell
abbrev pub with_home : CellName → HomeRecord → HomeTable → HomeTable
with_home c h hs = insert_entry equal_cell hs c h
