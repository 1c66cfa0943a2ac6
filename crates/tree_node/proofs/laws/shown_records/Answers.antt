use Rattle.tree_node.proofs.RowsShown.{ring_is_cut, fields_by_name, fields_by_place, other_bar, list_in_list}
use Rattle.tree_node.proofs.laws.shown_records.Goals as goal

pub returns : goal.returns
returns c = record { ring = ring_is_cut; names = fields_by_name; places = fields_by_place; bar = other_bar; nested = list_in_list }
