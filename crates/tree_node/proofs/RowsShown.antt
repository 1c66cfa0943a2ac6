-- The worked examples, computed.
use Rattle.std.proofs.Common.{refl}
use Rattle.std.specs.Fmt.{digits}
use Rattle.tree_node.specs.Shown.{shown_within}
use Rattle.tree_node.specs.Words.{reserved_words}
use Rattle.tree_node.specs.Rows.{RingIsCut, FieldsByName, FieldsByPlace, OtherBar, ListInList, ThreeNodes, OneNode, FieldIsNeeded, CutIsNotNeeded, ProcShows, CellShows, PortShows, LeastShows, ReservedShows, EmptyShows}

pub ring_is_cut : RingIsCut
unfolding shown_within reserved_words
ring_is_cut = (980, refl)

pub fields_by_name : FieldsByName
unfolding shown_within reserved_words digits
fields_by_name = (996, refl)

pub fields_by_place : FieldsByPlace
unfolding shown_within reserved_words digits
fields_by_place = (994, refl)

pub other_bar : OtherBar
unfolding shown_within reserved_words digits
other_bar = (997, refl)

pub list_in_list : ListInList
unfolding shown_within reserved_words
list_in_list = (995, refl)

pub three_nodes : ThreeNodes
unfolding shown_within reserved_words
three_nodes = refl

pub one_node : OneNode
unfolding shown_within reserved_words
one_node = refl

pub field_is_needed : FieldIsNeeded
unfolding shown_within reserved_words
field_is_needed = refl

pub cut_is_not_needed : CutIsNotNeeded
unfolding shown_within reserved_words
cut_is_not_needed = refl

pub proc_shows : ProcShows
unfolding shown_within digits
proc_shows = (999, refl)

pub cell_shows : CellShows
unfolding shown_within
cell_shows = (999, refl)

pub port_shows : PortShows
unfolding shown_within
port_shows = (999, refl)

pub least_shows : LeastShows
unfolding shown_within digits
least_shows = (999, refl)

pub reserved_shows : ReservedShows
unfolding shown_within reserved_words
reserved_shows = (999, refl)

pub empty_shows : EmptyShows
unfolding shown_within reserved_words
empty_shows = (999, refl)
