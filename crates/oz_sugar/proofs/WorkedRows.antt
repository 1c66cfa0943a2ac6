-- The worked examples are computed.
use Rattle.std.proofs.Common.{refl}
use Rattle.oz_sugar.specs.Rows.{LeafFits, PartsGoDeeper, PartsFit, BracketsTakeNoLevel, FinallyTakesTwoLevels}

pub leaf_fits : LeafFits
leaf_fits = refl

pub parts_go_deeper : PartsGoDeeper
parts_go_deeper = refl

pub parts_fit : PartsFit
parts_fit = refl

pub brackets_take_no_level : BracketsTakeNoLevel
brackets_take_no_level = refl

pub finally_takes_two_levels : FinallyTakesTwoLevels
finally_takes_two_levels = refl
