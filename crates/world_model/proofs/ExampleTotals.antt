-- The totals of the worked run compute.
use Rattle.std.proofs.Common.{refl}
use Rattle.kernel_syntax.specs.Free.{free}
use Rattle.tree_node.specs.Shown.{shown_within}
use Rattle.std.specs.Fmt.{digits}
use Rattle.tree_node.specs.Words.{reserved_words}
use Rattle.world_model.specs.Example.{TotalsReturn}

pub totals_return : TotalsReturn
unfolding free shown_within digits reserved_words
totals_return = record { ended = refl; waiting = refl; before = refl; waits = refl }
