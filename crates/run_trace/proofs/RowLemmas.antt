-- The worked examples of exceptions, computed.
use Rattle.std.proofs.Common.{refl}
use Rattle.std.specs.Fmt.{digits}
use Rattle.tree_node.specs.Shown.{shown_within}
use Rattle.tree_node.specs.Words.{reserved_words}
use Rattle.kernel_syntax.specs.Free.{free}
use Rattle.run_trace.specs.Rows.{IntegerRaisesNothing, FailureIsTold, CaughtIsTold}

pub integer_raises_nothing : IntegerRaisesNothing
unfolding free shown_within digits
integer_raises_nothing = refl

pub failure_is_told : FailureIsTold
unfolding free shown_within reserved_words
failure_is_told = refl

pub caught_is_told : CaughtIsTold
unfolding free
caught_is_told = record { one = refl; none = refl }
