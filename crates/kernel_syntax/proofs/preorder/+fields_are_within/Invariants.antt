use Rattle.std.proofs.Common.{length}
use Rattle.kernel_syntax.proofs.preorder.+fields_are_within.Given as goal

abbrev pub decreases-fields_are_within : goal.decreases-fields_are_within
decreases-fields_are_within l = length l.fields.now
