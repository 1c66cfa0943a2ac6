use Rattle.std.proofs.Common.{length}
use Rattle.kernel_syntax.proofs.limits.+fields_ascend.Given as goal

abbrev pub decreases-fields_ascend : goal.decreases-fields_ascend
decreases-fields_ascend l = length l.fields.now
