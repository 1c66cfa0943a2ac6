use Rattle.std.proofs.Common.{length}
use Rattle.kernel_syntax.proofs.limits.+is_below_fields.Given as goal

abbrev pub decreases-is_below_fields : goal.decreases-is_below_fields
decreases-is_below_fields l = length l.others.now
