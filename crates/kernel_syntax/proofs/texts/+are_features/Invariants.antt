use Rattle.std.proofs.Common.{length}
use Rattle.kernel_syntax.proofs.texts.+are_features.Given as goal

abbrev pub decreases-are_features : goal.decreases-are_features
decreases-are_features l = length l.features.now
