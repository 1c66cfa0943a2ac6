use Rattle.kernel_syntax.proofs.FreeLemmas.{free_unfolds}
use Rattle.kernel_syntax.proofs.laws.free_unfolds.Goals as goal

pub returns : goal.returns
returns c = free_unfolds
