use Rattle.kernel_syntax.proofs.ShortLemmas as short
use Rattle.kernel_syntax.proofs.laws.free_is_few.Goals as goal

pub returns : goal.returns
returns c = short.free_is_few
