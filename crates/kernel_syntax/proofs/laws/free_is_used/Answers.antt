use Rattle.kernel_syntax.proofs.FreeLemmas.{free_ascends, free_is_used, programs_are_closed}
use Rattle.kernel_syntax.proofs.laws.free_is_used.Goals as goal

pub returns : goal.returns
returns c = record { ascends = free_ascends; used = free_is_used; closed = programs_are_closed }
