use Rattle.surface_grammar.proofs.Lifting.{kernel_reads}
use Rattle.surface_grammar.proofs.laws.kernel_programs_read.Goals as goal

pub returns : goal.returns
returns c = kernel_reads
