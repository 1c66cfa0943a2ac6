use Rattle.oz_sugar.proofs.KernelDepth as proved
use Rattle.oz_sugar.proofs.laws.kernel_expands.Goals as goal

pub returns : goal.returns
returns c = proved.kernel_expands
