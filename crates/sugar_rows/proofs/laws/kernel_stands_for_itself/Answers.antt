use Rattle.sugar_rows.proofs.KernelTexts.{kernel_stands}
use Rattle.sugar_rows.proofs.laws.kernel_stands_for_itself.Goals as goal

pub returns : goal.returns
returns c = kernel_stands
