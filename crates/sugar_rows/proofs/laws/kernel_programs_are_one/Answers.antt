use Rattle.sugar_rows.proofs.KernelTexts.{one_program}
use Rattle.sugar_rows.proofs.laws.kernel_programs_are_one.Goals as goal

pub returns : goal.returns
returns c = one_program
