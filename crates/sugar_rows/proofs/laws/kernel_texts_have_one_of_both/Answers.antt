use Rattle.sugar_rows.proofs.KernelTexts.{kernel_texts}
use Rattle.sugar_rows.proofs.laws.kernel_texts_have_one_of_both.Goals as goal

pub returns : goal.returns
returns c = kernel_texts c.texts_divide.ensures.some c.texts_divide.ensures.once
