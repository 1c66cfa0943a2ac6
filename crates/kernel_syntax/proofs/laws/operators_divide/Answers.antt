use Rattle.kernel_syntax.proofs.ArithmeticLemmas.{division_is_exact, rest_has_sign, numbers_fit}
use Rattle.kernel_syntax.proofs.laws.operators_divide.Goals as goal

pub returns : goal.returns
returns c = record { exact = division_is_exact; sign = rest_has_sign; fit = numbers_fit }
