use Rattle.oz_sugar.proofs.FewRows as proved
use Rattle.oz_sugar.proofs.laws.rows_are_few.Goals as goal

pub returns : goal.returns
returns c = proved.rows_are_few
