use Rattle.world_model.proofs.ExampleTotals.{totals_return}
use Rattle.world_model.proofs.laws.worked_totals.Goals as goal

pub returns : goal.returns
returns c = totals_return
