use Rattle.site_model.proofs.CellExampleRun.{token_goes_round}
use Rattle.site_model.proofs.laws.worked_cells.Goals as goal

pub returns : goal.returns
returns c = token_goes_round
