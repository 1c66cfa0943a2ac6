use Rattle.site_cells.proofs.RowLemmas.{serving_exchanges}
use Rattle.site_cells.proofs.laws.serving_goes_on.Goals as goal

pub returns : goal.returns
returns c = serving_exchanges
