use Rattle.site_model.proofs.AscendingLemmas.{bundles_are_ordered}
use Rattle.site_model.proofs.laws.bundles_are_ordered.Goals as goal

pub returns : goal.returns
returns c = bundles_are_ordered
