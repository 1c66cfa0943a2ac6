use Rattle.site_model.proofs.FilledLemmas.{rows_fill_last, units_fill_last}
use Rattle.site_model.proofs.laws.bundles_come_last.Goals as goal

pub returns : goal.returns
returns c = record { rows = rows_fill_last; units = units_fill_last }
