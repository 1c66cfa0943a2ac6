use Rattle.wire_reader.proofs.NumberLaws.{format_is_what_fits}
use Rattle.wire_reader.proofs.laws.format_is_what_fits.Goals as goal

pub returns : goal.returns
returns c = format_is_what_fits
