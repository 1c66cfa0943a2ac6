use Rattle.wire_reader.proofs.WholeLaws.{no_proper_prefix}
use Rattle.wire_reader.proofs.laws.no_proper_prefix.Goals as goal

pub returns : goal.returns
returns c = no_proper_prefix
