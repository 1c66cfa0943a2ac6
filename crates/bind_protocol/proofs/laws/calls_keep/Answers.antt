use Rattle.bind_protocol.proofs.HoldLemmas.{calls_keep}
use Rattle.bind_protocol.proofs.laws.calls_keep.Goals as goal

pub returns : goal.returns
returns c = calls_keep
