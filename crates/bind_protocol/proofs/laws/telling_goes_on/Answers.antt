use Rattle.bind_protocol.proofs.NoticeLemmas.{telling_goes_on, waiters_are_told}
use Rattle.bind_protocol.proofs.laws.telling_goes_on.Goals as goal

pub returns : goal.returns
returns c = record { world = telling_goes_on; waiters = waiters_are_told }
