use Rattle.bind_protocol.proofs.GoOnLemmas.{counts_go_on, counted_once, messages_come_ready}
use Rattle.bind_protocol.proofs.laws.counts_go_on.Goals as goal

pub returns : goal.returns
returns c = record { world = counts_go_on; once = counted_once; ready = messages_come_ready }
