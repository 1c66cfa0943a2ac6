use Rattle.bind_protocol.proofs.NoticeLemmas.{rows_tell, telling_joins}
use Rattle.bind_protocol.proofs.laws.rows_tell.Goals as goal

pub returns : goal.returns
returns c = record { rows = rows_tell; together = telling_joins }
