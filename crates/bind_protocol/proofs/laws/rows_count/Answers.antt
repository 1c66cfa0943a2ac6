use Rattle.bind_protocol.proofs.GoOnLemmas.{rows_count, rows_hear, counts_join}
use Rattle.bind_protocol.proofs.laws.rows_count.Goals as goal

pub returns : goal.returns
returns c = record { counted = rows_count; heard = rows_hear; together = counts_join }
