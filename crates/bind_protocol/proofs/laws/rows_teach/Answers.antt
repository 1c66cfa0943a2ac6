use Rattle.bind_protocol.proofs.LearnLemmas.{rows_teach, known_stays}
use Rattle.bind_protocol.proofs.laws.rows_teach.Goals as goal

pub returns : goal.returns
returns c = record { learnt = rows_teach; stays = known_stays }
