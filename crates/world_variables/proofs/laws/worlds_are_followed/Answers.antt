use Rattle.world_variables.proofs.StartLemmas.{start_parts}
use Rattle.world_variables.proofs.ReceiveLemmas.{receive_row}
use Rattle.world_variables.proofs.FollowLemmas.{unit_follows}
use Rattle.world_variables.proofs.QuietLemmas.{quiet_rests}
use Rattle.world_variables.proofs.laws.worlds_are_followed.Goals as goal

pub returns : goal.returns
returns c = record {
  start = start_parts;
  messages = λ p limit w c k i m h numbers real sound plain far at has. (let r = receive_row p limit w c k i m h numbers real sound plain far at has in (r.centre, r.run, r.parts));
  units = λ p n limit i th w c d real sound numbers h unit. unit_follows p w c n limit i th real sound numbers h d unit;
  quiet = λ p w s h still sound. quiet_rests p _ _ _ _ _ s h still sound;
}
