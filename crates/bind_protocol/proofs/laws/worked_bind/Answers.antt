use Rattle.std.proofs.Common.{refl}
use Rattle.bind_protocol.proofs.laws.worked_bind.Goals as goal

pub returns : goal.returns
returns c = record {
  meets = refl;
  known = refl;
  wants = refl;
  waits = refl;
  taken = refl;
  untold = refl;
  answered = refl;
  learnt = refl;
  late = refl;
  unsent = refl;
  third = refl;
  told = refl;
}
