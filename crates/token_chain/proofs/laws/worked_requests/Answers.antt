use Rattle.std.proofs.Common.{refl}
use Rattle.token_chain.proofs.laws.worked_requests.Goals as goal

pub returns : goal.returns
returns c = record {
  asks = refl;
  leaves = refl;
  tells = refl;
  early = refl;
  passes = refl;
  stays = refl;
  again = refl;
  hands = refl;
  serves = refl;
  own = refl;
  here = refl;
}
