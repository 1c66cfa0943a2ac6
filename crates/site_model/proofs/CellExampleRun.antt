-- The worked example computes.
use Rattle.std.proofs.Common.{refl}
use Rattle.site_model.specs.CellExample.{TokenGoesRound}

pub token_goes_round : TokenGoesRound
token_goes_round = (refl, refl, refl, refl, refl, refl, refl, refl, refl, refl, refl, refl, refl)
