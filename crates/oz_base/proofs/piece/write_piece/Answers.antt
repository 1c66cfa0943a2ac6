use Rattle.std.proofs.Common.{arith, rules}
use Rattle.oz_base.proofs.Pieces.{fronts_joined, rest_handed}
use Rattle.oz_base.proofs.piece.write_piece.Goals as goal

pub loop-at-preserved : goal.loop-at-preserved
loop-at-preserved g c = record {
  within = grind arith;
  bytes = fronts_joined _ _ _ _ _ _ c.loop-at.invariant.bytes c.in_ok-at.ensures.bytes;
  pieces = rest_handed _ _ _ _ _ c.loop-at.invariant.pieces c.in_ok-at.ensures.pieces;
  steady = search rules;
}
