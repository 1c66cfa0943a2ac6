use Rattle.std.proofs.Common.{ap, subst, arith, ◌∙◌}
use Rattle.std.specs.Io.KnownBytes.{Appends}
use Rattle.oz_base.specs.Streams.{TakesFront}
use Rattle.oz_model.specs.Output.{pieces_of}
use Rattle.oz_runner.proofs.Pieces.{turn_pieces, part_written, part_stopped, all_written, turns_are}
use Rattle.oz_runner.proofs.HandedLemmas.{turn_handed}
use Rattle.oz_runner.proofs.write.write_turns.Goals as goal

pub loop-turn-preserved : goal.loop-turn-preserved
loop-turn-preserved g c = record {
  bytes = part_written turn_pieces _ _ _ c.args.turns.now c.loop-turn.turn-index c.turn-item.result (grind arith) c.turn-item.is
      _ (ap pieces_of c.as_slice.ensures) c.loop-turn.invariant.bytes c.in_default.ensures.bytes;
  pieces = turn_handed _ _ _ c.args.turns.now c.loop-turn.turn-index c.turn-item.result (grind arith) c.turn-item.is
      _ c.as_slice.ensures c.loop-turn.invariant.pieces c.in_default.ensures.pieces;
  steady = c.in_default.ensures.cause.steady ∙ c.loop-turn.invariant.steady;
}

pub returns-in-Err-clause-bytes : goal.returns-in-Err-clause-bytes
returns-in-Err-clause-bytes g c =
    subst (TakesFront _ _) (turns_are c.args.turns.now)
    (part_stopped turn_pieces _ _ _ c.args.turns.now c.loop-turn.turn-index c.turn-item.result (grind arith) c.turn-item.is
    _ (ap pieces_of c.as_slice.ensures) c.loop-turn.invariant.bytes c.in-Err.ensures.bytes)

pub returns-in-Err-clause-pieces : goal.returns-in-Err-clause-pieces
returns-in-Err-clause-pieces g c =
    turn_handed _ _ _ c.args.turns.now c.loop-turn.turn-index c.turn-item.result (grind arith) c.turn-item.is
    _ c.as_slice.ensures c.loop-turn.invariant.pieces c.in-Err.ensures.pieces

pub returns-clause-bytes : goal.returns-clause-bytes
returns-clause-bytes g c =
    subst (Appends _ _) (turns_are c.args.turns.now)
    (all_written turn_pieces _ _ c.args.turns.now c.loop-turn.turn-index c.loop-turn-test.false c.loop-turn.invariant.bytes)
