use Rattle.std.proofs.Common.{subst, arith, ◌∙◌}
use Rattle.std.specs.Io.KnownBytes.{Appends}
use Rattle.oz_base.specs.Streams.{TakesFront}
use Rattle.oz_runner.proofs.Pieces.{line_piece, lines_are, part_written, part_stopped, all_written}
use Rattle.oz_runner.proofs.HandedLemmas.{line_handed}
use Rattle.oz_runner.proofs.write.write_lines.Goals as goal

pub loop-line-preserved : goal.loop-line-preserved
loop-line-preserved g c = record {
  bytes = part_written line_piece _ _ _ c.args.lines.now c.loop-line.line-index c.line-item.result (grind arith) c.line-item.is
      _ c.as_piece.ensures c.loop-line.invariant.bytes c.in_default.ensures.bytes;
  pieces = line_handed _ _ _ c.args.lines.now c.loop-line.line-index c.line-item.result (grind arith) c.line-item.is
      _ c.as_piece.ensures c.loop-line.invariant.pieces c.in_default.ensures.pieces;
  steady = c.in_default.ensures.cause.steady ∙ c.loop-line.invariant.steady;
}

pub returns-in-Err-clause-bytes : goal.returns-in-Err-clause-bytes
returns-in-Err-clause-bytes g c =
    subst (TakesFront _ _) (lines_are c.args.lines.now)
    (part_stopped line_piece _ _ _ c.args.lines.now c.loop-line.line-index c.line-item.result (grind arith) c.line-item.is
    _ c.as_piece.ensures c.loop-line.invariant.bytes c.in-Err.ensures.bytes)

pub returns-in-Err-clause-pieces : goal.returns-in-Err-clause-pieces
returns-in-Err-clause-pieces g c =
    line_handed _ _ _ c.args.lines.now c.loop-line.line-index c.line-item.result (grind arith) c.line-item.is
    _ c.as_piece.ensures c.loop-line.invariant.pieces c.in-Err.ensures.pieces

pub returns-clause-bytes : goal.returns-clause-bytes
returns-clause-bytes g c =
    subst (Appends _ _) (lines_are c.args.lines.now)
    (all_written line_piece _ _ c.args.lines.now c.loop-line.line-index c.loop-line-test.false c.loop-line.invariant.bytes)
