use Rattle.oz_runner.proofs.Pieces.{then_piece}
use Rattle.oz_runner.specs.Ends.{lines_of}
use Rattle.oz_runner.proofs.HandedLemmas.{end_handed, lines_handed}
use Rattle.oz_runner.proofs.write.write_all.Goals as goal

pub returns-clause-bytes : goal.returns-clause-bytes
returns-clause-bytes g c = then_piece _ _ _ c.write_piece.result _ _ c.in_default.ensures.bytes c.write_piece.ensures.bytes

pub returns-in-Err-clause-pieces : goal.returns-in-Err-clause-pieces
returns-in-Err-clause-pieces g c = lines_handed _ _ (lines_of c.args.printed.now) c.args.end.now c.in-Err.ensures.pieces

pub returns-clause-pieces : goal.returns-clause-pieces
returns-clause-pieces g c = end_handed _ _ _ (lines_of c.args.printed.now) c.args.end.now c.in_default.ensures.pieces c.write_piece.ensures.pieces
