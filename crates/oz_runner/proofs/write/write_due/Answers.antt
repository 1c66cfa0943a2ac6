use Rattle.std.proofs.Common.{subst, sym}
use Rattle.oz_base.specs.Streams.{TakesPiece}
use Rattle.oz_runner.proofs.DueLemmas.{all_due, all_handed, end_alone, end_due, file_handed}
use Rattle.oz_runner.proofs.write.write_due.Goals as goal

pub returns-in-Saved-default-clause-pieces : goal.returns-in-Saved-default-clause-pieces
returns-in-Saved-default-clause-pieces g c =
    let at = c.in-Saved-default in
    file_handed c.args.printed.now c.args.status c.args.end.now at.field-0-0 at.file _ _ _ at.is-0 c.as_slice.ensures c.write_piece.ensures.pieces

pub returns-in_default-Wrong : goal.returns-in_default-Wrong
returns-in_default-Wrong g c =
    let wrote = c.write_piece-in_default-Wrong.ensures in
    let at = c.in_default-Wrong in
    record {
      bytes = subst (TakesPiece _ _ _) (sym (end_due c.args.printed.now c.args.status at.field-0-1 c.args.end.now at.not-Saved-0 at.is-1)) wrote.bytes;
      pieces = end_alone c.args.printed.now c.args.status at.field-0-1 c.args.end.now _ _ at.not-Saved-0 at.is-1 wrote.pieces;
      cause = wrote.cause;
    }

pub returns-in_default : goal.returns-in_default
returns-in_default g c =
    let wrote = c.write_all.ensures in
    let none = c.in_default.not-Saved-0 in
    let other = c.in_default.not-Wrong-1 in
    record {
      bytes = subst (TakesPiece _ _ _) (sym (all_due c.args.printed.now c.args.status c.args.end.now none other)) wrote.bytes;
      pieces = all_handed c.args.printed.now c.args.status c.args.end.now _ _ none other wrote.pieces;
      cause = wrote.cause;
    }
