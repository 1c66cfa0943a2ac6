use Rattle.std.proofs.Common.{◌≡◌, length, take, ◌-◌, ◌≤◌}
use Rattle.std.specs.Io.KnownBytes.{Appends}
use Rattle.oz_base.specs.Streams.{HandsInOnly, IsRestOf}
use Rattle.oz_base.proofs.piece.write_piece.Given as goal

abbrev pub invariant-loop-at : goal.invariant-loop-at
invariant-loop-at g l = record {
  within : l.at ≤ length l.piece;
  bytes : Appends (g.K.Sink.taken l.initial.sink) (g.K.Sink.taken l.sink) (take l.at l.piece);
  pieces : HandsInOnly (g.K.Sink.pieces l.initial.sink) (g.K.Sink.pieces l.sink) (IsRestOf l.piece);
  steady : g.K.Sink.faults l.sink ≡ g.K.Sink.faults l.initial.sink;
}

abbrev pub decreases-loop-at : goal.decreases-loop-at
decreases-loop-at g l = length l.piece - l.at
