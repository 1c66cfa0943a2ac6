use Rattle.std.proofs.Common.{◌≡◌, take}
use Rattle.std.specs.List.{flat_map}
use Rattle.std.specs.Io.KnownBytes.{Appends}
use Rattle.oz_base.specs.Streams.{HandsInOnly}
use Rattle.oz_runner.specs.Due.{IsRestOfLine}
use Rattle.oz_runner.proofs.Pieces.{line_piece}
use Rattle.oz_runner.proofs.write.write_lines.Given as goal

abbrev pub invariant-loop-line : goal.invariant-loop-line
invariant-loop-line g l = record {
  bytes : Appends (g.K.Sink.taken l.initial.sink) (g.K.Sink.taken l.sink) (flat_map line_piece (take l.line-index l.lines));
  pieces : HandsInOnly (g.K.Sink.pieces l.initial.sink) (g.K.Sink.pieces l.sink) (IsRestOfLine l.lines);
  steady : g.K.Sink.faults l.sink ≡ g.K.Sink.faults l.initial.sink;
}
