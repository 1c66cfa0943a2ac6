use Rattle.std.proofs.Common.{◌≡◌, take, reverse}
use Rattle.std.specs.List.{flat_map}
use Rattle.std.specs.Io.KnownBytes.{Appends}
use Rattle.oz_base.specs.Streams.{HandsInOnly}
use Rattle.world_model.specs.Schedule.{lines_in}
use Rattle.oz_runner.specs.Due.{IsRestOfLine}
use Rattle.oz_runner.proofs.Pieces.{turn_pieces}
use Rattle.oz_runner.proofs.write.write_turns.Given as goal

abbrev pub invariant-loop-turn : goal.invariant-loop-turn
invariant-loop-turn g l = record {
  bytes : Appends (g.K.Sink.taken l.initial.sink) (g.K.Sink.taken l.sink) (flat_map turn_pieces (take l.turn-index l.turns));
  pieces : HandsInOnly (g.K.Sink.pieces l.initial.sink) (g.K.Sink.pieces l.sink) (IsRestOfLine (lines_in (reverse l.turns)));
  steady : g.K.Sink.faults l.sink ≡ g.K.Sink.faults l.initial.sink;
}
