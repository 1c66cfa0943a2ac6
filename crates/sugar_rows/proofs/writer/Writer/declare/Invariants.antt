use Rattle.std.proofs.Common.{◌≡◌, ◌+◌, ◌++◌}
use Rattle.sugar_rows.specs.Put.{positions_from}
use Rattle.sugar_rows.proofs.writer.Writer.declare.Given as goal

abbrev pub invariant-loop : goal.invariant-loop
invariant-loop l = record {
  rows : l.self.rows ≡ l.fn.self.rows;
  places : l.self.places ≡ l.fn.self.places ++ positions_from l.fn.self.around l.counter;
  around : l.self.around ≡ l.fn.self.around + l.counter;
}
