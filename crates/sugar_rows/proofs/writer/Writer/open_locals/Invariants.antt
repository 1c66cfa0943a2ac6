use Rattle.std.proofs.Common.{◌≡◌, ◌+◌, ◌-◌, ◌≤◌, length}
use Rattle.sugar_rows.specs.Writing.{write_locals}
use Rattle.sugar_rows.proofs.writer.Writer.open_locals.Given as goal

abbrev pub invariant-loop : goal.invariant-loop
invariant-loop l = record {
  write : write_locals (l.count - l.counter) l.self.around l.self.rows ≡ write_locals l.count l.fn.self.around l.fn.self.rows;
  places : l.self.places ≡ l.fn.self.places;
  around : l.self.around ≡ l.fn.self.around + l.counter;
  grows : length l.fn.self.rows ≤ length l.self.rows;
}
