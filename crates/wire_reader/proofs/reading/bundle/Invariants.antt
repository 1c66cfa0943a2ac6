use Rattle.std.proofs.Common.{◌≡◌, ◌-◌}
use Rattle.wire_reader.specs.Reading.{equation_at, items_at, bundle_at}
use Rattle.wire_reader.proofs.reading.bundle.Given as goal

abbrev pub invariant-loop : goal.invariant-loop
invariant-loop l = items_at (equation_at l.form) (l.count - l.counter) l.items.items l.cursor ≡ bundle_at l.form l.fn.cursor
