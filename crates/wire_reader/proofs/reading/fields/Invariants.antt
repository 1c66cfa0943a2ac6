use Rattle.std.proofs.Common.{◌≡◌, ◌-◌}
use Rattle.wire_reader.specs.Reading.{field_at, items_at, fields_at}
use Rattle.wire_reader.proofs.reading.fields.Given as goal

abbrev pub invariant-loop : goal.invariant-loop
invariant-loop l = items_at (field_at l.form) (l.count - l.counter) l.items.items l.cursor ≡ fields_at l.form l.fn.cursor
