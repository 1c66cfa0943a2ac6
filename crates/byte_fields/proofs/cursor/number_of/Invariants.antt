use Rattle.std.proofs.Common.{◌≡◌, ◌≤◌, drop}
use Rattle.byte_fields.specs.Text.{value_after, value_of}
use Rattle.byte_fields.proofs.cursor.number_of.Given as goal

abbrev pub invariant-loop-digit : goal.invariant-loop-digit
invariant-loop-digit l = (value_after l.value (drop l.digit-index l.digits) ≡ value_of l.digits) × (l.value ≤ l.most)
