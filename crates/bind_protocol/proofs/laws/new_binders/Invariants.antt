use Rattle.std.proofs.Common.{◌≡◌}
use Rattle.bind_protocol.specs.World.{new_records}
use Rattle.bind_protocol.proofs.laws.new_binders.Given as goal

abbrev pub invariant-loop-before : goal.invariant-loop-before
invariant-loop-before l = l.binders.items ≡ new_records l.before
