use Rattle.std.proofs.Common.{◌≡◌, ◌+◌, drop}
use Rattle.surface_parts.specs.Slots.{slot_point}
use Rattle.surface_parts.proofs.trees.slot_point.Given as goal

abbrev pub invariant-loop-at : goal.invariant-loop-at
invariant-loop-at l = l.at + slot_point l.feature (drop l.at l.slots) ≡ slot_point l.feature l.slots
