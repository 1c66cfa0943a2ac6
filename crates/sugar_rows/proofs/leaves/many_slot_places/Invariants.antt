use Rattle.std.proofs.Common.{◌≡◌, take}
use Rattle.sugar_rows.specs.Put.{slot_places}
use Rattle.sugar_rows.proofs.leaves.many_slot_places.Given as goal

abbrev pub invariant-loop-slot : goal.invariant-loop-slot
invariant-loop-slot l = l.placed.items ≡ slot_places l.places l.first (take l.slot-index l.slots)
