use Rattle.std.proofs.Common.{◌≡◌, map, take}
use Rattle.pick_list.specs.Compact.{wide}
use Rattle.pick_list.proofs.columns.wide_namings.Given as goal

abbrev pub invariant-loop-naming : goal.invariant-loop-naming
invariant-loop-naming l = l.all.items ≡ map wide (take l.naming-index l.namings)
