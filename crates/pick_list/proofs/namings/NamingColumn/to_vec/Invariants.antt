use Rattle.std.proofs.Common.{◌≡◌, map, take}
use Rattle.pick_list.specs.Namings.{widened}
use Rattle.pick_list.proofs.namings.NamingColumn.to_vec.Given as goal

abbrev pub invariant-loop-naming : goal.invariant-loop-naming
invariant-loop-naming l = l.all.items ≡ map widened (take l.naming-index l.naming-items)
