use Rattle.std.proofs.Common.{◌≡◌, take}
use Rattle.std.specs.List.{flat_map}
use Rattle.site_message.specs.Units.{small_units}
use Rattle.site_message.proofs.units.small_threads.Given as goal

abbrev pub invariant-loop-stint : goal.invariant-loop-stint
invariant-loop-stint l = l.threads.items ≡ flat_map small_units (take l.stint-index l.stints)
