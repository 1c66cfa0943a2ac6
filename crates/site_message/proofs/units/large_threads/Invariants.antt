use Rattle.std.proofs.Common.{◌≡◌, take}
use Rattle.std.specs.List.{flat_map}
use Rattle.site_message.specs.Units.{units_of}
use Rattle.site_message.proofs.units.large_threads.Given as goal

abbrev pub invariant-loop-stint : goal.invariant-loop-stint
invariant-loop-stint l = l.threads.items ≡ flat_map units_of (take l.stint-index l.stints)
