use Rattle.std.proofs.Common.{◌≡◌, take}
use Rattle.site_message.proofs.units.Units.from_slice.Given as goal

abbrev pub invariant-loop-thread : goal.invariant-loop-thread
invariant-loop-thread l = l.units ≡ take l.thread-index l.threads
