use Rattle.std.proofs.Common.{◌≡◌, length}
use Rattle.site_worker.specs.Hosts.{AreEmpty}
use Rattle.site_worker.proofs.load.prepare.Given as goal

abbrev pub invariant-loop-made : goal.invariant-loop-made
invariant-loop-made l = (length l.groups.items ≡ l.made) × (length l.left_to_caller.items ≡ l.made) × AreEmpty l.hosts l.groups.items
