use Rattle.std.proofs.Common.{◌≡◌, length}
use Rattle.site_worker.specs.Sites.{AreNewSites}
use Rattle.site_worker.proofs.sites.new_sites.Given as goal

abbrev pub invariant-loop-k : goal.invariant-loop-k
invariant-loop-k l = (length l.sites.items ≡ l.k) × AreNewSites l.program l.count 1 l.sites.items
