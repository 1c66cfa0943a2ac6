use Rattle.std.proofs.Common.{◌≡◌, vec_capacity}
use Rattle.book_lock.specs.Seats.{lock_id}
use Rattle.site_worker.specs.Hosts.{AreSame}
use Rattle.site_worker.proofs.work.work.Given as goal

abbrev pub invariant-loop : goal.invariant-loop
invariant-loop g l = AreSame (lock_id l.lock) l.fn.group.hosts.items l.hosts.items × (vec_capacity l.hosts ≡ vec_capacity l.fn.group.hosts)
