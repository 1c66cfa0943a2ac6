use Rattle.book_lock.specs.Seats.{lock_id}
use Rattle.site_worker.specs.Hosts.{AreSame}
use Rattle.site_worker.proofs.work.visit_each.Given as goal

abbrev pub invariant-loop-i : goal.invariant-loop-i
invariant-loop-i g l = AreSame (lock_id l.lock) l.initial.hosts l.hosts
