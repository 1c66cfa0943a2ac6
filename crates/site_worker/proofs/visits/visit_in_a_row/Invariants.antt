use Rattle.book_lock.specs.Seats.{lock_id}
use Rattle.site_worker.specs.Visit.{IsSameHost, AreVisitsSoFar}
use Rattle.site_worker.proofs.visits.visit_in_a_row.Given as goal

abbrev pub invariant-loop : goal.invariant-loop
invariant-loop g l = IsSameHost l.fn.host l.host × AreVisitsSoFar (lock_id l.lock) l.fn.host l.host l.fetched
