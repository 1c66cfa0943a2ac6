use Rattle.std.proofs.Common.{◌≡◌}
use Rattle.book_lock.specs.Seats.{lock_id, IsOutsideOf}
use Rattle.book_lock.proofs.tests.visits.Given as goal

abbrev pub invariant-loop-steps : goal.invariant-loop-steps
invariant-loop-steps g l = IsOutsideOf (lock_id l.lock) l.seat × (l.seat.site ≡ l.fn.seat.site)
