use Rattle.std.proofs.Common.{◌≡◌}
use Rattle.book_lock.specs.Seats.{HasTicket, my_part, seat_part}
use Rattle.book_lock.proofs.lock.CountedLock.enter.Given as goal

abbrev pub invariant-loop : goal.invariant-loop
invariant-loop g l = (l.inner.table_id ≡ l.self.table.shared.table_id) × HasTicket l.ticket l.inner.me × (my_part l.inner.me ≡ seat_part l.fn.seat)
