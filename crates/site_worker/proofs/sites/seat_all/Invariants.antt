use Rattle.std.proofs.Common.{◌≡◌, ◌+◌, ◌<◌, ◌≤◌, ℕ, length, vec_len, vec_capacity}
use Rattle.book_lock.specs.Seats.{lock_id, AreNewSeats}
use Rattle.site_message.specs.declared.story.Sight.{Sight}
use Rattle.site_worker.specs.Sites.{AreNewSites}
use Rattle.site_worker.specs.Hosts.{AreHosts, AreHostsOf, times}
use Rattle.site_worker.proofs.sites.seat_all.Given as goal

abbrev pub decreases-loop-seat : goal.decreases-loop-seat
decreases-loop-seat l = vec_len l.seats

abbrev pub invariant-loop-seat : goal.invariant-loop-seat
invariant-loop-seat l = record {
  room : length l.hosts.items + length l.seats.items ≤ vec_capacity l.hosts;
  count : length l.hosts.items + length l.seats.items ≡ l.count;
  sites : (length l.sites.items ≡ length l.seats.items) × AreNewSites l.program l.count 1 l.sites.items;
  of : (x : Sight) → AreNewSeats (lock_id l.lock) 1 x l.fn.seats.items → AreNewSeats (lock_id l.lock) 1 x l.seats.items × AreHostsOf l.program x.fixed l.hosts.items;
  hosts : AreHosts (lock_id l.lock) l.hosts.items;
  high : (k : ℕ) → length l.seats.items < k → k ≤ l.count → 0 < times k l.hosts.items;
}
