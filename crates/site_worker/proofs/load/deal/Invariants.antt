use Rattle.std.proofs.Common.{◌≡◌, ℕ, ◌+◌, ◌<◌, List, length, vec_len}
use Rattle.kernel_syntax.specs.declared.stmt.Stmt.{Stmt}
use Rattle.book_lock.specs.Seats.{lock_id}
use Rattle.site_worker.specs.Host.{IsHost, IsHostOf}
use Rattle.site_worker.specs.Hosts.{AreHosts, AreHostsOf, AllHosts, AreAtHome, HaveRoom, times, all_times, all_hosts}
use Rattle.site_worker.proofs.load.deal.Given as goal

abbrev pub decreases-loop-host : goal.decreases-loop-host
decreases-loop-host l = vec_len l.hosts

abbrev pub invariant-loop-host : goal.invariant-loop-host
invariant-loop-host l = record {
  some : 0 < length l.groups.items;
  room : HaveRoom (length l.hosts.items) l.groups.items;
  times : (k : ℕ) → all_times k l.groups.items + times k l.hosts.items ≡ times k l.fn.hosts.items;
  dealt : AllHosts (IsHost (lock_id l.lock)) l.groups.items;
  left : AreHosts (lock_id l.lock) l.hosts.items;
  run : (p : List Stmt) (x : List ℕ) → AreHostsOf p x l.fn.hosts.items → AllHosts (IsHostOf p x) l.groups.items × AreHostsOf p x l.hosts.items;
  homes : AreAtHome l.groups.items;
  count : (all_hosts l.groups.items + length l.hosts.items ≡ length l.fn.hosts.items) × (length l.groups.items ≡ length l.fn.groups.items);
}
