use Rattle.std.proofs.Common.{◌≡◌, ℕ, ◌+◌, List, length, vec_len, vec_capacity}
use Rattle.kernel_syntax.specs.declared.stmt.Stmt.{Stmt}
use Rattle.book_lock.specs.Seats.{lock_id}
use Rattle.site_worker.specs.Hosts.{AreHosts, AreHostsOf, times}
use Rattle.site_worker.proofs.load.append.Given as goal

abbrev pub decreases-loop-host : goal.decreases-loop-host
decreases-loop-host l = vec_len l.more

abbrev pub invariant-loop-host : goal.invariant-loop-host
invariant-loop-host l = record {
  times : (k : ℕ) → times k l.all.items + times k l.more.items ≡ times k l.initial.all.items + times k l.fn.more.items;
  here : AreHosts (lock_id l.lock) l.all.items;
  left : AreHosts (lock_id l.lock) l.more.items;
  run : (p : List Stmt) (x : List ℕ) → AreHostsOf p x l.initial.all.items → AreHostsOf p x l.fn.more.items → AreHostsOf p x l.all.items × AreHostsOf p x l.more.items;
  capacity : vec_capacity l.all ≡ vec_capacity l.initial.all;
  count : length l.all.items + length l.more.items ≡ length l.initial.all.items + length l.fn.more.items;
}
