use Rattle.std.proofs.Common.{◌≡◌, ◌≤◌, ◌+◌, ◌++◌, List, length, vec_len, vec_capacity}
use Rattle.site_worker.specs.declared.host.Host.{Host}
use Rattle.site_worker.proofs.Ending.{back_seats}
use Rattle.site_worker.proofs.run.finish.Given as goal

abbrev pub decreases-loop-host : goal.decreases-loop-host
decreases-loop-host l = vec_len l.hosts

abbrev pub invariant-loop-host : goal.invariant-loop-host
invariant-loop-host l = record {
  gone : (gone : List Host) × (l.fn.hosts.items ≡ l.hosts.items ++ gone) × (l.seats.items ≡ back_seats gone);
  room : length l.seats.items + length l.hosts.items ≤ vec_capacity l.seats;
}
