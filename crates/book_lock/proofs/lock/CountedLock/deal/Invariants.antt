use Rattle.std.proofs.Common.{◌≡◌, ◌≤◌, ◌+◌, ◌-◌, [], length, vec_capacity}
use Rattle.book_lock.specs.Rule.{outside, parts_from}
use Rattle.book_lock.specs.Seats.{my_part, AreNewSeats}
use Rattle.book_lock.proofs.lock.CountedLock.deal.Given as goal

abbrev pub invariant-loop-k : goal.invariant-loop-k
invariant-loop-k g l = record {
  own : l.first.table_id ≡ l.self.table.shared.table_id;
  parts : l.first.me ≡ (outside (parts_from (l.seats - l.k) (l.k + 1) (my_part l.initial.first.me).seen), []);
  count : length l.list.items ≡ l.k;
  parkers : length l.parkers.items + l.k ≡ l.seats;
  room : l.seats ≤ vec_capacity l.list;
  new : AreNewSeats l.self.table.shared.table_id 1 (my_part l.initial.first.me).seen l.list.items;
}
