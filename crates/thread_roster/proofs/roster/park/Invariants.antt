use Rattle.std.proofs.Common.{take}
use Rattle.waiting_keys.specs.Keys.{keys_among}
use Rattle.thread_roster.specs.Parking.{HasMoreKeys}
use Rattle.thread_roster.proofs.ParkingLemmas.{IsAtEach}
use Rattle.thread_roster.proofs.roster.park.Given as goal

abbrev pub invariant-vars : goal.invariant-vars
invariant-vars l = record {
  more : HasMoreKeys (keys_among l.initial.waiters) l.slot (keys_among l.waiters);
  there : IsAtEach l.waiters l.slot (take l.var-index l.vars);
}
