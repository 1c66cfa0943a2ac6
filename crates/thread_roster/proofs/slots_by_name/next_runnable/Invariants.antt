use Rattle.std.proofs.Common.{length}
use Rattle.thread_roster.specs.Slots.{AreInside, IsRest}
use Rattle.thread_roster.proofs.slots_by_name.next_runnable.Given as goal

abbrev pub invariant-slots : goal.invariant-slots
invariant-slots g l = record {
  inside : AreInside l.slots.items l.queue;
  rest : IsRest l.slots.items l.fn.queue l.queue;
}

abbrev pub decreases-slots : goal.decreases-slots
decreases-slots g l = length l.queue
