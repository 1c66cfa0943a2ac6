use Rattle.std.proofs.Common.{◌≡◌, ◌+◌, ◌++◌, drop}
use Rattle.std.specs.Prelude.{◌≤◌}
use Rattle.std.specs.Vec.{vec_len}
use Rattle.std.specs.VecDeque.{deque_len, deque_capacity}
use Rattle.thread_roster.specs.Slots.{wake_slots, woken, total, waiting}
use Rattle.thread_roster.proofs.slot.wake_slots.Given as goal

abbrev pub invariant-keys : goal.invariant-keys
invariant-keys g l = record {
  len : vec_len l.slots ≡ vec_len l.fn.slots;
  rest : wake_slots l.event l.slots.items (drop l.key-index l.keys) ≡ wake_slots l.fn.event l.fn.slots.items l.fn.keys;
  count : l.roused + total waiting l.slots.items ≡ total waiting l.fn.slots.items;
  queue : l.queue.items ++ woken l.event l.slots.items (drop l.key-index l.keys) ≡ l.fn.queue.items ++ woken l.fn.event l.fn.slots.items l.fn.keys;
  few : deque_len l.queue ≤ deque_len l.fn.queue + l.key-index;
  room : deque_capacity l.queue ≡ deque_capacity l.fn.queue;
}
