use Rattle.std.proofs.Common.{arith, ◌∙◌}
use Rattle.thread_roster.proofs.SlotLemmas.{waiting_le, living_le}
use Rattle.thread_roster.proofs.WakeLemmas.{rouse_next}
use Rattle.thread_roster.proofs.WokenLemmas.{woken_next}
use Rattle.thread_roster.proofs.slot.wake_slots.Goals as goal

pub overflow_add-roused : goal.overflow_add-roused
overflow_add-roused g c =
    let most = waiting_le c.args.slots.now.items in
    let more = living_le c.args.slots.now.items in
    let so_far = c.keys.invariant.count in
    let one_more = c.wake_next-more.ensures.count in
    let ok = c.args.slots.now.ok in
    let small = c.args.slots.now.small in
    omega (arith, most, more, so_far, one_more, ok, small)

pub keys-preserved : goal.keys-preserved
keys-preserved g c =
    let so_far = c.keys.invariant.count in
    let one_more = c.wake_next-more.ensures.count in
    let few = c.keys.invariant.few in
    let fewer = c.wake_next-more.ensures.few in
    record {
      len = c.wake_next-more.ensures.len ∙ c.keys.invariant.len;
      rest = rouse_next c.args.event c.keys.slots.items c.wake_next-more.new.slots.items c.args.keys.now c.keys.key-index _ c.keys-test.true c.wake_next-more.ensures.slots ∙ c.keys.invariant.rest;
      count = omega (arith, so_far, one_more);
      queue = woken_next c.args.event c.keys.slots.items c.wake_next-more.new.slots.items c.keys.queue.items c.wake_next-more.new.queue.items c.args.keys.now c.keys.key-index _ c.keys-test.true c.wake_next-more.ensures.slots c.wake_next-more.ensures.queue ∙ c.keys.invariant.queue;
      few = omega (arith, few, fewer);
      room = c.wake_next-more.ensures.capacity ∙ c.keys.invariant.room;
    }
