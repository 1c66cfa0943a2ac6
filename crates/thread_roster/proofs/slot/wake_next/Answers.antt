use Rattle.std.proofs.Common.{◌∙◌, sym}
use Rattle.thread_roster.proofs.WokenLemmas.{woken_one, woken_none}
use Rattle.thread_roster.proofs.slot.wake_next.Goals as goal

pub returns-then-wake_slot_at-clause-queue : goal.returns-then-wake_slot_at-clause-queue
returns-then-wake_slot_at-clause-queue g c =
    woken_one c.args.event c.args.slots.now.items c.args.queue.now.items _ c.args.slot (sym c.wake_slot_at.ensures.goes ∙ c.if-wake_slot_at.true) c.push_back_reserved.ensures.items

pub returns-else-wake_slot_at-clause-queue : goal.returns-else-wake_slot_at-clause-queue
returns-else-wake_slot_at-clause-queue g c = woken_none c.args.event c.args.slots.now.items c.args.queue.now.items c.args.slot (sym c.wake_slot_at.ensures.goes ∙ c.if-wake_slot_at.false)
