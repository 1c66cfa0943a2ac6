use Rattle.std.proofs.Common.{◌∙◌, sym, refl}
use Rattle.thread_roster.proofs.SlotLemmas.{at_index}
use Rattle.thread_roster.proofs.WakeLemmas.{roused, roused_count, awaits_as}
use Rattle.thread_roster.proofs.slot.wake_slot_at.Goals as goal

pub returns-clause-slots : goal.returns-clause-slots
returns-clause-slots g c =
    roused c.args.slots.now.items _ c.args.slot c.args.event _ c.wake_in.new.slot
    (at_index c.args.slots.now.items c.args.slot _ c.requires.inside c.index_mut.ensures.value) c.wake_in.ensures.slot refl

pub returns-clause-goes : goal.returns-clause-goes
returns-clause-goes g c = c.wake_in.ensures.goes ∙ sym (awaits_as c.args.slots.now.items c.args.slot _ c.args.event (at_index c.args.slots.now.items c.args.slot _ c.requires.inside c.index_mut.ensures.value))

pub returns-clause-count : goal.returns-clause-count
returns-clause-count g c =
    rw (c.wake_in.ensures.goes, c.wake_in.ensures.slot) (roused_count c.args.slots.now.items c.args.slot c.args.event _ (at_index c.args.slots.now.items c.args.slot _ c.requires.inside c.index_mut.ensures.value))
