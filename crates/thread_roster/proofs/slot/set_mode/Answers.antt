use Rattle.std.proofs.Common.{ap, slice_set}
use Rattle.thread_roster.proofs.SlotLemmas.{at_index}
use Rattle.thread_roster.proofs.ConsistencyLemmas.{slot_is}
use Rattle.thread_roster.proofs.slot.set_mode.Goals as goal

pub returns-clause-put : goal.returns-clause-put
returns-clause-put g c h is =
    ap (slice_set c.args.slots.now.items c.args.slot)
    (c.set_mode_in.ensures.put h (slot_is c.args.slots.now.items c.args.slot _ h (at_index c.args.slots.now.items c.args.slot _ c.requires.inside c.index_mut.ensures.value) is))

pub returns-clause-old : goal.returns-clause-old
returns-clause-old g c h is =
    c.set_mode_in.ensures.old h (slot_is c.args.slots.now.items c.args.slot _ h (at_index c.args.slots.now.items c.args.slot _ c.requires.inside c.index_mut.ensures.value) is)
