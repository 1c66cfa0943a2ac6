use Rattle.std.proofs.Common.{sym}
use Rattle.thread_roster.specs.Slots.{slot_in}
use Rattle.thread_roster.proofs.SlotLemmas.{has_place}
use Rattle.thread_roster.proofs.ConsistencyLemmas.{inside_there, thread_there}
use Rattle.thread_roster.proofs.slots_by_name.find.Goals as goal

pub unreachable-requires : goal.unreachable-requires
unreachable-requires g c = has_place c.args.slots.now.items (slot_in c.args.by_name.now) c.args.name c.requires.placed c.requires.lives c.in-None.ensures

pub returns-clause-inside : goal.returns-clause-inside
returns-clause-inside g c = inside_there c.args.slots.now.items (slot_in c.args.by_name.now) c.args.name c.in-Some.slot c.requires.placed (sym c.in-Some.ensures)

pub returns-clause-held : goal.returns-clause-held
returns-clause-held g c = thread_there c.args.slots.now.items (slot_in c.args.by_name.now) c.args.name c.in-Some.slot c.requires.placed (sym c.in-Some.ensures)
