use Rattle.std.proofs.Common.{arith, ◌≡◌, ◌∙◌, sym, ap, Some, None}
use Rattle.tree_node.specs.Assoc.{value_of}
use Rattle.tree_node.specs.State.{equal_thread}
use Rattle.thread_roster.specs.Slots.{slot_in}
use Rattle.thread_roster.proofs.SlotLemmas.{at_index}
use Rattle.thread_roster.proofs.ConsistencyLemmas.{inside_there, thread_there, no_thread, value_found}
use Rattle.thread_roster.proofs.roster.Roster.mode.Goals as goal

pub index-requires : goal.index-requires
index-requires g c =
    let below = inside_there c.self.inside.slots.items (slot_in c.self.inside.by_name) c.args.name c.in-Some.slot c.self.invariant.0.placed (sym c.in-Some.ensures) in
    let ok = c.self.inside.slots.ok in
    omega (arith, below, ok)

pub unreachable-requires : goal.unreachable-requires
unreachable-requires g c =
    let held = thread_there c.self.inside.slots.items (slot_in c.self.inside.by_name) c.args.name c.in-Some.slot c.self.invariant.0.placed (sym c.in-Some.ensures) in
    let empty : Some None ≡ Some (Some held.0) = sym (at_index c.self.inside.slots.items c.in-Some.slot _ (inside_there c.self.inside.slots.items (slot_in c.self.inside.by_name) c.args.name c.in-Some.slot c.self.invariant.0.placed (sym c.in-Some.ensures)) c.index.ensures ∙ ap Some (sym c.in-None-get.ensures)) ∙ held.1 in
    cc

pub returns-in-None-clause-none : goal.returns-in-None-clause-none
returns-in-None-clause-none g c =
    ap (λ s. value_of equal_thread s.living c.args.name) (sym c.self.view_is)
    ∙ no_thread c.self.inside.slots.items (slot_in c.self.inside.by_name) c.args.name c.self.invariant.0.placed (sym c.in-None.ensures)

pub returns-in-Some-get-clause-some : goal.returns-in-Some-get-clause-some
returns-in-Some-get-clause-some g c =
    let there = value_found c.self.inside.slots.items (slot_in c.self.inside.by_name) c.args.name c.in-Some.slot c.in-Some-get.held.now c.self.invariant.0.placed (sym c.in-Some.ensures) (at_index c.self.inside.slots.items c.in-Some.slot _ (inside_there c.self.inside.slots.items (slot_in c.self.inside.by_name) c.args.name c.in-Some.slot c.self.invariant.0.placed (sym c.in-Some.ensures)) c.index.ensures ∙ ap Some (sym c.in-Some-get.ensures)) in
    (c.in-Some-get.held.now.value, ap (λ s. value_of equal_thread s.living c.args.name) (sym c.self.view_is) ∙ there)
