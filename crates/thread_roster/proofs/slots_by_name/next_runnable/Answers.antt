use Rattle.std.proofs.Common.{◌∙◌, ap, subst, ℕ, Some, List, ◌∷◌}
use Rattle.thread_roster.specs.Slots.{AreInside}
use Rattle.thread_roster.proofs.SlotLemmas.{at_index}
use Rattle.thread_roster.proofs.ConsistencyLemmas.{rest_more, popped, stands_as}
use Rattle.thread_roster.proofs.slots_by_name.next_runnable.Goals as goal

pub returns-in-Some-runnable_name-clause-some : goal.returns-in-Some-runnable_name-clause-some
returns-in-Some-runnable_name-clause-some g c =
    let queue = c.in-Some.ensures.some in
    let held = c.in-Some-runnable_name.ensures.some in
    let inside : AreInside c.args.slots.now.items (c.in-Some.slot ∷ queue.0) = subst (λ (q : List ℕ). AreInside c.args.slots.now.items q) queue.1 c.slots.invariant.inside in
    (c.in-Some.slot, queue.0, held.0, queue.1, at_index c.args.slots.now.items c.in-Some.slot _ inside.0 c.index.ensures ∙ ap Some held.1, held.2, held.3)

pub slots-preserved : goal.slots-preserved
slots-preserved g c =
    let first = c.in-Some.ensures.some in
    let queue = popped c.slots.queue c.pop.new.self first.0 c.in-Some.slot c.pop.result c.pop.ensures.some c.pop.ensures.none first.1 in
    let inside : AreInside c.args.slots.now.items (c.in-Some.slot ∷ c.pop.new.self) = subst (λ (q : List ℕ). AreInside c.args.slots.now.items q) queue c.slots.invariant.inside in
    record {
      inside = inside.1;
      rest =
          rest_more c.args.slots.now.items c.args.queue.now c.slots.queue c.pop.new.self c.in-Some.slot c.slots.invariant.rest queue
          (stands_as c.args.slots.now.items c.in-Some.slot _ (at_index c.args.slots.now.items c.in-Some.slot _ inside.0 c.index.ensures) c.in_default-runnable_name.ensures.none);
    }
