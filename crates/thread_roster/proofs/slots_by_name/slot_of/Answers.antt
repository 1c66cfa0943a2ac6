use Rattle.std.proofs.Common.{refl, subst, ℕ, List, ◌∷◌}
use Rattle.thread_roster.specs.Slots.{slot_in, AreInside}
use Rattle.thread_roster.proofs.SlotLemmas.{at_index}
use Rattle.thread_roster.proofs.ConsistencyLemmas.{place_is}
use Rattle.thread_roster.proofs.slots_by_name.slot_of.Goals as goal

pub returns-then-is_of : goal.returns-then-is_of
returns-then-is_of g c =
    let queue = c.in-Some.ensures.some in
    let inside : AreInside c.args.slots.now.items (c.in-Some.slot ∷ queue.0) = subst (λ (q : List ℕ). AreInside c.args.slots.now.items q) queue.1 c.requires.inside in
    place_is c.args.slots.now.items (slot_in c.args.by_name.now) c.in-Some.slot _ c.args.name c.requires.placed
    (at_index c.args.slots.now.items c.in-Some.slot _ inside.0 c.index.ensures) (c.if-is_of.ensures.0 refl)
