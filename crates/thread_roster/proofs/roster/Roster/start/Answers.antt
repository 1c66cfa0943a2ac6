use Rattle.std.proofs.Common.{arith, ◌≡◌, ◌∙◌, ap, refl, Some, List, ◌∷◌, ◌++◌, []}
use Rattle.tree_node.specs.Assoc.{value_of}
use Rattle.tree_node.specs.State.{equal_thread}
use Rattle.thread_roster.specs.declared.mode.Mode.TheVariants as stands
use Rattle.thread_roster.specs.Slots.{slot_in, with_slot}
use Rattle.thread_roster.proofs.SlotLemmas.{living_le}
use Rattle.thread_roster.proofs.ConsistencyLemmas.{kept_born, kept_named, no_place, born_view, ended_born}
use Rattle.thread_roster.proofs.QueueLemmas.{ordered_born}
use Rattle.thread_roster.proofs.OrderLemmas.{order_born}
use Rattle.thread_roster.specs.Parking.{keys_for}
use Rattle.thread_roster.specs.declared.slot.Occupant.{Occupant}
use Rattle.thread_roster.specs.Slots.{Slot}
use Rattle.thread_roster.proofs.roster.Roster.start.Goals as goal

-- the slot of the thread stands behind the others
pushed : {V : Type 0} (old reserved new : List (Slot V)) (o : Slot V) (h : Occupant V) → new ≡ reserved ++ o ∷ [] → reserved ≡ old → o ≡ Some h → new ≡ old ++ Some h ∷ []
pushed {V} old reserved new o h put same is = put ∙ (ap (λ (l : List (Slot V)). l ++ o ∷ []) same ∙ ap (λ (p : Slot V). old ++ p ∷ []) is)

pub overflow_add-self : goal.overflow_add-self
overflow_add-self g c =
    let most = living_le c.self.inside.slots.items in
    let all = c.self.invariant.0.alive in
    let ok = c.self.inside.slots.ok in
    let small = c.self.inside.slots.small in
    omega (arith, most, all, ok, small)

pub invariant_of-self : goal.invariant_of-self
invariant_of-self g c = rw c.make_room.ensures.items c.self.invariant

pub enqueue-requires : goal.enqueue-requires
enqueue-requires g c = no_place c.self.inside.slots.items (slot_in c.self.inside.by_name) c.args.name c.self.invariant.0.placed (ap (λ s. value_of equal_thread s.living c.args.name) c.self.view_is ∙ c.requires.new)

pub invariant_of-self-in_err-enqueue : goal.invariant_of-self-in_err-enqueue
invariant_of-self-in_err-enqueue g c = rw (c.make_room.ensures.items, c.in_err-enqueue.ensures.err)
    (kept_named c.self.inside.slots.items c.self.inside.by_name c.enqueue.new.by_name c.self.inside.queue (keys_for c.self.inside.waiters c.self.inside.needers) c.self.inside.living c.self.inside.waiting c.self.invariant.0 c.in_err-enqueue.ensures.same, c.self.invariant.1)

pub invariant_of-self-2 : goal.invariant_of-self-2
invariant_of-self-2 g c =
    let slot = c.len-slot.ensures ∙ c.self.inside.slots.ok.0 in (
      kept_born c.self.inside.slots.items c.push_reserved.new.self.items c.self.inside.by_name c.enqueue.new.by_name c.self.inside.queue c.enqueue.new.queue (keys_for c.self.inside.waiters c.self.inside.needers) c.self.inside.living c.self.inside.waiting _ c.args.name (record { name = c.args.name; mode = stands.Runs; value = c.args.value }) c.self.invariant.0
          (no_place c.self.inside.slots.items (slot_in c.self.inside.by_name) c.args.name c.self.invariant.0.placed (ap (λ s. value_of equal_thread s.living c.args.name) c.self.view_is ∙ c.requires.new)) refl refl
          (pushed _ _ _ _ _ c.push_reserved.ensures.items c.make_room.ensures.items c.in_ok-held.ensures)
          (λ k. c.in_ok-enqueue.ensures.named k ∙ ap (λ i. with_slot (slot_in c.self.inside.by_name) c.args.name (Some i) k) slot)
          (c.in_ok-enqueue.ensures.queue ∙ ap (λ i. c.self.inside.queue ++ i ∷ []) slot) refl,
      ordered_born c.self.inside.slots.items c.push_reserved.new.self.items c.self.inside.queue c.enqueue.new.queue (record { name = c.args.name; mode = stands.Runs; value = c.args.value }) c.self.invariant.1 c.self.invariant.0.inside refl
          (pushed _ _ _ _ _ c.push_reserved.ensures.items c.make_room.ensures.items c.in_ok-held.ensures)
          (c.in_ok-enqueue.ensures.queue ∙ ap (λ i. c.self.inside.queue ++ i ∷ []) slot),
    )

pub returns-clause-living : goal.returns-clause-living
returns-clause-living g c =
    born_view c.self.inside.slots.items c.push_reserved.new.self.items (record { name = c.args.name; mode = stands.Runs; value = c.args.value })
    (pushed _ _ _ _ _ c.push_reserved.ensures.items c.make_room.ensures.items c.in_ok-held.ensures)
    ∙ ap (λ s. (c.args.name, (c.args.value, stands.Runs)) ∷ s.living) c.self.view_is

pub returns-clause-ended : goal.returns-clause-ended
returns-clause-ended g c =
    ended_born c.self.inside.slots.items c.push_reserved.new.self.items (record { name = c.args.name; mode = stands.Runs; value = c.args.value })
    (pushed _ _ _ _ _ c.push_reserved.ensures.items c.make_room.ensures.items c.in_ok-held.ensures)
    ∙ ap (λ s. s.ended) c.self.view_is

pub returns-clause-order : goal.returns-clause-order
returns-clause-order g c =
    let slot = c.len-slot.ensures ∙ c.self.inside.slots.ok.0 in
    order_born c.self.inside.slots.items c.push_reserved.new.self.items (record { name = c.args.name; mode = stands.Runs; value = c.args.value }) c.self.inside.queue c.enqueue.new.queue
    (pushed _ _ _ _ _ c.push_reserved.ensures.items c.make_room.ensures.items c.in_ok-held.ensures)
    (c.in_ok-enqueue.ensures.queue ∙ ap (λ i. c.self.inside.queue ++ i ∷ []) slot) c.self.invariant.0.inside
    ∙ ap (λ s. s.order ++ c.args.name ∷ []) c.self.view_is
