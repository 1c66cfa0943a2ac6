use Rattle.std.proofs.Common.{◌∙◌, sym, ap, refl, Some}
use Rattle.tree_node.specs.Assoc.{value_of}
use Rattle.tree_node.specs.State.{equal_thread}
use Rattle.thread_roster.specs.Slots.{slot_in}
use Rattle.thread_roster.proofs.SlotLemmas.{at_index}
use Rattle.thread_roster.proofs.ConsistencyLemmas.{kept_value, slot_is, value_is, value_found}
use Rattle.thread_roster.proofs.ViewLemmas.{lent_view}
use Rattle.thread_roster.proofs.QueueLemmas.{ordered_value}
use Rattle.thread_roster.specs.Parking.{keys_for}
use Rattle.thread_roster.proofs.roster.Roster.value_mut.Goals as goal

pub invariant_of-self-lent : goal.invariant_of-self-lent
invariant_of-self-lent g c w =
    let held = c.find-slot.ensures.held in
    let slot =
    slot_is c.self.inside.slots.items c.find-slot.result _ held.0
    (at_index c.self.inside.slots.items c.find-slot.result _ c.find-slot.ensures.inside c.index_mut.ensures.value) held.1 in
    rw slot (
      kept_value c.self.inside.slots.items c.self.inside.by_name c.self.inside.queue (keys_for c.self.inside.waiters c.self.inside.needers) c.self.inside.living c.self.inside.waiting c.args.name c.find-slot.result held.0 w c.self.invariant.0 c.find-slot.ensures.slot held.1 held.2,
      ordered_value c.self.inside.slots.items c.self.inside.queue c.find-slot.result held.0 w c.self.invariant.1 held.1,
    )

pub returns : goal.returns
returns g c =
    let held = c.find-slot.ensures.held in
    let slot =
    slot_is c.self.inside.slots.items c.find-slot.result _ held.0
    (at_index c.self.inside.slots.items c.find-slot.result _ c.find-slot.ensures.inside c.index_mut.ensures.value) held.1 in
    let there =
    value_found c.self.inside.slots.items (slot_in c.self.inside.by_name) c.args.name c.find-slot.result held.0
    c.self.invariant.0.placed c.find-slot.ensures.slot held.1 in (
      (
        refl,
        λ w. lent_view c.args.self.now c.self.inside.slots.items (slot_in c.self.inside.by_name) c.self.inside.queue c.args.name c.find-slot.result _ held.0 w
            c.self.invariant.0.placed c.find-slot.ensures.slot held.1 held.2 slot c.self.view_is,
      ),
      record {
        writes_back = tt;
        value = (
          held.0.mode,
          ap (λ s. value_of equal_thread s.living c.args.name) (sym c.self.view_is) ∙ there ∙ ap (λ v. Some (v, held.0.mode)) (value_is _ held.0 _ slot c.value_in.ensures.value),
        );
      },
    )
