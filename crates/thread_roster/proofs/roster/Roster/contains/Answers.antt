use Rattle.std.proofs.Common.{◌∙◌, sym, subst}
use Rattle.std.specs.Prelude.{IsSome}
use Rattle.tree_node.specs.Assoc.{value_of}
use Rattle.tree_node.specs.State.{equal_thread}
use Rattle.thread_roster.specs.Slots.{slot_in}
use Rattle.thread_roster.proofs.ConsistencyLemmas.{lives_there, there_lives}
use Rattle.thread_roster.proofs.roster.Roster.contains.Goals as goal

pub returns : goal.returns
returns g c = (
  λ k. subst (λ s. IsSome (value_of equal_thread s.living c.args.name)) c.self.view_is
      (lives_there c.self.inside.slots.items (slot_in c.self.inside.by_name) c.args.name c.slot_of.result c.self.invariant.0.placed c.slot_of.ensures (sym c.is_some.ensures ∙ k)),
  λ k. c.is_some.ensures
      ∙ there_lives c.self.inside.slots.items (slot_in c.self.inside.by_name) c.args.name c.slot_of.result c.self.invariant.0.placed c.slot_of.ensures
      (subst (λ s. IsSome (value_of equal_thread s.living c.args.name)) (sym c.self.view_is) k),
)
