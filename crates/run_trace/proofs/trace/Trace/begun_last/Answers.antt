use Rattle.std.proofs.Common.{sym, subst, IsSome}
use Rattle.tree_node.specs.Assoc.{value_of}
use Rattle.tree_node.specs.State.{equal_thread}
use Rattle.central_machine.specs.Centre.{Centre}
use Rattle.run_trace.proofs.TraceLemmas.{begun_there}
use Rattle.run_trace.proofs.trace.Trace.begun_last.Goals as goal

pub unreachable-requires : goal.unreachable-requires
unreachable-requires c =
    begun_there c.self.inside.central c.self.inside.last c.self.inside.notes.raises.items c.self.inside.notes.births.items c.args.thread c.in_ok-begun.field-0 c.in_ok-begun-2.field-0
    (c.self.invariant.1 c.if-self.false) c.is_run.ensures.run
    (subst (λ (v : Centre). IsSome (value_of equal_thread v.state.threads c.args.thread)) (sym c.self.view_is) c.requires.lives)
    c.in_ok-begun.ensures c.in_default.not-Some c.in-None.is c.in_ok-begun-2.ensures
