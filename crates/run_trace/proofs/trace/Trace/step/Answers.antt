use Rattle.std.proofs.Common.{◌∙◌, sym}
use Rattle.run_trace.proofs.TraceLemmas.{step_noted}
use Rattle.run_trace.proofs.trace.Trace.step.Goals as goal
use Rattle.tree_node.proofs.ResultLemmas.{of_made}

pub invariant_of-self-in-Ok : goal.invariant_of-self-in-Ok
invariant_of-self-in-Ok c =
    step_noted c.self.inside.central c.step.new.self c.self.inside.program.now c.args.pick c.self.inside.last c.begin.new.last c.self.inside.notes.raises.items c.note.new.notes.raises.items c.self.inside.notes.births.items c.note.new.notes.births.items
    c.told_by-told.result.before c.told_by-told.result.thread c.told_by-told.result.raised c.told_by-told.result.made c.self.invariant.0 (c.self.invariant.1 c.if-self.false) c.is_run.ensures.run c.in_ok-step.ensures.ok
    (of_made c.begin.result _ (sym c.is_err.ensures.value ∙ c.if-is_err.false) (c.begin.ensures (c.self.invariant.1 c.if-self.false).last))
    c.told_by-told.ensures.before c.told_by-told.ensures.thread c.told_by-told.ensures.raised c.told_by-told.ensures.made c.in-Ok.ensures.raises c.in-Ok.ensures.births
