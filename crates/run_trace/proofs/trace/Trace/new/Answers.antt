use Rattle.run_trace.proofs.TraceLemmas.{new_traced}
use Rattle.run_trace.proofs.trace.Trace.new.Goals as goal

pub invariant_of-result : goal.invariant_of-result
invariant_of-result c =
    new_traced c.args.program.now c.in_ok-new.field-0 c.new-2.result c.new-3.result.raises.items c.new-3.result.births.items
    c.in_ok-new.ensures.program c.in_ok-new.ensures.picks c.in_ok-new.ensures.spent c.new-2.ensures c.new-3.ensures.raises c.new-3.ensures.births
