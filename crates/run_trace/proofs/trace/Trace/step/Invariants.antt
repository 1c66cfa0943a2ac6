use Rattle.run_trace.specs.Begun.{begun}
use Rattle.run_trace.proofs.trace.Trace.step.Given as goal

abbrev pub ghost-begin : goal.ghost-begin
ghost-begin a = begun a.central.now.program a.central.now.picks
