use Rattle.std.proofs.Common.{◌≡◌, ◌++◌, drop, map}
use Rattle.tree_node.specs.Each.{Each}
use Rattle.central_machine.specs.Getters.{names_of}
use Rattle.run_trace.specs.declared.findings.Waiting.{Waiting}
use Rattle.run_trace.specs.Waits.{IsWaitingAt}
use Rattle.run_trace.proofs.WaitLemmas.{Lives}
use Rattle.run_trace.proofs.trace.Trace.waiting.Given as goal

abbrev pub invariant-loop-thread : goal.invariant-loop-thread
invariant-loop-thread l = record {
  threads : map (λ (w : Waiting). w.begun.thread) l.waiting.items ++ drop l.thread-index l.names ≡ names_of l.self.state.threads;
  living : Each (Lives l.self.state.threads) (drop l.thread-index l.names);
  each : Each (IsWaitingAt l.self.program l.self.picks l.self.state) l.waiting.items;
}
