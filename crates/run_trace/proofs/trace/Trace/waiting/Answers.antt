use Rattle.std.proofs.Common.{◌≡◌, ◌∙◌, ◌++◌, sym, ap, subst, List, map}
use Rattle.tree_node.specs.declared.names.ThreadName.{ThreadName}
use Rattle.tree_node.specs.Each.{Each}
use Rattle.central_machine.specs.Centre.{Centre}
use Rattle.central_machine.specs.Getters.{names_of}
use Rattle.run_trace.specs.declared.findings.Waiting.{Waiting}
use Rattle.run_trace.specs.Waits.{IsWaitingAt}
use Rattle.run_trace.proofs.WaitLemmas.{Lives, names_live}
use Rattle.run_trace.proofs.trace.Trace.waiting.Goals as goal

pub loop-thread-init : goal.loop-thread-init
loop-thread-init c =
    let names : c.as_slice-names.result.now ≡ names_of c.args.self.now.state.threads =
    c.as_slice-names.ensures.value ∙ (c.in_ok-living.ensures ∙ ap (λ (v : Centre). names_of v.state.threads) c.self.view_is) in
    record {
      threads = ap (λ (ws : List Waiting). map (λ (w : Waiting). w.begun.thread) ws ++ c.as_slice-names.result.now) c.new-waiting.ensures.items ∙ names;
      living = subst (λ (l : List ThreadName). Each (Lives c.args.self.now.state.threads) l) (sym names) (names_live c.args.self.now.state.threads);
      each = subst (λ (ws : List Waiting). Each (IsWaitingAt c.args.self.now.program c.args.self.now.picks c.args.self.now.state) ws) (sym c.new-waiting.ensures.items) tt;
    }
