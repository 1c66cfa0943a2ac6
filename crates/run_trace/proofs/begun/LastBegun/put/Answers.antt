use Rattle.std.proofs.Common.{◌∙◌, ap, List, cond, Some}
use Rattle.tree_node.specs.declared.names.ThreadName.{ThreadName}
use Rattle.tree_node.specs.State.{equal_thread}
use Rattle.run_trace.specs.declared.findings.Begun.{Begun}
use Rattle.run_trace.specs.Kept.{entry_of}
use Rattle.run_trace.proofs.begun.LastBegun.put.Goals as goal

pub returns : goal.returns
returns c =
    λ n. c.in_ok-insert.ensures.updates.0 n
    ∙ ap (λ (es : List (ThreadName × Begun)). cond (equal_thread c.args.begun.thread n) (Some c.args.begun) (entry_of es n)) c.self.view_is
