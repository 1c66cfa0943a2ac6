use Rattle.std.proofs.Common.{◌≡◌, take, []}
use Rattle.tree_node.specs.State.{Stack}
use Rattle.thread_roster.specs.Order.{HaveComeBehind}
use Rattle.site_model.specs.Transition.{without_output}
use Rattle.site_model.specs.Variables.{with_known_equations}
use Rattle.site_variables.specs.Variables.{IsLinked, IsGrown, IsVariableRow, parts_of, stacks_of}
use Rattle.site_variables.proofs.variables.Variables.learn_all.Given as goal

abbrev pub invariant-loop-var : goal.invariant-loop-var
invariant-loop-var g l = record {
  done : (f : g.row.V.Denot → Stack) → IsVariableRow (λ s. without_output (with_known_equations s (take l.var-index l.equations))) [] (parts_of l.fn.self (stacks_of f l.fn.threads.living) []) (parts_of l.self (stacks_of f l.threads.living) []);
  ended : l.threads.ended ≡ l.fn.threads.ended;
  order : HaveComeBehind l.fn.threads.order l.threads.order;
  linked : IsLinked l.self;
  grows : IsGrown l.fn.self.store.known l.self.store.known;
  owners : l.self.binder.owners ≡ l.fn.self.binder.owners;
  site : l.self.binder.site ≡ l.fn.self.binder.site;
}
