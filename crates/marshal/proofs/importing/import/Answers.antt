use Rattle.std.proofs.Common.{◌≡◌, ◌∙◌, subst, ap, List, ◌++◌}
use Rattle.tree_node.specs.declared.names.VarName.{VarName}
use Rattle.tree_node.specs.Store.{Equation}
use Rattle.site_model.specs.Bundle.{distinct_vars, vars_of_equations}
use Rattle.marshal.proofs.importing.import.Goals as goal

pub returns-clause-known : goal.returns-clause-known
returns-clause-known c =
    subst (λ (es : List Equation). c.take_all.new.store.known ≡ c.args.store.now.known ++ distinct_vars c.args.store.now.known (vars_of_equations es)) c.as_slice.ensures c.in_ok-take_all.ensures.known.known

pub returns-clause-new : goal.returns-clause-new
returns-clause-new c =
    c.in_ok-vars.ensures ∙ (c.in_ok-take_all.ensures.known.names
    ∙ (ap (λ (ns : List VarName). ns ++ distinct_vars c.args.store.now.known (vars_of_equations c.as_slice.result.now)) c.new-names.ensures.items
    ∙ ap (λ (es : List Equation). distinct_vars c.args.store.now.known (vars_of_equations es)) c.as_slice.ensures))
