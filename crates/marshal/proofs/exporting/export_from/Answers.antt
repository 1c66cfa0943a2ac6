use Rattle.std.proofs.Common.{◌≡◌, ◌∙◌, ◌≤◌, ap, sym, subst, List, length}
use Rattle.tree_node.specs.declared.names.VarName.{VarName}
use Rattle.tree_node.specs.Each.{Each}
use Rattle.tree_node.specs.Store.{Equation}
use Rattle.site_model.specs.Bundle.{bundle_from}
use Rattle.site_model.proofs.AscendingLemmas.{bundles_are_ordered}
use Rattle.marshal.specs.Marshal.{IsReachedEquation}
use Rattle.marshal.proofs.ExportLemmas.{bundle_reached}
use Rattle.marshal.proofs.exporting.export_from.Goals as goal

pub returns-clause-few : goal.returns-clause-few
returns-clause-few c =
    let made : c.in_ok-bundle.bundle ≡ bundle_from c.args.limit c.args.store.now.equations c.args.vars.now =
    c.in_ok-bundle.ensures.same ∙ (c.into_vec.ensures.items ∙ (c.in_ok-gather.ensures ∙ ap (λ (xs : List VarName). bundle_from c.args.limit c.args.store.now.equations xs) c.in_ok-queue.ensures.items)) in
    subst (λ (es : List Equation). length es ≤ c.args.limit) (sym made) (bundles_are_ordered c.args.limit c.args.store.now.equations c.args.vars.now).0

pub returns-clause-reached : goal.returns-clause-reached
returns-clause-reached c =
    let made : c.in_ok-bundle.bundle ≡ bundle_from c.args.limit c.args.store.now.equations c.args.vars.now =
    c.in_ok-bundle.ensures.same ∙ (c.into_vec.ensures.items ∙ (c.in_ok-gather.ensures ∙ ap (λ (xs : List VarName). bundle_from c.args.limit c.args.store.now.equations xs) c.in_ok-queue.ensures.items)) in
    subst (λ (es : List Equation). Each (IsReachedEquation c.args.store.now.equations c.args.vars.now) es) (sym made) (bundle_reached c.args.store.now.equations c.args.vars.now c.args.limit)
