use Rattle.std.proofs.Common.{◌↔◌, List, IsTrue, sym, subst}
use Rattle.tree_node.specs.declared.node.Feature.{Feature}
use Rattle.tree_node.specs.Node.{AreAscending}
use Rattle.kernel_syntax.proofs.Elements.{first_others}
use Rattle.kernel_syntax.proofs.limits.+are_ascending.Goals as goal

pub returns-then-is_below_all : goal.returns-then-is_below_all
returns-then-is_below_all t c =
    let is = first_others c.args.features.now c.first-item.result c.in-len1-up.len_at_least c.first-item.is in
    subst (λ (fs : List Feature). IsTrue c.are_ascending.result ↔ AreAscending fs) (sym is)
    (λ e. (c.is_below_all.ensures.0 c.if-is_below_all.true, c.are_ascending.ensures.0 e), λ h. c.are_ascending.ensures.1 h.1)

pub returns-else-is_below_all : goal.returns-else-is_below_all
returns-else-is_below_all t c =
    let is = first_others c.args.features.now c.first-item.result c.in-len1-up.len_at_least c.first-item.is in
    subst (λ (fs : List Feature). IsTrue c.is_below_all.result ↔ AreAscending fs) (sym is)
    (λ e. let no = c.if-is_below_all.false in absurd cc, λ h. c.is_below_all.ensures.1 h.0)
