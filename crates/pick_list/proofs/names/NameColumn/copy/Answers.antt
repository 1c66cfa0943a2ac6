use Rattle.std.proofs.Common.{◌≡◌, ◌∙◌, sym, ap, subst, List, length}
use Rattle.std.specs.Prelude.{reverse}
use Rattle.tree_node.specs.Each.{Each}
use Rattle.pick_list.specs.Names.{names_in, IsRun}
use Rattle.pick_list.specs.declared.names.NameRun.{NameRun}
use Rattle.pick_list.proofs.names.NameColumn.copy.Goals as goal

pub returns : goal.returns
returns c = ap (λ (rs : List NameRun). names_in (reverse rs)) (c.in_ok-runs.ensures.items ∙ c.as_slice.ensures.value) ∙ c.self.view_is

pub invariant_of-result : goal.invariant_of-result
invariant_of-result c =
    let same : c.in_ok-runs.runs.items ≡ c.self.inside.runs.items = c.in_ok-runs.ensures.items ∙ c.as_slice.ensures.value in (
      subst (λ (rs : List NameRun). Each IsRun (reverse rs)) (sym same) c.self.invariant.0,
      c.self.invariant.1 ∙ ap (λ (rs : List NameRun). length (names_in (reverse rs))) (sym same),
      c.self.invariant.2,
    )
