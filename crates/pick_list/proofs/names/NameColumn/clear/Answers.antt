use Rattle.std.proofs.Common.{arith, sym, ap, subst, List, length}
use Rattle.std.specs.Prelude.{reverse}
use Rattle.tree_node.specs.Each.{Each}
use Rattle.pick_list.specs.Names.{names_in, IsRun}
use Rattle.pick_list.specs.declared.names.NameRun.{NameRun}
use Rattle.pick_list.proofs.names.NameColumn.clear.Goals as goal

pub returns : goal.returns
returns c = ap (λ (rs : List NameRun). names_in (reverse rs)) c.clear.ensures.items

pub invariant_of-self : goal.invariant_of-self
invariant_of-self c = (
  subst (λ (rs : List NameRun). Each IsRun (reverse rs)) (sym c.clear.ensures.items) tt,
  sym (ap (λ (rs : List NameRun). length (names_in (reverse rs))) c.clear.ensures.items),
  omega arith,
)
