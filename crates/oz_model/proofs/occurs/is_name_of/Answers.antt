use Rattle.std.proofs.Common.{subst, sym, Bool}
use Rattle.std.specs.Prelude.{◌↔◌, IsTrue}
use Rattle.tree_node.specs.Names.{IsNew}
use Rattle.oz_model.proofs.OccursLemmas.{test_tells_occurs}
use Rattle.oz_model.proofs.occurs.is_name_of.Goals as goal

pub returns-clause-occurs : goal.returns-clause-occurs
returns-clause-occurs c =
    subst (λ (b : Bool). IsTrue b ↔ (IsNew c.args.state.now c.args.sought.now → ⊥)) (sym c.in_state.ensures)
    (test_tells_occurs c.args.state.now c.args.sought.now)
