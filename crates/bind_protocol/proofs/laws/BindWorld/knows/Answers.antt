use Rattle.std.proofs.Common.{subst}
use Rattle.std.specs.Prelude.{Option}
use Rattle.tree_node.specs.declared.node.Term.{Term}
use Rattle.bind_protocol.specs.Records.{IsKnowledge}
use Rattle.bind_protocol.proofs.CodeLemmas.{lent_knows}
use Rattle.bind_protocol.proofs.laws.BindWorld.knows.Goals as goal

pub returns : goal.returns
returns c =
    subst (λ (k : Option (Option Term)). IsKnowledge k c.knows.result)
    (lent_knows _ c.args.self.now c.args.site c.index.result.now c.self.view_is c.self.invariant c.requires c.index.ensures c.args.var)
    c.knows.ensures
