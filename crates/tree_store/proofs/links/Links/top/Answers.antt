use Rattle.tree_store.proofs.LinkLemmas.{way_ends}
use Rattle.tree_store.proofs.links.Links.top.Goals as goal

pub unreachable-requires : goal.unreachable-requires
unreachable-requires c =
    way_ends c.args.self.now c.args.var c.parents.step c.parents.at c.parents.entry c.parents.invariant.0 c.parents.invariant.1 c.parents-test.false c.parents.auto.step-end
