use Rattle.tree_store.proofs.links.Links.add.Goals as goal

pub returns-in-Var-clause-ok : goal.returns-in-Var-clause-ok
returns-in-Var-clause-ok c = rw c.in-Var.is c.union.ensures.ok
