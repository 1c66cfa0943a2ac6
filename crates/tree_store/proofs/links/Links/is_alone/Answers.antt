use Rattle.tree_store.specs.Links.{entry_in}
use Rattle.tree_store.proofs.LinkLemmas.{alone_is}
use Rattle.tree_store.proofs.links.Links.is_alone.Goals as goal

pub returns : goal.returns
returns c = λ root h. alone_is root (entry_in c.args.self.now) c.top.result c.top.result.parent c.args.var h c.top.ensures.top (c.top.ensures.class root h) c.top.ensures.entry
