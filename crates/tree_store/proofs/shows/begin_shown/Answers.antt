use Rattle.tree_store.proofs.ShowLemmas.{front_begins}
use Rattle.tree_store.proofs.shows.begin_shown.Goals as goal

pub returns : goal.returns
returns c = λ s. front_begins c.args.nodes c.args.var s c.new.result.items c.new.ensures.items
