use Rattle.tree_store.proofs.FrontLemmas.{front_begins}
use Rattle.tree_store.proofs.front.begin.Goals as goal

pub returns : goal.returns
returns c =
    front_begins c.args.store.now.equations (c.args.left, c.args.right) c.truncate.new.self c.insert.new.self c.class_of.result c.class_of-2.result c.truncate.ensures
    c.class_of.ensures c.class_of-2.ensures c.in_ok-insert.ensures.ok
