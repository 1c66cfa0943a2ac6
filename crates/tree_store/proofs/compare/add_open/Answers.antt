use Rattle.tree_store.proofs.SearchLemmas.{one_open}
use Rattle.tree_store.proofs.compare.add_open.Goals as goal

pub returns-in_ok-insert-in-Unbound : goal.returns-in_ok-insert-in-Unbound
returns-in_ok-insert-in-Unbound c =
    one_open c.args.store.now.equations c.args.open_vars.now c.insert.new.self c.args.var c.requires c.in-Unbound.ensures.0.1 c.in_ok-insert-in-Unbound.ensures.ok
