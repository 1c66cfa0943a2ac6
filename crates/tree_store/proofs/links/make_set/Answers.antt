use Rattle.std.proofs.Common.{◌∙◌, sym, ap}
use Rattle.indexmap.proofs.CallerLemmas.{insert_entry-new}
use Rattle.tree_node.specs.Store.{equal_var}
use Rattle.tree_store.specs.Links.{ClassEntries, singleton, entry_in}
use Rattle.tree_store.proofs.LinkLemmas.{tree_alone, alone_lookup, alone_stays}
use Rattle.tree_store.proofs.links.make_set.Goals as goal

pub returns-in_ok-insert-in-None-clause-tree : goal.returns-in_ok-insert-in-None-clause-tree
returns-in_ok-insert-in-None-clause-tree c =
    let added = c.in_ok-insert-in-None.ensures.entries ∙ insert_entry-new equal_var c.args.forest.now c.args.var (singleton c.args.var) (sym c.in-None.ensures.value) in
    tree_alone c.args.forest.now.entries c.insert.new.self.entries c.args.var added (sym c.in-None.ensures.value) c.requires

pub returns-in_ok-insert-in-None-clause-same : goal.returns-in_ok-insert-in-None-clause-same
returns-in_ok-insert-in-None-clause-same c y =
    let added = c.in_ok-insert-in-None.ensures.entries ∙ insert_entry-new equal_var c.args.forest.now c.args.var (singleton c.args.var) (sym c.in-None.ensures.value) in
    ap (λ (es : ClassEntries). entry_in es y) added ∙ alone_lookup c.args.forest.now.entries c.args.var y (sym c.in-None.ensures.value)

pub returns-in_ok-insert-in-None-clause-stay : goal.returns-in_ok-insert-in-None-clause-stay
returns-in_ok-insert-in-None-clause-stay c y there =
    let added = c.in_ok-insert-in-None.ensures.entries ∙ insert_entry-new equal_var c.args.forest.now c.args.var (singleton c.args.var) (sym c.in-None.ensures.value) in
    rw added (alone_stays c.args.forest.now.entries c.args.var y there)
