use Rattle.tree_store.proofs.shows.end_from.Given as goal

abbrev pub ghost-show_on : goal.ghost-show_on
ghost-show_on a = (1000, a.var)
