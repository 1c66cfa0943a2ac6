use Rattle.tree_store.proofs.front.resume.Given as goal

abbrev pub ghost-pass_matched : goal.ghost-pass_matched
ghost-pass_matched g a = g.sides

abbrev pub ghost-search_on : goal.ghost-search_on
ghost-search_on g a = g.sides
