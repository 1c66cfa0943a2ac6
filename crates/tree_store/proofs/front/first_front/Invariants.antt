use Rattle.tree_store.proofs.front.first_front.Given as goal

abbrev pub ghost-pass_matched : goal.ghost-pass_matched
ghost-pass_matched g a = g.sides
