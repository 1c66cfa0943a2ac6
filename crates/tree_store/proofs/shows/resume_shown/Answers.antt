use Rattle.tree_store.proofs.shows.resume_shown.Goals as goal

pub end_from-requires-in-None : goal.end_from-requires-in-None
end_from-requires-in-None c = c.begin_shown.ensures c.args.store.now.equations
