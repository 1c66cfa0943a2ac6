use Rattle.tree_store.specs.Shows.{IsShownFront}
use Rattle.tree_store.proofs.shows.show_on.Given as goal

abbrev pub invariant-tails : goal.invariant-tails
invariant-tails g l = IsShownFront g.begun.0 g.begun.1 l.store.equations l.front

abbrev pub decreases-tails : goal.decreases-tails
decreases-tails g l = l.front.bounds.depth
