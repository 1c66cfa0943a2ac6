use Rattle.std.proofs.Common.{sym}
use Rattle.tree_store.proofs.shows.end_from.Goals as goal

pub returns-in-Left : goal.returns-in-Left
returns-in-Left c = (_, sym (rw c.in-Left.is at c.in_ok-found.ensures.found))

pub returns-in-Needs : goal.returns-in-Needs
returns-in-Needs c = (sym (rw c.in-Needs.is at c.in_ok-found.ensures.found), rw c.in-Needs.is at c.in_ok-found.ensures.front)
