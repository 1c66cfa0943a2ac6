-- Runs of the centralised machine, one behind another.
use Rattle.std.proofs.Common.{subst, List, [], ◌∷◌, ◌++◌}
use Rattle.tree_node.specs.declared.pick.Pick.{Pick}
use Rattle.tree_node.specs.State.{State}
use Rattle.kernel_syntax.specs.declared.stmt.Stmt.{Stmt}
use Rattle.oz_model.specs.Run.{IsRun}

pub runs_append : (p : List Stmt) (ks ls : List Pick) (s t u : State) → IsRun p s ks t → IsRun p t ls u → IsRun p s (ks ++ ls) u
runs_append p [] ls s t u h g = subst (λ (x : State). IsRun p x ls u) h g
runs_append p (k ∷ ks) ls s t u (m, step, rest) g = (m, step, runs_append p ks ls m t u rest g)
