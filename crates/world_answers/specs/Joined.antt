-- A world that was reached, where threads may wait for answers.
use Rattle.std.specs.Prelude.{ℕ, List}
use Rattle.tree_node.specs.declared.pick.Pick.{Pick}
use Rattle.tree_node.specs.Each.{AreDistinct}
use Rattle.kernel_syntax.specs.declared.stmt.Stmt.{Stmt}
use Rattle.site_model.specs.Site.{Threads}
use Rattle.world_model.specs.Keepers.{AnswersMatch}
use Rattle.world_model.specs.Shown.{shown_world}
use Rattle.world_model.specs.World.{World, threads}
use Rattle.world_variables.specs.Sums.{names}
use Rattle.world_cells.specs.Reached.{Reached}

-- these picks are a run of the machine to a state that the sites match, where these threads wait for answers and the ends of ports and the contents
-- of stationary cells are kept; and each site has a thread once
pub record Joined (p : List Stmt) (w : World) (ks : List Pick) : Type 0 where
  pub transit : Threads
  pub reached : Reached p (shown_world w transit) ks
  pub answers : AnswersMatch p w transit reached.centre
  pub once : (i : ℕ) → AreDistinct (names (threads w.sites i))
