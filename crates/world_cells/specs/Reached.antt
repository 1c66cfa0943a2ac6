-- A world that was reached: the machine made a run to a state that it matches.
use Rattle.std.specs.Prelude.{◌≡◌, ◌≢◌, List}
use Rattle.tree_node.specs.declared.names.CellName.{CellName}
use Rattle.tree_node.specs.declared.pick.Pick.{Pick}
use Rattle.tree_node.specs.Assoc.{value_of}
use Rattle.tree_node.specs.Goal.{equal_cell}
use Rattle.tree_node.specs.State.{State}
use Rattle.kernel_syntax.specs.declared.stmt.Stmt.{Stmt}
use Rattle.oz_model.specs.Run.{Run}
use Rattle.world_model.specs.Matches.{IsNumbered, CellsMatch}
use Rattle.world_model.specs.Names.{here_at}
use Rattle.world_model.specs.World.{World, records}
use Rattle.world_variables.specs.Laws.{PartsIn}
use Rattle.world_variables.specs.Sums.{Sums}

-- these picks are a run of the machine to a state that the world matches, with its mobile cells, lines and ended threads
pub record Reached (p : List Stmt) (w : World) (ks : List Pick) : Type 0 where
  pub centre : State
  pub run : Run p ks centre
  pub parts : PartsIn p (here_at (records w.sites)) w centre
  pub numbers : IsNumbered w.sent w.mail
  pub cells : CellsMatch w centre
  pub sums : Sums w.sites w.lines centre

-- the machine has the same ports, and its stationary cells have the same contents
pub record KeepsAnswers (c z : State) : Type 0 where
  pub ports : z.ports ≡ c.ports
  pub stationary : (d : CellName) → d.at ≢ 0 → value_of equal_cell z.cells d ≡ value_of equal_cell c.cells d

-- the world was reached, from this state of the machine on, with the same ports and stationary cells
abbrev pub ReachedFrom : List Stmt → State → World → List Pick → Type 0
ReachedFrom p c w ks = (r : Reached p w ks) × KeepsAnswers c r.centre
