-- How many messages the sites of a run send at most, counted from its schedule.
use Rattle.std.specs.Prelude.{ℕ, ◌+◌, ◌*◌, List, length}
use Rattle.tree_node.specs.declared.names.CellName.{CellName}
use Rattle.tree_node.specs.declared.pick.Pick.{Pick}
use Rattle.tree_node.specs.State.{State}
use Rattle.kernel_syntax.specs.declared.stmt.Stmt.{Stmt}
use Rattle.oz_model.specs.Run.{exchanges}
use Rattle.world_messages.specs.Messages.{variable_messages}
use Rattle.world_model.specs.Chain.{mobile_cells}
use Rattle.world_simulation.specs.Messages.{sum_over, answer_messages}

-- for a cell that moves: three for each of its exchanges and each site
abbrev pub cell_messages : List Stmt → ℕ → List Pick → CellName → ℕ
cell_messages p n picks cell = 3 * (length (exchanges p picks cell) + n)

-- for variables and threads, for ports and stationary cells, and for the cells of this state that move together
abbrev pub most_messages : List Stmt → ℕ → List Pick → State → ℕ
most_messages p n picks s = variable_messages n picks + answer_messages p picks + sum_over (cell_messages p n picks) (mobile_cells s.cells)
