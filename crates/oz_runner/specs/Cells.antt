-- What is said of the cells and the ports of every call besides.
use Rattle.std.specs.Prelude.{List}
use Rattle.tree_node.specs.declared.names.CellName.{CellName}
use Rattle.tree_node.specs.declared.names.PortName.{PortName}
use Rattle.tree_node.specs.declared.pick.Pick.{Pick}
use Rattle.tree_node.specs.State.{State}
use Rattle.kernel_syntax.specs.declared.stmt.Stmt.{Stmt}
use Rattle.oz_model.specs.Laws.{IsChainOf, IsChainOfEnds}
use Rattle.oz_model.specs.Run.{Run, contents_given, ends_given, exchanges, sends}

-- of whichever program these picks are a run, under them the exchanges of each cell are one chain, from the content given to NewCell or
-- NewCellAt on: each old content is the new one of the exchange before
pub record AreExchangesChained (picks : List Pick) : Type 0 where
  pub chain : (p : List Stmt) (s : State) (c : CellName) → Run p picks s → IsChainOf (contents_given p picks c) (exchanges p picks c)

-- of whichever program these picks are a run, under them the sends to each port are one chain, from the end given to NewPort on: each old
-- end is the new one of the send before
pub record AreSendsChained (picks : List Pick) : Type 0 where
  pub chain : (p : List Stmt) (s : State) (q : PortName) → Run p picks s → IsChainOfEnds (ends_given p picks q) (sends p picks q)
