-- What is said of the journal of every call besides.
use Rattle.std.specs.Prelude.{◌≡◌, ◌≤◌, ◌⊎◌, ℕ, List, [], length}
use Rattle.tree_node.specs.declared.names.CellName.{CellName}
use Rattle.tree_node.specs.declared.pick.Pick.{Pick}
use Rattle.tree_node.specs.State.{State}
use Rattle.oz_model.specs.Run.{Run}
use Rattle.site_message.specs.Journal.{sent_of}
use Rattle.site_message.specs.declared.turn.Turn.{Turn}
use Rattle.site_model.specs.Bundle.{bundle_limit}
use Rattle.site_model.specs.Site.{Site, cell_record}
use Rattle.world_journals.specs.Homes.{AreHomesAsked}
use Rattle.world_journals.specs.Places.{ThreadsStayHome}
use Rattle.world_journals.specs.Requests.{AreRequestsServed}
use Rattle.world_simulation.specs.Distributed.{DistributedRun}
use Rattle.oz_runner.specs.Cause.{HasProgram}
use Rattle.oz_runner.specs.Cells.{AreExchangesChained, AreSendsChained}
use Rattle.oz_runner.specs.Messages.{most_messages}
use Rattle.oz_runner.specs.OzCall.{OzCall}

-- there is no turn, or no more messages were sent than the threads, variables and exchanges of the schedule allow, of a program that
-- the text reads
abbrev pub AreMessagesBounded : OzCall → List Turn → List Pick → Type 0
AreMessagesBounded seen j picks =
    (j ≡ [])
    ⊎ ((given : HasProgram seen) × (s : State) × Run given.program picks s
    × (length (sent_of j) ≤ most_messages given.program given.options.sites picks s))

-- there is no turn, or the journal is one of that program over its sites, and leads to states of them in which each request for the
-- token of a cell was followed by an exchange, or is outstanding
abbrev pub AreTokensServed : OzCall → List Turn → Type 0
AreTokensServed seen j =
    (j ≡ [])
    ⊎ ((given : HasProgram seen) × (states : ℕ → Site) × DistributedRun given.program given.options.sites bundle_limit j states
    × ((c : CellName) (i : ℕ) → AreRequestsServed given.program c i j (cell_record (states i) c).held.token))

-- there is no turn, or the journal is one of that program over its sites, and leads to states of them in which each exchange of a stationary
-- cell for a thread of another site has one request and one answer, and each request was followed by an exchange or is outstanding
abbrev pub AreExchangesAsked : OzCall → List Turn → Type 0
AreExchangesAsked seen j =
    (j ≡ [])
    ⊎ ((given : HasProgram seen) × (states : ℕ → Site) × DistributedRun given.program given.options.sites bundle_limit j states
    × AreHomesAsked given.program j states)

-- each own step of a thread is of the site where the thread was placed; the sites sent few messages, and their requests are served, those
-- to the homes of stationary cells too; the exchanges of each cell are one chain, and so are the sends to each port
pub record IsAccounted (seen : OzCall) (j : List Turn) (picks : List Pick) : Type 0 where
  pub homes : ThreadsStayHome j
  pub few : AreMessagesBounded seen j picks
  pub served : AreTokensServed seen j
  pub asked : AreExchangesAsked seen j
  pub chains : AreExchangesChained picks
  pub sends : AreSendsChained picks
