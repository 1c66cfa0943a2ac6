-- The simulation: every run of sites is a run of the centralised machine.
use Rattle.std.specs.Prelude.{ℕ, ◌+◌, ◌*◌, ◌≤◌, List, length}
use Rattle.tree_node.specs.declared.limits.TheConstants.{MOST_SITES}
use Rattle.tree_node.specs.declared.names.CellName.{CellName}
use Rattle.tree_node.specs.State.{State}
use Rattle.kernel_syntax.specs.declared.stmt.Stmt.{Stmt}
use Rattle.kernel_syntax.specs.Program.{IsProgram}
use Rattle.site_message.specs.declared.turn.Turn.{Turn}
use Rattle.site_message.specs.Journal.{sent_of}
use Rattle.oz_model.specs.Run.{exchanges}
use Rattle.site_model.specs.Site.{Site}
use Rattle.site_model.specs.Run.{WorldRun}
use Rattle.world_model.specs.Schedule.{schedule}
use Rattle.world_model.specs.Simulated.{IsSimulated}
use Rattle.world_messages.specs.Unfit.{MessagesAreFit}
use Rattle.world_cells.specs.CellCounts.{cell_weights}
use Rattle.world_answers.specs.FitRuns.{SiteFitRun}

-- for every program, every number of sites from 1 to 64, every limit of bundles that a message can be spelled with, and every
-- run of them, whatever the order of turns and deliveries:
-- there is a state of the centralised machine to which the journal's picks lead and which the sites match, and each message
-- that travels is fit for its site
abbrev pub EveryRunIsSimulated : Type 0
EveryRunIsSimulated =
    (p : List Stmt) (n limit : ℕ) (j : List Turn) (w : ℕ → Site) → IsProgram p → 1 ≤ n → n ≤ MOST_SITES → limit ≤ 256 → WorldRun p n limit j w →
    (s : State) × IsSimulated p n j w s × MessagesAreFit p n j w

-- and no message that was delivered was unfit: each state is reached by turns whose messages were fit for the site before them
abbrev pub DeliveredMessagesAreFit : Type 0
DeliveredMessagesAreFit =
    (p : List Stmt) (n limit : ℕ) (j : List Turn) (w : ℕ → Site) → IsProgram p → 1 ≤ n → n ≤ MOST_SITES → limit ≤ 256 → WorldRun p n limit j w →
    (i : ℕ) → SiteFitRun p n limit i j (w i)

-- the messages of a cell are at most three for each of its exchanges and each site
abbrev pub CellMessagesAreFew : Type 0
CellMessagesAreFew =
    (p : List Stmt) (n limit : ℕ) (j : List Turn) (w : ℕ → Site) (c : CellName) → IsProgram p → 1 ≤ n → n ≤ MOST_SITES → limit ≤ 256 → WorldRun p n limit j w →
    cell_weights c 1 1 1 (sent_of j) ≤ 3 * (length (exchanges p (schedule j) c) + n)
