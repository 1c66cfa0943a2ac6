-- What holds of every run of a program on 1 to 64 sites, said of one run.
use Rattle.std.specs.Prelude.{◌≡◌, ℕ, ◌+◌, ◌*◌, ◌≤◌, List, length}
use Rattle.std.specs.List.{count_by}
use Rattle.tree_node.specs.declared.names.CellName.{CellName}
use Rattle.tree_node.specs.declared.names.ThreadName.{ThreadName}
use Rattle.tree_node.specs.declared.names.VarName.{VarName}
use Rattle.tree_node.specs.State.{State}
use Rattle.kernel_syntax.specs.declared.stmt.Stmt.{Stmt}
use Rattle.site_message.specs.declared.turn.Turn.{Turn}
use Rattle.site_message.specs.Journal.{sent_of}
use Rattle.oz_model.specs.Run.{Run, exchanges}
use Rattle.bind_protocol.specs.Lawful.{register_count, binding_count}
use Rattle.site_model.specs.Bundle.{bundle_limit}
use Rattle.site_model.specs.Site.{Site, cell_record}
use Rattle.site_model.specs.Run.{WorldRun}
use Rattle.world_model.specs.Chain.{mobile_cells}
use Rattle.world_model.specs.Schedule.{schedule}
use Rattle.world_model.specs.Simulated.{IsSimulated, IsAtRest}
use Rattle.world_messages.specs.BindRequests.{requests}
use Rattle.world_messages.specs.Messages.{variable_messages, spawns, asks_to_know, tells_binding, asks_to_bind}
use Rattle.world_cells.specs.CellCounts.{cell_weights}
use Rattle.world_answers.specs.FitRuns.{SiteFitRun}
use Rattle.world_journals.specs.Requests.{AreRequestsServed}
use Rattle.world_simulation.specs.Answers.{PortsHold, HomesHold}
use Rattle.world_simulation.specs.Messages.{sum_over, is_of_answers, answer_messages}

-- the journal is one of a run of the program on so many sites
abbrev pub HasRun : List Stmt → ℕ → List Turn → Type 0
HasRun p n j = (w : ℕ → Site) × WorldRun p n bundle_limit j w

-- the picks of the journal lead the centralised machine to a state that the sites match
abbrev pub HasMachine : List Stmt → ℕ → List Turn → (ℕ → Site) → Type 0
HasMachine p n j w = (s : State) × IsSimulated p n j w s

-- and the machine rests there, with the threads that ended and wait at the sites
abbrev pub HasMachineAtRest : List Stmt → ℕ → List Turn → (ℕ → Site) → Type 0
HasMachineAtRest p n j w = (s : State) × IsSimulated p n j w s × IsAtRest p n w s

-- in the state that the picks lead to, what the sites keep and send of ports and of stationary cells is right
abbrev pub HoldAnswers : List Stmt → List Turn → (ℕ → Site) → Type 0
HoldAnswers p j w = (s : State) × Run p (schedule j) s × PortsHold p j w s × HomesHold j w s

-- no message that was delivered was unfit
abbrev pub WereFit : List Stmt → ℕ → List Turn → (ℕ → Site) → Type 0
WereFit p n j w = (i : ℕ) → SiteFitRun p n bundle_limit i j (w i)

-- the journal leads to states of the sites in which each request for the token of a cell was followed by an exchange at the site that
-- asked, or is outstanding
abbrev pub AreAllServed : List Stmt → ℕ → List Turn → Type 0
AreAllServed p n j =
    (w : ℕ → Site) × WorldRun p n bundle_limit j w × ((c : CellName) (i : ℕ) → AreRequestsServed p c i j (cell_record (w i) c).held.token)

-- each site sends at most one Register for a variable and is sent at most one Binding, and none for its own; no thread asks
-- twice to bind a variable. The messages on variables and threads are at most `variable_messages` of the schedule, those of a
-- cell that moves three for each of its exchanges and each site, those of ports and of stationary cells `answer_messages`, and all
-- messages at most these together. And each request for a token is served
pub record AreMessagesFew (p : List Stmt) (n : ℕ) (j : List Turn) : Type 0 where
  pub once : (i : ℕ) (x : VarName) → (register_count x i (sent_of j) ≤ 1) × (binding_count x i (sent_of j) ≤ 1)
  pub own : (i : ℕ) (x : VarName) → i ≡ x.site → (register_count x i (sent_of j) ≡ 0) × (binding_count x i (sent_of j) ≡ 0)
  pub single : (th : ThreadName) (x : VarName) → requests th x (sent_of j) ≤ 1
  pub variables : count_by spawns (sent_of j) + count_by asks_to_know (sent_of j) + count_by tells_binding (sent_of j) + count_by asks_to_bind (sent_of j) ≤ variable_messages n (schedule j)
  pub cells : (c : CellName) → cell_weights c 1 1 1 (sent_of j) ≤ 3 * (length (exchanges p (schedule j) c) + n)
  pub answers : count_by is_of_answers (sent_of j) ≤ answer_messages p (schedule j)
  pub all : (s : State) × Run p (schedule j) s
      × (length (sent_of j) ≤ variable_messages n (schedule j) + answer_messages p (schedule j) + sum_over (λ c. 3 * (length (exchanges p (schedule j) c) + n)) (mobile_cells s.cells))
  pub served : AreAllServed p n j
