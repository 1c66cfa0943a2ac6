-- How many messages a run sends at most.
use Rattle.std.specs.Prelude.{◌≡◌, ℕ, ◌+◌, ◌*◌, ◌≤◌, List, [], ◌∷◌, length, Bool, true, false, Option, Some, None}
use Rattle.tree_node.specs.declared.limits.TheConstants.{MOST_SITES}
use Rattle.tree_node.specs.declared.names.VarName.{VarName}
use Rattle.tree_node.specs.declared.names.CellName.{CellName}
use Rattle.tree_node.specs.State.{State}
use Rattle.site_message.specs.declared.message.Msg.{Msg}
use Rattle.site_message.specs.declared.message.Msg.TheVariants as msg
use Rattle.tree_node.specs.declared.pick.Pick.{Pick}
use Rattle.oz_model.specs.Run.{Run, exchanges, start}
use Rattle.std.specs.List.{count_by}
use Rattle.kernel_syntax.specs.declared.stmt.Stmt.{Stmt}
use Rattle.kernel_syntax.specs.Program.{IsProgram}
use Rattle.site_message.specs.declared.message.Sent.{Sent}
use Rattle.site_message.specs.declared.turn.Turn.{Turn}
use Rattle.site_message.specs.Journal.{sent_of, travelling}
use Rattle.site_model.specs.Site.{Site}
use Rattle.site_model.specs.Run.{WorldRun}
use Rattle.world_model.specs.Schedule.{schedule}
use Rattle.world_messages.specs.BindRequests.{requests}
use Rattle.world_model.specs.Chain.{mobile_cells}
use Rattle.world_answers.specs.AnswerCounts.{sends_made, placed_exchanges, placed_cells}
use Rattle.world_cells.specs.CellCounts.{IsTallied}
use Rattle.tree_node.specs.declared.names.ThreadName.{ThreadName}
use Rattle.tree_node.specs.Assoc.{value_of}
use Rattle.tree_node.specs.Goal.{equal_cell}
use Rattle.world_messages.specs.Messages.{threads_made, variable_messages, spawns, asks_to_know, tells_binding, asks_to_bind}

-- the messages that are not a cell's are at most `variable_messages` of the schedule
abbrev pub MessagesAreFew : Type 0
MessagesAreFew =
    (p : List Stmt) (n limit : ℕ) (j : List Turn) (w : ℕ → Site) → IsProgram p → 1 ≤ n → n ≤ MOST_SITES → limit ≤ 256 → WorldRun p n limit j w →
    count_by spawns (sent_of j) + count_by asks_to_know (sent_of j) + count_by tells_binding (sent_of j) + count_by asks_to_bind (sent_of j)
    ≤ variable_messages n (schedule j)

-- no thread sends two requests to bind one variable
abbrev pub RequestsAreSingle : Type 0
RequestsAreSingle =
    (p : List Stmt) (n limit : ℕ) (j : List Turn) (w : ℕ → Site) → IsProgram p → 1 ≤ n → n ≤ MOST_SITES → limit ≤ 256 → WorldRun p n limit j w →
    (th : ThreadName) (x : VarName) → requests th x (sent_of j) ≤ 1

-- of each mobile cell, over all sites, no more Gets and no more Forwards were sent than there were exchanges and are outstanding
-- requests, and no more Puts than exchanges and one
abbrev pub CellRequestsArePaid : Type 0
CellRequestsArePaid =
    (p : List Stmt) (n limit : ℕ) (j : List Turn) (w : ℕ → Site) → IsProgram p → 1 ≤ n → n ≤ MOST_SITES → limit ≤ 256 → WorldRun p n limit j w →
    (s : State) × Run p (schedule j) s
    × ((c : CellName) (v : VarName) → value_of equal_cell (mobile_cells s.cells) c ≡ Some v → IsTallied n w (travelling j) (sent_of j) c (length (exchanges p (schedule j) c)))

-- the cell that a message is about
abbrev pub cell_of : Msg → Option CellName
cell_of (msg.Get c k) = Some c
cell_of (msg.Forward c k) = Some c
cell_of (msg.Put c v bundle) = Some c
cell_of _ = None

-- what f gives for each of the cells, together
abbrev pub sum_over : (CellName → ℕ) → List (CellName × VarName) → ℕ
sum_over f [] = 0
sum_over f (c ∷ cs) = f c.0 + sum_over f cs

-- a request to the owner of a port or to the home of a stationary cell, an answer, or what tells a home of a cell
abbrev pub is_of_answers : Sent → Bool
is_of_answers m = is m.msg
  where
    is : Msg → Bool
    is (msg.PortSend q n k) = true
    is (msg.PortEnd n old new bundle) = true
    is (msg.CellMake c v bundle) = true
    is (msg.CellAsk c n k v bundle) = true
    is (msg.CellOld n v bundle) = true
    is _ = false

-- two for each send and for each exchange of a stationary cell, one for each such cell made, and one for each thread, which asks again only
-- once it was answered
abbrev pub answer_messages : List Stmt → List Pick → ℕ
answer_messages p picks =
    2 * sends_made p (start p) picks + placed_cells p (start p) picks + 2 * placed_exchanges p (start p) picks + length (threads_made picks)

-- those of ports and of stationary cells are at most so many
abbrev pub AnswerMessagesAreFew : Type 0
AnswerMessagesAreFew =
    (p : List Stmt) (n limit : ℕ) (j : List Turn) (w : ℕ → Site) → IsProgram p → 1 ≤ n → n ≤ MOST_SITES → limit ≤ 256 → WorldRun p n limit j w →
    count_by is_of_answers (sent_of j) ≤ answer_messages p (schedule j)

-- and all messages are at most these and, for each mobile cell that the machine has then, three for each of its exchanges and each
-- site
abbrev pub AllMessagesAreFew : Type 0
AllMessagesAreFew =
    (p : List Stmt) (n limit : ℕ) (j : List Turn) (w : ℕ → Site) → IsProgram p → 1 ≤ n → n ≤ MOST_SITES → limit ≤ 256 → WorldRun p n limit j w →
    (s : State) × Run p (schedule j) s
    × (length (sent_of j) ≤ variable_messages n (schedule j) + answer_messages p (schedule j) + sum_over (λ c. 3 * (length (exchanges p (schedule j) c) + n)) (mobile_cells s.cells))
