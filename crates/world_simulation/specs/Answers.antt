-- What holds of ports, of stationary cells and of the threads that wait for answers, between the entries of every run.
use Rattle.std.specs.Prelude.{◌≡◌, ◌≢◌, ℕ, ◌≤◌, List, map, ◌⊎◌, Some, None, Contains}
use Rattle.std.specs.Map.{lookup}
use Rattle.tree_node.specs.declared.limits.TheConstants.{MOST_SITES}
use Rattle.tree_node.specs.declared.names.VarName.{VarName}
use Rattle.tree_node.specs.declared.names.CellName.{CellName}
use Rattle.tree_node.specs.declared.names.PortName.{PortName}
use Rattle.tree_node.specs.declared.names.ThreadName.{ThreadName}
use Rattle.tree_node.specs.Assoc.{value_of}
use Rattle.tree_node.specs.Goal.{equal_cell, equal_port}
use Rattle.tree_node.specs.State.{Stack, State}
use Rattle.kernel_syntax.specs.declared.stmt.Stmt.{Stmt}
use Rattle.kernel_syntax.specs.Program.{IsProgram}
use Rattle.site_message.specs.declared.message.Sent.{Sent}
use Rattle.site_message.specs.declared.turn.Turn.{Turn}
use Rattle.site_message.specs.Journal.{IsTravelling, travelling}
use Rattle.oz_model.specs.Laws.{IsChainOfEnds, sends_of, own_ends_from}
use Rattle.oz_model.specs.Run.{Run, Send, sends, ends_given, start}
use Rattle.thread_roster.specs.declared.mode.Awaited.TheVariants.{Cell, Port}
use Rattle.thread_roster.specs.declared.mode.Mode.TheVariants.{WaitsFor}
use Rattle.site_model.specs.Requests.{NewEnd, OldContent}
use Rattle.site_model.specs.Site.{Site, EarlyRequest, thread_state}
use Rattle.site_model.specs.Run.{WorldRun}
use Rattle.world_model.specs.Claims.{EndOf, ContentOf, Claim, Asked, Answered, Listed, IsClaim, claimant, home_in}
use Rattle.world_model.specs.Keepers.{IsTold, ports, homes, end_at, content_at, early_at}
use Rattle.world_model.specs.Schedule.{schedule}
use Rattle.world_answers.specs.Balance.{RequestsBalance}
use Rattle.world_simulation.specs.Messages.{cell_of}

-- ---- requests and answers

-- the request to this port, or an answer of a port
abbrev pub IsOfPort : PortName → Claim → Type 0
IsOfPort q (Asked k to (EndOf r) n from) = r ≡ q
IsOfPort q (Answered k to n (NewEnd old new)) = Unit {0}
IsOfPort q _ = ⊥

-- the request for this cell, on its way or kept at the cell's home, or an answer of a home
abbrev pub IsOfCell : CellName → Claim → Type 0
IsOfCell c (Asked k to (ContentOf d new) n from) = d ≡ c
IsOfCell c (Answered k to n (OldContent v)) = Unit {0}
IsOfCell c (Listed d r) = d ≡ c
IsOfCell c _ = ⊥

-- the thread has exactly one request or answer, which is of this kind
abbrev pub HasOne : List Turn → (ℕ → Site) → ThreadName → (Claim → Type 0) → Type 0
HasOne j w n P =
    (x : Claim) × IsClaim (travelling j) (early_at (homes w)) x × (claimant x ≡ n) × P x
    × ((y : Claim) → IsClaim (travelling j) (early_at (homes w)) y → claimant y ≡ n → y ≡ x)

-- ---- ports

-- the sends to a port are one chain of ends, from the variable that it was made with on; each thread's stand among them in its own order,
-- each once; the port's end is the machine's, at its owner alone; and a thread that waits for a port has exactly one request or answer
pub record PortsHold (p : List Stmt) (j : List Turn) (w : ℕ → Site) (s : State) : Type 0 where
  pub chain : (q : PortName) → IsChainOfEnds (ends_given p (schedule j) q) (sends p (schedule j) q)
  pub order : (q : PortName) (n : ThreadName) → map (λ (x : Send). x.new) (sends_of n (sends p (schedule j) q)) ≡ own_ends_from p q n (start p) (schedule j)
  pub end : (q : PortName) → end_at (ports w) q ≡ value_of equal_port s.ports q
  pub alone : (i : ℕ) (q : PortName) (e : VarName) → lookup (equal_port q) (ports w i) ≡ Some e → q.site ≡ i
  pub waits : (i : ℕ) (n : ThreadName) (q : PortName) (st : Stack) → thread_state (w i) n ≡ Some (st, WaitsFor (Port q)) → HasOne j w n (IsOfPort q)

-- ---- stationary cells

-- the content of a stationary cell is at its home, or the one message that tells the home of it travels; a home has contents of its own
-- cells alone, and keeps requests only for those of which it did not hear, while the message that tells of them travels; a thread that
-- waits for such a cell has exactly one request or answer; and the messages on tokens are of mobile cells
pub record HomesHold (j : List Turn) (w : ℕ → Site) (s : State) : Type 0 where
  pub kept : (c : CellName) (v : VarName) → c.at ≢ 0 → value_of equal_cell s.cells c ≡ Some v →
      (content_at (homes w) c ≡ Some v) ⊎ ((content_at (homes w) c ≡ None) × (k : ℕ) × IsTold (travelling j) k c.at c v)
  pub back : (i : ℕ) (c : CellName) (v : VarName) → (home_in (homes w i) c).content ≡ Some v → (c.at ≡ i) × (value_of equal_cell s.cells c ≡ Some v)
  pub once : (k l a b : ℕ) (c : CellName) (v u : VarName) → IsTold (travelling j) k a c v → IsTold (travelling j) l b c u → k ≡ l
  pub early : (c : CellName) (r : EarlyRequest) → Contains (early_at (homes w) c) r →
      (content_at (homes w) c ≡ None) × (k : ℕ) × (v : VarName) × IsTold (travelling j) k c.at c v
  pub waits : (i : ℕ) (n : ThreadName) (c : CellName) (st : Stack) → c.at ≢ 0 → thread_state (w i) n ≡ Some (st, WaitsFor (Cell c)) → HasOne j w n (IsOfCell c)
  pub mobile : (k : ℕ) (m : Sent) (c : CellName) → IsTravelling j k m → cell_of m.msg ≡ Some c → c.at ≡ 0

-- in every run of a program on 1 to 64 sites, with any limit of bundles up to 256
abbrev pub AnswersAlwaysHold : Type 0
AnswersAlwaysHold =
    (p : List Stmt) (n limit : ℕ) (j : List Turn) (w : ℕ → Site) → IsProgram p → 1 ≤ n → n ≤ MOST_SITES → limit ≤ 256 → WorldRun p n limit j w →
    (s : State) × Run p (schedule j) s × PortsHold p j w s × HomesHold j w s

-- and what each thread asks of the homes of stationary cells balances with what they exchange for it
abbrev pub RequestsAlwaysBalance : Type 0
RequestsAlwaysBalance =
    (p : List Stmt) (n limit : ℕ) (j : List Turn) (w : ℕ → Site) → IsProgram p → 1 ≤ n → n ≤ MOST_SITES → limit ≤ 256 → WorldRun p n limit j w →
    RequestsBalance p j w
