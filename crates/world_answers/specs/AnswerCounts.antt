-- How many requests and answers there are in a run: by the sends to ports and the exchanges of stationary cells that the machine makes.
use Rattle.std.specs.Prelude.{ℕ, ◌+◌, ◌≤◌, ◌==◌, List, [], ◌∷◌, length, Bool, true, false, Contains, if◌then◌else◌}
use Rattle.std.specs.List.{count_by}
use Rattle.tree_node.specs.declared.names.ThreadName.{ThreadName}
use Rattle.tree_node.specs.declared.pick.Pick.{Pick}
use Rattle.tree_node.specs.Each.{Each, AreDistinct}
use Rattle.tree_node.specs.State.{Stack, State}
use Rattle.kernel_syntax.specs.declared.stmt.Stmt.{Stmt}
use Rattle.site_message.specs.Journal.{Wired, sent_of}
use Rattle.site_message.specs.declared.message.Msg.{Msg}
use Rattle.site_message.specs.declared.message.Msg.TheVariants as msg
use Rattle.site_message.specs.declared.message.Sent.{Sent}
use Rattle.site_message.specs.declared.turn.Turn.{Turn}
use Rattle.oz_model.specs.Effect.{Effect, CellChange, Made, Exchanged, PortChange, Sent as SentTo}
use Rattle.oz_model.specs.Run.{Run, start}
use Rattle.oz_model.specs.Step.{effect_of, next}
use Rattle.thread_roster.specs.declared.mode.Awaited.{Awaited}
use Rattle.site_model.specs.Run.{IsSiteIn}
use Rattle.world_model.specs.Claims.{IsAsking}
use Rattle.world_model.specs.Schedule.{schedule}
use Rattle.world_model.specs.World.{Sites, threads}
use Rattle.world_answers.specs.FitRuns.{SiteFitRun}

-- ---- kinds of messages

-- the message asks for the end of a port; it tells one; it tells a home of a cell; it asks a home for the content of a cell; it tells one
abbrev pub asks_end : Sent → Bool
asks_end m = is m.msg
  where
    is : Msg → Bool
    is (msg.PortSend q n k) = true
    is _ = false

abbrev pub tells_end : Sent → Bool
tells_end m = is m.msg
  where
    is : Msg → Bool
    is (msg.PortEnd n old new bundle) = true
    is _ = false

abbrev pub tells_home : Sent → Bool
tells_home m = is m.msg
  where
    is : Msg → Bool
    is (msg.CellMake c v bundle) = true
    is _ = false

abbrev pub asks_content : Sent → Bool
asks_content m = is m.msg
  where
    is : Msg → Bool
    is (msg.CellAsk c n k v bundle) = true
    is _ = false

abbrev pub tells_content : Sent → Bool
tells_content m = is m.msg
  where
    is : Msg → Bool
    is (msg.CellOld n v bundle) = true
    is _ = false

-- ---- what the machine does

-- what f counts of the effects of these picks, in the steps from a state on
abbrev pub counted : (Effect → ℕ) → List Stmt → State → List Pick → ℕ
counted f p s [] = 0
counted f p s (k ∷ ks) = f (effect_of p s k) + counted f p (next p s k) ks

-- one for a send to a port; for an exchange of a stationary cell; for a stationary cell that is made
abbrev pub send_one : PortChange → ℕ
send_one (SentTo q value new) = 1
send_one _ = 0

abbrev pub exchange_one : CellChange → ℕ
exchange_one (Exchanged c new told) = if c.at == 0 then 0 else 1
exchange_one _ = 0

abbrev pub cell_one : CellChange → ℕ
cell_one (Made c v) = if c.at == 0 then 0 else 1
cell_one _ = 0

-- the sends to ports; the exchanges of stationary cells; the stationary cells made
abbrev pub sends_made : List Stmt → State → List Pick → ℕ
sends_made p s ks = counted (λ (e : Effect). send_one e.port) p s ks

abbrev pub placed_exchanges : List Stmt → State → List Pick → ℕ
placed_exchanges p s ks = counted (λ (e : Effect). exchange_one e.cell) p s ks

abbrev pub placed_cells : List Stmt → State → List Pick → ℕ
placed_cells p s ks = counted (λ (e : Effect). cell_one e.cell) p s ks

-- ---- the law

-- the ends and the contents that are told are at most the sends and the exchanges of stationary cells, the homes that are told at most the
-- stationary cells made; and the requests are at most the answers and some threads that wait for one
pub record AnswersAreFew (p : List Stmt) (j : List Turn) (f : Sites) (s : State) : Type 0 where
  pub run : Run p (schedule j) s
  pub ends : count_by tells_end (sent_of j) ≤ sends_made p (start p) (schedule j)
  pub olds : count_by tells_content (sent_of j) ≤ placed_exchanges p (start p) (schedule j)
  pub homes : count_by tells_home (sent_of j) ≤ placed_cells p (start p) (schedule j)
  pub asking : List ThreadName
  pub distinct : AreDistinct asking
  pub waits : (n : ThreadName) → Contains asking n → (i : ℕ) × (a : Awaited) × (st : Stack) × IsAsking (threads f) i n a st
  pub few : count_by asks_end (sent_of j) + count_by asks_content (sent_of j) ≤ count_by tells_end (sent_of j) + count_by tells_content (sent_of j) + length asking

-- in every run whose messages can be taken
abbrev pub FewAnswersInFitRuns : Type 0
FewAnswersInFitRuns =
    (p : List Stmt) (n limit : ℕ) (j : List Turn) (f : Sites) → 1 ≤ n → Wired j → Each (IsSiteIn n) j → ((i : ℕ) → SiteFitRun p n limit i j (f i)) →
    (s : State) × AnswersAreFew p j f s
