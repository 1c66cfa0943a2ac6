-- The simulation: every run of sites is a run of the centralised machine.
use Rattle.std.specs.Prelude.{◌≡◌, ℕ, List, [], ◌∷◌, map, IsTrue, length, ◌==◌, if◌then◌else◌}
use Rattle.tree_node.specs.declared.names.CellName.{CellName}
use Rattle.tree_node.specs.declared.names.PortName.{PortName}
use Rattle.tree_node.specs.declared.names.ThreadName.{ThreadName}
use Rattle.tree_node.specs.State.{State}
use Rattle.tree_node.specs.Store.{IsSound}
use Rattle.kernel_syntax.specs.declared.stmt.Stmt.{Stmt}
use Rattle.site_message.specs.declared.turn.Turn.{Turn}
use Rattle.site_message.specs.Journal.{is_quiet}
use Rattle.oz_model.specs.Run.{Run, AtRest, start, exchanges, contents_given, Send, sends as all_sends, ends_given}
use Rattle.oz_model.specs.Laws.{IsChainOf, IsChainOfEnds, sends_of, own_ends_from}
use Rattle.tree_node.specs.Classes.{HasOneEach}
use Rattle.site_model.specs.Site.{Threads, waiting_count}
use Rattle.world_model.specs.Schedule.{schedule, sum_to}
use Rattle.world_model.specs.World.{Sites, world_of}
use Rattle.world_model.specs.Shown.{shown_world}
use Rattle.world_model.specs.Matches.{Matches, CellsMatch}
use Rattle.world_model.specs.Keepers.{AnswersMatch}

-- where nothing travels and all sites are idle, the machine rests, and its threads are those that wait at the sites
pub record IsAtRest (p : List Stmt) (n : ℕ) (f : Sites) (s : State) : Type 0 where
  pub rest : AtRest p s
  pub ended : s.ended ≡ sum_to n (λ i. (f i).ended)
  pub living : length s.threads ≡ sum_to n (λ i. waiting_count (f i))

-- what the last turn of a site told of it. A site without turns has ended none, and none of its threads waits
abbrev pub last_ended : List Turn → ℕ → ℕ
last_ended [] i = 0
last_ended (e ∷ j) i = if e.site == i then e.ended else last_ended j i

-- how many of its threads wait, by its last turn
abbrev pub last_waiting : List Turn → ℕ → ℕ
last_waiting [] i = 0
last_waiting (e ∷ j) i = if e.site == i then e.waiting else last_waiting j i

-- the ended and living threads of the machine are those that the sites told last
pub record AreLastTotals (n : ℕ) (j : List Turn) (s : State) : Type 0 where
  pub ended : s.ended ≡ sum_to n (last_ended j)
  pub living : length s.threads ≡ sum_to n (last_waiting j)

-- the schedule of the journal is a run of the machine to s, which matches the sites and their cells, ports and homes, where the threads
-- of transit wait for answers; its equations are sound, one a variable, the exchanges of each cell and the sends to each port are one
-- chain, and a quiet journal means that s is at rest, with the totals told last
pub record IsSimulated (p : List Stmt) (n : ℕ) (j : List Turn) (f : Sites) (s : State) : Type 0 where
  pub run : Run p (schedule j) s
  pub transit : Threads
  pub matches : Matches p n (world_of j f) transit s
  pub cells : CellsMatch (shown_world (world_of j f) transit) s
  pub answers : AnswersMatch p (world_of j f) transit s
  pub sound : IsSound s.equations
  pub once : HasOneEach s.equations
  pub chains : (c : CellName) → IsChainOf (contents_given p (schedule j) c) (exchanges p (schedule j) c)
  pub sends : (q : PortName) → IsChainOfEnds (ends_given p (schedule j) q) (all_sends p (schedule j) q)
  pub ordered : (q : PortName) (n : ThreadName) → map (λ (x : Send). x.new) (sends_of n (all_sends p (schedule j) q)) ≡ own_ends_from p q n (start p) (schedule j)
  pub quiet : IsTrue (is_quiet n j) → IsAtRest p n f s
  pub told : IsTrue (is_quiet n j) → AreLastTotals n j s
