-- The requests of one thread for one stationary cell, beside the exchanges that serve them; and the answers to it.
use Rattle.std.specs.Prelude.{◌≡◌, ◌≢◌, ℕ, ◌+◌, ◌≤◌, ◌==◌, List, [], ◌∷◌, ◌⊎◌, Bool, false, Contains, count_by, if◌then◌else◌}
use Rattle.tree_node.specs.declared.names.CellName.{CellName}
use Rattle.tree_node.specs.declared.names.ThreadName.{ThreadName}
use Rattle.tree_node.specs.declared.pick.Pick.{Pick}
use Rattle.tree_node.specs.Each.{Each}
use Rattle.tree_node.specs.Goal.{equal_cell}
use Rattle.tree_node.specs.State.{State, equal_thread}
use Rattle.kernel_syntax.specs.declared.stmt.Stmt.{Stmt}
use Rattle.site_message.specs.Journal.{Wired, sent_of, travelling}
use Rattle.site_message.specs.declared.message.Msg.{Msg}
use Rattle.site_message.specs.declared.message.Msg.TheVariants as msg
use Rattle.site_message.specs.declared.message.Sent.{Sent}
use Rattle.site_message.specs.declared.turn.Turn.{Turn}
use Rattle.oz_model.specs.Effect.{CellChange, Exchanged}
use Rattle.oz_model.specs.Run.{start}
use Rattle.oz_model.specs.Step.{effect_of, next}
use Rattle.site_model.specs.Run.{IsSiteIn}
use Rattle.site_model.specs.Site.{EarlyRequest}
use Rattle.world_model.specs.Keepers.{homes, early_at}
use Rattle.world_model.specs.Schedule.{schedule}
use Rattle.world_model.specs.World.{Mail, Sites}
use Rattle.world_answers.specs.FitRuns.{SiteFitRun}

-- ---- messages

-- the message asks for the content of this cell, for this thread
abbrev pub asks_content_for : CellName → ThreadName → Sent → Bool
asks_content_for c th m = is m.msg
  where
    is : Msg → Bool
    is (msg.CellAsk d n k v bundle) = if equal_cell c d then equal_thread th n else false
    is _ = false

-- it tells this thread the old content of a cell
abbrev pub answers_to : ThreadName → Sent → Bool
answers_to th m = is m.msg
  where
    is : Msg → Bool
    is (msg.CellOld n v bundle) = equal_thread th n
    is _ = false

-- how many requests of the thread for the cell travel, and how many are among those that a home keeps
abbrev pub travelling_for : CellName → ThreadName → Mail → ℕ
travelling_for c th mail = count_by (λ (m : ℕ × Sent). asks_content_for c th m.1) mail

abbrev pub early_for : ThreadName → List EarlyRequest → ℕ
early_for th rs = count_by (λ (r : EarlyRequest). equal_thread th r.thread) rs

-- the requests of the thread for the cell that travel, and those that its home keeps
abbrev pub outstanding_for : CellName → ThreadName → List Turn → Sites → ℕ
outstanding_for c th j w = travelling_for c th (travelling j) + early_for th (early_at (homes w) c)

-- ---- exchanges

-- one where cell d and thread n are this cell and this thread
abbrev pub one_exchange : CellName → ThreadName → CellName → ThreadName → ℕ
one_exchange c th d n = if equal_cell c d then (if equal_thread th n then 1 else 0) else 0

-- one where thread n is this one, and cell d stays at another site than i
abbrev pub away_exchange : ℕ → ThreadName → CellName → ThreadName → ℕ
away_exchange i th d n = if d.at == 0 then 0 else (if d.at == i then 0 else (if equal_thread th n then 1 else 0))

-- what f gives for the cell and the thread of an exchange
abbrev pub of_exchange : (CellName → ThreadName → ℕ) → ThreadName → CellChange → ℕ
of_exchange f n (Exchanged d new told) = f d n
of_exchange f n _ = 0

-- and for those of these picks, in the steps from a state on, together
abbrev pub exchanges_by : (CellName → ThreadName → ℕ) → List Stmt → State → List Pick → ℕ
exchanges_by f p s [] = 0
exchanges_by f p s (k ∷ ks) = of_exchange f k.thread (effect_of p s k).cell + exchanges_by f p (next p s k) ks

-- ---- the law

-- a turn of site i has a unit of the thread
abbrev pub GoesAt : List Turn → ℕ → ThreadName → Type 0
GoesAt j i th = (e : Turn) × Contains j e × (e.site ≡ i) × Contains e.units th

-- A thread that does not go at the home of a stationary cell has sent one request for each of its exchanges of the cell, and those that are
-- outstanding; who sent one goes at another site than the home; and a thread that goes at no site but i was sent one answer for each of its
-- exchanges of stationary cells of other sites
pub record RequestsBalance (p : List Stmt) (j : List Turn) (w : Sites) : Type 0 where
  pub asked : (c : CellName) (th : ThreadName) → c.at ≢ 0 →
      GoesAt j c.at th ⊎ (count_by (asks_content_for c th) (sent_of j) ≡ exchanges_by (one_exchange c th) p (start p) (schedule j) + outstanding_for c th j w)
  pub far : (c : CellName) (th : ThreadName) → (count_by (asks_content_for c th) (sent_of j) ≡ 0) ⊎ ((i : ℕ) × (c.at ≢ i) × GoesAt j i th)
  pub answered : (i : ℕ) (th : ThreadName) →
      (count_by (answers_to th) (sent_of j) ≡ exchanges_by (away_exchange i th) p (start p) (schedule j)) ⊎ ((k : ℕ) × (k ≢ i) × GoesAt j k th)

-- in every run whose messages can be taken
abbrev pub RequestsBalanceInFitRuns : Type 0
RequestsBalanceInFitRuns =
    (p : List Stmt) (n limit : ℕ) (j : List Turn) (w : Sites) → 1 ≤ n → Wired j → Each (IsSiteIn n) j → ((i : ℕ) → SiteFitRun p n limit i j (w i)) →
    RequestsBalance p j w
