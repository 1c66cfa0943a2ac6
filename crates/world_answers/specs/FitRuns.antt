-- The simulation where each delivered message is fit for its site.
use Rattle.tree_node.specs.declared.names.CellName.{CellName}
use Rattle.kernel_syntax.specs.declared.stmt.Stmt.{Stmt}
use Rattle.oz_model.specs.Run.{Run, exchanges}
use Rattle.site_message.specs.Journal.{Wired, sent_of}
use Rattle.site_message.specs.declared.message.Msg.{Msg}
use Rattle.site_message.specs.declared.turn.Turn.{Turn}
use Rattle.site_model.specs.Fit.{IsFit}
use Rattle.site_model.specs.Run.{IsSiteIn, delivered_message, IsEntry, IsReachedBy}
use Rattle.site_model.specs.Site.{Site, initial_site}
use Rattle.std.specs.Prelude.{ℕ, ◌+◌, ◌*◌, ◌≤◌, List, ◌≡◌, [], ◌∷◌, length, Some, ◌==◌}
use Rattle.tree_node.specs.Each.{Each}
use Rattle.tree_node.specs.State.{State}
use Rattle.world_model.specs.Schedule.{schedule}
use Rattle.world_model.specs.Simulated.{IsSimulated}
use Rattle.world_model.specs.World.{Sites}
use Rattle.world_cells.specs.CellCounts.{cell_weights}

-- the entry is a turn of the site, and its message is one that the site can take
pub record IsFitEntry (p : List Stmt) (n limit : ℕ) (j : List Turn) (e : Turn) (old s : Site) : Type 0 where
  pub turn : IsEntry p n limit j e old s
  pub fit : (m : Msg) → delivered_message j e.delivered ≡ Some m → IsFit p n old m

-- the turns of site i in the journal lead it from its start to s, and each message that they deliver is one that it can take
abbrev pub SiteFitRun : List Stmt → ℕ → ℕ → ℕ → List Turn → Site → Type 0
SiteFitRun p n limit i [] s = s ≡ initial_site p n i
SiteFitRun p n limit i (e ∷ j) s = IsReachedBy (e.site == i) (λ old. SiteFitRun p n limit i j old) (λ old new. IsFitEntry p n limit j e old new) s

-- whatever the order of turns and deliveries, and whatever the bundles, where each delivered message is one that its site
-- can take
abbrev pub FitRunsAreSimulated : Type 0
FitRunsAreSimulated =
    (p : List Stmt) (n limit : ℕ) (j : List Turn) (f : Sites) → 1 ≤ n → Wired j → Each (IsSiteIn n) j → ((i : ℕ) → SiteFitRun p n limit i j (f i)) →
    (s : State) × IsSimulated p n j f s

-- in every run whose messages can be taken, those of a cell are at most three for each exchange and each site
abbrev pub FewInFitRuns : Type 0
FewInFitRuns =
    (p : List Stmt) (n limit : ℕ) (j : List Turn) (f : Sites) (c : CellName) → 1 ≤ n → Wired j → Each (IsSiteIn n) j → ((i : ℕ) → SiteFitRun p n limit i j (f i)) →
    (s : State) × Run p (schedule j) s × (cell_weights c 1 1 1 (sent_of j) ≤ 3 * (length (exchanges p (schedule j) c) + n))
