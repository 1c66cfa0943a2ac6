-- Runs of a program over its sites, in which each delivered message takes its row, without a test of whether it is fit.
use Rattle.std.specs.Prelude.{◌≡◌, ◌↔◌, ℕ, ◌≤◌, List, [], ◌∷◌, length, ◌==◌, Option, Some, None}
use Rattle.tree_node.specs.declared.limits.TheConstants.{MOST_SITES, MOST_UNITS}
use Rattle.tree_node.specs.Each.{Each}
use Rattle.kernel_syntax.specs.declared.stmt.Stmt.{Stmt}
use Rattle.kernel_syntax.specs.Program.{IsProgram}
use Rattle.site_message.specs.declared.message.Msg.{Msg}
use Rattle.site_message.specs.declared.turn.Turn.{Turn}
use Rattle.site_message.specs.Journal.{Wired}
use Rattle.site_model.specs.Site.{Site, initial_site}
use Rattle.site_model.specs.Transition.{Transition, without_output, sequence}
use Rattle.site_model.specs.Messages.{reception}
use Rattle.site_model.specs.Turn.{AreUnits}
use Rattle.site_model.specs.Run.{delivered_message, IsRecordOf, IsReachedBy, IsSiteIn, WorldRun}

-- what comes of the message that a turn delivers: its row
abbrev pub message_transition : List Stmt → ℕ → Option Msg → Site → Transition
message_transition p limit None s = without_output s
message_transition p limit (Some m) s = reception p limit m s

-- the entry is a turn of the site from its state before to this one: what comes of its message, and then the units that it tells, at
-- most 64
abbrev pub IsTurn : List Stmt → ℕ → ℕ → List Turn → Turn → Site → Site → Type 0
IsTurn p n limit j e old s =
    (rest : Transition) × (length e.units ≤ MOST_UNITS)
    × AreUnits p n limit e.units (message_transition p limit (delivered_message j e.delivered) old).site rest
    × IsRecordOf e (sequence (message_transition p limit (delivered_message j e.delivered) old) rest) × (s ≡ rest.site)

-- the entries of site i are turns in a row from its start to this state
abbrev pub AreTurns : List Stmt → ℕ → ℕ → ℕ → List Turn → Site → Type 0
AreTurns p n limit i [] s = s ≡ initial_site p n i
AreTurns p n limit i (e ∷ j) s =
    IsReachedBy (e.site == i) (λ old. AreTurns p n limit i j old) (λ old new. IsTurn p n limit j e old new) s

-- The journal is one of the program over n sites, and leads to these states: each delivered message was sent to that site before,
-- and is delivered once; and the entries of each site are its turns
pub record DistributedRun (p : List Stmt) (n limit : ℕ) (j : List Turn) (w : ℕ → Site) : Type 0 where
  pub wired : Wired j
  pub sites : Each (IsSiteIn n) j
  pub turns : (i : ℕ) → AreTurns p n limit i j (w i)

-- These are the runs of `site_model`, in which an unfit message would change nothing: none comes
abbrev pub RunsTakeRows : Type 0
RunsTakeRows =
    (p : List Stmt) (n limit : ℕ) (j : List Turn) (w : ℕ → Site) → IsProgram p → 1 ≤ n → n ≤ MOST_SITES → limit ≤ 256 → WorldRun p n limit j w ↔ DistributedRun p n limit j w
