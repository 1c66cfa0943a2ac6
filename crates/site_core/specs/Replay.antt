-- Turns of given units.
use Rattle.std.specs.Prelude.{◌≡◌, ℕ, List, Option}
use Rattle.tree_node.specs.declared.names.ThreadName.{ThreadName}
use Rattle.kernel_syntax.specs.declared.stmt.Stmt.{Stmt}
use Rattle.site_message.specs.declared.message.Msg.{Msg}
use Rattle.site_message.specs.declared.turn.Turn.{Turn}
use Rattle.site_model.specs.Bundle.{bundle_limit}
use Rattle.site_model.specs.Run.{IsRecordOf}
use Rattle.site_model.specs.Site as model
use Rattle.site_model.specs.Transition.{Transition}
use Rattle.site_model.specs.Turn.{IsReception, IsTurnOf}
use Rattle.site_units.specs.declared.data.Core.{Core}
use Rattle.site_units.specs.declared.data.Output.{Output}
use Rattle.site_units.specs.Core.{site_of}
use Rattle.site_units.specs.Units.{IsTransitionMade}
use Rattle.site_units.specs.Replay.{IsStuckAt}
use Rattle.site_core.specs.Site.{IsTurnMade, message_in, number_in}

-- what a turn with this message and these units comes to: this transition, and no other
abbrev pub TurnComesTo : List Stmt → ℕ → List ThreadName → model.Site → Option Msg → Transition → Type 0
TurnComesTo p n ths s m d =
    IsTurnOf p n bundle_limit ths s m d × ((e : Transition) → IsTurnOf p n bundle_limit ths s m e → e ≡ d)

-- the entry is the turn of a site of this program, from one state to the next, with this message and these units
pub record IsReplayMade (p : List Stmt) (n : ℕ) (old : model.Site) (message : Option (ℕ × Msg)) (ths : List ThreadName) (e : Turn) (new : model.Site) : Type 0 where
  pub turn : (d : Transition) × TurnComesTo p n ths old (message_in message) d × IsRecordOf e d × (new ≡ d.site)
  pub site : e.site ≡ old.records.site
  pub delivered : e.delivered ≡ number_in message
  pub units : e.units ≡ ths

-- a turn that was made, and one that was made again from the same state with the same message and with the units that the first one
-- tells, are equal
abbrev pub TurnsAreMadeAgain : Type 0
TurnsAreMadeAgain =
    (p : List Stmt) (n : ℕ) (old new again : model.Site) (message : Option (ℕ × Msg)) (quantum : ℕ) (e f : Turn) →
    IsTurnMade p n old message quantum e new → IsReplayMade p n old message e.units f again → (e ≡ f) × (new ≡ again)

-- behind the message, the thread at this place is the first that cannot go on when its unit comes
abbrev pub IsStuckTurn : List Stmt → ℕ → model.Site → Option Msg → List ThreadName → ℕ → Type 0
IsStuckTurn p n s m ths at = (heard : Transition) × IsReception p n bundle_limit m s heard × IsStuckAt p n ths heard.site at

-- the data and the output came by the one turn of these units
abbrev pub IsTheTurnMade : List Stmt → List ThreadName → Option Msg → Core → Output → Core → Output → Type 0
IsTheTurnMade p ths m c0 o0 c1 o1 = (d : Transition) × TurnComesTo p c0.sites ths (site_of c0) m d × IsTransitionMade p d c0 o0 c1 o1

-- what the data and the output are, as a transition
abbrev pub transition_of : Core → Output → Transition
transition_of c o = record { site = site_of c; picks = o.picks; sent = o.sent; lines = o.lines.items }
