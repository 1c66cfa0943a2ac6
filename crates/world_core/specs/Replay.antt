-- Turns made again, and why one was not.
use Rattle.std.specs.Prelude.{◌≡◌, ◌≢◌, ℕ, List, ◌∷◌, Option}
use Rattle.tree_node.specs.declared.names.ThreadName.{ThreadName}
use Rattle.site_message.specs.declared.turn.Turn.{Turn}
use Rattle.site_model.specs.Run.{IsRecordOf, delivered_message}
use Rattle.site_model.specs.Transition.{Transition}
use Rattle.site_units.specs.declared.replay.Replay.{Replay}
use Rattle.site_units.specs.declared.replay.Replay.TheVariants as replay
use Rattle.site_core.specs.Replay.{TurnComesTo, IsStuckTurn}
use Rattle.world_core.specs.Travels.{IsNumberAt}
use Rattle.world_core.specs.World.{WorldState, states_of}
use Rattle.world_core.specs.declared.refusal.WorldRefusal.{WorldRefusal}
use Rattle.world_core.specs.declared.refusal.WorldRefusal.TheVariants as turn
use Rattle.world_core.specs.declared.refusal.ReplayRefusal.{ReplayRefusal}
use Rattle.world_core.specs.declared.refusal.ReplayRefusal.TheVariants.{NotThere, NotRunnable, Memory}

-- the answer to a replay where a turn of the world would have been refused so
abbrev pub refusal_of : WorldRefusal → ReplayRefusal → Type 0
refusal_of turn.NotThere r = r ≡ NotThere
refusal_of turn.Memory r = r ≡ Memory

-- the answer to a replay that the site refused so
abbrev pub replay_refusal_of : Replay → ReplayRefusal → Type 0
replay_refusal_of (replay.NotRunnable at) r = r ≡ NotRunnable at
replay_refusal_of replay.Memory r = r ≡ Memory

-- a turn of the site with the message at the place, if one is given, and with units of these threads, which prints these lines: its
-- entry tells the one transition that they come to
pub record IsReplayed (old new : WorldState) (site : ℕ) (place : Option ℕ) (ths : List ThreadName) (printed : List (List ℕ)) : Type 0 where
  pub entry : Turn
  pub journal : new.journal ≡ entry ∷ old.journal
  pub site_is : entry.site ≡ site
  pub delivered : IsNumberAt old.travels site place entry.delivered
  pub units : entry.units ≡ ths
  pub lines : entry.lines ≡ printed
  pub turn : (d : Transition) × TurnComesTo old.program old.sites ths (states_of old site) (delivered_message old.journal entry.delivered) d × IsRecordOf entry d × (states_of new site ≡ d.site)

-- behind the message, the thread at this place of the units is the first that cannot go on when its unit comes
abbrev pub IsWorldStuck : WorldState → ℕ → Option ℕ → List ThreadName → ℕ → Type 0
IsWorldStuck w site place ths at =
    (number : Option ℕ) × IsNumberAt w.travels site place number
    × IsStuckTurn w.program w.sites (states_of w site) (delivered_message w.journal number) ths at

-- the one transition that they come to prints other lines
abbrev pub PrintsOthers : WorldState → ℕ → Option ℕ → List ThreadName → List (List ℕ) → Type 0
PrintsOthers w site place ths lines =
    (number : Option ℕ) × (d : Transition) × IsNumberAt w.travels site place number
    × TurnComesTo w.program w.sites ths (states_of w site) (delivered_message w.journal number) d × (d.lines ≢ lines)
