-- A world in which a saved run is made again.
use Rattle.std.specs.Prelude.{◌≡◌, ◌≢◌, ◌⊎◌, ℕ, List, ◌∷◌, Option, Some, None, false}
use Rattle.kernel_syntax.specs.declared.stmt.Stmt.{Stmt}
use Rattle.site_message.specs.declared.message.Sent.{Sent}
use Rattle.site_message.specs.declared.turn.Turn.{Turn}
use Rattle.site_message.specs.declared.limits.Limits.{Limits}
use Rattle.site_message.specs.Journal.{IsTravelling}
use Rattle.world_core.specs.declared.travel.Travel.{Travel}
use Rattle.world_core.specs.Travels.{IsAt, IsPlaceOf}
use Rattle.world_core.specs.World.{WorldState, states_of}
use Rattle.world_core.specs.declared.refusal.ReplayRefusal.{ReplayRefusal}
use Rattle.world_core.specs.declared.refusal.ReplayRefusal.TheVariants.{Memory as OutOfMemory}
use Rattle.run_file.specs.declared.entry.Entry.{Entry}
use Rattle.run_file.specs.Saved.{SavedRun}
use Rattle.run_check.specs.declared.made.Made.{Made}
use Rattle.run_check.specs.declared.made.Made.TheVariants as made
use Rattle.run_check.specs.Again.{AreMadeAgain, IsMadeAgain}

-- the limits by which the journal of a saved run ends
abbrev pub limits_of : SavedRun → Limits
limits_of r = record { sites = r.sites; steps = r.steps; messages = r.messages }

-- these entries were made again in this world of the program, which is not given up
pub record HasMade (p : List Stmt) (l : Limits) (es : List Entry) (w : WorldState) : Type 0 where
  pub program : w.program ≡ p
  pub sites : w.sites ≡ l.sites
  pub live : w.spent ≡ false
  pub again : AreMadeAgain p l w.journal es (states_of w)

-- one entry more was made again
pub record IsNext (l : Limits) (old new : WorldState) (e : Entry) : Type 0 where
  pub turn : Turn
  pub journal : new.journal ≡ turn ∷ old.journal
  pub made : IsMadeAgain old.program l old.journal (states_of old) e turn (states_of new)

-- the place that is looked up for what an entry delivers: that of the message of this number
abbrev pub IsLookedUp : List Turn → List Travel → Option ℕ → Option ℕ → Type 0
IsLookedUp j ts None place = place ≡ None
IsLookedUp j ts (Some k) place =
    (at : ℕ) × (place ≡ Some at) × IsPlaceOf ts k (Some at) × ((m : Sent) → IsTravelling j k m → IsAt ts m.to at k)

-- an entry delivers something, and nothing of that number travels
abbrev pub TravelsNowhere : List Turn → Option ℕ → Type 0
TravelsNowhere j delivered = (k : ℕ) × (delivered ≡ Some k) × ((m : Sent) → IsTravelling j k m → ⊥)

-- the entries are told to be made again up to this place, counted from 0: the one there is wrong, or memory ran out at it
abbrev pub Stops : ReplayRefusal → ℕ → Made → Type 0
Stops r at m = ((r ≡ OutOfMemory) × (m ≡ made.Memory)) ⊎ ((r ≢ OutOfMemory) × (m ≡ made.Wrong at))
