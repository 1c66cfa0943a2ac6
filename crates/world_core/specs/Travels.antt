-- What a world tells of the messages that travel.
use Rattle.std.specs.Prelude.{◌≡◌, ◌↔◌, ℕ, ◌≤◌, List, map, Option, Some, None, slice_get, Contains, nat_eq}
use Rattle.std.specs.List.{IsDistinct}
use Rattle.site_message.specs.declared.message.Msg.{Msg}
use Rattle.site_message.specs.declared.message.Sent.{Sent}
use Rattle.site_message.specs.declared.turn.Turn.{Turn}
use Rattle.site_message.specs.Journal.{IsTravelling}
use Rattle.world_core.specs.declared.travel.Travel.{Travel}

-- a message under way without what it says: its number and receiver
abbrev pub travel_of : ℕ × Sent → Travel
travel_of m = record { number = m.0; to = m.1.to }

-- at this place is the message of this number, for this site
abbrev pub IsAt : List Travel → ℕ → ℕ → ℕ → Type 0
IsAt ts site place number = slice_get ts place ≡ Some (record { number = number; to = site })

-- no message travels to the site
abbrev pub IsNoneFor : List Travel → ℕ → Type 0
IsNoneFor ts site = (t : Travel) → Contains ts t → t.to ≡ site → ⊥

-- at this place is the message for the site with the lowest number
abbrev pub IsFirstFor : List Travel → ℕ → ℕ → Type 0
IsFirstFor ts site place =
    (number : ℕ) × IsAt ts site place number × ((t : Travel) → Contains ts t → t.to ≡ site → number ≤ t.number)

-- at this place is the message of this number; none, where there is no such message
abbrev pub IsPlaceOf : List Travel → ℕ → Option ℕ → Type 0
IsPlaceOf ts number None = (t : Travel) → Contains ts t → t.number ≡ number → ⊥
IsPlaceOf ts number (Some place) = (to : ℕ) × IsAt ts to place number

-- exactly the messages that travel by the journal, each once
pub record AreTravels (j : List Turn) (ts : List Travel) : Type 0 where
  pub exact : (k to : ℕ) → Contains ts (record { number = k; to = to }) ↔ ((m : Msg) × IsTravelling j k (record { to = to; msg = m }))
  pub once : IsDistinct nat_eq (map (λ (t : Travel). t.number) ts)

-- no message travels to the site by the journal
abbrev pub IsNothingFor : List Turn → ℕ → Type 0
IsNothingFor j site = (k : ℕ) (m : Sent) → IsTravelling j k m → m.to ≡ site → ⊥

-- the message that a turn of the site is to deliver is not there
abbrev pub IsNotThere : List Travel → ℕ → Option ℕ → Type 0
IsNotThere ts site None = ⊥
IsNotThere ts site (Some place) = (number : ℕ) → IsAt ts site place number → ⊥

-- the number of the message at the place that was given
abbrev pub IsNumberAt : List Travel → ℕ → Option ℕ → Option ℕ → Type 0
IsNumberAt ts site None delivered = delivered ≡ None
IsNumberAt ts site (Some place) delivered = (number : ℕ) × IsAt ts site place number × (delivered ≡ Some number)
