-- The messages on their way to one site.
use Rattle.std.specs.Prelude.{◌≡◌, ℕ, ◌+◌, ◌-◌, List, Bool, min}

-- the numbers in hand, the spellings of the messages that wait with their numbers, whether the site is idle, and for how
-- many more messages there is room
pub record InboxState : Type 0 where
  pub hand : List ℕ
  pub waiting : List (ℕ × List ℕ)
  pub idle : Bool
  pub room : ℕ

-- a place is made for a message that waits, and another one for its number in hand
abbrev pub free_room : ℕ → ℕ → ℕ → ℕ → ℕ
free_room held waits room_held room_waits = min (room_held - (held + waits)) (room_waits - waits)

-- all but the room
abbrev pub HoldsSame : InboxState → InboxState → Type 0
HoldsSame old new = (new.hand ≡ old.hand) × (new.waiting ≡ old.waiting) × (new.idle ≡ old.idle)
