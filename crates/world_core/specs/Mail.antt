-- The messages on their way: by their places, and by the sites that they go to.
use Rattle.std.specs.Prelude.{◌≡◌, ℕ, ◌<◌, ◌≤◌, List, [], Bool, true, false, ◌==◌, nat_eq, length, map, Option, Some, None, slice_index_or, if◌then◌else◌}
use Rattle.std.specs.List.{IsDistinct, list_any}
use Rattle.std.specs.Map.{lookup, keys_of}
use Rattle.std.specs.Ordering.{nat_cmp}
use Rattle.std.specs.BTreeMap.{is_at}
use Rattle.site_message.specs.declared.message.Sent.{Sent}
use Rattle.world_core.specs.declared.travel.Travel.{Travel}
use Rattle.world_core.specs.Travels.{travel_of}

-- how many queues there are, and the messages with their numbers, by places
pub record MailState : Type 0 where
  pub queues : ℕ
  pub messages : List (ℕ × Sent)

-- the message of a number
abbrev pub message_at : List (ℕ × Sent) → ℕ → Option Sent
message_at ms k = lookup (nat_eq k) ms

-- this one under this number
abbrev pub with_message : ℕ → Sent → List (ℕ × Sent) → ℕ → Option Sent
with_message number sent ms k = if number == k then Some sent else message_at ms k

-- and none of this number
abbrev pub without_message : ℕ → List (ℕ × Sent) → ℕ → Option Sent
without_message number ms k = if number == k then None else message_at ms k

-- each number is below this one
abbrev pub AreBelow : ℕ → List (ℕ × Sent) → Type 0
AreBelow first ms = (k : ℕ) → first ≤ k → message_at ms k ≡ None

-- the number is in the queue
abbrev pub is_queued : List ℕ → ℕ → Bool
is_queued ks k = list_any (is_at (nat_cmp k)) ks

-- a set of numbers with this one, and without it
abbrev pub with_bit : ℕ → (ℕ → Bool) → ℕ → Bool
with_bit number old k = if number == k then true else old k

abbrev pub without_bit : ℕ → (ℕ → Bool) → ℕ → Bool
without_bit number old k = if number == k then false else old k

-- the numbers in the queue of site i; none where there is no queue
abbrev pub queue_at : List (List ℕ) → ℕ → List ℕ
queue_at qs i = slice_index_or qs i []

-- the message goes to this site
abbrev pub is_for : ℕ → Option Sent → Bool
is_for i None = false
is_for i (Some m) = m.to == i

-- no two messages have one number; the travels are those of the messages, and each queue has the numbers of those to its site
pub record IsConsistent (ms : List (ℕ × Sent)) (ts : List Travel) (qs : List (List ℕ)) : Type 0 where
  pub once : IsDistinct nat_eq (keys_of ms)
  pub travels : ts ≡ map travel_of ms
  pub queues : (i k : ℕ) → i < length qs → is_queued (queue_at qs i) k ≡ is_for i (message_at ms k)
