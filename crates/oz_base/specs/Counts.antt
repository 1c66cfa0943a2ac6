-- The counts that a source and a sink over memory keep, of their calls and of their faults.
use Rattle.std.specs.Prelude.{ℕ, ◌+◌, ◌-◌, ◌^◌, ◌<◌, min, List, Contains}

-- the count after one more, which stays at the last value of a u64
abbrev pub one_more : ℕ → ℕ
one_more count = min (count + 1) (2 ^ 64 - 1)

-- after so many calls the next one has a number, counted from 1, and the number is in the list
abbrev pub NextIsListed : List ℕ → ℕ → Type 0
NextIsListed failing calls = (calls < 2 ^ 64 - 1) × Contains failing (calls + 1)
