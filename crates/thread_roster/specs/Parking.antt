-- Keys that are put at several variables.
use Rattle.std.specs.Prelude.{◌≡◌, ℕ, List, ◌⊎◌, Contains}
use Rattle.tree_node.specs.declared.names.VarName.{VarName}
use Rattle.thread_roster.specs.declared.mode.Event.{Event}
use Rattle.thread_roster.specs.declared.mode.Event.TheVariants.{Bound, Determined}
use Rattle.waiting_keys.specs.Keys.{keys_among}

-- the keys of those that may wait for this: who waits until a variable is bound is filed among the first, who needs its node among the others
abbrev pub keys_for : List (VarName × List ℕ) → List (VarName × List ℕ) → Event → List ℕ
keys_for waiters needers (Bound x) = keys_among waiters x
keys_for waiters needers (Determined x) = keys_among needers x

-- the same keys, and this one at some places besides
pub record HasMoreKeys {K : Type 0} (old : K → List ℕ) (key : ℕ) (new : K → List ℕ) : Type 0 where
  pub kept : (y : K) (j : ℕ) → Contains (old y) j → Contains (new y) j
  pub only : (y : K) (j : ℕ) → Contains (new y) j → Contains (old y) j ⊎ (j ≡ key)
