-- Lines, ended threads and the names of threads.
use Rattle.std.specs.Prelude.{◌≡◌, ℕ, ◌≤◌, List, map}
use Rattle.tree_node.specs.declared.names.ThreadName.{ThreadName}
use Rattle.tree_node.specs.Each.{AreDistinct}
use Rattle.tree_node.specs.State.{State}
use Rattle.world_model.specs.Matches.{ended}
use Rattle.world_model.specs.Schedule.{sum_to}
use Rattle.world_model.specs.World.{Sites}

-- the names of these threads
abbrev pub names : {V : Type 0} → List (ThreadName × V) → List ThreadName
names {V} ts = map (λ (t : ThreadName × V). t.0) ts

-- the lines are the centre's, so are the ended threads, and each site has a thread once
pub record Sums (f : Sites) (lines : List (List ℕ)) (c : State) : Type 0 where
  pub printed : c.lines ≡ lines
  pub all_ended : (n : ℕ) → ((i : ℕ) → ((1 ≤ i) × (i ≤ n) → ⊥) → (f i).ended ≡ 0) → c.ended ≡ sum_to n (ended f)
  pub once : (i : ℕ) → AreDistinct (names (f i).threads)
