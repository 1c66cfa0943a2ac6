-- The keys of a set of which most are small.
use Rattle.std.specs.Prelude.{◌≡◌, ◌<◌, ◌≤◌, List, [], Option, Some, None, length}
use Rattle.std.specs.Global.{Box}
use Rattle.indexmap.specs.IndexSet.{IndexSet}

-- the keys of a table, where there is one
abbrev pub table_keys : {X S : Type 0} → Option (Box (IndexSet X S)) → List X
table_keys None = []
table_keys (Some table) = table.value.keys

-- at most four keys are not in the table, and those in it stand behind four
pub record AreApart {X : Type 0} (few more : List X) : Type 0 where
  pub few_first : length few ≤ 4
  pub rest : length few < 4 → more ≡ []
