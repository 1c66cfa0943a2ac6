-- What a store contains: equations, the names that are known, and the keys that wait for variables.
use Rattle.std.specs.Prelude.{ℕ, List, [], ◌∷◌, ◌++◌, if◌then◌else◌}
use Rattle.std.specs.List.{list_any}
use Rattle.tree_node.specs.declared.names.VarName.{VarName}
use Rattle.tree_node.specs.Store.{Store, equal_var}
use Rattle.waiting_keys.specs.Keys.{keys_among}

-- the equations, the newest first; the names that are known, each once; and variables with
-- the keys that wait there, the first to come first
pub record Contents : Type 0 where
  pub equations : Store
  pub known : List VarName
  pub waiting : List (VarName × List ℕ)

-- one more name, where it is not known yet
abbrev pub with_name : List VarName → VarName → List VarName
with_name names x = if list_any (equal_var x) names then names else names ++ x ∷ []

-- the keys that wait at a variable
abbrev pub keys_at : Contents → VarName → List ℕ
keys_at s x = keys_among s.waiting x
