-- What the order of fields is for: a record has each feature once, and two records have the same features exactly
-- where they have them at the same places.
use Rattle.std.specs.Prelude.{◌≡◌, ◌↔◌, List, IsTrue, Contains}
use Rattle.tree_node.specs.declared.names.VarName.{VarName}
use Rattle.tree_node.specs.declared.node.Feature.{Feature}
use Rattle.tree_node.specs.Each.{AreDistinct}
use Rattle.tree_node.specs.Node.{IsInOrder, features_of}
use Rattle.tree_node.specs.Goal.{equal_features}

-- a record has a feature once
abbrev pub FeaturesAreDistinct : Type 0
FeaturesAreDistinct = (xs : List (Feature × VarName)) → IsInOrder xs → AreDistinct (features_of xs)

-- features at the same places are the same set of features
abbrev pub PlacesTellFeatures : Type 0
PlacesTellFeatures = (xs ys : List (Feature × VarName)) → IsInOrder xs → IsInOrder ys →
    IsTrue (equal_features xs ys) ↔ ((f : Feature) → Contains (features_of xs) f ↔ Contains (features_of ys) f)

-- records of the same fields have them in the same order
abbrev pub OrderTellsFields : Type 0
OrderTellsFields = (xs ys : List (Feature × VarName)) → IsInOrder xs → IsInOrder ys →
    ((f : Feature × VarName) → Contains xs f ↔ Contains ys f) → xs ≡ ys
