-- Nodes: equal text, the number of fields, the order of features, and which values are nodes at all (CTM sections
-- 2.3 and 6.3).
use Rattle.std.specs.Prelude.{◌≡◌, ℕ, List, [], ◌∷◌, length, map}
use Rattle.std.specs.declared.cmp.Ordering.{Ordering}
use Rattle.std.specs.declared.cmp.Ordering.TheVariants.{Less, Greater}
use Rattle.std.specs.Ordering.{nat_cmp, int_cmp}
use Rattle.std.specs.Cmp.Lexicographic.{slice_cmp}
use Rattle.tree_node.specs.declared.names.VarName.{VarName}
use Rattle.tree_node.specs.declared.node.Feature.{Feature}
use Rattle.tree_node.specs.declared.node.Feature.TheVariants as feature
use Rattle.tree_node.specs.declared.node.Node.{Node}
use Rattle.tree_node.specs.declared.node.Node.TheVariants.{Int, Atom, Rec, Proc, Cell, Port}
use Rattle.tree_node.specs.Each.{Each}

-- the same integer, the same atom, records of equal label, features and variables, procedures of one
-- name, or cells or ports of one name
abbrev pub SameText : Node → Node → Type 0
SameText (Int a) (Int b) = a ≡ b
SameText (Atom a) (Atom b) = a ≡ b
SameText (Rec a xs) (Rec b ys) = (a ≡ b) × (xs ≡ ys)
SameText (Proc m i a us) (Proc n j b vs) = a ≡ b
SameText (Cell a) (Cell b) = a ≡ b
SameText (Port a) (Port b) = a ≡ b
SameText _ _ = ⊥

-- the number of a record's fields, and 0 for every other node
abbrev pub arity_of : Node → ℕ
arity_of (Rec label fields) = length fields
arity_of _ = 0

-- the features of fields, in their order
abbrev pub features_of : List (Feature × VarName) → List Feature
features_of fields = map (λ (f : Feature × VarName). f.0) fields

-- integers ascending, then atoms by their bytes
abbrev pub feature_cmp : Feature → Feature → Ordering
feature_cmp (feature.Int a) (feature.Int b) = int_cmp a b
feature_cmp (feature.Int a) (feature.Atom b) = Less
feature_cmp (feature.Atom a) (feature.Int b) = Greater
feature_cmp (feature.Atom a) (feature.Atom b) = slice_cmp nat_cmp a b

-- each feature is below all later ones
abbrev pub AreAscending : List Feature → Type 0
AreAscending [] = Unit {0}
AreAscending (f ∷ fs) = Each (λ g. feature_cmp f g ≡ Less) fs × AreAscending fs

-- fields in the order of their features
abbrev pub IsInOrder : List (Feature × VarName) → Type 0
IsInOrder fields = AreAscending (features_of fields)
