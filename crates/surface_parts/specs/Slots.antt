-- Fields of records, as the private functions keep them.
use Rattle.std.specs.Prelude.{ℕ, ◌+◌, List, [], ◌∷◌, if◌then◌else◌}
use Rattle.std.specs.Ordering.{is_lt}
use Rattle.tree_node.specs.declared.node.Feature.{Feature}
use Rattle.tree_node.specs.Node.{feature_cmp}
use Rattle.kernel_syntax.specs.declared.sugar.Field.{Field}
use Rattle.kernel_syntax.specs.declared.sugar.Value.{Value}
use Rattle.kernel_syntax.specs.SugarView.{values_in}
use Rattle.surface_grammar.specs.Reading.{FieldsSoFar}

-- how many fields stand before the first of a greater feature
abbrev pub slot_point : Feature → List (Feature × Field) → ℕ
slot_point f [] = 0
slot_point f ((g, p) ∷ slots) = if is_lt (feature_cmp f g) then 0 else slot_point f slots + 1

-- the fields so far, of these parts
abbrev pub so_far : List (Feature × Field) → List Value → ℕ → FieldsSoFar
so_far slots values next = (slots, values_in values, next)
