-- The fields of a record, within or in a vector.
use Rattle.std.specs.Prelude.{ℕ, List}
use Rattle.tree_node.specs.declared.node.Feature.{Feature}
use Rattle.kernel_syntax.specs.declared.slots.Held.{Held}
use Rattle.kernel_syntax.specs.declared.slots.Held.TheVariants as held

-- those that are held
abbrev pub held_slots : Held → List (Feature × ℕ)
held_slots (held.One items) = items
held_slots (held.Two items) = items
held_slots (held.Many items) = items.items
