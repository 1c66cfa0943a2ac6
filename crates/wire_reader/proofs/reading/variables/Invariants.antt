use Rattle.std.proofs.Common.{◌≡◌, ◌-◌, List}
use Rattle.tree_node.specs.declared.names.VarName.{VarName}
use Rattle.wire_reader.specs.Reading.{var_name_at, items_at, variables_at}
use Rattle.wire_reader.proofs.reading.variables.Given as goal

abbrev pub invariant-loop : goal.invariant-loop
invariant-loop l = items_at (λ (front : List VarName). var_name_at) (l.count - l.counter) l.items.items l.cursor ≡ variables_at l.fn.cursor
