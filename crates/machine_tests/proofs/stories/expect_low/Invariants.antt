use Rattle.std.proofs.Common.{◌<◌, ◌^◌, take}
use Rattle.tree_node.specs.Each.{Each}
use Rattle.tree_node.specs.Order.{num_of}
use Rattle.tree_node.specs.declared.names.Name.{Name}
use Rattle.machine_tests.proofs.stories.expect_low.Given as goal

abbrev pub invariant-names : goal.invariant-names
invariant-names g l = Each (λ (x : Name). num_of x < 2 ^ 59) (take l.name-index l.names)
