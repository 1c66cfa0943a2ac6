use Rattle.std.proofs.Common.{◌≡◌, ◌++◌}
use Rattle.pick_list.specs.Names.{row_of}
use Rattle.pick_list.proofs.names.push_run.Given as goal

abbrev pub invariant-loop-place : goal.invariant-loop-place
invariant-loop-place l = l.names.items ≡ l.fn.names.items ++ row_of l.run.first l.place
