use Rattle.std.proofs.Common.{◌≡◌, take}
use Rattle.std.specs.Prelude.{reverse}
use Rattle.pick_list.specs.Names.{names_in}
use Rattle.pick_list.proofs.names.NameColumn.to_vec.Given as goal

abbrev pub invariant-loop-run : goal.invariant-loop-run
invariant-loop-run l = l.names.items ≡ names_in (reverse (take l.run-index l.run-items))
