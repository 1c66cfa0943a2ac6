use Rattle.std.proofs.Common.{◌≡◌, ◌+◌, ◌≤◌, length, map, take}
use Rattle.std.specs.Prelude.{vec_len, vec_capacity}
use Rattle.pick_list.specs.Compact.{wide}
use Rattle.pick_list.specs.Namings.{widened}
use Rattle.pick_list.proofs.namings.NamingColumn.small.Given as goal

abbrev pub invariant-loop-naming : goal.invariant-loop-naming
invariant-loop-naming l = record {
  items : map wide l.small.items ≡ map widened (take l.naming-index l.naming-items);
  room : vec_len l.small + length l.naming-items ≤ vec_capacity l.small + l.naming-index;
}
