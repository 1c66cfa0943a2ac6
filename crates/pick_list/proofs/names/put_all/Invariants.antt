use Rattle.std.proofs.Common.{◌≡◌, ◌+◌, ◌≤◌, ◌++◌, length, take}
use Rattle.std.specs.Prelude.{reverse, vec_len, vec_capacity}
use Rattle.tree_node.specs.Each.{Each}
use Rattle.pick_list.specs.Names.{names_in, IsRun}
use Rattle.pick_list.proofs.names.put_all.Given as goal

abbrev pub invariant-loop-name : goal.invariant-loop-name
invariant-loop-name l = record {
  names : names_in (reverse l.runs.items) ≡ names_in (reverse l.fn.runs.items) ++ take l.name-index l.names;
  runs : Each IsRun (reverse l.runs.items);
  room : vec_len l.runs + length l.names ≤ vec_capacity l.runs + l.name-index;
}
