use Rattle.std.proofs.Common.{◌-◌, ◌≤◌}
use Rattle.std.specs.Prelude.{reverse, vec_len}
use Rattle.tree_node.specs.Each.{Each}
use Rattle.pick_list.specs.Names.{names_in, IsRun, IsCutTo}
use Rattle.pick_list.proofs.names.cut.Given as goal

abbrev pub invariant-runs : goal.invariant-runs
invariant-runs l = record {
  cut : IsCutTo (names_in (reverse l.fn.runs.items)) (names_in (reverse l.runs.items)) (l.over - l.left);
  within : l.left ≤ l.over;
  runs : Each IsRun (reverse l.runs.items);
}

abbrev pub decreases-runs : goal.decreases-runs
decreases-runs l = vec_len l.runs
