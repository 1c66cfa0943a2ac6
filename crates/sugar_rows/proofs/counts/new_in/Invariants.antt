use Rattle.std.proofs.Common.{◌≡◌, ◌+◌, ◌≤◌, drop}
use Rattle.kernel_syntax.specs.Sugar.{new_in}
use Rattle.kernel_syntax.specs.SugarView.{values_in}
use Rattle.sugar_rows.proofs.counts.new_in.Given as goal

abbrev pub invariant-loop-value : goal.invariant-loop-value
invariant-loop-value l = record {
  value : l.count + new_in (values_in (drop l.value-index l.values)) ≡ new_in (values_in l.values);
  few : l.count ≤ l.value-index;
}
