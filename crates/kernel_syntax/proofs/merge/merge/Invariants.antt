use Rattle.std.proofs.Common.{◌≡◌, ◌+◌, ◌-◌, ◌≤◌, ◌++◌, length, drop}
use Rattle.kernel_syntax.specs.Free.{with_positions}
use Rattle.kernel_syntax.proofs.merge.merge.Given as goal

abbrev pub invariant-loop-i : goal.invariant-loop-i
invariant-loop-i l = record {
  some : l.i ≤ length l.some;
  others : l.j ≤ length l.more;
  rest : l.positions.items ++ with_positions (drop l.i l.some) (drop l.j l.more) ≡ l.fn.positions.items ++ with_positions l.some l.more;
}

abbrev pub decreases-loop-i : goal.decreases-loop-i
decreases-loop-i l = (length l.some - l.i) + (length l.more - l.j)
