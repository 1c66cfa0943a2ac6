use Rattle.std.proofs.Common.{◌≡◌, length}
use Rattle.oz_grammar.specs.Points.{run, start}
use Rattle.kernel_check.specs.Seen.{points_of, IsWithin}
use Rattle.kernel_check.proofs.checking.check.Given as goal

abbrev pub invariant-points : goal.invariant-points
invariant-points l = record {
  within : IsWithin l.points;
  same : run l.symbols start ≡ run l.rest (points_of l.points);
}

abbrev pub decreases-points : goal.decreases-points
decreases-points l = length l.rest
