use Rattle.std.proofs.Common.{◌≡◌, ◌≤◌, ◌++◌, drop, length, map}
use Rattle.kernel_syntax.specs.Preorder.{sequence_body}
use Rattle.kernel_syntax.proofs.preorder.put_sequence.Given as goal

abbrev pub invariant-loop-left : goal.invariant-loop-left
invariant-loop-left l = record {
  within : l.left ≤ length l.bodies;
  put : l.coming ≡ map (sequence_body l.owner) (drop l.left l.bodies) ++ l.fn.coming;
}

abbrev pub decreases-loop-left : goal.decreases-loop-left
decreases-loop-left l = l.left
