use Rattle.std.proofs.Common.{◌^◌, take}
use Rattle.central_machine.specs.Numbers.{NumbersBelow}
use Rattle.machine_tests.proofs.stories.expect_all_low.Given as goal

abbrev pub invariant-picks : goal.invariant-picks
invariant-picks g l = NumbersBelow (2 ^ 59) (take l.pick-index l.picks)
