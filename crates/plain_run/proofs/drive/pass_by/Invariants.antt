use Rattle.std.proofs.Common.{◌≡◌}
use Rattle.plain_run.specs.Order.{AreSameButOrders}
use Rattle.plain_run.proofs.drive.pass_by.Given as goal

abbrev pub invariant-loop : goal.invariant-loop
invariant-loop l = record {
  same : AreSameButOrders l.initial.world l.world;
}
