use Rattle.std.proofs.Common.{◌≡◌}
use Rattle.plain_run.specs.Order.{CanBeMade}
use Rattle.plain_run.proofs.seeded.Draws.draw_free.Given as goal

abbrev pub invariant-loop : goal.invariant-loop
invariant-loop l = record {
  can : CanBeMade l.limits l.world l.choice;
  last : l.self.last ≡ l.fn.self.last;
}
