use Rattle.std.proofs.Common.{◌≡◌}
use Rattle.plain_run.specs.Progress.{IsGoing, standing_of, turns_left}
use Rattle.plain_run.proofs.drive.drive.Given as goal

abbrev pub invariant-loop-reason : goal.invariant-loop-reason
invariant-loop-reason g l = record {
  program : l.world.program ≡ l.initial.world.program;
  sites : l.world.sites ≡ l.initial.world.sites;
  going : IsGoing l.limits l.initial.world.program l.world;
  recalls : g.O.Order.recalls l.order l.limits l.world.journal;
  follows : g.O.Order.follows l.initial.world.program l.limits l.world.journal (standing_of l.world);
}

abbrev pub decreases-loop-reason : goal.decreases-loop-reason
decreases-loop-reason g l = turns_left l.limits l.world
