use Rattle.std.proofs.Common.{◌≡◌}
use Rattle.plain_run.specs.Progress.{IsGoing, all_runnable, standing_of, turns_left}
use Rattle.plain_run.proofs.drive.advance.Given as goal

abbrev pub invariant-loop-progress : goal.invariant-loop-progress
invariant-loop-progress g l = record {
  program : l.world.program ≡ l.initial.world.program;
  going : IsGoing l.limits l.initial.world.program l.world;
  left : turns_left l.limits l.world ≡ turns_left l.limits l.initial.world;
  recalls : g.O.Order.recalls l.order l.limits l.world.journal;
  follows : g.O.Order.follows l.initial.world.program l.limits l.world.journal (standing_of l.world);
}

abbrev pub decreases-loop-progress : goal.decreases-loop-progress
decreases-loop-progress g l = all_runnable l.limits l.world
