use Rattle.std.proofs.Common.{take}
use Rattle.run_check.specs.World.{HasMade, limits_of}
use Rattle.run_check.proofs.again.replay_all.Given as goal

abbrev pub invariant-loop-at : goal.invariant-loop-at
invariant-loop-at l = HasMade l.initial.world.program (limits_of l.run) (take l.at l.run.entries) l.world
