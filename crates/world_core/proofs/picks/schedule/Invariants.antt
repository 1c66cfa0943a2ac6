use Rattle.std.proofs.Common.{◌≡◌, take}
use Rattle.std.specs.Prelude.{reverse}
use Rattle.world_model.specs.Schedule.{schedule}
use Rattle.world_core.proofs.picks.schedule.Given as goal

abbrev pub invariant-loop-turn : goal.invariant-loop-turn
invariant-loop-turn l = l.picks ≡ schedule (reverse (take l.turn-index l.turn-items))
