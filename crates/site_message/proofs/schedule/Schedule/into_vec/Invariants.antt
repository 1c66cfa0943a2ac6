use Rattle.std.proofs.Common.{◌≡◌, take}
use Rattle.site_message.specs.Schedule.{picks_in}
use Rattle.site_message.proofs.schedule.Schedule.into_vec.Given as goal

abbrev pub invariant-loop-turn : goal.invariant-loop-turn
invariant-loop-turn l = l.picks.items ≡ picks_in l.initial.picks.items (take l.turn-index l.turn-items)
