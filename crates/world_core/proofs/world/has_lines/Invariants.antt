use Rattle.std.proofs.Common.{◌≡◌, take}
use Rattle.world_core.proofs.world.has_lines.Given as goal

abbrev pub invariant-loop-at : goal.invariant-loop-at
invariant-loop-at l = take l.at l.turn.lines ≡ take l.at l.lines
