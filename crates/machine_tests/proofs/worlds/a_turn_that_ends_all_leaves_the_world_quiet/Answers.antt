use Rattle.std.proofs.Common.{arith, subst, sym, ◌≤◌, ◌^◌}
use Rattle.site_model.specs.Site.{Site}
use Rattle.machine_tests.proofs.worlds.a_turn_that_ends_all_leaves_the_world_quiet.Goals as goal

pub turn-requires-clause-room : goal.turn-requires-clause-room
turn-requires-clause-room g c = subst (λ (s : Site). s.steps ≤ 2 ^ 48) (sym (c.in-Ok.ensures.states 1)) (omega arith)
