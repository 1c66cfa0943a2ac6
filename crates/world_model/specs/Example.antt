-- The totals of a worked run of two sites.
use Rattle.std.specs.Prelude.{◌≡◌}
use Rattle.site_model.specs.Example.{turn_12, turn_14}
use Rattle.world_model.specs.Schedule.{sum_to}
use Rattle.world_model.specs.Simulated.{last_ended, last_waiting}

-- the totals that the turns told last: at the end both threads ended and none waits, a little before one waits for the token
pub record TotalsReturn : Type 0 where
  pub ended : sum_to 2 (last_ended turn_14.journal) ≡ 2
  pub waiting : sum_to 2 (last_waiting turn_14.journal) ≡ 0
  pub before : sum_to 2 (last_ended turn_12.journal) ≡ 1
  pub waits : sum_to 2 (last_waiting turn_12.journal) ≡ 1
