use Rattle.std.proofs.Common.{◌≡◌, ◌≤◌, ◌+◌, ℕ, length, take}
use Rattle.std.specs.Prelude.{reverse, slice_index_or}
use Rattle.world_model.specs.Schedule.{sum_to}
use Rattle.world_model.specs.Simulated.{last_ended, last_waiting}
use Rattle.plain_run.proofs.totals.last_totals.Given as goal

abbrev pub invariant-loop-turn : goal.invariant-loop-turn
invariant-loop-turn l = record {
  length : length l.told ≡ 65;
  told : (i : ℕ) → i ≤ 64 → slice_index_or l.told i (0, 0) ≡ (last_ended (reverse (take l.turn-index l.turn-items)) i, last_waiting (reverse (take l.turn-index l.turn-items)) i);
}

abbrev pub invariant-loop-site : goal.invariant-loop-site
invariant-loop-site l = record {
  ended : (k : ℕ) → l.site ≡ k + 1 → l.ended ≡ sum_to k (last_ended l.journal);
  waiting : (k : ℕ) → l.site ≡ k + 1 → l.waiting ≡ sum_to k (last_waiting l.journal);
}
