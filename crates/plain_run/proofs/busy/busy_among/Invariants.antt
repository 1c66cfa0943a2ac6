use Rattle.std.proofs.Common.{◌<◌, ◌≤◌, ℕ}
use Rattle.plain_run.specs.Progress.{IsAtEase}
use Rattle.plain_run.proofs.busy.busy_among.Given as goal

abbrev pub invariant-loop-site : goal.invariant-loop-site
invariant-loop-site l = (i : ℕ) → l.from ≤ i → i < l.site → IsAtEase l.world i
