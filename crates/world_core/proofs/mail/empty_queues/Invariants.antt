use Rattle.std.proofs.Common.{◌≡◌, ℕ, [], length}
use Rattle.world_core.specs.Mail.{queue_at}
use Rattle.world_core.proofs.mail.empty_queues.Given as goal

abbrev pub invariant-loop : goal.invariant-loop
invariant-loop l = (length l.queues.items ≡ l.counter) × ((i : ℕ) → queue_at l.queues.items i ≡ [])
