use Rattle.std.proofs.Common.{◌≡◌, ℕ, ◌+◌, ◌++◌, ◌≤◌, take}
use Rattle.std.specs.Prelude.{None}
use Rattle.std.specs.List.{enumerate_from}
use Rattle.world_core.specs.Mail.{message_at}
use Rattle.world_core.proofs.mail.Mail.push_all.Given as goal

abbrev pub invariant-loop-one : goal.invariant-loop-one
invariant-loop-one l = record {
  queues : l.self.queues ≡ l.initial.self.queues;
  number : l.number ≡ l.first + l.one-index;
  messages : l.self.messages ≡ l.initial.self.messages ++ enumerate_from l.first (take l.one-index l.sent);
  below : (k : ℕ) → l.number ≤ k → message_at l.self.messages k ≡ None;
}
