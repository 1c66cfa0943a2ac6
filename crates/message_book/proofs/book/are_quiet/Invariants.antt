use Rattle.std.proofs.Common.{ℕ, ◌<◌}
use Rattle.message_book.specs.Inboxes.{inbox_at, IsQuietInbox}
use Rattle.message_book.proofs.book.are_quiet.Given as goal

abbrev pub invariant-loop-inbox : goal.invariant-loop-inbox
invariant-loop-inbox l = (i : ℕ) → i < l.inbox-index → IsQuietInbox (inbox_at l.inboxes i)
