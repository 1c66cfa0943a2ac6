use Rattle.std.proofs.Common.{◌≡◌, ℕ, ◌<◌, length}
use Rattle.message_book.specs.Inboxes.{inbox_at, IsNewInbox}
use Rattle.message_book.proofs.book.empty_inboxes.Given as goal

abbrev pub invariant-loop-place : goal.invariant-loop-place
invariant-loop-place l = (length l.inboxes.items ≡ l.place) × ((i : ℕ) → i < l.place → IsNewInbox i (inbox_at l.inboxes.items i))
