use Rattle.std.proofs.Common.{◌≡◌, ℕ, ◌+◌, ◌++◌, ◌<◌, ◌^◌, length}
use Rattle.std.specs.VecDeque.{deque_len}
use Rattle.message_book.specs.Inboxes.{inbox_at, new_messages, HasRoom}
use Rattle.message_book.proofs.outgoing.enqueue_all.Given as goal

abbrev pub decreases-loop-to : goal.decreases-loop-to
decreases-loop-to l = deque_len l.letters

abbrev pub invariant-loop-to : goal.invariant-loop-to
invariant-loop-to l = record {
  many : length l.inboxes ≡ length l.initial.inboxes;
  room : HasRoom l.sites l.inboxes (length l.letters.items) l.letters.items;
  few : l.number + length l.letters.items < 2 ^ 64;
  hands : (i : ℕ) → (inbox_at l.inboxes i).hand ≡ (inbox_at l.initial.inboxes i).hand;
  idle : (i : ℕ) → (inbox_at l.inboxes i).idle ≡ (inbox_at l.initial.inboxes i).idle;
  waiting : (i : ℕ) → (inbox_at l.inboxes i).waiting ++ new_messages l.sites i l.number l.letters.items ≡ (inbox_at l.initial.inboxes i).waiting ++ new_messages l.sites i l.fn.first l.fn.letters.items;
}
