use Rattle.std.proofs.Common.{◌≡◌, ◌<◌, ◌≤◌, ℕ, List, length, get_or}
use Rattle.message_book.specs.Inbox.{HoldsSame}
use Rattle.message_book.specs.Inboxes.{place, inbox_at}
use Rattle.message_book.proofs.outgoing.make_room.Given as goal

abbrev pub invariant-loop-k : goal.invariant-loop-k
invariant-loop-k l = record {
  many : length l.inboxes ≡ length l.initial.inboxes;
  same : (i : ℕ) → HoldsSame (inbox_at l.initial.inboxes i) (inbox_at l.inboxes i);
  room : (m : ℕ) (d : ℕ × List ℕ) → m < l.k → (place l.sites (get_or l.letters m d).0 < length l.inboxes) × (length l.letters ≤ (inbox_at l.inboxes (place l.sites (get_or l.letters m d).0)).room);
}
