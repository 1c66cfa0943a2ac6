use Rattle.std.proofs.Common.{◌∙◌, ap, subst, ℕ, ◌<◌, List, length}
use Rattle.std.specs.Prelude.{◌↔◌, IsTrue}
use Rattle.site_message.specs.Journal.{is_quiet}
use Rattle.message_book.specs.Inbox.{InboxState}
use Rattle.message_book.specs.Book.{BookState}
use Rattle.message_book.specs.Inboxes.{IsQuietInbox, inbox_at}
use Rattle.message_book.proofs.Quiet.{quiet_is}
use Rattle.message_book.proofs.book.Book.quiet.Goals as goal

pub returns : goal.returns
returns c =
    let told = subst (λ (bs : List InboxState). IsTrue c.are_quiet.result ↔ ((i : ℕ) → i < length bs → IsQuietInbox (inbox_at bs i))) c.as_slice.ensures.value c.are_quiet.ensures in
    quiet_is _ _ c.self.inside.inboxes.items c.self.invariant.places c.self.invariant.inboxes c.are_quiet.result told ∙ ap (λ (v : BookState). is_quiet v.limits.sites v.journal) c.self.view_is
