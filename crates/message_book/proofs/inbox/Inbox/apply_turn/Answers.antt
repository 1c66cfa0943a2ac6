use Rattle.std.proofs.Common.{◌∙◌, ap, sym, ℕ}
use Rattle.std.specs.Prelude.{Option}
use Rattle.message_book.specs.Inbox.{InboxState}
use Rattle.message_book.specs.Book.{without_delivered}
use Rattle.message_book.proofs.Quiet.{without_none}
use Rattle.message_book.proofs.inbox.Inbox.apply_turn.Goals.{in-Some, in_default}
use Rattle.message_book.proofs.inbox.Inbox.apply_turn.Goals as goal

pub returns-clause-hand : goal.returns-clause-hand
returns-clause-hand c =
    let old = c.args.self.now.hand in
    let here = ap (λ (b : InboxState). b.hand) c.self.view_is in
    elim c.match-delivered.branch [
      | in-Some w ↦ here ∙ (ap (λ (b : InboxState). b.hand) w.self-is ∙ (w.remove.ensures.hand ∙ ap (λ (o : Option ℕ). without_delivered o old) (sym w.in-Some.is)))
      | in_default w ↦ here ∙ (ap (λ (b : InboxState). b.hand) w.self-is ∙ (sym (without_none old) ∙ ap (λ (o : Option ℕ). without_delivered o old) (sym w.in_default.is)))
    ]
