use Rattle.std.proofs.Common.{◌∙◌, ℕ, not, eqb, rules, ap}
use Rattle.std.specs.List.{filter}
use Rattle.std.proofs.lemmas.Fn.{filter_same}
use Rattle.message_book.specs.Inbox.{InboxState}
use Rattle.message_book.proofs.inbox.Inbox.remove.Goals as goal

pub returns-clause-hand : goal.returns-clause-hand
returns-clause-hand c =
    filter_same _ (λ (k : ℕ). not (eqb c.args.number k)) _ (λ x b f r. search rules) _ _ c.retain.ensures.filtered
    ∙ ap (λ (b : InboxState). filter (λ (k : ℕ). not (eqb c.args.number k)) b.hand) c.self.view_is
