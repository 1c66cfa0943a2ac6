use Rattle.std.proofs.Common.{◌≡◌, ◌∙◌, List, Option, None, sym, ap, subst}
use Rattle.site_message.specs.declared.turn.Turn.{Turn}
use Rattle.site_message.specs.declared.reason.Reason.{Reason}
use Rattle.site_message.specs.declared.limits.Limits.{Limits}
use Rattle.message_book.specs.Book.{IsReason}
use Rattle.site_worker.proofs.Moving.{taken}
use Rattle.site_worker.proofs.inside.fetch.Goals as goal

pub returns-clause-cause : goal.returns-clause-cause
returns-clause-cause c =
    let same = c.take.ensures.same in
    subst (λ (z : Limits × List Turn × Option Reason). IsReason z.0 z.1 z.2) (λ i. (sym same.0 i, sym same.1 i, sym same.2 i)) c.reason.ensures.cause

pub returns-clause-fetched : goal.returns-clause-fetched
returns-clause-fetched c =
    let none : c.args.book.now.reason ≡ None = sym c.reason.ensures.value ∙ c.in_default.is in
    let same = c.take.ensures.same in
    (none, same.2 ∙ none, same.1, (c.step_limit-limit.ensures.value ∙ ap (λ (l : Limits). l.steps) (sym same.0), c.step_limit-limit.ensures.range.1), taken c.args.site c.args.book.now c.take.new.self c.take.result c.take.ensures.taken)
