use Rattle.std.proofs.Common.{◌≡◌, ◌∙◌, ap, ℕ, List, ◌∷◌, [], ◌++◌}
use Rattle.site_message.specs.declared.message.Sent.{Sent}
use Rattle.world_core.specs.Mail.{MailState, message_at, with_message}
use Rattle.world_core.proofs.MailLemmas.{kept_with}
use Rattle.world_core.proofs.mail.Mail.push.Goals as goal

pub invariant_of-self-2 : goal.invariant_of-self-2
invariant_of-self-2 c =
    let ms = c.self.inside.messages.entries in
    let same : c.announce.new.messages.entries ≡ ms = c.announce.ensures.messages in
    kept_with ms c.put.new.messages.entries c.self.inside.travels.items c.announce.new.travels.items c.self.inside.queues.items c.announce.new.queues.items
    c.args.number c.args.sent c.self.invariant (ap (λ (m : MailState). message_at m.messages c.args.number) c.self.view_is ∙ c.requires) c.announce.ensures.length c.in_ok-announce.ensures.here c.in_ok-announce.ensures.others
    c.in_ok-announce.ensures.travels
    (c.put.ensures.entries ∙ ap (λ (es : List (ℕ × Sent)). es ++ (c.args.number, c.args.sent) ∷ []) same) c.put.ensures.once
    (λ k. c.put.ensures.numbers k ∙ ap (λ (es : List (ℕ × Sent)). with_message c.args.number c.args.sent es k) same)

pub returns-clause-ok : goal.returns-clause-ok
returns-clause-ok c = c.put.ensures.entries ∙ ap (λ (es : List (ℕ × Sent)). es ++ (c.args.number, c.args.sent) ∷ []) (c.announce.ensures.messages ∙ ap (λ (m : MailState). m.messages) c.self.view_is)
