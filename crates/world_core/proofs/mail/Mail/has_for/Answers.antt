use Rattle.std.proofs.Common.{rules, ◌≡◌, ◌<◌, ap, sym, ℕ, List, length, map, subst, false, true}
use Rattle.site_message.specs.declared.message.Sent.{Sent}
use Rattle.world_core.specs.Mail.{MailState, is_queued, queue_at}
use Rattle.world_core.specs.Travels.{travel_of, IsNoneFor}
use Rattle.world_core.proofs.MailLemmas.{none_queued, one_queued, queue_read}
use Rattle.world_core.proofs.mail.Mail.has_for.Goals as goal

pub returns-clause-none : goal.returns-clause-none
returns-clause-none c = λ no.
    let ms = c.self.inside.messages.entries in
    let qs = c.self.inside.queues.items in
    let same : ms ≡ c.args.self.now.messages = ap (λ (m : MailState). m.messages) c.self.view_is in
    let inside : c.args.site < length qs = subst (λ (n : ℕ). c.args.site < n) (sym (ap (λ (m : MailState). m.queues) c.self.view_is)) c.requires in
    let read : queue_at qs c.args.site ≡ c.index.result.now = queue_read qs c.args.site c.index.result.now inside c.index.ensures in
    let yes : c.is_empty.result ≡ true = search rules in
    let none : (k : ℕ) → is_queued (queue_at qs c.args.site) k ≡ false = subst (λ (q : List ℕ). (k : ℕ) → is_queued q k ≡ false) (sym read) (c.is_empty.ensures.none yes) in
    subst (λ (es : List (ℕ × Sent)). IsNoneFor (map travel_of es) c.args.site) same (none_queued ms c.self.inside.travels.items qs c.self.invariant c.args.site inside none)

pub returns-clause-some : goal.returns-clause-some
returns-clause-some c = λ yes none.
    let ms = c.self.inside.messages.entries in
    let qs = c.self.inside.queues.items in
    let same : ms ≡ c.args.self.now.messages = ap (λ (m : MailState). m.messages) c.self.view_is in
    let inside : c.args.site < length qs = subst (λ (n : ℕ). c.args.site < n) (sym (ap (λ (m : MailState). m.queues) c.self.view_is)) c.requires in
    let read : queue_at qs c.args.site ≡ c.index.result.now = queue_read qs c.args.site c.index.result.now inside c.index.ensures in
    let no : c.is_empty.result ≡ false = search rules in
    let there : (k : ℕ) × (is_queued (queue_at qs c.args.site) k ≡ true) = subst (λ (q : List ℕ). (k : ℕ) × (is_queued q k ≡ true)) (sym read) (c.is_empty.ensures.some no) in
    one_queued ms c.self.inside.travels.items qs c.self.invariant c.args.site inside there (subst (λ (es : List (ℕ × Sent)). IsNoneFor (map travel_of es) c.args.site) (sym same) none)
