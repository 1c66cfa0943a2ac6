use Rattle.std.proofs.Common.{◌≡◌, ◌<◌, ◌∙◌, ap, sym, ℕ, List, length, subst, Some, None}
use Rattle.std.specs.Prelude.{slice_get, nat_eq}
use Rattle.std.specs.List.{swap_remove}
use Rattle.indexmap.specs.IndexMap.{Updates}
use Rattle.site_message.specs.declared.message.Sent.{Sent}
use Rattle.world_core.specs.Mail.{MailState, message_at}
use Rattle.world_core.proofs.MailLemmas.{kept_without, found_at, from_some}
use Rattle.world_core.proofs.mail.Mail.take.Goals as goal

taken : (c : goal.After-dequeue) → slice_get c.self.inside.messages.entries c.args.place ≡ Some c.unwrap-number.result
taken c = sym c.swap_remove_index.ensures.entry ∙ c.unwrap-number.ensures

pub invariant_of-self : goal.invariant_of-self
invariant_of-self c =
    let ms = c.self.inside.messages.entries in
    let some = c.unwrap-number.ensures in
    let inside : c.args.place < length ms = subst (λ (es : List (ℕ × Sent)). c.args.place < length es) (sym (ap (λ (m : MailState). m.messages) c.self.view_is)) c.requires in
    kept_without ms c.swap_remove_index.new.self.entries c.self.inside.travels.items c.swap_remove.new.self.items c.self.inside.queues.items c.dequeue.new.queues.items
    c.args.place c.unwrap-number.result.0 c.unwrap-number.result.1 c.swap_remove.result c.self.invariant inside (taken c) c.dequeue.ensures.length c.dequeue.ensures.here c.dequeue.ensures.others
    c.swap_remove.ensures.items
    (from_some c.swap_remove_index.result c.unwrap-number.result (λ e. c.swap_remove_index.new.self.entries ≡ swap_remove ms c.args.place e) some c.swap_remove_index.ensures.entries)
    c.swap_remove_index.ensures.unique
    (from_some c.swap_remove_index.result c.unwrap-number.result (λ e. Updates nat_eq c.self.inside.messages c.swap_remove_index.new.self e.0 None) some c.swap_remove_index.ensures.updates).0

pub returns-clause-found : goal.returns-clause-found
returns-clause-found c =
    let found = found_at c.self.inside.messages.entries c.args.place c.unwrap-number.result.0 c.unwrap-number.result.1 c.self.invariant.once (taken c) in
    ap (λ (m : MailState). message_at m.messages c.unwrap-number.result.0) (sym c.self.view_is) ∙ found
