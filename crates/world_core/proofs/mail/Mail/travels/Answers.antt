use Rattle.std.proofs.Common.{◌≡◌, ◌∙◌, ap, sym, ℕ, List, map, subst}
use Rattle.std.specs.Prelude.{◌↔◌, Contains, Some}
use Rattle.site_message.specs.declared.message.Msg.{Msg}
use Rattle.site_message.specs.declared.message.Sent.{Sent}
use Rattle.world_core.specs.declared.travel.Travel.{Travel}
use Rattle.world_core.specs.Mail.{MailState, message_at}
use Rattle.world_core.specs.Travels.{travel_of}
use Rattle.world_core.proofs.MailLemmas.{travels_tell, numbers_once}
use Rattle.world_core.proofs.mail.Mail.travels.Goals as goal

pub returns-clause-told : goal.returns-clause-told
returns-clause-told c k to =
    let ms = c.self.inside.messages.entries in
    let same : ms ≡ c.args.self.now.messages = ap (λ (m : MailState). m.messages) c.self.view_is in
    let shown : c.as_slice.result.now ≡ map travel_of ms = c.as_slice.ensures.value ∙ c.self.invariant.travels in
    let P : List Travel → List (ℕ × Sent) → Type 0 = λ ts es. Contains ts (record { number = k; to = to }) ↔ ((m : Msg) × (message_at es k ≡ Some (record { to = to; msg = m }))) in
    subst (P c.as_slice.result.now) same (subst (λ (ts : List Travel). P ts ms) (sym shown) (travels_tell ms c.self.invariant.once k to))

pub returns-clause-once : goal.returns-clause-once
returns-clause-once c = numbers_once c.self.inside.messages.entries c.as_slice.result.now (c.as_slice.ensures.value ∙ c.self.invariant.travels) c.self.invariant.once
