use Rattle.std.proofs.Common.{◌≡◌, ◌∙◌, ap, ℕ, List, map, subst}
use Rattle.std.specs.Prelude.{Some}
use Rattle.site_message.specs.declared.message.Sent.{Sent}
use Rattle.world_core.specs.declared.travel.Travel.{Travel}
use Rattle.world_core.specs.Mail.{MailState, message_at}
use Rattle.world_core.specs.Travels.{travel_of, IsAt, IsPlaceOf}
use Rattle.world_core.proofs.MailLemmas.{number_place, number_held, looked_through, place_held}
use Rattle.world_core.proofs.mail.Mail.place_of.Goals as goal
use Rattle.world_core.proofs.mail.Mail.place_of.Goals.{After-look_through}

-- looked through

placed : (c : After-look_through) → IsPlaceOf (map travel_of c.self.inside.messages.entries) c.args.number c.look_through.result
placed c =
    let shown : c.as_slice.result.now ≡ map travel_of c.self.inside.messages.entries = c.as_slice.ensures.value ∙ c.self.invariant.travels in
    subst (λ (ts : List Travel). IsPlaceOf ts c.args.number c.look_through.result) shown (looked_through c.args.number c.as_slice.result.now c.look_through.result c.look_through.ensures)

pub returns-then-are_few-clause-place : goal.returns-then-are_few-clause-place
returns-then-are_few-clause-place c =
    let is : c.self.inside.messages.entries ≡ c.args.self.now.messages = ap (λ (m : MailState). m.messages) c.self.view_is in
    subst (λ (es : List (ℕ × Sent)). IsPlaceOf (map travel_of es) c.args.number c.look_through.result) is (placed c)

pub returns-then-are_few-clause-held : goal.returns-then-are_few-clause-held
returns-then-are_few-clause-held c =
    let ms = c.self.inside.messages.entries in
    let is : ms ≡ c.args.self.now.messages = ap (λ (m : MailState). m.messages) c.self.view_is in
    subst (λ (es : List (ℕ × Sent)). (m : Sent) → message_at es c.args.number ≡ Some m → (place : ℕ) × (c.look_through.result ≡ Some place) × IsAt (map travel_of es) m.to place c.args.number) is
    (λ m q. place_held ms c.args.number c.self.invariant.once c.look_through.result (placed c) m q)

-- by its number

pub returns-clause-place : goal.returns-clause-place
returns-clause-place c =
    let ms = c.self.inside.messages.entries in
    let is : ms ≡ c.args.self.now.messages = ap (λ (m : MailState). m.messages) c.self.view_is in
    subst (λ (es : List (ℕ × Sent)). IsPlaceOf (map travel_of es) c.args.number c.get_index_of.result) is
    (number_place ms c.args.number c.self.invariant.once c.get_index_of.result c.get_index_of.ensures.index c.get_index_of.ensures.found c.get_index_of.ensures.value)

pub returns-clause-held : goal.returns-clause-held
returns-clause-held c =
    let ms = c.self.inside.messages.entries in
    let is : ms ≡ c.args.self.now.messages = ap (λ (m : MailState). m.messages) c.self.view_is in
    subst (λ (es : List (ℕ × Sent)). (m : Sent) → message_at es c.args.number ≡ Some m → (place : ℕ) × (c.get_index_of.result ≡ Some place) × IsAt (map travel_of es) m.to place c.args.number) is
    (λ m q. number_held ms c.args.number m c.get_index_of.result c.get_index_of.ensures.index c.get_index_of.ensures.found c.get_index_of.ensures.value q)
