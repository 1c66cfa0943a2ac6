use Rattle.std.proofs.Common.{◌≡◌, ◌<◌, ◌≤◌, ap, sym, ℕ, List, length, map, subst, false, true}
use Rattle.std.specs.Prelude.{Option, MatchOption, Some}
use Rattle.site_message.specs.declared.message.Sent.{Sent}
use Rattle.world_core.specs.Mail.{MailState, message_at, is_queued, queue_at}
use Rattle.world_core.specs.Travels.{travel_of, IsAt, IsNoneFor, IsFirstFor}
use Rattle.world_core.proofs.MailLemmas.{none_queued, first_queued, queue_read}
use Rattle.world_core.proofs.mail.Mail.next_for.Goals as goal

pub returns-in_err-number : goal.returns-in_err-number
returns-in_err-number c =
    let ms = c.self.inside.messages.entries in
    let qs = c.self.inside.queues.items in
    let same : ms ≡ c.args.self.now.messages = ap (λ (m : MailState). m.messages) c.self.view_is in
    let inside : c.args.site < length qs = subst (λ (n : ℕ). c.args.site < n) (sym (ap (λ (m : MailState). m.queues) c.self.view_is)) c.requires in
    let read : queue_at qs c.args.site ≡ c.index.result.now = queue_read qs c.args.site c.index.result.now inside c.index.ensures in
    let none : (k : ℕ) → is_queued (queue_at qs c.args.site) k ≡ false = subst (λ (q : List ℕ). (k : ℕ) → is_queued q k ≡ false) (sym read) c.in_err-number.ensures in
    subst (λ (r : Option ℕ). MatchOption r (IsNoneFor (map travel_of c.args.self.now.messages) c.args.site) (λ place. IsFirstFor (map travel_of c.args.self.now.messages) c.args.site place)) (sym c.from_residual.ensures)
    (subst (λ (es : List (ℕ × Sent)). IsNoneFor (map travel_of es) c.args.site) same (none_queued ms c.self.inside.travels.items qs c.self.invariant c.args.site inside none))

pub returns : goal.returns
returns c =
    let ms = c.self.inside.messages.entries in
    let qs = c.self.inside.queues.items in
    let same : ms ≡ c.args.self.now.messages = ap (λ (m : MailState). m.messages) c.self.view_is in
    let inside : c.args.site < length qs = subst (λ (n : ℕ). c.args.site < n) (sym (ap (λ (m : MailState). m.queues) c.self.view_is)) c.requires in
    let read : queue_at qs c.args.site ≡ c.index.result.now = queue_read qs c.args.site c.index.result.now inside c.index.ensures in
    let P : Option ℕ → List (ℕ × Sent) → Type 0 = λ r es. MatchOption r (IsNoneFor (map travel_of es) c.args.site) (λ place. IsFirstFor (map travel_of es) c.args.site place) in
    let first = subst (λ (q : List ℕ). (is_queued q c.in_ok-number.number ≡ true) × ((k : ℕ) → is_queued q k ≡ true → c.in_ok-number.number ≤ k)) (sym read) c.in_ok-number.ensures in
    let placed = subst (λ (es : List (ℕ × Sent)). (m : Sent) → message_at es c.in_ok-number.number ≡ Some m → (place : ℕ) × (c.place_of.result ≡ Some place) × IsAt (map travel_of es) m.to place c.in_ok-number.number) (sym same) c.place_of.ensures.held in
    subst (P c.place_of.result) same (first_queued ms c.self.inside.travels.items qs c.self.invariant c.args.site inside c.in_ok-number.number first.0 first.1 c.place_of.result placed)
