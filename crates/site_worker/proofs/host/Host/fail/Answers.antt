use Rattle.std.proofs.Common.{[], ◌∷◌, refl, ap, ◌∙◌}
use Rattle.site_message.specs.declared.limits.Limits.{Limits}
use Rattle.site_message.specs.declared.story.Sight.{Sight}
use Rattle.message_book.specs.Book.{sight_of}
use Rattle.book_lock.specs.declared.lock.SiteSeat.{SiteSeat}
use Rattle.book_lock.specs.Seats.{last_seen}
use Rattle.site_worker.specs.Inside.{HasClosed}
use Rattle.site_worker.proofs.HostLemmas.{since_way, failed_by}
use Rattle.site_worker.proofs.host.Host.fail.Goals as goal

pub returns-clause-host : goal.returns-clause-host
returns-clause-host g c =
    let y = c.seat-seat.result.now in
    let x = c.leave.new.seat in
    let found : Sight = sight_of c.enter-held.result.value in
    let left : Sight = sight_of c.fail-reason.new.book in
    let closed = c.fail-reason.ensures.closed in
    let way = since_way y.site (last_seen y) found left (last_seen x) (λ now new. HasClosed now new c.fail-reason.result) c.enter-held.ensures.agrees (closed.0, closed.3, closed.1)
    (ap (λ (l : Limits). l.sites ∷ l.steps ∷ l.messages ∷ []) closed.2) c.leave.ensures.seen in
    let t = failed_by _ c.args.self.now y x c.seat-seat.ensures.value c.requires (c.leave.ensures.seat.0, c.leave.ensures.seat.1 ∙ c.enter-held.ensures.inside.1) c.fail-reason.result way in
    (t.0, record { number = refl; program = refl; sites = refl; fixed = way.3 ∙ ap (λ (z : SiteSeat). (last_seen z).fixed) c.seat-seat.ensures.value })
