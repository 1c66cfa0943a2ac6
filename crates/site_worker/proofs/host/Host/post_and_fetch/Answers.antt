use Rattle.std.proofs.Common.{ℕ, ◌∙◌, sym, subst}
use Rattle.site_message.specs.declared.story.Sight.{Sight}
use Rattle.message_book.specs.Book.{sight_of}
use Rattle.book_lock.specs.Seats.{last_seen}
use Rattle.site_worker.specs.declared.inside.NextVisit.TheVariants as next
use Rattle.site_worker.specs.Inside.{HasCause, HasPostedAndFetched}
use Rattle.site_worker.proofs.HostLemmas.{since_way, in_hand}
use Rattle.site_worker.proofs.NextVisits.{posted_half, refused_half}
use Rattle.site_worker.proofs.host.Host.post_and_fetch.Goals as goal

pub post_and_fetch-next-requires-clause-delivered : goal.post_and_fetch-next-requires-clause-delivered
post_and_fetch-next-requires-clause-delivered g c = in_hand _ c.args.self.now c.args.turn c.seat-seat.result.now (sight_of c.enter-held.result.value) c.seat-seat.ensures.value c.requires c.enter-held.ensures.agrees

pub returns-in-Posted-clause-next : goal.returns-in-Posted-clause-next
returns-in-Posted-clause-next g c =
    let y = c.seat-seat.result.now in
    let x = c.leave.new.seat in
    let found : Sight = sight_of c.enter-held.result.value in
    let left : Sight = sight_of c.post_and_fetch-next.new.book in
    let at : HasPostedAndFetched y.site c.args.turn found left c.post_and_fetch-next.result = subst (λ (k : ℕ). HasPostedAndFetched k c.args.turn found left c.post_and_fetch-next.result) c.site-site.ensures c.post_and_fetch-next.ensures.delivered in
    let did : HasPostedAndFetched y.site c.args.turn found left (next.Posted c.in-Posted.fetched) = subst (HasPostedAndFetched y.site c.args.turn found left) c.in-Posted.is at in
    posted_half _ c.args.self.now c.args.turn y x c.seat-seat.ensures.value (c.leave.ensures.seat.0, c.leave.ensures.seat.1 ∙ c.enter-held.ensures.inside.1) c.requires
    (subst HasCause (sym c.leave.ensures.seen) c.post_and_fetch-next.ensures.cause) c.in-Posted.fetched
    (since_way y.site (last_seen y) found left (last_seen x) (λ now new. HasPostedAndFetched y.site c.args.turn now new (next.Posted c.in-Posted.fetched)) c.enter-held.ensures.agrees did c.post_and_fetch-next.ensures.lawful.fixed c.leave.ensures.seen)

pub returns-in-Refused-clause-next : goal.returns-in-Refused-clause-next
returns-in-Refused-clause-next g c =
    let y = c.seat-seat.result.now in
    let x = c.leave.new.seat in
    let found : Sight = sight_of c.enter-held.result.value in
    let left : Sight = sight_of c.post_and_fetch-next.new.book in
    let at : HasPostedAndFetched y.site c.args.turn found left c.post_and_fetch-next.result = subst (λ (k : ℕ). HasPostedAndFetched k c.args.turn found left c.post_and_fetch-next.result) c.site-site.ensures c.post_and_fetch-next.ensures.delivered in
    let did : HasPostedAndFetched y.site c.args.turn found left (next.Refused c.in-Refused.reason) = subst (HasPostedAndFetched y.site c.args.turn found left) c.in-Refused.is at in
    refused_half _ c.args.self.now c.args.turn y x c.seat-seat.ensures.value (c.leave.ensures.seat.0, c.leave.ensures.seat.1 ∙ c.enter-held.ensures.inside.1) c.requires
    (subst HasCause (sym c.leave.ensures.seen) c.post_and_fetch-next.ensures.cause) c.in-Refused.reason
    (since_way y.site (last_seen y) found left (last_seen x) (λ now new. HasPostedAndFetched y.site c.args.turn now new (next.Refused c.in-Refused.reason)) c.enter-held.ensures.agrees did c.post_and_fetch-next.ensures.lawful.fixed c.leave.ensures.seen)
