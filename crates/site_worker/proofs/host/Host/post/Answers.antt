use Rattle.std.proofs.Common.{◌∙◌, sym, ap, subst, inr, refl}
use Rattle.site_message.specs.declared.story.Sight.{Sight}
use Rattle.message_book.specs.Book.{sight_of}
use Rattle.book_lock.specs.declared.lock.SiteSeat.{SiteSeat}
use Rattle.book_lock.specs.Seats.{last_seen}
use Rattle.site_worker.specs.declared.inside.PostOutcome.TheVariants.{Posted, Refused}
use Rattle.site_worker.specs.Inside.{HasCause, HasPosted}
use Rattle.site_worker.proofs.HostLemmas.{since_way, in_hand, over_by, posted_by, refused_by}
use Rattle.site_worker.proofs.host.Host.post.Goals as goal

pub post-posted-requires-clause-delivered : goal.post-posted-requires-clause-delivered
post-posted-requires-clause-delivered g c = in_hand _ c.args.self.now c.args.turn c.seat-seat.result.now (sight_of c.enter-held.result.value) c.seat-seat.ensures.value c.requires c.enter-held.ensures.agrees

pub returns-in-None-clause-host : goal.returns-in-None-clause-host
returns-in-None-clause-host g c =
    let y = c.seat-seat.result.now in
    let x = c.leave.new.seat in
    let found : Sight = sight_of c.enter-held.result.value in
    let left : Sight = sight_of c.post-posted.new.book in
    let way = since_way y.site (last_seen y) found left (last_seen x) (λ now new. HasPosted c.args.turn now new (Posted c.in-Posted.ended)) c.enter-held.ensures.agrees c.in-Posted.ensures.delivered c.post-posted.ensures.lawful.fixed c.leave.ensures.seen in
    let t = posted_by _ c.args.self.now c.args.turn y x c.seat-seat.ensures.value c.requires (c.leave.ensures.seat.0, c.leave.ensures.seat.1 ∙ c.enter-held.ensures.inside.1) c.in-Posted.ended way in
    (t.0, record { number = refl; program = refl; sites = refl; fixed = way.3 ∙ ap (λ (z : SiteSeat). (last_seen z).fixed) c.seat-seat.ensures.value })

pub returns-in-None-clause-visited : goal.returns-in-None-clause-visited
returns-in-None-clause-visited g c =
    let y = c.seat-seat.result.now in
    let x = c.leave.new.seat in
    let found : Sight = sight_of c.enter-held.result.value in
    let left : Sight = sight_of c.post-posted.new.book in
    let way = since_way y.site (last_seen y) found left (last_seen x) (λ now new. HasPosted c.args.turn now new (Posted c.in-Posted.ended)) c.enter-held.ensures.agrees c.in-Posted.ensures.delivered c.post-posted.ensures.lawful.fixed c.leave.ensures.seen in
    let t = posted_by _ c.args.self.now c.args.turn y x c.seat-seat.ensures.value c.requires (c.leave.ensures.seat.0, c.leave.ensures.seat.1 ∙ c.enter-held.ensures.inside.1) c.in-Posted.ended way in
    (t.1 ∙ c.in-None.is, t.2, t.3)

pub returns-in-None-clause-begins : goal.returns-in-None-clause-begins
returns-in-None-clause-begins g c =
    let y = c.seat-seat.result.now in
    let x = c.leave.new.seat in
    let found : Sight = sight_of c.enter-held.result.value in
    let left : Sight = sight_of c.post-posted.new.book in
    let way = since_way y.site (last_seen y) found left (last_seen x) (λ now new. HasPosted c.args.turn now new (Posted c.in-Posted.ended)) c.enter-held.ensures.agrees c.in-Posted.ensures.delivered c.post-posted.ensures.lawful.fixed c.leave.ensures.seen in
    let t = posted_by _ c.args.self.now c.args.turn y x c.seat-seat.ensures.value c.requires (c.leave.ensures.seat.0, c.leave.ensures.seat.1 ∙ c.enter-held.ensures.inside.1) c.in-Posted.ended way in
    t.4

pub returns-in-Some-clause-host : goal.returns-in-Some-clause-host
returns-in-Some-clause-host g c =
    let y = c.seat-seat.result.now in
    let x = c.leave.new.seat in
    let found : Sight = sight_of c.enter-held.result.value in
    let left : Sight = sight_of c.post-posted.new.book in
    let way = since_way y.site (last_seen y) found left (last_seen x) (λ now new. HasPosted c.args.turn now new (Posted c.in-Posted.ended)) c.enter-held.ensures.agrees c.in-Posted.ensures.delivered c.post-posted.ensures.lawful.fixed c.leave.ensures.seen in
    let t = posted_by _ c.args.self.now c.args.turn y x c.seat-seat.ensures.value c.requires (c.leave.ensures.seat.0, c.leave.ensures.seat.1 ∙ c.enter-held.ensures.inside.1) c.in-Posted.ended way in
    (t.0, record { number = refl; program = refl; sites = refl; fixed = way.3 ∙ ap (λ (z : SiteSeat). (last_seen z).fixed) c.seat-seat.ensures.value })

pub returns-in-Some-clause-visited : goal.returns-in-Some-clause-visited
returns-in-Some-clause-visited g c =
    let y = c.seat-seat.result.now in
    let x = c.leave.new.seat in
    let found : Sight = sight_of c.enter-held.result.value in
    let left : Sight = sight_of c.post-posted.new.book in
    let way = since_way y.site (last_seen y) found left (last_seen x) (λ now new. HasPosted c.args.turn now new (Posted c.in-Posted.ended)) c.enter-held.ensures.agrees c.in-Posted.ensures.delivered c.post-posted.ensures.lawful.fixed c.leave.ensures.seen in
    let t = posted_by _ c.args.self.now c.args.turn y x c.seat-seat.ensures.value c.requires (c.leave.ensures.seat.0, c.leave.ensures.seat.1 ∙ c.enter-held.ensures.inside.1) c.in-Posted.ended way in
    (over_by (last_seen x) c.in-Some.reason (subst HasCause (sym c.leave.ensures.seen) c.post-posted.ensures.cause) (t.1 ∙ c.in-Some.is), inr t.2)

pub returns-in-Some-clause-begins : goal.returns-in-Some-clause-begins
returns-in-Some-clause-begins g c =
    let y = c.seat-seat.result.now in
    let x = c.leave.new.seat in
    let found : Sight = sight_of c.enter-held.result.value in
    let left : Sight = sight_of c.post-posted.new.book in
    let way = since_way y.site (last_seen y) found left (last_seen x) (λ now new. HasPosted c.args.turn now new (Posted c.in-Posted.ended)) c.enter-held.ensures.agrees c.in-Posted.ensures.delivered c.post-posted.ensures.lawful.fixed c.leave.ensures.seen in
    let t = posted_by _ c.args.self.now c.args.turn y x c.seat-seat.ensures.value c.requires (c.leave.ensures.seat.0, c.leave.ensures.seat.1 ∙ c.enter-held.ensures.inside.1) c.in-Posted.ended way in
    t.4

pub returns-in-Refused-clause-host : goal.returns-in-Refused-clause-host
returns-in-Refused-clause-host g c =
    let y = c.seat-seat.result.now in
    let x = c.leave.new.seat in
    let found : Sight = sight_of c.enter-held.result.value in
    let left : Sight = sight_of c.post-posted.new.book in
    let way = since_way y.site (last_seen y) found left (last_seen x) (λ now new. HasPosted c.args.turn now new (Refused c.in-Refused.reason)) c.enter-held.ensures.agrees c.in-Refused.ensures.delivered c.post-posted.ensures.lawful.fixed c.leave.ensures.seen in
    let t = refused_by _ c.args.self.now c.args.turn y x c.seat-seat.ensures.value c.requires (c.leave.ensures.seat.0, c.leave.ensures.seat.1 ∙ c.enter-held.ensures.inside.1) c.in-Refused.reason way in
    (t.0, record { number = refl; program = refl; sites = refl; fixed = way.3 ∙ ap (λ (z : SiteSeat). (last_seen z).fixed) c.seat-seat.ensures.value })
