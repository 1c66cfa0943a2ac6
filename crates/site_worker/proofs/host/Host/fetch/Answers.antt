use Rattle.std.proofs.Common.{ℕ, ◌∙◌, sym, subst}
use Rattle.site_message.specs.declared.story.Sight.{Sight}
use Rattle.message_book.specs.Book.{sight_of}
use Rattle.book_lock.specs.Seats.{last_seen}
use Rattle.site_worker.specs.Inside.{HasCause, HasFetched}
use Rattle.site_worker.proofs.HostLemmas.{since_way, fetched_host}
use Rattle.site_worker.proofs.host.Host.fetch.Goals as goal

pub returns-clause-fetched : goal.returns-clause-fetched
returns-clause-fetched g c =
    let y = c.seat-seat.result.now in
    let x = c.leave.new.seat in
    let found : Sight = sight_of c.enter-held.result.value in
    let left : Sight = sight_of c.fetch-fetched.new.book in
    let fetched : HasFetched y.site found left c.fetch-fetched.result = subst (λ (k : ℕ). HasFetched k found left c.fetch-fetched.result) c.site-site.ensures c.fetch-fetched.ensures.fetched in
    fetched_host _ c.args.self.now y x c.fetch-fetched.result c.seat-seat.ensures.value c.requires (c.leave.ensures.seat.0, c.leave.ensures.seat.1 ∙ c.enter-held.ensures.inside.1)
    (subst HasCause (sym c.leave.ensures.seen) c.fetch-fetched.ensures.cause)
    (since_way y.site (last_seen y) found left (last_seen x) (λ now new. HasFetched y.site now new c.fetch-fetched.result) c.enter-held.ensures.agrees fetched c.fetch-fetched.ensures.lawful.fixed c.leave.ensures.seen)
