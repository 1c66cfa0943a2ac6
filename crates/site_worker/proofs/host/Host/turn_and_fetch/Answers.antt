use Rattle.book_lock.specs.Seats.{lock_id}
use Rattle.site_worker.specs.declared.visited.Visited.TheVariants.{Over}
use Rattle.site_worker.proofs.HostLemmas.{on_since, given_up_by}
use Rattle.site_worker.proofs.NextVisits.{none_since, next_visit}
use Rattle.site_worker.proofs.host.Host.turn_and_fetch.Goals as goal

pub returns-in-Some-clause-visited : goal.returns-in-Some-clause-visited
returns-in-Some-clause-visited g c a begun =
    next_visit (lock_id c.args.lock.now) a c.args.self.now c.counted_turn.new.self c.args.message c.args.limit c.in-Some.turn begun c.requires.cause c.counted_turn.ensures.same c.in-Some.ensures.recipients c.in-Some.ensures.turn c.post_and_fetch.new.self c.post_and_fetch.result c.post_and_fetch.ensures.next

pub returns-in-None-clause-visited : goal.returns-in-None-clause-visited
returns-in-None-clause-visited g c a begun =
    let s = c.args.self.now in
    let m = c.counted_turn.new.self in
    let d = c.fail.new.self in
    let kept = c.counted_turn.ensures.same in
    (c.fail.ensures.host.0, given_up_by a m d (Over c.fail.result) (none_since (lock_id c.args.lock.now) a s m d c.args.message c.args.limit begun kept) (on_since a s m d kept.1 begun.begins) c.fail.ensures.visited)

pub post_and_fetch-requires : goal.post_and_fetch-requires
post_and_fetch-requires g c = c.in-Some.ensures.turned (lock_id c.args.lock.now) c.requires.begun.1.half.0

pub fail-requires : goal.fail-requires
fail-requires g c = c.in-None.ensures.turned (lock_id c.args.lock.now) c.requires.begun.1.half.0
