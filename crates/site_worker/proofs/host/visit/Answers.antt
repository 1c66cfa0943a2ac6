use Rattle.std.proofs.Common.{inl}
use Rattle.book_lock.specs.Seats.{lock_id}
use Rattle.site_worker.proofs.NextVisits.{begun_first}
use Rattle.site_worker.proofs.host.visit.Goals as goal

pub returns-in-Over-clause-visited : goal.returns-in-Over-clause-visited
returns-in-Over-clause-visited g c = let found = c.in-Over.ensures.fetched in (found.1, inl (found.2, found.3))

pub end_visit-requires : goal.end_visit-requires
end_visit-requires g c =
    (c.args.host.now, begun_first (lock_id c.args.lock.now) c.args.host.now c.fetch.new.self c.in-Open.taken c.in-Open.limit c.fetch.ensures.same.0 c.fetch.ensures.same.1 c.in-Open.ensures.fetched c.fetch.ensures.begins)

pub returns-in-Open-clause-visited : goal.returns-in-Open-clause-visited
returns-in-Open-clause-visited g c =
    c.end_visit.ensures.visited c.args.host.now
    (begun_first (lock_id c.args.lock.now) c.args.host.now c.fetch.new.self c.in-Open.taken c.in-Open.limit c.fetch.ensures.same.0 c.fetch.ensures.same.1 c.in-Open.ensures.fetched c.fetch.ensures.begins)
