use Rattle.std.proofs.Common.{◌∙◌, sym}
use Rattle.book_lock.specs.Seats.{lock_id}
use Rattle.site_worker.proofs.NextVisits.{same_trans, so_far_first, last_begun, so_far_next, last_visit, nothing_last}
use Rattle.site_worker.proofs.visits.visit_in_a_row.Goals as goal

pub loop-init : goal.loop-init
loop-init g c =
    let same = c.fetch-fetched.ensures.same in (
      record { number = same.0.number; program = same.0.program; sites = same.0.sites; fixed = same.0.fixed },
      so_far_first (lock_id c.args.lock.now) c.args.host.now c.fetch-fetched.new.self c.fetch-fetched.result same.0 same.1 c.fetch-fetched.ensures.fetched c.fetch-fetched.ensures.begins,
    )

pub turn_and_fetch-fetched-requires-clause-begun : goal.turn_and_fetch-fetched-requires-clause-begun
turn_and_fetch-fetched-requires-clause-begun g c = last_begun (lock_id c.args.lock.now) c.args.host.now c.loop.host c.loop.fetched c.in-Open.taken c.in-Open.limit c.in-Open.is c.loop.invariant.1

pub loop-preserved : goal.loop-preserved
loop-preserved g c =
    let made = c.turn_and_fetch-fetched in (
      same_trans c.args.host.now c.loop.host made.new.self c.loop.invariant.0 made.ensures.same,
      so_far_next (lock_id c.args.lock.now) c.args.host.now c.loop.host c.loop.fetched c.in-Open.taken c.in-Open.limit c.in-Open.is c.loop.invariant.1 made.new.self made.result made.ensures.visited,
    )

pub returns-then-idle-clause-visited : goal.returns-then-idle-clause-visited
returns-then-idle-clause-visited g c =
    nothing_last (lock_id c.args.lock.now) c.args.host.now c.loop.host c.loop.fetched c.in-Open.taken c.in-Open.limit c.in-Open.is c.loop.invariant.1 c.if-is_none.ensures (sym c.idle.ensures ∙ c.if-idle.true)

pub end_visit-visited-requires : goal.end_visit-visited-requires
end_visit-visited-requires g c =
    last_begun (lock_id c.args.lock.now) c.args.host.now c.loop.host c.loop.fetched c.in-Open-fetched.taken c.in-Open-fetched.limit c.in-Open-fetched.is c.loop.invariant.1

pub returns-then-eq-clause-visited : goal.returns-then-eq-clause-visited
returns-then-eq-clause-visited g c =
    last_visit (lock_id c.args.lock.now) c.args.host.now c.loop.host c.loop.fetched c.in-Open-fetched.taken c.in-Open-fetched.limit c.in-Open-fetched.is c.loop.invariant.1 c.end_visit-visited.new.self c.end_visit-visited.result c.end_visit-visited.ensures.visited

pub returns-else-eq-clause-visited : goal.returns-else-eq-clause-visited
returns-else-eq-clause-visited g c =
    last_visit (lock_id c.args.lock.now) c.args.host.now c.loop.host c.loop.fetched c.in-Open-fetched.taken c.in-Open-fetched.limit c.in-Open-fetched.is c.loop.invariant.1 c.end_visit-visited.new.self c.end_visit-visited.result c.end_visit-visited.ensures.visited
