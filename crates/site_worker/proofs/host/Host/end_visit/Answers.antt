use Rattle.std.proofs.Common.{◌≡◌, ◌∙◌, ℕ, List, Option, None, true, false, sym, subst}
use Rattle.std.specs.Prelude.{is_some}
use Rattle.book_lock.specs.Seats.{lock_id}
use Rattle.site_model.specs.Site.{is_idle}
use Rattle.site_worker.specs.Host.{state_of}
use Rattle.site_worker.specs.declared.visited.Visited.TheVariants.{Over}
use Rattle.site_worker.proofs.HostLemmas.{on_since, visited_by, given_up_by}
use Rattle.site_worker.proofs.NextVisits.{made_by, none_since}
use Rattle.site_worker.proofs.host.Host.end_visit.Goals.{else-is_none-via-then-is_none+else-idle, else-is_none-via-else-is_none}
use Rattle.site_worker.proofs.host.Host.end_visit.Goals as goal

pub returns-in-Some-clause-visited : goal.returns-in-Some-clause-visited
returns-in-Some-clause-visited g c a begun =
    let table = lock_id c.args.lock.now in
    let s = c.args.self.now in
    let m = c.counted_turn.new.self in
    let d = c.post.new.self in
    let e = c.in-Some.turn in
    let kept = c.counted_turn.ensures.same in
    let cause : c.args.taken ≡ None → is_idle (state_of s) ≡ false =
    (λ none. elim c.else-is_none.branch [ else-is_none-via-then-is_none+else-idle w ↦ sym w.idle.ensures ∙ w.if-idle.false | else-is_none-via-else-is_none w ↦ let some = subst (λ (z : Option (ℕ × List ℕ)). is_some z ≡ true) none w.if-is_none.ensures in cc ]) in
    visited_by
    a
    m
    d
    e
    c.post.result
    (kept.0.number ∙ begun.same.number)
    (λ posted. made_by table a s m d c.args.taken c.args.limit e begun cause kept c.in-Some.ensures.recipients c.in-Some.ensures.turn posted c.post.ensures.state c.post.ensures.begins c.post.ensures.recipients)
    (none_since table a s m d c.args.taken c.args.limit begun kept)
    (on_since a s m d kept.1 begun.begins)
    c.post.ensures.visited

pub returns-in-None-clause-visited : goal.returns-in-None-clause-visited
returns-in-None-clause-visited g c a begun =
    let s = c.args.self.now in
    let m = c.counted_turn.new.self in
    let d = c.fail.new.self in
    let kept = c.counted_turn.ensures.same in
    given_up_by a m d (Over c.fail.result) (none_since (lock_id c.args.lock.now) a s m d c.args.taken c.args.limit begun kept) (on_since a s m d kept.1 begun.begins) c.fail.ensures.visited

pub post-requires : goal.post-requires
post-requires g c = c.in-Some.ensures.turned (lock_id c.args.lock.now) c.requires.1.half.0

pub fail-requires : goal.fail-requires
fail-requires g c = c.in-None.ensures.turned (lock_id c.args.lock.now) c.requires.1.half.0
