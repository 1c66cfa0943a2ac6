use Rattle.std.proofs.Common.{◌≡◌, subst, rules}
use Rattle.book_lock.specs.Rule.{AreInAgreement, Each}
use Rattle.book_lock.specs.Seats.{last_seen}
use Rattle.book_lock.proofs.Deals.{finished}
use Rattle.book_lock.proofs.lock.CountedLock.finish.Goals as goal

pub unwrap-value-requires : goal.unwrap-value-requires
unwrap-value-requires g c =
    let t = finished g.B.Story.sight _ _ c.gather-all.result.me _ c.args.seats.items _ _ c.take.result c.gather-all.ensures.parts c.requires.all.0 c.requires.outside c.close_with-closed.ensures.values.2 c.take.ensures.value in
    rw t.1 (search rules)

pub returns : goal.returns
returns g c =
    let t = finished g.B.Story.sight _ _ c.gather-all.result.me _ c.args.seats.items _ _ c.take.result c.gather-all.ensures.parts c.requires.all.0 c.requires.outside c.close_with-closed.ensures.values.2 c.take.ensures.value in
    let same : t.0 ≡ c.unwrap-value.result = cc (t.1, c.unwrap-value.ensures) in
    subst (λ b. Each (λ s. AreInAgreement s.site (g.B.Story.sight b) (last_seen s)) c.args.seats.items) same t.2
