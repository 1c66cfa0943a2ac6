use Rattle.std.proofs.Common.{◌≡◌, ◌+◌, [], ◌∷◌, rules, ◌∙◌, ap, arith, refl}
use Rattle.book_lock.specs.Rule.{outside, part}
use Rattle.book_lock.specs.Seats.{my_part}
use Rattle.book_lock.proofs.Deals.{deals_as, left_after, right_after, are_new_push}
use Rattle.book_lock.proofs.lock.CountedLock.deal.Goals as goal

pub split_seat-requires : goal.split_seat-requires
split_seat-requires g c = (search rules, search rules, deals_as g.B.Story.sight _ _ c.args.seats c.loop-k.k c.loop-k.first.me (my_part c.args.first.now.me).seen (search rules) c.loop-k.invariant.parts)

pub loop-k-preserved : goal.loop-k-preserved
loop-k-preserved g c =
    let table = c.args.self.now.table.shared.table_id in
    let x = (my_part c.args.first.now.me).seen in
    let inv = c.loop-k.invariant in
    let views : c.into_badge-badge.result.views ≡ outside (part (c.loop-k.k + 1) x ∷ []) ∷ [] =
    c.into_badge-badge.ensures.2 ∙ ap (λ v. v ∷ []) (ap (λ m. m.0) c.split_seat.ensures.4 ∙ right_after c.args.seats c.loop-k.k c.loop-k.first.me x c.loop-k-test.true inv.parts) in
    record {
      own = search rules;
      parts = c.split_seat.ensures.2 ∙ left_after c.args.seats c.loop-k.k c.loop-k.first.me x c.loop-k-test.true inv.parts;
      count = search rules;
      parkers = search rules;
      room = search rules;
      new = rw c.push_reserved.ensures.items (are_new_push table 1 x c.loop-k.list.items _ (c.loop-k.k + 1) inv.new (omega arith) refl (search rules) views);
    }
