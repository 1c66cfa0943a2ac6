use Rattle.std.proofs.Common.{arith, refl}
use Rattle.plain_run.proofs.DrawLemmas.{passing_can}
use Rattle.plain_run.proofs.seeded.DrawsOrder.next.Goals as goal

pub returns-clause-can : goal.returns-clause-can
returns-clause-can c = passing_can c.args.limits c.args.world.now c.draw_free-choice.result _ refl refl refl c.draw_free-choice.ensures.can

pub draw_passed-requires-clause-among : goal.draw_passed-requires-clause-among
draw_passed-requires-clause-among c =
    let among = c.draw_free-choice.ensures.can.among in
    omega (arith, among, c.requires.going.sites)

pub draw_passed-requires-clause-most : goal.draw_passed-requires-clause-most
draw_passed-requires-clause-most c =
    let most = c.requires.limits.most_sites in
    omega (arith, most, c.requires.going.sites)
