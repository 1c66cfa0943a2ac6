use Rattle.std.proofs.Common.{arith}
use Rattle.plain_run.proofs.seeded.Draws.draw_free.Goals as goal

pub is_among-requires-clause-some : goal.is_among-requires-clause-some
is_among-requires-clause-some c = c.loop.invariant.can.some

pub is_among-requires-clause-most : goal.is_among-requires-clause-most
is_among-requires-clause-most c =
    let among = c.loop.invariant.can.among in
    let most = c.requires.limits.most_sites in
    omega (arith, among, most)
