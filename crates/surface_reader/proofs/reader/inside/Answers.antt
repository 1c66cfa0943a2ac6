use Rattle.std.proofs.Common.{◌≡◌, ◌+◌, ◌-◌, arith}
use Rattle.surface_reader.proofs.Levels.{below_is, fewer_is}
use Rattle.surface_reader.proofs.reader.inside.Goals as goal

pub returns : goal.returns
returns c =
    let more : c.args.depth ≡ c.args.depth - 1 + 1 = omega arith in
    (more, fewer_is c.args.depth (c.args.depth - 1) more, below_is c.args.depth (c.args.depth - 1) more)
