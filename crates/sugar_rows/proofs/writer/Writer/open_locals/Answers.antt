use Rattle.std.proofs.Common.{◌≡◌, ◌+◌, ◌-◌, arith, rules}
use Rattle.sugar_rows.proofs.Declaring.{one_local}
use Rattle.sugar_rows.proofs.writer.Writer.open_locals.Goals as goal

pub loop-preserved : goal.loop-preserved
loop-preserved c =
    let s : c.args.count - c.loop.counter ≡ (c.args.count - (c.loop.counter + 1)) + 1 = omega arith in
    let e = one_local (c.args.count - c.loop.counter) (c.args.count - (c.loop.counter + 1)) c.loop.self.around c.loop.self.rows s in
    let i = c.loop.invariant.around in
    let same : c.self.inside.around ≡ c.loop.self.around = search rules in
    record {
      write = search (rules, e);
      places = search rules;
      around = search (rules, i, same);
      grows = (let g = c.loop.invariant.grows in search (rules, g));
    }
