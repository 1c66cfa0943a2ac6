use Rattle.std.proofs.Common.{refl}
use Rattle.kernel_syntax.specs.Program.{IsStmt}
use Rattle.kernel_syntax.proofs.Elements.{next_others}
use Rattle.kernel_syntax.proofs.PreorderLemmas.{rest_of, room_behind, goes_behind}
use Rattle.kernel_syntax.proofs.preorder.is_in_preorder.Goals as goal

pub loop-number-preserved : goal.loop-number-preserved
loop-number-preserved c =
    let at = next_others c.args.stmts.now c.loop-number.number c.index-stmts-number.result c.loop-number-test.true c.index-stmts-number.is in
    let limits = rest_of IsStmt c.args.stmts.now c.loop-number.number c.index-stmts-number.result at c.loop-number.invariant.stmts in
    let is = c.if-is_body.ensures.0 refl in
    record {
      stmts = limits.1;
      room = room_behind c.in-Some.body c.pop.new.self c.loop-number.coming c.put_bodies.new.coming c.index-stmts-number.result c.in-Some.ensures c.in_ok-put_bodies-in-Some.ensures limits.0 is c.loop-number.invariant.room;
      ahead = goes_behind c.args.stmts.now c.loop-number.number c.in-Some.body c.pop.new.self c.loop-number.coming c.put_bodies.new.coming c.index-stmts-number.result at c.in-Some.ensures c.in_ok-put_bodies-in-Some.ensures
          c.if-body-number.true is c.loop-number.invariant.ahead;
    }
