use Rattle.std.proofs.Common.{arith}
use Rattle.wire_form.proofs.WriteLaws.{mobile_written, stationary_written}
use Rattle.wire_form.proofs.writing.put_cell_value.Goals as goal

pub put_cell-requires : goal.put_cell-requires
put_cell-requires c = (c.requires.site, c.if-x-eq0.true)

pub returns-in_ok-push : goal.returns-in_ok-push
returns-in_ok-push c =
    mobile_written c.args.form c.args.x c.args.out.now.items c.push.new.self.items c.put_cell.new.out.items c.put_cell.result c.if-x-eq0.true c.in_ok-push.ensures.items c.put_cell.ensures

pub put_stationary-requires-clause-home : goal.put_stationary-requires-clause-home
put_stationary-requires-clause-home c = (omega (arith, c.if-x-eq0.false), c.requires.home)

pub returns-in_ok-push-2 : goal.returns-in_ok-push-2
returns-in_ok-push-2 c =
    stationary_written c.args.form c.args.x c.args.out.now.items c.push-else-x-eq0.new.self.items c.put_stationary.new.out.items c.put_stationary.result c.if-x-eq0.false c.requires.room c.in_ok-push-2.ensures.items c.put_stationary.ensures
