use Rattle.std.proofs.lemmas.Result.{err_from_is_err_and}
use Rattle.wire_reader.specs.Reading.{field_at, fields_at}
use Rattle.wire_reader.proofs.LoopLaws.{items_step, items_stop, items_done}
use Rattle.wire_reader.proofs.reading.fields.Goals as goal

pub returns-in_err-next : goal.returns-in_err-next
returns-in_err-next c =
    let p = err_from_is_err_and c.from_residual-in_err-next.result c.from_residual-in_err-next.ensures.1 in
    rw (p.1, p.2) (items_stop (field_at c.args.form) c.in_ok-count.count c.loop.counter c.loop.items.items c.loop.cursor c.in_err-next.field-0.0 (fields_at c.args.form c.args.cursor.now) c.loop-test.true (rw c.deref.ensures.value at c.in_err-next.ensures) c.loop.invariant)

pub loop-preserved : goal.loop-preserved
loop-preserved c =
    rw c.in_ok-push.ensures.items (items_step (field_at c.args.form) c.in_ok-count.count c.loop.counter c.loop.items.items c.loop.cursor c.in_ok-next.next c.field.new.cursor (fields_at c.args.form c.args.cursor.now) c.loop-test.true (rw c.deref.ensures.value at c.in_ok-next.ensures) c.loop.invariant)

pub returns : goal.returns
returns c =
    rw c.in_ok-from_vec.ensures (items_done (field_at c.args.form) c.in_ok-count.count c.loop.counter c.loop.items.items c.loop.cursor (fields_at c.args.form c.args.cursor.now) c.loop-test.false c.loop.invariant)
