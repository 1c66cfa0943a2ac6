use Rattle.std.proofs.lemmas.Result.{err_from_is_err_and}
use Rattle.byte_fields.specs.TextReading.{word_at}
use Rattle.byte_fields.proofs.LoopLaws.{word_stop}
use Rattle.byte_fields.proofs.cursor.Cursor.word.Goals as goal

pub returns-in_err-expect : goal.returns-in_err-expect
returns-in_err-expect c =
    let p = err_from_is_err_and c.from_residual.result c.from_residual.ensures.1 in
    rw (p.1, p.2) (word_stop c.args.word.now c.loop-wanted.wanted-index 0 c.loop-wanted.self c.in_err-expect.field-0.0 (word_at c.args.word.now c.args.self.now) c.loop-wanted-test.true c.in_err-expect.ensures c.loop-wanted.invariant)
