use Rattle.oz_runner.proofs.RightLemmas.{saved_right}
use Rattle.oz_runner.proofs.laws.saved_runs_are_right.Goals as goal

pub returns : goal.returns
returns c =
    let texts = c.texts_have_one_of_both.ensures in
    let bytes = c.bytes_save_or_fail.ensures in
    let again = c.again_is_exact.ensures in
    saved_right texts.one_of_both texts.programs bytes.run bytes.apart again.same again.right c.runs_take_rows.ensures.rows
