use Rattle.oz_runner.proofs.ExcludeLemmas.{causes_exclude}
use Rattle.oz_runner.proofs.laws.causes_exclude.Goals as goal

pub returns : goal.returns
returns c =
    let bytes = c.bytes_save_or_fail.ensures in
    let again = c.again_is_exact.ensures in
    causes_exclude c.texts_have_one_of_both.ensures.one_of_both c.runs_are_determined.ensures.end bytes.run bytes.fault bytes.apart again.apart again.first
