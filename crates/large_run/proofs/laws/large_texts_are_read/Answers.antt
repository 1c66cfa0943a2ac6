use Rattle.large_run.proofs.LargeReads.{large_texts_read, large_texts_have_no_fault}
use Rattle.large_run.proofs.laws.large_texts_are_read.Goals as goal

pub returns : goal.returns
returns c =
    let law = c.texts_have_one_of_both.ensures in
    record { reads = large_texts_read law.kernel; no_fault = large_texts_have_no_fault law.kernel law.one_of_both }
