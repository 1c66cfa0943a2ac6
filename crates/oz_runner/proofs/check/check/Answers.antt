use Rattle.std.proofs.Common.{subst, sym}
use Rattle.oz_runner.specs.Cause.{Cause}
use Rattle.oz_runner.specs.Ends.{output_of_work}
use Rattle.oz_runner.proofs.FileLemmas.{bad_file_cause, first_fault}
use Rattle.oz_runner.proofs.SaveLemmas.{nothing_ran}
use Rattle.oz_runner.proofs.check.check.Goals as goal

pub returns-in-Err-Bad-clause-cause : goal.returns-in-Err-Bad-clause-cause
returns-in-Err-Bad-clause-cause c =
    let out = c.work_without_run in
    let bad = c.in-Err-Bad in
    λ seen words says range is gave.
    subst (Cause seen (output_of_work out.result)) (sym out.ensures.status)
    (bad_file_cause seen (output_of_work out.result) words c.args.bytes.items bad.at says is gave
    (first_fault c.args.bytes.items bad.field-0 bad.at bad.field-0-is bad.ensures.fault)
    (nothing_ran out.result out.ensures.printed out.ensures.schedule))
