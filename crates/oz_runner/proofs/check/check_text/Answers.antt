use Rattle.std.proofs.Common.{List, ℕ, Err, subst, sym}
use Rattle.std.specs.Str.{IsUtf8}
use Rattle.oz_sugar.specs.Texts.{Reads}
use Rattle.oz_runner.specs.Cause.{Cause}
use Rattle.oz_runner.specs.Ends.{output_of_work}
use Rattle.oz_runner.specs.Reading.{IsReadAs}
use Rattle.oz_runner.proofs.FileLemmas.{found_cause, unread_file_cause}
use Rattle.oz_runner.proofs.SaveLemmas.{nothing_ran}
use Rattle.oz_runner.proofs.check.check_text.Goals as goal

pub returns-in-Ok-clause-cause : goal.returns-in-Ok-clause-cause
returns-in-Ok-clause-cause c =
    let ran = c.check_run in
    let read = subst (λ (text : List ℕ). IsUtf8 text × Reads text c.in-Ok.program) c.text.ensures c.in-Ok.ensures in
    λ seen words says range is gave.
    found_cause seen (output_of_work ran.result) words c.args.file.now c.in-Ok.program ran.result.status says range is gave c.requires read.0 read.1 ran.ensures.run
    ran.ensures.found

pub returns-in-Err-clause-cause : goal.returns-in-Err-clause-cause
returns-in-Err-clause-cause c =
    let out = c.work_without_run in
    let why = subst (λ (text : List ℕ). IsReadAs text (Err c.in-Err.status)) c.text.ensures c.in-Err.ensures in
    λ seen words says range is gave.
    subst (Cause seen (output_of_work out.result)) (sym out.ensures.status)
    (unread_file_cause seen (output_of_work out.result) words c.args.file.now c.in-Err.status says is gave why (nothing_ran out.result out.ensures.printed out.ensures.schedule))
