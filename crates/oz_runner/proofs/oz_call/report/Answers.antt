use Rattle.std.proofs.Common.{rules, subst}
use Rattle.oz_runner.specs.Saving.{IsPlain}
use Rattle.oz_runner.proofs.CauseLemmas.{told_as, told_file, told_memory}
use Rattle.oz_runner.proofs.DueLemmas.{plain_of}
use Rattle.oz_runner.proofs.oz_call.report.Goals as goal

pub returns-in-Saved-clause-written : goal.returns-in-Saved-clause-written
returns-in-Saved-clause-written g c =
    told_file _ _ _ c.args.work.printed _ _ _ (λ plain. subst IsPlain c.in-Saved.is plain) c.finish.ensures.written c.finish.ensures.pieces

pub returns-in-Some-clause-written : goal.returns-in-Some-clause-written
returns-in-Some-clause-written g c = told_as _ _ _ c.args.work.printed _ c.in-Some.end.now _ (search rules) c.finish-in-Some.ensures.written c.finish-in-Some.ensures.pieces

pub returns-in-Ok-clause-written : goal.returns-in-Ok-clause-written
returns-in-Ok-clause-written g c = told_as _ _ _ c.args.work.printed _ _ _ (search rules) c.finish-in-Ok.ensures.written c.finish-in-Ok.ensures.pieces

pub returns-in-Err-clause-written : goal.returns-in-Err-clause-written
returns-in-Err-clause-written g c =
    told_memory _ _ _ c.args.work.printed c.out_of_memory.result.printed _ _ _ (plain_of c.args.work.printed c.in_default.not-Saved) (search rules) c.out_of_memory.ensures.printed
    c.out_of_memory.ensures.status c.finish-in-Err.ensures.written c.finish-in-Err.ensures.pieces
