use Rattle.std.proofs.Common.{refl, rules}
use Rattle.oz_runner.proofs.CauseLemmas.{ran_cause}
use Rattle.oz_runner.proofs.WorkLemmas.{program_given, size_text}
use Rattle.oz_runner.proofs.work.work_on_size.Goals as goal

pub returns-in-Ok-program_of_str-clause-cause : goal.returns-in-Ok-program_of_str-clause-cause
returns-in-Ok-program_of_str-clause-cause g c =
    let text = c.deref.result.now in
    λ seen says untouched. ran_cause seen _ _
    (program_given seen c.args.options text c.in-Ok-program_of_str.program says c.requires.range
    (size_text c.args.options.action c.args.size seen.source text c.requires.size (search rules) untouched) (search rules) (search rules))
    refl c.run.ensures.came
