use Rattle.std.proofs.Common.{ap, refl, sym, subst, None}
use Rattle.oz_runner.specs.Cause.{Cause}
use Rattle.oz_runner.specs.Ends.{journal_of, output_of_work}
use Rattle.oz_runner.specs.Saving.{IsPlain}
use Rattle.oz_runner.proofs.CauseLemmas.{ran_cause, source_text, unread_cause}
use Rattle.oz_runner.proofs.RunLemmas.{came_line}
use Rattle.oz_runner.proofs.SaveLemmas.{nothing_ran, save_has_line, turnless_ready}
use Rattle.oz_runner.proofs.WorkLemmas.{other_ready, program_given, saved_work, source_read}
use Rattle.oz_runner.proofs.work.work_on_text.Goals as goal

pub returns-in-Err-clause-cause : goal.returns-in-Err-clause-cause
returns-in-Err-clause-cause g c =
    let none = c.work_without_run.ensures in
    let action = c.args.options.action in
    λ seen says gave. subst (Cause seen (output_of_work c.work_without_run.result)) (sym none.status)
    (unread_cause seen (output_of_work c.work_without_run.result) c.args.options None c.args.bytes.now c.in-Err.status says (source_read action c.requires.source)
    (source_text action seen.source c.args.bytes.now c.requires.source gave) c.in-Err.ensures (nothing_ran c.work_without_run.result none.printed none.schedule))

pub returns-in-Err-clause-due : goal.returns-in-Err-clause-due
returns-in-Err-clause-due g c =
    let none = c.work_without_run.ensures in
    λ seen says gave. turnless_ready seen c.work_without_run.result (subst IsPlain (sym none.printed) tt) (ap journal_of none.printed)

pub returns-in-Save-clause-cause : goal.returns-in-Save-clause-cause
returns-in-Save-clause-cause g c =
    let ran = c.run-work.ensures in
    λ seen says gave. (saved_work (record { texts = c.runs_have_texts.ensures.entries; rows = c.runs_take_rows.ensures.rows; saved = c.these_are_saved.ensures })
    seen
    (program_given seen c.args.options c.args.bytes.now c.in-Ok.program says c.requires.range (source_text c.args.options.action seen.source c.args.bytes.now c.requires.source gave) c.in-Ok.ensures.0 c.in-Ok.ensures.1)
    c.run-work.result c.save.result c.in-Save.is c.in-Save.is c.is_program.ensures ran.came ran.plain ran.after c.save.ensures).0

pub returns-in-Save-clause-due : goal.returns-in-Save-clause-due
returns-in-Save-clause-due g c =
    let ran = c.run-work.ensures in
    λ seen says gave. (saved_work (record { texts = c.runs_have_texts.ensures.entries; rows = c.runs_take_rows.ensures.rows; saved = c.these_are_saved.ensures })
    seen
    (program_given seen c.args.options c.args.bytes.now c.in-Ok.program says c.requires.range (source_text c.args.options.action seen.source c.args.bytes.now c.requires.source gave) c.in-Ok.ensures.0 c.in-Ok.ensures.1)
    c.run-work.result c.save.result c.in-Save.is c.in-Save.is c.is_program.ensures ran.came ran.plain ran.after c.save.ensures).1

pub returns-in-Save-clause-line : goal.returns-in-Save-clause-line
returns-in-Save-clause-line g c = save_has_line _ _ _ _ (came_line _ _ _ _ c.run-work.ensures.came) c.save.ensures

pub save-requires-clause-line : goal.save-requires-clause-line
save-requires-clause-line g c = came_line _ _ _ _ c.run-work.ensures.came

pub returns : goal.returns
returns g c = record {
  cause = λ seen says gave. ran_cause seen _ _
      (program_given seen c.args.options c.args.bytes.now c.in-Ok.program says c.requires.range (source_text c.args.options.action seen.source c.args.bytes.now c.requires.source gave) c.in-Ok.ensures.0 c.in-Ok.ensures.1)
      refl c.run-work.ensures.came;
  due = λ seen says gave. other_ready seen c.args.options c.run-work.result says c.in_default.not-Save c.run-work.ensures.plain;
  line = came_line _ _ _ _ c.run-work.ensures.came;
}
