use Rattle.std.proofs.Common.{◌≡◌, ◌∙◌, ap, length, refl, subst, sym}
use Rattle.oz_show.specs.Status.{end_line}
use Rattle.oz_runner.specs.Checking.{IsFound, IsMadeOf}
use Rattle.oz_runner.specs.OzCall.{RunOutput, run_output_of}
use Rattle.world_model.specs.Schedule.{lines_in}
use Rattle.oz_runner.proofs.CauseLemmas.{made_front}
use Rattle.oz_runner.proofs.FileLemmas.{file_after, found_other, found_right, other_end, same_end}
use Rattle.oz_runner.proofs.check.check_end.Goals as goal
use Rattle.oz_runner.proofs.check.check_end.Goals.{in-Ok-true, in-Ok-false, in-Err}

pub returns-clause-found : goal.returns-clause-found
returns-clause-found c =
    let p = c.args.program.now in
    let file = c.args.file.now in
    let out = c.finish_run-reason in
    let made : RunOutput = run_output_of out.result.journal out.result.schedule (lines_in out.result.journal) in
    let of_file = subst (IsMadeOf p file) (sym out.ensures.told.0) c.requires.made in
    let after =
    c.status_of.ensures
    ∙ file_after file (record { sites = c.sites.result; steps = c.steps.result; messages = c.messages.result }) out.result c.sites.ensures c.steps.ensures c.messages.ensures
    out.ensures.reason out.ensures.ended out.ensures.waiting in
    elim c.match-is_end.branch [
      | in-Ok-true w ↦
          subst (IsFound p file made) (sym w.status-is)
          (found_right p file made out.result.journal c.status_of.result _ _ refl of_file after (same_end c.is_end.result w.in-Ok-true.field-0 (file.end ≡ end_line c.status_of.result) w.in-Ok-true.is c.is_end.ensures w.in-Ok-true.field-0-test) (ap length c.entries.ensures) w.len.ensures)
      | in-Ok-false w ↦
          subst (IsFound p file made) (sym w.status-is)
          (found_other p file made out.result.journal c.status_of.result _ refl of_file after (other_end c.is_end.result w.in-Ok-false.field-0 (file.end ≡ end_line c.status_of.result) w.in-Ok-false.is c.is_end.ensures w.in-Ok-false.field-0-test) (ap length c.entries.ensures))
      | in-Err w ↦ subst (IsFound p file made) (sym w.status-is) (made_front p file out.result.journal of_file)
    ]
