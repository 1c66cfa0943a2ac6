use Rattle.oz_runner.proofs.FileLemmas.{FileLaws, file_run, found_front, found_wrong}
use Rattle.oz_runner.proofs.check.check_run.Goals as goal

pub returns-in-All-clause-run : goal.returns-in-All-clause-run
returns-in-All-clause-run c =
    let laws : FileLaws = record { rows = c.runs_take_rows.ensures.rows; simulated = c.sites_are_simulated.ensures.simulated } in
    let made = c.make_again-history in
    file_run laws c.args.program.now c.is_program.ensures c.args.file.now c.requires made.result.history made.ensures.run made.ensures.went c.check_end.result
    c.check_end.ensures.journal c.check_end.ensures.schedule

pub returns-in-Wrong-clause-found : goal.returns-in-Wrong-clause-found
returns-in-Wrong-clause-found c =
    let made = c.make_again-history in
    found_wrong c.args.program.now c.args.file.now c.again.result made.result.history c.in-Wrong.at c.again.ensures.status c.again.ensures.journal
    (made.ensures.wrong c.in-Wrong.at c.in-Wrong.is)

pub returns-in-Wrong-clause-run : goal.returns-in-Wrong-clause-run
returns-in-Wrong-clause-run c =
    let laws : FileLaws = record { rows = c.runs_take_rows.ensures.rows; simulated = c.sites_are_simulated.ensures.simulated } in
    let made = c.make_again-history in
    file_run laws c.args.program.now c.is_program.ensures c.args.file.now c.requires made.result.history made.ensures.run made.ensures.went c.again.result
    c.again.ensures.journal c.again.ensures.schedule

pub returns-in-Memory-clause-found : goal.returns-in-Memory-clause-found
returns-in-Memory-clause-found c =
    let made = c.make_again-history in
    found_front c.args.program.now c.args.file.now c.again-in-Memory.result made.result.history c.again-in-Memory.ensures.status c.again-in-Memory.ensures.journal
    (made.ensures.memory c.in-Memory.is)

pub returns-in-Memory-clause-run : goal.returns-in-Memory-clause-run
returns-in-Memory-clause-run c =
    let laws : FileLaws = record { rows = c.runs_take_rows.ensures.rows; simulated = c.sites_are_simulated.ensures.simulated } in
    let made = c.make_again-history in
    file_run laws c.args.program.now c.is_program.ensures c.args.file.now c.requires made.result.history made.ensures.run made.ensures.went c.again-in-Memory.result
    c.again-in-Memory.ensures.journal c.again-in-Memory.ensures.schedule
