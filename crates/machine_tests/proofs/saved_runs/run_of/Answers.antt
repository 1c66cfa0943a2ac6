use Rattle.machine_tests.proofs.saved_runs.run_of.Goals as goal

pub returns-in-Ok : goal.returns-in-Ok
returns-in-Ok g c = (c.these_are_saved.ensures _).1 c.in-Ok.ensures.saved.0
