use Rattle.std.proofs.Common.{List, [], subst, sym}
use Rattle.tree_node.specs.declared.pick.Pick.{Pick}
use Rattle.oz_runner.specs.OzCall.{run_output_of}
use Rattle.oz_runner.specs.Run.{IsStatusOfRun}
use Rattle.oz_runner.proofs.MachineLemmas.{machine_came}
use Rattle.oz_runner.proofs.machine.run_machine.Goals as goal

pub returns-clause-came : goal.returns-clause-came
returns-clause-came c =
    let ran = c.run_program-ran in
    λ is. subst (λ (picks : List Pick). IsStatusOfRun c.args.program.now c.args.options (run_output_of [] picks ran.result.lines.items) c.machine_status.result) (sym c.from_picks.ensures)
    (subst (IsStatusOfRun _ _ _) (sym c.machine_status.ensures) (machine_came c.args.program.now c.args.options ran.ensures.0 ran.result is ran.ensures.1))
