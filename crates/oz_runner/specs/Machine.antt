-- How a run of the centralised machine ends.
use Rattle.std.specs.Prelude.{ℕ}
use Rattle.central_machine.specs.declared.run.Reason.{Reason}
use Rattle.central_machine.specs.declared.run.Reason.TheVariants.{Quiet, Steps, Memory}
use Rattle.oz_show.specs.declared.status.Status.{Status}
use Rattle.oz_show.specs.declared.status.Status.TheVariants as status

-- the status of a run that stopped for this reason. The machine is site 1
abbrev pub machine_status : Reason → ℕ → ℕ → Status
machine_status Quiet ended waiting = status.Quiescent ended waiting
machine_status Steps ended waiting = status.StepLimit 1
machine_status Memory ended waiting = status.Memory
