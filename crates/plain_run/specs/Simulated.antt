-- A plain run as a run of the centralised machine.
use Rattle.std.specs.Prelude.{ℕ, List}
use Rattle.kernel_syntax.specs.declared.stmt.Stmt.{Stmt}
use Rattle.site_message.specs.declared.turn.Turn.{Turn}
use Rattle.site_model.specs.Bundle.{bundle_limit}
use Rattle.site_model.specs.Site.{Site}
use Rattle.site_model.specs.Run.{WorldRun}
use Rattle.world_core.specs.Laws.{HasMachine, WereFit}

-- the journal leads to states of the sites to which the machine comes by its picks, and no delivered message was unfit
abbrev pub HasMachineRun : List Stmt → ℕ → List Turn → Type 0
HasMachineRun p n j = (w : ℕ → Site) × WorldRun p n bundle_limit j w × HasMachine p n j w × WereFit p n j w
