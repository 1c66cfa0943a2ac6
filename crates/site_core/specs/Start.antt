-- A site's data at the start of a program.
use Rattle.std.specs.Prelude.{◌≡◌, ◌==◌, ℕ, List, [], ◌∷◌, None, if◌then◌else◌}
use Rattle.tree_node.specs.declared.names.CodeId.{CodeId}
use Rattle.tree_node.specs.declared.names.ThreadName.{ThreadName}
use Rattle.tree_node.specs.declared.item.Item.TheVariants as item
use Rattle.tree_node.specs.Env.{env_for}
use Rattle.kernel_syntax.specs.declared.stmt.Stmt.{Stmt}
use Rattle.kernel_syntax.specs.Free.{free}
use Rattle.oz_model.specs.Run.{first_thread}
use Rattle.name_supply.specs.declared.fresh.Fresh.TheVariants.{Counted}
use Rattle.thread_machine.specs.Running.{Running}
use Rattle.thread_roster.specs.declared.mode.Mode.TheVariants.{Runs}
use Rattle.thread_roster.specs.Threads.{Entry}
use Rattle.site_variables.specs.Variables.{IsLinked}
use Rattle.site_units.specs.declared.data.Core.{Core}

-- the statement of the whole program
abbrev pub first_code : CodeId
first_code = record { 0 = 0 }

-- the program's thread
abbrev pub first_running : List Stmt → Running
first_running p = record { name = first_thread; stack = item.Run first_code (env_for (free p first_code) []) ∷ []; told = None }

-- site 1 has the program's thread, the others none
abbrev pub first_living : List Stmt → ℕ → List (Entry Running)
first_living p i = if i == 1 then (first_thread, (first_running p, Runs)) ∷ [] else []

-- and that thread is the one that can go on
abbrev pub first_order : ℕ → List ThreadName
first_order i = if i == 1 then first_thread ∷ [] else []

-- the data of site i of n, which knows nothing, made nothing but the program's thread where it is site 1, and uses no cell and no port
pub record IsBare (i n : ℕ) (c : Core) : Type 0 where
  pub equations : c.variables.store.equations ≡ []
  pub known : c.variables.store.known ≡ []
  pub records : c.variables.binder ≡ record { site = i; owners = []; proxies = [] }
  pub linked : IsLinked c.variables
  pub cells : c.cells ≡ record { site = i; managers = []; cell_records = [] }
  pub ports : c.ports ≡ []
  pub homes : c.homes ≡ []
  pub counters : c.fresh ≡ Counted i n 0 0 0 (if i == 1 then 1 else 0) 0
  pub steps : c.steps ≡ 0
  pub sites : c.sites ≡ n
