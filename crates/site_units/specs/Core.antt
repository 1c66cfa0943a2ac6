-- The plain state that a site's data stands for.
use Rattle.tree_node.specs.State.{Stack}
use Rattle.name_supply.specs.declared.fresh.Fresh.{Fresh}
use Rattle.name_supply.specs.declared.fresh.Fresh.TheVariants as fresh
use Rattle.thread_machine.specs.Running.{Running}
use Rattle.site_variables.specs.Variables.{stacks_of}
use Rattle.site_model.specs.Site.{Site, Counters}
use Rattle.site_units.specs.declared.data.Core.{Core}

-- the stack of a thread
abbrev pub stack_in : Running → Stack
stack_in r = r.stack

-- the numbers of the names that counters made
abbrev pub counters_of : Fresh → Counters
counters_of (fresh.Counted site sites vars cells procs threads ports) = record { vars = vars; cells = cells; procs = procs; threads = threads; ports = ports; sites = sites }
counters_of (fresh.Given names) = record { vars = 0; cells = 0; procs = 0; threads = 0; ports = 0; sites = 0 }

-- the site: equations and records, tables of cells and of ports, threads with their stacks, what is kept of the cells at home here,
-- counters and totals
abbrev pub site_of : Core → Site
site_of c = record {
  equations = c.variables.store.equations;
  records = c.variables.binder;
  managers = c.cells.managers;
  cell_records = c.cells.cell_records;
  ports = c.ports;
  threads = stacks_of stack_in c.threads.living;
  homes = c.homes;
  counters = counters_of c.fresh;
  ended = c.threads.ended;
  steps = c.steps;
}
