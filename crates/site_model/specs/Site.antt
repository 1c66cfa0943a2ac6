-- The plain state of one site: what it keeps of variables (TOPLAS 21(3), 1999), of cells (TOPLAS 19(5), 1997) and of threads.
use Rattle.std.specs.Prelude.{ℕ, ◌+◌, List, [], ◌∷◌, length, Bool, ◌==◌, Option, None, unwrap_or, if◌then◌else◌}
use Rattle.std.specs.Map.{lookup}
use Rattle.indexmap.specs.IndexMap.{insert_entry}
use Rattle.tree_node.specs.declared.names.VarName.{VarName}
use Rattle.tree_node.specs.declared.names.CellName.{CellName}
use Rattle.tree_node.specs.declared.names.PortName.{PortName}
use Rattle.tree_node.specs.declared.names.ThreadName.{ThreadName}
use Rattle.tree_node.specs.Assoc.{value_of}
use Rattle.tree_node.specs.Goal.{equal_cell, equal_port}
use Rattle.tree_node.specs.State.{Stack, equal_thread}
use Rattle.tree_node.specs.Store.{Store}
use Rattle.kernel_syntax.specs.declared.stmt.Stmt.{Stmt}
use Rattle.oz_model.specs.Run as model
use Rattle.bind_protocol.specs.Records.{Records}
use Rattle.thread_roster.specs.declared.mode.Mode.{Mode}
use Rattle.thread_roster.specs.declared.mode.Mode.TheVariants.{Runs}
use Rattle.thread_roster.specs.Threads.{waiting_of}
pub use Rattle.token_chain.specs.declared.home.EarlyRequest.{EarlyRequest}
use Rattle.token_chain.specs.Holding.{Holding, nothing_held}

-- a thread's stack, and whether the thread can go on
abbrev pub ThreadState : Type 0
ThreadState = Stack × Mode

-- living threads, the newest first
abbrev pub Threads : Type 0
Threads = List (ThreadName × ThreadState)

-- what a site keeps of a cell, and the threads that wait there for its token, in the order in which they asked
pub record CellRecord : Type 0 where
  pub held : Holding
  pub queue : List ThreadName

-- what the home of a stationary cell keeps of it: its content, once it heard of the cell, and the requests that came before, in order
pub record HomeRecord : Type 0 where
  pub content : Option VarName
  pub early : List EarlyRequest

-- how many names of each kind the site made; and the number of sites, among which the homes of stationary cells are
pub record Counters : Type 0 where
  pub vars : ℕ
  pub cells : ℕ
  pub procs : ℕ
  pub threads : ℕ
  pub ports : ℕ
  pub sites : ℕ

-- the known equations, the newest first; the records of variables (the site's number, its own variables with the sites
-- registered for them, the names that it met); the last asker of each cell made here; the records of the cells used here;
-- the ports made here, each with its end; the living threads; what is kept of the stationary cells that are at home here; the counters of
-- names; the numbers of ended threads and of own steps
pub record Site : Type 0 where
  pub equations : Store
  pub records : Records
  pub managers : List (CellName × ℕ)
  pub cell_records : List (CellName × CellRecord)
  pub ports : List (PortName × VarName)
  pub threads : Threads
  pub homes : List (CellName × HomeRecord)
  pub counters : Counters
  pub ended : ℕ
  pub steps : ℕ

-- ---- look-ups

-- the state of a living thread
abbrev pub thread_state : Site → ThreadName → Option ThreadState
thread_state s n = value_of equal_thread s.threads n

-- the site that asked last for a cell made here
abbrev pub last_asker : Site → CellName → Option ℕ
last_asker s c = lookup (equal_cell c) s.managers

-- the record of a cell that the site has nothing to do with
abbrev pub unused_cell : CellRecord
unused_cell = record { held = nothing_held; queue = [] }

-- what these records say of a cell
abbrev pub cell_record_in : List (CellName × CellRecord) → CellName → CellRecord
cell_record_in qs c = unwrap_or (lookup (equal_cell c) qs) unused_cell

-- what the site keeps of a cell
abbrev pub cell_record : Site → CellName → CellRecord
cell_record s c = cell_record_in s.cell_records c

-- the site keeps this of the cell
abbrev pub with_cell_record : Site → CellName → CellRecord → Site
with_cell_record s c q = record s { cell_records = insert_entry equal_cell s.cell_records c q }

-- the end of a port made here
abbrev pub port_end : Site → PortName → Option VarName
port_end s q = lookup (equal_port q) s.ports

-- what a home keeps of a cell of which it did not hear
abbrev pub unheard_cell : HomeRecord
unheard_cell = record { content = None; early = [] }

-- what the site keeps of a cell as its home
abbrev pub home_record : Site → CellName → HomeRecord
home_record s c = unwrap_or (lookup (equal_cell c) s.homes) unheard_cell

-- the site keeps this of it
abbrev pub with_home_record : Site → CellName → HomeRecord → Site
with_home_record s c h = record s { homes = insert_entry equal_cell s.homes c h }

-- ---- totals

-- how many threads wait
abbrev pub waiting_count : Site → ℕ
waiting_count s = waiting_of s.threads

-- no thread can go on
abbrev pub is_idle : Site → Bool
is_idle s = waiting_count s == length s.threads

-- ---- the start

-- threads that can go on
abbrev pub runnable_threads : List (ThreadName × Stack) → Threads
runnable_threads [] = []
runnable_threads (t ∷ ts) = (t.0, (t.1, Runs)) ∷ runnable_threads ts

-- of n sites, site 1 begins with the program's thread, the others with none
abbrev pub initial_site : List Stmt → ℕ → ℕ → Site
initial_site p n i = record {
  equations = [];
  records = record { site = i; owners = []; proxies = [] };
  managers = [];
  cell_records = [];
  ports = [];
  threads = if i == 1 then runnable_threads (model.start p).threads else [];
  homes = [];
  counters = record { vars = 0; cells = 0; procs = 0; threads = if i == 1 then 1 else 0; ports = 0; sites = n };
  ended = 0;
  steps = 0;
}
