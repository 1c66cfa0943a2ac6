-- What holds of a site's data at all times.
use Rattle.std.specs.Prelude.{◌≡◌, ◌≢◌, ℕ, ◌+◌, ◌*◌, ◌^◌, ◌≤◌, ◌==◌, ◌⊎◌, List, [], ◌∷◌, Option, Some, None, Contains, if◌then◌else◌}
use Rattle.tree_node.specs.declared.limits.TheConstants.{MOST_ITEMS}
use Rattle.tree_node.specs.declared.names.VarName.{VarName}
use Rattle.tree_node.specs.declared.names.CellName.{CellName}
use Rattle.tree_node.specs.declared.names.PortName.{PortName}
use Rattle.tree_node.specs.declared.names.ThreadName.{ThreadName}
use Rattle.tree_node.specs.declared.names.Name.TheVariants as name
use Rattle.tree_node.specs.Assoc.{value_of}
use Rattle.tree_node.specs.Each.{Each, AreDistinct}
use Rattle.tree_node.specs.declared.item.Item.{Item}
use Rattle.tree_node.specs.State.{Block, Stack, equal_thread}
use Rattle.tree_node.specs.Store.{Store}
use Rattle.kernel_syntax.specs.declared.stmt.Stmt.{Stmt}
use Rattle.oz_model.specs.Laws.{nobody}
use Rattle.oz_model.specs.Need.{Takes, variable_kinds, stack_need}
use Rattle.oz_model.specs.Effect.{Stays, Exchanged, Keeps, Sent, stack_effect}
use Rattle.thread_machine.specs.Fits.{StackFits, EquationsFit}
use Rattle.thread_machine.specs.Running.{Running}
use Rattle.name_supply.specs.declared.fresh.Fresh.{Fresh}
use Rattle.name_supply.specs.Supply.{site_in, IsMade, HasMade, AreBelow}
use Rattle.thread_roster.specs.declared.mode.Awaited.{Awaited}
use Rattle.thread_roster.specs.declared.mode.Awaited.TheVariants.{Cell, Port}
use Rattle.thread_roster.specs.declared.mode.Mode.{Mode}
use Rattle.thread_roster.specs.declared.mode.Mode.TheVariants.{Runs, Waits, Needs, WaitsAny, WaitsFor}
use Rattle.thread_roster.specs.Threads.{Entry}
use Rattle.token_chain.specs.declared.token.Token.{Token}
use Rattle.token_chain.specs.declared.token.Token.TheVariants.{Here}
use Rattle.site_model.specs.Site.{CellRecord, EarlyRequest, HomeRecord, cell_record_in}
use Rattle.site_cells.specs.Homes.{HomeTable, home_in}
use Rattle.site_variables.specs.Variables.{IsLinked}
use Rattle.site_units.specs.declared.data.Core.{Core}

-- ---- threads

-- the thread has its name, has not ended, and its stack is over known variables and fits the program
pub record ThreadFits (p : List Stmt) (known : List VarName) (t : Entry Running) : Type 0 where
  pub named : t.1.0.name ≡ t.0
  pub goes : t.1.0.stack ≢ []
  pub fits : StackFits p known t.1.0.stack

-- ---- cells

-- with these equations the thread's next step exchanges the content of the cell: it leaves one known variable and is told the other
pub record IsExchanging (p : List Stmt) (known : List VarName) (s : Store) (cell : CellName) (r : Running) : Type 0 where
  pub new : VarName
  pub told : VarName
  pub item : Item Block
  pub rest : Stack
  pub stack : r.stack ≡ item ∷ rest
  pub need : stack_need p s r.stack ≡ Takes []
  pub effect : stack_effect p s [] None r.stack ≡ record { adds = []; stack = rest; line = None; born = None; cell = Exchanged cell new told; port = Keeps }
  pub tells : r.told ≡ Some told
  pub new_known : Contains known new
  pub told_known : Contains known told

-- with these equations the thread's next step sends a known value to the port
pub record IsSending (p : List Stmt) (known : List VarName) (s : Store) (port : PortName) (r : Running) : Type 0 where
  pub value : VarName
  pub item : Item Block
  pub rest : Stack
  pub stack : r.stack ≡ item ∷ rest
  pub need : stack_need p s r.stack ≡ Takes (variable_kinds 1)
  pub effect : (x : VarName) → stack_effect p s (name.Var x ∷ []) None r.stack ≡ record { adds = []; stack = rest; line = None; born = None; cell = Stays; port = Sent port value x }
  pub tells : r.told ≡ Some value
  pub value_known : Contains known value

-- its next step is what it waits for: an exchange of the cell, or a send to the port
abbrev pub IsAsking : List Stmt → List VarName → Store → Awaited → Running → Type 0
IsAsking p known s (Cell cell) r = IsExchanging p known s cell r
IsAsking p known s (Port port) r = IsSending p known s port r

-- the thread of this name waits for the cell's token, or for its home to hear of it
abbrev pub IsAwaiting : List Stmt → Core → CellName → ThreadName → Type 0
IsAwaiting p c cell n =
    (r : Running) × (value_of equal_thread c.threads.living n ≡ Some (r, WaitsFor (Cell cell)))
    × IsExchanging p c.variables.store.known c.variables.store.equations cell r

-- it waits for the token of a mobile cell
abbrev pub IsQueued : List Stmt → Core → CellName → ThreadName → Type 0
IsQueued p c cell n = (cell.at ≡ 0) × IsAwaiting p c cell n

-- it waits until this home of a stationary cell hears of it
abbrev pub IsEarly : List Stmt → Core → CellName → ThreadName → Type 0
IsEarly p c cell n = (cell.at ≢ 0) × (cell.at ≡ c.variables.binder.site) × IsAwaiting p c cell n

-- the content of a token that is here is known
abbrev pub ContentKnown : List VarName → Token → Type 0
ContentKnown known (Here v) = Contains known v
ContentKnown known _ = Unit {0}

-- the content here is known, and each thread of the queue waits, once
pub record CellFits (p : List Stmt) (c : Core) (e : CellName × CellRecord) : Type 0 where
  pub content : ContentKnown c.variables.store.known e.1.held.token
  pub queue : Each (IsQueued p c e.0) e.1.queue
  pub once : AreDistinct e.1.queue

-- with these records of cells, that of each cell fits
abbrev pub CellsFit : List Stmt → Core → List (CellName × CellRecord) → Type 0
CellsFit p c es = (cell : CellName) → CellFits p c (cell, cell_record_in es cell)

-- ---- ports and homes

-- the port was made, and its end is known
abbrev pub PortFits : List VarName → Fresh → PortName × VarName → Type 0
PortFits known f e = IsMade f (name.Port e.0) × Contains known e.1

-- what the home heard is known
abbrev pub ContentIsKnown : List VarName → Option VarName → Type 0
ContentIsKnown known None = Unit {0}
ContentIsKnown known (Some v) = Contains known v

-- the site's own threads among those that asked early
abbrev pub own_threads : ℕ → List EarlyRequest → List ThreadName
own_threads i [] = []
own_threads i (r ∷ rs) = if r.asking == i then r.thread ∷ own_threads i rs else own_threads i rs

-- the content here is known, and so are those that early requests leave; each own thread among these waits, once
pub record HomeFits (p : List Stmt) (c : Core) (e : CellName × HomeRecord) : Type 0 where
  pub content : ContentIsKnown c.variables.store.known e.1.content
  pub news : Each (λ (r : EarlyRequest). Contains c.variables.store.known r.new) e.1.early
  pub waits : Each (IsEarly p c e.0) (own_threads c.variables.binder.site e.1.early)
  pub once : AreDistinct (own_threads c.variables.binder.site e.1.early)

-- what is kept of each cell fits
abbrev pub HomesFit : List Stmt → Core → HomeTable → Type 0
HomesFit p c hs = (cell : CellName) → HomeFits p c (cell, home_in hs cell)

-- ---- what is awaited

-- a known variable, or nobody, whom a stack names where it lacks one
abbrev pub IsAwaited : List VarName → VarName → Type 0
IsAwaited known y = (y ≡ nobody) ⊎ Contains known y

-- a thread that stands so waits for such variables, if for any
abbrev pub AwaitsKnown : List VarName → Mode → Type 0
AwaitsKnown known Runs = Unit {0}
AwaitsKnown known (Waits y) = IsAwaited known y
AwaitsKnown known (Needs y) = IsAwaited known y
AwaitsKnown known (WaitsAny ys) = Each (λ (y : VarName). IsAwaited known y) ys
AwaitsKnown known (WaitsFor a) = Unit {0}

-- and so does each of these threads
abbrev pub AwaitKnown : List VarName → List (Entry Running) → Type 0
AwaitKnown known ts = Each (λ (t : Entry Running). AwaitsKnown known t.1.1) ts

-- ---- all

-- the store has what the records tell; threads and equations are over known variables and fit the program; the counters are
-- the site's, and leave room for the names of further steps; the known variables and the threads of the site were made, and
-- each variable that it made is known; the tables of cells are the site's, and the record of each cell fits; each port was made and has
-- a known end; what is kept of the cells at home here fits; each thread that waits for a cell or a port has such a step next, and each
-- that waits for variables waits for known ones; the site is one of the sites
pub record IsConsistent (p : List Stmt) (c : Core) : Type 0 where
  pub linked : IsLinked c.variables
  pub threads : Each (ThreadFits p c.variables.store.known) c.threads.living
  pub equations : EquationsFit p c.variables.store.known c.variables.store.equations
  pub site : site_in c.fresh ≡ Some c.variables.binder.site
  pub below : AreBelow (MOST_ITEMS * c.steps + 2 ^ 56) c.fresh
  pub known_made : Each (λ (x : VarName). IsMade c.fresh (name.Var x)) c.variables.store.known
  pub made_known : (x : VarName) → HasMade c.fresh (name.Var x) → Contains c.variables.store.known x
  pub threads_made : Each (λ (t : Entry Running). IsMade c.fresh (name.Thread t.0)) c.threads.living
  pub tables : c.cells.site ≡ c.variables.binder.site
  pub cells : CellsFit p c c.cells.cell_records
  pub ports : Each (PortFits c.variables.store.known c.fresh) c.ports
  pub homes : HomesFit p c c.homes
  pub asks : (n : ThreadName) (r : Running) (a : Awaited) → value_of equal_thread c.threads.living n ≡ Some (r, WaitsFor a) → IsAsking p c.variables.store.known c.variables.store.equations a r
  pub awaits : AwaitKnown c.variables.store.known c.threads.living
  pub among : c.variables.binder.site ≤ c.sites
  pub some : 1 ≤ c.sites
