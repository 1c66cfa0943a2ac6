-- What a message brings fits the program, and finds what it is for, as the code tests it.
use Rattle.std.specs.Prelude.{◌≡◌, ◌≢◌, ℕ, List, Some, None}
use Rattle.tree_node.specs.declared.names.CellName.{CellName}
use Rattle.tree_node.specs.declared.names.PortName.{PortName}
use Rattle.tree_node.specs.declared.names.ThreadName.{ThreadName}
use Rattle.tree_node.specs.declared.names.VarName.{VarName}
use Rattle.tree_node.specs.Each.{Each}
use Rattle.tree_node.specs.Store.{Equation}
use Rattle.kernel_syntax.specs.declared.stmt.Stmt.{Stmt}
use Rattle.site_message.specs.declared.message.Msg.{Msg}
use Rattle.site_message.specs.declared.message.Msg.TheVariants as msg
use Rattle.tree_node.specs.State.{Stack}
use Rattle.port_owner.specs.Ports.{end_of}
use Rattle.thread_machine.specs.Fits.{VarsFit, TermFits}
use Rattle.thread_roster.specs.declared.mode.Awaited.TheVariants.{Cell, Port}
use Rattle.thread_roster.specs.declared.mode.Mode.{Mode}
use Rattle.thread_roster.specs.declared.mode.Mode.TheVariants.{WaitsFor}
use Rattle.site_cells.specs.Homes.{home_in}
use Rattle.site_model.specs.Site.{thread_state}
use Rattle.site_units.specs.declared.data.Core.{Core}
use Rattle.site_units.specs.Core.{site_of}

-- the term of the equation fits the program
abbrev pub IsEquationFit : List Stmt → Equation → Type 0
IsEquationFit p e = TermFits p e.1

-- the codes and terms of the message fit the program
abbrev pub PartsFit : List Stmt → Msg → Type 0
PartsFit p (msg.Spawn n code vars bundle) = VarsFit p code vars × Each (IsEquationFit p) bundle
PartsFit p (msg.BindReq x n t bundle) = TermFits p t × Each (IsEquationFit p) bundle
PartsFit p (msg.Binding x t bundle) = TermFits p t × Each (IsEquationFit p) bundle
PartsFit p (msg.Put c v bundle) = Each (IsEquationFit p) bundle
PartsFit p (msg.PortEnd n old new bundle) = Each (IsEquationFit p) bundle
PartsFit p (msg.CellMake c v bundle) = Each (IsEquationFit p) bundle
PartsFit p (msg.CellAsk c n k v bundle) = Each (IsEquationFit p) bundle
PartsFit p (msg.CellOld n v bundle) = Each (IsEquationFit p) bundle
PartsFit p _ = Unit {0}

-- ---- what a message is for

-- the port was made here
abbrev pub HasPort : Core → PortName → Type 0
HasPort c q = (q.site ≡ c.variables.binder.site) × (end : VarName) × (end_of c.ports q ≡ Some end)

-- the cell is at home here, and the site did not hear of it
abbrev pub IsUnheard : Core → CellName → Type 0
IsUnheard c cell = (cell.at ≡ c.variables.binder.site) × ((home_in c.homes cell).content ≡ None)

-- who stands so at site i waits for the end of a port of another site
abbrev pub IsForEnd : ℕ → Mode → Type 0
IsForEnd i (WaitsFor (Port q)) = q.site ≢ i
IsForEnd i _ = ⊥

-- who stands so at site i waits for the content of a stationary cell that is at home elsewhere
abbrev pub IsForContent : ℕ → Mode → Type 0
IsForContent i (WaitsFor (Cell d)) = (d.at ≢ 0) × (d.at ≢ i)
IsForContent i _ = ⊥

-- the thread waits here for the end of such a port
abbrev pub WaitsForEnd : Core → ThreadName → Type 0
WaitsForEnd c n = (st : Stack) × (q : PortName) × (q.site ≢ c.variables.binder.site) × (thread_state (site_of c) n ≡ Some (st, WaitsFor (Port q)))

-- it waits here for the content of such a cell
abbrev pub WaitsForContent : Core → ThreadName → Type 0
WaitsForContent c n =
    (st : Stack) × (d : CellName) × (d.at ≢ 0) × (d.at ≢ c.variables.binder.site) × (thread_state (site_of c) n ≡ Some (st, WaitsFor (Cell d)))
