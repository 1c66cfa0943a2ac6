-- Messages that a site's data receive, and turns.
use Rattle.std.specs.Prelude.{◌≡◌, ◌≢◌, ℕ, List, ◌++◌, Option, Some, None, Contains, IsSome}
use Rattle.tree_node.specs.declared.names.VarName.{VarName}
use Rattle.tree_node.specs.declared.names.CellName.{CellName}
use Rattle.tree_node.specs.declared.names.PortName.{PortName}
use Rattle.tree_node.specs.declared.names.ThreadName.{ThreadName}
use Rattle.tree_node.specs.declared.names.Name.TheVariants as name
use Rattle.tree_node.specs.Assoc.{value_of}
use Rattle.tree_node.specs.Each.{Each}
use Rattle.tree_node.specs.Names.{EachOfTerm}
use Rattle.tree_node.specs.Order.{IsLower}
use Rattle.tree_node.specs.State.{equal_thread}
use Rattle.kernel_syntax.specs.declared.stmt.Stmt.{Stmt}
use Rattle.site_message.specs.declared.message.Msg.{Msg}
use Rattle.site_message.specs.declared.message.Msg.TheVariants as msg
use Rattle.port_owner.specs.Ports.{end_of}
use Rattle.variable_owner.specs.Owners.{IsMade as IsOwned, owner_of, sites_of}
use Rattle.bind_protocol.specs.Records.{IsKnown as IsMet}
use Rattle.thread_machine.specs.Fits.{VarsFit, TermFits, IsKnown}
use Rattle.thread_machine.specs.Running.{Running}
use Rattle.name_supply.specs.Supply.{IsMade}
use Rattle.thread_roster.specs.declared.mode.Awaited.TheVariants.{Cell, Port}
use Rattle.thread_roster.specs.declared.mode.Mode.TheVariants.{WaitsFor}
use Rattle.site_cells.specs.Tables.{IsReceivable}
use Rattle.site_cells.specs.Homes.{home_in}
use Rattle.site_model.specs.Bundle.{bundle_limit}
use Rattle.site_model.specs.Transition.{Transition}
use Rattle.site_model.specs.Turn.{IsReception, IsFullTurnOf}
use Rattle.site_units.specs.declared.data.Core.{Core}
use Rattle.site_units.specs.declared.data.Output.{Output}
use Rattle.site_units.specs.Core.{site_of}
use Rattle.site_units.specs.Units.{IsTransitionMade}
use Rattle.site_core.specs.Site.{IsTransitionInOrder}

-- ---- messages

-- the data can do the row of a request or an answer, which was opened: a port was made here; a thread waits for the end of a port, or for the
-- content of a cell of another home, and both ends, or the content, are known; the home did not hear of the cell; a request of another
-- site leaves a known content
abbrev pub CanAnswer : Core → Msg → Type 0
CanAnswer c (msg.PortSend q n k) = IsSome (end_of c.ports q)
CanAnswer c (msg.PortEnd n old new bundle) =
    ((r : Running) × (q : PortName) × (value_of equal_thread c.threads.living n ≡ Some (r, WaitsFor (Port q))))
    × Contains c.variables.store.known old × Contains c.variables.store.known new
CanAnswer c (msg.CellMake cell v bundle) = ((home_in c.homes cell).content ≡ None) × Contains c.variables.store.known v
CanAnswer c (msg.CellAsk cell n k v bundle) = (k ≢ c.variables.binder.site) × Contains c.variables.store.known v
CanAnswer c (msg.CellOld n v bundle) =
    ((r : Running) × (d : CellName) × (d.at ≢ 0) × (d.at ≢ c.variables.binder.site) × (value_of equal_thread c.threads.living n ≡ Some (r, WaitsFor (Cell d))))
    × Contains c.variables.store.known v
CanAnswer c _ = ⊥

-- the data can do the row of the message, which was opened: a new thread lives nowhere here, its name is no later one of this
-- site's, and its code fits; an own variable was made, and the asking site is not registered; a term fits, leads down and is of
-- known variables; a variable of another site was met; the cell can take its message, and its content is known; or it is a request or an
-- answer
abbrev pub CanDeliver : List Stmt → Core → Msg → Type 0
CanDeliver p c (msg.Spawn n code vars bundle) =
    (value_of equal_thread c.threads.living n ≡ None) × IsMade c.fresh (name.Thread n) × VarsFit p code vars
    × Each (λ (x : VarName). Contains c.variables.store.known x) vars
CanDeliver p c (msg.Register x k) =
    (x.site ≡ c.variables.binder.site) × IsOwned c.variables.binder.owners x
    × (Contains (sites_of (owner_of c.variables.binder.owners x)) k → ⊥)
CanDeliver p c (msg.BindReq x n t bundle) =
    (x.site ≡ c.variables.binder.site) × IsOwned c.variables.binder.owners x × IsLower t x
    × EachOfTerm (IsKnown c.variables.store.known) t × TermFits p t
CanDeliver p c (msg.Binding x t bundle) =
    (x.site ≢ c.variables.binder.site) × IsMet c.variables.binder x × IsLower t x
    × EachOfTerm (IsKnown c.variables.store.known) t × TermFits p t
CanDeliver p c (msg.Get cell k) = IsReceivable c.cells (msg.Get cell k)
CanDeliver p c (msg.Forward cell k) = IsReceivable c.cells (msg.Forward cell k)
CanDeliver p c (msg.Put cell v bundle) = IsReceivable c.cells (msg.Put cell v bundle) × Contains c.variables.store.known v
CanDeliver p c m = CanAnswer c m

-- the data and the output came by the message: by its row where it is fit, and nothing changed where it is not
abbrev pub IsReceived : List Stmt → Option Msg → Core → Output → Core → Output → Type 0
IsReceived p m c0 o0 c1 o1 =
    (d : Transition) × IsReception p c0.sites bundle_limit m (site_of c0) d × IsTransitionMade p d c0 o0 c1 o1

-- ---- turns

-- the data and the output came by a full turn of these units, in which threads had their turns in order
abbrev pub IsFullTurnMade : List Stmt → ℕ → List ThreadName → Option Msg → Core → Output → Core → Output → Type 0
IsFullTurnMade p quantum ths m c0 o0 c1 o1 =
    (d : Transition) × IsFullTurnOf p c0.sites bundle_limit quantum ths (site_of c0) m d
    × IsTransitionInOrder p c0.sites ths (site_of c0) m d c0.threads.order c1.threads.order × IsTransitionMade p d c0 o0 c1 o1

-- so they did by one of the units whose threads were told behind others
abbrev pub IsToldTurnMade : List Stmt → ℕ → List ThreadName → List ThreadName → Option Msg → Core → Output → Core → Output → Type 0
IsToldTurnMade p quantum t0 t1 m c0 o0 c1 o1 = (ths : List ThreadName) × (t1 ≡ t0 ++ ths) × IsFullTurnMade p quantum ths m c0 o0 c1 o1
