-- Which messages are fit for a site. Those that are not change nothing.
use Rattle.std.specs.Prelude.{◌≡◌, ◌≢◌, ℕ, ◌<◌, ◌≤◌, List, length, Option, Some, None, Contains}
use Rattle.tree_node.specs.declared.names.VarName.{VarName}
use Rattle.tree_node.specs.declared.names.CellName.{CellName}
use Rattle.tree_node.specs.declared.names.PortName.{PortName}
use Rattle.tree_node.specs.declared.names.Name.{Name}
use Rattle.tree_node.specs.declared.names.Name.TheVariants as name
use Rattle.tree_node.specs.declared.node.Node.{Node}
use Rattle.tree_node.specs.declared.node.Term.{Term}
use Rattle.tree_node.specs.Each.{Each}
use Rattle.tree_node.specs.Names.{EachOfTerm, EachOfEquation}
use Rattle.tree_node.specs.Order.{IsLower, site_of}
use Rattle.tree_node.specs.State.{Stack}
use Rattle.tree_node.specs.Store.{Equation}
use Rattle.kernel_syntax.specs.declared.stmt.Stmt.{Stmt}
use Rattle.kernel_syntax.specs.Free.{free}
use Rattle.site_message.specs.declared.message.Msg.{Msg}
use Rattle.site_message.specs.declared.message.Msg.TheVariants as msg
use Rattle.site_message.specs.Wire.{FitsWire}
use Rattle.oz_model.specs.WellFormed.{IsNode, IsNodeOf}
use Rattle.bind_protocol.specs.Records.{IsReceivable, IsKnown}
use Rattle.token_chain.specs.declared.token.Token.TheVariants.{Asked}
use Rattle.token_chain.specs.Holding.{CanFollow}
use Rattle.thread_roster.specs.declared.mode.Awaited.TheVariants.{Cell, Port}
use Rattle.thread_roster.specs.declared.mode.Mode.TheVariants.{WaitsFor}
use Rattle.site_model.specs.Site.{Site, Counters, cell_record, last_asker, thread_state, port_end, home_record}
use Rattle.site_model.specs.Bundle.{message_bundle}

-- ---- what stands in a message

-- P holds of each name in the message
abbrev pub EachOfMsg : (Name → Type 0) → Msg → Type 0
EachOfMsg P (msg.Spawn n code vars bundle) =
    P (name.Thread n) × Each (λ (x : VarName). P (name.Var x)) vars × Each (EachOfEquation P) bundle
EachOfMsg P (msg.Register x k) = P (name.Var x)
EachOfMsg P (msg.BindReq x n t bundle) = P (name.Var x) × P (name.Thread n) × EachOfTerm P t × Each (EachOfEquation P) bundle
EachOfMsg P (msg.Binding x t bundle) = P (name.Var x) × EachOfTerm P t × Each (EachOfEquation P) bundle
EachOfMsg P (msg.Get c k) = P (name.Cell c)
EachOfMsg P (msg.Forward c k) = P (name.Cell c)
EachOfMsg P (msg.Put c v bundle) = P (name.Cell c) × P (name.Var v) × Each (EachOfEquation P) bundle
EachOfMsg P (msg.PortSend q n k) = P (name.Port q) × P (name.Thread n)
EachOfMsg P (msg.PortEnd n old new bundle) = P (name.Thread n) × P (name.Var old) × P (name.Var new) × Each (EachOfEquation P) bundle
EachOfMsg P (msg.CellMake c v bundle) = P (name.Cell c) × P (name.Var v) × Each (EachOfEquation P) bundle
EachOfMsg P (msg.CellAsk c n k v bundle) = P (name.Cell c) × P (name.Thread n) × P (name.Var v) × Each (EachOfEquation P) bundle
EachOfMsg P (msg.CellOld n v bundle) = P (name.Thread n) × P (name.Var v) × Each (EachOfEquation P) bundle

-- Q holds of each node in the message
abbrev pub NodesOfMsg : (Node → Type 0) → Msg → Type 0
NodesOfMsg Q m = of_msg m × Each (λ (e : Equation). IsNodeOf Q e.1) (message_bundle m)
  where
    of_msg : Msg → Type 0
    of_msg (msg.BindReq x n t bundle) = IsNodeOf Q t
    of_msg (msg.Binding x t bundle) = IsNodeOf Q t
    of_msg _ = Unit {0}

-- P holds of the asking or next site in the message
abbrev pub SitesOfMsg : (ℕ → Type 0) → Msg → Type 0
SitesOfMsg P (msg.Register x k) = P k
SitesOfMsg P (msg.Get c k) = P k
SitesOfMsg P (msg.Forward c k) = P k
SitesOfMsg P (msg.PortSend q n k) = P k
SitesOfMsg P (msg.CellAsk c n k v bundle) = P k
SitesOfMsg P _ = Unit {0}

-- ---- conditions

-- the site is one of n, and not this one
abbrev pub IsOtherSite : ℕ → Site → ℕ → Type 0
IsOtherSite n s k = (1 ≤ k) × (k ≤ n) × (k ≢ s.records.site)

-- the name's number is below the counter of its kind: a site with these counters made it
abbrev pub IsBelowCounter : Counters → Name → Type 0
IsBelowCounter c (name.Var x) = x.num < c.vars
IsBelowCounter c (name.Cell x) = x.num < c.cells
IsBelowCounter c (name.Proc x) = x.num < c.procs
IsBelowCounter c (name.Thread x) = x.num < c.threads
IsBelowCounter c (name.Port x) = x.num < c.ports

-- the home in a cell's name, 0 of every other name
abbrev pub home_of_name : Name → ℕ
home_of_name (name.Cell c) = c.at
home_of_name _ = 0

-- the name is one of n sites', its home is one of them or none, and one of this site was made
abbrev pub IsKnownName : ℕ → Site → Name → Type 0
IsKnownName n s x = (1 ≤ site_of x) × (site_of x ≤ n) × (home_of_name x ≤ n) × (site_of x ≡ s.records.site → IsBelowCounter s.counters x)

-- the codes of the program, with as many variables and formals as they have there
abbrev pub CodesFit : List Stmt → Msg → Type 0
CodesFit p m = spawned m × NodesOfMsg (IsNode p) m
  where
    spawned : Msg → Type 0
    spawned (msg.Spawn n code vars bundle) = (code.0 < length p) × (length vars ≡ length (free p code))
    spawned _ = Unit {0}

-- where this site is the one that asked last, it can be told its successor
abbrev pub CanRequest : Site → CellName → Option ℕ → Type 0
CanRequest s c None = ⊥
CanRequest s c (Some a) = a ≡ s.records.site → CanFollow (cell_record s c).held

-- the conditions of the calls that the message leads to: a new thread lives nowhere here; a Register or a BindReq is for an
-- own variable, and a bind leads down; a Binding is of another site's variable that was met; a Get is of an own cell, and a
-- Forward finds no successor; a Put was asked for; a PortSend is for a port made here, and an answer for a thread that waits here for such
-- an answer of another site; a stationary cell is at home here, and of one that is told the site did not hear
abbrev pub CanTake : Site → Msg → Type 0
CanTake s (msg.Spawn n code vars bundle) = thread_state s n ≡ None
CanTake s (msg.Register x k) = IsReceivable s.records (msg.Register x k)
CanTake s (msg.BindReq x n t bundle) = IsLower t x × IsReceivable s.records (msg.BindReq x n t bundle)
CanTake s (msg.Binding x t bundle) = (x.site ≢ s.records.site) × IsLower t x × IsKnown s.records x
CanTake s (msg.Get c k) = (c.site ≡ s.records.site) × CanRequest s c (last_asker s c)
CanTake s (msg.Forward c k) = CanFollow (cell_record s c).held
CanTake s (msg.Put c v bundle) = (cell_record s c).held.token ≡ Asked
CanTake s (msg.PortSend q n k) = (q.site ≡ s.records.site) × (end : VarName) × (port_end s q ≡ Some end)
CanTake s (msg.PortEnd n old new bundle) =
    (st : Stack) × (q : PortName) × (q.site ≢ s.records.site) × (thread_state s n ≡ Some (st, WaitsFor (Port q)))
CanTake s (msg.CellMake c v bundle) = (c.at ≡ s.records.site) × ((home_record s c).content ≡ None)
CanTake s (msg.CellAsk c n k v bundle) = c.at ≡ s.records.site
CanTake s (msg.CellOld n v bundle) =
    (st : Stack) × (c : CellName) × (c.at ≢ 0) × (c.at ≢ s.records.site) × (thread_state s n ≡ Some (st, WaitsFor (Cell c)))

-- the equations of a bundle lead down; where the site has an equation of the variable it is the same; and of the site's own
-- variables there is none that it does not have
pub record BundleFits (s : Site) (bundle : List Equation) : Type 0 where
  pub down : Each (λ (e : Equation). IsLower e.1 e.0) bundle
  pub same : (x : VarName) (t r : Term) → Contains bundle (x, t) → Contains s.equations (x, r) → t ≡ r
  pub own : (x : VarName) (t : Term) → Contains bundle (x, t) → x.site ≡ s.records.site → Contains s.equations (x, t)

-- The message is fit for the site, one of n: its lengths, ranges and orders are those of its spelling; the conditions of what
-- it leads to hold; the asking or next site is another one of the n; its names are of the n sites, those of this site were
-- made; its codes are the program's; its bundle agrees with what the site knows
pub record IsFit (p : List Stmt) (n : ℕ) (s : Site) (m : Msg) : Type 0 where
  pub wire : FitsWire m
  pub takes : CanTake s m
  pub sites : SitesOfMsg (IsOtherSite n s) m
  pub names : EachOfMsg (IsKnownName n s) m
  pub codes : CodesFit p m
  pub bundle : BundleFits s (message_bundle m)
