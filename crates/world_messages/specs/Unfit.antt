-- No delivered message is unfit: what is shown of messages on variables, terms and codes, and what cells and names of
-- other kinds give.
use Rattle.std.specs.Prelude.{◌≡◌, ◌≢◌, ℕ, List, None, Contains}
use Rattle.tree_node.specs.declared.names.VarName.{VarName}
use Rattle.tree_node.specs.declared.names.Name.{Name}
use Rattle.tree_node.specs.declared.node.Term.{Term}
use Rattle.tree_node.specs.Each.{Each}
use Rattle.tree_node.specs.Order.{IsLower}
use Rattle.tree_node.specs.Store.{Equation}
use Rattle.world_model.specs.Matches.{equations_in}
use Rattle.tree_node.specs.declared.names.Name.TheVariants as name
use Rattle.kernel_syntax.specs.declared.stmt.Stmt.{Stmt}
use Rattle.site_message.specs.declared.message.Msg.{Msg}
use Rattle.site_message.specs.declared.message.Msg.TheVariants as msg
use Rattle.site_message.specs.declared.message.Sent.{Sent}
use Rattle.site_message.specs.declared.turn.Turn.{Turn}
use Rattle.site_message.specs.Journal.{IsTravelling}
use Rattle.site_message.specs.Wire.{FitsWire}
use Rattle.bind_protocol.specs.Records.{IsReceivable, IsKnown}
use Rattle.site_model.specs.Site.{Site, thread_state}
use Rattle.site_model.specs.Bundle.{message_vars}
use Rattle.site_model.specs.Fit.{EachOfMsg, IsOtherSite, IsKnownName, CodesFit, CanTake, IsFit}

-- ---- the part on variables, terms and codes

-- the site can take a message on a variable: a Register of a site not registered yet or a BindReq for one it made, a Binding of one it met
abbrev pub TakesVars : Site → Msg → Type 0
TakesVars s (msg.Register x k) = IsReceivable s.records (msg.Register x k)
TakesVars s (msg.BindReq x n t bundle) = IsReceivable s.records (msg.BindReq x n t bundle)
TakesVars s (msg.Binding x t bundle) = (x.site ≢ s.records.site) × IsKnown s.records x
TakesVars s m = Unit {0}

-- a Register is of another site
abbrev pub SitesVars : ℕ → Site → Msg → Type 0
SitesVars n s (msg.Register x k) = IsOtherSite n s k
SitesVars n s m = Unit {0}

-- these two; a variable of this site was made, the others are of one of n sites, and the codes are of the program
pub record VarsFit (p : List Stmt) (n : ℕ) (s : Site) (m : Msg) : Type 0 where
  pub takes : TakesVars s m
  pub sites : SitesVars n s m
  pub vars : (x : VarName) → Contains (message_vars m) x → IsKnownName n s (name.Var x)
  pub codes : CodesFit p m

-- ---- the part on cells and their tokens, on names that are no variables, and on lengths and texts

-- it is a request to the owner of a port or to the home of a cell, or an answer, or tells a home of a cell
abbrev pub IsLetter : Msg → Type 0
IsLetter (msg.PortSend q n k) = Unit {0}
IsLetter (msg.PortEnd n old new bundle) = Unit {0}
IsLetter (msg.CellMake c v bundle) = Unit {0}
IsLetter (msg.CellAsk c n k v bundle) = Unit {0}
IsLetter (msg.CellOld n v bundle) = Unit {0}
IsLetter _ = ⊥

-- the site can take a message on a cell, and a request or an answer
abbrev pub TakesCells : Site → Msg → Type 0
TakesCells s (msg.Get c k) = CanTake s (msg.Get c k)
TakesCells s (msg.Forward c k) = CanTake s (msg.Forward c k)
TakesCells s (msg.Put c v bundle) = CanTake s (msg.Put c v bundle)
TakesCells s (msg.PortSend q n k) = CanTake s (msg.PortSend q n k)
TakesCells s (msg.PortEnd n old new bundle) = CanTake s (msg.PortEnd n old new bundle)
TakesCells s (msg.CellMake c v bundle) = CanTake s (msg.CellMake c v bundle)
TakesCells s (msg.CellAsk c n k v bundle) = CanTake s (msg.CellAsk c n k v bundle)
TakesCells s (msg.CellOld n v bundle) = CanTake s (msg.CellOld n v bundle)
TakesCells s m = Unit {0}

-- a Get, a Forward or a request names another site
abbrev pub SitesCells : ℕ → Site → Msg → Type 0
SitesCells n s (msg.Get c k) = IsOtherSite n s k
SitesCells n s (msg.Forward c k) = IsOtherSite n s k
SitesCells n s (msg.PortSend q o k) = IsOtherSite n s k
SitesCells n s (msg.CellAsk c o k v bundle) = IsOtherSite n s k
SitesCells n s m = Unit {0}

-- the property of names that are no variables
abbrev pub OnOthers : (Name → Type 0) → Name → Type 0
OnOthers P (name.Var x) = Unit {0}
OnOthers P x = P x

-- these two; the message can be spelled, and its names that are no variables are of n sites, own ones made
pub record OthersFit (n : ℕ) (s : Site) (m : Msg) : Type 0 where
  pub wire : FitsWire m
  pub takes : TakesCells s m
  pub sites : SitesCells n s m
  pub names : EachOfMsg (OnOthers (IsKnownName n s)) m

-- ---- the part on what a message tells and brings

-- a bind that is asked for leads down
abbrev pub AsksDown : Msg → Type 0
AsksDown (msg.BindReq x n t bundle) = IsLower t x
AsksDown m = Unit {0}

-- a thread that comes does not live here
abbrev pub BringsNew : Site → Msg → Type 0
BringsNew s (msg.Spawn n code vars bundle) = thread_state s n ≡ None
BringsNew s m = Unit {0}

-- the equations that a message tells lead down, are those that the site knows where it knows one, and of the site's own
-- variables tell none that it does not know
pub record TellsFit (s : Site) (m : Msg) : Type 0 where
  pub asks : AsksDown m
  pub brings : BringsNew s m
  pub down : Each (λ (e : Equation). IsLower e.1 e.0) (equations_in m)
  pub same : (x : VarName) (t r : Term) → Contains (equations_in m) (x, t) → Contains s.equations (x, r) → t ≡ r
  pub own : (x : VarName) (t : Term) → Contains (equations_in m) (x, t) → x.site ≡ s.records.site → Contains s.equations (x, t)

-- ---- all together

-- the three parts are the whole
abbrev pub PartsAreFit : Type 0
PartsAreFit = (p : List Stmt) (n : ℕ) (s : Site) (m : Msg) → VarsFit p n s m → OthersFit n s m → TellsFit s m → IsFit p n s m

-- each message that travels is fit for the site that it goes to
abbrev pub MessagesAreFit : List Stmt → ℕ → List Turn → (ℕ → Site) → Type 0
MessagesAreFit p n j f = (k : ℕ) (m : Sent) → IsTravelling j k m → IsFit p n (f m.to) m.msg
