-- What a site keeps, as far as it may come into a message.
use Rattle.std.specs.Prelude.{◌≡◌, ℕ, ◌<◌, ◌≤◌, List, [], ◌∷◌, length, Option, Some, None, ◌==◌, unwrap_or, if◌then◌else◌}
use Rattle.std.specs.Map.{lookup}
use Rattle.tree_node.specs.declared.limits.TheConstants.{MOST_SITES}
use Rattle.tree_node.specs.declared.names.VarName.{VarName}
use Rattle.tree_node.specs.declared.names.CellName.{CellName}
use Rattle.tree_node.specs.declared.names.PortName.{PortName}
use Rattle.tree_node.specs.declared.names.ThreadName.{ThreadName}
use Rattle.tree_node.specs.declared.names.Name.{Name}
use Rattle.tree_node.specs.declared.names.Name.TheVariants as names
use Rattle.tree_node.specs.declared.node.Feature.{Feature}
use Rattle.tree_node.specs.declared.node.Node.{Node}
use Rattle.tree_node.specs.declared.node.Node.TheVariants as node
use Rattle.tree_node.specs.declared.node.Term.{Term}
use Rattle.tree_node.specs.declared.item.Item.TheVariants.{Run}
use Rattle.tree_node.specs.Assoc.{value_of}
use Rattle.tree_node.specs.Each.{Each, AreDistinct}
use Rattle.tree_node.specs.Goal.{equal_cell}
use Rattle.tree_node.specs.Names.{EachOfTerm, EachOfEquation, EachOfStack}
use Rattle.tree_node.specs.Order.{site_of}
use Rattle.tree_node.specs.State.{Stack, equal_thread}
use Rattle.tree_node.specs.Store.{Store}
use Rattle.kernel_syntax.specs.declared.stmt.Stmt.{Stmt}
use Rattle.kernel_syntax.specs.declared.stmt.Stmt.TheVariants as stmt
use Rattle.kernel_syntax.specs.Free.{stmt_at}
use Rattle.site_message.specs.declared.message.Sent.{Sent}
use Rattle.site_message.specs.Wire.{IsSite, FitsText, FitsFeature, FitsVar, FitsWire}
use Rattle.oz_model.specs.Coverage.{StackIsCovered}
use Rattle.oz_model.specs.WellFormed.{IsNode, IsNodeOf, EquationsHave, StackHas}
use Rattle.variable_owner.specs.declared.owners.Owner.TheVariants.{Bound}
use Rattle.variable_owner.specs.Owners.{Owned, owner_of}
use Rattle.thread_roster.specs.declared.mode.Awaited.TheVariants.{Cell, Port}
use Rattle.thread_roster.specs.declared.mode.Mode.TheVariants.{WaitsFor}
use Rattle.token_chain.specs.declared.token.Token.{Token}
use Rattle.token_chain.specs.declared.token.Token.TheVariants.{Here}
use Rattle.site_model.specs.Site.{Site, ThreadState, Threads, CellRecord, HomeRecord, EarlyRequest, cell_record_in, unheard_cell}
use Rattle.site_model.specs.Transition.{Transition}

-- each of these messages can be spelled
abbrev pub CanBeSpelled : List Sent → Type 0
CanBeSpelled ms = Each (λ (m : Sent). FitsWire m.msg) ms

-- ---- terms

-- the name is of a site that a message can name, and so is a stationary cell's home
abbrev pub IsOfSites : Name → Type 0
IsOfSites (names.Cell c) = IsSite c.site × (c.at ≤ MOST_SITES)
IsOfSites x = IsSite (site_of x)

-- the texts and lists of the node are short enough for a message
abbrev pub IsShort : Node → Type 0
IsShort (node.Atom text) = FitsText text
IsShort (node.Rec label fields) = FitsText label × Each (λ (f : Feature × VarName). FitsFeature f.0) fields
IsShort (node.Proc formals code name vars) = length vars ≤ 65535
IsShort _ = Unit {0}

-- a node of the program whose texts and lists are short enough for a message
abbrev pub NodeFits : List Stmt → Node → Type 0
NodeFits p n = IsNode p n × IsShort n

-- its names are of sites, and its node fits
abbrev pub TermFits : List Stmt → Term → Type 0
TermFits p t = EachOfTerm IsOfSites t × IsNodeOf (NodeFits p) t

-- the names in these equations are of sites, and their nodes fit
pub record EquationsFit (p : List Stmt) (s : Store) : Type 0 where
  pub names : Each (EachOfEquation IsOfSites) s
  pub nodes : EquationsHave (NodeFits p) s

-- what is known of own variables
abbrev pub OwnersFit : List Stmt → List Owned → Type 0
OwnersFit p os = (x : VarName) (t : Term) → owner_of os x ≡ Some (Bound t) → TermFits p t

-- ---- threads

-- the names on this stack are of sites, its nodes fit, and its statements have their variables
pub record StackFits (p : List Stmt) (st : Stack) : Type 0 where
  pub names : EachOfStack IsOfSites st
  pub nodes : StackHas (NodeFits p) st
  pub covered : StackIsCovered p st

-- a statement that takes no fresh name, unless it fails
abbrev pub IsNameless : Stmt → Type 0
IsNameless (stmt.Local first count body) = ⊥
IsNameless (stmt.TellProc left first count body) = ⊥
IsNameless (stmt.NewCell content cell) = ⊥
IsNameless (stmt.NewCellAt content cell at) = ⊥
IsNameless (stmt.NewPort stream port) = ⊥
IsNameless (stmt.Send port value) = ⊥
IsNameless (stmt.Thread at body) = ⊥
IsNameless _ = Unit {0}

-- it stands on top
abbrev pub IsAtNameless : List Stmt → Stack → Type 0
IsAtNameless p (Run code env ∷ rest) = IsNameless (stmt_at p code)
IsAtNameless p _ = ⊥

-- a send
abbrev pub IsSending : Stmt → Type 0
IsSending (stmt.Send port value) = Unit {0}
IsSending _ = ⊥

-- one stands on top
abbrev pub IsAtSend : List Stmt → Stack → Type 0
IsAtSend p (Run code env ∷ rest) = IsSending (stmt_at p code)
IsAtSend p _ = ⊥

-- a thread of this name, and how it stands: one that waits for a cell stands at a statement without fresh names, one that waits for
-- a port at a send
pub record ThreadFits (p : List Stmt) (n : ThreadName) (v : ThreadState) : Type 0 where
  pub name : IsSite n.site
  pub stack : StackFits p v.0
  pub calm : (c : CellName) → v.1 ≡ WaitsFor (Cell c) → IsAtNameless p v.0
  pub sends : (q : PortName) → v.1 ≡ WaitsFor (Port q) → IsAtSend p v.0

-- the thread of this name lives and waits for this cell: for its token, or for its content
abbrev pub IsInLine : Threads → CellName → ThreadName → Type 0
IsInLine ts c n = (st : Stack) × (value_of equal_thread ts n ≡ Some (st, WaitsFor (Cell c)))

-- those that wait here for a cell stand in its line once
pub record QueueFits (ts : Threads) (c : CellName) (ns : List ThreadName) : Type 0 where
  pub once : AreDistinct ns
  pub inside : Each (IsInLine ts c) ns

-- the threads of site i, which made so many names of threads, with the line of each cell
pub record ThreadsFit (p : List Stmt) (i made : ℕ) (ts : Threads) (queue : CellName → List ThreadName) : Type 0 where
  pub each : (n : ThreadName) (v : ThreadState) → value_of equal_thread ts n ≡ Some v → ThreadFits p n v
  pub own : (n : ThreadName) (v : ThreadState) → value_of equal_thread ts n ≡ Some v → n.site ≡ i → n.num < made
  pub queues : (c : CellName) → QueueFits ts c (queue c)

-- ---- what is kept of cells and ports

-- the content of a token that is here is a variable of some site
abbrev pub ContentFits : Token → Type 0
ContentFits (Here v) = FitsVar v
ContentFits _ = Unit {0}

-- what the home says of a cell
abbrev pub home_in : List (CellName × HomeRecord) → CellName → HomeRecord
home_in hs c = unwrap_or (lookup (equal_cell c) hs) unheard_cell

-- the threads of site i among those of early requests
abbrev pub own_threads : ℕ → List EarlyRequest → List ThreadName
own_threads i [] = []
own_threads i (r ∷ rs) = if r.asking == i then r.thread ∷ own_threads i rs else own_threads i rs

-- those that wait at site i for a cell: for the token of a mobile one, or, at its home, to hear of a stationary one
abbrev pub line_in : ℕ → List (CellName × CellRecord) → List (CellName × HomeRecord) → CellName → List ThreadName
line_in i qs hs c = if c.at == 0 then (cell_record_in qs c).queue else (if c.at == i then own_threads i (home_in hs c).early else [])

-- the content, if it is known, is a variable of some site
abbrev pub IsKeptVar : Option VarName → Type 0
IsKeptVar None = Unit {0}
IsKeptVar (Some v) = FitsVar v

-- the names in an early request are of sites
abbrev pub EarlyFits : EarlyRequest → Type 0
EarlyFits r = IsSite r.thread.site × IsSite r.asking × FitsVar r.new

-- so are those in what a home keeps
abbrev pub HomeFits : HomeRecord → Type 0
HomeFits h = IsKeptVar h.content × Each EarlyFits h.early

-- and the ends of ports
abbrev pub EndsFit : List (PortName × VarName) → Type 0
EndsFit ports = Each (λ (q : PortName × VarName). FitsVar q.1) ports

-- ---- all

-- what a site of so many keeps of ports and of the cells that are at home there
pub record KeptFits (many : ℕ) (ports : List (PortName × VarName)) (kept : List (CellName × HomeRecord)) : Type 0 where
  pub sites : many ≤ MOST_SITES
  pub ends : EndsFit ports
  pub homes : (c : CellName) → HomeFits (home_in kept c)

-- what site i keeps
pub record SiteFits (p : List Stmt) (i : ℕ) (s : Site) : Type 0 where
  pub site : s.records.site ≡ i
  pub equations : EquationsFit p s.equations
  pub owners : OwnersFit p s.records.owners
  pub threads : ThreadsFit p i s.counters.threads s.threads (line_in i s.cell_records s.homes)
  pub contents : (c : CellName) → ContentFits (cell_record_in s.cell_records c).held.token
  pub kept : KeptFits s.counters.sites s.ports s.homes

-- it goes on to keep such things, and what it sends can be spelled
pub record TransitionFits (p : List Stmt) (i : ℕ) (d : Transition) : Type 0 where
  pub site : SiteFits p i d.site
  pub sent : CanBeSpelled d.sent
