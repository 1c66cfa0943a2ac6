-- Where each thread was placed, and where its own steps stand, read from the journal of a run alone.
use Rattle.std.specs.Prelude.{◌≡◌, ℕ, ◌≤◌, List, [], ◌∷◌, ◌⊎◌, Option, Some, None, Contains, if◌then◌else◌}
use Rattle.tree_node.specs.declared.names.VarName.{VarName}
use Rattle.tree_node.specs.declared.names.CellName.{CellName}
use Rattle.tree_node.specs.declared.names.ThreadName.{ThreadName}
use Rattle.tree_node.specs.declared.names.Name.TheVariants as name
use Rattle.tree_node.specs.declared.pick.Pick.{Pick}
use Rattle.tree_node.specs.Each.{Each}
use Rattle.kernel_syntax.specs.declared.stmt.Stmt.{Stmt}
use Rattle.site_message.specs.declared.message.Msg.{Msg}
use Rattle.site_message.specs.declared.message.Msg.TheVariants as msg
use Rattle.site_message.specs.declared.message.Sent.{Sent}
use Rattle.site_message.specs.declared.turn.Turn.{Turn}
use Rattle.oz_model.specs.Run.{first_thread}
use Rattle.site_model.specs.Cells.{step_pick}
use Rattle.site_model.specs.Messages.{bind_pick}
use Rattle.site_model.specs.Run.{WorldRun, delivered_message}
use Rattle.site_model.specs.Site.{Site}
use Rattle.world_messages.specs.BindRequests.{is_spawn}
use Rattle.world_messages.specs.Messages.{fresh_in, threads_among}

-- the site to which a turn of site i sends the thread among these messages; without a Spawn of it the thread stays there
abbrev pub home_of : ℕ → ThreadName → List Sent → ℕ
home_of i th [] = i
home_of i th (m ∷ ms) = if is_spawn th m then m.to else home_of i th ms

-- the thread was placed at site i: the first thread at site 1, and a thread whose name a pick makes where that turn sends it
abbrev pub IsPlacedAt : List Turn → ThreadName → ℕ → Type 0
IsPlacedAt [] th i = (th ≡ first_thread) × (i ≡ 1)
IsPlacedAt (e ∷ j) th i = IsPlacedAt j th i ⊎ (Contains (threads_among (fresh_in e.picks)) th × (i ≡ home_of e.site th e.sent))

-- the message is a request of the thread for the content of this cell
abbrev pub AsksFor : CellName → ThreadName → Option Msg → Type 0
AsksFor c th (Some (msg.CellAsk d o k v bundle)) = (d ≡ c) × (o ≡ th)
AsksFor c th m = ⊥

-- a turn of site i took such a request
abbrev pub WasAsked : List Turn → ℕ → CellName → ThreadName → Type 0
WasAsked [] i c th = ⊥
WasAsked (e ∷ j) i c th = WasAsked j i c th ⊎ ((e.site ≡ i) × AsksFor c th (delivered_message j e.delivered))

-- The pick, of a turn of site i behind this journal, is what the delivered message asks for, for a thread of another site. The owner of a
-- variable makes the bind, the owner of a port the send, which takes one variable, and the home of a cell the exchange; where the home
-- hears of the cell, it makes those for which it was asked before
abbrev pub IsRequested : List Turn → ℕ → Option Msg → Pick → Type 0
IsRequested j i (Some (msg.BindReq x th t bundle)) k = k ≡ bind_pick th x t
IsRequested j i (Some (msg.PortSend q th a)) k = (x : VarName) × (k ≡ step_pick th (name.Var x ∷ []) None)
IsRequested j i (Some (msg.CellAsk c th a v bundle)) k = k ≡ step_pick th [] None
IsRequested j i (Some (msg.CellMake c v bundle)) k = (th : ThreadName) × WasAsked j i c th × (k ≡ step_pick th [] None)
IsRequested j i m k = ⊥

-- each pick of each turn is one that its message asks for, or an own step of a thread that was placed at the turn's site
abbrev pub StepsStandAtHome : List Turn → Type 0
StepsStandAtHome [] = Unit {0}
StepsStandAtHome (e ∷ j) =
    StepsStandAtHome j × Each (λ (k : Pick). IsRequested j e.site (delivered_message j e.delivered) k ⊎ IsPlacedAt (e ∷ j) k.thread e.site) e.picks

-- and no thread was placed at two sites
pub record ThreadsStayHome (j : List Turn) : Type 0 where
  pub steps : StepsStandAtHome j
  pub once : (th : ThreadName) (i k : ℕ) → IsPlacedAt j th i → IsPlacedAt j th k → i ≡ k

-- the thread has its name from one of n sites
abbrev pub IsNamedBy : ℕ → ThreadName → Type 0
IsNamedBy n th = (1 ≤ th.site) × (th.site ≤ n)

-- each unit of each turn is of a thread that has its name from one of n sites
abbrev pub UnitsAreNamed : ℕ → List Turn → Type 0
UnitsAreNamed n j = Each (λ (e : Turn). Each (IsNamedBy n) e.units) j

-- in every run, with bundles of whatever size
abbrev pub UnitsAreAlwaysNamed : Type 0
UnitsAreAlwaysNamed = (p : List Stmt) (n limit : ℕ) (j : List Turn) (w : ℕ → Site) → WorldRun p n limit j w → UnitsAreNamed n j

-- in every run, with bundles of whatever size
abbrev pub ThreadsAlwaysStayHome : Type 0
ThreadsAlwaysStayHome = (p : List Stmt) (n limit : ℕ) (j : List Turn) (w : ℕ → Site) → WorldRun p n limit j w → ThreadsStayHome j
