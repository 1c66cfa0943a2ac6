-- What holds of the sites and of the messages that travel, between the entries of every run.
use Rattle.std.specs.Prelude.{ℕ, ◌≤◌, List, ◌⊎◌, Contains}
use Rattle.tree_node.specs.declared.limits.TheConstants.{MOST_SITES}
use Rattle.tree_node.specs.declared.names.VarName.{VarName}
use Rattle.tree_node.specs.declared.names.CellName.{CellName}
use Rattle.tree_node.specs.declared.names.ThreadName.{ThreadName}
use Rattle.tree_node.specs.declared.names.Name.{Name}
use Rattle.tree_node.specs.declared.names.Name.TheVariants as name
use Rattle.tree_node.specs.declared.node.Term.{Term}
use Rattle.tree_node.specs.Classes.{HasOneEach}
use Rattle.tree_node.specs.Each.{Each}
use Rattle.tree_node.specs.Order.{IsLower, site_of}
use Rattle.bind_protocol.specs.Records.{Records, IsKnown}
use Rattle.tree_node.specs.Store.{Equation}
use Rattle.kernel_syntax.specs.declared.stmt.Stmt.{Stmt}
use Rattle.kernel_syntax.specs.Program.{IsProgram}
use Rattle.site_message.specs.declared.message.Msg.TheVariants as msg
use Rattle.site_message.specs.declared.message.Sent.{Sent}
use Rattle.site_message.specs.declared.turn.Turn.{Turn}
use Rattle.site_message.specs.Journal.{IsTravelling, travelling}
use Rattle.oz_model.specs.Answers.{LinksGoDown}
use Rattle.site_model.specs.Site.{Site}
use Rattle.site_model.specs.Run.{WorldRun}
use Rattle.world_model.specs.World.{records, counters, managers, cell_records}
use Rattle.world_model.specs.Names.{IsHome, IsMade, IsHereName, KnownAreMade, AreMailNamesMade}
use Rattle.world_model.specs.Chain.{HasChain, IsNowhere, AreGetsAddressed}
use Rattle.world_model.specs.Matches.{equations_in, AreTold}
use Rattle.world_messages.specs.Unfit.{MessagesAreFit, OnOthers}

-- a variable is one of n sites' and known here
abbrev pub IsKnownHere : ℕ → Records → Name → Type 0
IsKnownHere n b (name.Var x) = (1 ≤ x.site) × (x.site ≤ n) × IsKnown b x
IsKnownHere n b _ = Unit {0}

-- another name is of a site from 1 on
abbrev pub IsOfSite : Name → Type 0
IsOfSite = OnOthers (λ (x : Name). 1 ≤ site_of x)

-- each equation that a site knows or a message tells is its variable's owner's; a variable has one at most, and links lead
-- down, also those that are asked for. Each variable at a site is its own or met there; a met one that is not known bound is
-- registered at its owner, or will be, or a Binding comes. Each name is of a site from 1 on, which made it. The sites that asked
-- for a cell are one chain from its token on, and a cell that was not made is nowhere. Each message that travels is fit for its
-- site
pub record ProtocolsHold (p : List Stmt) (n : ℕ) (j : List Turn) (w : ℕ → Site) : Type 0 where
  pub known : (i : ℕ) (e : Equation) → Contains (w i).equations e → Contains (w e.0.site).equations e
  pub told : (k : ℕ) (m : Sent) → IsTravelling j k m → Each (λ (e : Equation). Contains (w e.0.site).equations e) (equations_in m.msg)
  pub one : (i : ℕ) → HasOneEach (w i).equations
  pub down : (i : ℕ) → LinksGoDown (w i).equations
  pub asks : (k to : ℕ) (x : VarName) (th : ThreadName) (t : Term) (bundle : List Equation) → IsTravelling j k (record { to = to; msg = msg.BindReq x th t bundle }) → IsLower t x
  pub here : (i : ℕ) → IsHome (IsHereName (records w i)) (w i).equations (w i).threads
  pub vars : (i : ℕ) → IsHome (IsKnownHere n (w i).records) (w i).equations (w i).threads
  pub others : (i : ℕ) → IsHome IsOfSite (w i).equations (w i).threads
  pub registered : AreTold (records w) (travelling j)
  pub made : (i : ℕ) → IsHome (IsMade (counters w)) (w i).equations (w i).threads
  pub met : KnownAreMade (records w) (counters w)
  pub said : AreMailNamesMade (counters w) (travelling j)
  pub chains : (c : CellName) → ((v : VarName) × HasChain (managers w) (cell_records w) (travelling j) c v) ⊎ IsNowhere (managers w) (cell_records w) (travelling j) c
  pub gets : AreGetsAddressed (travelling j)
  pub fit : MessagesAreFit p n j w

-- in every run of a program on 1 to 64 sites, with any limit of bundles up to 256
abbrev pub ProtocolsAlwaysHold : Type 0
ProtocolsAlwaysHold =
    (p : List Stmt) (n limit : ℕ) (j : List Turn) (w : ℕ → Site) → IsProgram p → 1 ≤ n → n ≤ MOST_SITES → limit ≤ 256 → WorldRun p n limit j w → ProtocolsHold p n j w
