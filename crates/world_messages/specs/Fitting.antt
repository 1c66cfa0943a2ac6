-- Sites all of whose terms, stacks and messages fit the program.
use Rattle.std.specs.Prelude.{◌≡◌, ◌≢◌, ℕ, ◌<◌, ◌≤◌, List, [], ◌∷◌, ◌==◌, Option, Some, None, Contains, if◌then◌else◌}
use Rattle.std.specs.Map.{lookup}
use Rattle.tree_node.specs.declared.names.VarName.{VarName}
use Rattle.tree_node.specs.declared.names.CellName.{CellName}
use Rattle.tree_node.specs.declared.names.PortName.{PortName}
use Rattle.tree_node.specs.declared.names.ThreadName.{ThreadName}
use Rattle.tree_node.specs.declared.names.Name.{Name}
use Rattle.tree_node.specs.declared.node.Term.{Term}
use Rattle.tree_node.specs.Assoc.{value_of}
use Rattle.tree_node.specs.Each.{Each, AreDistinct}
use Rattle.tree_node.specs.Goal.{equal_port}
use Rattle.tree_node.specs.Names.{EachOfTerm, EachOfEquation, EachOfStack}
use Rattle.tree_node.specs.State.{Stack, equal_thread}
use Rattle.tree_node.specs.Store.{Store, Equation}
use Rattle.kernel_syntax.specs.declared.stmt.Stmt.{Stmt}
use Rattle.site_message.specs.declared.message.Msg.{Msg}
use Rattle.site_message.specs.declared.message.Sent.{Sent}
use Rattle.site_message.specs.declared.turn.Turn.{Turn}
use Rattle.site_message.specs.Journal.{IsTravelling, sent_of}
use Rattle.site_model.specs.Variables.{opening}
use Rattle.site_model.specs.Run.{WorldRun}
use Rattle.site_model.specs.Bundle.{message_vars, message_bundle}
use Rattle.oz_model.specs.WellFormed.{IsNode, IsNodeOf, AreNodesOf}
use Rattle.thread_machine.specs.Fits.{StackFits, EquationsFit}
use Rattle.thread_machine.specs.Fits as fits
use Rattle.bind_protocol.specs.Records.{Records, knowledge, IsKnown}
use Rattle.token_chain.specs.declared.token.Token.TheVariants.{Here}
use Rattle.site_message.specs.declared.message.Msg.TheVariants as msg
use Rattle.site_model.specs.Site.{Site, ThreadState, Threads, CellRecord, HomeRecord, EarlyRequest, Counters, cell_record_in, cell_record, home_record, thread_state}
use Rattle.thread_roster.specs.declared.mode.Mode.{Mode}
use Rattle.world_model.specs.Claims.{EndOf, ContentOf, Asks, home_in}
use Rattle.world_model.specs.Matches.{IsExchange}
use Rattle.site_model.specs.Fit.{EachOfMsg, CodesFit, home_of_name}

-- the home in a cell's name is one of n sites, or none
abbrev pub HasHomeIn : ℕ → Name → Type 0
HasHomeIn n x = home_of_name x ≤ n

-- a stack over these variables, with statements and nodes of the program, and homes among n sites
pub record ThreadFits (p : List Stmt) (n : ℕ) (known : List VarName) (st : Stack) : Type 0 where
  pub some : st ≢ []
  pub stack : StackFits p known st
  pub nodes : Each (AreNodesOf (IsNode p)) st
  pub homes : EachOfStack (HasHomeIn n) st

-- what a site has: its equations, its threads and the contents of its tokens
pub record TermsFit (p : List Stmt) (n : ℕ) (known : List VarName) (s : Store) (ts : Threads) (qs : List (CellName × CellRecord)) : Type 0 where
  pub equations : EquationsFit p known s
  pub nodes : Each (λ (e : Equation). IsNodeOf (IsNode p) e.1) s
  pub homes : Each (EachOfEquation (HasHomeIn n)) s
  pub stacks : (th : ThreadName) (v : ThreadState) → value_of equal_thread ts th ≡ Some v → ThreadFits p n known v.0
  pub contents : (c : CellName) (v : VarName) → (cell_record_in qs c).held.token ≡ Here v → Contains known v

-- site i knows these variables, and no others than the second ones; it knows all of its own that it made, and no others;
-- what it knows bound is among its equations
pub record NamesKnown (i : ℕ) (known more : List VarName) (b : Records) (made : Counters) (s : Store) : Type 0 where
  pub site : b.site ≡ i
  pub here : (x : VarName) → Contains known x → IsKnown b x
  pub within : (x : VarName) → IsKnown b x → Contains more x
  pub own : (x : VarName) → x.site ≡ i → x.num < made.vars → IsKnown b x
  pub counted : (x : VarName) → x.site ≡ i → Contains known x → x.num < made.vars
  pub bound : (x : VarName) (t : Term) → knowledge b x ≡ Some (Some t) → Contains s (x, t)

-- the ends of ports, and what homes keep of their cells and of requests, are of these variables
pub record KeepsFit (known : List VarName) (ports : List (PortName × VarName)) (homes : List (CellName × HomeRecord)) : Type 0 where
  pub ends : (q : PortName) (x : VarName) → lookup (equal_port q) ports ≡ Some x → Contains known x
  pub contents : (c : CellName) (v : VarName) → (home_in homes c).content ≡ Some v → Contains known v
  pub early : (c : CellName) (r : EarlyRequest) → Contains (home_in homes c).early r → Contains known r.new

-- site i of n knows these variables, and what it has is of them
pub record SiteFits (p : List Stmt) (n i : ℕ) (known : List VarName) (s : Site) : Type 0 where
  pub names : NamesKnown i known known s.records s.counters s.equations
  pub terms : TermsFit p n known s.equations s.threads s.cell_records
  pub keeps : KeepsFit known s.ports s.homes
  pub sites : s.counters.sites ≡ n

-- the homes of which a message tells are among n sites: those in its terms and in its bundle, and that of a stationary cell that it is about
abbrev pub MessageHomes : ℕ → Msg → Type 0
MessageHomes n m = of_msg m × Each (EachOfEquation (HasHomeIn n)) (message_bundle m)
  where
    of_msg : Msg → Type 0
    of_msg (msg.BindReq x th t bundle) = EachOfTerm (HasHomeIn n) t
    of_msg (msg.Binding x t bundle) = EachOfTerm (HasHomeIn n) t
    of_msg (msg.CellMake c v bundle) = c.at ≤ n
    of_msg (msg.CellAsk c th k v bundle) = c.at ≤ n
    of_msg _ = Unit {0}

-- a message of these variables that fits the program, and tells of homes among n sites
abbrev pub MsgFits : List Stmt → ℕ → List VarName → Msg → Type 0
MsgFits p n known m = EachOfMsg (fits.IsKnown known) m × CodesFit p m × MessageHomes n m

-- each of these messages fits
abbrev pub AllFit : List Stmt → ℕ → List VarName → List Sent → Type 0
AllFit p n known ms = Each (λ (m : Sent). MsgFits p n known m.msg) ms

-- those that wait for the token can be served one after another: each once, with an exchange of this cell next
abbrev pub AreServed : List Stmt → CellName → List ThreadName → Site → Type 0
AreServed p c ns s =
    AreDistinct ns × ((n : ThreadName) → Contains ns n → (st : Stack) (m : Mode) → thread_state s n ≡ Some (st, m) → IsExchange p s.equations st c)

-- the thread, if it stands here, sends to a port next
abbrev pub IsSending : List Stmt → ThreadName → Site → Type 0
IsSending p n s = (st : Stack) (m : Mode) → thread_state s n ≡ Some (st, m) → (q : PortName) × Asks p s.equations st (EndOf q)

-- the thread, if it stands here, exchanges the content of a cell next
abbrev pub IsExchanging : List Stmt → ThreadName → Site → Type 0
IsExchanging p n s = (st : Stack) (m : Mode) → thread_state s n ≡ Some (st, m) → (c : CellName) × (new : VarName) × Asks p s.equations st (ContentOf c new)

-- the threads of site i among those that asked
abbrev pub own_threads : ℕ → List EarlyRequest → List ThreadName
own_threads i [] = []
own_threads i (r ∷ rs) = if r.asking == i then r.thread ∷ own_threads i rs else own_threads i rs

-- these threads can be given contents one after another: each once, with an exchange next
abbrev pub AreTaking : List Stmt → List ThreadName → Site → Type 0
AreTaking p ns s = AreDistinct ns × ((n : ThreadName) → Contains ns n → IsExchanging p n s)

-- where the message is a token, those that wait for it can be served, and so can the site's own that asked for a cell of which it hears;
-- where it is an answer, its thread can go on with it
abbrev pub TokenWaits : List Stmt → Msg → Site → Type 0
TokenWaits p (msg.Put c v bundle) s = AreServed p c (cell_record s c).queue s
TokenWaits p (msg.PortEnd n old new bundle) s = IsSending p n s
TokenWaits p (msg.CellMake c v bundle) s = AreTaking p (own_threads s.records.site (home_record s c).early) s
TokenWaits p (msg.CellOld n v bundle) s = IsExchanging p n s
TokenWaits p m s = Unit {0}

-- ---- worlds

-- the variable is one of n sites', which made it
abbrev pub IsMadeVar : ℕ → (ℕ → Site) → VarName → Type 0
IsMadeVar n f x = (1 ≤ x.site) × (x.site ≤ n) × IsKnown (f x.site).records x

-- a site of the world fits the program, and the variables that it knows were made
abbrev pub IsFitting : List Stmt → ℕ → (ℕ → Site) → ℕ → Site → Type 0
IsFitting p n f i s = (known : List VarName) × SiteFits p n i known s × ((x : VarName) → Contains known x → IsMadeVar n f x)

-- a message fits the program, and its variables were made
abbrev pub IsFittingMsg : List Stmt → ℕ → (ℕ → Site) → Sent → Type 0
IsFittingMsg p n f m = CodesFit p m.msg × ((x : VarName) → Contains (message_vars m.msg) x → IsMadeVar n f x) × MessageHomes n m.msg

-- each site fits, and each message that was sent
pub record WorldFits (p : List Stmt) (n : ℕ) (j : List Turn) (f : ℕ → Site) : Type 0 where
  pub sites : (i : ℕ) → IsFitting p n f i (f i)
  pub messages : Each (IsFittingMsg p n f) (sent_of j)

-- where a token or an answer comes, those that wait for it can be served: what cells' chains and the waiting threads' next items
-- give in every run
abbrev pub TokensServe : List Stmt → ℕ → ℕ → Type 0
TokensServe p n limit =
    (j : List Turn) (f : ℕ → Site) → WorldRun p n limit j f → (k : ℕ) (m : Sent) → IsTravelling j k m → TokenWaits p m.msg (opening m.msg (f m.to)).site

-- where the message of the turn, if any, is a token or an answer, those that wait for it can be served
abbrev pub HeardWaits : List Stmt → Option Msg → Site → Type 0
HeardWaits p None s = Unit {0}
HeardWaits p (Some m) s = TokenWaits p m (opening m s).site
