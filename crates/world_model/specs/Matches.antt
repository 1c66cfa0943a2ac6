-- What a world of sites and the centralised machine have to do with each other between two parts of a turn.
use Rattle.std.specs.Prelude.{◌≡◌, ◌≢◌, ℕ, ◌+◌, ◌<◌, List, [], ◌∷◌, length, ◌⊎◌, Some, None, Contains}
use Rattle.tree_node.specs.declared.names.VarName.{VarName}
use Rattle.tree_node.specs.declared.names.CellName.{CellName}
use Rattle.tree_node.specs.declared.names.ThreadName.{ThreadName}
use Rattle.tree_node.specs.declared.names.CodeId.{CodeId}
use Rattle.tree_node.specs.declared.names.Name.{Name}
use Rattle.tree_node.specs.declared.node.Term.{Term}
use Rattle.tree_node.specs.Assoc.{value_of}
use Rattle.tree_node.specs.Classes.{HasOneEach}
use Rattle.tree_node.specs.Each.{Each, AreDistinct}
use Rattle.tree_node.specs.Goal.{IsAllowedBind}
use Rattle.tree_node.specs.Order.{IsLower}
use Rattle.tree_node.specs.State.{Stack, State, equal_thread}
use Rattle.tree_node.specs.Store.{Store, Equation, Same, IsFree, IsSound}
use Rattle.kernel_syntax.specs.declared.stmt.Stmt.{Stmt}
use Rattle.site_message.specs.declared.message.Msg.{Msg}
use Rattle.site_message.specs.declared.message.Msg.TheVariants as msg
use Rattle.oz_model.specs.Answers.{IsPartOf, LinksGoDown}
use Rattle.oz_model.specs.Need.{IsOpenNeed, Waits, Binds, Takes, stack_need}
use Rattle.oz_model.specs.Effect.{Exchanged, stack_effect}
use Rattle.oz_model.specs.Step.{threads_born}
use Rattle.bind_protocol.specs.Records.{Records, knowledge, sites_in}
use Rattle.site_model.specs.Site.{Threads, Counters, CellRecord, cell_record_in}
use Rattle.thread_roster.specs.declared.mode.Awaited.TheVariants.{Cell}
use Rattle.thread_roster.specs.declared.mode.Mode.{Mode}
use Rattle.thread_roster.specs.declared.mode.Mode.TheVariants.{WaitsFor}
use Rattle.thread_roster.specs.declared.mode.Mode.TheVariants as site
use Rattle.site_model.specs.Bundle.{message_bundle}
use Rattle.site_model.specs.Messages.{birth}
use Rattle.world_model.specs.World.{Sites, Mail, World, IsOnItsWay, eqs, records, threads, cell_records, managers, counters}
use Rattle.world_model.specs.Schedule.{sum_to}
use Rattle.world_model.specs.Placed.{IsPlaced}
use Rattle.world_model.specs.Shown.{shown}
use Rattle.world_model.specs.Names.{IsHere, AreHome, here_at, ContentsHome, IsCentreMade, KnownAreMade, AreMailNamesMade}
use Rattle.world_model.specs.Chain.{Cells, AreGetsAddressed, mobile_cells}

-- ---- equations

-- the equations that a message tells
abbrev pub equations_in : Msg → List Equation
equations_in (msg.Binding x t bundle) = (x, t) ∷ bundle
equations_in m = message_bundle m

-- the central equations are those held by owners, one a variable, and lead down; what a site knows or a message tells
-- is among them
pub record EquationsMatch (eqs : ℕ → Store) (mail : Mail) (c : Store) : Type 0 where
  pub one : HasOneEach c
  pub down : LinksGoDown c
  pub owned : (x : VarName) (t : Term) → Contains c (x, t) → Contains (eqs x.site) (x, t)
  pub known : (i : ℕ) → IsPartOf (eqs i) c
  pub told : (k to : ℕ) (m : Msg) → IsOnItsWay mail k to m → Each (Contains c) (equations_in m)

-- what a site keeps of variables is its equations, and it knows its number
pub record RecordsMatch (i : ℕ) (b : Records) (s : Store) : Type 0 where
  pub site : b.site ≡ i
  pub bound : (x : VarName) (t : Term) → knowledge b x ≡ Some (Some t) → Contains s (x, t)
  pub held : (x : VarName) (t : Term) → Contains s (x, t) → knowledge b x ≡ Some (Some t)
  pub sound : IsSound s

-- each site's records say what its equations say
abbrev pub AllRecordsMatch : (ℕ → Records) → (ℕ → Store) → Type 0
AllRecordsMatch records eqs = (i : ℕ) → RecordsMatch i (records i) (eqs i)

-- ---- threads

-- the thread is at site i with this stack
abbrev pub IsThreadAt : (ℕ → Threads) → ℕ → ThreadName → Stack → Type 0
IsThreadAt threads i n st = (m : Mode) × (value_of equal_thread (threads i) n ≡ Some (st, m))

-- message k brings the thread
abbrev pub IsInSpawn : List Stmt → Mail → ℕ → ThreadName → Stack → Type 0
IsInSpawn p mail k n st =
    (to : ℕ) × (code : CodeId) × (vars : List VarName) × (bundle : List Equation)
    × IsOnItsWay mail k to (msg.Spawn n code vars bundle) × (threads_born p (Some (birth n code vars)) ≡ (n, st) ∷ [])

-- each central thread is at one site, or comes by one Spawn, with its stack
abbrev pub ThreadsMatch : List Stmt → (ℕ → Threads) → Mail → List (ThreadName × Stack) → Type 0
ThreadsMatch p threads mail ts = IsPlaced (IsThreadAt threads) (IsInSpawn p mail) (value_of equal_thread ts)

-- ---- registrations

-- a site that met x and does not know it bound is registered, or will be, or a Binding comes
abbrev pub IsTold : (ℕ → Records) → Mail → ℕ → VarName → Type 0
IsTold records mail i x =
    Contains (sites_in (records x.site) x) i
    ⊎ (((k : ℕ) × IsOnItsWay mail k x.site (msg.Register x i))
    ⊎ ((k : ℕ) × (t : Term) × (bundle : List Equation) × IsOnItsWay mail k i (msg.Binding x t bundle)))

-- each site that met another's variable, and does not know it bound, will be told
abbrev pub AreTold : (ℕ → Records) → Mail → Type 0
AreTold records mail = (i : ℕ) (x : VarName) → knowledge (records i) x ≡ Some None → x.site ≢ i → IsTold records mail i x

-- messages on variables go to their owners, which made them (what is nobody's goes to no site)
abbrev pub IsAddressed : (ℕ → Records) → ℕ → Msg → Type 0
IsAddressed records to (msg.Register x k) = (to ≡ x.site) × IsHere (records x.site) x
IsAddressed records to (msg.BindReq x n t bundle) = (to ≡ x.site) × IsHere (records x.site) x × IsLower t x
IsAddressed records to m = Unit {0}

-- each Register and each BindReq on its way goes to the owner of its variable; of other messages nothing is asked
abbrev pub AreAddressed : (ℕ → Records) → Mail → Type 0
AreAddressed records mail = (k to : ℕ) (m : Msg) → IsOnItsWay mail k to m → IsAddressed records to m

-- ---- waiting

-- there is an equation for x
abbrev pub IsBound : Store → VarName → Type 0
IsBound c x = (t : Term) × Contains c (x, t)

-- the goal block on top allows this bind, which goes down
abbrev pub HasAllowedBind : List Stmt → Store → Stack → VarName → Term → Type 0
HasAllowedBind p s st x t =
    (a : Term) × (b : Term) × (stack_need p s st ≡ Binds a b) × IsAllowedBind s a b (x, t) × IsLower t x

-- thread n, of whatever site's name, is at site i with this stack and waits for x
abbrev pub IsWaiting : (ℕ → Threads) → ℕ → ThreadName → Stack → VarName → Type 0
IsWaiting threads i n st x = value_of equal_thread (threads i) n ≡ Some (st, site.Waits x)

-- thread n is at site i with this stack and needs the node of x's class
abbrev pub IsNeeding : (ℕ → Threads) → ℕ → ThreadName → Stack → VarName → Type 0
IsNeeding threads i n st x = value_of equal_thread (threads i) n ≡ Some (st, site.Needs x)

-- thread n is at site i with this stack and waits for any of these
abbrev pub IsWaitingAny : (ℕ → Threads) → ℕ → ThreadName → Stack → List VarName → Type 0
IsWaitingAny threads i n st xs = value_of equal_thread (threads i) n ≡ Some (st, site.WaitsAny xs)

-- the top item tests two variables, and by what the site knows these are open in them
abbrev pub IsOpenOn : List Stmt → Store → Stack → List VarName → Type 0
IsOpenOn p s st xs = IsOpenNeed s (stack_need p s st) xs

-- the top item waits for the class of x
abbrev pub NeedsFirst : List Stmt → Store → Stack → VarName → Type 0
NeedsFirst p s st x = (z : VarName) × (stack_need p s st ≡ Waits z) × Same s z x

-- the thread asked for a bind of x: the request travels, or x is bound
abbrev pub IsAsked : Mail → Store → ThreadName → VarName → Type 0
IsAsked mail c n x =
    ((k : ℕ) × (t : Term) × (bundle : List Equation) × IsOnItsWay mail k x.site (msg.BindReq x n t bundle)) ⊎ IsBound c x

-- the top item exchanges this cell
abbrev pub IsExchange : List Stmt → Store → Stack → CellName → Type 0
IsExchange p s st c =
    (new told : VarName) × (stack_need p s st ≡ Takes []) × ((stack_effect p s [] None st).cell ≡ Exchanged c new told)

-- the request is late, or its thread waits for the answer
abbrev pub IsAwaited : List Stmt → (ℕ → Store) → (ℕ → Threads) → Store → VarName → Term → ThreadName → Type 0
IsAwaited p eqs threads c x t n =
    IsBound c x ⊎ ((i : ℕ) × (st : Stack) × IsWaiting threads i n st x × HasAllowedBind p (eqs i) st x t)

-- what each waiting thread waits for: a request to bind is late or its thread waits for x; who waits until a variable is bound has it
-- unbound at its site, and asked to bind it; who needs the node of a variable's class is at a real site, and needs it first by what that
-- knows; who waits for any of several tests two in which these are open by what its site knows, and has each of them unbound there; who
-- waits for a token has an exchange of that cell next
pub record WaitersMatch (p : List Stmt) (eqs : ℕ → Store) (records : ℕ → Records) (threads : ℕ → Threads) (mail : Mail) (c : Store) : Type 0 where
  pub asks : (k to : ℕ) (x : VarName) (t : Term) (n : ThreadName) (bundle : List Equation) → IsOnItsWay mail k to (msg.BindReq x n t bundle) →
      IsAwaited p eqs threads c x t n
  pub waits : (i : ℕ) (n : ThreadName) (st : Stack) (x : VarName) → IsWaiting threads i n st x →
      IsFree (eqs i) x × IsHere (records i) x × IsAsked mail c n x
  pub needs : (i : ℕ) (n : ThreadName) (st : Stack) (x : VarName) → IsNeeding threads i n st x → (i ≢ 0) × NeedsFirst p (eqs i) st x
  pub compares : (i : ℕ) (n : ThreadName) (st : Stack) (xs : List VarName) → IsWaitingAny threads i n st xs →
      IsOpenOn p (eqs i) st xs × ((x : VarName) → Contains xs x → IsFree (eqs i) x × IsHere (records i) x)
  pub exchanges : (i : ℕ) (n : ThreadName) (st : Stack) (d : CellName) → value_of equal_thread (threads i) n ≡ Some (st, WaitsFor (Cell d)) →
      IsExchange p (eqs i) st d

-- those that wait for a cell are its list, each once
pub record IsQueue (q : CellRecord) (ts : Threads) (d : CellName) : Type 0 where
  pub once : AreDistinct q.queue
  pub long : q.held.waiting ≡ length q.queue
  pub stand : (n : ThreadName) → Contains q.queue n → (st : Stack) × (value_of equal_thread ts n ≡ Some (st, WaitsFor (Cell d)))
  pub listed : (n : ThreadName) (st : Stack) → value_of equal_thread ts n ≡ Some (st, WaitsFor (Cell d)) → Contains q.queue n

-- at each site the queue of each cell is the list of those that wait for its token
abbrev pub AreQueues : (ℕ → List (CellName × CellRecord)) → (ℕ → Threads) → Type 0
AreQueues cell_records threads = (i : ℕ) (d : CellName) → IsQueue (cell_record_in (cell_records i) d) (threads i) d

-- ---- totals

-- 1 where the message brings a thread
abbrev pub one_if_spawn : Msg → ℕ
one_if_spawn (msg.Spawn n code vars bundle) = 1
one_if_spawn _ = 0

-- how many threads travel
abbrev pub spawn_count : Mail → ℕ
spawn_count [] = 0
spawn_count (m ∷ ms) = one_if_spawn m.1.msg + spawn_count ms

-- ended threads are those of the sites, living ones those of the sites and of the Spawns that travel
pub record Totals (n : ℕ) (ended living : ℕ → ℕ) (mail : Mail) (s : State) : Type 0 where
  pub all_ended : s.ended ≡ sum_to n ended
  pub all_living : length s.threads ≡ sum_to n living + spawn_count mail

-- how many threads ended at site i
abbrev pub ended : Sites → ℕ → ℕ
ended f i = (f i).ended

-- how many threads live at site i
abbrev pub living : Sites → ℕ → ℕ
living f i = length (f i).threads

-- ---- messages

-- a number is one message's, below the number of those sent
pub record IsNumbered (sent : ℕ) (mail : Mail) : Type 0 where
  pub below : (k to : ℕ) (m : Msg) → IsOnItsWay mail k to m → k < sent
  pub once : (k a b : ℕ) (m o : Msg) → IsOnItsWay mail k a m → IsOnItsWay mail k b o → (a ≡ b) × (m ≡ o)

-- ---- the whole

-- which names are here, equations, records, threads and counters of the sites, the messages, and the centre
pub record PartsMatch (p : List Stmt) (here : ℕ → Name → Type 0) (eqs : ℕ → Store) (records : ℕ → Records) (threads : ℕ → Threads) (counters : ℕ → Counters) (mail : Mail) (s : State) : Type 0 where
  pub knowledge : EquationsMatch eqs mail s.equations
  pub kept : AllRecordsMatch records eqs
  pub placed : ThreadsMatch p threads mail s.threads
  pub told : AreTold records mail
  pub addressed : AreAddressed records mail
  pub waiting : WaitersMatch p eqs records threads mail s.equations
  pub homes : AreHome here eqs threads
  pub centred : IsCentreMade counters s
  pub makers : KnownAreMade records counters
  pub said : AreMailNamesMade counters mail

-- the world and the machine's state match, where these threads wait for answers: their parts, the numbers of messages, the totals and
-- the lines
pub record Matches (p : List Stmt) (n : ℕ) (w : World) (transit : Threads) (s : State) : Type 0 where
  pub parts : PartsMatch p (here_at (records w.sites)) (eqs w.sites) (records w.sites) (threads (shown w.sites transit)) (counters w.sites) w.mail s
  pub numbered : IsNumbered w.sent w.mail
  pub totals : Totals n (ended w.sites) (living w.sites) w.mail s
  pub lines : s.lines ≡ w.lines

-- and the mobile cells
pub record CellsMatch (w : World) (s : State) : Type 0 where
  pub queues : AreQueues (cell_records w.sites) (threads w.sites)
  pub cells : Cells (managers w.sites) (cell_records w.sites) w.mail (mobile_cells s.cells)
  pub gets : AreGetsAddressed w.mail
  pub contents : ContentsHome (records w.sites) (cell_records w.sites)
