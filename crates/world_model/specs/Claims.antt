-- Where the requests of waiting threads are. Each thread that waits for an answer has one claim: its request travels, or its answer
-- does, or its request came to the home of a cell before the home heard that the cell was made.
use Rattle.std.specs.Prelude.{◌≡◌, ◌≢◌, ℕ, List, [], ◌∷◌, Some, None, true, Contains, unwrap_or}
use Rattle.std.specs.Map.{lookup}
use Rattle.tree_node.specs.declared.names.VarName.{VarName}
use Rattle.tree_node.specs.declared.names.CellName.{CellName}
use Rattle.tree_node.specs.declared.names.PortName.{PortName}
use Rattle.tree_node.specs.declared.names.ThreadName.{ThreadName}
use Rattle.tree_node.specs.declared.names.Name.TheVariants as name
use Rattle.tree_node.specs.declared.node.Term.TheVariants as term
use Rattle.tree_node.specs.Assoc.{value_of}
use Rattle.tree_node.specs.Goal.{equal_cell}
use Rattle.tree_node.specs.State.{Stack, equal_thread}
use Rattle.tree_node.specs.Store.{Store, Equation}
use Rattle.kernel_syntax.specs.declared.stmt.Stmt.{Stmt}
use Rattle.site_message.specs.declared.message.Msg.{Msg}
use Rattle.site_message.specs.declared.message.Msg.TheVariants as msg
use Rattle.oz_model.specs.Need.{Takes, variable_kinds, stack_need}
use Rattle.oz_model.specs.Effect.{Exchanged, Sent, stack_effect}
use Rattle.thread_roster.specs.declared.mode.Awaited.{Awaited}
use Rattle.thread_roster.specs.declared.mode.Awaited.TheVariants.{Cell, Port}
use Rattle.thread_roster.specs.declared.mode.Mode.TheVariants.{Runs, WaitsFor}
use Rattle.site_model.specs.Cells.{exchange_stack}
use Rattle.site_model.specs.Requests.{Answer, NewEnd, OldContent, send_stack}
use Rattle.site_model.specs.Site.{ThreadState, Threads, EarlyRequest, HomeRecord, unheard_cell}
use Rattle.world_model.specs.World.{Mail, IsOnItsWay}
use Rattle.world_model.specs.Shown.{is_asking}

-- ---- requests and answers

-- what a thread asks for: the end of a port, or the content of a stationary cell, which it exchanges for this one
pub data Asking : Type 0 where
  EndOf : (q : PortName) → Asking
  ContentOf : (c : CellName) (new : VarName) → Asking

-- the thread waits for it so
abbrev pub awaited : Asking → Awaited
awaited (EndOf q) = Port q
awaited (ContentOf c new) = Cell c

-- the site that is asked: the owner of the port, the home of the cell
abbrev pub server : Asking → ℕ
server (EndOf q) = q.site
server (ContentOf c new) = c.at

-- the top item sends to the port, or exchanges the content of the cell
abbrev pub Asks : List Stmt → Store → Stack → Asking → Type 0
Asks p s st (EndOf q) =
    (stack_need p s st ≡ Takes (variable_kinds 1))
    × ((value : VarName) × ((new : VarName) → (stack_effect p s (name.Var new ∷ []) None st).port ≡ Sent q value new))
Asks p s st (ContentOf c new) = (stack_need p s st ≡ Takes []) × (told : VarName) × ((stack_effect p s [] None st).cell ≡ Exchanged c new told)

-- the request of thread n of a site
abbrev pub request : Asking → ThreadName → ℕ → List Equation → Msg
request (EndOf q) n from bundle = msg.PortSend q n from
request (ContentOf c new) n from bundle = msg.CellAsk c n from new bundle

-- the answer to thread n
abbrev pub answer : ThreadName → Answer → List Equation → Msg
answer n (NewEnd old new) bundle = msg.PortEnd n old new bundle
answer n (OldContent v) bundle = msg.CellOld n v bundle

-- the answer is one to this
abbrev pub IsAnswerTo : Asking → Answer → Type 0
IsAnswerTo (EndOf q) (NewEnd old new) = Unit {0}
IsAnswerTo (ContentOf c w) (OldContent v) = Unit {0}
IsAnswerTo _ _ = ⊥

-- the stack of a thread that asked, as the answer leaves it
abbrev pub answered : List Stmt → Store → Answer → Stack → Stack
answered p s (NewEnd old new) st =
    send_stack old (stack_effect p s (name.Var new ∷ []) None st).port (stack_effect p s (name.Var new ∷ []) None st).stack
answered p s (OldContent v) st = exchange_stack v (stack_effect p s [] None st).cell (stack_effect p s [] None st).stack

-- ---- claims

pub data Claim : Type 0 where
  Asked : (k to : ℕ) (a : Asking) (n : ThreadName) (from : ℕ) → Claim  -- the request travels
  Answered : (k to : ℕ) (n : ThreadName) (x : Answer) → Claim  -- the answer travels
  Listed : (c : CellName) (r : EarlyRequest) → Claim  -- the home keeps the request until it hears of the cell

-- the thread whose claim it is
abbrev pub claimant : Claim → ThreadName
claimant (Asked k to a n from) = n
claimant (Answered k to n x) = n
claimant (Listed c r) = r.thread

-- what these records of homes say of a cell
abbrev pub home_in : List (CellName × HomeRecord) → CellName → HomeRecord
home_in hs c = unwrap_or (lookup (equal_cell c) hs) unheard_cell

-- the claims of these messages, and of the requests that homes keep
abbrev pub IsClaim : Mail → (CellName → List EarlyRequest) → Claim → Type 0
IsClaim mail early (Asked k to a n from) = (bundle : List Equation) × IsOnItsWay mail k to (request a n from bundle)
IsClaim mail early (Answered k to n x) = (bundle : List Equation) × IsOnItsWay mail k to (answer n x bundle)
IsClaim mail early (Listed c r) = Contains (early c) r

-- ---- threads that wait for an answer

-- thread n of site i waits for an answer, with this stack as it asked
abbrev pub IsAsking : (ℕ → Threads) → ℕ → ThreadName → Awaited → Stack → Type 0
IsAsking threads i n a st = (value_of equal_thread (threads i) n ≡ Some (st, WaitsFor a)) × (is_asking (WaitsFor a) ≡ true)

-- a thread of site i that waits for this asked with the stack st, and the machine has it with z: as it asked, or as its answer will leave
-- it
abbrev pub FitsClaim : List Stmt → Store → ℕ → Awaited → Stack → Stack → Claim → Type 0
FitsClaim p s i a st z (Asked k to b n from) = (from ≡ i) × (awaited b ≡ a) × (z ≡ st)
FitsClaim p s i a st z (Listed c r) = (r.asking ≡ i) × (Cell c ≡ a) × (z ≡ st)
FitsClaim p s i a st z (Answered k to n x) = (to ≡ i) × (b : Asking) × (awaited b ≡ a) × Asks p s st b × IsAnswerTo b x × (z ≡ answered p s x st)

-- a relation of threads that wait for an answer: the site, the thread, what it waits for, and its stack as it asked
abbrev pub Waiting : Type 1
Waiting = ℕ → ThreadName → Awaited → Stack → Type 0

-- the site that is asked
abbrev pub keeper_of : Awaited → ℕ
keeper_of (Port q) = q.site
keeper_of (Cell c) = c.at

-- the thread that claims waits, and a request is what its top item asks for. A request that travels goes to another site, which is asked, and
-- an answer comes from another site
abbrev pub IsGrounded : List Stmt → (ℕ → Store) → Waiting → Claim → Type 0
IsGrounded p eqs waits (Asked k to a n from) = (to ≡ server a) × (from ≢ to) × (st : Stack) × waits from n (awaited a) st × Asks p (eqs from) st a
IsGrounded p eqs waits (Answered k to n x) = (a : Awaited) × (st : Stack) × waits to n a st × (keeper_of a ≢ to)
IsGrounded p eqs waits (Listed c r) = (st : Stack) × waits r.asking r.thread (Cell c) st × Asks p (eqs r.asking) st (ContentOf c r.new)

-- each thread that waits for an answer is one of those at number 0, with one claim; and who claims waits
pub record AskingMatch (p : List Stmt) (eqs : ℕ → Store) (waits : Waiting) (claims : Claim → Type 0) (transit : Threads) : Type 0 where
  pub stands : (i : ℕ) (n : ThreadName) (a : Awaited) (st : Stack) → waits i n a st →
      (z : Stack) × (value_of equal_thread transit n ≡ Some (z, Runs)) × (x : Claim) × claims x × (claimant x ≡ n) × FitsClaim p (eqs i) i a st z x
  pub known : (n : ThreadName) (v : ThreadState) → value_of equal_thread transit n ≡ Some v → (v.1 ≡ Runs) × (i : ℕ) × (a : Awaited) × (st : Stack) × waits i n a st
  pub alone : (i j : ℕ) (n : ThreadName) (a b : Awaited) (st su : Stack) → waits i n a st → waits j n b su → i ≡ j
  pub grounded : (x : Claim) → claims x → IsGrounded p eqs waits x
  pub once : (x y : Claim) → claims x → claims y → claimant x ≡ claimant y → x ≡ y
