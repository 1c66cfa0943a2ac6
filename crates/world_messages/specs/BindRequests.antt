-- No thread asks twice to bind a variable.
use Rattle.std.specs.Prelude.{◌≡◌, ◌≢◌, ℕ, ◌+◌, Bool, false, ◌<◌, ◌≤◌, ◌⊎◌, List, Some, Contains}
use Rattle.std.specs.List.{count_by}
use Rattle.tree_node.specs.declared.names.VarName.{VarName}
use Rattle.tree_node.specs.declared.names.CellName.{CellName}
use Rattle.tree_node.specs.declared.names.ThreadName.{ThreadName}
use Rattle.tree_node.specs.State.{equal_thread}
use Rattle.tree_node.specs.Store.{Equation}
use Rattle.site_message.specs.declared.message.Msg.{Msg}
use Rattle.site_message.specs.declared.message.Msg.TheVariants as msg
use Rattle.kernel_syntax.specs.declared.stmt.Stmt.{Stmt}
use Rattle.site_message.specs.declared.message.Sent.{Sent}
use Rattle.site_message.specs.declared.turn.Turn.{Turn}
use Rattle.site_message.specs.Journal.{IsTravelling, sent_of}
use Rattle.site_model.specs.Run.{WorldRun}
use Rattle.site_model.specs.Site.{Site, ThreadState, EarlyRequest, thread_state, cell_record, home_record}
use Rattle.thread_roster.specs.declared.mode.Awaited.{Awaited}
use Rattle.thread_roster.specs.declared.mode.Awaited.TheVariants.{Cell}
use Rattle.thread_roster.specs.declared.mode.Mode.TheVariants.{WaitsFor}
use Rattle.thread_roster.specs.declared.mode.Mode.TheVariants as site
use Rattle.world_model.specs.Matches.{IsBound}
use Rattle.world_messages.specs.Messages.{is_request}

-- how many of these messages are requests of the thread to bind x
abbrev pub requests : ThreadName → VarName → List Sent → ℕ
requests n x ms = count_by (is_request n x) ms

-- the message brings the thread
abbrev pub is_spawn : ThreadName → Sent → Bool
is_spawn n m = brings m.msg
  where
    brings : Msg → Bool
    brings (msg.Spawn o code vars bundle) = equal_thread n o
    brings _ = false

-- how many of these messages bring the thread
abbrev pub flights : ThreadName → List Sent → ℕ
flights n ms = count_by (is_spawn n) ms

-- in a turn of site i that began where the messages of start were sent, at low made threads: a thread asked once at most;
-- one that stands here and asked to bind x knows it bound, or waits for it; threads of the site that stand here or asked
-- are below cap; who stands here or asked in this turn is of P; who was sent away in this turn never asked
pub record Asks (i low cap : ℕ) (P : ThreadName → Type 0) (start base : List Sent) (s : Site) : Type 0 where
  pub once : (n : ThreadName) (x : VarName) → requests n x base ≤ 1
  pub stands : (n : ThreadName) (v : ThreadState) (x : VarName) → thread_state s n ≡ Some v → 1 ≤ requests n x base → IsBound s.equations x ⊎ (v.1 ≡ site.Waits x)
  pub counted : (n : ThreadName) (v : ThreadState) → thread_state s n ≡ Some v → n.site ≡ i → n.num < cap
  pub asked : (n : ThreadName) (x : VarName) → 1 ≤ requests n x base → n.site ≡ i → n.num < cap
  pub since : low ≤ cap
  pub capped : cap ≤ s.counters.threads
  pub who : (n : ThreadName) (v : ThreadState) → thread_state s n ≡ Some v → P n
  pub asker : (n : ThreadName) (x : VarName) → requests n x start + 1 ≤ requests n x base → P n
  pub flown : (n : ThreadName) → flights n start + 1 ≤ flights n base → ((x : VarName) → requests n x base ≡ 0) × ((v : ThreadState) → thread_state s n ≡ Some v → ⊥) × (n.site ≡ i) × (n.num < cap)

-- the thread, if it stands here, waits for a token or for the answer of another site
abbrev pub Awaits : ThreadName → Site → Type 0
Awaits n s = (w : ThreadState) → thread_state s n ≡ Some w → (a : Awaited) × (w.1 ≡ WaitsFor a)

-- a thread that comes has not asked, and was made; those that wait for a token that comes wait for it; an answer is for a thread that waits,
-- and those of the site that asked for a cell before the site heard of it wait for that; a request is another site's
abbrev pub ComesNew : ℕ → (ThreadName → Type 0) → List Sent → Msg → Site → Type 0
ComesNew i P base (msg.Spawn n code vars bundle) s = ((x : VarName) → requests n x base ≡ 0) × (n.site ≡ i → n.num < s.counters.threads) × P n
ComesNew i P base (msg.Put c v bundle) s =
    (n : ThreadName) (w : ThreadState) → Contains (cell_record s c).queue n → thread_state s n ≡ Some w → w.1 ≡ WaitsFor (Cell c)
ComesNew i P base (msg.PortEnd n old new bundle) s = Awaits n s
ComesNew i P base (msg.CellMake c v bundle) s =
    (r : EarlyRequest) (w : ThreadState) → Contains (home_record s c).early r → r.asking ≡ s.records.site → thread_state s r.thread ≡ Some w → w.1 ≡ WaitsFor (Cell c)
ComesNew i P base (msg.CellAsk c n k v bundle) s = k ≢ s.records.site
ComesNew i P base (msg.CellOld n v bundle) s = Awaits n s
ComesNew i P base m s = Unit {0}

-- ---- worlds

-- the message brings this thread
abbrev pub BringsThread : ThreadName → Msg → Type 0
BringsThread n (msg.Spawn o code vars bundle) = o ≡ n
BringsThread n m = ⊥

-- the message is an answer to this thread
abbrev pub AnswersThread : ThreadName → Msg → Type 0
AnswersThread n (msg.PortEnd o old new bundle) = o ≡ n
AnswersThread n (msg.CellOld o v bundle) = o ≡ n
AnswersThread n m = ⊥

-- each thread is at one site or comes by one message, and those listed for a cell wait for it; a thread for which an answer comes waits, and
-- so do those of a home that asked before it heard of the cell; a request is another site's
pub record ThreadsPlaced (j : List Turn) (f : ℕ → Site) : Type 0 where
  pub home : (i l : ℕ) (n : ThreadName) (v w : ThreadState) → thread_state (f i) n ≡ Some v → thread_state (f l) n ≡ Some w → i ≡ l
  pub apart : (i k to : ℕ) (n : ThreadName) (v : ThreadState) (m : Msg) → thread_state (f i) n ≡ Some v → IsTravelling j k (record { to = to; msg = m }) → BringsThread n m → ⊥
  pub sole : (k l to at : ℕ) (n : ThreadName) (m o : Msg) → IsTravelling j k (record { to = to; msg = m }) → IsTravelling j l (record { to = at; msg = o }) → BringsThread n m → BringsThread n o → k ≡ l
  pub queues : (i : ℕ) (c : CellName) (n : ThreadName) (w : ThreadState) → Contains (cell_record (f i) c).queue n → thread_state (f i) n ≡ Some w → w.1 ≡ WaitsFor (Cell c)
  pub answered : (k to : ℕ) (n : ThreadName) (m : Msg) → IsTravelling j k (record { to = to; msg = m }) → AnswersThread n m → Awaits n (f to)
  pub elsewhere : (k to : ℕ) (c : CellName) (n : ThreadName) (asking : ℕ) (v : VarName) (bundle : List Equation) → IsTravelling j k (record { to = to; msg = msg.CellAsk c n asking v bundle }) → asking ≢ to
  pub early : (k to : ℕ) (c : CellName) (v : VarName) (bundle : List Equation) (r : EarlyRequest) (w : ThreadState) → IsTravelling j k (record { to = to; msg = msg.CellMake c v bundle }) → Contains (home_record (f to) c).early r → r.asking ≡ to →
      thread_state (f to) r.thread ≡ Some w → w.1 ≡ WaitsFor (Cell c)

-- in every run threads and queues stand so
abbrev pub ThreadsArePlaced : List Stmt → ℕ → ℕ → Type 0
ThreadsArePlaced p n limit = (j : List Turn) (f : ℕ → Site) → WorldRun p n limit j f → ThreadsPlaced j f

-- no thread sends two requests to bind one variable
abbrev pub AsksAreFew : Type 0
AsksAreFew =
    (p : List Stmt) (n limit : ℕ) (j : List Turn) (f : ℕ → Site) → ThreadsArePlaced p n limit → WorldRun p n limit j f →
    (th : ThreadName) (x : VarName) → requests th x (sent_of j) ≤ 1
