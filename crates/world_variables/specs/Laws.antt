-- How turns on variables and threads keep a world matched with the centralised machine.
use Rattle.std.specs.Prelude.{◌≡◌, ◌≢◌, ℕ, List, ◌⊎◌, Some, Contains}
use Rattle.tree_node.specs.declared.names.ThreadName.{ThreadName}
use Rattle.tree_node.specs.declared.names.Name.{Name}
use Rattle.tree_node.specs.Assoc.{value_of}
use Rattle.tree_node.specs.Each.{Each}
use Rattle.tree_node.specs.State.{Stack, State, equal_thread}
use Rattle.tree_node.specs.Store.{IsSound}
use Rattle.kernel_syntax.specs.declared.stmt.Stmt.{Stmt}
use Rattle.site_message.specs.declared.message.Msg.{Msg}
use Rattle.site_message.specs.declared.message.Msg.TheVariants as msg
use Rattle.oz_model.specs.Run.{IsRun, AtRest, start}
use Rattle.thread_roster.specs.declared.mode.Awaited.{Awaited}
use Rattle.thread_roster.specs.declared.mode.Mode.TheVariants as mode
use Rattle.site_model.specs.Site.{Threads, thread_state}
use Rattle.site_model.specs.Bundle.{message_bundle}
use Rattle.site_model.specs.Transition.{Transition}
use Rattle.site_model.specs.Messages.{reception}
use Rattle.site_model.specs.Unit.{IsUnit}
use Rattle.world_model.specs.World.{World, Mail, IsOnItsWay, eqs, records, threads, counters, after_transition, after_receipt, start_world}
use Rattle.world_model.specs.Names.{here_at}
use Rattle.world_model.specs.Matches.{PartsMatch, IsNumbered}
use Rattle.world_variables.specs.Plain.{IsPlain, IsCellUnit}

-- the world's equations, threads, registrations and names match this state of the machine
abbrev pub PartsIn : List Stmt → (ℕ → Name → Type 0) → World → State → Type 0
PartsIn p here w s = PartsMatch p here (eqs w.sites) (records w.sites) (threads w.sites) (counters w.sites) w.mail s

-- the same with the names that each site of the world knows
abbrev pub WorldMatches : List Stmt → World → State → Type 0
WorldMatches p w s = PartsIn p (here_at (records w.sites)) w s

-- the machine makes these picks, and is matched by this world then
abbrev pub IsFollowed : List Stmt → State → Transition → World → Type 0
IsFollowed p c d w = (z : State) × IsRun p c d.picks z × WorldMatches p w z

-- at the start the sites match the machine
abbrev pub StartMatches : Type 0
StartMatches = (p : List Stmt) (n : ℕ) → WorldMatches p (start_world p n) (start p)

-- a Binding is of another site's variable
abbrev pub IsForeignBinding : ℕ → Msg → Type 0
IsForeignBinding i (msg.Binding x t bundle) = x.site ≢ i
IsForeignBinding i _ = Unit {0}

-- a message on a variable or a thread comes to site i, with a bundle that the machine knows
abbrev pub MessagesAreFollowed : Type 0
MessagesAreFollowed =
    (p : List Stmt) (limit : ℕ) (w : World) (c : State) (k i : ℕ) (m : Msg) → WorldMatches p w c → IsNumbered w.sent w.mail → i ≢ 0 → IsSound c.equations →
    IsPlain m → IsForeignBinding i m → IsOnItsWay w.mail k i m → Each (Contains c.equations) (message_bundle m) →
    IsFollowed p c (reception p limit m (w.sites i)) (after_receipt (Some k) (after_transition w i (reception p limit m (w.sites i))))

-- a unit of a thread of site i: it is on a cell or a port, or the machine follows
abbrev pub UnitsAreFollowed : Type 0
UnitsAreFollowed =
    (p : List Stmt) (n limit i : ℕ) (th : ThreadName) (w : World) (c : State) (d : Transition) → i ≢ 0 → IsSound c.equations → IsNumbered w.sent w.mail →
    WorldMatches p w c → IsUnit p n limit th (w.sites i) d →
    ((st : Stack) × (thread_state (w.sites i) th ≡ Some (st, mode.Runs)) × IsCellUnit p (w.sites i).equations st) ⊎ IsFollowed p c d (after_transition w i d)

-- nothing travels, no thread can go on, and none waits for a cell or a port
pub record IsStill (threads : ℕ → Threads) (mail : Mail) : Type 0 where
  pub none : (k to : ℕ) (m : Msg) → IsOnItsWay mail k to m → ⊥
  pub waits : (i : ℕ) (n : ThreadName) (st : Stack) → value_of equal_thread (threads i) n ≡ Some (st, mode.Runs) → ⊥
  pub cells : (i : ℕ) (n : ThreadName) (st : Stack) (a : Awaited) → value_of equal_thread (threads i) n ≡ Some (st, mode.WaitsFor a) → ⊥

-- then the machine rests
abbrev pub QuietRests : Type 0
QuietRests = (p : List Stmt) (w : World) (s : State) → WorldMatches p w s → IsStill (threads w.sites) w.mail → IsSound s.equations → AtRest p s
