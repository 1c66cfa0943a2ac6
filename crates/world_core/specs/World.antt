-- A world of sites as its callers see it, and its turns.
use Rattle.std.specs.Prelude.{◌≡◌, ◌≢◌, ℕ, zero, suc, ◌+◌, ◌≤◌, List, ◌∷◌, map, length, Bool, false, Option, Some, None, slice_get, slice_index_or, if◌then◌else◌}
use Rattle.tree_node.specs.declared.limits.TheConstants.{MOST_SITES}
use Rattle.tree_node.specs.declared.names.ThreadName.{ThreadName}
use Rattle.kernel_syntax.specs.declared.stmt.Stmt.{Stmt}
use Rattle.kernel_syntax.specs.Program.{IsProgram}
use Rattle.site_message.specs.declared.message.Msg.{Msg}
use Rattle.site_message.specs.declared.message.Sent.{Sent}
use Rattle.site_message.specs.declared.story.NoSeat.{NoSeat}
use Rattle.site_message.specs.declared.turn.Turn.{Turn}
use Rattle.site_message.specs.Journal.{sent_of, was_delivered}
use Rattle.oz_model.specs.Answers.{IsPartOf}
use Rattle.site_model.specs.Bundle.{bundle_limit}
use Rattle.site_model.specs.Site.{Site, initial_site}
use Rattle.site_model.specs.Run.{WorldRun, IsRecordOf, delivered_message}
use Rattle.site_model.specs.Transition.{Transition}
use Rattle.site_model.specs.Turn.{IsFullTurnOf}
use Rattle.site_core.specs.Site.{SiteState, IsTurnInOrder}
use Rattle.site_core.specs.Start.{first_order}
use Rattle.world_core.specs.declared.travel.Travel.{Travel}
use Rattle.world_core.specs.Mail.{MailState, message_at, without_message}
use Rattle.world_core.specs.Travels.{IsNumberAt}

-- the program, the number of its sites, the turns made, the states of the sites from 1 on and the orders of their threads, the
-- messages that travel, by places, and whether the world is given up after want of memory
pub record WorldState : Type 0 where
  pub program : List Stmt
  pub sites : ℕ
  pub journal : List Turn
  pub states : List Site
  pub orders : List (List ThreadName)
  pub travels : List Travel
  pub spent : Bool

-- the states by the sites' numbers. Those beyond the last are as they began
abbrev pub states_by : List Stmt → ℕ → List Site → ℕ → Site
states_by p n ss zero = initial_site p n zero
states_by p n ss (suc i) = slice_index_or ss i (initial_site p n (suc i))

-- the state of site i
abbrev pub states_of : WorldState → ℕ → Site
states_of w i = states_by w.program w.sites w.states i

-- the orders of threads by the sites' numbers. Those beyond the last are as they began
abbrev pub orders_by : List (List ThreadName) → ℕ → List ThreadName
orders_by os zero = first_order zero
orders_by os (suc i) = slice_index_or os i (first_order (suc i))

-- the order in which the threads of site i have their turns
abbrev pub orders_of : WorldState → ℕ → List ThreadName
orders_of w i = orders_by w.orders i

-- one turn of the site: the journal has one entry more, which delivers the message at the place that was given; as many units
-- as the quantum, fewer only where the site is then idle; the others are as they were
pub record IsWorldTurn (old new : WorldState) (site : ℕ) (place : Option ℕ) (quantum : ℕ) : Type 0 where
  pub entry : Turn
  pub journal : new.journal ≡ entry ∷ old.journal
  pub site_is : entry.site ≡ site
  pub delivered : IsNumberAt old.travels site place entry.delivered
  pub turn : (d : Transition) × IsFullTurnOf old.program old.sites bundle_limit quantum entry.units (states_of old site) (delivered_message old.journal entry.delivered) d × IsRecordOf entry d × (states_of new site ≡ d.site)
  pub few : (states_of new site).steps ≤ (states_of old site).steps + quantum
  pub others : (i : ℕ) → i ≢ site → states_of new i ≡ states_of old i

-- the newest turn is of this site, and its threads had their turns in order; those of the other sites stand as they did
pub record IsWorldTurnInOrder (old new : WorldState) (site : ℕ) : Type 0 where
  pub entry : Turn
  pub journal : new.journal ≡ entry ∷ old.journal
  pub turn : IsTurnInOrder old.program old.sites (states_of old site) (delivered_message old.journal entry.delivered) entry (states_of new site) (orders_of old site) (orders_of new site)
  pub others : (i : ℕ) → i ≢ site → orders_of new i ≡ orders_of old i

-- each site knows what it knew: an equation at its owner stays
abbrev pub KnowledgeStays : WorldState → WorldState → Type 0
KnowledgeStays old new = (i : ℕ) → IsPartOf (states_of old i).equations (states_of new i).equations

-- ---- what stays true

-- the message of a number, if it travels
abbrev pub travelling_at : List Turn → ℕ → Option Sent
travelling_at j k = if was_delivered j k then None else slice_get (sent_of j) k

-- the state of a site
abbrev pub state_in : SiteState NoSeat → Site
state_in s = s.state

-- the order of its threads
abbrev pub order_in : SiteState NoSeat → List ThreadName
order_in s = s.order

-- a site of the program on so many sites, that can make turns
abbrev pub IsSiteOf : List Stmt → ℕ → SiteState NoSeat → Type 0
IsSiteOf p n s = (s.program ≡ p) × (s.sites ≡ n) × (s.spent ≡ false)

-- the sites are where the journal leads them, and the messages on their way are those that travel by it
pub record IsLive (p : List Stmt) (n : ℕ) (j : List Turn) (sites : List (SiteState NoSeat)) (mail : MailState) (sent : ℕ) : Type 0 where
  pub run : WorldRun p n bundle_limit j (states_by p n (map state_in sites))
  pub each : (i : ℕ) (s : SiteState NoSeat) → slice_get sites i ≡ Some s → IsSiteOf p n s
  pub count : sent ≡ length (sent_of j)
  pub queues : mail.queues ≡ n + 1
  pub travels : (k : ℕ) → message_at mail.messages k ≡ travelling_at j k

-- what stays true of a world. After want of memory no more is known than that its journal is one of a run
pub record IsConsistent (p : List Stmt) (j : List Turn) (sites : List (SiteState NoSeat)) (mail : MailState) (sent : ℕ) (spent : Bool) : Type 0 where
  pub program : IsProgram p
  pub range : (1 ≤ length sites) × (length sites ≤ MOST_SITES)
  pub run : (w : ℕ → Site) × WorldRun p (length sites) bundle_limit j w
  pub live : spent ≡ false → IsLive p (length sites) j sites mail sent

-- ---- parts of turns

-- the site of this place at the start
abbrev pub IsNewSite : List Stmt → ℕ → ℕ → SiteState NoSeat → Type 0
IsNewSite p n i s = IsSiteOf p n s × (s.state ≡ initial_site p n (i + 1)) × (s.order ≡ first_order (i + 1))

-- the message at the place that was given is taken out
abbrev pub IsTaken : List (ℕ × Sent) → List (ℕ × Sent) → ℕ → Option ℕ → Option (ℕ × Msg) → Type 0
IsTaken old new site None m = (m ≡ None) × (new ≡ old)
IsTaken old new site (Some place) m =
    (number : ℕ) × (msg : Msg) × (m ≡ Some (number, msg))
    × (slice_get old place ≡ Some (number, record { to = site; msg = msg }))
    × (message_at old number ≡ Some (record { to = site; msg = msg }))
    × ((k : ℕ) → message_at new k ≡ without_message number old k)
