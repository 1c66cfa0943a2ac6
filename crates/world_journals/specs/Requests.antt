-- What one site's requests for the token of a cell cost, read from the journal of a run (TOPLAS 19(5), 1997).
use Rattle.std.specs.Prelude.{◌≡◌, ◌≢◌, ℕ, ◌+◌, ◌-◌, ◌≤◌, List, [], ◌∷◌, length, Bool, false, Option, None, Some, ◌==◌, ◌&&◌, count_by, if◌then◌else◌}
use Rattle.tree_node.specs.declared.limits.TheConstants.{MOST_SITES}
use Rattle.tree_node.specs.Goal.{equal_cell}
use Rattle.tree_node.specs.declared.names.CellName.{CellName}
use Rattle.kernel_syntax.specs.declared.stmt.Stmt.{Stmt}
use Rattle.kernel_syntax.specs.Program.{IsProgram}
use Rattle.site_message.specs.declared.message.Msg.{Msg}
use Rattle.site_message.specs.declared.message.Msg.TheVariants as msg
use Rattle.site_message.specs.declared.message.Sent.{Sent}
use Rattle.site_message.specs.declared.turn.Turn.{Turn}
use Rattle.site_message.specs.Journal.{DeliversOnce, sent_of}
use Rattle.oz_model.specs.Run.{exchanges}
use Rattle.token_chain.specs.declared.token.Token.{Token}
use Rattle.token_chain.specs.Tally.{total, outstanding}
use Rattle.site_model.specs.Site.{Site, cell_record}
use Rattle.site_model.specs.Run.{WorldRun, IsEntry, IsSiteIn, delivered_message}
use Rattle.world_model.specs.Schedule.{schedule}

-- ---- messages of a cell, by the site whose request they serve

-- a Get of the cell for site s
abbrev pub asks_for : CellName → ℕ → Msg → Bool
asks_for c s (msg.Get d k) = equal_cell c d && (k == s)
asks_for c s _ = false

-- a Forward that names s as the site that gets the token next
abbrev pub names_next : CellName → ℕ → Msg → Bool
names_next c s (msg.Forward d k) = equal_cell c d && (k == s)
names_next c s _ = false

-- a Put of the cell
abbrev pub is_put : CellName → Msg → Bool
is_put c (msg.Put d v bundle) = equal_cell c d
is_put c _ = false

-- how many Gets for the site are among these, how many Forwards that name it, and how many Puts to it
abbrev pub gets_for : CellName → ℕ → List Sent → ℕ
gets_for c s ms = count_by (λ (m : Sent). asks_for c s m.msg) ms

abbrev pub forwards_for : CellName → ℕ → List Sent → ℕ
forwards_for c s ms = count_by (λ (m : Sent). names_next c s m.msg) ms

abbrev pub puts_to : CellName → ℕ → List Sent → ℕ
puts_to c s ms = count_by (λ (m : Sent). is_put c m.msg && (m.to == s)) ms

-- ---- one turn

-- 1 where the message is a Get of the cell for site s, and where it is a Put of the cell
abbrev pub asked_by : CellName → ℕ → Option Msg → ℕ
asked_by c s None = 0
asked_by c s (Some m) = if asks_for c s m then 1 else 0

abbrev pub puts_delivered : CellName → Option Msg → ℕ
puts_delivered c None = 0
puts_delivered c (Some m) = if is_put c m then 1 else 0

-- how many of these a turn behind this journal takes
abbrev pub gets_taken : CellName → ℕ → List Turn → Turn → ℕ
gets_taken c s j e = asked_by c s (delivered_message j e.delivered)

abbrev pub puts_taken : CellName → List Turn → Turn → ℕ
puts_taken c j e = puts_delivered c (delivered_message j e.delivered)

-- how many exchanges of the cell a turn behind this journal makes: those of the schedule with it, less those before
abbrev pub exchange_count : List Stmt → CellName → List Turn → Turn → ℕ
exchange_count p c j e = length (exchanges p (schedule (e ∷ j)) c) - length (exchanges p (schedule j) c)

-- Before the turn its site keeps the token as `old`, and after it as `new`; a request is outstanding while the token is asked for.
-- The turn sends Gets for its own site alone. These, and the request that was outstanding, are paid by its exchanges, but for the
-- one that is outstanding then: who asked for the token exchanges before it asks again. So are the Forwards by which the site
-- where the cell was made tells of itself: it asks without a Get. A Forward that names another site answers that site's Get,
-- which the turn takes, and is the only one. Who takes a Put exchanges at once
pub record IsTurnPaid (p : List Stmt) (c : CellName) (j : List Turn) (e : Turn) (old new : Token) : Type 0 where
  pub gets : gets_for c e.site e.sent + outstanding old ≤ exchange_count p c j e + outstanding new
  pub alone : (s : ℕ) → e.site ≢ s → gets_for c s e.sent ≡ 0
  pub own : c.site ≡ e.site → forwards_for c e.site e.sent + outstanding old ≤ exchange_count p c j e + outstanding new
  pub answers : (s : ℕ) → c.site ≢ s → forwards_for c s e.sent ≤ gets_taken c s j e
  pub puts : puts_taken c j e ≤ exchange_count p c j e

-- each turn that may follow a run pays so for what it does with each cell
abbrev pub TurnsArePaid : Type 0
TurnsArePaid =
    (p : List Stmt) (n limit : ℕ) (j : List Turn) (w : ℕ → Site) → IsProgram p → 1 ≤ n → n ≤ MOST_SITES → limit ≤ 256 → WorldRun p n limit j w →
    (e : Turn) (s : Site) → DeliversOnce j e → IsSiteIn n e → IsEntry p n limit j e (w e.site) s →
    (c : CellName) → IsTurnPaid p c j e (cell_record (w e.site) c).held.token (cell_record s c).held.token

-- ---- a run

-- what f counts in the turns of site s, together
abbrev pub in_turns_of : ℕ → (List Turn → Turn → ℕ) → List Turn → ℕ
in_turns_of s f [] = 0
in_turns_of s f (e ∷ j) = in_turns_of s f j + (if e.site == s then f j e else 0)

-- the exchanges of the cell at site s
abbrev pub exchanges_at : List Stmt → CellName → ℕ → List Turn → ℕ
exchanges_at p c s j = in_turns_of s (exchange_count p c) j

-- the exchanges at the n sites are together those of the run
abbrev pub ExchangesAreSplit : Type 0
ExchangesAreSplit =
    (p : List Stmt) (n limit : ℕ) (j : List Turn) (w : ℕ → Site) → IsProgram p → 1 ≤ n → n ≤ MOST_SITES → limit ≤ 256 → WorldRun p n limit j w →
    (c : CellName) → total n (λ s. exchanges_at p c s j) ≡ length (exchanges p (schedule j) c)

-- Where site s keeps the token so after the run: of the messages that were sent, the Gets for the site, the Forwards that name
-- it and the Puts to it are each no more than its exchanges, and one more while a request is outstanding. So each request has at
-- most one of each, and is followed by an exchange or is outstanding
pub record AreRequestsServed (p : List Stmt) (c : CellName) (s : ℕ) (j : List Turn) (now : Token) : Type 0 where
  pub gets : gets_for c s (sent_of j) ≤ exchanges_at p c s j + outstanding now
  pub forwards : forwards_for c s (sent_of j) ≤ exchanges_at p c s j + outstanding now
  pub puts : puts_to c s (sent_of j) ≤ exchanges_at p c s j + outstanding now

-- at each site, for each cell, in every run
abbrev pub RequestsAreServed : Type 0
RequestsAreServed =
    (p : List Stmt) (n limit : ℕ) (j : List Turn) (w : ℕ → Site) → IsProgram p → 1 ≤ n → n ≤ MOST_SITES → limit ≤ 256 → WorldRun p n limit j w →
    (c : CellName) (s : ℕ) → AreRequestsServed p c s j (cell_record (w s) c).held.token
