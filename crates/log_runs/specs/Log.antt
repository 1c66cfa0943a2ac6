-- Logs of runs: what sites that run apart wrote into one list that all of them read, the newest entry first.
use Rattle.std.specs.Prelude.{◌≡◌, ◌≢◌, ℕ, List, [], ◌∷◌, ◌++◌, length, map, Bool, false, true, ◌&&◌, ◌==◌, is_none, Some, slice_get, if◌then◌else◌}
use Rattle.kernel_syntax.specs.declared.stmt.Stmt.{Stmt}
use Rattle.site_message.specs.declared.limits.Limits.{Limits}
use Rattle.site_message.specs.declared.message.Sent.{Sent}
use Rattle.site_message.specs.declared.turn.Turn.{Turn}
use Rattle.site_message.specs.Journal.{sent_of, was_delivered, end_of}
use Rattle.site_message.specs.Story.{own}
use Rattle.site_model.specs.Bundle.{bundle_limit}
use Rattle.site_model.specs.Site.{Site, initial_site}
use Rattle.site_model.specs.Run.{IsEntry, IsSiteIn}

-- ---- what a log tells

-- what an entry tells of a turn: all but its picks, which are found where the turn is made again
abbrev pub told : Turn → Turn
told t = record {
  site = t.site;
  idle = t.idle;
  delivered = t.delivered;
  units = t.units;
  picks = [];
  sent = t.sent;
  lines = t.lines;
  ended = t.ended;
  waiting = t.waiting;
  steps = t.steps;
}

-- an entry of a log: what it tells of a turn, and the turn's place among those of its site, from 0
pub record LogEntry : Type 0 where
  pub place : ℕ
  pub turn : Turn

-- an entry counts behind a journal where nothing ended the run, and it is the next one of its site
abbrev pub counts : Limits → List Turn → LogEntry → Bool
counts l j e = is_none (end_of l j) && (e.place == length (own e.turn.site j))

-- the run that a log tells: entries that stand there twice, ahead of a lost one, or behind the end are none of it
abbrev pub run_of : Limits → List LogEntry → List Turn
run_of l [] = []
run_of l (e ∷ es) = if counts l (run_of l es) e then e.turn ∷ run_of l es else run_of l es

-- ---- what a site made

-- a turn that a site made: the part of the log that it had read, the turn, and the site's state after it
pub record Made : Type 0 where
  pub read : List LogEntry
  pub turn : Turn
  pub after : Site

-- the turns, the newest first
abbrev pub turns_of : List Made → List Turn
turns_of ms = map (λ (m : Made). m.turn) ms

-- the state of site i of n after these turns
abbrev pub state_after : List Stmt → ℕ → ℕ → List Made → Site
state_after p n i [] = initial_site p n i
state_after p n i (m ∷ ms) = m.after

-- what the turn delivers was sent to its site in the part that was read, and none of the site's earlier turns delivered it
abbrev pub DeliversAnew : Limits → ℕ → List Made → Made → Type 0
DeliversAnew l i ms m =
    (k : ℕ) → m.turn.delivered ≡ Some k
    → (x : Sent) × (slice_get (sent_of (run_of l m.read)) k ≡ Some x) × (x.to ≡ i) × (was_delivered (turns_of ms) k ≡ false)

-- site i makes this turn behind those: it is one of its own, from the state that it came to, with a message of the part that was read
pub record IsMadeBehind (p : List Stmt) (l : Limits) (i : ℕ) (ms : List Made) (m : Made) : Type 0 where
  pub site : m.turn.site ≡ i
  pub within : IsSiteIn l.sites m.turn
  pub entry : IsEntry p l.sites bundle_limit (run_of l m.read) m.turn (state_after p l.sites i ms) m.after
  pub anew : DeliversAnew l i ms m

-- site i made these turns in a row from its start, each over a part of a log
abbrev pub AreMadeBy : List Stmt → Limits → ℕ → List Made → Type 0
AreMadeBy p l i [] = Unit {0}
AreMadeBy p l i (m ∷ ms) = AreMadeBy p l i ms × IsMadeBehind p l i ms m

-- ---- the log of what sites made

-- an entry that counts tells the next turn that its site made, and stands behind the part of the log over which that was made
pub record IsNextMade (es : List LogEntry) (e : LogEntry) (old new : List Turn) (u v : ℕ → List Made) : Type 0 where
  pub made : Made
  pub tells : e.turn ≡ told made.turn
  pub later : List LogEntry
  pub behind : es ≡ later ++ made.read
  pub journal : new ≡ made.turn ∷ old
  pub own_turns : v e.turn.site ≡ made ∷ u e.turn.site
  pub others : (i : ℕ) → i ≢ e.turn.site → v i ≡ u i

-- an entry that does not count adds nothing
abbrev pub IsOneMore : Bool → List LogEntry → LogEntry → List Turn → List Turn → (ℕ → List Made) → (ℕ → List Made) → Type 0
IsOneMore true es e old new u v = IsNextMade es e old new u v
IsOneMore false es e old new u v = (new ≡ old) × ((i : ℕ) → v i ≡ u i)

-- the entries of the log that count are the turns that the sites made, in order: of all of them together this journal, of each site these
abbrev pub IsLogOf : Limits → List LogEntry → List Turn → (ℕ → List Made) → Type 0
IsLogOf l [] j v = (j ≡ []) × ((i : ℕ) → v i ≡ [])
IsLogOf l (e ∷ es) j v =
    (old : List Turn) × (u : ℕ → List Made) × IsLogOf l es old u × IsOneMore (counts l (run_of l es) e) es e old j u v

-- ---- one site's part of a log

-- an own entry that counts tells the last of these turns, and stands behind the part of the log over which it was made; others say nothing
abbrev pub IsOwnMore : Bool → List LogEntry → LogEntry → (List Made → Type 0) → List Made → Type 0
IsOwnMore true es e Before ms =
    (m : Made) × (before : List Made) × (ms ≡ m ∷ before) × (e.turn ≡ told m.turn) × ((later : List LogEntry) × (es ≡ later ++ m.read)) × Before before
IsOwnMore false es e Before ms = Before ms

-- the entries of site i that count are these turns, in order
abbrev pub IsSiteLog : Limits → ℕ → List LogEntry → List Made → Type 0
IsSiteLog l i [] ms = ms ≡ []
IsSiteLog l i (e ∷ es) ms = IsOwnMore (counts l (run_of l es) e && (e.turn.site == i)) es e (IsSiteLog l i es) ms
