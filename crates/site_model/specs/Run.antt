-- Runs of a world of sites, by its journal.
use Rattle.std.specs.Prelude.{◌≡◌, ℕ, ◌≤◌, List, [], ◌∷◌, Bool, true, false, ◌==◌, Option, Some, None, slice_get}
use Rattle.tree_node.specs.Each.{Each}
use Rattle.kernel_syntax.specs.declared.stmt.Stmt.{Stmt}
use Rattle.site_message.specs.declared.message.Msg.{Msg}
use Rattle.site_message.specs.declared.message.Sent.{Sent}
use Rattle.site_message.specs.declared.turn.Turn.{Turn}
use Rattle.site_message.specs.Journal.{Wired, sent_of}
use Rattle.site_model.specs.Site.{Site, initial_site, is_idle, waiting_count}
use Rattle.site_model.specs.Transition.{Transition}
use Rattle.site_model.specs.Turn.{SiteTurnOf}

-- what was sent, without its receiver
abbrev pub message_of : Option Sent → Option Msg
message_of None = None
message_of (Some m) = Some m.msg

-- the message that a turn behind this journal delivers
abbrev pub delivered_message : List Turn → Option ℕ → Option Msg
delivered_message j None = None
delivered_message j (Some k) = message_of (slice_get (sent_of j) k)

-- the entry records this transition, and the totals of the site after it
pub record IsRecordOf (e : Turn) (d : Transition) : Type 0 where
  pub picks : e.picks ≡ d.picks
  pub sent : e.sent ≡ d.sent
  pub lines : e.lines ≡ d.lines
  pub idle : e.idle ≡ is_idle d.site
  pub ended : e.ended ≡ d.site.ended
  pub waiting : e.waiting ≡ waiting_count d.site
  pub steps : e.steps ≡ d.site.steps

-- the entry is a turn of the site, of the units that it tells, from the state before to this one
abbrev pub IsEntry : List Stmt → ℕ → ℕ → List Turn → Turn → Site → Site → Type 0
IsEntry p n limit j e old s =
    (d : Transition) × SiteTurnOf p n limit e.units old (delivered_message j e.delivered) d × IsRecordOf e d × (s ≡ d.site)

-- an own entry leads from an earlier state to this one, and an entry of another site changes nothing
abbrev pub IsReachedBy : Bool → (Site → Type 0) → (Site → Site → Type 0) → Site → Type 0
IsReachedBy true before entry s = (old : Site) × before old × entry old s
IsReachedBy false before entry s = before s

-- the entries of site i are turns in a row from its start to this state
abbrev pub SiteRun : List Stmt → ℕ → ℕ → ℕ → List Turn → Site → Type 0
SiteRun p n limit i [] s = s ≡ initial_site p n i
SiteRun p n limit i (e ∷ j) s =
    IsReachedBy (e.site == i) (λ old. SiteRun p n limit i j old) (λ old new. IsEntry p n limit j e old new) s

-- the site of a turn is one of n
abbrev pub IsSiteIn : ℕ → Turn → Type 0
IsSiteIn n e = (1 ≤ e.site) × (e.site ≤ n)

-- this journal of a program on n sites leads to these states. Sites beyond n stay as they began
pub record WorldRun (p : List Stmt) (n limit : ℕ) (j : List Turn) (w : ℕ → Site) : Type 0 where
  pub wired : Wired j
  pub sites : Each (IsSiteIn n) j
  pub runs : (i : ℕ) → SiteRun p n limit i j (w i)
