-- A site as its callers see it, and its turns.
use Rattle.std.specs.Prelude.{◌≡◌, ℕ, List, Bool, Option, Some, None}
use Rattle.tree_node.specs.declared.names.ThreadName.{ThreadName}
use Rattle.kernel_syntax.specs.declared.stmt.Stmt.{Stmt}
use Rattle.site_message.specs.declared.message.Msg.{Msg}
use Rattle.site_message.specs.declared.turn.Turn.{Turn}
use Rattle.thread_roster.specs.Order.{HaveComeBehind}
use Rattle.site_units.specs.Order.{last_of, passed_on}
use Rattle.site_units.specs.Turns.{AreUnitsInOrder}
use Rattle.site_model.specs.Bundle.{bundle_limit}
use Rattle.site_model.specs.Run.{IsRecordOf}
use Rattle.site_model.specs.Site as model
use Rattle.site_model.specs.Transition.{Transition, sequence}
use Rattle.site_model.specs.Turn.{IsReception, IsFullTurnOf}

-- a site of a program on so many sites: its state, the names of its threads that can go on, the next in turn first, whether it
-- is spent after want of memory, and its seat
pub record SiteState (S : Type 0) : Type 0 where
  pub program : List Stmt
  pub sites : ℕ
  pub state : model.Site
  pub order : List ThreadName
  pub spent : Bool
  pub seat : S

-- the message of a turn, and its number
abbrev pub message_in : Option (ℕ × Msg) → Option Msg
message_in None = None
message_in (Some m) = Some m.1

abbrev pub number_in : Option (ℕ × Msg) → Option ℕ
number_in None = None
number_in (Some m) = Some m.0

-- this entry is a turn of a site of this program from one state to the next, with this message, of the units that it tells, as
-- many as the quantum, fewer only where the site is then idle
pub record IsTurnMade (p : List Stmt) (n : ℕ) (old : model.Site) (message : Option (ℕ × Msg)) (quantum : ℕ) (e : Turn) (new : model.Site) : Type 0 where
  pub turn : (d : Transition) × IsFullTurnOf p n bundle_limit quantum e.units old (message_in message) d × IsRecordOf e d × (new ≡ d.site)
  pub site : e.site ≡ old.records.site
  pub delivered : e.delivered ≡ number_in message

-- a turn of these units, from one order of threads to another: what the message let go on came behind the others; each unit was of the
-- first of those that can go on; and the thread of the last one then went behind the others, where it can go on
abbrev pub IsTransitionInOrder : List Stmt → ℕ → List ThreadName → model.Site → Option Msg → Transition → List ThreadName → List ThreadName → Type 0
IsTransitionInOrder p n ths s m d old new =
    (heard rest : Transition) × (ready now : List ThreadName) × IsReception p n bundle_limit m s heard × HaveComeBehind old ready
    × AreUnitsInOrder p n ths heard.site ready rest now × (d ≡ sequence heard rest) × (new ≡ passed_on (last_of ths) now)

-- this entry is such a turn of its units, with this message, from one state and order of threads to others
abbrev pub IsTurnInOrder : List Stmt → ℕ → model.Site → Option Msg → Turn → model.Site → List ThreadName → List ThreadName → Type 0
IsTurnInOrder p n old m e new old_order new_order =
    (d : Transition) × IsTransitionInOrder p n e.units old m d old_order new_order × IsRecordOf e d × (new ≡ d.site)
