-- What is asked of the home of a cell whose state stays, and what it serves, read from the journal of a run alone.
use Rattle.std.specs.Prelude.{ℕ, ◌+◌, ◌≤◌, List, [], ◌∷◌, Bool, false, Option, Some, ◌==◌, if◌then◌else◌}
use Rattle.std.specs.List.{count_by}
use Rattle.tree_node.specs.declared.names.CellName.{CellName}
use Rattle.tree_node.specs.declared.names.ThreadName.{ThreadName}
use Rattle.tree_node.specs.declared.pick.Pick.{Pick}
use Rattle.tree_node.specs.Goal.{equal_cell}
use Rattle.tree_node.specs.State.{equal_thread}
use Rattle.kernel_syntax.specs.declared.stmt.Stmt.{Stmt}
use Rattle.site_message.specs.declared.message.Msg.{Msg}
use Rattle.site_message.specs.declared.message.Msg.TheVariants as msg
use Rattle.site_message.specs.declared.turn.Turn.{Turn}
use Rattle.site_model.specs.Run.{WorldRun, delivered_message}
use Rattle.site_model.specs.Site.{Site}
use Rattle.world_journals.specs.Places.{IsPlacedAt}

-- the message asks for the content of this cell, or tells its home of it
abbrev pub is_about : CellName → Option Msg → Bool
is_about c (Some (msg.CellAsk d n k v bundle)) = equal_cell c d
is_about c (Some (msg.CellMake d v bundle)) = equal_cell c d
is_about c m = false

-- the message asks for it, for this thread
abbrev pub asks_for : CellName → ThreadName → Option Msg → ℕ
asks_for c th (Some (msg.CellAsk d n k v bundle)) = if equal_cell c d then if equal_thread th n then 1 else 0 else 0
asks_for c th m = 0

-- the picks of this thread, if the message is about the cell
abbrev pub served_in : CellName → ThreadName → Option Msg → List Pick → ℕ
served_in c th m ks = if is_about c m then count_by (λ (k : Pick). equal_thread th k.thread) ks else 0

-- how many requests of the thread for the cell came to the site where the cell stays
abbrev pub asked_at_home : CellName → ThreadName → List Turn → ℕ
asked_at_home c th [] = 0
asked_at_home c th (e ∷ j) = asked_at_home c th j + (if e.site == c.at then asks_for c th (delivered_message j e.delivered) else 0)

-- how many steps of the thread that site made as such requests came, and as it heard of the cell
abbrev pub served_at_home : CellName → ThreadName → List Turn → ℕ
served_at_home c th [] = 0
served_at_home c th (e ∷ j) = served_at_home c th j + (if e.site == c.at then served_in c th (delivered_message j e.delivered) e.picks else 0)

-- in every run, with bundles of whatever size: of a thread that was placed elsewhere the home serves no exchange without a request of its
-- own for that cell
abbrev pub HomesServeRequests : Type 0
HomesServeRequests =
    (p : List Stmt) (n limit : ℕ) (j : List Turn) (w : ℕ → Site) → WorldRun p n limit j w → (c : CellName) (th : ThreadName) → (IsPlacedAt j th c.at → ⊥)
    → served_at_home c th j ≤ asked_at_home c th j
