-- Units and messages that are no requests to the owner of a port or to the home of a stationary cell, and no answers.
use Rattle.std.specs.Prelude.{◌≡◌, List, None, Some}
use Rattle.tree_node.specs.declared.names.NameKind.{NameKind}
use Rattle.tree_node.specs.declared.names.ThreadName.{ThreadName}
use Rattle.tree_node.specs.State.{Stack}
use Rattle.kernel_syntax.specs.declared.stmt.Stmt.{Stmt}
use Rattle.site_message.specs.declared.message.Msg.{Msg}
use Rattle.site_message.specs.declared.message.Msg.TheVariants as msg
use Rattle.oz_model.specs.Need.{Takes, stack_need}
use Rattle.thread_roster.specs.declared.mode.Mode.TheVariants.{Runs}
use Rattle.site_model.specs.Cells.{effect_here}
use Rattle.site_model.specs.Site.{Site, thread_state}
use Rattle.site_model.specs.Unit.{fresh_names}
use Rattle.world_variables.specs.Plain.{IsKept}

-- it is no request, no answer, and tells no home of a cell
abbrev pub IsStanding : Msg → Type 0
IsStanding (msg.PortSend q n k) = ⊥
IsStanding (msg.PortEnd n old new bundle) = ⊥
IsStanding (msg.CellMake c v bundle) = ⊥
IsStanding (msg.CellAsk c n k v bundle) = ⊥
IsStanding (msg.CellOld n v bundle) = ⊥
IsStanding _ = Unit {0}

-- the next unit of the thread is on a port or on a stationary cell
abbrev pub IsKeptUnit : List Stmt → Site → ThreadName → Type 0
IsKeptUnit p s th =
    (st : Stack) × (kinds : List NameKind) × (thread_state s th ≡ Some (st, Runs)) × (stack_need p s.equations st ≡ Takes kinds)
    × IsKept (effect_here p s (fresh_names s kinds) None st)
