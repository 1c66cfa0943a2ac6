-- What a site does with a delivered message: one row for each kind (TOPLAS 21(3), 1999; TOPLAS 19(5), 1997).
use Rattle.std.specs.Prelude.{ℕ, List, [], ◌++◌, Option, Some, None}
use Rattle.tree_node.specs.declared.names.VarName.{VarName}
use Rattle.tree_node.specs.declared.names.ThreadName.{ThreadName}
use Rattle.tree_node.specs.declared.names.CodeId.{CodeId}
use Rattle.tree_node.specs.declared.node.Term.{Term}
use Rattle.tree_node.specs.declared.pick.Pick.{Pick}
use Rattle.kernel_syntax.specs.declared.stmt.Stmt.{Stmt}
use Rattle.site_message.specs.declared.message.Msg.{Msg}
use Rattle.site_message.specs.declared.message.Msg.TheVariants as msg
use Rattle.oz_model.specs.Effect.{Birth}
use Rattle.oz_model.specs.Step.{threads_born}
use Rattle.bind_protocol.specs.Records.{knowledge}
use Rattle.bind_protocol.specs.Rows.{after_register, register_sends}
use Rattle.site_model.specs.Site.{Site, runnable_threads}
use Rattle.site_model.specs.Bundle.{with_own_bundles}
use Rattle.site_model.specs.Transition.{Transition, without_output, with_messages, with_pick, and_then}
use Rattle.site_model.specs.Variables.{with_known_equation, own_bind, opening}
use Rattle.site_model.specs.Cells.{forward_row, get_row, put_row}
use Rattle.site_model.specs.Requests.{port_send_row, cell_make_row, cell_ask_row, answer_row, NewEnd, OldContent}

-- a thread begins at the site, and can go on
abbrev pub with_thread : List Stmt → Option Birth → Site → Site
with_thread p b s = record s { threads = runnable_threads (threads_born p b) ++ s.threads }

-- a new thread of this code and these variables, at the site itself
abbrev pub birth : ThreadName → CodeId → List VarName → Birth
birth n code vars = record { at = None; name = n; code = code; vars = vars }

-- Register(x, k): k joins the sites of an unbound x; a bound x is answered by a Binding to k
abbrev pub register_row : ℕ → VarName → ℕ → Site → Transition
register_row limit x k s =
    with_messages (record s { records = after_register s.records x k }) (with_own_bundles limit s.equations (register_sends s.records x k))

-- the pick of a thread that binds x to t
abbrev pub bind_pick : ThreadName → VarName → Term → Pick
bind_pick n x t = record { thread = n; fresh = []; bind = Some (x, t) }

-- a request by what its owner knows of x: an unbound x is bound to t by a pick of the thread that asked; else nothing happens
abbrev pub bind_request_as : Option (Option Term) → ℕ → VarName → Term → ThreadName → Site → Transition
bind_request_as (Some None) limit x t n s = and_then (with_pick s (bind_pick n x t)) (own_bind limit x t)
bind_request_as _ limit x t n s = without_output s

-- BindReq(x, t, n): an unbound x is bound to t, which is a step of the thread n that asked; a late request changes nothing
abbrev pub bind_request_row : ℕ → VarName → Term → ThreadName → Site → Transition
bind_request_row limit x t n s = bind_request_as (knowledge s.records x) limit x t n s

-- Spawn: the thread begins here. Binding(x, t): x = t is known. The others as their rows say
abbrev pub message_row : List Stmt → ℕ → Msg → Site → Transition
message_row p limit (msg.Spawn n code vars bundle) s = without_output (with_thread p (Some (birth n code vars)) s)
message_row p limit (msg.Register x k) s = register_row limit x k s
message_row p limit (msg.BindReq x n t bundle) s = bind_request_row limit x t n s
message_row p limit (msg.Binding x t bundle) s = without_output (with_known_equation s x t)
message_row p limit (msg.Get c k) s = get_row limit c k s
message_row p limit (msg.Forward c k) s = forward_row limit c k s
message_row p limit (msg.Put c v bundle) s = put_row p limit c v s
message_row p limit (msg.PortSend q n k) s = port_send_row limit q n k s
message_row p limit (msg.PortEnd n old new bundle) s = answer_row p n (NewEnd old new) s
message_row p limit (msg.CellMake c v bundle) s = cell_make_row p limit c v s
message_row p limit (msg.CellAsk c n k v bundle) s = cell_ask_row p limit c (record { thread = n; asking = k; new = v }) s
message_row p limit (msg.CellOld n v bundle) s = answer_row p n (OldContent v) s

-- a delivered message: the equations of its bundle are known and its names met, then its row
abbrev pub reception : List Stmt → ℕ → Msg → Site → Transition
reception p limit m s = and_then (opening m s) (message_row p limit m)
