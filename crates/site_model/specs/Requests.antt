-- What a site does with requests of threads that wait for an answer, to the owner of a port or to the home of a stationary cell, and
-- with the answers.
use Rattle.std.specs.Prelude.{ℕ, ◌+◌, List, [], ◌∷◌, ◌++◌, ◌==◌, Option, Some, None, unwrap_or, if◌then◌else◌}
use Rattle.indexmap.specs.IndexMap.{insert_entry}
use Rattle.tree_node.specs.declared.names.VarName.{VarName}
use Rattle.tree_node.specs.declared.names.CellName.{CellName}
use Rattle.tree_node.specs.declared.names.PortName.{PortName}
use Rattle.tree_node.specs.declared.names.ThreadName.{ThreadName}
use Rattle.tree_node.specs.declared.names.Name.TheVariants as name
use Rattle.tree_node.specs.declared.node.Term.TheVariants as term
use Rattle.tree_node.specs.Assoc.{with_value}
use Rattle.tree_node.specs.Goal.{equal_port}
use Rattle.tree_node.specs.State.{Stack, equal_thread}
use Rattle.kernel_syntax.specs.declared.stmt.Stmt.{Stmt}
use Rattle.oz_model.specs.Effect.{PortChange, Sent, tell_item, pair_node}
use Rattle.site_message.specs.declared.message.Msg.{Msg}
use Rattle.site_message.specs.declared.message.Msg.TheVariants as msg
use Rattle.bind_protocol.specs.Rows.{sent_message}
use Rattle.thread_roster.specs.declared.mode.Awaited.{Awaited}
use Rattle.thread_roster.specs.declared.mode.Awaited.TheVariants.{Cell, Port}
use Rattle.thread_roster.specs.declared.mode.Mode.TheVariants.{Runs, WaitsFor}
use Rattle.site_model.specs.Site.{Site, ThreadState, EarlyRequest, thread_state, port_end, home_record, with_home_record}
use Rattle.site_model.specs.Bundle.{with_own_bundle}
use Rattle.site_model.specs.Variables.{after_makes}
use Rattle.site_model.specs.Cells.{step_pick, effect_here, exchange_stack}
use Rattle.site_model.specs.Transition.{Transition, without_output, with_messages, with_pick, and_then}

-- ---- asking

-- the thread, which stands as it asked, waits for this
abbrev pub with_asking : ThreadName → Stack → Awaited → Site → Site
with_asking n st a s = record s { threads = with_value equal_thread s.threads n (st, WaitsFor a) }

-- the thread asks another site, and waits
abbrev pub asking_row : ℕ → ThreadName → Stack → Awaited → ℕ → Msg → Site → Transition
asking_row limit n st a to m s = with_messages (with_asking n st a s) (with_own_bundle limit s.equations (sent_message to m) ∷ [])

-- a send to a port of another site
abbrev pub send_request_row : ℕ → PortName → ThreadName → Stack → Site → Transition
send_request_row limit q n st s = asking_row limit n st (Port q) q.site (msg.PortSend q n s.records.site) s

-- an exchange of a cell whose home is another site
abbrev pub home_request_row : ℕ → CellName → VarName → ThreadName → Stack → Site → Transition
home_request_row limit c new n st s = asking_row limit n st (Cell c) c.at (msg.CellAsk c n s.records.site new []) s

-- a request waits until the home hears of the cell
abbrev pub with_early : CellName → EarlyRequest → Site → Site
with_early c r s = with_home_record s c (record (home_record s c) { early = (home_record s c).early ++ r ∷ [] })

-- an exchange at the home of a cell of which it did not hear yet
abbrev pub early_request_row : CellName → VarName → ThreadName → Stack → Site → Transition
early_request_row c new n st s =
    without_output (with_early c (record { thread = n; asking = s.records.site; new = new }) (with_asking n st (Cell c) s))

-- ---- answers

-- what an answer brings: the end that stood and the new one, or the old content
pub data Answer : Type 0 where
  NewEnd : (old new : VarName) → Answer
  OldContent : (v : VarName) → Answer

-- the stack after a send that gave this old end
abbrev pub send_stack : VarName → PortChange → Stack → Stack
send_stack old (Sent port value new) stack = tell_item old (term.Node (pair_node value new)) ∷ stack
send_stack old _ stack = stack

-- the stack of a thread that asked, as the answer leaves it
abbrev pub answered_stack : List Stmt → Site → Answer → Stack → Stack
answered_stack p s (NewEnd old new) st =
    send_stack old (effect_here p s (name.Var new ∷ []) None st).port (effect_here p s (name.Var new ∷ []) None st).stack
answered_stack p s (OldContent v) st = exchange_stack v (effect_here p s [] None st).cell (effect_here p s [] None st).stack

-- a thread that waits for an answer goes on with this one; of an unknown thread nothing is done
abbrev pub after_answer : List Stmt → ThreadName → Answer → Site → Site
after_answer p n a s = answered (thread_state s n)
  where
    answered : Option ThreadState → Site
    answered None = s
    answered (Some w) = record s { threads = with_value equal_thread s.threads n (answered_stack p s a w.0, Runs) }

-- PortEnd, CellOld: the answer
abbrev pub answer_row : List Stmt → ThreadName → Answer → Site → Transition
answer_row p n a s = without_output (after_answer p n a s)

-- ---- ports

-- the variable that the site makes next
abbrev pub next_var : Site → VarName
next_var s = record { site = s.records.site; num = s.counters.vars }

-- the site makes it, and it is the port's end
abbrev pub with_new_end : PortName → Site → Site
with_new_end q s = record s {
  counters = record s.counters { vars = s.counters.vars + 1 };
  records = after_makes s.records (next_var s ∷ []);
  ports = insert_entry equal_port s.ports q (next_var s);
}

-- the end of a port that was made here
abbrev pub old_end : Site → PortName → VarName
old_end s q = unwrap_or (port_end s q) (record { site = 0; num = 0 })

-- PortSend(q, n, k): the port's end is a fresh variable, by a pick of the thread n that asked; the old end and the new one go to k.
-- It is no own step
abbrev pub port_send_row : ℕ → PortName → ThreadName → ℕ → Site → Transition
port_send_row limit q n k s =
    and_then (with_pick (with_new_end q s) (step_pick n (name.Var (next_var s) ∷ []) None))
    (λ t. with_messages t (with_own_bundle limit t.equations (sent_message k (msg.PortEnd n (old_end s q) (next_var s) [])) ∷ []))

-- ---- stationary cells

-- the content at the home is this
abbrev pub with_home_content : CellName → VarName → Site → Site
with_home_content c new s = with_home_record s c (record (home_record s c) { content = Some new })

-- a request is given the content v and leaves its own: a step of the thread that asked, which is no own step. An own thread goes on at
-- once, another site is sent the answer
abbrev pub serve_request : List Stmt → ℕ → CellName → EarlyRequest → VarName → Site → Transition
serve_request p limit c r v s =
    if r.asking == s.records.site then with_pick (after_answer p r.thread (OldContent v) (with_home_content c r.new s)) (step_pick r.thread [] None)
    else and_then (with_pick (with_home_content c r.new s) (step_pick r.thread [] None))
    (λ t. with_messages t (with_own_bundle limit t.equations (sent_message r.asking (msg.CellOld r.thread v [])) ∷ []))

-- CellAsk: served where the content is here, else kept
abbrev pub cell_ask_row : List Stmt → ℕ → CellName → EarlyRequest → Site → Transition
cell_ask_row p limit c r s = asked (home_record s c).content
  where
    asked : Option VarName → Transition
    asked (Some v) = serve_request p limit c r v s
    asked None = without_output (with_early c r s)

-- the early requests are served in order, the first gets the content v
abbrev pub serve_early : List Stmt → ℕ → CellName → VarName → List EarlyRequest → Site → Transition
serve_early p limit c v [] s = without_output (with_home_record s c (record { content = Some v; early = [] }))
serve_early p limit c v (r ∷ rs) s = and_then (serve_request p limit c r v s) (serve_early p limit c r.new rs)

-- CellMake: the home hears of the cell
abbrev pub cell_make_row : List Stmt → ℕ → CellName → VarName → Site → Transition
cell_make_row p limit c v s = serve_early p limit c v (home_record s c).early s
