-- What a site does with the tokens of cells (TOPLAS 19(5), 1997): the replies of `token_chain` for what it keeps, and the
-- exchanges of threads that waited.
use Rattle.std.specs.Prelude.{ℕ, List, [], ◌∷◌, ◌++◌, map, ◌==◌, Option, Some, None, unwrap_or, if◌then◌else◌}
use Rattle.indexmap.specs.IndexMap.{insert_entry}
use Rattle.tree_node.specs.declared.names.VarName.{VarName}
use Rattle.tree_node.specs.declared.names.CellName.{CellName}
use Rattle.tree_node.specs.declared.names.ThreadName.{ThreadName}
use Rattle.tree_node.specs.declared.names.Name.{Name}
use Rattle.tree_node.specs.declared.node.Term.TheVariants as term
use Rattle.tree_node.specs.declared.pick.Pick.{Pick}
use Rattle.tree_node.specs.Assoc.{with_value}
use Rattle.tree_node.specs.Goal.{equal_cell}
use Rattle.tree_node.specs.State.{Stack, equal_thread}
use Rattle.tree_node.specs.Store.{Equation}
use Rattle.kernel_syntax.specs.declared.stmt.Stmt.{Stmt}
use Rattle.oz_model.specs.Effect.{Effect, CellChange, Exchanged, stack_effect, tell_item}
use Rattle.thread_roster.specs.declared.mode.Awaited.TheVariants.{Cell}
use Rattle.thread_roster.specs.declared.mode.Mode.TheVariants.{Runs, WaitsFor}
use Rattle.token_chain.specs.declared.token.Token.{Token}
use Rattle.token_chain.specs.declared.token.Token.TheVariants.{Away, Here}
use Rattle.token_chain.specs.Mail.{sent_as}
use Rattle.token_chain.specs.Rows.{Reply, leave_reply, forward_reply, get_reply, exchange_reply}
use Rattle.site_model.specs.Site.{Site, ThreadState, cell_record, with_cell_record, last_asker, thread_state}
use Rattle.site_model.specs.Bundle.{with_own_bundles}
use Rattle.site_model.specs.Transition.{Transition, without_output, with_messages, with_pick, and_then}

-- ---- replies

-- the site keeps what the reply says, with these threads waiting, and sends its messages
abbrev pub cell_reply : ℕ → CellName → List ThreadName → Reply → Site → Transition
cell_reply limit c queue r s =
    with_messages (with_cell_record s c (record { held = r.held; queue = queue })) (with_own_bundles limit s.equations (map (sent_as c) r.sent))

-- Forward(c, k): k is the successor, and a token that is here and that nobody waits for goes to it
abbrev pub forward_row : ℕ → CellName → ℕ → Site → Transition
forward_row limit c k s = cell_reply limit c (cell_record s c).queue (forward_reply (cell_record s c).held k) s

-- the last asker of a cell made here; its own site is the first
abbrev pub last_before : Site → CellName → ℕ
last_before s c = unwrap_or (last_asker s c) c.site

-- site k is the one that asked last for the cell
abbrev pub with_last_asker : CellName → ℕ → Site → Site
with_last_asker c k s = record s { managers = insert_entry equal_cell s.managers c k }

-- Get(c, k): the site that asked last is told that k comes next, and k is the one that asked last
abbrev pub get_row : ℕ → CellName → ℕ → Site → Transition
get_row limit c k s =
    cell_reply limit c (cell_record s c).queue (get_reply s.records.site (last_before s c) k (cell_record s c).held) (with_last_asker c k s)

-- ---- exchanges of threads that waited

-- the pick of a step of thread n with these fresh names and this chosen bind
abbrev pub step_pick : ThreadName → List Name → Option Equation → Pick
step_pick n fresh bind = record { thread = n; fresh = fresh; bind = bind }

-- what a stack does with the site's equations
abbrev pub effect_here : List Stmt → Site → List Name → Option Equation → Stack → Effect
effect_here p s fresh bind st = stack_effect p s.equations fresh bind st

-- the stack after an exchange that gave this old content
abbrev pub exchange_stack : VarName → CellChange → Stack → Stack
exchange_stack v (Exchanged cell new told) stack = tell_item told (term.Var v) ∷ stack
exchange_stack v _ stack = stack

-- the content that an exchange leaves
abbrev pub content_after_change : VarName → CellChange → VarName
content_after_change v (Exchanged cell new told) = new
content_after_change v _ = v

-- a waiting thread in this state is given the content v; without a thread nothing changes
abbrev pub after_exchange_as : List Stmt → ThreadName → VarName → Site → Option ThreadState → Site
after_exchange_as p n v s None = s
after_exchange_as p n v s (Some st) = record s {
  threads = with_value equal_thread s.threads n (exchange_stack v (effect_here p s [] None st.0).cell (effect_here p s [] None st.0).stack, Runs);
}

-- a waiting thread is given the content v
abbrev pub after_exchange : List Stmt → ThreadName → VarName → Site → Site
after_exchange p n v s = after_exchange_as p n v s (thread_state s n)

-- the content that a thread in this state leaves when it is given v; without a thread it is v
abbrev pub content_after_exchange_as : List Stmt → VarName → Site → Option ThreadState → VarName
content_after_exchange_as p v s None = v
content_after_exchange_as p v s (Some st) = content_after_change v (effect_here p s [] None st.0).cell

-- the content that it leaves
abbrev pub content_after_exchange : List Stmt → ThreadName → VarName → Site → VarName
content_after_exchange p n v s = content_after_exchange_as p v s (thread_state s n)

-- these threads exchange in order, the first gets the content v; then the token is here, with what the last one left
abbrev pub serving : List Stmt → CellName → List ThreadName → VarName → Site → Transition
serving p c [] v s =
    without_output (with_cell_record s c (record { held = record (cell_record s c).held { token = Here v; waiting = 0 }; queue = [] }))
serving p c (n ∷ ns) v s =
    and_then (with_pick (after_exchange p n v s) (step_pick n [] None)) (serving p c ns (content_after_exchange p n v s))

-- the token goes to the successor, where one is known and nobody waits
abbrev pub leave_row : ℕ → CellName → Site → Transition
leave_row limit c s = cell_reply limit c (cell_record s c).queue (leave_reply (cell_record s c).held) s

-- Put(c, v): the token comes, and all that wait here are served; then it leaves where it may
abbrev pub put_row : List Stmt → ℕ → CellName → VarName → Site → Transition
put_row p limit c v s = and_then (serving p c (cell_record s c).queue v s) (leave_row limit c)

-- ---- requests

-- a first request at the manager's own site makes it the one that asked last
abbrev pub with_own_request : CellName → Token → Site → Site
with_own_request c Away s = if c.site == s.records.site then with_last_asker c s.records.site s else s
with_own_request c _ s = s

-- the thread has this stack and waits for the token of the cell
abbrev pub with_exchange_waiting : CellName → ThreadName → Stack → Site → Site
with_exchange_waiting c n st s = record s { threads = with_value equal_thread s.threads n (st, WaitsFor (Cell c)) }

-- a thread wants to exchange the content of a cell whose token is not here: it waits behind the others, and the first asks
-- for the token
abbrev pub request_row : ℕ → CellName → VarName → ThreadName → Stack → Site → Transition
request_row limit c new n st s =
    cell_reply limit c ((cell_record s c).queue ++ n ∷ [])
    (exchange_reply c.site (last_before s c) s.records.site new (cell_record s c).held)
    (with_own_request c (cell_record s c).held.token (with_exchange_waiting c n st s))
