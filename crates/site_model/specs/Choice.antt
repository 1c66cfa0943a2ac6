-- A site that makes the choices: the bind of the greater root to the lesser, and the next unit of a thread. It serves worked
-- runs.
use Rattle.std.specs.Prelude.{ℕ, List, [], ◌∷◌, Bool, true, false, not, ◌&&◌, ◌==◌, Option, Some, None, if◌then◌else◌}
use Rattle.tree_node.specs.declared.names.VarName.{VarName}
use Rattle.tree_node.specs.declared.names.CellName.{CellName}
use Rattle.tree_node.specs.declared.names.PortName.{PortName}
use Rattle.tree_node.specs.declared.names.ThreadName.{ThreadName}
use Rattle.tree_node.specs.declared.node.Node.{Node}
use Rattle.tree_node.specs.declared.node.Term.{Term}
use Rattle.tree_node.specs.declared.node.Term.TheVariants as term
use Rattle.tree_node.specs.Assoc.{value_of}
use Rattle.tree_node.specs.Compare.{Comparison, Open, compared}
use Rattle.tree_node.specs.Goal.{side_node}
use Rattle.tree_node.specs.State.{Stack}
use Rattle.tree_node.specs.Store.{Store, Equation, root_of, equal_var}
use Rattle.kernel_syntax.specs.declared.stmt.Stmt.{Stmt}
use Rattle.site_message.specs.declared.message.Msg.{Msg}
use Rattle.oz_model.specs.Need.{Need, Waits, WaitsAny, Binds, Takes, stack_need}
use Rattle.oz_model.specs.Effect.{CellChange, Stays, Made, Exchanged, PortChange, Keeps, Opened, Sent, Effect}
use Rattle.token_chain.specs.declared.token.Token.{Token}
use Rattle.token_chain.specs.declared.token.Token.TheVariants.{Here}
use Rattle.thread_roster.specs.declared.mode.Awaited.TheVariants.{Port}
use Rattle.thread_roster.specs.declared.mode.Mode.TheVariants as mode
use Rattle.site_model.specs.Site.{Site, ThreadState, thread_state, cell_record, port_end, home_record}
use Rattle.site_model.specs.Requests.{with_asking, send_request_row, home_request_row, early_request_row}
use Rattle.thread_roster.specs.Threads.{is_waiting}
use Rattle.site_model.specs.Bundle.{is_below}
use Rattle.site_model.specs.Transition.{Transition, without_output, and_then}
use Rattle.site_model.specs.Cells.{request_row}
use Rattle.site_model.specs.Messages.{reception}
use Rattle.site_model.specs.Unit.{bind_attempt, effect_here, thread_step, kept_step, fresh_names, with_mode}

-- a name that no site makes: what `root_bind` gives where there is nothing to bind
abbrev pub nobody : VarName
nobody = record { site = 0; num = 0 }

-- the equation between two variables: the greater one is bound to the lesser
abbrev pub to_lesser : VarName → VarName → Equation
to_lesser a b = if is_below b a then (a, term.Var b) else (b, term.Var a)

-- of two sides with their nodes: two variables without one are bound by their roots, one without takes the node of the other
abbrev pub bind_between : Store → Term → Term → Option Node → Option Node → Equation
bind_between s (term.Var x) (term.Var y) None None = to_lesser (root_of s x) (root_of s y)
bind_between s (term.Var x) b None (Some n) = (root_of s x, term.Node n)
bind_between s a (term.Var y) (Some n) None = (root_of s y, term.Node n)
bind_between s _ _ _ _ = (nobody, term.Var nobody)

-- the bind that a site makes of a pair
abbrev pub root_bind : Store → Term → Term → Equation
root_bind s a b = bind_between s a b (side_node s a) (side_node s b)

-- there is no term
abbrev pub is_missing : Option Term → Bool
is_missing None = true
is_missing (Some t) = false

-- the site has no equation for x
abbrev pub is_free : Store → VarName → Bool
is_free s x = is_missing (value_of equal_var s x)

-- it is a bind of a variable without an equation to a lesser one without an equation, or to a node
abbrev pub leads_down : Store → Equation → Bool
leads_down s (u, term.Var v) = is_free s u && (is_free s v && is_below v u)
leads_down s (u, term.Node n) = is_free s u

-- the site has the token
abbrev pub is_here : Token → Bool
is_here (Here v) = true
is_here _ = false

-- at the home of a stationary cell: a step where the content is here, else the wait for it
abbrev pub step_or_wait : ThreadName → Stack → Site → Transition → CellName → VarName → Option VarName → Transition
step_or_wait th st s kept c new (Some v) = kept
step_or_wait th st s kept c new None = early_request_row c new th st s

-- by what becomes of a cell: an exchange waits for the token, or asks the home, where the content is not here
abbrev pub cell_unit : ℕ → ThreadName → Stack → Site → (step kept : Transition) → CellChange → Transition
cell_unit limit th st s step kept Stays = step
cell_unit limit th st s step kept (Made c v) = if c.at == 0 then step else kept
cell_unit limit th st s step kept (Exchanged c new told) =
    if c.at == 0 then (if is_here (cell_record s c).held.token then step else request_row limit c new th st s)
    else (if c.at == s.records.site then step_or_wait th st s kept c new (home_record s c).content else home_request_row limit c new th st s)

-- a send to a port of the site: a step where it was made
abbrev pub send_or_wait : ThreadName → Stack → Site → Transition → PortName → Option VarName → Transition
send_or_wait th st s kept q (Some end) = kept
send_or_wait th st s kept q None = without_output (with_asking th st (Port q) s)

-- by what becomes of a port: a send to one of another site asks it
abbrev pub step_or_request : ℕ → ThreadName → Stack → Site → (step kept : Transition) → Effect → Transition
step_or_request limit th st s step kept e = by_port e.port
  where
    by_port : PortChange → Transition
    by_port Keeps = cell_unit limit th st s step kept e.cell
    by_port (Opened q end) = kept
    by_port (Sent q value new) = if q.site == s.records.site then send_or_wait th st s kept q (port_end s q) else send_request_row limit q th st s

-- the variables that are open in a comparison, none where it is decided
abbrev pub open_list : Comparison → List VarName
open_list (Open xs) = xs
open_list _ = []

-- the unit of a thread by what it needs: it waits, binds one of two sides, or takes names and steps
abbrev pub unit_for : List Stmt → ℕ → ℕ → ThreadName → Stack → Site → Need → Transition
unit_for p n limit th st s (Waits x) = without_output (with_mode th st (mode.Needs (root_of s.equations x)) s)
unit_for p n limit th st s (WaitsAny q) = without_output (with_mode th st (mode.WaitsAny (open_list (compared s.equations q))) s)
unit_for p n limit th st s (Binds a b) =
    bind_attempt p n limit th st (root_bind s.equations a b).0 (root_bind s.equations a b).1
    ((root_bind s.equations a b).0.site == s.records.site) s
unit_for p n limit th st s (Takes kinds) =
    step_or_request limit th st s (thread_step p n limit th st kinds (fresh_names s kinds) None s) (kept_step p limit th st kinds (fresh_names s kinds) s)
    (effect_here p s (fresh_names s kinds) None st)

-- the unit of a thread in this state; of no thread it is nothing
abbrev pub unit_from : List Stmt → ℕ → ℕ → ThreadName → Site → Option ThreadState → Transition
unit_from p n limit th s None = without_output s
unit_from p n limit th s (Some v) = unit_for p n limit th v.0 s (stack_need p s.equations v.0)

-- the next unit of a thread
abbrev pub next_unit : List Stmt → ℕ → ℕ → ThreadName → Site → Transition
next_unit p n limit th s = unit_from p n limit th s (thread_state s th)

-- the next unit of each of these threads, one after another
abbrev pub next_units : List Stmt → ℕ → ℕ → List ThreadName → Site → Transition
next_units p n limit [] s = without_output s
next_units p n limit (th ∷ ths) s = and_then (next_unit p n limit th s) (next_units p n limit ths)

-- ---- whether it is a unit

-- the variable to wait for is unbound; the bind leads down; waiting where a comparison is open, and taking names, is possible always
abbrev pub is_possible : Store → Need → Bool
is_possible s (Waits x) = is_free s (root_of s x)
is_possible s (WaitsAny q) = true
is_possible s (Binds a b) = leads_down s (root_bind s a b)
is_possible s (Takes kinds) = true

-- a thread in this state does not wait, and what it needs is possible
abbrev pub can_go_from : List Stmt → Site → Option ThreadState → Bool
can_go_from p s None = false
can_go_from p s (Some v) = not (is_waiting v.1) && is_possible s.equations (stack_need p s.equations v.0)

-- the thread lives and can make a unit
abbrev pub can_go : List Stmt → Site → ThreadName → Bool
can_go p s th = can_go_from p s (thread_state s th)

-- each of these units can be made, after those before it
abbrev pub can_all_go : List Stmt → ℕ → ℕ → List ThreadName → Site → Bool
can_all_go p n limit [] s = true
can_all_go p n limit (th ∷ ths) s = can_go p s th && can_all_go p n limit ths (next_unit p n limit th s).site

-- ---- turns

-- what the message of a turn does, if there is one
abbrev pub reception_of : List Stmt → ℕ → Option Msg → Site → Transition
reception_of p limit None s = without_output s
reception_of p limit (Some m) s = reception p limit m s

-- the turn that takes this message, and then makes the units of these threads
abbrev pub next_turn : List Stmt → ℕ → ℕ → List ThreadName → Option Msg → Site → Transition
next_turn p n limit ths m s = and_then (reception_of p limit m s) (next_units p n limit ths)
