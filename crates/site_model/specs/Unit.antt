-- One unit of a site: a step of a thread that can go on, or an attempt that ends in waiting.
use Rattle.std.specs.Prelude.{◌≡◌, ◌≢◌, ℕ, suc, ◌+◌, ◌%◌, ℤ, pos, List, [], ◌∷◌, ◌⊎◌, Bool, true, false, ◌==◌, Option, Some, None, unwrap_or, if◌then◌else◌, option_to_list}
use Rattle.indexmap.specs.IndexMap.{insert_entry}
use Rattle.tree_node.specs.declared.names.VarName.{VarName}
use Rattle.tree_node.specs.declared.names.CellName.{CellName}
use Rattle.tree_node.specs.declared.names.PortName.{PortName}
use Rattle.tree_node.specs.declared.names.ThreadName.{ThreadName}
use Rattle.tree_node.specs.declared.names.Name.{Name}
use Rattle.tree_node.specs.declared.names.Name.TheVariants as name
use Rattle.tree_node.specs.declared.names.NameKind.{NameKind}
use Rattle.tree_node.specs.declared.names.NameKind.TheVariants as kind
use Rattle.tree_node.specs.declared.node.Term.{Term}
use Rattle.tree_node.specs.declared.node.Term.TheVariants as term
use Rattle.tree_node.specs.declared.pick.Pick.{Pick}
use Rattle.tree_node.specs.Assoc.{with_optional_value, with_value}
use Rattle.tree_node.specs.Goal.{IsAllowedBind, equal_cell, equal_port}
use Rattle.tree_node.specs.Order.{IsLower}
use Rattle.tree_node.specs.State.{Stack, equal_thread}
use Rattle.tree_node.specs.Compare.{Open, compared}
use Rattle.tree_node.specs.Store.{Store, Equation, IsFree, IsClassName}
use Rattle.kernel_syntax.specs.declared.stmt.Stmt.{Stmt}
use Rattle.site_message.specs.declared.message.Msg.TheVariants as msg
use Rattle.oz_model.specs.Need.{Need, Waits, WaitsAny, Binds, Takes, stack_need}
use Rattle.oz_model.specs.Effect.{Birth, CellChange, Stays, Made, Exchanged, PortChange, Keeps, Opened, Sent, Effect, vars_among}
use Rattle.oz_model.specs.Step.{living_stack, end_count}
use Rattle.bind_protocol.specs.Rows.{sent_message, request}
use Rattle.thread_roster.specs.declared.mode.Awaited.TheVariants.{Port}
use Rattle.thread_roster.specs.declared.mode.Mode.{Mode}
use Rattle.thread_roster.specs.declared.mode.Mode.TheVariants.{Runs}
use Rattle.thread_roster.specs.declared.mode.Mode.TheVariants as mode
use Rattle.token_chain.specs.declared.token.Token.{Token}
use Rattle.token_chain.specs.declared.token.Token.TheVariants.{Here}
use Rattle.token_chain.specs.Holding.{here_with}
use Rattle.site_model.specs.Site.{Site, ThreadState, Counters, thread_state, cell_record, with_cell_record, port_end, home_record, with_home_record}
use Rattle.site_model.specs.Requests.{with_asking, send_request_row, home_request_row, early_request_row, with_home_content, old_end, send_stack}
use Rattle.site_model.specs.Bundle.{with_own_bundle}
use Rattle.site_model.specs.Transition.{Transition, without_output, with_messages, with_pick, with_lines, and_then}
use Rattle.site_model.specs.Variables.{after_makes, own_binds}
use Rattle.site_model.specs.Cells.{exchange_stack, request_row}
pub use Rattle.site_model.specs.Cells.{step_pick, effect_here}
use Rattle.site_model.specs.Messages.{with_thread}

-- ---- fresh names

-- the site, one of 1 to n, at which a thread or a stationary cell is placed: `at k` counts the sites in a circle, and a thread without a place
-- stays at site i
abbrev pub placement : ℕ → ℕ → Option ℤ → ℕ
placement n i (Some (pos (suc k))) = k % n + 1
placement n i _ = i

-- the home of a cell made with a place: the site of that number, where the numbers go round so many sites; of any other
-- number, and of no sites, it is the first
abbrev pub home_among : ℕ → ℤ → ℕ
home_among (suc n) (pos (suc k)) = suc (k % suc n)
home_among _ _ = 1

-- the next name of a kind that site i makes
abbrev pub next_name : ℕ → Counters → NameKind → Name
next_name i c kind.Var = name.Var (record { site = i; num = c.vars })
next_name i c kind.Cell = name.Cell (record { site = i; num = c.cells; at = 0 })
next_name i c (kind.CellAt k) = name.Cell (record { site = i; num = c.cells; at = home_among c.sites k })
next_name i c kind.Proc = name.Proc (record { site = i; num = c.procs })
next_name i c kind.Thread = name.Thread (record { site = i; num = c.threads })
next_name i c kind.Port = name.Port (record { site = i; num = c.ports })

-- the counters after one name of this kind
abbrev pub counter_after : Counters → NameKind → Counters
counter_after c kind.Var = record c { vars = c.vars + 1 }
counter_after c kind.Cell = record c { cells = c.cells + 1 }
counter_after c (kind.CellAt k) = record c { cells = c.cells + 1 }
counter_after c kind.Proc = record c { procs = c.procs + 1 }
counter_after c kind.Thread = record c { threads = c.threads + 1 }
counter_after c kind.Port = record c { ports = c.ports + 1 }

-- the next names of these kinds that site i makes, and its counters afterwards
abbrev pub next_names : ℕ → Counters → List NameKind → List Name
next_names i c [] = []
next_names i c (k ∷ ks) = next_name i c k ∷ next_names i (counter_after c k) ks

abbrev pub counters_after : Counters → List NameKind → Counters
counters_after c [] = c
counters_after c (k ∷ ks) = counters_after (counter_after c k) ks

-- the fresh names of these kinds that the site takes next
abbrev pub fresh_names : Site → List NameKind → List Name
fresh_names s kinds = next_names s.records.site s.counters kinds

-- the site has made them, the variables among them unbound
abbrev pub with_fresh_names : List NameKind → Site → Site
with_fresh_names kinds s = record s {
  counters = counters_after s.counters kinds;
  records = after_makes s.records (vars_among (next_names s.records.site s.counters kinds));
}

-- ---- steps

-- a new thread begins here, or goes to its site by Spawn
abbrev pub birth_row : List Stmt → ℕ → ℕ → Option Birth → Site → Transition
birth_row p n limit None s = without_output s
birth_row p n limit (Some b) s =
    if placement n s.records.site b.at == s.records.site then without_output (with_thread p (Some b) s)
    else with_messages s (with_own_bundle limit s.equations (sent_message (placement n s.records.site b.at) (msg.Spawn b.name b.code b.vars [])) ∷ [])

-- the content of the token that is here
abbrev pub token_content : Token → VarName
token_content (Here v) = v
token_content _ = record { site = 0; num = 0 }

-- the old content of the cell that is exchanged
abbrev pub content_here : Site → CellChange → VarName
content_here s (Exchanged c new told) = token_content (cell_record s c).held.token
content_here s _ = record { site = 0; num = 0 }

-- a new cell is here, and its own site asked last for it; an exchange changes the content here
abbrev pub after_cell : CellChange → Site → Site
after_cell Stays s = s
after_cell (Made c v) s = record s {
  managers = insert_entry equal_cell s.managers c s.records.site;
  cell_records = insert_entry equal_cell s.cell_records c (record { held = here_with v; queue = [] });
}
after_cell (Exchanged c new told) s =
    with_cell_record s c (record (cell_record s c) { held = record (cell_record s c).held { token = Here new } })

-- a thread with this stack, which can go on; none where there is no stack
abbrev pub runnable_state : Option Stack → Option ThreadState
runnable_state None = None
runnable_state (Some st) = Some (st, Runs)

-- the thread is left with this stack, or has ended; one own step more
abbrev pub with_stack : ThreadName → Stack → Site → Site
with_stack n st s = record s {
  threads = with_optional_value equal_thread s.threads n (runnable_state (living_stack st));
  ended = s.ended + end_count st;
  steps = s.steps + 1;
}

-- the site after a step of a thread with this effect
abbrev pub after_effect : ThreadName → Effect → Site → Site
after_effect n e s = with_stack n (exchange_stack (content_here s e.cell) e.cell e.stack) (after_cell e.cell s)

-- a step: names are made, variables bound, the stack goes on, a line is printed, a thread is born
abbrev pub step_row : List Stmt → ℕ → ℕ → Pick → List NameKind → Effect → Site → Transition
step_row p n limit k kinds e s =
    and_then (and_then (and_then (with_pick (with_fresh_names kinds s) k) (own_binds limit e.adds)) (λ t. with_lines (option_to_list e.line) (after_effect k.thread e t))) (birth_row p n limit e.born)

-- ---- steps on ports and on stationary cells

-- a stationary cell made at its home is kept there, and an exchange at the home changes the content
abbrev pub after_home_cell : CellChange → Site → Site
after_home_cell Stays s = s
after_home_cell (Made c v) s = if c.at == s.records.site then with_home_record s c (record { content = Some v; early = [] }) else s
after_home_cell (Exchanged c new told) s = with_home_content c new s

-- a port made is kept with its end, and a send moves the end
abbrev pub after_port : PortChange → Site → Site
after_port Keeps s = s
after_port (Opened q end) s = record s { ports = insert_entry equal_port s.ports q end }
after_port (Sent q value new) s = record s { ports = insert_entry equal_port s.ports q new }

-- the content at the home of the cell that is exchanged
abbrev pub home_content : Site → CellChange → VarName
home_content s (Exchanged c new told) = unwrap_or (home_record s c).content (record { site = 0; num = 0 })
home_content s _ = record { site = 0; num = 0 }

-- the end of the port that is sent to
abbrev pub end_here : Site → PortChange → VarName
end_here s (Sent q value new) = old_end s q
end_here s _ = record { site = 0; num = 0 }

-- the stack after such a step: an old content or an old end is told
abbrev pub kept_stack : Site → Effect → Stack
kept_stack s e = send_stack (end_here s e.port) e.port (exchange_stack (home_content s e.cell) e.cell e.stack)

-- the home of a new cell is told of it, where it is another site
abbrev pub telling_row : ℕ → CellChange → Site → Transition
telling_row limit (Made c v) s =
    if c.at == s.records.site then without_output s
    else with_messages s (with_own_bundle limit s.equations (sent_message c.at (msg.CellMake c v [])) ∷ [])
telling_row limit _ s = without_output s

-- a step on a port or on a stationary cell, which binds nothing, prints nothing and makes no thread
abbrev pub kept_step_row : ℕ → Pick → List NameKind → Effect → Site → Transition
kept_step_row limit k kinds e s =
    and_then (with_pick (with_stack k.thread (kept_stack s e) (after_port e.port (after_home_cell e.cell (with_fresh_names kinds s)))) k)
    (telling_row limit e.cell)

-- ---- units

-- the thread is left in this mode, with this stack
abbrev pub with_mode : ThreadName → Stack → Mode → Site → Site
with_mode n st m s = record s { threads = with_value equal_thread s.threads n (st, m) }

-- the step of a thread that takes these names
abbrev pub thread_step : List Stmt → ℕ → ℕ → ThreadName → Stack → List NameKind → List Name → Option Equation → Site → Transition
thread_step p n limit th st kinds fresh bind s =
    step_row p n limit (step_pick th fresh bind) kinds (effect_here p s fresh bind st) s

-- the same of a step on a port or on a stationary cell
abbrev pub kept_step : List Stmt → ℕ → ThreadName → Stack → List NameKind → List Name → Site → Transition
kept_step p limit th st kinds fresh s = kept_step_row limit (step_pick th fresh None) kinds (effect_here p s fresh None st) s

-- the content of a stationary cell is here
abbrev pub IsContentHere : Site → CellName → Type 0
IsContentHere s c = (c.at ≡ s.records.site) × (v : VarName) × ((home_record s c).content ≡ Some v)

-- the token of the cell is here
abbrev pub IsTokenHere : Site → CellName → Type 0
IsTokenHere s c = (v : VarName) × ((cell_record s c).held.token ≡ Here v)

-- an exchange of a mobile cell waits for the token where it is not here
abbrev pub IsExchangeUnit : ℕ → ThreadName → Stack → Site → Transition → CellName → VarName → Transition → Type 0
IsExchangeUnit limit th st s step c new d =
    (IsTokenHere s c × (d ≡ step)) ⊎ ((IsTokenHere s c → ⊥) × (d ≡ request_row limit c new th st s))

-- one of a stationary cell is a step where the content is here, asks another site that is the home, and waits where this home did
-- not hear of the cell
abbrev pub IsHomeUnit : ℕ → ThreadName → Stack → Site → Transition → CellName → VarName → Transition → Type 0
IsHomeUnit limit th st s kept c new d =
    (IsContentHere s c × (d ≡ kept)) ⊎ ((c.at ≢ s.records.site) × (d ≡ home_request_row limit c new th st s))
    ⊎ ((c.at ≡ s.records.site) × ((home_record s c).content ≡ None) × (d ≡ early_request_row c new th st s))

-- by what becomes of a cell
abbrev pub IsCellUnit : ℕ → ThreadName → Stack → Site → (step kept : Transition) → CellChange → Transition → Type 0
IsCellUnit limit th st s step kept Stays d = d ≡ step
IsCellUnit limit th st s step kept (Made c v) d = ((c.at ≡ 0) × (d ≡ step)) ⊎ ((c.at ≢ 0) × (d ≡ kept))
IsCellUnit limit th st s step kept (Exchanged c new told) d =
    ((c.at ≡ 0) × IsExchangeUnit limit th st s step c new d) ⊎ ((c.at ≢ 0) × IsHomeUnit limit th st s kept c new d)

-- a send to a port made here is a step, one to a port of another site asks it; where this site never made the port there is no step, and
-- the thread waits
abbrev pub IsSendUnit : ℕ → ThreadName → Stack → Site → Transition → PortName → Transition → Type 0
IsSendUnit limit th st s kept q d =
    ((q.site ≡ s.records.site) × (end : VarName) × (port_end s q ≡ Some end) × (d ≡ kept)) ⊎ ((q.site ≢ s.records.site) × (d ≡ send_request_row limit q th st s))
    ⊎ ((q.site ≡ s.records.site) × (port_end s q ≡ None) × (d ≡ without_output (with_asking th st (Port q) s)))

-- a port is made here, and sent to as above; all else is by the cell
abbrev pub IsStepOrRequest : ℕ → ThreadName → Stack → Site → (step kept : Transition) → Effect → Transition → Type 0
IsStepOrRequest limit th st s step kept e d = by_port e.port
  where
    by_port : PortChange → Type 0
    by_port Keeps = IsCellUnit limit th st s step kept e.cell d
    by_port (Opened q end) = d ≡ kept
    by_port (Sent q value new) = IsSendUnit limit th st s kept q d

-- a bind of a root without an equation of its own, to a lesser root or to the node of the other side
abbrev pub IsRootBind : Store → Term → Term → VarName → Term → Type 0
IsRootBind s a b u t = IsAllowedBind s a b (u, t) × IsFree s u × IsLower t u × is_root t
  where
    is_root : Term → Type 0
    is_root (term.Var v) = IsFree s v
    is_root (term.Node m) = Unit {0}

-- an own variable is bound at once; for one owned elsewhere a BindReq goes to the owner, and the thread waits
abbrev pub bind_attempt : List Stmt → ℕ → ℕ → ThreadName → Stack → VarName → Term → Bool → Site → Transition
bind_attempt p n limit th st u t true s = thread_step p n limit th st [] [] (Some (u, t)) s
bind_attempt p n limit th st u t false s =
    with_messages (with_mode th st (mode.Waits u) s) (with_own_bundle limit s.equations (request u t th) ∷ [])

-- the unit that binds a root of one of the two sides: at once where the site owns it, else by a request
abbrev pub IsBindUnit : List Stmt → ℕ → ℕ → Site → ThreadName → Stack → Term → Term → Transition → Type 0
IsBindUnit p n limit s th st a b d =
    (u : VarName) × (t : Term) × IsRootBind s.equations a b u t
    × (d ≡ bind_attempt p n limit th st u t (u.site == s.records.site) s)

-- by what the thread needs: it waits for the node of x's class, by the name of its root, or for any that is open in its comparison by what the site knows,
-- binds one of two sides, or takes fresh names and steps, or waits for a token or for the answer of another site
abbrev pub IsUnitFor : List Stmt → ℕ → ℕ → Site → ThreadName → Stack → Need → Transition → Type 0
IsUnitFor p n limit s th st (Waits x) d = (z : VarName) × IsClassName s.equations x z × (d ≡ without_output (with_mode th st (mode.Needs z) s))
IsUnitFor p n limit s th st (WaitsAny q) d =
    (xs : List VarName) × (compared s.equations q ≡ Open xs) × (d ≡ without_output (with_mode th st (mode.WaitsAny xs) s))
IsUnitFor p n limit s th st (Binds a b) d = IsBindUnit p n limit s th st a b d
IsUnitFor p n limit s th st (Takes kinds) d =
    IsStepOrRequest limit th st s (thread_step p n limit th st kinds (fresh_names s kinds) None s) (kept_step p limit th st kinds (fresh_names s kinds) s)
    (effect_here p s (fresh_names s kinds) None st) d

-- a unit of this thread, which can go on
abbrev pub IsUnit : List Stmt → ℕ → ℕ → ThreadName → Site → Transition → Type 0
IsUnit p n limit th s d =
    (st : Stack) × (thread_state s th ≡ Some (st, Runs)) × IsUnitFor p n limit s th st (stack_need p s.equations st) d
