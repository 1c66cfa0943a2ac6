-- What a turn does to a site's own steps, and to the threads that can go on.
use Rattle.site_model.specs.Requests.{Answer, NewEnd, OldContent, with_asking, send_request_row, home_request_row, early_request_row, after_answer, with_home_content, serve_request, serve_early, cell_ask_row}
use Rattle.thread_roster.specs.declared.mode.Awaited.TheVariants.{Cell, Port}
use Rattle.thread_roster.specs.declared.mode.Awaited.{Awaited}
use Rattle.std.proofs.Common.{arith, ◌≡◌, ◌∙◌, sym, ap, refl, subst, ℕ, ◌+◌, ◌<◌, ◌≤◌, List, [], ◌∷◌, length, Bool, true, false, cond, ◌⊎◌, inl, inr, ⊎_elim}
use Rattle.std.specs.Prelude.{Option, Some, None, ◌==◌}
use Rattle.std.specs.List.{filter}
use Rattle.tree_node.specs.declared.names.VarName.{VarName}
use Rattle.tree_node.specs.declared.names.CellName.{CellName}
use Rattle.tree_node.specs.declared.names.ThreadName.{ThreadName}
use Rattle.tree_node.specs.declared.names.Name.{Name}
use Rattle.tree_node.specs.declared.names.NameKind.{NameKind}
use Rattle.tree_node.specs.declared.node.Term.{Term}
use Rattle.tree_node.specs.declared.pick.Pick.{Pick}
use Rattle.tree_node.specs.Assoc.{value_of, with_value}
use Rattle.tree_node.specs.State.{Stack, equal_thread}
use Rattle.tree_node.specs.Store.{Equation}
use Rattle.kernel_syntax.specs.declared.stmt.Stmt.{Stmt}
use Rattle.site_message.specs.declared.message.Msg.{Msg}
use Rattle.site_message.specs.declared.message.Msg.TheVariants as msg
use Rattle.oz_model.specs.Need.{Need, Waits, WaitsAny, Binds, Takes, stack_need}
use Rattle.oz_model.specs.Effect.{Birth, CellChange, Stays, Made, Exchanged, Effect, PortChange, Keeps, Opened, Sent}
use Rattle.bind_protocol.specs.Rows.{sent_message}
use Rattle.bind_protocol.specs.Records.{is_own, knowledge}
use Rattle.thread_roster.specs.declared.mode.Mode.{Mode}
use Rattle.thread_roster.specs.declared.mode.Mode.TheVariants.{Runs, WaitsFor}
use Rattle.thread_roster.specs.declared.mode.Mode.TheVariants as mode
use Rattle.thread_roster.specs.Threads.{is_waiting, waiting_of}
use Rattle.token_chain.specs.declared.token.Token.{Token}
use Rattle.token_chain.specs.declared.token.Token.TheVariants.{Away, Asked, Here}
use Rattle.site_model.specs.Bundle.{with_own_bundle, message_bundle}
use Rattle.site_model.specs.Site.{Site, ThreadState, Threads, cell_record, is_idle, thread_state, EarlyRequest, home_record, with_home_record}
use Rattle.site_model.specs.Transition.{Transition, without_output, with_messages, with_pick, and_then}
use Rattle.site_model.specs.Variables.{with_known_equation_as, with_known_equation, with_known_equations, opening, own_binds}
use Rattle.site_model.specs.Cells.{serving, after_exchange, after_exchange_as, content_after_exchange, with_own_request, with_exchange_waiting, with_last_asker, request_row}
use Rattle.site_model.specs.Messages.{with_thread, bind_request_as, message_row}
use Rattle.site_model.specs.Unit.{IsUnit, IsUnitFor, IsStepOrRequest, bind_attempt, step_row, birth_row, after_cell, after_effect, with_fresh_names, placement, thread_step, step_pick, effect_here, fresh_names, with_mode, IsCellUnit, kept_step, kept_step_row, kept_stack, with_stack, after_port, after_home_cell, telling_row}
use Rattle.site_model.specs.Turn.{IsReception, AreUnits, IsFullTurn}
use Rattle.plain_run.specs.Counts.{runnable_count}

-- ---- threads that wait

pub waiting_fit : (ts : Threads) → waiting_of ts ≤ length ts
waiting_fit [] = omega arith
waiting_fit (t ∷ ts) = by (is_waiting t.1.1) (waiting_fit ts)
  where
    by : (b : Bool) → waiting_of ts ≤ length ts → length (cond b (t ∷ filter (λ (u : ThreadName × ThreadState). is_waiting u.1.1) ts) (filter (λ (u : ThreadName × ThreadState). is_waiting u.1.1) ts)) ≤ length (t ∷ ts)
    by true h = omega arith
    by false h = omega arith

abbrev keeps : ThreadName × ThreadState → Bool
keeps u = is_waiting u.1.1

-- one that could go on waits
abbrev OneWaits : Threads → Threads → Type 0
OneWaits ts us = (length us ≡ length ts) × (waiting_of us ≡ waiting_of ts + 1)

-- one more at the front
front : (t : ThreadName × ThreadState) (ts us : Threads) → OneWaits ts us → OneWaits (t ∷ ts) (t ∷ us)
front t ts us h = by (is_waiting t.1.1)
  where
    by : (b : Bool) → (length (t ∷ us) ≡ length (t ∷ ts)) × (length (cond b (t ∷ filter keeps us) (filter keeps us)) ≡ length (cond b (t ∷ filter keeps ts) (filter keeps ts)) + 1)
    by true = (let e = h.0 in omega arith, let e = h.1 in omega arith)
    by false = (let e = h.0 in omega arith, h.1)

-- the first one waits now
first_waits : (t : ThreadName × ThreadState) (ts : Threads) (n : ThreadName) (st : Stack) (m : Mode) → is_waiting m ≡ true → is_waiting t.1.1 ≡ false → OneWaits (t ∷ ts) ((n, (st, m)) ∷ ts)
first_waits t ts n st m waits runs = (refl, rw (waits, runs) (omega arith))

waits_more : (ts : Threads) (n : ThreadName) (st old : Stack) (m : Mode) → is_waiting m ≡ true → value_of equal_thread ts n ≡ Some (old, Runs) → OneWaits ts (with_value equal_thread ts n (st, m))
waits_more [] n st old m waits at = cc
waits_more (t ∷ ts) n st old m waits at = by (equal_thread t.0 n) at (λ h. waits_more ts n st old m waits h)
  where
    by : (b : Bool) → cond b (Some t.1) (value_of equal_thread ts n) ≡ Some (old, Runs) → (value_of equal_thread ts n ≡ Some (old, Runs) → OneWaits ts (with_value equal_thread ts n (st, m))) → OneWaits (t ∷ ts) (cond b ((n, (st, m)) ∷ ts) (t ∷ with_value equal_thread ts n (st, m)))
    by true h rest =
        let state : t.1 ≡ (old, Runs) = cc in
        first_waits t ts n st m waits (ap (λ (v : ThreadState). is_waiting v.1) state)
    by false h rest = front t ts (with_value equal_thread ts n (st, m)) (rest h)

-- so one less can go on
fewer_run : (s t : Site) → OneWaits s.threads t.threads → runnable_count t + 1 ≤ runnable_count s
fewer_run s t h =
    let long = h.0 in
    let more = h.1 in
    let fit = waiting_fit t.threads in
    omega arith

-- ---- own steps

birth_steps : (p : List Stmt) (n limit : ℕ) (b : Option Birth) (s : Site) → (birth_row p n limit b s).site.steps ≡ s.steps
birth_steps p n limit None s = refl
birth_steps p n limit (Some b) s = by (placement n s.records.site b.at == s.records.site)
  where
    by : (c : Bool) → (cond c (without_output (with_thread p (Some b) s)) (with_messages s (with_own_bundle limit s.equations (sent_message (placement n s.records.site b.at) (msg.Spawn b.name b.code b.vars [])) ∷ []))).site.steps ≡ s.steps
    by true = refl
    by false = refl

cell_steps : (c : CellChange) (s : Site) → (after_cell c s).steps ≡ s.steps
cell_steps Stays s = refl
cell_steps (Made c v) s = refl
cell_steps (Exchanged c new told) s = refl

binds_steps : (limit : ℕ) (es : List Equation) (s : Site) → (own_binds limit es s).site.steps ≡ s.steps
binds_steps limit [] s = refl
binds_steps limit (e ∷ es) s = binds_steps limit es s

row_steps : (p : List Stmt) (n limit : ℕ) (k : Pick) (kinds : List NameKind) (e : Effect) (s : Site) → (step_row p n limit k kinds e s).site.steps ≡ s.steps + 1
row_steps p n limit k kinds e s =
    birth_steps p n limit e.born (after_effect k.thread e (own_binds limit e.adds (with_fresh_names kinds s)).site)
    ∙ ap (λ (m : ℕ). m + 1) (cell_steps e.cell (own_binds limit e.adds (with_fresh_names kinds s)).site ∙ binds_steps limit e.adds (with_fresh_names kinds s))

-- ---- units

-- an own step, or one thread less can go on
abbrev Counts : Site → Site → ℕ → Type 0
Counts s t k = (s.steps < t.steps) ⊎ ((t.steps ≡ s.steps) × (runnable_count t + k ≤ runnable_count s))

stepped : (s t : Site) → t.steps ≡ s.steps + 1 → Counts s t 1
stepped s t e = inl (omega arith)

-- a wait for the node of a class
needs_node : (s : Site) (th : ThreadName) (st : Stack) (x : VarName) → thread_state s th ≡ Some (st, Runs) → Counts s (with_mode th st (mode.Needs x) s) 1
needs_node s th st x at = inr (refl, fewer_run s (with_mode th st (mode.Needs x) s) (waits_more s.threads th st st (mode.Needs x) refl at))

-- a wait for a variable, and one for a cell
waits_var : (s : Site) (th : ThreadName) (st : Stack) (x : VarName) → thread_state s th ≡ Some (st, Runs) → Counts s (with_mode th st (mode.Waits x) s) 1
waits_var s th st x at = inr (refl, fewer_run s (with_mode th st (mode.Waits x) s) (waits_more s.threads th st st (mode.Waits x) refl at))

-- and one for any of several
waits_several : (s : Site) (th : ThreadName) (st : Stack) (xs : List VarName) → thread_state s th ≡ Some (st, Runs) → Counts s (with_mode th st (mode.WaitsAny xs) s) 1
waits_several s th st xs at = inr (refl, fewer_run s (with_mode th st (mode.WaitsAny xs) s) (waits_more s.threads th st st (mode.WaitsAny xs) refl at))

request_same : (c : CellName) (tok : Token) (s : Site) → ((with_own_request c tok s).threads ≡ s.threads) × ((with_own_request c tok s).steps ≡ s.steps)
request_same c Away s = by (c.site == s.records.site)
  where
    by : (b : Bool) → ((cond b (with_last_asker c s.records.site s) s).threads ≡ s.threads) × ((cond b (with_last_asker c s.records.site s) s).steps ≡ s.steps)
    by true = (refl, refl)
    by false = (refl, refl)
request_same c Asked s = (refl, refl)
request_same c (Here v) s = (refl, refl)

waits_cell : (limit : ℕ) (c : CellName) (new : VarName) (s : Site) (th : ThreadName) (st : Stack) → thread_state s th ≡ Some (st, Runs) → Counts s (request_row limit c new th st s).site 1
waits_cell limit c new s th st at =
    let same = request_same c (cell_record s c).held.token (with_exchange_waiting c th st s) in
    let one = waits_more s.threads th st st (WaitsFor (Cell c)) refl at in
    inr (same.1, fewer_run s (request_row limit c new th st s).site (subst (OneWaits s.threads) (sym same.0) one))

-- a wait for an answer
waits_answer : (s t : Site) (th : ThreadName) (st : Stack) (a : Awaited) → t.threads ≡ with_value equal_thread s.threads th (st, WaitsFor a) → t.steps ≡ s.steps → thread_state s th ≡ Some (st, Runs) → Counts s t 1
waits_answer s t th st a threads_are steps_are at = inr (steps_are, fewer_run s t (subst (OneWaits s.threads) (sym threads_are) (waits_more s.threads th st st (WaitsFor a) refl at)))

-- a step on a port or on a stationary cell
kept_steps : (limit : ℕ) (k : Pick) (kinds : List NameKind) (e : Effect) (s : Site) → (kept_step_row limit k kinds e s).site.steps ≡ s.steps + 1
kept_steps limit k kinds e s =
    told e.cell (with_stack k.thread (kept_stack s e) (after_port e.port (after_home_cell e.cell (with_fresh_names kinds s))))
    ∙ ap (λ (m : ℕ). m + 1) (of_port e.port (after_home_cell e.cell (with_fresh_names kinds s)) ∙ of_cell e.cell (with_fresh_names kinds s))
  where
    told : (c : CellChange) (t : Site) → (telling_row limit c t).site.steps ≡ t.steps
    told Stays t = refl
    told (Exchanged c new old) t = refl
    told (Made c v) t = by (c.at == t.records.site)
      where
        by : (b : Bool) → (cond b (without_output t) (with_messages t (with_own_bundle limit t.equations (sent_message c.at (msg.CellMake c v [])) ∷ []))).site.steps ≡ t.steps
        by true = refl
        by false = refl

    of_port : (r : PortChange) (t : Site) → (after_port r t).steps ≡ t.steps
    of_port Keeps t = refl
    of_port (Opened q end) t = refl
    of_port (Sent q value new) t = refl

    of_cell : (c : CellChange) (t : Site) → (after_home_cell c t).steps ≡ t.steps
    of_cell Stays t = refl
    of_cell (Exchanged c new old) t = refl
    of_cell (Made c v) t = by (c.at == t.records.site)
      where
        by : (b : Bool) → (cond b (with_home_record t c (record { content = Some v; early = [] })) t).steps ≡ t.steps
        by true = refl
        by false = refl

unit_counts : (p : List Stmt) (n limit : ℕ) (th : ThreadName) (s : Site) (d : Transition) → IsUnit p n limit th s d → Counts s d.site 1
unit_counts p n limit th s d (st, at, unit) = by (stack_need p s.equations st) unit
  where
    step_of : (kinds : List NameKind) (fresh : List Name) (bind : Option Equation) → Counts s (thread_step p n limit th st kinds fresh bind s).site 1
    step_of kinds fresh bind = stepped s (thread_step p n limit th st kinds fresh bind s).site (row_steps p n limit (step_pick th fresh bind) kinds (effect_here p s fresh bind st) s)

    bound : (u : VarName) (t : Term) (b : Bool) → Counts s (bind_attempt p n limit th st u t b s).site 1
    bound u t true = step_of [] [] (Some (u, t))
    bound u t false = waits_var s th st u at

    this : (t : Transition) → d ≡ t → Counts s t.site 1 → Counts s d.site 1
    this t is h = subst (λ (x : Transition). Counts s x.site 1) (sym is) h

    of_cell : (step kept : Transition) → Counts s step.site 1 → Counts s kept.site 1 → (c : CellChange) → IsCellUnit limit th st s step kept c d → Counts s d.site 1
    of_cell step kept h k Stays is = this step is h
    of_cell step kept h k (Made c v) (inl (mobile, is)) = this step is h
    of_cell step kept h k (Made c v) (inr (far, is)) = this kept is k
    of_cell step kept h k (Exchanged c new told) (inl (mobile, inl (here, is))) = this step is h
    of_cell step kept h k (Exchanged c new told) (inl (mobile, inr (away, is))) = this _ is (waits_cell limit c new s th st at)
    of_cell step kept h k (Exchanged c new told) (inr (far, inl (here, is))) = this kept is k
    of_cell step kept h k (Exchanged c new told) (inr (far, inr (inl (away, is)))) = this _ is (waits_answer s (home_request_row limit c new th st s).site th st (Cell c) refl refl at)
    of_cell step kept h k (Exchanged c new told) (inr (far, inr (inr (home, none, is)))) = this _ is (waits_answer s (early_request_row c new th st s).site th st (Cell c) refl refl at)

    named : (step kept : Transition) → Counts s step.site 1 → Counts s kept.site 1 → (e : Effect) → IsStepOrRequest limit th st s step kept e d → Counts s d.site 1
    named step kept h k e is = by_port e.port is
      where
        by_port : (r : PortChange) → IsStepOrRequest limit th st s step kept (record e { port = r }) d → Counts s d.site 1
        by_port Keeps is = of_cell step kept h k e.cell is
        by_port (Opened q end) is = this kept is k
        by_port (Sent q value new) (inl (own, end, has, is)) = this kept is k
        by_port (Sent q value new) (inr (inl (other, is))) = this _ is (waits_answer s (send_request_row limit q th st s).site th st (Port q) refl refl at)
        by_port (Sent q value new) (inr (inr (own, none, is))) = this _ is (waits_answer s (with_asking th st (Port q) s) th st (Port q) refl refl at)

    by : (need : Need) → IsUnitFor p n limit s th st need d → Counts s d.site 1
    by (Waits x) (z, root, is) = subst (λ (y : Transition). Counts s y.site 1) (sym is) (needs_node s th st z at)
    by (WaitsAny q) (xs, open_on, is) = subst (λ (y : Transition). Counts s y.site 1) (sym is) (waits_several s th st xs at)
    by (Binds a b) (u, t, root, is) = subst (λ (y : Transition). Counts s y.site 1) (sym is) (bound u t (u.site == s.records.site))
    by (Takes kinds) is = named (thread_step p n limit th st kinds (fresh_names s kinds) None s) (kept_step p limit th st kinds (fresh_names s kinds) s) (step_of kinds (fresh_names s kinds) None)
        (stepped s (kept_step p limit th st kinds (fresh_names s kinds) s).site (kept_steps limit (step_pick th (fresh_names s kinds) None) kinds (effect_here p s (fresh_names s kinds) None st) s)) (effect_here p s (fresh_names s kinds) None st) is

-- and so are several
units_count : (p : List Stmt) (n limit : ℕ) (ths : List ThreadName) (s : Site) (d : Transition) → AreUnits p n limit ths s d → Counts s d.site (length ths)
units_count p n limit [] s d is =
    let same : d.site ≡ s = ap (λ (x : Transition). x.site) is in
    inr (ap (λ (x : Site). x.steps) same, (let e : runnable_count d.site ≡ runnable_count s = ap runnable_count same in omega (arith, e)))
units_count p n limit (th ∷ ths) s d (one, rest, unit, units, is) =
    let same : d.site ≡ rest.site = ap (λ (x : Transition). x.site) is in
    subst (λ (x : Site). Counts s x (length (th ∷ ths))) (sym same) (both (unit_counts p n limit th s one unit) (units_count p n limit ths one.site rest units))
  where
    both : Counts s one.site 1 → Counts one.site rest.site (length ths) → Counts s rest.site (length (th ∷ ths))
    both (inl a) (inl b) = inl (omega arith)
    both (inl a) (inr b) = let e = b.0 in inl (omega arith)
    both (inr a) (inl b) = let e = a.0 in inl (omega arith)
    both (inr a) (inr b) = inr (b.0 ∙ a.0, (let e = a.1 in let f = b.1 in omega (arith, e, f)))

-- ---- messages

known_steps : (s : Site) (x : VarName) (t : Term) → (with_known_equation s x t).steps ≡ s.steps
known_steps s x t = by (is_own s.records x) (knowledge s.records x)
  where
    by : (b : Bool) (o : Option (Option Term)) → (with_known_equation_as b o s x t).steps ≡ s.steps
    by true o = refl
    by false (Some (Some r)) = refl
    by false (Some None) = refl
    by false None = refl

all_known_steps : (es : List Equation) (s : Site) → (with_known_equations s es).steps ≡ s.steps
all_known_steps [] s = refl
all_known_steps (e ∷ es) s = all_known_steps es (with_known_equation s e.0 e.1) ∙ known_steps s e.0 e.1

exchange_steps : (p : List Stmt) (n : ThreadName) (v : VarName) (s : Site) → (after_exchange p n v s).steps ≡ s.steps
exchange_steps p n v s = by (thread_state s n)
  where
    by : (o : Option ThreadState) → (after_exchange_as p n v s o).steps ≡ s.steps
    by None = refl
    by (Some st) = refl

serving_steps : (p : List Stmt) (c : CellName) (ns : List ThreadName) (v : VarName) (s : Site) → (serving p c ns v s).site.steps ≡ s.steps
serving_steps p c [] v s = refl
serving_steps p c (n ∷ ns) v s = serving_steps p c ns (content_after_exchange p n v s) (after_exchange p n v s) ∙ exchange_steps p n v s

answer_steps : (p : List Stmt) (n : ThreadName) (a : Answer) (s : Site) → (after_answer p n a s).steps ≡ s.steps
answer_steps p n a s = by (thread_state s n) refl
  where
    by : (o : Option ThreadState) → thread_state s n ≡ o → (after_answer p n a s).steps ≡ s.steps
    by None e = rw e refl
    by (Some st) e = rw e refl

serve_steps : (p : List Stmt) (limit : ℕ) (c : CellName) (r : EarlyRequest) (v : VarName) (s : Site) → (serve_request p limit c r v s).site.steps ≡ s.steps
serve_steps p limit c r v s = by (r.asking == s.records.site)
  where
    by : (b : Bool) → (cond b (with_pick (after_answer p r.thread (OldContent v) (with_home_content c r.new s)) (step_pick r.thread [] None))
        (and_then (with_pick (with_home_content c r.new s) (step_pick r.thread [] None)) (λ t. with_messages t (with_own_bundle limit t.equations (sent_message r.asking (msg.CellOld r.thread v [])) ∷ [])))).site.steps ≡ s.steps
    by true = answer_steps p r.thread (OldContent v) (with_home_content c r.new s)
    by false = refl

early_steps : (p : List Stmt) (limit : ℕ) (c : CellName) (v : VarName) (rs : List EarlyRequest) (s : Site) → (serve_early p limit c v rs s).site.steps ≡ s.steps
early_steps p limit c v [] s = refl
early_steps p limit c v (r ∷ rs) s = early_steps p limit c r.new rs (serve_request p limit c r v s).site ∙ serve_steps p limit c r v s

ask_steps : (p : List Stmt) (limit : ℕ) (c : CellName) (r : EarlyRequest) (s : Site) → (cell_ask_row p limit c r s).site.steps ≡ s.steps
ask_steps p limit c r s = by (home_record s c).content refl
  where
    by : (o : Option VarName) → (home_record s c).content ≡ o → (cell_ask_row p limit c r s).site.steps ≡ s.steps
    by None e = rw e refl
    by (Some v) e = rw e (serve_steps p limit c r v s)

message_steps : (p : List Stmt) (limit : ℕ) (m : Msg) (s : Site) → (message_row p limit m s).site.steps ≡ s.steps
message_steps p limit (msg.Spawn n code vars bundle) s = refl
message_steps p limit (msg.Register x k) s = refl
message_steps p limit (msg.BindReq x n t bundle) s = by (knowledge s.records x)
  where
    by : (o : Option (Option Term)) → (bind_request_as o limit x t n s).site.steps ≡ s.steps
    by (Some None) = refl
    by (Some (Some r)) = refl
    by None = refl
message_steps p limit (msg.Binding x t bundle) s = known_steps s x t
message_steps p limit (msg.Get c k) s = refl
message_steps p limit (msg.Forward c k) s = refl
message_steps p limit (msg.Put c v bundle) s = serving_steps p c (cell_record s c).queue v s
message_steps p limit (msg.PortSend q n k) s = refl
message_steps p limit (msg.PortEnd n old new bundle) s = answer_steps p n (NewEnd old new) s
message_steps p limit (msg.CellMake c v bundle) s = early_steps p limit c v (home_record s c).early s
message_steps p limit (msg.CellAsk c n k v bundle) s = ask_steps p limit c (record { thread = n; asking = k; new = v }) s
message_steps p limit (msg.CellOld n v bundle) s = answer_steps p n (OldContent v) s

heard_steps : (p : List Stmt) (n limit : ℕ) (m : Option Msg) (s : Site) (d : Transition) → IsReception p n limit m s d → d.site.steps ≡ s.steps
heard_steps p n limit None s d is = ap (λ (x : Transition). x.site.steps) is
heard_steps p n limit (Some m) s d (inl (fit, is)) = ap (λ (x : Transition). x.site.steps) is ∙ message_steps p limit m (opening m s).site ∙ all_known_steps (message_bundle m) s
heard_steps p n limit (Some m) s d (inr (unfit, is)) = ap (λ (x : Transition). x.site.steps) is

-- ---- turns

-- own steps are never taken back
pub turn_steps : (p : List Stmt) (n limit quantum : ℕ) (s : Site) (m : Option Msg) (d : Transition) → IsFullTurn p n limit quantum s m d → s.steps ≤ d.site.steps
turn_steps p n limit quantum s m d (ths, (heard, rest, reception, units, is), most, idle) =
    let h = heard_steps p n limit m s heard reception in
    let last : d.site.steps ≡ rest.site.steps = ap (λ (x : Transition). x.site.steps) is in
    ⊎_elim
    (λ (a : heard.site.steps < rest.site.steps). omega (arith, h, last))
    (λ (b : (rest.site.steps ≡ heard.site.steps) × (runnable_count rest.site + length ths ≤ runnable_count heard.site)). (let e = b.0 in omega (arith, h, last, e)))
    (units_count p n limit ths heard.site rest units)

-- a turn without a message, of a site that can go on, makes an own step, or fewer threads can go on
pub turn_goes_on : (p : List Stmt) (n limit quantum : ℕ) (s : Site) (d : Transition) → 1 ≤ quantum → is_idle s ≡ false → IsFullTurn p n limit quantum s None d →
    (s.steps < d.site.steps) ⊎ ((d.site.steps ≡ s.steps) × (runnable_count d.site < runnable_count s))
turn_goes_on p n limit quantum s d some busy ([], (heard, rest, reception, units, is), most, idle) =
    let from : heard.site ≡ s = ap (λ (x : Transition). x.site) reception in
    let to : rest.site ≡ heard.site = ap (λ (x : Transition). x.site) units in
    let same : d.site ≡ s = ap (λ (x : Transition). x.site) is ∙ to ∙ from in
    let rests : is_idle d.site ≡ true = idle (omega arith) in
    let no : false ≡ true = sym busy ∙ ap is_idle (sym same) ∙ rests in
    cc
turn_goes_on p n limit quantum s d some busy ((th ∷ ths), (heard, rest, reception, units, is), most, idle) =
    let from : heard.site ≡ s = ap (λ (x : Transition). x.site) reception in
    let same : d.site ≡ rest.site = ap (λ (x : Transition). x.site) is in
    by (subst (λ (x : Site). Counts s x (length (th ∷ ths))) (sym same) (subst (λ (x : Site). Counts x rest.site (length (th ∷ ths))) from (units_count p n limit (th ∷ ths) heard.site rest units)))
  where
    by : Counts s d.site (length (th ∷ ths)) → (s.steps < d.site.steps) ⊎ ((d.site.steps ≡ s.steps) × (runnable_count d.site < runnable_count s))
    by (inl a) = inl a
    by (inr b) = inr (b.0, (let e = b.1 in omega (arith, e)))
