-- A turn changes no site's number.
use Rattle.std.proofs.Common.{◌≡◌, ◌∙◌, ap, refl, ℕ, List, [], ◌∷◌, inl, inr, Bool, true, false, cond, Some, None}
use Rattle.std.specs.Prelude.{Option, ◌==◌}
use Rattle.tree_node.specs.declared.names.VarName.{VarName}
use Rattle.tree_node.specs.declared.names.CellName.{CellName}
use Rattle.tree_node.specs.declared.names.PortName.{PortName}
use Rattle.tree_node.specs.declared.names.ThreadName.{ThreadName}
use Rattle.tree_node.specs.declared.names.NameKind.{NameKind}
use Rattle.tree_node.specs.declared.node.Term.{Term}
use Rattle.tree_node.specs.declared.pick.Pick.{Pick}
use Rattle.tree_node.specs.Store.{Equation}
use Rattle.kernel_syntax.specs.declared.stmt.Stmt.{Stmt}
use Rattle.site_message.specs.declared.message.Msg.{Msg}
use Rattle.site_message.specs.declared.message.Msg.TheVariants as msg
use Rattle.site_message.specs.declared.message.Sent.{Sent}
use Rattle.oz_model.specs.Need.{Need, Waits, WaitsAny, Binds, Takes, stack_need}
use Rattle.oz_model.specs.Effect.{Birth, CellChange, Stays, Made, Exchanged, PortChange, Keeps, Opened, Sent as SentTo, Effect, vars_among}
use Rattle.bind_protocol.specs.Records.{is_own, knowledge}
use Rattle.bind_protocol.specs.Rows.{sent_message}
use Rattle.token_chain.specs.declared.token.Token.{Token}
use Rattle.token_chain.specs.declared.token.Token.TheVariants.{Away, Asked, Here}
use Rattle.site_model.specs.Site.{Site, ThreadState, EarlyRequest, thread_state, cell_record, home_record}
use Rattle.site_model.specs.Bundle.{with_own_bundle, message_vars, message_bundle}
use Rattle.site_model.specs.Transition.{Transition, without_output, with_messages}
use Rattle.site_model.specs.Variables.{with_known_equation_as, with_known_equation, with_known_equations, own_binds, opening}
use Rattle.site_model.specs.Requests.{Answer, NewEnd, OldContent, next_var, after_answer, with_home_content, serve_request, serve_early, cell_ask_row}
use Rattle.site_model.specs.Cells.{serving, after_exchange, after_exchange_as, content_after_exchange, with_exchange_waiting, with_own_request, with_last_asker}
use Rattle.site_model.specs.Messages.{with_thread, message_row, bind_request_as, reception}
use Rattle.site_model.specs.Unit.{next_names, with_fresh_names, placement, birth_row, after_cell, after_effect, step_row, after_home_cell, after_port, kept_stack, with_stack, telling_row, kept_step_row, step_pick, effect_here, thread_step, kept_step, fresh_names, bind_attempt, IsCellUnit, IsSendUnit, IsStepOrRequest, IsUnitFor, IsUnit}
use Rattle.site_model.specs.Turn.{IsReception, AreUnits, IsFullTurn, IsTurnOf}
use Rattle.site_model.proofs.FrameLemmas.{meets_site, makes_site}

abbrev number_of : Site → ℕ
number_of s = s.records.site

abbrev number_after : Transition → ℕ
number_after d = d.site.records.site

-- ---- variables

told_number : (s : Site) (x : VarName) (t : Term) → number_of (with_known_equation s x t) ≡ number_of s
told_number s x t = go (is_own s.records x) (knowledge s.records x)
  where
    go : (b : Bool) (k : Option (Option Term)) → number_of (with_known_equation_as b k s x t) ≡ number_of s
    go true k = refl
    go false None = refl
    go false (Some None) = refl
    go false (Some (Some r)) = refl

told_all_number : (es : List Equation) (s : Site) → number_of (with_known_equations s es) ≡ number_of s
told_all_number [] s = refl
told_all_number (e ∷ es) s = told_all_number es (with_known_equation s e.0 e.1) ∙ told_number s e.0 e.1

binds_number : (limit : ℕ) (es : List Equation) (s : Site) → number_after (own_binds limit es s) ≡ number_of s
binds_number limit [] s = refl
binds_number limit (e ∷ es) s = binds_number limit es s

-- ---- cells

serving_number : (p : List Stmt) (c : CellName) (ns : List ThreadName) (v : VarName) (s : Site) → number_after (serving p c ns v s) ≡ number_of s
serving_number p c [] v s = refl
serving_number p c (n ∷ ns) v s = serving_number p c ns (content_after_exchange p n v s) (after_exchange p n v s) ∙ go (thread_state s n)
  where
    go : (o : Option ThreadState) → number_of (after_exchange_as p n v s o) ≡ number_of s
    go None = refl
    go (Some st) = refl

cell_number : (c : CellChange) (s : Site) → number_of (after_cell c s) ≡ number_of s
cell_number Stays s = refl
cell_number (Made c v) s = refl
cell_number (Exchanged c new told) s = refl

own_request_number : (c : CellName) (t : Token) (s : Site) → number_of (with_own_request c t s) ≡ number_of s
own_request_number c Away s = go (c.site == s.records.site)
  where
    go : (b : Bool) → number_of (cond b (with_last_asker c s.records.site s) s) ≡ number_of s
    go true = refl
    go false = refl
own_request_number c Asked s = refl
own_request_number c (Here v) s = refl

home_cell_number : (c : CellChange) (s : Site) → number_of (after_home_cell c s) ≡ number_of s
home_cell_number Stays s = refl
home_cell_number (Made c v) s = go (c.at == s.records.site) refl
  where
    go : (b : Bool) → (c.at == s.records.site) ≡ b → number_of (after_home_cell (Made c v) s) ≡ number_of s
    go true q = rw q refl
    go false q = rw q refl
home_cell_number (Exchanged c new told) s = refl

-- ---- ports

port_number : (c : PortChange) (s : Site) → number_of (after_port c s) ≡ number_of s
port_number Keeps s = refl
port_number (Opened q end) s = refl
port_number (SentTo q value new) s = refl

-- ---- requests and answers

answer_number : (p : List Stmt) (n : ThreadName) (a : Answer) (s : Site) → number_of (after_answer p n a s) ≡ number_of s
answer_number p n a s = go (thread_state s n) refl
  where
    go : (o : Option ThreadState) → thread_state s n ≡ o → number_of (after_answer p n a s) ≡ number_of s
    go None q = rw q refl
    go (Some w) q = rw q refl

served_number : (p : List Stmt) (limit : ℕ) (c : CellName) (r : EarlyRequest) (v : VarName) (s : Site) → number_after (serve_request p limit c r v s) ≡ number_of s
served_number p limit c r v s = go (r.asking == s.records.site) refl
  where
    go : (b : Bool) → (r.asking == s.records.site) ≡ b → number_after (serve_request p limit c r v s) ≡ number_of s
    go true q = rw q (answer_number p r.thread (OldContent v) (with_home_content c r.new s))
    go false q = rw q refl

ask_number : (p : List Stmt) (limit : ℕ) (c : CellName) (r : EarlyRequest) (s : Site) → number_after (cell_ask_row p limit c r s) ≡ number_of s
ask_number p limit c r s = go (home_record s c).content refl
  where
    go : (o : Option VarName) → (home_record s c).content ≡ o → number_after (cell_ask_row p limit c r s) ≡ number_of s
    go None q = rw q refl
    go (Some v) q = rw q (served_number p limit c r v s)

early_number : (p : List Stmt) (limit : ℕ) (c : CellName) (rs : List EarlyRequest) (v : VarName) (s : Site) → number_after (serve_early p limit c v rs s) ≡ number_of s
early_number p limit c [] v s = refl
early_number p limit c (r ∷ rs) v s = early_number p limit c rs r.new (serve_request p limit c r v s).site ∙ served_number p limit c r v s

-- ---- messages

message_number : (p : List Stmt) (limit : ℕ) (m : Msg) (s : Site) → number_after (message_row p limit m s) ≡ number_of s
message_number p limit (msg.Spawn n code vars es) s = refl
message_number p limit (msg.Register x k) s = refl
message_number p limit (msg.BindReq x n t es) s = go (knowledge s.records x)
  where
    go : (k : Option (Option Term)) → number_after (bind_request_as k limit x t n s) ≡ number_of s
    go None = refl
    go (Some None) = refl
    go (Some (Some r)) = refl
message_number p limit (msg.Binding x t es) s = told_number s x t
message_number p limit (msg.Get c k) s = refl
message_number p limit (msg.Forward c k) s = refl
message_number p limit (msg.Put c v es) s = serving_number p c (cell_record s c).queue v s
message_number p limit (msg.PortSend q n k) s = makes_site s.records (next_var s ∷ [])
message_number p limit (msg.PortEnd n old new es) s = answer_number p n (NewEnd old new) s
message_number p limit (msg.CellMake c v es) s = early_number p limit c (home_record s c).early v s
message_number p limit (msg.CellAsk c n k v es) s = ask_number p limit c (record { thread = n; asking = k; new = v }) s
message_number p limit (msg.CellOld n v es) s = answer_number p n (OldContent v) s

reception_number : (p : List Stmt) (limit : ℕ) (m : Msg) (s : Site) → number_after (reception p limit m s) ≡ number_of s
reception_number p limit m s =
    message_number p limit m (opening m s).site ∙ (meets_site (with_known_equations s (message_bundle m)).records (message_vars m) ∙ told_all_number (message_bundle m) s)

heard_number : (p : List Stmt) (n limit : ℕ) (o : Option Msg) (s : Site) (d : Transition) → IsReception p n limit o s d → number_after d ≡ number_of s
heard_number p n limit None s d e = ap number_after e
heard_number p n limit (Some m) s d (inl h) = ap number_after h.1 ∙ reception_number p limit m s
heard_number p n limit (Some m) s d (inr h) = ap number_after h.1

-- ---- units

birth_number : (p : List Stmt) (n limit : ℕ) (o : Option Birth) (s : Site) → number_after (birth_row p n limit o s) ≡ number_of s
birth_number p n limit None s = refl
birth_number p n limit (Some b) s = go (placement n s.records.site b.at == s.records.site)
  where
    born : Sent
    born = with_own_bundle limit s.equations (sent_message (placement n s.records.site b.at) (msg.Spawn b.name b.code b.vars []))

    go : (here : Bool) → number_after (cond here (without_output (with_thread p (Some b) s)) (with_messages s (born ∷ []))) ≡ number_of s
    go true = refl
    go false = refl

step_number : (p : List Stmt) (n limit : ℕ) (k : Pick) (kinds : List NameKind) (e : Effect) (s : Site) → number_after (step_row p n limit k kinds e s) ≡ number_of s
step_number p n limit k kinds e s =
    birth_number p n limit e.born (after_effect k.thread e bound) ∙ (cell_number e.cell bound ∙ (binds_number limit e.adds (with_fresh_names kinds s) ∙ makes_site s.records (vars_among (next_names s.records.site s.counters kinds))))
  where
    bound : Site
    bound = (own_binds limit e.adds (with_fresh_names kinds s)).site

telling_number : (limit : ℕ) (c : CellChange) (s : Site) → number_after (telling_row limit c s) ≡ number_of s
telling_number limit Stays s = refl
telling_number limit (Made c v) s = go (c.at == s.records.site) refl
  where
    go : (b : Bool) → (c.at == s.records.site) ≡ b → number_after (telling_row limit (Made c v) s) ≡ number_of s
    go true q = rw q refl
    go false q = rw q refl
telling_number limit (Exchanged c new told) s = refl

kept_number : (limit : ℕ) (k : Pick) (kinds : List NameKind) (e : Effect) (s : Site) → number_after (kept_step_row limit k kinds e s) ≡ number_of s
kept_number limit k kinds e s =
    telling_number limit e.cell (with_stack k.thread (kept_stack s e) (after_port e.port (after_home_cell e.cell named)))
    ∙ (port_number e.port (after_home_cell e.cell named) ∙ (home_cell_number e.cell named ∙ makes_site s.records (vars_among (next_names s.records.site s.counters kinds))))
  where
    named : Site
    named = with_fresh_names kinds s

unit_number : (p : List Stmt) (n limit : ℕ) (th : ThreadName) (s : Site) (d : Transition) → IsUnit p n limit th s d → number_after d ≡ number_of s
unit_number p n limit th s d (st, running, unit) = go (stack_need p s.equations st) unit
  where
    step : List NameKind → Transition
    step kinds = thread_step p n limit th st kinds (fresh_names s kinds) None s

    kept : List NameKind → Transition
    kept kinds = kept_step p limit th st kinds (fresh_names s kinds) s

    stepped : (kinds : List NameKind) → number_after (step kinds) ≡ number_of s
    stepped kinds = step_number p n limit (step_pick th (fresh_names s kinds) None) kinds (effect_here p s (fresh_names s kinds) None st) s

    was_kept : (kinds : List NameKind) → number_after (kept kinds) ≡ number_of s
    was_kept kinds = kept_number limit (step_pick th (fresh_names s kinds) None) kinds (effect_here p s (fresh_names s kinds) None st) s

    celled : (kinds : List NameKind) (c : CellChange) → IsCellUnit limit th st s (step kinds) (kept kinds) c d → number_after d ≡ number_of s
    celled kinds Stays h = ap number_after h ∙ stepped kinds
    celled kinds (Made c v) (inl h) = ap number_after h.1 ∙ stepped kinds
    celled kinds (Made c v) (inr h) = ap number_after h.1 ∙ was_kept kinds
    celled kinds (Exchanged c new told) (inl (is, inl h)) = ap number_after h.1 ∙ stepped kinds
    celled kinds (Exchanged c new told) (inl (is, inr h)) = ap number_after h.1 ∙ own_request_number c (cell_record s c).held.token (with_exchange_waiting c th st s)
    celled kinds (Exchanged c new told) (inr (is, inl h)) = ap number_after h.1 ∙ was_kept kinds
    celled kinds (Exchanged c new told) (inr (is, inr (inl h))) = ap number_after h.1
    celled kinds (Exchanged c new told) (inr (is, inr (inr h))) = ap number_after h.2

    sends : (kinds : List NameKind) (q : PortName) → IsSendUnit limit th st s (kept kinds) q d → number_after d ≡ number_of s
    sends kinds q (inl h) = ap number_after h.3 ∙ was_kept kinds
    sends kinds q (inr (inl h)) = ap number_after h.1
    sends kinds q (inr (inr h)) = ap number_after h.2

    taken : (kinds : List NameKind) (e : Effect) (c : PortChange) → IsStepOrRequest limit th st s (step kinds) (kept kinds) (record e { port = c }) d → number_after d ≡ number_of s
    taken kinds e Keeps h = celled kinds e.cell h
    taken kinds e (Opened q end) h = ap number_after h ∙ was_kept kinds
    taken kinds e (SentTo q value new) h = sends kinds q h

    attempted : (u : VarName) (t : Term) (own : Bool) → number_after (bind_attempt p n limit th st u t own s) ≡ number_of s
    attempted u t true = step_number p n limit (step_pick th [] (Some (u, t))) [] (effect_here p s [] (Some (u, t)) st) s
    attempted u t false = refl

    go : (need : Need) → IsUnitFor p n limit s th st need d → number_after d ≡ number_of s
    go (Waits x) h = ap number_after h.2
    go (WaitsAny q) h = ap number_after h.2
    go (Binds a b) h = ap number_after h.3 ∙ attempted h.0 h.1 (h.0.site == s.records.site)
    go (Takes kinds) h = taken kinds (effect_here p s (fresh_names s kinds) None st) (effect_here p s (fresh_names s kinds) None st).port h

units_number : (p : List Stmt) (n limit : ℕ) (ths : List ThreadName) (s : Site) (d : Transition) → AreUnits p n limit ths s d → number_after d ≡ number_of s
units_number p n limit [] s d e = ap number_after e
units_number p n limit (th ∷ ths) s d (one, rest, unit, units, e) =
    ap number_after e ∙ (units_number p n limit ths one.site rest units ∙ unit_number p n limit th s one unit)

-- ---- a turn

pub turn_number : (p : List Stmt) (n limit quantum : ℕ) (s : Site) (m : Option Msg) (d : Transition) → IsFullTurn p n limit quantum s m d → d.site.records.site ≡ s.records.site
turn_number p n limit quantum s m d (ths, (heard, rest, reception, units, e), most, idle) =
    ap number_after e ∙ (units_number p n limit ths heard.site rest units ∙ heard_number p n limit m s heard reception)

pub turn_of_number : (p : List Stmt) (n limit : ℕ) (ths : List ThreadName) (s : Site) (m : Option Msg) (d : Transition) → IsTurnOf p n limit ths s m d → d.site.records.site ≡ s.records.site
turn_of_number p n limit ths s m d (heard, rest, reception, units, e) =
    ap number_after e ∙ (units_number p n limit ths heard.site rest units ∙ heard_number p n limit m s heard reception)
