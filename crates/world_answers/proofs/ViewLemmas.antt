-- What a site does with units and messages that are no requests and no answers, it does as well without the threads that wait for an answer.
use Rattle.std.proofs.Common.{◌≡◌, ◌∙◌, sym, ap, refl, subst, ℕ, List, [], ◌∷◌, ◌++◌, ◌⊎◌, inl, inr, Bool, true, false, cond, Some, None}
use Rattle.std.specs.Prelude.{Option, Contains, not, ◌≢◌, ◌==◌, option_to_list}
use Rattle.tree_node.specs.declared.names.VarName.{VarName}
use Rattle.tree_node.specs.declared.names.CellName.{CellName}
use Rattle.tree_node.specs.declared.names.ThreadName.{ThreadName}
use Rattle.tree_node.specs.declared.names.NameKind.{NameKind}
use Rattle.tree_node.specs.declared.node.Term.{Term}
use Rattle.tree_node.specs.declared.pick.Pick.{Pick}
use Rattle.tree_node.specs.Assoc.{value_of, with_value}
use Rattle.tree_node.specs.State.{Stack, equal_thread}
use Rattle.tree_node.specs.Store.{Equation}
use Rattle.tree_node.proofs.ClassLemmas.{Contains-head, Contains-tail}
use Rattle.kernel_syntax.specs.declared.stmt.Stmt.{Stmt}
use Rattle.site_message.specs.declared.message.Msg.{Msg}
use Rattle.site_message.specs.declared.message.Msg.TheVariants as msg
use Rattle.site_message.specs.declared.message.Sent.{Sent}
use Rattle.oz_model.specs.Need.{Need, Takes, stack_need}
use Rattle.oz_model.specs.Need as need
use Rattle.oz_model.specs.Effect.{Effect, Birth, CellChange, Stays, Made, Exchanged, PortChange, Keeps, Opened, Sent as SentTo}
use Rattle.oz_model.specs.Step.{threads_born, living_stack}
use Rattle.bind_protocol.specs.Records.{is_own, knowledge}
use Rattle.bind_protocol.specs.Rows.{after_ask, ask_sends, after_binding, sent_message, request}
use Rattle.token_chain.specs.declared.token.Token.{Token}
use Rattle.token_chain.specs.declared.token.Token.TheVariants.{Away, Asked, Here}
use Rattle.token_chain.specs.Rows.{Reply, exchange_reply}
use Rattle.thread_roster.specs.declared.mode.Awaited.TheVariants.{Cell}
use Rattle.thread_roster.specs.declared.mode.Mode.{Mode}
use Rattle.thread_roster.specs.declared.mode.Mode.TheVariants as mode
use Rattle.site_model.specs.Bundle.{message_bundle, message_vars, with_own_bundle, with_own_bundles}
use Rattle.site_model.specs.Cells.{cell_reply, effect_here, exchange_stack, after_exchange, after_exchange_as, content_after_exchange, content_after_exchange_as, serving, leave_row, last_before, with_last_asker, with_own_request, with_exchange_waiting, request_row}
use Rattle.site_model.specs.Messages.{with_thread, birth, bind_pick, bind_request_as, bind_request_row, message_row, reception}
use Rattle.site_model.specs.Site.{Site, Threads, ThreadState, thread_state, cell_record}
use Rattle.site_model.specs.Transition.{Transition, without_output, with_messages, with_pick, with_lines, sequence, and_then}
use Rattle.site_model.specs.Unit.{IsUnit, IsUnitFor, IsStepOrRequest, IsCellUnit, bind_attempt, birth_row, placement, content_here, after_cell, with_stack, after_effect, step_row, step_pick, with_fresh_names, fresh_names, thread_step, kept_step, with_mode}
use Rattle.site_model.specs.Variables.{meeting, with_new_equation, with_known_equation, with_known_equation_as, with_known_equations, own_bind, own_binds, opening}
use Rattle.world_model.specs.Shown.{is_asking, standing_site}
use Rattle.world_model.proofs.PutLemmas.{nat_decides}
use Rattle.world_model.proofs.KeyLemmas.{with_here, with_there}
use Rattle.world_variables.specs.Plain.{IsKept}
use Rattle.world_variables.proofs.FollowLemmas.{kept_made, kept_exchanged, kept_opened, kept_sent, stays_cell}
use Rattle.world_variables.proofs.OwnLemmas.{binds_run}
use Rattle.world_variables.proofs.SumLemmas.{cell_threads}
use Rattle.tree_node.proofs.NameLemmas.{same_thread_decides}
use Rattle.thread_roster.proofs.NameLemmas.{name_cases as threads_decide}
use Rattle.world_cells.specs.Standing.{IsStanding, IsKeptUnit}
use Rattle.world_answers.proofs.ShownLemmas.{standing_state, standing_found, stands_to, standing_with, standing_goes, standing_born, standing_woken}

-- the transition, without the threads that wait for an answer
abbrev pub standing_deed : Transition → Transition
standing_deed d = record d { site = standing_site d.site }

-- one transition and then another
view_then : (d e : Transition) (f : Site → Transition) → e ≡ standing_deed d → f (standing_site d.site) ≡ standing_deed (f d.site) → and_then e f ≡ standing_deed (and_then d f)
view_then d e f p q = ap (λ (x : Transition). and_then x f) p ∙ ap (λ (x : Transition). sequence (standing_deed d) x) q

-- ---- variables

view_bind : (limit : ℕ) (x : VarName) (t : Term) (s : Site) → own_bind limit x t (standing_site s) ≡ standing_deed (own_bind limit x t s)
view_bind limit x t s =
    ap (λ (ts : Threads). with_messages (record s { equations = (x, t) ∷ s.equations; records = after_ask s.records x t; threads = ts }) (with_own_bundles limit ((x, t) ∷ s.equations) (ask_sends s.records x t)))
    (sym (standing_woken ((x, t) ∷ s.equations) x s.threads))

view_binds : (limit : ℕ) (es : List Equation) (s : Site) → own_binds limit es (standing_site s) ≡ standing_deed (own_binds limit es s)
view_binds limit [] s = refl
view_binds limit (e ∷ es) s = view_then (own_binds limit es s) (own_binds limit es (standing_site s)) (own_bind limit e.0 e.1) (view_binds limit es s) (view_bind limit e.0 e.1 (own_binds limit es s).site)

view_known : (s : Site) (x : VarName) (t : Term) → with_known_equation (standing_site s) x t ≡ standing_site (with_known_equation s x t)
view_known s x t = go (is_own s.records x) (knowledge s.records x)
  where
    new : with_new_equation (standing_site s) x t ≡ standing_site (with_new_equation s x t)
    new = ap (λ (ts : Threads). record s { equations = (x, t) ∷ s.equations; records = after_binding s.records x t; threads = ts }) (sym (standing_woken ((x, t) ∷ s.equations) x s.threads))

    go : (o : Bool) (k : Option (Option Term)) → with_known_equation_as o k (standing_site s) x t ≡ standing_site (with_known_equation_as o k s x t)
    go true k = refl
    go false None = new
    go false (Some None) = new
    go false (Some (Some r)) = refl

view_known_all : (es : List Equation) (s : Site) → with_known_equations (standing_site s) es ≡ standing_site (with_known_equations s es)
view_known_all [] s = refl
view_known_all (e ∷ es) s = ap (λ (u : Site). with_known_equations u es) (view_known s e.0 e.1) ∙ view_known_all es (with_known_equation s e.0 e.1)

pub view_opening : (m : Msg) (s : Site) → opening m (standing_site s) ≡ standing_deed (opening m s)
view_opening m s = ap (λ (u : Site). meeting (message_vars m) u) (view_known_all (message_bundle m) s)

-- ---- threads

view_mode : (n : ThreadName) (st : Stack) (m : Mode) (w : ThreadState) (s : Site) → thread_state s n ≡ Some w → is_asking w.1 ≡ false → is_asking m ≡ false → with_mode n st m (standing_site s) ≡ standing_site (with_mode n st m s)
view_mode n st m w s e f g = ap (λ (ts : Threads). record s { threads = ts }) (sym (standing_with s.threads n (st, m) w e f g))

view_born : (p : List Stmt) (b : Option Birth) (s : Site) → with_thread p b (standing_site s) ≡ standing_site (with_thread p b s)
view_born p b s = ap (λ (ts : Threads). record s { threads = ts }) (sym (standing_born (threads_born p b) s.threads))

view_birth : (p : List Stmt) (n limit : ℕ) (b : Option Birth) (s : Site) → birth_row p n limit b (standing_site s) ≡ standing_deed (birth_row p n limit b s)
view_birth p n limit None s = refl
view_birth p n limit (Some b) s = go (placement n s.records.site b.at == s.records.site)
  where
    spawn : List Sent
    spawn = with_own_bundle limit s.equations (sent_message (placement n s.records.site b.at) (msg.Spawn b.name b.code b.vars [])) ∷ []

    go : (q : Bool) → cond q (without_output (with_thread p (Some b) (standing_site s))) (with_messages (standing_site s) (with_own_bundle limit s.equations (sent_message (placement n s.records.site b.at) (msg.Spawn b.name b.code b.vars [])) ∷ []))
        ≡ standing_deed (cond q (without_output (with_thread p (Some b) s)) (with_messages s (with_own_bundle limit s.equations (sent_message (placement n s.records.site b.at) (msg.Spawn b.name b.code b.vars [])) ∷ [])))
    go true = ap without_output (view_born p (Some b) s)
    go false = refl

-- ---- a step

view_content : (s : Site) (ch : CellChange) → content_here (standing_site s) ch ≡ content_here s ch
view_content s Stays = refl
view_content s (Made c v) = refl
view_content s (Exchanged c new told) = refl

view_cell : (ch : CellChange) (s : Site) → after_cell ch (standing_site s) ≡ standing_site (after_cell ch s)
view_cell Stays s = refl
view_cell (Made c v) s = refl
view_cell (Exchanged c new told) s = refl

pub view_stack : (n : ThreadName) (st : Stack) (w : ThreadState) (s : Site) → thread_state s n ≡ Some w → is_asking w.1 ≡ false → with_stack n st (standing_site s) ≡ standing_site (with_stack n st s)
view_stack n st w s e f = ap (λ (ts : Threads). record s { threads = ts; ended = (with_stack n st s).ended; steps = (with_stack n st s).steps }) (sym (standing_goes s.threads n (living_stack st) w e f))

view_effect : (n : ThreadName) (e : Effect) (w : ThreadState) (s : Site) → thread_state s n ≡ Some w → is_asking w.1 ≡ false → after_effect n e (standing_site s) ≡ standing_site (after_effect n e s)
view_effect n e w s at f =
    ap (λ (v : VarName). with_stack n (exchange_stack v e.cell e.stack) (after_cell e.cell (standing_site s))) (view_content s e.cell)
    ∙ (ap (λ (u : Site). with_stack n (exchange_stack (content_here s e.cell) e.cell e.stack) u) (view_cell e.cell s)
    ∙ view_stack n (exchange_stack (content_here s e.cell) e.cell e.stack) w (after_cell e.cell s) (ap (λ (ts : Threads). value_of equal_thread ts n) (cell_threads e.cell s) ∙ at) f)

pub view_step : (p : List Stmt) (n limit : ℕ) (k : Pick) (kinds : List NameKind) (e : Effect) (st : Stack) (s : Site) → thread_state s k.thread ≡ Some (st, mode.Runs) → step_row p n limit k kinds e (standing_site s) ≡ standing_deed (step_row p n limit k kinds e s)
view_step p n limit k kinds e st s at =
    view_then before_birth _ (birth_row p n limit e.born)
    (view_then begun _ (λ t. with_lines (option_to_list e.line) (after_effect k.thread e t))
    (view_then (with_pick (with_fresh_names kinds s) k) (with_pick (with_fresh_names kinds (standing_site s)) k) (own_binds limit e.adds) refl (view_binds limit e.adds (with_fresh_names kinds s)))
    (ap (with_lines (option_to_list e.line)) (view_effect k.thread e (st, mode.Runs) begun.site (binds_run limit e.adds (with_fresh_names kinds s) k.thread st at) refl)))
    (view_birth p n limit e.born before_birth.site)
  where
    begun : Transition
    begun = and_then (with_pick (with_fresh_names kinds s) k) (own_binds limit e.adds)

    before_birth : Transition
    before_birth = and_then begun (λ t. with_lines (option_to_list e.line) (after_effect k.thread e t))

-- ---- cells

view_own_request : (c : CellName) (t : Token) (s : Site) → with_own_request c t (standing_site s) ≡ standing_site (with_own_request c t s)
view_own_request c Away s = go (c.site == s.records.site)
  where
    go : (b : Bool) → cond b (with_last_asker c s.records.site (standing_site s)) (standing_site s) ≡ standing_site (cond b (with_last_asker c s.records.site s) s)
    go true = refl
    go false = refl
view_own_request c Asked s = refl
view_own_request c (Here v) s = refl

-- a mobile cell is waited for by one who stands
mobile_stands : (c : CellName) → c.at ≡ 0 → is_asking (mode.WaitsFor (Cell c)) ≡ false
mobile_stands c zero = ap not ((nat_decides c.at 0).1 zero)

view_request : (limit : ℕ) (c : CellName) (new : VarName) (n : ThreadName) (st : Stack) (w : ThreadState) (s : Site) → c.at ≡ 0 → thread_state s n ≡ Some w → is_asking w.1 ≡ false →
    request_row limit c new n st (standing_site s) ≡ standing_deed (request_row limit c new n st s)
view_request limit c new n st w s zero at f =
    ap (λ (u : Site). cell_reply limit c queue reply u)
    (ap (with_own_request c (cell_record s c).held.token) (ap (λ (ts : Threads). record s { threads = ts }) (sym (standing_with s.threads n (st, mode.WaitsFor (Cell c)) w at f (mobile_stands c zero))))
    ∙ view_own_request c (cell_record s c).held.token (with_exchange_waiting c n st s))
  where
    queue : List ThreadName
    queue = (cell_record s c).queue ++ n ∷ []

    reply : Reply
    reply = exchange_reply c.site (last_before s c) s.records.site new (cell_record s c).held

-- those that are served stand
abbrev pub StandsAt : Site → ThreadName → Type 0
StandsAt s n = standing_state (thread_state s n) ≡ thread_state s n

view_found : (s : Site) (n : ThreadName) → StandsAt s n → thread_state (standing_site s) n ≡ thread_state s n
view_found s n h = standing_found s.threads n ∙ h

view_exchange : (p : List Stmt) (n : ThreadName) (v : VarName) (s : Site) → StandsAt s n → after_exchange p n v (standing_site s) ≡ standing_site (after_exchange p n v s)
view_exchange p n v s h = ap (after_exchange_as p n v (standing_site s)) (view_found s n h) ∙ go (thread_state s n) refl h
  where
    go : (o : Option ThreadState) → thread_state s n ≡ o → standing_state o ≡ o → after_exchange_as p n v (standing_site s) o ≡ standing_site (after_exchange_as p n v s o)
    go None e f = refl
    go (Some w) e f = one (is_asking w.1) refl f
      where
        one : (b : Bool) → is_asking w.1 ≡ b → cond b None (Some w) ≡ Some w → after_exchange_as p n v (standing_site s) (Some w) ≡ standing_site (after_exchange_as p n v s (Some w))
        one true q g = cc
        one false q g = ap (λ (ts : Threads). record s { threads = ts }) (sym (standing_with s.threads n (exchange_stack v (effect_here p s [] None w.0).cell (effect_here p s [] None w.0).stack, mode.Runs) w e q refl))

pub exchange_left : (p : List Stmt) (n m : ThreadName) (v : VarName) (s : Site) → StandsAt s m → StandsAt (after_exchange p n v s) m
exchange_left p n m v s h = go (thread_state s n) refl
  where
    go : (o : Option ThreadState) → thread_state s n ≡ o → StandsAt (after_exchange_as p n v s o) m
    go None e = h
    go (Some w) e = one (threads_decide n m)
      where
        next : ThreadState
        next = (exchange_stack v (effect_here p s [] None w.0).cell (effect_here p s [] None w.0).stack, mode.Runs)

        one : (n ≡ m) ⊎ (n ≢ m) → StandsAt (after_exchange_as p n v s (Some w)) m
        one (inl same) =
            let found : value_of equal_thread (with_value equal_thread s.threads n next) m ≡ Some next = subst (λ (x : ThreadName). value_of equal_thread (with_value equal_thread s.threads n next) x ≡ Some next) same (with_here equal_thread same_thread_decides s.threads n next w e) in
            ap standing_state found ∙ sym found
        one (inr other) =
            let found : value_of equal_thread (with_value equal_thread s.threads n next) m ≡ thread_state s m = with_there equal_thread same_thread_decides s.threads n m next other in
            ap standing_state found ∙ h ∙ sym found

pub view_serving : (p : List Stmt) (c : CellName) (ns : List ThreadName) (v : VarName) (s : Site) → ((n : ThreadName) → Contains ns n → StandsAt s n) → serving p c ns v (standing_site s) ≡ standing_deed (serving p c ns v s)
view_serving p c [] v s h = refl
view_serving p c (n ∷ ns) v s h =
    ap (λ (u : VarName). and_then (with_pick (after_exchange p n v (standing_site s)) (step_pick n [] None)) (serving p c ns u)) (ap (content_after_exchange_as p v (standing_site s)) (view_found s n own) ∙ same (thread_state s n))
    ∙ view_then (with_pick (after_exchange p n v s) (step_pick n [] None)) _ (serving p c ns (content_after_exchange p n v s)) (ap (λ (u : Site). with_pick u (step_pick n [] None)) (view_exchange p n v s own))
    (view_serving p c ns (content_after_exchange p n v s) (after_exchange p n v s) (λ m k. exchange_left p n m v s (h m (Contains-tail n m ns k))))
  where
    own : StandsAt s n
    own = h n (Contains-head n ns)

    same : (o : Option ThreadState) → content_after_exchange_as p v (standing_site s) o ≡ content_after_exchange_as p v s o
    same None = refl
    same (Some w) = refl

-- ---- messages

view_asked : (limit : ℕ) (x : VarName) (t : Term) (n : ThreadName) (s : Site) → bind_request_row limit x t n (standing_site s) ≡ standing_deed (bind_request_row limit x t n s)
view_asked limit x t n s = go (knowledge s.records x)
  where
    go : (o : Option (Option Term)) → bind_request_as o limit x t n (standing_site s) ≡ standing_deed (bind_request_as o limit x t n s)
    go None = refl
    go (Some None) = view_then (with_pick s (bind_pick n x t)) (with_pick (standing_site s) (bind_pick n x t)) (own_bind limit x t) refl (view_bind limit x t s)
    go (Some (Some r)) = refl

-- those that wait for the token that comes stand
abbrev pub QueueStands : Site → Msg → Type 0
QueueStands s (msg.Put c v bundle) = (n : ThreadName) → Contains (cell_record s c).queue n → StandsAt s n
QueueStands s m = Unit {0}

view_row : (p : List Stmt) (limit : ℕ) (m : Msg) (s : Site) → IsStanding m → QueueStands s m → message_row p limit m (standing_site s) ≡ standing_deed (message_row p limit m s)
view_row p limit (msg.Spawn n code vars bundle) s h q = ap without_output (view_born p (Some (birth n code vars)) s)
view_row p limit (msg.Register x k) s h q = refl
view_row p limit (msg.BindReq x n t bundle) s h q = view_asked limit x t n s
view_row p limit (msg.Binding x t bundle) s h q = ap without_output (view_known s x t)
view_row p limit (msg.Get c k) s h q = refl
view_row p limit (msg.Forward c k) s h q = refl
view_row p limit (msg.Put c v bundle) s h q = view_then (serving p c (cell_record s c).queue v s) (serving p c (cell_record s c).queue v (standing_site s)) (leave_row limit c) (view_serving p c (cell_record s c).queue v s q) refl
view_row p limit (msg.PortSend q n k) s h z = absurd h
view_row p limit (msg.PortEnd n old new bundle) s h z = absurd h
view_row p limit (msg.CellMake c v bundle) s h z = absurd h
view_row p limit (msg.CellAsk c n k v bundle) s h z = absurd h
view_row p limit (msg.CellOld n v bundle) s h z = absurd h

-- a message that is no request and no answer
pub view_reception : (p : List Stmt) (limit : ℕ) (m : Msg) (s : Site) → IsStanding m → QueueStands (opening m s).site m → reception p limit m (standing_site s) ≡ standing_deed (reception p limit m s)
view_reception p limit m s h q = view_then (opening m s) (opening m (standing_site s)) (message_row p limit m) (view_opening m s) (view_row p limit m (opening m s).site h q)

-- ---- units

-- what holds of a unit that changes no port, by what becomes of a cell
pub cell_stays : (limit : ℕ) (th : ThreadName) (st : Stack) (s : Site) (step kept : Transition) (e : Effect) (d : Transition) → e.port ≡ Keeps → IsCellUnit limit th st s step kept e.cell d → IsStepOrRequest limit th st s step kept e d
cell_stays limit th st s step kept e d q u = subst (λ (r : PortChange). IsStepOrRequest limit th st s step kept (record e { port = r }) d) (sym q) u

module _ (p : List Stmt) (n limit : ℕ) (th : ThreadName) (s : Site) where
  view_takes : (st : Stack) (kinds : List NameKind) (d : Transition) → thread_state s th ≡ Some (st, mode.Runs) → (IsKept (effect_here p s (fresh_names s kinds) None st) → ⊥) → IsUnitFor p n limit s th st (Takes kinds) d →
      IsUnitFor p n limit (standing_site s) th st (Takes kinds) (standing_deed d)
  view_takes st kinds d at other u = ported e.port refl u
    where
      e : Effect
      e = effect_here p s (fresh_names s kinds) None st

      step : Site → Transition
      step t = thread_step p n limit th st kinds (fresh_names s kinds) None t

      kept : Site → Transition
      kept t = kept_step p limit th st kinds (fresh_names s kinds) t

      stepped : d ≡ thread_step p n limit th st kinds (fresh_names s kinds) None s → standing_deed d ≡ thread_step p n limit th st kinds (fresh_names s kinds) None (standing_site s)
      stepped is = ap standing_deed is ∙ sym (view_step p n limit (step_pick th (fresh_names s kinds) None) kinds e st s at)

      one : (ch : CellChange) → e.cell ≡ ch → e.port ≡ Keeps → IsCellUnit limit th st s (step s) (kept s) ch d → IsCellUnit limit th st (standing_site s) (step (standing_site s)) (kept (standing_site s)) ch (standing_deed d)
      one Stays q keeps is = stepped is
      one (Made c v) q keeps (inl (mobile, is)) = inl (mobile, stepped is)
      one (Made c v) q keeps (inr (far, is)) = absurd (other (kept_made e c v keeps q far))
      one (Exchanged c new told) q keeps (inl (mobile, inl (here, is))) = inl (mobile, inl (here, stepped is))
      one (Exchanged c new told) q keeps (inl (mobile, inr (elsewhere, is))) = inl (mobile, inr (elsewhere, ap standing_deed is ∙ sym (view_request limit c new th st (st, mode.Runs) s mobile at refl)))
      one (Exchanged c new told) q keeps (inr (far, is)) = absurd (other (kept_exchanged e c new told keeps q far))

      ported : (r : PortChange) → e.port ≡ r → IsUnitFor p n limit s th st (Takes kinds) d → IsUnitFor p n limit (standing_site s) th st (Takes kinds) (standing_deed d)
      ported Keeps q u = cell_stays limit th st (standing_site s) (step (standing_site s)) (kept (standing_site s)) e (standing_deed d) q (one e.cell refl q (stays_cell limit th st s (step s) (kept s) e d q u))
      ported (Opened r end) q u = absurd (other (kept_opened e r end q))
      ported (SentTo r value new) q u = absurd (other (kept_sent e r value new q))

  view_attempt : (st : Stack) (u : VarName) (t : Term) (b : Bool) → thread_state s th ≡ Some (st, mode.Runs) → bind_attempt p n limit th st u t b (standing_site s) ≡ standing_deed (bind_attempt p n limit th st u t b s)
  view_attempt st u t true at = view_step p n limit (step_pick th [] (Some (u, t))) [] (effect_here p s [] (Some (u, t)) st) st s at
  view_attempt st u t false at = ap (λ (v : Site). with_messages v (with_own_bundle limit s.equations (request u t th) ∷ [])) (view_mode th st (mode.Waits u) (st, mode.Runs) s at refl refl)

  -- a unit that is on no port and on no stationary cell
  pub view_unit : (d : Transition) → IsUnit p n limit th s d → (IsKeptUnit p s th → ⊥) → IsUnit p n limit th (standing_site s) (standing_deed d)
  view_unit d (st, at, unit) other = (st, stands_to s.threads th (st, mode.Runs) at refl, go (stack_need p s.equations st) refl unit)
    where
      go : (q : Need) → stack_need p s.equations st ≡ q → IsUnitFor p n limit s th st q d → IsUnitFor p n limit (standing_site s) th st q (standing_deed d)
      go (need.Waits x) e (z, class, is) = (z, class, ap standing_deed is ∙ ap without_output (sym (view_mode th st (mode.Needs z) (st, mode.Runs) s at refl refl)))
      go (need.WaitsAny q) e (xs, open_on, is) = (xs, open_on, ap standing_deed is ∙ ap without_output (sym (view_mode th st (mode.WaitsAny xs) (st, mode.Runs) s at refl refl)))
      go (need.Binds a b) e (u, t, root, is) = (u, t, root, ap standing_deed is ∙ sym (view_attempt st u t (u.site == s.records.site) at))
      go (Takes kinds) e unit = view_takes st kinds d at (λ k. other (st, kinds, at, e, k)) unit

  -- and no other unit is one without those threads
  pub kept_unit : IsKeptUnit p (standing_site s) th → IsKeptUnit p s th
  kept_unit (st, kinds, at, e, k) = (st, kinds, sym (standing_at st at), e, k)
    where
      standing_at : (st : Stack) → thread_state (standing_site s) th ≡ Some (st, mode.Runs) → Some (st, mode.Runs) ≡ thread_state s th
      standing_at st at = go (thread_state s th) refl (sym (standing_found s.threads th) ∙ at)
        where
          go : (o : Option ThreadState) → thread_state s th ≡ o → standing_state o ≡ Some (st, mode.Runs) → Some (st, mode.Runs) ≡ thread_state s th
          go None f g = cc
          go (Some w) f g = one (is_asking w.1) g
            where
              one : (b : Bool) → cond b None (Some w) ≡ Some (st, mode.Runs) → Some (st, mode.Runs) ≡ thread_state s th
              one true h = cc
              one false h = sym h ∙ sym f
