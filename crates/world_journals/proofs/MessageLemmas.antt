-- Which messages of a cell a turn sends: units send a site's own requests, and a Get that comes gives at most one Forward.
use Rattle.tree_node.specs.declared.names.NameKind.{NameKind}
use Rattle.tree_node.specs.declared.pick.Pick.{Pick}
use Rattle.std.proofs.Common.{arith, ◌≡◌, ◌≢◌, ◌∙◌, sym, ap, refl, subst, ℕ, ◌+◌, ◌≤◌, List, [], ◌∷◌, ◌⊎◌, inl, inr, Bool, true, false, cond, Some, None}
use Rattle.std.specs.Prelude.{Option, ◌==◌, ◌&&◌, count_by}
use Rattle.std.proofs.lemmas.Bool.{and_parts}
use Rattle.tree_node.specs.Goal.{equal_cell}
use Rattle.tree_node.specs.declared.names.VarName.{VarName}
use Rattle.tree_node.specs.declared.names.CellName.{CellName}
use Rattle.tree_node.specs.declared.names.ThreadName.{ThreadName}
use Rattle.tree_node.specs.declared.node.Term.{Term}
use Rattle.tree_node.specs.Each.{Each}
use Rattle.tree_node.specs.State.{Stack}
use Rattle.tree_node.specs.Store.{Store}
use Rattle.tree_node.proofs.EachLemmas.{each_append}
use Rattle.tree_node.proofs.EnvLemmas.{each_more}
use Rattle.kernel_syntax.specs.declared.stmt.Stmt.{Stmt}
use Rattle.site_message.specs.declared.message.Msg.{Msg}
use Rattle.site_message.specs.declared.message.Msg.TheVariants as msg
use Rattle.site_message.specs.declared.message.Sent.{Sent}
use Rattle.oz_model.specs.Need.{Need, Waits, WaitsAny, Binds, Takes, stack_need}
use Rattle.oz_model.specs.Effect.{Effect, CellChange, Stays, Made, Exchanged, PortChange, Keeps, Opened, Sent as SentTo}
use Rattle.world_model.specs.Claims.{Asking, EndOf, ContentOf, awaited, server, request}
use Rattle.world_answers.proofs.OwnLemmas.{tells}
use Rattle.oz_model.proofs.KindLemmas.{cells_differ, cell_cases}
use Rattle.bind_protocol.proofs.ListLemmas.{one, count_append, count_cons}
use Rattle.token_chain.specs.declared.token.Token.{Token}
use Rattle.token_chain.specs.declared.token.Token.TheVariants.{Away, Asked, Here}
use Rattle.token_chain.specs.Holding.{Holding, departure_of}
use Rattle.token_chain.specs.Mail.{Get, Forward}
use Rattle.token_chain.specs.Rows.{leave_with, forward_reply, get_reply, exchange_reply}
use Rattle.site_model.specs.Site.{Site, EarlyRequest, cell_record, home_record}
use Rattle.site_model.specs.Transition.{Transition, with_pick, with_messages, and_then}
use Rattle.site_model.specs.Variables.{opening}
use Rattle.site_model.specs.Cells.{last_before, get_row, serving, request_row, after_exchange, content_after_exchange}
use Rattle.site_model.specs.Messages.{message_row, reception}
use Rattle.site_model.specs.Unit.{thread_step, fresh_names, effect_here, step_pick, bind_attempt, IsUnitFor, IsStepOrRequest, IsCellUnit, kept_step, kept_step_row, kept_stack, after_port, after_home_cell, with_stack, with_fresh_names}
use Rattle.site_model.specs.Requests.{OldContent, asking_row, after_answer, with_home_content, serve_request, serve_early, cell_ask_row}
use Rattle.site_model.specs.Bundle.{with_own_bundle}
use Rattle.bind_protocol.specs.Rows.{sent_message}
use Rattle.site_model.specs.Turn.{IsReception, AreUnits, SiteTurn}
use Rattle.world_model.proofs.CellLemmas.{letters, leave_each, get_each}
use Rattle.world_model.proofs.PutLemmas.{nat_decides}
use Rattle.world_cells.specs.CellCounts.{cell_weight, cell_weights}
use Rattle.world_cells.proofs.CellTallyLemmas.{weighs_append}
use Rattle.world_cells.proofs.FrameLemmas.{AreOfNone, weightless, opens_nothing, registers_nothing, asked_for_nothing}
use Rattle.world_cells.proofs.TallyLemmas.{IsOfNone}
use Rattle.world_cells.proofs.UnitCellLemmas.{step_silent}
use Rattle.world_messages.proofs.DeedLemmas.{unit_tally}
use Rattle.world_messages.proofs.PickLemmas.{heard_site}
use Rattle.world_journals.specs.Requests.{asks_for, names_next, gets_for, forwards_for, asked_by}
use Rattle.world_journals.proofs.CopyLemmas.{lost_any}

-- ---- units

-- a Get is for site i, and a Forward tells of site i, which made the cell
abbrev pub IsOwnRequest : ℕ → Msg → Type 0
IsOwnRequest i (msg.Get c k) = k ≡ i
IsOwnRequest i (msg.Forward c k) = (k ≡ i) × (c.site ≡ i)
IsOwnRequest i m = Unit {0}

abbrev pub AreOwnRequests : ℕ → List Sent → Type 0
AreOwnRequests i ms = Each (λ (m : Sent). IsOwnRequest i m.msg) ms

none_asks : (i : ℕ) (m : Msg) → IsOfNone m → IsOwnRequest i m
none_asks i (msg.Get c k) h = absurd h
none_asks i (msg.Forward c k) h = absurd h
none_asks i (msg.Put c v bundle) h = tt
none_asks i (msg.Spawn n code vars bundle) h = tt
none_asks i (msg.Register x k) h = tt
none_asks i (msg.BindReq x n t bundle) h = tt
none_asks i (msg.Binding x t bundle) h = tt
none_asks i (msg.PortSend q o k) h = tt
none_asks i (msg.PortEnd o was now bundle) h = tt
none_asks i (msg.CellMake d v bundle) h = tt
none_asks i (msg.CellAsk d o k v bundle) h = tt
none_asks i (msg.CellOld o v bundle) h = tt

none_ask : (i : ℕ) (ms : List Sent) → AreOfNone ms → AreOwnRequests i ms
none_ask i [] h = tt
none_ask i (m ∷ ms) h = (none_asks i m.msg h.0, none_ask i ms h.1)

asking : (limit : ℕ) (c : CellName) (s : Store) (last i : ℕ) (new : VarName) (h : Holding) → AreOwnRequests i (letters limit c s (exchange_reply c.site last i new h).sent)
asking limit c s last i new h = go h.token refl
  where
    first : (b : Bool) → (i == c.site) ≡ b → AreOwnRequests i (letters limit c s (cond b (get_reply c.site last i (record { token = Asked; next = h.next; waiting = h.waiting + 1 })) (record { held = record { token = Asked; next = h.next; waiting = h.waiting + 1 }; sent = Get i ∷ [] })).sent)
    first true q = get_each (λ (m : Sent). IsOwnRequest i m.msg) limit c s c.site last i (record { token = Asked; next = h.next; waiting = h.waiting + 1 }) (λ j u f. tt) (refl, sym ((nat_decides i c.site).0 q))
    first false q = (refl, tt)

    go : (t : Token) → h.token ≡ t → AreOwnRequests i (letters limit c s (exchange_reply c.site last i new h).sent)
    go Away e = rw e (first (i == c.site) refl)
    go Asked e = rw e tt
    go (Here u) e = rw e tt

module _ (p : List Stmt) (n limit i : ℕ) where
  abbrev Own : Transition → Type 0
  Own d = AreOwnRequests i d.sent

  asks_own : (c : CellName) (new : VarName) (th : ThreadName) (st : Stack) (s : Site) → s.records.site ≡ i → Own (request_row limit c new th st s)
  asks_own c new th st s own =
      subst (λ (k : ℕ). AreOwnRequests k (request_row limit c new th st s).sent) own
      (asking limit c (request_row limit c new th st s).site.equations (last_before s c) s.records.site new (cell_record s c).held)

  bind_own : (th : ThreadName) (st : Stack) (u : VarName) (t : Term) (b : Bool) (s : Site) → Own (bind_attempt p n limit th st u t b s)
  bind_own th st u t true s = none_ask i _ (step_silent p n limit (step_pick th [] (Some (u, t))) [] (effect_here p s [] (Some (u, t)) st) s)
  bind_own th st u t false s = (tt, tt)

  -- a step on a port or on a stationary cell tells at most a home
  kept_own : (k : Pick) (kinds : List NameKind) (e : Effect) (s : Site) → Own (kept_step_row limit k kinds e s)
  kept_own k kinds e s = none_ask i _ (tells limit e.cell (with_stack k.thread (kept_stack s e) (after_port e.port (after_home_cell e.cell (with_fresh_names kinds s))))).silent

  -- a request to another site is none of a token
  away_own : (th : ThreadName) (st : Stack) (a : Asking) (s : Site) → Own (asking_row limit th st (awaited a) (server a) (request a th s.records.site []) s)
  away_own th st (EndOf q) s = (tt, tt)
  away_own th st (ContentOf c new) s = (tt, tt)

  either_own : (th : ThreadName) (st : Stack) (s : Site) (step kept : Transition) (e : Effect) (d : Transition) → s.records.site ≡ i → Own step → Own kept → IsStepOrRequest limit th st s step kept e d → Own d
  either_own th st s step kept e d own k l h = by_port e.port h
    where
      by_cell : (c : CellChange) → IsCellUnit limit th st s step kept c d → Own d
      by_cell Stays h = subst Own (sym h) k
      by_cell (Made c v) (inl h) = subst Own (sym h.1) k
      by_cell (Made c v) (inr h) = subst Own (sym h.1) l
      by_cell (Exchanged c new told) (inl (mobile, inl h)) = subst Own (sym h.1) k
      by_cell (Exchanged c new told) (inl (mobile, inr h)) = subst Own (sym h.1) (asks_own c new th st s own)
      by_cell (Exchanged c new told) (inr (far, inl h)) = subst Own (sym h.1) l
      by_cell (Exchanged c new told) (inr (far, inr (inl h))) = subst Own (sym h.1) (away_own th st (ContentOf c new) s)
      by_cell (Exchanged c new told) (inr (far, inr (inr h))) = subst Own (sym h.2) tt

      by_port : (r : PortChange) → IsStepOrRequest limit th st s step kept (record e { port = r }) d → Own d
      by_port Keeps h = by_cell e.cell h
      by_port (Opened q end) h = subst Own (sym h) l
      by_port (SentTo q value new) (inl h) = subst Own (sym h.3) l
      by_port (SentTo q value new) (inr (inl h)) = subst Own (sym h.1) (away_own th st (EndOf q) s)
      by_port (SentTo q value new) (inr (inr h)) = subst Own (sym h.2) tt

  need_own : (s : Site) (th : ThreadName) (st : Stack) (need : Need) (d : Transition) → s.records.site ≡ i → IsUnitFor p n limit s th st need d → Own d
  need_own s th st (Waits x) d own h = subst Own (sym h.2) tt
  need_own s th st (WaitsAny q) d own h = subst Own (sym h.2) tt
  need_own s th st (Binds a b) d own h = subst Own (sym h.3) (bind_own th st h.0 h.1 (h.0.site == s.records.site) s)
  need_own s th st (Takes kinds) d own h =
      either_own th st s (thread_step p n limit th st kinds (fresh_names s kinds) None s) (kept_step p limit th st kinds (fresh_names s kinds) s) (effect_here p s (fresh_names s kinds) None st) d own
      (none_ask i _ (step_silent p n limit (step_pick th (fresh_names s kinds) None) kinds (effect_here p s (fresh_names s kinds) None st) s))
      (kept_own (step_pick th (fresh_names s kinds) None) kinds (effect_here p s (fresh_names s kinds) None st) s) h

  pub units_own : (ths : List ThreadName) (s : Site) (d : Transition) → s.records.site ≡ i → AreUnits p n limit ths s d → Own d
  units_own [] s d own h = subst Own (sym h) tt
  units_own (th ∷ ths) s d own (one, rest, unit, units, is) =
      subst Own (sym is) (each_append (λ (m : Sent). IsOwnRequest i m.msg) one.sent rest.sent (need_own s th unit.0 (stack_need p s.equations unit.0) one own unit.2) (units_own ths one.site rest ((unit_tally p n limit th s one unit).counts.site ∙ own) units))

-- ---- a message comes

-- no Get is sent, and a Forward only where a Get of that cell for that site came
abbrev pub IsAnswer : Msg → Msg → Type 0
IsAnswer m (msg.Get c k) = ⊥
IsAnswer m (msg.Forward c k) = m ≡ msg.Get c k
IsAnswer m x = Unit {0}

abbrev pub AreAnswers : Msg → List Sent → Type 0
AreAnswers m ms = Each (λ (x : Sent). IsAnswer m x.msg) ms

none_answers : (m x : Msg) → IsOfNone x → IsAnswer m x
none_answers m (msg.Get c k) h = h
none_answers m (msg.Forward c k) h = absurd h
none_answers m (msg.Put c v bundle) h = tt
none_answers m (msg.Spawn n code vars bundle) h = tt
none_answers m (msg.Register x k) h = tt
none_answers m (msg.BindReq x n t bundle) h = tt
none_answers m (msg.Binding x t bundle) h = tt
none_answers m (msg.PortSend q o k) h = tt
none_answers m (msg.PortEnd o was now bundle) h = tt
none_answers m (msg.CellMake d v bundle) h = tt
none_answers m (msg.CellAsk d o k v bundle) h = tt
none_answers m (msg.CellOld o v bundle) h = tt

none_answer : (m : Msg) (ms : List Sent) → AreOfNone ms → AreAnswers m ms
none_answer m [] h = tt
none_answer m (x ∷ ms) h = (none_answers m x.msg h.0, none_answer m ms h.1)

module _ (p : List Stmt) (n limit : ℕ) where
  serves_answer : (m : Msg) (c : CellName) (ns : List ThreadName) (v : VarName) (s : Site) → AreAnswers m (serving p c ns v s).sent
  serves_answer m c [] v s = tt
  serves_answer m c (o ∷ ns) v s = serves_answer m c ns (content_after_exchange p o v s) (after_exchange p o v s)

  serve_answer : (m : Msg) (c : CellName) (r : EarlyRequest) (v : VarName) (s : Site) → AreAnswers m (serve_request p limit c r v s).sent
  serve_answer m c r v s = go (r.asking == s.records.site)
    where
      go : (b : Bool) → AreAnswers m (cond b (with_pick (after_answer p r.thread (OldContent v) (with_home_content c r.new s)) (step_pick r.thread [] None))
          (and_then (with_pick (with_home_content c r.new s) (step_pick r.thread [] None)) (λ t. with_messages t (with_own_bundle limit t.equations (sent_message r.asking (msg.CellOld r.thread v [])) ∷ [])))).sent
      go true = tt
      go false = (tt, tt)

  early_answer : (m : Msg) (c : CellName) (v : VarName) (rs : List EarlyRequest) (s : Site) → AreAnswers m (serve_early p limit c v rs s).sent
  early_answer m c v [] s = tt
  early_answer m c v (r ∷ rs) s = each_append (λ (x : Sent). IsAnswer m x.msg) (serve_request p limit c r v s).sent _ (serve_answer m c r v s) (early_answer m c r.new rs (serve_request p limit c r v s).site)

  ask_answer : (m : Msg) (c : CellName) (r : EarlyRequest) (s : Site) → AreAnswers m (cell_ask_row p limit c r s).sent
  ask_answer m c r s = go (home_record s c).content refl
    where
      go : (o : Option VarName) → (home_record s c).content ≡ o → AreAnswers m (cell_ask_row p limit c r s).sent
      go (Some v) e = rw e (serve_answer m c r v s)
      go None e = rw e tt

  takes_answer : (m : Msg) (s : Site) → AreAnswers m (message_row p limit m s).sent
  takes_answer (msg.Spawn a b c d) s = tt
  takes_answer (msg.Register x k) s = none_answer (msg.Register x k) _ (registers_nothing limit x k s).silent
  takes_answer (msg.BindReq x th t bundle) s = none_answer (msg.BindReq x th t bundle) _ (asked_for_nothing limit x t th s).silent
  takes_answer (msg.Binding x t bundle) s = tt
  takes_answer (msg.PortSend q o k) s = (tt, tt)
  takes_answer (msg.PortEnd o was now bundle) s = tt
  takes_answer (msg.CellMake c v bundle) s = early_answer (msg.CellMake c v bundle) c v (home_record s c).early s
  takes_answer (msg.CellAsk c o k v bundle) s = ask_answer (msg.CellAsk c o k v bundle) c (record { thread = o; asking = k; new = v }) s
  takes_answer (msg.CellOld o v bundle) s = tt
  takes_answer (msg.Get c k) s = get_each (λ (x : Sent). IsAnswer (msg.Get c k) x.msg) limit c s.equations s.records.site (last_before s c) k (cell_record s c).held (λ j u e. tt) refl
  takes_answer (msg.Forward c k) s = leave_each (λ (x : Sent). IsAnswer (msg.Forward c k) x.msg) limit c s.equations (record (cell_record s c).held { next = Some k }) (λ j u e. tt)
  takes_answer (msg.Put c v bundle) s =
      each_append (λ (x : Sent). IsAnswer (msg.Put c v bundle) x.msg) (serving p c (cell_record s c).queue v s).sent _ (serves_answer (msg.Put c v bundle) c (cell_record s c).queue v s)
      (leave_each (λ (x : Sent). IsAnswer (msg.Put c v bundle) x.msg) limit c (serving p c (cell_record s c).queue v s).site.equations (cell_record (serving p c (cell_record s c).queue v s).site c).held (λ j u e. tt))

  pub heard_answers : (m : Msg) (s : Site) → AreAnswers m (reception p limit m s).sent
  heard_answers m s = each_append (λ (x : Sent). IsAnswer m x.msg) (opening m s).sent _ (none_answer m _ (opens_nothing m s).silent) (takes_answer m (opening m s).site)

  -- at most one Forward
  get_once : (c b : CellName) (a : ℕ) (s : Store) (manager last : ℕ) (h : Holding) → cell_weights c 0 1 0 (letters limit b s (get_reply manager last a h).sent) ≤ 1
  get_once c b a s manager last h = go (last == manager)
    where
      leaving : (h : Holding) (o : Option (ℕ × VarName)) → cell_weights c 0 1 0 (letters limit b s (leave_with h o).sent) ≤ 1
      leaving h None = omega arith
      leaving h (Some (k, u)) = let none = lost_any (equal_cell c b) in omega (arith, none)

      most : (b : Bool) → cond b 1 0 ≤ 1
      most true = omega arith
      most false = omega arith

      go : (x : Bool) → cell_weights c 0 1 0 (letters limit b s (cond x (forward_reply h a) (record { held = h; sent = Forward last a ∷ [] })).sent) ≤ 1
      go true = leaving (record h { next = Some a }) (departure_of (record h { next = Some a }))
      go false = omega (arith, most (equal_cell c b))

  pub heard_once : (c b : CellName) (a : ℕ) (s : Site) → cell_weights c 0 1 0 (reception p limit (msg.Get b a) s).sent ≤ 1
  heard_once c b a s =
      let there = (opening (msg.Get b a) s).site in
      let sum = weighs_append c 0 1 0 (opening (msg.Get b a) s).sent (get_row limit b a there).sent in
      let none = weightless c 0 1 0 (opening (msg.Get b a) s).sent (opens_nothing (msg.Get b a) s).silent in
      omega (arith, sum, none, get_once c b a there.equations there.records.site (last_before there b) (cell_record there b).held)

-- ---- counts

none_counted : (P : Sent → Bool) (ms : List Sent) → Each (λ (m : Sent). P m ≡ true → ⊥) ms → count_by P ms ≡ 0
none_counted P [] h = refl
none_counted P (m ∷ ms) h = go (P m) refl (none_counted P ms h.1)
  where
    go : (b : Bool) → P m ≡ b → count_by P ms ≡ 0 → count_by P (m ∷ ms) ≡ 0
    go true q ih = absurd (h.0 q)
    go false q ih = let sum = count_cons P m ms in let zero : one (P m) ≡ 0 = ap one q in omega arith

-- units of site i send no Get for another site
pub others_get : (c : CellName) (i k : ℕ) (ms : List Sent) → i ≢ k → AreOwnRequests i ms → gets_for c k ms ≡ 0
others_get c i k ms other h = none_counted _ ms (each_more _ _ ms (λ m own. by m.msg own) h)
  where
    by : (m : Msg) → IsOwnRequest i m → asks_for c k m ≡ true → ⊥
    by (msg.Get d a) own q = other (sym own ∙ (nat_decides a k).0 (and_parts _ _ q).1)
    by (msg.Forward d a) own q = cc
    by (msg.Put d v bundle) own q = cc
    by (msg.Spawn n code vars bundle) own q = cc
    by (msg.Register x a) own q = cc
    by (msg.BindReq x n t bundle) own q = cc
    by (msg.Binding x t bundle) own q = cc
    by (msg.PortSend r o k) own q = cc
    by (msg.PortEnd o was now bundle) own q = cc
    by (msg.CellMake d v bundle) own q = cc
    by (msg.CellAsk d o k v bundle) own q = cc
    by (msg.CellOld o v bundle) own q = cc

-- and no Forward that names another site, or of another site's cell
pub others_next : (c : CellName) (i k : ℕ) (ms : List Sent) → ((i ≡ k) × (c.site ≡ k) → ⊥) → AreOwnRequests i ms → forwards_for c k ms ≡ 0
others_next c i k ms other h = none_counted _ ms (each_more _ _ ms (λ m own. by m.msg own) h)
  where
    by : (m : Msg) → IsOwnRequest i m → names_next c k m ≡ true → ⊥
    by (msg.Forward d a) own q = go (cell_cases c d)
      where
        site : i ≡ k
        site = sym own.0 ∙ (nat_decides a k).0 (and_parts (equal_cell c d) (a == k) q).1

        go : (c ≡ d) ⊎ (c ≢ d) → ⊥
        go (inl e) = other (site, ap (λ (x : CellName). x.site) e ∙ own.1 ∙ site)
        go (inr e) = let no = cells_differ c d e in let yes : equal_cell c d ≡ true = (and_parts (equal_cell c d) (a == k) q).0 in cc
    by (msg.Get d a) own q = cc
    by (msg.Put d v bundle) own q = cc
    by (msg.Spawn n code vars bundle) own q = cc
    by (msg.Register x a) own q = cc
    by (msg.BindReq x n t bundle) own q = cc
    by (msg.Binding x t bundle) own q = cc
    by (msg.PortSend r o k) own q = cc
    by (msg.PortEnd o was now bundle) own q = cc
    by (msg.CellMake d v bundle) own q = cc
    by (msg.CellAsk d o k v bundle) own q = cc
    by (msg.CellOld o v bundle) own q = cc

-- whoever hears a message sends no Get for it
pub heard_get : (c : CellName) (k : ℕ) (m : Msg) (ms : List Sent) → AreAnswers m ms → gets_for c k ms ≡ 0
heard_get c k m ms h = none_counted _ ms (each_more _ _ ms (λ x own. by x.msg own) h)
  where
    by : (x : Msg) → IsAnswer m x → asks_for c k x ≡ true → ⊥
    by (msg.Get d a) own q = own
    by (msg.Forward d a) own q = cc
    by (msg.Put d v bundle) own q = cc
    by (msg.Spawn n code vars bundle) own q = cc
    by (msg.Register x a) own q = cc
    by (msg.BindReq x n t bundle) own q = cc
    by (msg.Binding x t bundle) own q = cc
    by (msg.PortSend r o k) own q = cc
    by (msg.PortEnd o was now bundle) own q = cc
    by (msg.CellMake d v bundle) own q = cc
    by (msg.CellAsk d o k v bundle) own q = cc
    by (msg.CellOld o v bundle) own q = cc

-- and a Forward that names a site only for that site's Get
pub heard_next : (c : CellName) (k : ℕ) (m : Msg) (ms : List Sent) → asks_for c k m ≡ false → AreAnswers m ms → forwards_for c k ms ≡ 0
heard_next c k m ms none h = none_counted _ ms (each_more _ _ ms (λ x own. by x.msg own) h)
  where
    by : (x : Msg) → IsAnswer m x → names_next c k x ≡ true → ⊥
    by (msg.Forward d a) own q = let yes : asks_for c k m ≡ true = ap (asks_for c k) own ∙ q in cc
    by (msg.Get d a) own q = own
    by (msg.Put d v bundle) own q = cc
    by (msg.Spawn n code vars bundle) own q = cc
    by (msg.Register x a) own q = cc
    by (msg.BindReq x n t bundle) own q = cc
    by (msg.Binding x t bundle) own q = cc
    by (msg.PortSend r o k) own q = cc
    by (msg.PortEnd o was now bundle) own q = cc
    by (msg.CellMake d v bundle) own q = cc
    by (msg.CellAsk d o k v bundle) own q = cc
    by (msg.CellOld o v bundle) own q = cc

lesser : (a b : Bool) → one (a && b) ≤ cond a 1 0
lesser true true = omega arith
lesser true false = omega arith
lesser false b = omega arith

-- they are among all Gets and all Forwards of the cell
pub all_gets : (c : CellName) (k : ℕ) (ms : List Sent) → gets_for c k ms ≤ cell_weights c 1 0 0 ms
all_gets c k [] = omega arith
all_gets c k (m ∷ ms) = let sum = count_cons (λ (x : Sent). asks_for c k x.msg) m ms in omega (arith, sum, by m.msg, all_gets c k ms)
  where
    by : (x : Msg) → one (asks_for c k x) ≤ cell_weight c 1 0 0 x
    by (msg.Get d a) = lesser (equal_cell c d) (a == k)
    by (msg.Forward d a) = omega arith
    by (msg.Put d v bundle) = omega arith
    by (msg.Spawn n code vars bundle) = omega arith
    by (msg.Register x a) = omega arith
    by (msg.BindReq x n t bundle) = omega arith
    by (msg.Binding x t bundle) = omega arith
    by (msg.PortSend q o k) = omega arith
    by (msg.PortEnd o was now bundle) = omega arith
    by (msg.CellMake d v bundle) = omega arith
    by (msg.CellAsk d o k v bundle) = omega arith
    by (msg.CellOld o v bundle) = omega arith

pub all_next : (c : CellName) (k : ℕ) (ms : List Sent) → forwards_for c k ms ≤ cell_weights c 0 1 0 ms
all_next c k [] = omega arith
all_next c k (m ∷ ms) = let sum = count_cons (λ (x : Sent). names_next c k x.msg) m ms in omega (arith, sum, by m.msg, all_next c k ms)
  where
    by : (x : Msg) → one (names_next c k x) ≤ cell_weight c 0 1 0 x
    by (msg.Forward d a) = lesser (equal_cell c d) (a == k)
    by (msg.Get d a) = omega arith
    by (msg.Put d v bundle) = omega arith
    by (msg.Spawn n code vars bundle) = omega arith
    by (msg.Register x a) = omega arith
    by (msg.BindReq x n t bundle) = omega arith
    by (msg.Binding x t bundle) = omega arith
    by (msg.PortSend q o k) = omega arith
    by (msg.PortEnd o was now bundle) = omega arith
    by (msg.CellMake d v bundle) = omega arith
    by (msg.CellAsk d o k v bundle) = omega arith
    by (msg.CellOld o v bundle) = omega arith

-- ---- a turn

module _ (p : List Stmt) (n limit : ℕ) where
  heard_forwards : (c : CellName) (k : ℕ) (m : Option Msg) (s : Site) (d : Transition) → IsReception p n limit m s d → forwards_for c k d.sent ≤ asked_by c k m
  heard_forwards c k None s d h = subst (λ (x : Transition). forwards_for c k x.sent ≤ 0) (sym h) (omega arith)
  heard_forwards c k (Some m) s d (inr h) = subst (λ (x : Transition). forwards_for c k x.sent ≤ one (asks_for c k m)) (sym h.1) (omega arith)
  heard_forwards c k (Some m) s d (inl h) = subst (λ (x : Transition). forwards_for c k x.sent ≤ one (asks_for c k m)) (sym h.1) (by (asks_for c k m) refl)
    where
      get : (x : Msg) → asks_for c k x ≡ true → forwards_for c k (reception p limit x s).sent ≤ 1
      get (msg.Get b a) q = omega (arith, all_next c k (reception p limit (msg.Get b a) s).sent, heard_once p n limit c b a s)
      get (msg.Forward b a) q = cc
      get (msg.Put b v bundle) q = cc
      get (msg.Spawn o code vars bundle) q = cc
      get (msg.Register x a) q = cc
      get (msg.BindReq x o t bundle) q = cc
      get (msg.Binding x t bundle) q = cc
      get (msg.PortSend r o k) q = cc
      get (msg.PortEnd o was now bundle) q = cc
      get (msg.CellMake d v bundle) q = cc
      get (msg.CellAsk d o k v bundle) q = cc
      get (msg.CellOld o v bundle) q = cc

      by : (b : Bool) → asks_for c k m ≡ b → forwards_for c k (reception p limit m s).sent ≤ one (asks_for c k m)
      by true q = let is : one (asks_for c k m) ≡ 1 = ap one q in omega (arith, is, get m q)
      by false q = let none = heard_next c k m (reception p limit m s).sent q (heard_answers p n limit m s) in omega (arith, none)

  heard_gets : (c : CellName) (k : ℕ) (m : Option Msg) (s : Site) (d : Transition) → IsReception p n limit m s d → gets_for c k d.sent ≡ 0
  heard_gets c k None s d h = subst (λ (x : Transition). gets_for c k x.sent ≡ 0) (sym h) refl
  heard_gets c k (Some m) s d (inr h) = subst (λ (x : Transition). gets_for c k x.sent ≡ 0) (sym h.1) refl
  heard_gets c k (Some m) s d (inl h) = subst (λ (x : Transition). gets_for c k x.sent ≡ 0) (sym h.1) (heard_get c k m _ (heard_answers p n limit m s))

  -- no Get for another site than its own
  pub turn_gets : (c : CellName) (i k : ℕ) (m : Option Msg) (s : Site) (d : Transition) → s.records.site ≡ i → i ≢ k → SiteTurn p n limit s m d → gets_for c k d.sent ≡ 0
  turn_gets c i k m s d own other (ths, most, (heard, rest, said, units, sums)) =
      let all : gets_for c k d.sent ≡ gets_for c k heard.sent + gets_for c k rest.sent = ap (λ (x : Transition). gets_for c k x.sent) sums ∙ count_append _ heard.sent rest.sent in
      let a = heard_gets c k m s heard said in
      let b = others_get c i k rest.sent other (units_own p n limit i ths heard.site rest (heard_site p n limit m s heard said ∙ own) units) in
      omega arith

  -- a Forward that names another site only for a Get of that site
  pub turn_next : (c : CellName) (i k : ℕ) (m : Option Msg) (s : Site) (d : Transition) → s.records.site ≡ i → ((i ≡ k) × (c.site ≡ k) → ⊥) → SiteTurn p n limit s m d → forwards_for c k d.sent ≤ asked_by c k m
  turn_next c i k m s d own other (ths, most, (heard, rest, said, units, sums)) =
      let all : forwards_for c k d.sent ≡ forwards_for c k heard.sent + forwards_for c k rest.sent = ap (λ (x : Transition). forwards_for c k x.sent) sums ∙ count_append _ heard.sent rest.sent in
      let b = others_next c i k rest.sent other (units_own p n limit i ths heard.site rest (heard_site p n limit m s heard said ∙ own) units) in
      omega (arith, all, b, heard_forwards c k m s heard said)
