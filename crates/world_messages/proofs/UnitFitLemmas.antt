-- What units and messages make of a fitting site, and what it sends.
use Rattle.std.proofs.Common.{arith, ◌≡◌, ◌∙◌, sym, ap, refl, subst, ℕ, ◌≤◌, List, [], ◌∷◌, ◌++◌, ◌⊎◌, inl, inr, Bool, true, false, cond, Some, None}
use Rattle.std.specs.Prelude.{Option, Contains, ◌==◌, unwrap_or}
use Rattle.std.proofs.lemmas.List.Elements.{Contains-append_left, Contains-append_right, Contains-append_cases}
use Rattle.indexmap.specs.IndexMap.{insert_entry}
use Rattle.tree_node.specs.declared.names.VarName.{VarName}
use Rattle.tree_node.specs.declared.names.CellName.{CellName}
use Rattle.tree_node.specs.declared.names.PortName.{PortName}
use Rattle.tree_node.specs.declared.names.ThreadName.{ThreadName}
use Rattle.tree_node.specs.declared.names.Name.{Name}
use Rattle.tree_node.specs.declared.names.Name.TheVariants as name
use Rattle.tree_node.specs.declared.names.NameKind.{NameKind}
use Rattle.tree_node.specs.declared.node.Feature.{Feature}
use Rattle.tree_node.specs.declared.node.Node.TheVariants as node
use Rattle.tree_node.specs.declared.node.Term.{Term}
use Rattle.tree_node.specs.declared.node.Term.TheVariants as term
use Rattle.tree_node.specs.declared.pick.Pick.{Pick}
use Rattle.tree_node.specs.Assoc.{with_optional_value}
use Rattle.tree_node.specs.Each.{Each}
use Rattle.tree_node.specs.Goal.{IsAllowedBind, equal_cell, equal_port}
use Rattle.tree_node.specs.Names.{EachOfTerm, EachOfEquation, EachOfStack}
use Rattle.tree_node.specs.State.{Stack, equal_thread}
use Rattle.tree_node.specs.Store.{Equation}
use Rattle.tree_node.proofs.ClassLemmas.{Contains-cons_cases, Contains-head, Contains-tail}
use Rattle.kernel_syntax.specs.declared.stmt.Stmt.{Stmt}
use Rattle.kernel_syntax.specs.Program.{IsProgram}
use Rattle.site_message.specs.declared.message.Msg.{Msg}
use Rattle.site_message.specs.declared.message.Msg.TheVariants as msg
use Rattle.site_message.specs.declared.message.Sent.{Sent}
use Rattle.oz_model.specs.WellFormed.{IsNode, IsNodeOf, AreNodesOf}
use Rattle.oz_model.specs.Need.{Need, Waits, WaitsAny, Binds, Takes, stack_need}
use Rattle.oz_model.specs.Effect.{Birth, CellChange, Stays, Made, Exchanged, PortChange, Keeps, Opened, Effect, tell_item, pair_node}
use Rattle.oz_model.specs.Effect as change
use Rattle.oz_model.specs.Step.{living_stack}
use Rattle.oz_model.proofs.NameLemmas.{Each-weaker, EachOfTerm-weaker, EachOfEquation-weaker}
use Rattle.oz_model.proofs.NodesWell.{told_nodes}
use Rattle.thread_machine.specs.Fits.{StackFits, EquationsFit}
use Rattle.thread_machine.specs.Effects.{BirthFits, CellFits, PortFits}
use Rattle.thread_machine.proofs.KeepLemmas.{tell_fits}
use Rattle.bind_protocol.specs.Rows.{sent_message}
use Rattle.site_message.specs.Vars.{vars_of, field_vars}
use Rattle.token_chain.specs.declared.token.Token.{Token}
use Rattle.token_chain.specs.declared.token.Token.TheVariants.{Away, Asked, Here}
use Rattle.token_chain.specs.Holding.{here_with}
use Rattle.token_chain.specs.Mail.{Put}
use Rattle.token_chain.specs.Rows.{Reply, leave_reply, forward_reply, get_reply, exchange_reply}
use Rattle.site_model.specs.Requests.{send_stack, with_asking, with_early, with_home_content}
use Rattle.site_model.specs.Site.{Site, CellRecord, HomeRecord, EarlyRequest, thread_state, cell_record, cell_record_in, with_cell_record, port_end, home_record, with_home_record}
use Rattle.thread_roster.specs.declared.mode.Awaited.{Awaited}
use Rattle.thread_roster.specs.declared.mode.Awaited.TheVariants.{Cell, Port}
use Rattle.thread_roster.specs.declared.mode.Mode.{Mode}
use Rattle.thread_roster.specs.declared.mode.Mode.TheVariants.{Runs, WaitsFor}
use Rattle.thread_roster.specs.declared.mode.Mode.TheVariants as site
use Rattle.site_model.specs.Bundle.{with_own_bundle, message_bundle, message_vars, body_vars, vars_of_equations}
use Rattle.site_model.specs.Transition.{Transition, without_output, with_messages}
use Rattle.site_model.specs.Variables.{own_binds}
use Rattle.site_model.specs.Cells.{cell_reply, last_before, leave_row, forward_row, get_row, request_row, with_last_asker, with_own_request, with_exchange_waiting, exchange_stack}
use Rattle.site_model.specs.Messages.{with_thread}
use Rattle.site_model.specs.Unit.{with_fresh_names, birth_row, placement, step_row, after_effect, thread_step, kept_step, kept_step_row, kept_stack, telling_row, after_home_cell, after_port, home_content, end_here, fresh_names, effect_here, step_pick, bind_attempt, after_cell, with_stack, token_content, content_here, runnable_state, IsTokenHere, IsUnitFor, IsUnit, with_mode}
use Rattle.site_model.specs.Fit.{EachOfMsg}
use Rattle.world_model.proofs.PutLemmas.{nat_decides}
use Rattle.world_model.proofs.MailLemmas.{nothing}
use Rattle.world_model.proofs.CellLemmas.{letter, letters, leave_each, get_each, request_each, leave_keeps, get_keeps, request_keeps}
use Rattle.world_messages.specs.Fitting.{HasHomeIn, ThreadFits, SiteFits, MessageHomes, MsgFits, AllFit}
use Rattle.oz_model.specs.EffectNames.{EachOfChange}
use Rattle.world_messages.proofs.AddsLemmas.{effect_lefts, fresh_own}
use Rattle.world_messages.proofs.HomeRowLemmas.{kept_before}
use Rattle.world_messages.proofs.KeepFitLemmas.{keeps_end, keeps_home}
use Rattle.world_messages.proofs.WayLemmas.{IsOnOne, on_one, exchange_need, FindsToken, Way, Steps, Opens, Sends, Makes, Exchanges, AsksToken, AsksPort, AsksHome, WaitsEarly, WaitsPort, way_of}
use Rattle.world_messages.proofs.TermLemmas.{IsFitFor, thread_grows, left_fits, terms_start, terms_place}
use Rattle.world_messages.proofs.EffectLemmas.{EffectIsFit, step_is_fit, bind_effect, bind_is_fit, bound_is_fit}
use Rattle.site_model.specs.Turn.{AreUnits}
use Rattle.world_messages.proofs.SiteFitLemmas.{FitsOn, becomes_fits, carried, new_of, fresh_homes, makes_fits, binds_each_fits, thread_goes, thread_with, all_append, all_grow, new_then}
use Rattle.tree_node.proofs.OrderLemmas.{Each-member}
use Rattle.site_model.proofs.FilledLemmas.{next_kinds}

module _ (p : List Stmt) (is : IsProgram p) (n limit : ℕ) (some : 1 ≤ n) (i : ℕ) (R : VarName → Type 0) (mine : (x : VarName) → x.site ≡ i → R x) where
  -- nothing is sent
  still : (known : List VarName) (s : Site) → SiteFits p n i known s → FitsOn p n i R known (without_output s)
  still known s h = becomes_fits p is n limit i R known s h

  sends_fits : (known : List VarName) (s : Site) (ms : List Sent) → SiteFits p n i known s → AllFit p n known ms → FitsOn p n i R known (with_messages s ms)
  sends_fits known s ms h g = record { more = known; grows = λ x c. c; new = λ x c. inl c; site = h; sent = g }

  with_places : (known : List VarName) (s : Site) (c : CellName) (q : CellRecord) → ((v : VarName) → q.held.token ≡ Here v → Contains known v) → SiteFits p n i known s → SiteFits p n i known (record s { cell_records = insert_entry equal_cell s.cell_records c q })
  with_places known s c q f h = record { names = h.names; terms = terms_place p n known s.equations s.threads s.cell_records c q f h.terms; keeps = h.keeps; sites = h.sites }

  -- ---- cells

  here_same : (v w : VarName) → Here v ≡ Here w → v ≡ w
  here_same v w e = cc

  abbrev IsFitSent : List VarName → Sent → Type 0
  IsFitSent known m = MsgFits p n known m.msg

  -- the content goes with the token
  put_fits : (known : List VarName) (c : CellName) (s : Site) (k : ℕ) (v : VarName) → (cell_record s c).held.token ≡ Here v → SiteFits p n i known s → IsFitSent known (letter limit c s.equations (Put k v))
  put_fits known c s k v e h = carried p is n limit i R known s.equations (msg.Put c v []) h.terms.equations h.terms.nodes h.terms.homes ((tt, h.terms.contents c v e, tt), (tt, (tt, tt)), (tt, tt))

  reply_fits : (known : List VarName) (c : CellName) (queue : List ThreadName) (r : Reply) (s : Site) → ((v : VarName) → r.held.token ≡ Here v → Contains known v) → AllFit p n known (letters limit c s.equations r.sent) → SiteFits p n i known s → FitsOn p n i R known (cell_reply limit c queue r s)
  reply_fits known c queue r s f g h = sends_fits known (with_cell_record s c (record { held = r.held; queue = queue })) (letters limit c s.equations r.sent) (with_places known s c (record { held = r.held; queue = queue }) f h) g

  pub leave_fits : (known : List VarName) (c : CellName) (s : Site) → SiteFits p n i known s → FitsOn p n i R known (leave_row limit c s)
  leave_fits known c s h = reply_fits known c _ (leave_reply (cell_record s c).held) s (λ v e. h.terms.contents c v (leave_keeps (cell_record s c).held v e)) (leave_each (IsFitSent known) limit c s.equations (cell_record s c).held (λ k v e. put_fits known c s k v e h)) h

  pub forward_fits : (known : List VarName) (c : CellName) (k : ℕ) (s : Site) → SiteFits p n i known s → FitsOn p n i R known (forward_row limit c k s)
  forward_fits known c k s h = reply_fits known c _ (forward_reply (cell_record s c).held k) s (λ v e. h.terms.contents c v (leave_keeps (record (cell_record s c).held { next = Some k }) v e)) (leave_each (IsFitSent known) limit c s.equations (record (cell_record s c).held { next = Some k }) (λ j v e. put_fits known c s j v e h)) h

  managed : (known : List VarName) (s : Site) (ms : List (CellName × ℕ)) → SiteFits p n i known s → SiteFits p n i known (record s { managers = ms })
  managed known s ms h = record { names = h.names; terms = h.terms; keeps = h.keeps; sites = h.sites }

  pub get_fits : (known : List VarName) (c : CellName) (k : ℕ) (s : Site) → SiteFits p n i known s → FitsOn p n i R known (get_row limit c k s)
  get_fits known c k s h = reply_fits known c _ (get_reply s.records.site (last_before s c) k (cell_record s c).held) (with_last_asker c k s) (λ v e. h.terms.contents c v (get_keeps s.records.site (last_before s c) k (cell_record s c).held v e))
      (get_each (IsFitSent known) limit c s.equations s.records.site (last_before s c) k (cell_record s c).held (λ j v e. put_fits known c s j v e h) (tt, (tt, (tt, tt)), (tt, tt))) (managed known s _ h)

  own_request_fits : (known : List VarName) (c : CellName) (t : Token) (s : Site) → SiteFits p n i known s → SiteFits p n i known (with_own_request c t s)
  own_request_fits known c Away s h = go (c.site == s.records.site)
    where
      go : (b : Bool) → SiteFits p n i known (cond b (with_last_asker c s.records.site s) s)
      go true = managed known s _ h
      go false = h
  own_request_fits known c Asked s h = h
  own_request_fits known c (Here v) s h = h

  pub request_fits : (known : List VarName) (c : CellName) (new : VarName) (th : ThreadName) (st : Stack) (s : Site) → (IsTokenHere s c → ⊥) → ThreadFits p n known st → SiteFits p n i known s → FitsOn p n i R known (request_row limit c new th st s)
  request_fits known c new th st s none f h =
      reply_fits known c _ (exchange_reply c.site (last_before s c) s.records.site new (cell_record s c).held) before (λ v e. absurd (request_keeps c.site (last_before s c) s.records.site new (cell_record s c).held v (λ u q. none (u, q)) e))
      (request_each (IsFitSent known) limit c before.equations c.site (last_before s c) s.records.site new (cell_record s c).held (tt, (tt, (tt, tt)), (tt, tt)) (λ e. (tt, (tt, (tt, tt)), (tt, tt))))
      (own_request_fits known c (cell_record s c).held.token (with_exchange_waiting c th st s) (record { names = h.names; terms = thread_with p is n limit i R known s.equations s.threads s.cell_records th st (WaitsFor (Cell c)) f h.terms; keeps = h.keeps; sites = h.sites }))
    where
      before : Site
      before = with_own_request c (cell_record s c).held.token (with_exchange_waiting c th st s)

  -- ---- steps

  -- the stack after an exchange
  -- a stack of these variables, with nodes of the program, and homes among the sites
  abbrev IsFitStack : List VarName → Stack → Type 0
  IsFitStack known st = StackFits p known st × Each (AreNodesOf (IsNode p)) st × EachOfStack (HasHomeIn n) st

  exchanged_fits : (known : List VarName) (v told : VarName) (st : Stack) → Contains known v → Contains known told → IsFitStack known st → IsFitStack known (tell_item told (term.Var v) ∷ st)
  exchanged_fits known v told st hv ht f = (tell_fits p known told (term.Var v) st ht hv tt f.0, ((((tt, tt), tt), tt), f.1), ((((omega arith, omega arith), tt), tt), f.2))

  goes_on_fits : (known : List VarName) (s : Site) (th : ThreadName) (st : Stack) (ended steps : ℕ) → IsFitStack known st → SiteFits p n i known s →
      SiteFits p n i known (record s { threads = with_optional_value equal_thread s.threads th (runnable_state (living_stack st)); ended = ended; steps = steps })
  goes_on_fits known s th st ended steps f h = record {
    names = h.names;
    terms = thread_goes p is n limit i R known s.equations s.threads s.cell_records th (runnable_state (living_stack st)) (left_fits p n known st f.0 f.1 f.2) h.terms;
    keeps = h.keeps;
    sites = h.sites;
  }

  on_fits : (known : List VarName) (th : ThreadName) (c : CellChange) (st : Stack) (s : Site) → CellFits known c → IsFitStack known st → FindsToken s c → SiteFits p n i known s →
      SiteFits p n i known (with_stack th (exchange_stack (content_here s c) c st) (after_cell c s))
  on_fits known th Stays st s k f t h = goes_on_fits known s th st _ _ f h
  on_fits known th (Made c v) st s k f t h =
      goes_on_fits known (after_cell (Made c v) s) th st _ _ f (managed known _ _ (with_places known s c (record { held = here_with v; queue = [] }) (λ w e. subst (Contains known) (here_same v w e) k) h))
  on_fits known th (Exchanged c new told) st s k f (v, t) h =
      let content : token_content (cell_record s c).held.token ≡ v = ap token_content t in
      let known_v : Contains known (token_content (cell_record s c).held.token) = subst (Contains known) (sym content) (h.terms.contents c v t) in
      let both = exchanged_fits known (token_content (cell_record s c).held.token) told st known_v k.1 f in
      goes_on_fits known (after_cell (Exchanged c new told) s) th (tell_item told (term.Var (token_content (cell_record s c).held.token)) ∷ st) _ _ both
      (with_places known s c (record (cell_record s c) { held = record (cell_record s c).held { token = Here new } }) (λ w e. subst (Contains known) (here_same new w e) k.0) h)

  bears_fits : (known : List VarName) (b : Option Birth) (s : Site) → BirthFits p known b → SiteFits p n i known s → FitsOn p n i R known (birth_row p n limit b s)
  bears_fits known None s f h = still known s h
  bears_fits known (Some b) s f h = go (placement n s.records.site b.at == s.records.site)
    where
      go : (c : Bool) → FitsOn p n i R known (cond c (without_output (with_thread p (Some b) s)) (with_messages s (with_own_bundle limit s.equations (sent_message (placement n s.records.site b.at) (msg.Spawn b.name b.code b.vars [])) ∷ [])))
      go true = still known (with_thread p (Some b) s) (record { names = h.names; terms = terms_start p n known s.equations s.threads s.cell_records b f.0 f.1 f.2 h.terms; keeps = h.keeps; sites = h.sites })
      go false = sends_fits known s _ h (carried p is n limit i R known s.equations (msg.Spawn b.name b.code b.vars []) h.terms.equations h.terms.nodes h.terms.homes ((tt, f.2, tt), ((f.0, f.1), (tt, tt)), (tt, tt)), tt)

  adds_for : (known : List VarName) (es : List Equation) → EquationsFit p known es → Each (λ (e : Equation). IsNodeOf (IsNode p) e.1) es → Each (EachOfEquation (HasHomeIn n)) es → Each (λ (e : Equation). IsFitFor p n known e.0 e.1) es
  adds_for known [] h g q = tt
  adds_for known (e ∷ es) h g q = ((h.names.0.0, h.names.0.1, h.terms.0, g.0, q.0.1), adds_for known es (record { names = h.names.1; terms = h.terms.1 }) g.1 q.1)

  still_finds : (s t : Site) (c : CellChange) → t.cell_records ≡ s.cell_records → FindsToken s c → FindsToken t c
  still_finds s t Stays e h = tt
  still_finds s t (Made c v) e h = tt
  still_finds s t (Exchanged c new told) e (v, h) = (v, subst (λ (qs : List (CellName × CellRecord)). (cell_record_in qs c).held.token ≡ Here v) (sym e) h)

  pub steps_fits : (known : List VarName) (k : Pick) (kinds : List NameKind) (e : Effect) (s : Site) → SiteFits p n i known s → EffectIsFit p n (new_of p is n limit i R s kinds ++ known) e → Each (λ (q : Equation). q.0.site ≡ s.records.site) e.adds → FindsToken s e.cell →
      FitsOn p n i R known (step_row p n limit k kinds e s)
  steps_fits known k kinds e s h f own finds =
      go (binds_each_fits p is n limit i R more e.adds (with_fresh_names kinds s) own_here (adds_for more e.adds f.fits.adds f.nodes.0 f.homes.adds) made)
    where
      more : List VarName
      more = new_of p is n limit i R s kinds ++ known

      made : SiteFits p n i (new_of p is n limit i R s kinds ++ known) (with_fresh_names kinds s)
      made = makes_fits p is n limit i R known kinds s h

      own_here : Each (λ (q : Equation). q.0.site ≡ i) e.adds
      own_here = Each-weaker _ _ (λ (q : Equation) (o : q.0.site ≡ s.records.site). o ∙ h.names.site) e.adds own

      fresh : (x : VarName) → Contains (new_of p is n limit i R s kinds) x → R x
      fresh x c = mine x (Each-member (λ (y : VarName). y.site ≡ s.records.site) (new_of p is n limit i R s kinds) x (fresh_own s.records.site s.counters kinds) c ∙ h.names.site)

      go : SiteFits p n i (new_of p is n limit i R s kinds ++ known) (own_binds limit e.adds (with_fresh_names kinds s)).site × AllFit p n (new_of p is n limit i R s kinds ++ known) (own_binds limit e.adds (with_fresh_names kinds s)).sent × ((own_binds limit e.adds (with_fresh_names kinds s)).site.cell_records ≡ (with_fresh_names kinds s).cell_records) →
          FitsOn p n i R known (step_row p n limit k kinds e s)
      go (fit, all, places) = born (bears_fits (new_of p is n limit i R s kinds ++ known) e.born (after_effect k.thread e bound_all.site) f.fits.born on)
        where
          bound_all : Transition
          bound_all = own_binds limit e.adds (with_fresh_names kinds s)

          on : SiteFits p n i (new_of p is n limit i R s kinds ++ known) (after_effect k.thread e (own_binds limit e.adds (with_fresh_names kinds s)).site)
          on = on_fits (new_of p is n limit i R s kinds ++ known) k.thread e.cell e.stack (own_binds limit e.adds (with_fresh_names kinds s)).site f.fits.cell (f.fits.stack, f.nodes.1, f.homes.stack) (still_finds s (own_binds limit e.adds (with_fresh_names kinds s)).site e.cell places finds) fit

          made_or : (x : VarName) → Contains (new_of p is n limit i R s kinds) x ⊎ Contains known x → Contains known x ⊎ R x
          made_or x (inl c) = inr (fresh x c)
          made_or x (inr c) = inl c

          born : FitsOn p n i R (new_of p is n limit i R s kinds ++ known) (birth_row p n limit e.born (after_effect k.thread e (own_binds limit e.adds (with_fresh_names kinds s)).site)) → FitsOn p n i R known (step_row p n limit k kinds e s)
          born b = record {
            more = b.more;
            grows = λ x c. b.grows x (Contains-append_right (new_of p is n limit i R s kinds) known x c);
            new = new_then R known (new_of p is n limit i R s kinds ++ known) b.more (λ x c. made_or x (Contains-append_cases (new_of p is n limit i R s kinds) known x c)) b.new;
            site = b.site;
            sent = all_append p n b.more ((own_binds limit e.adds (with_fresh_names kinds s)).sent ++ []) _ (all_append p n b.more (own_binds limit e.adds (with_fresh_names kinds s)).sent [] (all_grow p n (new_of p is n limit i R s kinds ++ known) b.more (own_binds limit e.adds (with_fresh_names kinds s)).sent b.grows all) tt) b.sent;
          }

  -- ---- units

  -- what a thread of the site has
  thread_at : (known : List VarName) (s : Site) (th : ThreadName) (st : Stack) (m : Mode) → thread_state s th ≡ Some (st, m) → SiteFits p n i known s → ThreadFits p n known st
  thread_at known s th st m at h = h.terms.stacks th (st, m) at

  waits_fits : (known : List VarName) (th : ThreadName) (st : Stack) (x : VarName) (s : Site) → ThreadFits p n known st → SiteFits p n i known s → SiteFits p n i known (with_mode th st (site.Waits x) s)
  waits_fits known th st x s f h = record { names = h.names; terms = thread_with p is n limit i R known s.equations s.threads s.cell_records th st (site.Waits x) f h.terms; keeps = h.keeps; sites = h.sites }

  needs_fits : (known : List VarName) (th : ThreadName) (st : Stack) (x : VarName) (s : Site) → ThreadFits p n known st → SiteFits p n i known s → SiteFits p n i known (with_mode th st (site.Needs x) s)
  needs_fits known th st x s f h = record { names = h.names; terms = thread_with p is n limit i R known s.equations s.threads s.cell_records th st (site.Needs x) f h.terms; keeps = h.keeps; sites = h.sites }

  waits_any_fits : (known : List VarName) (th : ThreadName) (st : Stack) (xs : List VarName) (s : Site) → ThreadFits p n known st → SiteFits p n i known s → SiteFits p n i known (with_mode th st (site.WaitsAny xs) s)
  waits_any_fits known th st xs s f h = record { names = h.names; terms = thread_with p is n limit i R known s.equations s.threads s.cell_records th st (site.WaitsAny xs) f h.terms; keeps = h.keeps; sites = h.sites }

  -- a step that takes names
  names_fits : (known : List VarName) (s : Site) (th : ThreadName) (st : Stack) (kinds : List NameKind) → ThreadFits p n known st → SiteFits p n i known s → stack_need p s.equations st ≡ Takes kinds →
      EffectIsFit p n (new_of p is n limit i R s kinds ++ known) (effect_here p s (fresh_names s kinds) None st)
  names_fits known s th st kinds f h need =
      let more : SiteFits p n i (new_of p is n limit i R s kinds ++ known) (with_fresh_names kinds s) = makes_fits p is n limit i R known kinds s h in
      step_is_fit p n (new_of p is n limit i R s kinds ++ known) s.equations st kinds (fresh_names s kinds) is
      (thread_grows p n known (new_of p is n limit i R s kinds ++ known) st (λ x c. Contains-append_right (new_of p is n limit i R s kinds) known x c) f) more.terms.equations more.terms.nodes more.terms.homes need
      (next_kinds s.records.site s.counters kinds) (each_of (new_of p is n limit i R s kinds) (λ x c. Contains-append_left (new_of p is n limit i R s kinds) known x c)) (fresh_homes p is n limit i R s.records.site s.counters kinds some h.sites)
    where
      each_of : (xs : List VarName) → ((x : VarName) → Contains xs x → Contains (new_of p is n limit i R s kinds ++ known) x) → Each (λ (x : VarName). Contains (new_of p is n limit i R s kinds ++ known) x) xs
      each_of [] f = tt
      each_of (x ∷ xs) f = (f x (Contains-head x xs), each_of xs (λ y c. f y (Contains-tail x y xs c)))

  -- ---- ports and stationary cells

  -- what is kept of a cell and of requests changes
  pub home_fits : (known : List VarName) (s : Site) (c : CellName) (q : HomeRecord) → ((v : VarName) → q.content ≡ Some v → Contains known v) → ((r : EarlyRequest) → Contains q.early r → Contains known r.new) → SiteFits p n i known s → SiteFits p n i known (with_home_record s c q)
  home_fits known s c q f g h = record { names = h.names; terms = h.terms; keeps = keeps_home known s.ports s.homes c q f g h.keeps; sites = h.sites }

  some_same : (v w : VarName) → ◌≡◌ {A = Option VarName} (Some v) (Some w) → v ≡ w
  some_same v w e = cc

  pub content_fits : (known : List VarName) (s : Site) (c : CellName) (v : VarName) → Contains known v → SiteFits p n i known s → SiteFits p n i known (with_home_content c v s)
  content_fits known s c v k h = home_fits known s c (record (home_record s c) { content = Some v }) (λ w e. subst (Contains known) (some_same v w e) k) (λ r at. h.keeps.early c r at) h

  abbrev with_end : Site → PortName → VarName → Site
  with_end s q x = record s { ports = insert_entry equal_port s.ports q x }

  end_fits : (known : List VarName) (s : Site) (q : PortName) (x : VarName) → Contains known x → SiteFits p n i known s → SiteFits p n i known (with_end s q x)
  end_fits known s q x k h = record { names = h.names; terms = h.terms; keeps = keeps_end known s.ports s.homes q x k h.keeps; sites = h.sites }

  after_home_fits : (known : List VarName) (c : CellChange) (s : Site) → CellFits known c → SiteFits p n i known s → SiteFits p n i known (after_home_cell c s)
  after_home_fits known Stays s k h = h
  after_home_fits known (Exchanged c new told) s k h = content_fits known s c new k.0 h
  after_home_fits known (Made c v) s k h = go (c.at == s.records.site)
    where
      none : (r : EarlyRequest) → Contains [] r → Contains known r.new
      none r at = absurd (nothing r at)

      go : (b : Bool) → SiteFits p n i known (cond b (with_home_record s c (record { content = Some v; early = [] })) s)
      go true = home_fits known s c (record { content = Some v; early = [] }) (λ w e. subst (Contains known) (some_same v w e) k) none h
      go false = h

  after_port_fits : (known : List VarName) (r : PortChange) (s : Site) → PortFits known r → SiteFits p n i known s → SiteFits p n i known (after_port r s)
  after_port_fits known Keeps s k h = h
  after_port_fits known (Opened q end) s k h = end_fits known s q end k h
  after_port_fits known (change.Sent q value new) s k h = end_fits known s q new k.1 h

  pub content_stack : (known : List VarName) (v : VarName) (c : CellChange) (st : Stack) → CellFits known c → ((b : CellName) (new told : VarName) → c ≡ Exchanged b new told → Contains known v) → IsFitStack known st → IsFitStack known (exchange_stack v c st)
  content_stack known v Stays st k hv f = f
  content_stack known v (Made b w) st k hv f = f
  content_stack known v (Exchanged b new told) st k hv f = exchanged_fits known v told st (hv b new told refl) k.1 f

  pub end_stack : (known : List VarName) (x : VarName) (r : PortChange) (st : Stack) → PortFits known r → ((q : PortName) (value new : VarName) → r ≡ change.Sent q value new → Contains known x) → IsFitStack known st → IsFitStack known (send_stack x r st)
  end_stack known x Keeps st k hx f = f
  end_stack known x (Opened q end) st k hx f = f
  end_stack known x (change.Sent q value new) st k hx f = (tell_fits p known x (term.Node (pair_node value new)) st (hx q value new refl) (k.0, (k.1, tt)) tt f.0, ((((tt, (told_nodes p is.stmts).pairs value new), tt), tt), f.1), ((((omega arith, (omega arith, (omega arith, tt))), tt), tt), f.2))

  -- the home of a new cell is told of a content that is known
  tells_fits : (known : List VarName) (c : CellChange) (s : Site) → CellFits known c → EachOfChange (HasHomeIn n) c → SiteFits p n i known s → FitsOn p n i R known (telling_row limit c s)
  tells_fits known Stays s k q h = still known s h
  tells_fits known (Exchanged c new told) s k q h = still known s h
  tells_fits known (Made c v) s k q h = go (c.at == s.records.site)
    where
      go : (b : Bool) → FitsOn p n i R known (cond b (without_output s) (with_messages s (with_own_bundle limit s.equations (sent_message c.at (msg.CellMake c v [])) ∷ [])))
      go true = still known s h
      go false = sends_fits known s _ h (carried p is n limit i R known s.equations (msg.CellMake c v []) h.terms.equations h.terms.nodes h.terms.homes ((tt, k, tt), (tt, (tt, tt)), (q.0, tt)), tt)

  -- such a step finds the end of its port, and the content of its cell
  abbrev FindsKept : Site → Effect → Type 0
  FindsKept s e =
      ((q : PortName) (value new : VarName) → e.port ≡ change.Sent q value new → (x : VarName) × (port_end s q ≡ Some x))
      × ((c : CellName) (new told : VarName) → e.cell ≡ Exchanged c new told → (v : VarName) × ((home_record s c).content ≡ Some v))

  end_known : (known : List VarName) (s : Site) (r : PortChange) → SiteFits p n i known s → ((q : PortName) (value new : VarName) → r ≡ change.Sent q value new → (x : VarName) × (port_end s q ≡ Some x)) → (q : PortName) (value new : VarName) → r ≡ change.Sent q value new → Contains known (end_here s r)
  end_known known s Keeps h f q value new e = cc
  end_known known s (Opened b end) h f q value new e = cc
  end_known known s (change.Sent b value new) h f q w y e = let x = f b value new refl in subst (λ (o : Option VarName). Contains known (unwrap_or o (record { site = 0; num = 0 }))) (sym x.1) (h.keeps.ends b x.0 x.1)

  content_known : (known : List VarName) (s : Site) (c : CellChange) → SiteFits p n i known s → ((b : CellName) (new told : VarName) → c ≡ Exchanged b new told → (v : VarName) × ((home_record s b).content ≡ Some v)) → (b : CellName) (new told : VarName) → c ≡ Exchanged b new told → Contains known (home_content s c)
  content_known known s Stays h f b new told e = cc
  content_known known s (Made a v) h f b new told e = cc
  content_known known s (Exchanged a x y) h f b new told e = let v = f a x y refl in subst (λ (o : Option VarName). Contains known (unwrap_or o (record { site = 0; num = 0 }))) (sym v.1) (h.keeps.contents a v.0 v.1)

  kept_fits : (known : List VarName) (k : Pick) (kinds : List NameKind) (e : Effect) (s : Site) → SiteFits p n i known s → EffectIsFit p n (new_of p is n limit i R s kinds ++ known) e → FindsKept s e → FitsOn p n i R known (kept_step_row limit k kinds e s)
  kept_fits known k kinds e s h f finds = after (tells_fits (new_of p is n limit i R s kinds ++ known) e.cell (with_stack k.thread (kept_stack s e) (kept_before kinds e s)) f.fits.cell f.homes.cell on)
    where
      more : List VarName
      more = new_of p is n limit i R s kinds ++ known

      wider : (x : VarName) → Contains known x → Contains (new_of p is n limit i R s kinds ++ known) x
      wider x c = Contains-append_right (new_of p is n limit i R s kinds) known x c

      before : SiteFits p n i (new_of p is n limit i R s kinds ++ known) (kept_before kinds e s)
      before = after_port_fits (new_of p is n limit i R s kinds ++ known) e.port (after_home_cell e.cell (with_fresh_names kinds s)) f.fits.port
          (after_home_fits (new_of p is n limit i R s kinds ++ known) e.cell (with_fresh_names kinds s) f.fits.cell (makes_fits p is n limit i R known kinds s h))

      stack : IsFitStack (new_of p is n limit i R s kinds ++ known) (kept_stack s e)
      stack = end_stack (new_of p is n limit i R s kinds ++ known) (end_here s e.port) e.port (exchange_stack (home_content s e.cell) e.cell e.stack) f.fits.port (λ q value new is0. wider _ (end_known known s e.port h finds.0 q value new is0))
          (content_stack (new_of p is n limit i R s kinds ++ known) (home_content s e.cell) e.cell e.stack f.fits.cell (λ c new told is0. wider _ (content_known known s e.cell h finds.1 c new told is0)) (f.fits.stack, f.nodes.1, f.homes.stack))

      on : SiteFits p n i (new_of p is n limit i R s kinds ++ known) (with_stack k.thread (kept_stack s e) (kept_before kinds e s))
      on = goes_on_fits (new_of p is n limit i R s kinds ++ known) (kept_before kinds e s) k.thread (kept_stack s e) _ _ stack before

      made_or : (x : VarName) → Contains (new_of p is n limit i R s kinds) x ⊎ Contains known x → Contains known x ⊎ R x
      made_or x (inl c) = inr (mine x (Each-member (λ (y : VarName). y.site ≡ s.records.site) (new_of p is n limit i R s kinds) x (fresh_own s.records.site s.counters kinds) c ∙ h.names.site))
      made_or x (inr c) = inl c

      after : FitsOn p n i R (new_of p is n limit i R s kinds ++ known) (telling_row limit e.cell (with_stack k.thread (kept_stack s e) (kept_before kinds e s))) → FitsOn p n i R known (kept_step_row limit k kinds e s)
      after b = record {
        more = b.more;
        grows = λ x c. b.grows x (wider x c);
        new = new_then R known (new_of p is n limit i R s kinds ++ known) b.more (λ x c. made_or x (Contains-append_cases (new_of p is n limit i R s kinds) known x c)) b.new;
        site = b.site;
        sent = b.sent;
      }

  -- a thread asks another site, or waits
  asking_fits : (known : List VarName) (th : ThreadName) (st : Stack) (a : Awaited) (s : Site) → ThreadFits p n known st → SiteFits p n i known s → SiteFits p n i known (with_asking th st a s)
  asking_fits known th st a s f h = record { names = h.names; terms = thread_with p is n limit i R known s.equations s.threads s.cell_records th st (WaitsFor a) f h.terms; keeps = h.keeps; sites = h.sites }

  pub early_fits : (known : List VarName) (c : CellName) (r : EarlyRequest) (s : Site) → Contains known r.new → SiteFits p n i known s → SiteFits p n i known (with_early c r s)
  early_fits known c r s k h = home_fits known s c (record (home_record s c) { early = (home_record s c).early ++ r ∷ [] }) (λ v e. h.keeps.contents c v e) (λ q at. by q (Contains-append_cases (home_record s c).early (r ∷ []) q at)) h
    where
      one : (q : EarlyRequest) → (r ≡ q) ⊎ Contains [] q → Contains known q.new
      one q (inl e) = subst (λ (x : EarlyRequest). Contains known x.new) e k
      one q (inr at) = absurd (nothing q at)

      by : (q : EarlyRequest) → Contains (home_record s c).early q ⊎ Contains (r ∷ []) q → Contains known q.new
      by q (inl at) = h.keeps.early c q at
      by q (inr at) = one q (Contains-cons_cases r q [] at)

  -- the new content of an exchange is known before it, since an exchange makes no variable
  new_known : (known : List VarName) (s : Site) (st : Stack) (kinds : List NameKind) (c : CellName) (new told : VarName) → stack_need p s.equations st ≡ Takes kinds → (effect_here p s (fresh_names s kinds) None st).cell ≡ Exchanged c new told → EffectIsFit p n (new_of p is n limit i R s kinds ++ known) (effect_here p s (fresh_names s kinds) None st) → Contains known new
  new_known known s st kinds c new told need is0 f =
      let none : kinds ≡ [] = takes_none kinds (sym need ∙ exchange_need p s.equations (fresh_names s kinds) st c new told is0) in
      subst (λ (ks : List NameKind). Contains (new_of p is n limit i R s ks ++ known) new) none (subst (CellFits (new_of p is n limit i R s kinds ++ known)) is0 f.fits.cell).0
    where
      takes_none : (ks : List NameKind) → Takes ks ≡ Takes [] → ks ≡ []
      takes_none ks e = cc

  way_fits : (known : List VarName) (th : ThreadName) (st : Stack) (s : Site) (kinds : List NameKind) (step kept : Transition) (d : Transition) → stack_need p s.equations st ≡ Takes kinds → EffectIsFit p n (new_of p is n limit i R s kinds ++ known) (effect_here p s (fresh_names s kinds) None st) → ThreadFits p n known st → SiteFits p n i known s →
      (FindsToken s (effect_here p s (fresh_names s kinds) None st).cell → FitsOn p n i R known step) → (FindsKept s (effect_here p s (fresh_names s kinds) None st) → FitsOn p n i R known kept) → Way limit th st s step kept (effect_here p s (fresh_names s kinds) None st) d → FitsOn p n i R known d
  way_fits known th st s kinds step kept d need e f h k g (Steps finds same) = subst (FitsOn p n i R known) (sym same) (k finds)
  way_fits known th st s kinds step kept d need e f h k g (Opens q end is0 same) = subst (FitsOn p n i R known) (sym same) (g ((λ r value new is1. no_send q end r value new (sym is0 ∙ is1)), (λ c new told is1. no_cell c new told (on_one p s.equations (fresh_names s kinds) st) is1)))
    where
      no_send : (q : PortName) (end : VarName) (r : PortName) (value new : VarName) → Opened q end ≡ change.Sent r value new → (x : VarName) × (port_end s r ≡ Some x)
      no_send q end r value new e = cc

      no_cell : (c : CellName) (new told : VarName) → IsOnOne (effect_here p s (fresh_names s kinds) None st) → (effect_here p s (fresh_names s kinds) None st).cell ≡ Exchanged c new told → (v : VarName) × ((home_record s c).content ≡ Some v)
      no_cell c new told (inl keeps) is1 = let both : Keeps ≡ Opened q end = sym keeps ∙ is0 in cc
      no_cell c new told (inr stays) is1 = let both : Stays ≡ Exchanged c new told = sym stays ∙ is1 in cc
  way_fits known th st s kinds step kept d need e f h k g (Sends q value new end is0 has same) = subst (FitsOn p n i R known) (sym same) (g ((λ r x y is1. (end, subst (λ (o : PortName). port_end s o ≡ Some end) (ports_same r x y (sym is0 ∙ is1)) has)), (λ c x told is1. no_cell c x told (on_one p s.equations (fresh_names s kinds) st) is1)))
    where
      ports_same : (r : PortName) (x y : VarName) → change.Sent q value new ≡ change.Sent r x y → q ≡ r
      ports_same r x y e = cc

      no_cell : (c : CellName) (x told : VarName) → IsOnOne (effect_here p s (fresh_names s kinds) None st) → (effect_here p s (fresh_names s kinds) None st).cell ≡ Exchanged c x told → (v : VarName) × ((home_record s c).content ≡ Some v)
      no_cell c x told (inl keeps) is1 = let both : Keeps ≡ change.Sent q value new = sym keeps ∙ is0 in cc
      no_cell c x told (inr stays) is1 = let both : Stays ≡ Exchanged c x told = sym stays ∙ is1 in cc
  way_fits known th st s kinds step kept d need e f h k g (Makes c v keeps is0 same) = subst (FitsOn p n i R known) (sym same) (g ((λ r x y is1. no_send r x y (sym keeps ∙ is1)), (λ b x told is1. no_cell b x told (sym is0 ∙ is1))))
    where
      no_send : (r : PortName) (x y : VarName) → Keeps ≡ change.Sent r x y → (z : VarName) × (port_end s r ≡ Some z)
      no_send r x y e = cc

      no_cell : (b : CellName) (x told : VarName) → Made c v ≡ Exchanged b x told → (w : VarName) × ((home_record s b).content ≡ Some w)
      no_cell b x told e = cc
  way_fits known th st s kinds step kept d need e f h k g (Exchanges c new told v keeps is0 has same) = subst (FitsOn p n i R known) (sym same) (g ((λ r x y is1. no_send r x y (sym keeps ∙ is1)), (λ b x y is1. (v, subst (λ (a : CellName). (home_record s a).content ≡ Some v) (cells_same b x y (sym is0 ∙ is1)) has))))
    where
      no_send : (r : PortName) (x y : VarName) → Keeps ≡ change.Sent r x y → (z : VarName) × (port_end s r ≡ Some z)
      no_send r x y e = cc

      cells_same : (b : CellName) (x y : VarName) → Exchanged c new told ≡ Exchanged b x y → c ≡ b
      cells_same b x y e = cc
  way_fits known th st s kinds step kept d need e f h k g (AsksToken c new none same) = subst (FitsOn p n i R known) (sym same) (request_fits known c new th st s none f h)
  way_fits known th st s kinds step kept d need e f h k g (AsksPort q other same) = subst (FitsOn p n i R known) (sym same) (sends_fits known (with_asking th st (Port q) s) _ (asking_fits known th st (Port q) s f h) (((tt, tt), (tt, (tt, tt)), (tt, tt)), tt))
  way_fits known th st s kinds step kept d need e f h k g (AsksHome c new told is0 other same) = subst (FitsOn p n i R known) (sym same) (sends_fits known (with_asking th st (Cell c) s) _ (asking_fits known th st (Cell c) s f h)
      (carried p is n limit i R known s.equations (msg.CellAsk c th s.records.site new []) h.terms.equations h.terms.nodes h.terms.homes ((tt, tt, new_known known s st kinds c new told need is0 e, tt), (tt, (tt, tt)), ((subst (EachOfChange (HasHomeIn n)) is0 e.homes.cell).0, tt)), tt))
  way_fits known th st s kinds step kept d need e f h k g (WaitsEarly c new told is0 same) = subst (FitsOn p n i R known) (sym same) (still known _ (early_fits known c (record { thread = th; asking = s.records.site; new = new }) (with_asking th st (Cell c) s) (new_known known s st kinds c new told need is0 e) (asking_fits known th st (Cell c) s f h)))
  way_fits known th st s kinds step kept d need e f h k g (WaitsPort q same) = subst (FitsOn p n i R known) (sym same) (still known (with_asking th st (Port q) s) (asking_fits known th st (Port q) s f h))

  bind_unit : (known : List VarName) (s : Site) (th : ThreadName) (st : Stack) (a b : Term) (u : VarName) (t : Term) → ThreadFits p n known st → SiteFits p n i known s → stack_need p s.equations st ≡ Binds a b → IsAllowedBind s.equations a b (u, t) →
      (c : Bool) → (u.site == s.records.site) ≡ c → FitsOn p n i R known (bind_attempt p n limit th st u t c s)
  bind_unit known s th st a b u t f h need allows c q = go c q (bind_is_fit p n known s.equations st a b u t is f h.terms.equations h.terms.nodes h.terms.homes need allows)
    where
      go : (c : Bool) → (u.site == s.records.site) ≡ c → IsFitFor p n known u t → FitsOn p n i R known (bind_attempt p n limit th st u t c s)
      go true q k =
          let e : EffectIsFit p n known (effect_here p s [] (Some (u, t)) st) = subst (EffectIsFit p n known) (sym (bind_effect p s.equations st a b u t need)) (bound_is_fit p n known u t st f k) in
          steps_fits known (step_pick th [] (Some (u, t))) [] (effect_here p s [] (Some (u, t)) st) s h e
          (effect_lefts (λ (x : VarName). x.site ≡ s.records.site) p s.equations [] (Some (u, t)) st tt ((nat_decides u.site s.records.site).0 q, tt))
          (subst (λ (e : Effect). FindsToken s e.cell) (sym (bind_effect p s.equations st a b u t need)) tt)
      go false q k = sends_fits known (with_mode th st (site.Waits u) s) _ (waits_fits known th st u s f h)
          (carried p is n limit i R known s.equations (msg.BindReq u th t []) h.terms.equations h.terms.nodes h.terms.homes ((k.0, tt, k.1, tt), (tt, (k.3, tt)), (k.4, tt)), tt)

  need_fits : (known : List VarName) (s : Site) (th : ThreadName) (st : Stack) (need : Need) (d : Transition) → ThreadFits p n known st → SiteFits p n i known s → stack_need p s.equations st ≡ need → IsUnitFor p n limit s th st need d → FitsOn p n i R known d
  need_fits known s th st (Waits x) d f h e (z, at, g) = subst (FitsOn p n i R known) (sym g) (still known (with_mode th st (site.Needs z) s) (needs_fits known th st z s f h))
  need_fits known s th st (WaitsAny q) d f h e (xs, open_on, g) = subst (FitsOn p n i R known) (sym g) (still known (with_mode th st (site.WaitsAny xs) s) (waits_any_fits known th st xs s f h))
  need_fits known s th st (Binds a b) d f h e (u, t, root, g) = subst (FitsOn p n i R known) (sym g) (bind_unit known s th st a b u t f h e root.0 (u.site == s.records.site) refl)
  need_fits known s th st (Takes kinds) d f h e g =
      way_fits known th st s kinds (thread_step p n limit th st kinds (fresh_names s kinds) None s) (kept_step p limit th st kinds (fresh_names s kinds) s) d e (names_fits known s th st kinds f h e) f h
      (λ finds. steps_fits known (step_pick th (fresh_names s kinds) None) kinds (effect_here p s (fresh_names s kinds) None st) s h (names_fits known s th st kinds f h e)
      (effect_lefts (λ (x : VarName). x.site ≡ s.records.site) p s.equations (fresh_names s kinds) None st (fresh_own s.records.site s.counters kinds) tt) finds)
      (λ finds. kept_fits known (step_pick th (fresh_names s kinds) None) kinds (effect_here p s (fresh_names s kinds) None st) s h (names_fits known s th st kinds f h e) finds)
      (way_of limit th st s (thread_step p n limit th st kinds (fresh_names s kinds) None s) (kept_step p limit th st kinds (fresh_names s kinds) s) (effect_here p s (fresh_names s kinds) None st) d g)

  pub unit_fits : (known : List VarName) (th : ThreadName) (s : Site) (d : Transition) → SiteFits p n i known s → IsUnit p n limit th s d → FitsOn p n i R known d
  unit_fits known th s d h (st, at, unit) = need_fits known s th st (stack_need p s.equations st) d (thread_at known s th st Runs at h) h refl unit

  pub units_fits : (ths : List ThreadName) (known : List VarName) (s : Site) (d : Transition) → SiteFits p n i known s → AreUnits p n limit ths s d → FitsOn p n i R known d
  units_fits [] known s d h e = subst (FitsOn p n i R known) (sym e) (still known s h)
  units_fits (th ∷ ths) known s d h (one, rest, unit, units, e) = go (unit_fits known th s one h unit) (λ more k. units_fits ths more one.site rest k units)
    where
      go : FitsOn p n i R known one → ((more : List VarName) → SiteFits p n i more one.site → FitsOn p n i R more rest) → FitsOn p n i R known d
      go f g = last (g f.more f.site)
        where
          last : FitsOn p n i R f.more rest → FitsOn p n i R known d
          last k = subst (FitsOn p n i R known) (sym e) (record {
            more = k.more;
            grows = λ x c. k.grows x (f.grows x c);
            new = new_then R known f.more k.more f.new k.new;
            site = k.site;
            sent = all_append p n k.more one.sent rest.sent (all_grow p n f.more k.more one.sent k.grows f.sent) k.sent;
          })

  -- ---- messages

  -- all variables of a message
  term_vars : (P : Name → Type 0) (t : Term) → EachOfTerm P t → (x : VarName) → Contains (vars_of t) x → P (name.Var x)
  term_vars P (term.Var y) h x c = one (Contains-cons_cases y x [] c)
    where
      one : (y ≡ x) ⊎ Contains [] x → P (name.Var x)
      one (inl e) = subst (λ (z : VarName). P (name.Var z)) e h
      one (inr k) = absurd (nothing x k)
  term_vars P (term.Node (node.Rec l fs)) h x c = fields fs h c
    where
      fields : (fs : List (Feature × VarName)) → Each (λ (f : Feature × VarName). P (name.Var f.1)) fs → Contains (field_vars fs) x → P (name.Var x)
      fields [] h c = absurd (nothing x c)
      fields (f ∷ fs) h c = by (Contains-cons_cases f.1 x (field_vars fs) c) (λ k. fields fs h.1 k)
        where
          by : (f.1 ≡ x) ⊎ Contains (field_vars fs) x → (Contains (field_vars fs) x → P (name.Var x)) → P (name.Var x)
          by (inl e) ih = subst (λ (z : VarName). P (name.Var z)) e h.0
          by (inr k) ih = ih k
  term_vars P (term.Node (node.Proc formals code q vars)) h x c = each_in vars h.1 x c
    where
      each_in : (xs : List VarName) → Each (λ (y : VarName). P (name.Var y)) xs → (x : VarName) → Contains xs x → P (name.Var x)
      each_in [] h x c = absurd (nothing x c)
      each_in (y ∷ xs) h x c = by (Contains-cons_cases y x xs c) (λ k. each_in xs h.1 x k)
        where
          by : (y ≡ x) ⊎ Contains xs x → (Contains xs x → P (name.Var x)) → P (name.Var x)
          by (inl e) ih = subst (λ (z : VarName). P (name.Var z)) e h.0
          by (inr k) ih = ih k
  term_vars P (term.Node (node.Int i)) h x c = absurd (nothing x c)
  term_vars P (term.Node (node.Atom t)) h x c = absurd (nothing x c)
  term_vars P (term.Node (node.Cell d)) h x c = absurd (nothing x c)
  term_vars P (term.Node (node.Port d)) h x c = absurd (nothing x c)

  list_vars : (P : Name → Type 0) (xs : List VarName) → Each (λ (y : VarName). P (name.Var y)) xs → (x : VarName) → Contains xs x → P (name.Var x)
  list_vars P [] h x c = absurd (nothing x c)
  list_vars P (y ∷ xs) h x c = by (Contains-cons_cases y x xs c) (λ k. list_vars P xs h.1 x k)
    where
      by : (y ≡ x) ⊎ Contains xs x → (Contains xs x → P (name.Var x)) → P (name.Var x)
      by (inl e) ih = subst (λ (z : VarName). P (name.Var z)) e h.0
      by (inr k) ih = ih k

  bundle_vars : (P : Name → Type 0) (es : List Equation) → Each (EachOfEquation P) es → (x : VarName) → Contains (vars_of_equations es) x → P (name.Var x)
  bundle_vars P [] h x c = absurd (nothing x c)
  bundle_vars P (e ∷ es) h x c = by (Contains-append_cases (e.0 ∷ vars_of e.1) (vars_of_equations es) x c) (λ k. bundle_vars P es h.1 x k)
    where
      head : (e.0 ≡ x) ⊎ Contains (vars_of e.1) x → P (name.Var x)
      head (inl q) = subst (λ (z : VarName). P (name.Var z)) q h.0.0
      head (inr k) = term_vars P e.1 h.0.1 x k

      by : Contains (e.0 ∷ vars_of e.1) x ⊎ Contains (vars_of_equations es) x → (Contains (vars_of_equations es) x → P (name.Var x)) → P (name.Var x)
      by (inl k) ih = head (Contains-cons_cases e.0 x (vars_of e.1) k)
      by (inr k) ih = ih k

  head_or : (P : Name → Type 0) (y : VarName) (xs : List VarName) → P (name.Var y) → ((x : VarName) → Contains xs x → P (name.Var x)) → (x : VarName) → Contains (y ∷ xs) x → P (name.Var x)
  head_or P y xs h f x c = by (Contains-cons_cases y x xs c)
    where
      by : (y ≡ x) ⊎ Contains xs x → P (name.Var x)
      by (inl e) = subst (λ (z : VarName). P (name.Var z)) e h
      by (inr k) = f x k

  said_vars : (P : Name → Type 0) (m : Msg) → EachOfMsg P m → (x : VarName) → Contains (body_vars m) x → P (name.Var x)
  said_vars P (msg.Spawn th code vars es) h x c = list_vars P vars h.1 x c
  said_vars P (msg.Register y k) h x c = head_or P y [] h (λ z d. absurd (nothing z d)) x c
  said_vars P (msg.BindReq y th t es) h x c = head_or P y (vars_of t) h.0 (term_vars P t h.2) x c
  said_vars P (msg.Binding y t es) h x c = head_or P y (vars_of t) h.0 (term_vars P t h.1) x c
  said_vars P (msg.Get d k) h x c = absurd (nothing x c)
  said_vars P (msg.Forward d k) h x c = absurd (nothing x c)
  said_vars P (msg.Put d v es) h x c = head_or P v [] h.1 (λ z d. absurd (nothing z d)) x c
  said_vars P (msg.PortSend q th k) h x c = absurd (nothing x c)
  said_vars P (msg.PortEnd th old new es) h x c = head_or P old (new ∷ []) h.1 (head_or P new [] h.2 (λ z d. absurd (nothing z d))) x c
  said_vars P (msg.CellMake d v es) h x c = head_or P v [] h.1 (λ z d. absurd (nothing z d)) x c
  said_vars P (msg.CellAsk d th k v es) h x c = head_or P v [] h.2 (λ z d. absurd (nothing z d)) x c
  said_vars P (msg.CellOld th v es) h x c = head_or P v [] h.1 (λ z d. absurd (nothing z d)) x c

  bundle_each : (P : Name → Type 0) (m : Msg) → EachOfMsg P m → Each (EachOfEquation P) (message_bundle m)
  bundle_each P (msg.Spawn th code vars es) h = h.2
  bundle_each P (msg.Register y k) h = tt
  bundle_each P (msg.BindReq y th t es) h = h.3
  bundle_each P (msg.Binding y t es) h = h.2
  bundle_each P (msg.Get d k) h = tt
  bundle_each P (msg.Forward d k) h = tt
  bundle_each P (msg.Put d v es) h = h.2
  bundle_each P (msg.PortSend q th k) h = tt
  bundle_each P (msg.PortEnd th old new es) h = h.3
  bundle_each P (msg.CellMake d v es) h = h.2
  bundle_each P (msg.CellAsk d th k v es) h = h.3
  bundle_each P (msg.CellOld th v es) h = h.2

  -- the homes of which a message tells are those in its names
  rows_homes : (P : Name → Type 0) → ((x : Name) → P x → HasHomeIn n x) → (es : List Equation) → Each (EachOfEquation P) es → Each (EachOfEquation (HasHomeIn n)) es
  rows_homes P w es h = Each-weaker _ _ (EachOfEquation-weaker P (HasHomeIn n) w) es h

  pub msg_homes : (P : Name → Type 0) → ((x : Name) → P x → HasHomeIn n x) → (m : Msg) → EachOfMsg P m → MessageHomes n m
  msg_homes P w (msg.Spawn th code vars es) h = (tt, rows_homes P w es h.2)
  msg_homes P w (msg.Register y k) h = (tt, tt)
  msg_homes P w (msg.BindReq y th t es) h = (EachOfTerm-weaker P (HasHomeIn n) w t h.2, rows_homes P w es h.3)
  msg_homes P w (msg.Binding y t es) h = (EachOfTerm-weaker P (HasHomeIn n) w t h.1, rows_homes P w es h.2)
  msg_homes P w (msg.Get d k) h = (tt, tt)
  msg_homes P w (msg.Forward d k) h = (tt, tt)
  msg_homes P w (msg.Put d v es) h = (tt, rows_homes P w es h.2)
  msg_homes P w (msg.PortSend q th k) h = (tt, tt)
  msg_homes P w (msg.PortEnd th old new es) h = (tt, rows_homes P w es h.3)
  msg_homes P w (msg.CellMake d v es) h = (w (name.Cell d) h.0, rows_homes P w es h.2)
  msg_homes P w (msg.CellAsk d th k v es) h = (w (name.Cell d) h.0, rows_homes P w es h.3)
  msg_homes P w (msg.CellOld th v es) h = (tt, rows_homes P w es h.2)

  pub msg_vars : (P : Name → Type 0) (m : Msg) → EachOfMsg P m → (x : VarName) → Contains (message_vars m) x → P (name.Var x)
  msg_vars P m h x c = by (Contains-append_cases (body_vars m) (vars_of_equations (message_bundle m)) x c)
    where
      by : Contains (body_vars m) x ⊎ Contains (vars_of_equations (message_bundle m)) x → P (name.Var x)
      by (inl k) = said_vars P m h x k
      by (inr k) = bundle_vars P (message_bundle m) (bundle_each P m h) x k
