-- What a site knows stays known.
use Rattle.std.proofs.Common.{◌≡◌, ◌∙◌, sym, ap, refl, subst, ℕ, List, [], ◌∷◌, inl, inr, Bool, true, false, cond, Some, None}
use Rattle.std.specs.Prelude.{Option, Contains, ◌==◌}
use Rattle.tree_node.specs.declared.names.VarName.{VarName}
use Rattle.tree_node.specs.declared.names.CellName.{CellName}
use Rattle.tree_node.specs.declared.names.ThreadName.{ThreadName}
use Rattle.tree_node.specs.declared.names.NameKind.{NameKind}
use Rattle.tree_node.specs.declared.node.Term.{Term}
use Rattle.tree_node.specs.declared.pick.Pick.{Pick}
use Rattle.tree_node.specs.State.{Stack}
use Rattle.tree_node.specs.Store.{Store, Equation}
use Rattle.tree_node.proofs.ClassLemmas.{Contains-tail}
use Rattle.kernel_syntax.specs.declared.stmt.Stmt.{Stmt}
use Rattle.site_message.specs.declared.message.Msg.{Msg}
use Rattle.site_message.specs.declared.message.Msg.TheVariants as msg
use Rattle.oz_model.specs.Answers.{IsPartOf}
use Rattle.oz_model.specs.Need.{Need, Waits, WaitsAny, Binds, Takes, stack_need}
use Rattle.oz_model.specs.Effect.{Birth, CellChange, Stays, Made, Exchanged, Effect}
use Rattle.bind_protocol.specs.Records.{is_own, knowledge}
use Rattle.bind_protocol.specs.Rows.{sent_message}
use Rattle.site_model.specs.Requests.{NewEnd, OldContent, after_answer, cell_ask_row, serve_request, serve_early}
use Rattle.site_model.specs.Site.{Site, ThreadState, EarlyRequest, thread_state, cell_record, home_record}
use Rattle.site_model.specs.Bundle.{with_own_bundle, message_bundle}
use Rattle.site_model.specs.Transition.{Transition, without_output, with_messages}
use Rattle.site_model.specs.Variables.{with_new_equation, with_known_equation, with_known_equations, own_bind, own_binds, opening}
use Rattle.site_model.specs.Cells.{serving, after_exchange, content_after_exchange, request_row}
use Rattle.site_model.specs.Messages.{with_thread, bind_request_row, message_row}
use Rattle.site_model.specs.Unit.{with_fresh_names, placement, birth_row, after_cell, after_effect, step_row, thread_step, bind_attempt, fresh_names, effect_here, kept_step, kept_step_row, step_pick, IsUnitFor}
use Rattle.site_model.specs.Turn.{IsReception, AreUnits, SiteTurn}
use Rattle.site_model.specs.Run.{delivered_message}
use Rattle.world_model.proofs.CellLemmas.{request_only}
use Rattle.world_messages.proofs.HomeRowLemmas.{kept_apart, kept_site, answer_rest, serve_rest, early_rest}
use Rattle.world_messages.proofs.WayLemmas.{Way, Steps, Opens, Sends, Makes, Exchanges, AsksToken, AsksPort, AsksHome, WaitsEarly, WaitsPort, way_of}
use Rattle.world_simulation.specs.Stays.{EquationsStay}

abbrev Grows : Site → Site → Type 0
Grows s t = IsPartOf s.equations t.equations

same : (s t : Site) → t.equations ≡ s.equations → Grows s t
same s t e x c = subst (λ (q : Store). Contains q x) (sym e) c

both : (s t u : Site) → Grows s t → Grows t u → Grows s u
both s t u h k x c = k x (h x c)

one_more : (s t : Site) (x : VarName) (r : Term) → t.equations ≡ (x, r) ∷ s.equations → Grows s t
one_more s t x r e y c = subst (λ (q : Store). Contains q y) (sym e) (Contains-tail (x, r) y s.equations c)

-- ---- messages

told_grows : (s : Site) (x : VarName) (t : Term) → Grows s (with_known_equation s x t)
told_grows s x t = go (is_own s.records x) refl (knowledge s.records x) refl
  where
    go : (b : Bool) → is_own s.records x ≡ b → (o : Option (Option Term)) → knowledge s.records x ≡ o → Grows s (with_known_equation s x t)
    go true q o k = rw (k, q) (λ y c. c)
    go false q None k = rw (k, q) (one_more s (with_new_equation s x t) x t refl)
    go false q (Some None) k = rw (k, q) (one_more s (with_new_equation s x t) x t refl)
    go false q (Some (Some r)) k = rw (k, q) (λ y c. c)

told_all_grow : (es : List Equation) (s : Site) → Grows s (with_known_equations s es)
told_all_grow [] s x c = c
told_all_grow (e ∷ es) s x c = told_all_grow es (with_known_equation s e.0 e.1) x (told_grows s e.0 e.1 x c)

module _ (p : List Stmt) (n limit : ℕ) where
  binds_grow : (es : List Equation) (s : Site) → Grows s (own_binds limit es s).site
  binds_grow [] s x c = c
  binds_grow (e ∷ es) s x c = one_more (own_binds limit es s).site (own_bind limit e.0 e.1 (own_binds limit es s).site).site e.0 e.1 refl x (binds_grow es s x c)

  exchange_same : (th : ThreadName) (v : VarName) (s : Site) → (after_exchange p th v s).equations ≡ s.equations
  exchange_same th v s = go (thread_state s th) refl
    where
      go : (o : Option ThreadState) → thread_state s th ≡ o → (after_exchange p th v s).equations ≡ s.equations
      go None q = rw q refl
      go (Some st) q = rw q refl

  serving_same : (c : CellName) (ns : List ThreadName) (v : VarName) (s : Site) → (serving p c ns v s).site.equations ≡ s.equations
  serving_same c [] v s = refl
  serving_same c (m ∷ ns) v s = serving_same c ns (content_after_exchange p m v s) (after_exchange p m v s) ∙ exchange_same m v s

  request_grows : (x : VarName) (t : Term) (th : ThreadName) (s : Site) → Grows s (bind_request_row limit x t th s).site
  request_grows x t th s = go (knowledge s.records x) refl
    where
      go : (o : Option (Option Term)) → knowledge s.records x ≡ o → Grows s (bind_request_row limit x t th s).site
      go None q = rw q (λ y c. c)
      go (Some None) q = rw q (one_more s (own_bind limit x t s).site x t refl)
      go (Some (Some r)) q = rw q (λ y c. c)

  ask_grows : (d : CellName) (r : EarlyRequest) (s : Site) → Grows s (cell_ask_row p limit d r s).site
  ask_grows d r s = go (home_record s d).content refl
    where
      go : (o : Option VarName) → (home_record s d).content ≡ o → Grows s (cell_ask_row p limit d r s).site
      go None q = rw q (λ x c. c)
      go (Some v) q = rw q (same s (serve_request p limit d r v s).site (serve_rest p limit d r v s).equations)

  row_grows : (m : Msg) (s : Site) → Grows s (message_row p limit m s).site
  row_grows (msg.Spawn th code vars es) s x c = c
  row_grows (msg.Register y k) s x c = c
  row_grows (msg.BindReq y th t es) s x c = request_grows y t th s x c
  row_grows (msg.Binding y t es) s x c = told_grows s y t x c
  row_grows (msg.Get d k) s x c = c
  row_grows (msg.Forward d k) s x c = c
  row_grows (msg.Put d v es) s x c = subst (λ (q : Store). Contains q x) (sym (serving_same d (cell_record s d).queue v s)) c
  row_grows (msg.PortSend q th k) s x c = c
  row_grows (msg.PortEnd th old new es) s x c = same s (after_answer p th (NewEnd old new) s) (answer_rest p th (NewEnd old new) s).equations x c
  row_grows (msg.CellMake d v es) s x c = same s (serve_early p limit d v (home_record s d).early s).site (early_rest p limit d (home_record s d).early v s).equations x c
  row_grows (msg.CellAsk d th k v es) s x c = ask_grows d (record { thread = th; asking = k; new = v }) s x c
  row_grows (msg.CellOld th v es) s x c = same s (after_answer p th (OldContent v) s) (answer_rest p th (OldContent v) s).equations x c

  heard_grows : (m : Option Msg) (s : Site) (d : Transition) → IsReception p n limit m s d → Grows s d.site
  heard_grows None s d e = subst (λ (t : Transition). Grows s t.site) (sym e) (λ x c. c)
  heard_grows (Some m) s d (inl h) = subst (λ (t : Transition). Grows s t.site) (sym h.1) (λ x c. row_grows m (opening m s).site x (told_all_grow (message_bundle m) s x c))
  heard_grows (Some m) s d (inr h) = subst (λ (t : Transition). Grows s t.site) (sym h.1) (λ x c. c)

  -- ---- units

  cell_same : (c : CellChange) (s : Site) → (after_cell c s).equations ≡ s.equations
  cell_same Stays s = refl
  cell_same (Made c v) s = refl
  cell_same (Exchanged c new told) s = refl

  birth_same : (b : Option Birth) (s : Site) → (birth_row p n limit b s).site.equations ≡ s.equations
  birth_same None s = refl
  birth_same (Some b) s = go (placement n s.records.site b.at == s.records.site)
    where
      go : (c : Bool) → (cond c (without_output (with_thread p (Some b) s)) (with_messages s (with_own_bundle limit s.equations (sent_message (placement n s.records.site b.at) (msg.Spawn b.name b.code b.vars [])) ∷ []))).site.equations ≡ s.equations
      go true = refl
      go false = refl

  step_grows : (k : Pick) (kinds : List NameKind) (e : Effect) (s : Site) → Grows s (step_row p n limit k kinds e s).site
  step_grows k kinds e s x c =
      let bound : Contains (own_binds limit e.adds (with_fresh_names kinds s)).site.equations x = binds_grow e.adds (with_fresh_names kinds s) x c in
      subst (λ (q : Store). Contains q x) (sym (birth_same e.born (after_effect k.thread e (own_binds limit e.adds (with_fresh_names kinds s)).site) ∙ cell_same e.cell (own_binds limit e.adds (with_fresh_names kinds s)).site)) bound

  attempt_grows : (th : ThreadName) (st : Stack) (u : VarName) (t : Term) (b : Bool) (s : Site) → Grows s (bind_attempt p n limit th st u t b s).site
  attempt_grows th st u t true s x c = step_grows (step_pick th [] (Some (u, t))) [] (effect_here p s [] (Some (u, t)) st) s x c
  attempt_grows th st u t false s x c = c

  kept_grows : (k : Pick) (kinds : List NameKind) (e : Effect) (s : Site) → Grows s (kept_step_row limit k kinds e s).site
  kept_grows k kinds e s = same s (kept_step_row limit k kinds e s).site (ap (λ (t : Site). t.equations) (kept_site limit k kinds e s) ∙ (kept_apart kinds e s).rest.equations)

  way_grows : (th : ThreadName) (st : Stack) (s : Site) (step kept : Transition) (e : Effect) (d : Transition) → Grows s step.site → Grows s kept.site → Way limit th st s step kept e d → Grows s d.site
  way_grows th st s step kept e d k g (Steps finds is) = subst (λ (t : Transition). Grows s t.site) (sym is) k
  way_grows th st s step kept e d k g (Opens q end is0 is) = subst (λ (t : Transition). Grows s t.site) (sym is) g
  way_grows th st s step kept e d k g (Sends q value new end is0 has is) = subst (λ (t : Transition). Grows s t.site) (sym is) g
  way_grows th st s step kept e d k g (Makes c v keeps is0 is) = subst (λ (t : Transition). Grows s t.site) (sym is) g
  way_grows th st s step kept e d k g (Exchanges c new told v keeps is0 has is) = subst (λ (t : Transition). Grows s t.site) (sym is) g
  way_grows th st s step kept e d k g (AsksToken c new none is) = subst (λ (t : Transition). Grows s t.site) (sym is) (same s (request_row limit c new th st s).site (request_only limit c new th st s).equations)
  way_grows th st s step kept e d k g (AsksPort q other is) = subst (λ (t : Transition). Grows s t.site) (sym is) (λ x c. c)
  way_grows th st s step kept e d k g (AsksHome c new told is0 other is) = subst (λ (t : Transition). Grows s t.site) (sym is) (λ x q. q)
  way_grows th st s step kept e d k g (WaitsEarly c new told is0 is) = subst (λ (t : Transition). Grows s t.site) (sym is) (λ x q. q)
  way_grows th st s step kept e d k g (WaitsPort q is) = subst (λ (t : Transition). Grows s t.site) (sym is) (λ x c. c)

  unit_for_grows : (th : ThreadName) (st : Stack) (s : Site) (need : Need) (d : Transition) → IsUnitFor p n limit s th st need d → Grows s d.site
  unit_for_grows th st s (Waits x) d (z, is, g) = subst (λ (t : Transition). Grows s t.site) (sym g) (λ y c. c)
  unit_for_grows th st s (WaitsAny q) d (xs, is, g) = subst (λ (t : Transition). Grows s t.site) (sym g) (λ y c. c)
  unit_for_grows th st s (Binds a b) d (u, t, root, g) = subst (λ (e : Transition). Grows s e.site) (sym g) (attempt_grows th st u t (u.site == s.records.site) s)
  unit_for_grows th st s (Takes kinds) d g =
      way_grows th st s (thread_step p n limit th st kinds (fresh_names s kinds) None s) (kept_step p limit th st kinds (fresh_names s kinds) s) (effect_here p s (fresh_names s kinds) None st) d
      (step_grows (step_pick th (fresh_names s kinds) None) kinds (effect_here p s (fresh_names s kinds) None st) s)
      (kept_grows (step_pick th (fresh_names s kinds) None) kinds (effect_here p s (fresh_names s kinds) None st) s)
      (way_of limit th st s (thread_step p n limit th st kinds (fresh_names s kinds) None s) (kept_step p limit th st kinds (fresh_names s kinds) s) (effect_here p s (fresh_names s kinds) None st) d g)

  units_grow : (ths : List ThreadName) (s : Site) (d : Transition) → AreUnits p n limit ths s d → Grows s d.site
  units_grow [] s d e = subst (λ (t : Transition). Grows s t.site) (sym e) (λ x c. c)
  units_grow (th ∷ ths) s d (one, rest, unit, units, e) =
      subst (λ (t : Transition). Grows s t.site) (sym e) (both s one.site rest.site (unit_for_grows th unit.0 s (stack_need p s.equations unit.0) one unit.2) (units_grow ths one.site rest units))

  turn_grows : (m : Option Msg) (s : Site) (d : Transition) → SiteTurn p n limit s m d → Grows s d.site
  turn_grows m s d (ths, few, (heard, rest, first, units, e)) =
      subst (λ (t : Transition). Grows s t.site) (sym e) (both s heard.site rest.site (heard_grows m s heard first) (units_grow ths heard.site rest units))

-- ---- runs

pub equations_stay : EquationsStay
equations_stay p n limit j e old new (d, turn, told, is) =
    subst (λ (t : Site). IsPartOf old.equations t.equations) (sym is) (turn_grows p n limit (delivered_message j e.delivered) old d (e.units, turn.0, turn.1))
