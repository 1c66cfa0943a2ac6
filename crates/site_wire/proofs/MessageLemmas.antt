-- Messages that come to a site that fits, and whole turns.
use Rattle.std.proofs.Common.{◌≡◌, ◌≢◌, ◌∙◌, sym, ap, refl, subst, ℕ, ◌≤◌, ◌<◌, List, [], ◌∷◌, ◌⊎◌, inl, inr, Bool, true, false, cond, Some, None}
use Rattle.std.specs.Prelude.{Option, ◌==◌}
use Rattle.tree_node.specs.declared.names.VarName.{VarName}
use Rattle.tree_node.specs.declared.names.CellName.{CellName}
use Rattle.tree_node.specs.declared.names.ThreadName.{ThreadName}
use Rattle.tree_node.specs.declared.node.Feature.{Feature}
use Rattle.tree_node.specs.declared.node.Node.TheVariants as node
use Rattle.tree_node.specs.declared.node.Term.{Term}
use Rattle.tree_node.specs.declared.node.Term.TheVariants as term
use Rattle.tree_node.specs.Assoc.{with_value}
use Rattle.tree_node.specs.Each.{Each, AreDistinct}
use Rattle.tree_node.specs.Goal.{equal_cell}
use Rattle.tree_node.specs.State.{equal_thread}
use Rattle.tree_node.specs.Store.{Equation}
use Rattle.tree_node.proofs.EachLemmas.{each_append}
use Rattle.kernel_syntax.specs.declared.stmt.Stmt.{Stmt}
use Rattle.kernel_syntax.specs.Program.{IsProgram}
use Rattle.indexmap.specs.IndexMap.{insert_entry}
use Rattle.site_message.specs.declared.message.Msg.{Msg}
use Rattle.site_message.specs.declared.message.Msg.TheVariants as msg
use Rattle.site_message.specs.declared.message.Sent.{Sent}
use Rattle.site_message.specs.Vars.{vars_of, field_vars}
use Rattle.site_message.specs.Wire.{IsSite, FitsVar, FitsCell, FitsField, FitsTerm, FitsEquation, FitsWire}
use Rattle.oz_model.specs.Effect.{CellChange, Stays, Made, Exchanged, stack_effect}
use Rattle.oz_model.specs.EffectNames.{EachOfChange}
use Rattle.oz_model.proofs.KindLemmas.{equal_cell_decides, cell_cases}
use Rattle.variable_owner.specs.declared.owners.Owner.{Owner}
use Rattle.variable_owner.specs.declared.owners.Owner.TheVariants.{Open, Bound}
use Rattle.variable_owner.specs.Owners.{owner_of}
use Rattle.bind_protocol.specs.Records.{knowledge}
use Rattle.bind_protocol.specs.Rows.{register_sends}
use Rattle.thread_roster.specs.declared.mode.Awaited.TheVariants.{Cell, Port}
use Rattle.thread_roster.specs.declared.mode.Mode.TheVariants.{Runs, WaitsFor}
use Rattle.token_chain.specs.declared.token.Token.TheVariants.{Here}
use Rattle.site_model.specs.Site.{Site, CellRecord, Counters, thread_state, cell_record}
use Rattle.site_model.specs.Bundle.{with_own_bundles, message_bundle, vars_of_equations, body_vars, message_vars}
use Rattle.site_model.specs.Transition.{Transition}
use Rattle.site_model.specs.Variables.{with_known_equations, own_bind, opening}
use Rattle.site_model.specs.Cells.{content_after_change, exchange_stack, after_exchange, content_after_exchange, serving, leave_row, with_last_asker}
use Rattle.site_model.specs.Messages.{birth, with_thread, register_row, bind_request_row, message_row}
use Rattle.site_model.specs.Fit.{CodesFit, IsFit}
use Rattle.site_model.specs.Turn.{IsReception, SiteTurn}
use Rattle.site_wire.specs.Sending.{CanBeSpelled, IsOfSites, TermFits, StackFits, ThreadFits, IsInLine, QueueFits, SiteFits, TransitionFits, home_in, own_threads, line_in}
use Rattle.site_wire.proofs.TermLemmas.{term_heard, equations_heard}
use Rattle.site_wire.proofs.EffectLemmas.{GoesOn, calm_fits}
use Rattle.site_wire.proofs.ThreadLemmas.{besides, besides_fit, served_fit, line_stays, queues_same}
use Rattle.site_wire.proofs.CellLemmas.{leave_fits, get_fits, contents_put, line_mobile}
use Rattle.site_wire.proofs.SiteLemmas.{registered_fit, still, fits_then, meets_fit, told_fit, told_all_fit, told_each, bind_fits, reply_fits, in_queue}
use Rattle.site_wire.proofs.StepLemmas.{begins_fits, settled_fits}
use Rattle.site_wire.proofs.UnitLemmas.{units_fit}
use Rattle.site_wire.proofs.AnswerLemmas.{BesidesFits, told_all_waits, ends_fit, contents_fit, end_moves, asked_fits, makes_fit}
use Rattle.site_model.proofs.CellKeyLemmas.{place_here, place_other}
use Rattle.site_model.proofs.FrameLemmas.{told_all_counters}
use Rattle.site_model.proofs.BundleLemmas.{bundle_wire}
use Rattle.world_model.proofs.AbsentLemmas.{told_all_none}

-- ---- the variables of a message

fields_vars : (fs : List (Feature × VarName)) → Each FitsField fs → Each FitsVar (field_vars fs)
fields_vars [] h = tt
fields_vars (f ∷ fs) h = (h.0.1, fields_vars fs h.1)

term_vars : (t : Term) → FitsTerm t → Each FitsVar (vars_of t)
term_vars (term.Var x) h = (h, tt)
term_vars (term.Node (node.Int z)) h = tt
term_vars (term.Node (node.Atom t)) h = tt
term_vars (term.Node (node.Rec l fs)) h = fields_vars fs h.1.2
term_vars (term.Node (node.Proc formals code q vars)) h = h.2.1
term_vars (term.Node (node.Cell c)) h = tt
term_vars (term.Node (node.Port c)) h = tt

equations_vars : (es : List Equation) → Each FitsEquation es → Each FitsVar (vars_of_equations es)
equations_vars [] h = tt
equations_vars (e ∷ es) h = each_append FitsVar (e.0 ∷ vars_of e.1) (vars_of_equations es) (h.0.0, term_vars e.1 h.0.1) (equations_vars es h.1)

body_fits : (m : Msg) → FitsWire m → Each FitsVar (body_vars m)
body_fits (msg.Spawn th code vars es) h = h.1.1
body_fits (msg.Register x k) h = (h.0, tt)
body_fits (msg.BindReq x th t es) h = (h.0, term_vars t h.2)
body_fits (msg.Binding x t es) h = (h.0, term_vars t h.1)
body_fits (msg.Get c k) h = tt
body_fits (msg.Forward c k) h = tt
body_fits (msg.Put c v es) h = (h.1, tt)
body_fits (msg.PortSend q th k) h = tt
body_fits (msg.PortEnd th old new es) h = (h.1, (h.2, tt))
body_fits (msg.CellMake c v es) h = (h.2, tt)
body_fits (msg.CellAsk c th k new es) h = (h.4, tt)
body_fits (msg.CellOld th v es) h = (h.1, tt)

vars_fit : (m : Msg) → FitsWire m → Each FitsVar (message_vars m)
vars_fit m h = each_append FitsVar (body_vars m) (vars_of_equations (message_bundle m)) (body_fits m h) (equations_vars (message_bundle m) (bundle_wire m h))

-- ---- what equations that come to be known leave as it was

-- ---- contents

content_fits : (v : VarName) (c : CellChange) → FitsVar v → EachOfChange IsOfSites c → FitsVar (content_after_change v c)
content_fits v Stays f g = f
content_fits v (Made d w) f g = f
content_fits v (Exchanged d new told) f g = g.1

module _ (p : List Stmt) (is : IsProgram p) (n limit : ℕ) (high : limit ≤ 256) (i : ℕ) (low : IsSite i) where
  opens_fit : (m : Msg) (s : Site) → FitsWire m → CodesFit p m → SiteFits p i s → TransitionFits p i (opening m s)
  opens_fit m s w c h = meets_fit p is limit high i low (message_vars m) (with_known_equations s (message_bundle m)) (vars_fit m w)
      (told_all_fit p is limit high i low (message_bundle m) s (equations_heard p (message_bundle m) (bundle_wire m w) c.1.1) h)

  -- ---- those that waited are served

  serves_fit : (c : CellName) (ns : List ThreadName) (v : VarName) (s : Site) → c.at ≡ 0 → FitsVar v → AreDistinct ns → Each (IsInLine s.threads c) ns → BesidesFits p i c s → TransitionFits p i (serving p c ns v s)
  serves_fit c [] v s mobile fits once line h = record {
    site = record {
      site = h.site;
      equations = h.equations;
      owners = h.owners;
      threads = queues_same p i s.counters.threads s.threads (besides c (line_in i s.cell_records s.homes)) _ (λ d. same d (cell_cases d c)) h.threads;
      contents = contents_put s.cell_records c (record { held = record (cell_record s c).held { token = Here v; waiting = 0 }; queue = [] }) fits h.contents;
      kept = h.kept;
    };
    sent = tt;
  }
    where
      same : (d : CellName) → (d ≡ c) ⊎ (d ≢ c) → line_in i (insert_entry equal_cell s.cell_records c (record { held = record (cell_record s c).held { token = Here v; waiting = 0 }; queue = [] })) s.homes d ≡ besides c (line_in i s.cell_records s.homes) d
      same d (inl e) =
          let none : line_in i (insert_entry equal_cell s.cell_records c (record { held = record (cell_record s c).held { token = Here v; waiting = 0 }; queue = [] })) s.homes c ≡ [] =
          line_mobile i (insert_entry equal_cell s.cell_records c (record { held = record (cell_record s c).held { token = Here v; waiting = 0 }; queue = [] })) s.homes c mobile ∙ ap (λ (q : CellRecord). q.queue) (place_here s.cell_records c (record { held = record (cell_record s c).held { token = Here v; waiting = 0 }; queue = [] })) in
          let yes : equal_cell d c ≡ true = (equal_cell_decides d c).1 e in
          subst (λ (z : CellName). line_in i (insert_entry equal_cell s.cell_records c (record { held = record (cell_record s c).held { token = Here v; waiting = 0 }; queue = [] })) s.homes z ≡ []) (sym e) none ∙ sym (ap (λ (b : Bool). cond b [] (line_in i s.cell_records s.homes d)) yes)
      same d (inr e) =
          let no : equal_cell d c ≡ false = go (equal_cell d c) refl in
          ap (λ (q : CellRecord). cond (d.at == 0) q.queue (cond (d.at == i) (own_threads i (home_in s.homes d).early) [])) (place_other s.cell_records c d (record { held = record (cell_record s c).held { token = Here v; waiting = 0 }; queue = [] }) e)
          ∙ sym (ap (λ (b : Bool). cond b [] (line_in i s.cell_records s.homes d)) no)
        where
          go : (b : Bool) → equal_cell d c ≡ b → equal_cell d c ≡ false
          go true q = absurd (e ((equal_cell_decides d c).0 q))
          go false q = q
  serves_fit c (th ∷ ns) v s mobile fits once line h =
      let now : thread_state s th ≡ Some (line.0.0, WaitsFor (Cell c)) = line.0.1 in
      let was : ThreadFits p th (line.0.0, WaitsFor (Cell c)) = h.threads.each th (line.0.0, WaitsFor (Cell c)) now in
      let calm : GoesOn p (stack_effect p s.equations [] None line.0.0) = calm_fits p is s.equations line.0.0 h.equations was.stack (was.calm c refl) in
      let left : StackFits p (exchange_stack v (stack_effect p s.equations [] None line.0.0).cell (stack_effect p s.equations [] None line.0.0).stack) =
      settled_fits p is n limit high i low v (stack_effect p s.equations [] None line.0.0).cell (stack_effect p s.equations [] None line.0.0).stack (λ d new told e. fits) calm.1 calm.0 in
      let next : BesidesFits p i c (record s { threads = with_value equal_thread s.threads th (exchange_stack v (stack_effect p s.equations [] None line.0.0).cell (stack_effect p s.equations [] None line.0.0).stack, Runs) }) = record {
        site = h.site;
        equations = h.equations;
        owners = h.owners;
        threads = served_fit p i s.counters.threads s.threads (line_in i s.cell_records s.homes) c th line.0.0 (exchange_stack v (stack_effect p s.equations [] None line.0.0).cell (stack_effect p s.equations [] None line.0.0).stack) now left h.threads;
        contents = h.contents;
        kept = h.kept;
      } in
      let rest : TransitionFits p i (serving p c ns (content_after_change v (stack_effect p s.equations [] None line.0.0).cell) (record s { threads = with_value equal_thread s.threads th (exchange_stack v (stack_effect p s.equations [] None line.0.0).cell (stack_effect p s.equations [] None line.0.0).stack, Runs) })) =
      serves_fit c ns (content_after_change v (stack_effect p s.equations [] None line.0.0).cell) (record s { threads = with_value equal_thread s.threads th (exchange_stack v (stack_effect p s.equations [] None line.0.0).cell (stack_effect p s.equations [] None line.0.0).stack, Runs) }) mobile
      (content_fits v (stack_effect p s.equations [] None line.0.0).cell fits calm.1) once.1 (line_stays p i s.threads c th _ ns once.0 line.1) next in
      let after : after_exchange p th v s ≡ record s { threads = with_value equal_thread s.threads th (exchange_stack v (stack_effect p s.equations [] None line.0.0).cell (stack_effect p s.equations [] None line.0.0).stack, Runs) } = rw now refl in
      let content : content_after_exchange p th v s ≡ content_after_change v (stack_effect p s.equations [] None line.0.0).cell = rw now refl in
      let whole : TransitionFits p i (serving p c ns (content_after_exchange p th v s) (after_exchange p th v s)) =
      subst (λ (u : Site). TransitionFits p i (serving p c ns (content_after_exchange p th v s) u)) (sym after)
      (subst (λ (w : VarName). TransitionFits p i (serving p c ns w (record s { threads = with_value equal_thread s.threads th (exchange_stack v (stack_effect p s.equations [] None line.0.0).cell (stack_effect p s.equations [] None line.0.0).stack, Runs) }))) (sym content) rest) in
      record { site = whole.site; sent = whole.sent }

  -- ---- rows

  asker_fits : (c : CellName) (k : ℕ) (s : Site) → SiteFits p i s → SiteFits p i (with_last_asker c k s)
  asker_fits c k s h = record { site = h.site; equations = h.equations; owners = h.owners; threads = h.threads; contents = h.contents; kept = h.kept }

  registers_fit : (x : VarName) (k : ℕ) (s : Site) → FitsVar x → SiteFits p i s → TransitionFits p i (register_row limit x k s)
  registers_fit x k s fx h = record {
    site = record { site = h.site; equations = h.equations; owners = registered_fit p s.records.owners x k h.owners; threads = h.threads; contents = h.contents; kept = h.kept };
    sent = go (owner_of s.records.owners x) refl;
  }
    where
      go : (o : Option Owner) → owner_of s.records.owners x ≡ o → CanBeSpelled (with_own_bundles limit s.equations (register_sends s.records x k))
      go None q = rw q tt
      go (Some (Open ks)) q = rw q tt
      go (Some (Bound t)) q = rw q (told_each p is limit high i low s.equations x t (k ∷ []) h.equations fx (h.owners x t q))

  asks_fit : (x : VarName) (t : Term) (th : ThreadName) (s : Site) → FitsVar x → TermFits p t → SiteFits p i s → TransitionFits p i (bind_request_row limit x t th s)
  asks_fit x t th s fx ft h = go (knowledge s.records x) refl
    where
      bound : TransitionFits p i (own_bind limit x t s)
      bound = bind_fits p is limit high i low x t s fx ft h

      go : (o : Option (Option Term)) → knowledge s.records x ≡ o → TransitionFits p i (bind_request_row limit x t th s)
      go None q = rw q (still p is limit high i low s h)
      go (Some None) q = rw q (record { site = bound.site; sent = bound.sent })
      go (Some (Some r)) q = rw q (still p is limit high i low s h)

  leaves_fit : (c : CellName) (s : Site) → FitsCell c → SiteFits p i s → TransitionFits p i (leave_row limit c s)
  leaves_fit c s pc h = reply_fits p is limit high i low c _ _ s pc (leave_fits (cell_record s c).held (h.contents c)) (in_queue p is limit high i low c s h) h

  row_fits : (m : Msg) (s : Site) → IsFit p n s m → SiteFits p i s → SiteFits p i (opening m s).site → TransitionFits p i (message_row p limit m (opening m s).site)
  row_fits (msg.Spawn th code vars es) s fit h g = still p is limit high i low (with_thread p (Some (birth th code vars)) (opening (msg.Spawn th code vars es) s).site)
      (begins_fits p is n limit high i low (birth th code vars) (opening (msg.Spawn th code vars es) s).site (fit.wire.0, fit.wire.1.1, fit.codes.0.1) (told_all_none es s th fit.takes)
      (λ mine. subst (λ (c : Counters). th.num < c.threads) (sym (told_all_counters es s)) (fit.names.0.3 (mine ∙ sym h.site))) g)
  row_fits (msg.Register x k) s fit h g = registers_fit x k (opening (msg.Register x k) s).site fit.wire.0 g
  row_fits (msg.BindReq x th t es) s fit h g = asks_fit x t th (opening (msg.BindReq x th t es) s).site fit.wire.0 (term_heard p t fit.wire.2 fit.codes.1.0) g
  row_fits (msg.Binding x t es) s fit h g = still p is limit high i low _ (told_fit p is limit high i low (opening (msg.Binding x t es) s).site x t fit.wire.0 (term_heard p t fit.wire.1 fit.codes.1.0) g)
  row_fits (msg.Get c k) s fit h g =
      reply_fits p is limit high i low c _ _ (with_last_asker c k (opening (msg.Get c k) s).site) fit.wire.0 (get_fits _ _ k (cell_record (opening (msg.Get c k) s).site c).held fit.wire.1 (g.contents c)) (in_queue p is limit high i low c (opening (msg.Get c k) s).site g) (asker_fits c k (opening (msg.Get c k) s).site g)
  row_fits (msg.Forward c k) s fit h g =
      reply_fits p is limit high i low c _ _ (opening (msg.Forward c k) s).site fit.wire.0 (leave_fits (record (cell_record (opening (msg.Forward c k) s).site c).held { next = Some k }) (g.contents c)) (in_queue p is limit high i low c (opening (msg.Forward c k) s).site g) g
  row_fits (msg.Put c v es) s fit h g =
      let t : Site = (opening (msg.Put c v es) s).site in
      let line : QueueFits t.threads c (cell_record t c).queue = in_queue p is limit high i low c t g fit.wire.0.1 in
      fits_then p is limit high i low (serving p c (cell_record t c).queue v t) (leave_row limit c)
      (serves_fit c (cell_record t c).queue v t fit.wire.0.1 fit.wire.1 line.once line.inside
      (record { site = g.site; equations = g.equations; owners = g.owners; threads = besides_fit p i t.counters.threads t.threads (line_in i t.cell_records t.homes) c g.threads; contents = g.contents; kept = g.kept }))
      (λ k. leaves_fit c (serving p c (cell_record t c).queue v t).site fit.wire.0 k)
  row_fits (msg.PortSend q th k) s fit h g =
      end_moves p is n limit high i low q th k fit.takes.1 (opening (msg.PortSend q th k) s).site fit.takes.2 fit.wire.1 g
  row_fits (msg.PortEnd th old new es) s fit h g =
      ends_fit p is n limit high i low th old new fit.takes.0 fit.takes.1 (opening (msg.PortEnd th old new es) s).site (told_all_waits es s th fit.takes.0 (Port fit.takes.1) fit.takes.3) fit.wire.1 fit.wire.2 g
  row_fits (msg.CellMake c v es) s fit h g = makes_fit p is n limit high i low c v (opening (msg.CellMake c v es) s).site (fit.takes.0 ∙ h.site) fit.wire.2 g
  row_fits (msg.CellAsk c th k new es) s fit h g =
      asked_fits p is n limit high i low c (record { thread = th; asking = k; new = new }) (opening (msg.CellAsk c th k new es) s).site (λ e. fit.sites.2 (e ∙ sym h.site)) (fit.wire.2, fit.wire.3, fit.wire.4) g
  row_fits (msg.CellOld th v es) s fit h g = contents_fit p is n limit high i low th v fit.takes.0 fit.takes.1 (opening (msg.CellOld th v es) s).site
      (told_all_waits es s th fit.takes.0 (Cell fit.takes.1) fit.takes.4) fit.takes.2 (λ e. fit.takes.3 (e ∙ sym h.site)) fit.wire.1 g

  -- ---- turns

  heard_fits : (m : Option Msg) (s : Site) (d : Transition) → SiteFits p i s → IsReception p n limit m s d → TransitionFits p i d
  heard_fits None s d h e = subst (TransitionFits p i) (sym e) (still p is limit high i low s h)
  heard_fits (Some m) s d h (inl e) = subst (TransitionFits p i) (sym e.1) (fits_then p is limit high i low (opening m s) (message_row p limit m) (opens_fit m s e.0.wire e.0.codes h) (λ g. row_fits m s e.0 h g))
  heard_fits (Some m) s d h (inr e) = subst (TransitionFits p i) (sym e.1) (still p is limit high i low s h)

  pub turn_fits : (m : Option Msg) (s : Site) (d : Transition) → SiteFits p i s → SiteTurn p n limit s m d → TransitionFits p i d
  turn_fits m s d h (ths, few, (heard, rest, first, units, e)) =
      let one : TransitionFits p i heard = heard_fits m s heard h first in
      let next : TransitionFits p i rest = units_fit p is n limit high i low ths heard.site rest one.site units in
      subst (TransitionFits p i) (sym e) (record { site = next.site; sent = each_append (λ (m : Sent). FitsWire m.msg) heard.sent rest.sent one.sent next.sent })
