-- Units and messages that are no requests to a home, and no answers, exchange the contents of mobile cells alone.
use Rattle.std.proofs.Common.{◌≡◌, ◌∙◌, sym, ap, refl, subst, ℕ, List, [], ◌∷◌, inl, inr, Bool, true, false, Some, None, append-nil}
use Rattle.std.specs.Prelude.{Option, ◌≢◌, ◌==◌}
use Rattle.tree_node.specs.declared.names.VarName.{VarName}
use Rattle.tree_node.specs.declared.names.CellName.{CellName}
use Rattle.tree_node.specs.declared.names.ThreadName.{ThreadName}
use Rattle.tree_node.specs.declared.names.NameKind.{NameKind}
use Rattle.tree_node.specs.declared.node.Term.{Term}
use Rattle.tree_node.specs.declared.pick.Pick.{Pick}
use Rattle.tree_node.specs.Assoc.{value_of}
use Rattle.tree_node.specs.State.{Stack, State, equal_thread}
use Rattle.tree_node.specs.Store.{Equation, IsSound}
use Rattle.kernel_syntax.specs.declared.stmt.Stmt.{Stmt}
use Rattle.site_message.specs.declared.message.Msg.{Msg}
use Rattle.site_message.specs.declared.message.Msg.TheVariants as msg
use Rattle.oz_model.specs.Effect.{Effect, CellChange, Stays, Made, Exchanged, PortChange, Keeps, Opened, Sent as SentTo, stack_effect}
use Rattle.oz_model.specs.Run.{IsRun, Run as ModelRun, exchanges_from, exchange_in}
use Rattle.oz_model.specs.Step.{Step, effect_of}
use Rattle.oz_model.specs.Need as need
use Rattle.oz_model.specs.Need.{Need, Takes, stack_need}
use Rattle.oz_model.proofs.KindLemmas.{cells_differ}
use Rattle.oz_model.proofs.SoundLemmas.{runs_are_sound}
use Rattle.thread_roster.specs.declared.mode.Mode.TheVariants as site
use Rattle.site_model.specs.Transition.{Transition}
use Rattle.site_model.specs.Cells.{put_row}
use Rattle.site_model.specs.Messages.{reception, bind_pick}
use Rattle.site_model.specs.Site.{Site}
use Rattle.site_model.specs.Variables.{opening}
use Rattle.site_model.specs.Unit.{IsUnit, IsUnitFor, IsStepOrRequest, kept_step, IsCellUnit as IsUnitOfCell, IsRootBind, bind_attempt, next_names, step_row, step_pick}
use Rattle.site_model.proofs.EffectLemmas.{bind_effect}
use Rattle.world_model.specs.World.{World, IsOnItsWay, records, threads, counters, eqs, after_transition, after_receipt}
use Rattle.world_model.specs.Matches.{IsNumbered, CellsMatch}
use Rattle.world_model.specs.Names.{here_at}
use Rattle.world_model.proofs.CellLemmas.{get_only, forward_only, request_only}
use Rattle.world_model.proofs.MobileLemmas.{IsMobile, mobile_has}
use Rattle.world_model.proofs.PutLemmas.{nat_decides}
use Rattle.world_variables.specs.Laws.{IsForeignBinding, PartsIn}
use Rattle.world_variables.specs.Plain.{IsKept, IsPlain}
use Rattle.world_variables.proofs.SumLemmas.{Sums}
use Rattle.world_variables.proofs.UnitLemmas.{SiteStep, UnitDone}
use Rattle.world_variables.proofs.FollowLemmas.{steps_picks, kept_made, kept_exchanged, kept_opened, kept_sent, stays_cell}
use Rattle.world_cells.specs.Reached.{Reached}
use Rattle.world_cells.specs.Standing.{IsStanding, IsKeptUnit}
use Rattle.world_cells.proofs.MessageLemmas.{bind_stays, PicksBind, opened, cells_v, at_v, once, site_v, got, apart}
use Rattle.world_cells.proofs.PutRowLemmas.{at_real_site, put_kept, PutRow}
use Rattle.world_cells.proofs.UnitCellRowLemmas.{IsReachable, reach_mobile}
use Rattle.world_cells.proofs.UnitLemmas.{done}

-- no content of a stationary cell is exchanged by these picks
abbrev pub NoPlaced : List Stmt → State → List Pick → Type 0
NoPlaced p c ks = (b : CellName) → b.at ≢ 0 → exchanges_from p b c ks ≡ []

no_picks : (p : List Stmt) (c : State) (ks : List Pick) → ks ≡ [] → NoPlaced p c ks
no_picks p c ks e b far = ap (exchanges_from p b c) e

mobile_exchange : (c : State) (b : CellName) (ch : CellChange) → b.at ≢ 0 → IsMobile ch → exchange_in c b ch ≡ []
mobile_exchange c b Stays far h = refl
mobile_exchange c b (Made d v) far h = refl
mobile_exchange c b (Exchanged d new told) far h = rw (cells_differ d b (λ same. far (sym (ap (λ (x : CellName). x.at) same) ∙ h))) refl

one_mobile : (p : List Stmt) (c : State) (k : Pick) (ks : List Pick) (ch : CellChange) → ks ≡ k ∷ [] → (effect_of p c k).cell ≡ ch → IsMobile ch → NoPlaced p c ks
one_mobile p c k ks ch one is h b far = ap (exchanges_from p b c) one ∙ append-nil (exchange_in c b (effect_of p c k).cell) ∙ ap (exchange_in c b) is ∙ mobile_exchange c b ch far h

-- ---- units

module _ (p : List Stmt) (n limit i : ℕ) (real : i ≢ 0) (w : World) (ks : List Pick) (c : State) (run : ModelRun p ks c) (sound : IsSound c.equations) (parts : PartsIn p (here_at (records w.sites)) w c) (numbers : IsNumbered w.sent w.mail) (x : CellsMatch w c) (sums : Sums w.sites w.lines c) where
  step_placed : (th : ThreadName) (st : Stack) (kinds : List NameKind) (bind : Option Equation) (at : value_of equal_thread (threads w.sites i) th ≡ Some (st, site.Runs)) (step : SiteStep p (eqs w.sites i) i st kinds bind)
      (reach : IsReachable (w.sites i) (stack_effect p (eqs w.sites i) (next_names i (counters w.sites i) kinds) bind st).cell) (keeps : (stack_effect p (eqs w.sites i) (next_names i (counters w.sites i) kinds) bind st).port ≡ Keeps) (d : Transition) →
      d ≡ step_row p n limit (step_pick th (next_names i (counters w.sites i) kinds) bind) kinds (stack_effect p (eqs w.sites i) (next_names i (counters w.sites i) kinds) bind st) (w.sites i) → NoPlaced p c d.picks
  step_placed th st kinds bind at step reach keeps d is =
      one_mobile p c k d.picks e.cell (ap (λ (y : Transition). y.picks) is ∙ steps_picks p n limit k kinds e (w.sites i)) (ap (λ (y : Effect). y.cell) u.effect) (reach_mobile w c i e.cell x reach)
    where
      k : Pick
      k = step_pick th (next_names i (counters w.sites i) kinds) bind

      e : Effect
      e = stack_effect p (eqs w.sites i) (next_names i (counters w.sites i) kinds) bind st

      u : UnitDone p w c n limit i th st kinds bind
      u = done p n limit i real w ks c run sound parts numbers x sums th st kinds bind at step reach keeps

  pub unit_placed : (th : ThreadName) (d : Transition) → IsUnit p n limit th (w.sites i) d → (IsKeptUnit p (w.sites i) th → ⊥) → NoPlaced p c d.picks
  unit_placed th d (st, at, unit) other = go (stack_need p (eqs w.sites i) st) refl unit
    where
      Goal : Type 0
      Goal = NoPlaced p c d.picks

      none : {t : Transition} → d ≡ t → t.picks ≡ [] → Goal
      none is e = no_picks p c d.picks (ap (λ (q : Transition). q.picks) is ∙ e)

      binds : (a b : Term) → stack_need p (eqs w.sites i) st ≡ need.Binds a b → (u : VarName) (y : Term) → IsRootBind (eqs w.sites i) a b u y → d ≡ bind_attempt p n limit th st u y (u.site == (w.sites i).records.site) (w.sites i) → Goal
      binds a b e u y (allows, free, below, root) is = one (u.site == (w.sites i).records.site) refl is
        where
          one : (q : Bool) → (u.site == (w.sites i).records.site) ≡ q → d ≡ bind_attempt p n limit th st u y q (w.sites i) → Goal
          one true q is = step_placed th st [] (Some (u, y)) at (a, b, e, allows, free, below, (nat_decides u.site (w.sites i).records.site).0 q ∙ (parts.kept i).site, refl)
              (subst (IsReachable (w.sites i)) (sym (ap (λ (z : Effect). z.cell) (bind_effect p (eqs w.sites i) st a b (u, y) e))) tt) (ap (λ (z : Effect). z.port) (bind_effect p (eqs w.sites i) st a b (u, y) e)) d is
          one false q is = none is refl

      takes : (kinds : List NameKind) → stack_need p (eqs w.sites i) st ≡ Takes kinds → (o : ℕ) → o ≡ i → (IsKept (stack_effect p (eqs w.sites i) (next_names o (counters w.sites i) kinds) None st) → ⊥) →
          IsStepOrRequest limit th st (w.sites i) (step_row p n limit (step_pick th (next_names o (counters w.sites i) kinds) None) kinds (stack_effect p (eqs w.sites i) (next_names o (counters w.sites i) kinds) None st) (w.sites i)) (kept_step p limit th st kinds (next_names o (counters w.sites i) kinds) (w.sites i)) (stack_effect p (eqs w.sites i) (next_names o (counters w.sites i) kinds) None st) d → Goal
      takes kinds e o same not_kept s = ported (stack_effect p (eqs w.sites i) (next_names i (counters w.sites i) kinds) None st).port refl
          (subst (λ (k : ℕ). IsKept (stack_effect p (eqs w.sites i) (next_names k (counters w.sites i) kinds) None st) → ⊥) same not_kept)
          (subst (λ (k : ℕ). IsStepOrRequest limit th st (w.sites i) (step_row p n limit (step_pick th (next_names k (counters w.sites i) kinds) None) kinds (stack_effect p (eqs w.sites i) (next_names k (counters w.sites i) kinds) None st) (w.sites i)) (kept_step p limit th st kinds (next_names k (counters w.sites i) kinds) (w.sites i)) (stack_effect p (eqs w.sites i) (next_names k (counters w.sites i) kinds) None st) d) same s)
        where
          effect_now : Effect
          effect_now = stack_effect p (eqs w.sites i) (next_names i (counters w.sites i) kinds) None st

          stepped : Transition
          stepped = step_row p n limit (step_pick th (next_names i (counters w.sites i) kinds) None) kinds effect_now (w.sites i)

          kept_now : Transition
          kept_now = kept_step p limit th st kinds (next_names i (counters w.sites i) kinds) (w.sites i)

          step_now : d ≡ stepped → IsReachable (w.sites i) effect_now.cell → effect_now.port ≡ Keeps → Goal
          step_now is reach keeps = step_placed th st kinds None at e reach keeps d is

          one : (ch : CellChange) → effect_now.cell ≡ ch → effect_now.port ≡ Keeps → (IsKept effect_now → ⊥) → IsUnitOfCell limit th st (w.sites i) stepped kept_now ch d → Goal
          one Stays q keeps not_so is = step_now is (subst (IsReachable (w.sites i)) (sym q) tt) keeps
          one (Made y v) q keeps not_so (inl (mobile, is)) = step_now is (subst (IsReachable (w.sites i)) (sym q) mobile) keeps
          one (Made y v) q keeps not_so (inr (far, is)) = absurd (not_so (kept_made effect_now y v keeps q far))
          one (Exchanged y new told) q keeps not_so (inl (mobile, inl (here, is))) = step_now is (subst (IsReachable (w.sites i)) (sym q) here) keeps
          one (Exchanged y new told) q keeps not_so (inl (mobile, inr (elsewhere, is))) = none is (request_only limit y new th st (w.sites i)).picks
          one (Exchanged y new told) q keeps not_so (inr (far, is)) = absurd (not_so (kept_exchanged effect_now y new told keeps q far))

          ported : (q : PortChange) → effect_now.port ≡ q → (IsKept effect_now → ⊥) → IsStepOrRequest limit th st (w.sites i) stepped kept_now effect_now d → Goal
          ported Keeps q not_so u = one effect_now.cell refl q not_so (stays_cell limit th st (w.sites i) stepped kept_now effect_now d q u)
          ported (Opened r end) q not_so u = absurd (not_so (kept_opened effect_now r end q))
          ported (SentTo r value new) q not_so u = absurd (not_so (kept_sent effect_now r value new q))

      go : (d0 : Need) → stack_need p (eqs w.sites i) st ≡ d0 → IsUnitFor p n limit (w.sites i) th st d0 d → Goal
      go (need.Waits y) e (z, class, is) = none is refl
      go (need.WaitsAny r) e (zs, open_on, is) = none is refl
      go (need.Binds a b) e (u, y, root, is) = binds a b e u y root is
      go (Takes kinds) e s = takes kinds e (w.sites i).records.site (parts.kept i).site (λ k. other (st, kinds, at, e, k)) s

-- ---- messages

module _ (p : List Stmt) (limit : ℕ) (w : World) (ks : List Pick) (r : Reached p w ks) (k i : ℕ) (real : i ≢ 0) where
  put_placed : (c : CellName) (v : VarName) (bundle : List Equation) (at : IsOnItsWay w.mail k i (msg.Put c v bundle)) → NoPlaced p r.centre (reception p limit (msg.Put c v bundle) (w.sites i)).picks
  put_placed c v bundle at b far = subst (λ (y : List Pick). exchanges_from p b r.centre y ≡ []) (ap (λ (s : Site). (put_row p limit c v s).picks) (site_v p limit w ks r k i m real at)) (row.apart b (λ same. far (ap (λ (x : CellName). x.at) same ∙ (mobile_has row.state.cells c row.content row.value).0)))
    where
      m : Msg
      m = msg.Put c v bundle

      u : World
      u = after_transition w i (opening m (w.sites i))

      row : PutRow p limit u r.centre k i c v (after_transition (after_receipt (Some k) u) i (put_row p limit c v (u.sites i)))
      row = put_kept p limit u r.centre k i c v bundle (opened p limit w ks r k i m real at).parts (cells_v p limit w ks r k i m real at) (runs_are_sound p ks r.centre r.run) (at_v p limit w ks r k i m real at) (once p limit w ks r k i m real at) (at_real_site (records u.sites) i v real (opened p limit w ks r k i m real at).vars.0) real

  plain_placed : (m : Msg) (at : IsOnItsWay w.mail k i m) → IsPlain m → IsForeignBinding i m → NoPlaced p r.centre (reception p limit m (w.sites i)).picks
  plain_placed m at plain far = by (apart p limit w ks r k i m real at plain far).picks
    where
      by : PicksBind (reception p limit m (w.sites i)).picks → NoPlaced p r.centre (reception p limit m (w.sites i)).picks
      by (inl none) = no_picks p r.centre _ none
      by (inr (o, x, y, is)) = bound (subst (λ (l : List Pick). IsRun p r.centre l (got p limit w ks r k i m real at plain far).centre) is (got p limit w ks r k i m real at plain far).run)
        where
          bound : (z : State) × Step p r.centre (bind_pick o x y) z × ((got p limit w ks r k i m real at plain far).centre ≡ z) → NoPlaced p r.centre (reception p limit m (w.sites i)).picks
          bound (z, step, end) = one_mobile p r.centre (bind_pick o x y) _ Stays is (bind_stays p r.centre (bind_pick o x y) (x, y) step.0 refl refl) tt

  -- every message but requests and answers
  pub message_placed : (m : Msg) (at : IsOnItsWay w.mail k i m) → IsStanding m → IsForeignBinding i m → NoPlaced p r.centre (reception p limit m (w.sites i)).picks
  message_placed (msg.Get c asker) at stands far = no_picks p r.centre (reception p limit (msg.Get c asker) (w.sites i)).picks (get_only limit c asker (opening (msg.Get c asker) (w.sites i)).site).picks
  message_placed (msg.Forward c to) at stands far = no_picks p r.centre (reception p limit (msg.Forward c to) (w.sites i)).picks (forward_only limit c to (opening (msg.Forward c to) (w.sites i)).site).picks
  message_placed (msg.Put c v bundle) at stands far = put_placed c v bundle at
  message_placed (msg.Spawn o code vars bundle) at stands far = plain_placed (msg.Spawn o code vars bundle) at tt far
  message_placed (msg.Register x o) at stands far = plain_placed (msg.Register x o) at tt far
  message_placed (msg.BindReq x o y bundle) at stands far = plain_placed (msg.BindReq x o y bundle) at tt far
  message_placed (msg.Binding x y bundle) at stands far = plain_placed (msg.Binding x y bundle) at tt far
  message_placed (msg.PortSend q o a) at stands far = absurd stands
  message_placed (msg.PortEnd o old new bundle) at stands far = absurd stands
  message_placed (msg.CellMake c v bundle) at stands far = absurd stands
  message_placed (msg.CellAsk c o a v bundle) at stands far = absurd stands
  message_placed (msg.CellOld o v bundle) at stands far = absurd stands
