-- The rows of units that are on no port and on no stationary cell: the thread waits, makes a step, asks for a token, or asks to bind a variable.
use Rattle.std.proofs.Common.{◌≡◌, ◌∙◌, sym, ap, refl, subst, ℕ, List, [], ◌∷◌, ◌⊎◌, inl, inr, Bool, true, false, cond, Some, None}
use Rattle.std.specs.Prelude.{Option, Contains, not, ◌≢◌, ◌==◌}
use Rattle.tree_node.specs.declared.names.VarName.{VarName}
use Rattle.tree_node.specs.declared.names.CellName.{CellName}
use Rattle.tree_node.specs.declared.names.ThreadName.{ThreadName}
use Rattle.tree_node.specs.declared.names.Name.{Name}
use Rattle.tree_node.specs.declared.names.NameKind.{NameKind}
use Rattle.tree_node.specs.declared.node.Term.{Term}
use Rattle.tree_node.specs.Each.{AreDistinct}
use Rattle.tree_node.specs.State.{Stack}
use Rattle.tree_node.specs.Store.{Store, Equation}
use Rattle.tree_node.proofs.ClassLemmas.{Contains-tail}
use Rattle.kernel_syntax.specs.declared.stmt.Stmt.{Stmt}
use Rattle.site_message.specs.declared.message.Msg.TheVariants as msg
use Rattle.oz_model.specs.Answers.{IsPartOf}
use Rattle.oz_model.specs.Need.{Need, Takes, stack_need, kinds_of}
use Rattle.oz_model.specs.Step.{AreOfKinds}
use Rattle.oz_model.proofs.OnceLemmas.{BornFrom, stack_born}
use Rattle.site_model.proofs.EffectLemmas.{bind_effect}
use Rattle.site_model.proofs.FilledLemmas.{next_kinds}
use Rattle.oz_model.specs.Need as need
use Rattle.oz_model.specs.Effect.{Effect, Birth, CellChange, Stays, Made, Exchanged, PortChange, Keeps, Opened, Sent}
use Rattle.bind_protocol.specs.Records.{Records}
use Rattle.bind_protocol.specs.Rows.{request, sent_message}
use Rattle.thread_roster.specs.declared.mode.Awaited.{Awaited}
use Rattle.thread_roster.specs.declared.mode.Awaited.TheVariants.{Cell}
use Rattle.thread_roster.specs.declared.mode.Mode.{Mode}
use Rattle.thread_roster.specs.declared.mode.Mode.TheVariants as mode
use Rattle.site_model.specs.Bundle.{with_own_bundle}
use Rattle.site_model.specs.Cells.{effect_here, request_row, step_pick}
use Rattle.site_model.specs.Messages.{with_thread}
use Rattle.site_model.specs.Site.{Site, Threads, thread_state}
use Rattle.site_model.specs.Transition.{Transition, without_output, with_messages}
use Rattle.site_model.specs.Unit.{IsUnit, IsUnitFor, IsCellUnit, bind_attempt, birth_row, placement, after_cell, after_effect, fresh_names, step_row, thread_step, kept_step, with_fresh_names, with_mode}
use Rattle.site_model.specs.Variables.{own_binds}
use Rattle.world_model.specs.Names.{IsHere}
use Rattle.world_model.specs.Shown.{is_asking}
use Rattle.world_model.proofs.CellLemmas.{request_only}
use Rattle.world_model.proofs.PutLemmas.{nat_decides}
use Rattle.world_variables.specs.Plain.{IsKept}
use Rattle.world_variables.specs.Sums.{names}
use Rattle.world_variables.proofs.FollowLemmas.{kept_made, kept_exchanged, kept_opened, kept_sent, stays_cell}
use Rattle.world_variables.proofs.UnitLemmas.{step_here}
use Rattle.world_variables.proofs.SumLemmas.{with_names, IsUnborn, steps_once}
use Rattle.world_cells.specs.Standing.{IsKeptUnit}
use Rattle.world_cells.proofs.QueueLemmas.{SameWaiters, goes_waiters, running_not, mode_in}
use Rattle.world_cells.proofs.UnitQueueLemmas.{IsUnused, step_waiters}
use Rattle.world_answers.proofs.BesideLemmas.{Beside, beside_still, request_beside, step_beside}

-- the row of such a unit
pub data IsRow (p : List Stmt) (n limit : ℕ) (th : ThreadName) (st : Stack) (s : Site) (d : Transition) : Type 0 where
  Waited : (m : Mode) → is_asking m ≡ false → d ≡ without_output (with_mode th st m s) → IsRow p n limit th st s d
  Stepped : (kinds : List NameKind) (fresh : List Name) (bind : Option Equation) → BornFrom fresh (effect_here p s fresh bind st).born → (fresh ≡ []) ⊎ (fresh ≡ fresh_names s kinds) → d ≡ step_row p n limit (step_pick th fresh bind) kinds (effect_here p s fresh bind st) s → IsRow p n limit th st s d
  Requested : (c : CellName) (new : VarName) → c.at ≡ 0 → d ≡ request_row limit c new th st s → IsRow p n limit th st s d
  Bound : (u : VarName) (t : Term) → d ≡ with_messages (with_mode th st (mode.Waits u) s) (with_own_bundle limit s.equations (request u t th) ∷ []) → IsRow p n limit th st s d

module _ (p : List Stmt) (n limit : ℕ) (th : ThreadName) (s : Site) where
  pub unit_row : (d : Transition) → (unit : IsUnit p n limit th s d) → (IsKeptUnit p s th → ⊥) → IsRow p n limit th unit.0 s d
  unit_row d (st, at, unit) other = go (stack_need p s.equations st) refl unit
    where
      born : (kinds : List NameKind) → stack_need p s.equations st ≡ Takes kinds → BornFrom (fresh_names s kinds) (effect_here p s (fresh_names s kinds) None st).born
      born kinds e = stack_born p s.equations (fresh_names s kinds) None st (subst (AreOfKinds (fresh_names s kinds)) (sym (ap kinds_of e)) (next_kinds s.records.site s.counters kinds))

      takes : (kinds : List NameKind) → stack_need p s.equations st ≡ Takes kinds → (IsKept (effect_here p s (fresh_names s kinds) None st) → ⊥) → IsUnitFor p n limit s th st (Takes kinds) d → IsRow p n limit th st s d
      takes kinds e not_so u = ported (effect_here p s (fresh_names s kinds) None st).port refl u
        where
          f : Effect
          f = effect_here p s (fresh_names s kinds) None st

          one : (ch : CellChange) → (effect_here p s (fresh_names s kinds) None st).cell ≡ ch → (effect_here p s (fresh_names s kinds) None st).port ≡ Keeps →
              IsCellUnit limit th st s (thread_step p n limit th st kinds (fresh_names s kinds) None s) (kept_step p limit th st kinds (fresh_names s kinds) s) ch d → IsRow p n limit th st s d
          one Stays q keeps is = Stepped kinds (fresh_names s kinds) None (born kinds e) (inr refl) is
          one (Made c v) q keeps (inl (mobile, is)) = Stepped kinds (fresh_names s kinds) None (born kinds e) (inr refl) is
          one (Made c v) q keeps (inr (far, is)) = absurd (not_so (kept_made f c v keeps q far))
          one (Exchanged c new told) q keeps (inl (mobile, inl (here, is))) = Stepped kinds (fresh_names s kinds) None (born kinds e) (inr refl) is
          one (Exchanged c new told) q keeps (inl (mobile, inr (elsewhere, is))) = Requested c new mobile is
          one (Exchanged c new told) q keeps (inr (far, is)) = absurd (not_so (kept_exchanged f c new told keeps q far))

          ported : (r : PortChange) → (effect_here p s (fresh_names s kinds) None st).port ≡ r → IsUnitFor p n limit s th st (Takes kinds) d → IsRow p n limit th st s d
          ported Keeps q u = one (effect_here p s (fresh_names s kinds) None st).cell refl q
              (stays_cell limit th st s (thread_step p n limit th st kinds (fresh_names s kinds) None s) (kept_step p limit th st kinds (fresh_names s kinds) s) (effect_here p s (fresh_names s kinds) None st) d q u)
          ported (Opened r end) q u = absurd (not_so (kept_opened f r end q))
          ported (Sent r value new) q u = absurd (not_so (kept_sent f r value new q))

      bound : (a b : Term) → stack_need p s.equations st ≡ need.Binds a b → (u : VarName) (t : Term) (q : Bool) → d ≡ bind_attempt p n limit th st u t q s → IsRow p n limit th st s d
      bound a b e u t true is = Stepped [] [] (Some (u, t)) (subst (λ (x : Effect). BornFrom [] x.born) (sym (bind_effect p s.equations st a b (u, t) e)) tt) (inl refl) is
      bound a b e u t false is = Bound u t is

      go : (q : Need) → stack_need p s.equations st ≡ q → IsUnitFor p n limit s th st q d → IsRow p n limit th st s d
      go (need.Waits x) e (z, class, is) = Waited (mode.Needs z) refl is
      go (need.WaitsAny q) e (xs, open_on, is) = Waited (mode.WaitsAny xs) refl is
      go (need.Binds a b) e (u, t, root, is) = bound a b e u t (u.site == s.records.site) is
      go (Takes kinds) e unit = takes kinds e (λ k. other (st, kinds, at, e, k)) unit

  -- what is kept of ports and stationary cells stays
  pub rows_beside : (st : Stack) (d : Transition) → IsRow p n limit th st s d → Beside s d
  rows_beside st d (Waited m f is) = subst (Beside s) (sym is) (beside_still s (with_mode th st m s) refl refl)
  rows_beside st d (Stepped kinds fresh bind born known is) = subst (Beside s) (sym is) (step_beside p n limit (step_pick th fresh bind) kinds (effect_here p s fresh bind st) s)
  rows_beside st d (Requested c new zero is) = subst (Beside s) (sym is) (request_beside limit c new th st s)
  rows_beside st d (Bound u t is) = subst (Beside s) (sym is) (record { homes = refl; ports = refl; silent = (tt, tt) })

  -- the site knows as much
  pub rows_here : (st : Stack) (d : Transition) → IsRow p n limit th st s d → (y : VarName) → IsHere s.records y → IsHere d.site.records y
  rows_here st d (Waited m f is) y h = subst (λ (t : Transition). IsHere t.site.records y) (sym is) h
  rows_here st d (Stepped kinds fresh bind born known is) y h = subst (λ (t : Transition). IsHere t.site.records y) (sym is) (step_here p n limit (step_pick th fresh bind) kinds (effect_here p s fresh bind st) s y h)
  rows_here st d (Requested c new zero is) y h = subst (λ (t : Transition). IsHere t.site.records y) (sym is) (subst (λ (b : Records). IsHere b y) (sym (request_only limit c new th st s).records) h)
  rows_here st d (Bound u t is) y h = subst (λ (e : Transition). IsHere e.site.records y) (sym is) h

  binds_grow : (es : List Equation) (t : Site) → IsPartOf t.equations (own_binds limit es t).site.equations
  binds_grow [] t x c = c
  binds_grow (e ∷ es) t x c = Contains-tail e x (own_binds limit es t).site.equations (binds_grow es t x c)

  birth_same : (b : Option Birth) (t : Site) → (birth_row p n limit b t).site.equations ≡ t.equations
  birth_same None t = refl
  birth_same (Some b) t = go (placement n t.records.site b.at == t.records.site)
    where
      go : (q : Bool) → (cond q (without_output (with_thread p (Some b) t)) (with_messages t (with_own_bundle limit t.equations (sent_message (placement n t.records.site b.at) (msg.Spawn b.name b.code b.vars [])) ∷ []))).site.equations ≡ t.equations
      go true = refl
      go false = refl

  cell_same : (ch : CellChange) (t : Site) → (after_cell ch t).equations ≡ t.equations
  cell_same Stays t = refl
  cell_same (Made c v) t = refl
  cell_same (Exchanged c new told) t = refl

  pub rows_grow : (st : Stack) (d : Transition) → IsRow p n limit th st s d → IsPartOf s.equations d.site.equations
  rows_grow st d (Waited m f is) x c = subst (λ (t : Transition). Contains t.site.equations x) (sym is) c
  rows_grow st d (Stepped kinds fresh bind born known is) x c = subst (λ (t : Transition). Contains t.site.equations x) (sym is)
      (subst (λ (q : Store). Contains q x) (sym (birth_same (effect_here p s fresh bind st).born (after_effect th (effect_here p s fresh bind st) (own_binds limit (effect_here p s fresh bind st).adds (with_fresh_names kinds s)).site) ∙ cell_same (effect_here p s fresh bind st).cell (own_binds limit (effect_here p s fresh bind st).adds (with_fresh_names kinds s)).site))
      (binds_grow (effect_here p s fresh bind st).adds (with_fresh_names kinds s) x c))
  rows_grow st d (Requested c new zero is) x h = subst (λ (t : Transition). Contains t.site.equations x) (sym is) (subst (λ (q : Store). Contains q x) (sym (request_only limit c new th st s).equations) h)
  rows_grow st d (Bound u t is) x c = subst (λ (e : Transition). Contains e.site.equations x) (sym is) c

  -- a new thread's name is no thread's of the site
  abbrev pub Bears : (st : Stack) (d : Transition) → IsRow p n limit th st s d → Type 0
  Bears st d (Stepped kinds fresh bind born known is) = IsUnborn s (effect_here p s fresh bind st).born
  Bears st d _ = Unit {0}

  unborn_unused : (st : Stack) (kinds : List NameKind) (fresh : List Name) (bind : Option Equation) (at : thread_state s th ≡ Some (st, mode.Runs)) (o : Option Birth) → IsUnborn s o → IsUnused p n limit (step_pick th fresh bind) kinds (effect_here p s fresh bind st) s st at o
  unborn_unused st kinds fresh bind at None h = h
  unborn_unused st kinds fresh bind at (Some b) h = h

  mobile_not : (c : CellName) (a : Awaited) → c.at ≡ 0 → is_asking (mode.WaitsFor a) ≡ true → mode.WaitsFor (Cell c) ≢ mode.WaitsFor a
  mobile_not c a zero asks same =
      let yes : is_asking (mode.WaitsFor (Cell c)) ≡ true = ap is_asking same ∙ asks in
      let not_so : is_asking (mode.WaitsFor (Cell c)) ≡ false = ap not ((nat_decides c.at 0).1 zero) in cc

  -- those who wait for answers go on waiting
  pub rows_waiters : (st : Stack) (d : Transition) → thread_state s th ≡ Some (st, mode.Runs) → (r : IsRow p n limit th st s d) → Bears st d r → (a : Awaited) → is_asking (mode.WaitsFor a) ≡ true → SameWaiters s.threads d.site.threads a
  rows_waiters st d at (Waited m f is) b a asks = subst (λ (t : Transition). SameWaiters s.threads t.site.threads a) (sym is)
      (goes_waiters s.threads th (Some (st, m)) (st, mode.Runs) a at (λ r q. running_not st r a q) (λ r q. let same : m ≡ mode.WaitsFor a = ap mode_in q in let yes : is_asking m ≡ true = ap is_asking same ∙ asks in cc))
  rows_waiters st d at (Stepped kinds fresh bind born known is) b a asks = subst (λ (t : Transition). SameWaiters s.threads t.site.threads a) (sym is)
      (step_waiters p n limit (step_pick th fresh bind) kinds (effect_here p s fresh bind st) s st at (unborn_unused st kinds fresh bind at (effect_here p s fresh bind st).born b) a)
  rows_waiters st d at (Requested c new zero is) b a asks = subst (λ (t : Transition). SameWaiters s.threads t.site.threads a) (sym is)
      (subst (λ (ts : Threads). SameWaiters s.threads ts a) (sym (request_only limit c new th st s).threads)
      (goes_waiters s.threads th (Some (st, mode.WaitsFor (Cell c))) (st, mode.Runs) a at (λ r q. running_not st r a q) (λ r q. mobile_not c a zero asks (ap mode_in q))))
  rows_waiters st d at (Bound u t is) b a asks = subst (λ (e : Transition). SameWaiters s.threads e.site.threads a) (sym is)
      (goes_waiters s.threads th (Some (st, mode.Waits u)) (st, mode.Runs) a at (λ r q. running_not st r a q) (λ r q. let same : mode.Waits u ≡ mode.WaitsFor a = ap mode_in q in cc))

  -- each thread is there once
  pub rows_once : (st : Stack) (d : Transition) → (r : IsRow p n limit th st s d) → Bears st d r → AreDistinct (names s.threads) → AreDistinct (names d.site.threads)
  rows_once st d (Waited m f is) b h = subst (λ (t : Transition). AreDistinct (names t.site.threads)) (sym is) (subst (λ (xs : List ThreadName). AreDistinct xs) (sym (with_names s.threads th (st, m))) h)
  rows_once st d (Stepped kinds fresh bind born known is) b h = subst (λ (t : Transition). AreDistinct (names t.site.threads)) (sym is) (steps_once p n limit (step_pick th fresh bind) kinds (effect_here p s fresh bind st) s b h)
  rows_once st d (Requested c new zero is) b h = subst (λ (t : Transition). AreDistinct (names t.site.threads)) (sym is)
      (subst (λ (xs : List ThreadName). AreDistinct xs) (sym (ap (λ (ts : Threads). names ts) (request_only limit c new th st s).threads ∙ with_names s.threads th (st, mode.WaitsFor (Cell c)))) h)
  rows_once st d (Bound u t is) b h = subst (λ (e : Transition). AreDistinct (names e.site.threads)) (sym is) (subst (λ (xs : List ThreadName). AreDistinct xs) (sym (with_names s.threads th (st, mode.Waits u))) h)
