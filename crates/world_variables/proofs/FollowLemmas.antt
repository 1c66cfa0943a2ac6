-- Each unit of a site, but one on a cell that exists or on a port, is followed by the centre.
use Rattle.std.proofs.Common.{◌≡◌, ◌∙◌, sym, ap, refl, subst, ℕ, List, [], ◌∷◌, ◌⊎◌, inl, inr, Bool, true, false, cond, Some, None}
use Rattle.std.specs.Prelude.{Option, Contains, ◌≢◌, ◌==◌}
use Rattle.tree_node.specs.declared.names.VarName.{VarName}
use Rattle.tree_node.specs.declared.names.CellName.{CellName}
use Rattle.tree_node.specs.declared.names.PortName.{PortName}
use Rattle.tree_node.specs.declared.names.ThreadName.{ThreadName}
use Rattle.tree_node.specs.declared.names.Name.{Name}
use Rattle.tree_node.specs.declared.names.Name.TheVariants as name
use Rattle.tree_node.specs.declared.names.NameKind.{NameKind}
use Rattle.tree_node.specs.declared.node.Term.{Term}
use Rattle.tree_node.specs.declared.pick.Pick.{Pick}
use Rattle.tree_node.specs.Assoc.{value_of}
use Rattle.tree_node.specs.Compare.{Pair, Open, compared}
use Rattle.tree_node.specs.Each.{Each}
use Rattle.tree_node.specs.Names.{EachOfEquation, EachOfStack, EachOfThread}
use Rattle.tree_node.specs.State.{Stack, State, equal_thread}
use Rattle.tree_node.specs.Store.{Store, Equation, Same, IsSound}
use Rattle.kernel_syntax.specs.declared.stmt.Stmt.{Stmt}
use Rattle.site_message.specs.declared.message.Msg.TheVariants as msg
use Rattle.oz_model.specs.Need.{Need, Waits, WaitsAny, Binds, Takes, stack_need, kinds_of}
use Rattle.oz_model.specs.Effect.{Effect, Birth, CellChange, Stays, Made, Exchanged, PortChange, Keeps, Opened, Sent, stack_effect}
use Rattle.oz_model.specs.Run.{IsRun}
use Rattle.oz_model.specs.Step.{AreOfKinds, IsBindFor, next}
use Rattle.oz_model.proofs.EffectNames.{stack_effect_names}
use Rattle.tree_node.proofs.ClassLemmas.{Contains-head, Contains-tail}
use Rattle.site_model.proofs.EffectLemmas.{bind_effect}
use Rattle.world_variables.proofs.TellLemmas.{each_of}
use Rattle.bind_protocol.specs.Records.{Records}
use Rattle.bind_protocol.specs.Rows as Rows
use Rattle.site_model.specs.Site.{Site, thread_state}
use Rattle.thread_roster.specs.declared.mode.Mode.TheVariants as site
use Rattle.site_model.specs.Bundle as Bundle
use Rattle.site_model.specs.Transition.{Transition, without_output, with_messages}
use Rattle.site_model.specs.Variables.{own_binds}
use Rattle.site_model.specs.Messages as Receive
use Rattle.site_model.specs.Unit.{IsStepOrRequest, IsCellUnit as IsUnitOfCell, IsRootBind, IsUnitFor, IsUnit, bind_attempt, thread_step, kept_step, fresh_names, next_names, step_row, with_fresh_names, step_pick, birth_row, placement, with_mode}
use Rattle.world_model.specs.World.{World, after_transition, records, counters}
use Rattle.world_variables.specs.Plain.{IsKept, IsCellUnit}
use Rattle.world_model.specs.Names.{IsHere, IsMade, here_at}
use Rattle.world_model.specs.Matches.{IsNumbered}
use Rattle.world_model.proofs.PutLemmas.{field_kept, nat_decides}
use Rattle.world_variables.proofs.UnitLemmas.{SiteStep, CellAgrees, UnitDone, unit_step}
use Rattle.world_variables.proofs.AttemptLemmas.{need_row, wait_any_row, ask_row}
use Rattle.world_variables.specs.Laws.{PartsIn}
use Rattle.oz_model.proofs.EffectNames.{stack_several_has}
use Rattle.oz_model.proofs.OpenLemmas.{open_free, open_has}
use Rattle.tree_node.proofs.NameLemmas.{same_thread_decides}

abbrev pub Follows : List Stmt → World → State → ℕ → Transition → Type 0
Follows p w c i d = (c2 : State) × IsRun p c d.picks c2 × PartsIn p (here_at (records (after_transition w i d).sites)) (after_transition w i d) c2

-- ---- the picks of a step

binds_picks : (limit : ℕ) (es : List Equation) (s : Site) → (own_binds limit es s).picks ≡ []
binds_picks limit [] s = refl
binds_picks limit (e ∷ es) s = rw (binds_picks limit es s) refl

bears_picks : (p : List Stmt) (n limit : ℕ) (o : Option Birth) (s : Site) → (birth_row p n limit o s).picks ≡ []
bears_picks p n limit None s = refl
bears_picks p n limit (Some b) s = go (placement n s.records.site b.at == s.records.site)
  where
    go : (q : Bool) → (cond q (without_output (Receive.with_thread p (Some b) s)) (with_messages s (Bundle.with_own_bundle limit s.equations (Rows.sent_message (placement n s.records.site b.at) (msg.Spawn b.name b.code b.vars [])) ∷ []))).picks ≡ []
    go true = refl
    go false = refl

pub steps_picks : (p : List Stmt) (n limit : ℕ) (k : Pick) (kinds : List NameKind) (e : Effect) (s : Site) → (step_row p n limit k kinds e s).picks ≡ k ∷ []
steps_picks p n limit k kinds e s = rw (bears_picks p n limit e.born _, binds_picks limit e.adds _) refl

-- ---- units

pub value_each : (P : Name → Type 0) (ts : List (ThreadName × Stack)) (n : ThreadName) (st : Stack) → Each (EachOfThread P) ts → value_of equal_thread ts n ≡ Some st → EachOfThread P (n, st)
value_each P [] n st h e = cc
value_each P ((m, su) ∷ ts) n st h e = go (equal_thread m n) refl (λ q. value_each P ts n st h.1 q) e
  where
    go : (b : Bool) → equal_thread m n ≡ b → (value_of equal_thread ts n ≡ Some st → EachOfThread P (n, st)) → cond b (Some su) (value_of equal_thread ts n) ≡ Some st → EachOfThread P (n, st)
    go true q ih k =
        let stack : su ≡ st = cc in
        (subst (λ (x : ThreadName). P (name.Thread x)) ((same_thread_decides m n).0 q) h.0.0, subst (EachOfStack P) stack h.0.1)
    go false q ih k = ih k

pub all_in : (xs ys : Store) → ((e : Equation) → Contains xs e → Contains ys e) → Each (Contains ys) xs
all_in [] ys f = tt
all_in (x ∷ xs) ys f = (f x (Contains-head x xs), all_in xs ys (λ e q. f e (Contains-tail x e xs q)))

-- ---- what a unit is on

-- which effects are on a port or on a stationary cell
pub kept_made : (e : Effect) (c : CellName) (v : VarName) → e.port ≡ Keeps → e.cell ≡ Made c v → c.at ≢ 0 → IsKept e
kept_made e c v q r far = rw (q, r) far

pub kept_exchanged : (e : Effect) (c : CellName) (new told : VarName) → e.port ≡ Keeps → e.cell ≡ Exchanged c new told → c.at ≢ 0 → IsKept e
kept_exchanged e c new told q r far = rw (q, r) far

pub kept_opened : (e : Effect) (q : PortName) (end : VarName) → e.port ≡ Opened q end → IsKept e
kept_opened e q end r = rw r tt

pub kept_sent : (e : Effect) (q : PortName) (value new : VarName) → e.port ≡ Sent q value new → IsKept e
kept_sent e q value new r = rw r tt

-- where no port changes the unit is by what becomes of a cell
pub stays_cell : (limit : ℕ) (th : ThreadName) (st : Stack) (s : Site) (step kept : Transition) (e : Effect) (d : Transition) → e.port ≡ Keeps → IsStepOrRequest limit th st s step kept e d → IsUnitOfCell limit th st s step kept e.cell d
stays_cell limit th st s step kept e d q u = subst (λ (r : PortChange). IsStepOrRequest limit th st s step kept (record e { port = r }) d) q u

module _ (p : List Stmt) (w : World) (c : State) (n limit i : ℕ) (th : ThreadName) (real : i ≢ 0) (sound : IsSound c.equations) (numbers : IsNumbered w.sent w.mail) (h : PartsIn p (here_at (records w.sites)) w c) where
  abbrev s : Site
  s = w.sites i

  step_follows : (st : Stack) (kinds : List NameKind) (bind : Option Equation) (d : Transition) → thread_state s th ≡ Some (st, site.Runs) → SiteStep p s.equations i st kinds bind → ((x : CellName) (new told : VarName) → (stack_effect p s.equations (next_names i s.counters kinds) bind st).cell ≢ Exchanged x new told) →
      (stack_effect p s.equations (next_names i s.counters kinds) bind st).port ≡ Keeps → d ≡ step_row p n limit (step_pick th (next_names i s.counters kinds) bind) kinds (stack_effect p s.equations (next_names i s.counters kinds) bind st) s → Follows p w c i d
  step_follows st kinds bind d at step none keeps is = subst (λ (x : Transition). Follows p w c i x) (sym is) (
    next p c (step_pick th (next_names i s.counters kinds) bind),
    subst (λ (ks : List Pick). IsRun p c ks (next p c (step_pick th (next_names i s.counters kinds) bind))) (sym (steps_picks p n limit (step_pick th fresh bind) kinds e s)) (next p c (step_pick th (next_names i s.counters kinds) bind), (done.allowed, refl), refl),
    done.parts,
  )
    where
      agrees : (q : Name → Type 0) (t : Site) (ch : CellChange) → ((x : CellName) (new told : VarName) → ch ≢ Exchanged x new told) → CellAgrees q c t ch
      agrees q t Stays other = tt
      agrees q t (Made x v) other = tt
      agrees q t (Exchanged x new told) other = absurd (other x new told refl)

      fresh : List Name
      fresh = next_names i s.counters kinds

      e : Effect
      e = stack_effect p s.equations fresh bind st

      done : UnitDone p w c n limit i th st kinds bind
      done = unit_step p w c n limit i th st kinds bind real sound numbers.below at step
          (agrees (here_at (records (after_transition w i (step_row p n limit (step_pick th fresh bind) kinds e s)).sites) i) (own_binds limit e.adds (with_fresh_names kinds s)).site e.cell none) keeps h

  -- what is as it was
  stands : (t : Site) (d : Transition) → t.records ≡ s.records → d ≡ d → (p2 : PartsIn p (here_at (records w.sites)) (after_transition w i (record d { site = t })) c) → PartsIn p (here_at (records (after_transition w i (record d { site = t })).sites)) (after_transition w i (record d { site = t })) c
  stands t d same e q = subst (λ (r : ℕ → Records). PartsIn p (here_at r) (after_transition w i (record d { site = t })) c) (sym (field_kept (λ (u : Site). u.records) w.sites i t same)) q

  nob : here_at (records w.sites) i (name.Var (record { site = 0; num = 0 }))
  nob = inl (inl refl)

  -- at a real site it is the records' word
  at_site : (x : VarName) → here_at (records w.sites) i (name.Var x) → IsHere (records w.sites i) x
  at_site x (inl h) = h
  at_site x (inr zero) = absurd (real zero)

  pub unit_follows : (d : Transition) → IsUnit p n limit th s d → ((st : Stack) × (thread_state s th ≡ Some (st, site.Runs)) × IsCellUnit p s.equations st) ⊎ Follows p w c i d
  unit_follows d (st, at, unit) = go (stack_need p s.equations st) refl unit
    where
      Goal : Type 0
      Goal = ((st : Stack) × (thread_state s th ≡ Some (st, site.Runs)) × IsCellUnit p s.equations st) ⊎ Follows p w c i d

      needs : (x z : VarName) → stack_need p s.equations st ≡ Waits x → Same s.equations x z → d ≡ without_output (with_mode th st (site.Needs z) s) → Follows p w c i d
      needs x z need same is = subst (λ (q : Transition). Follows p w c i q) (sym is) (
        c,
        refl,
        stands (with_mode th st (site.Needs z) s) (without_output s) refl refl (need_row p (here_at (records w.sites)) w c i th st h at x z real need same),
      )

      waits_any : (q : Pair) (xs : List VarName) → stack_need p s.equations st ≡ WaitsAny q → compared s.equations q ≡ Open xs → d ≡ without_output (with_mode th st (site.WaitsAny xs) s) → Follows p w c i d
      waits_any q xs need open_on is = subst (λ (t : Transition). Follows p w c i t) (sym is) (
        c,
        refl,
        stands (with_mode th st (site.WaitsAny xs) s) (without_output s) refl refl
            (wait_any_row p (here_at (records w.sites)) w c i th st h at q xs need open_on (λ x k. (
              (open_free s.equations q xs x (h.kept i).sound open_on k).0,
              at_site x
                  (open_has (here_at (records w.sites) i) s.equations (h.homes i).equations q xs x
                  (stack_several_has (here_at (records w.sites) i) p s.equations st q (inl nob) (h.homes i).equations ((h.homes i).stacks th (st, site.Runs) at) need) open_on k),
            ))),
      )

      binds : (a b : Term) → stack_need p s.equations st ≡ Binds a b → (u : VarName) (t : Term) → IsRootBind s.equations a b u t → d ≡ bind_attempt p n limit th st u t (u.site == s.records.site) s → Follows p w c i d
      binds a b need u t (allows, free, low, root) is = go (u.site == s.records.site) refl is
        where
          -- names of the bind
          named : (P : Name → Type 0) → P (name.Var (record { site = 0; num = 0 })) → Each (EachOfEquation P) s.equations → EachOfStack P st → EachOfEquation P (u, t)
          named P anon es ss =
              let e = stack_effect_names P anon p s.equations [] (Some (u, t)) st es ss tt (subst (AreOfKinds []) (sym (ap kinds_of need)) tt) (subst (λ (q : Need). IsBindFor s.equations q (Some (u, t))) (sym need) allows) in
              (subst (Each (EachOfEquation P)) (ap (λ (x : Effect). x.adds) (bind_effect p s.equations st a b (u, t) need)) e.adds).0

          is_here : EachOfEquation (here_at (records w.sites) i) (u, t)
          is_here = named (here_at (records w.sites) i) nob (h.homes i).equations ((h.homes i).stacks th (st, site.Runs) at)

          central : EachOfThread (IsMade (counters w.sites)) (th, st)
          central = value_each (IsMade (counters w.sites)) c.threads th st h.centred.all.3 (h.placed.up i th st (site.Runs, at))

          was : EachOfEquation (IsMade (counters w.sites)) (u, t)
          was = named (IsMade (counters w.sites)) (inl refl) (each_of (EachOfEquation (IsMade (counters w.sites))) c.equations h.centred.all.0 s.equations (all_in s.equations c.equations (h.knowledge.known i))) central.1

          owner : IsHere (records w.sites u.site) u
          owner = at_owner was.0
            where
              at_owner : IsMade (counters w.sites) (name.Var u) → IsHere (records w.sites u.site) u
              at_owner (inl zero) = inl zero
              at_owner (inr q) = inr ((h.makers.own u.site u refl).0 q)

          go : (q : Bool) → (u.site == s.records.site) ≡ q → d ≡ bind_attempt p n limit th st u t q s → Follows p w c i d
          go true e is = step_follows st [] (Some (u, t)) d at (a, b, need, allows, free, low, (nat_decides u.site s.records.site).0 e ∙ (h.kept i).site, refl)
              (λ x new told q. let both : Stays ≡ Exchanged x new told = sym (ap (λ (y : Effect). y.cell) (bind_effect p s.equations st a b (u, t) need)) ∙ q in cc)
              (ap (λ (y : Effect). y.port) (bind_effect p s.equations st a b (u, t) need)) is
          go false e is = subst (λ (q : Transition). Follows p w c i q) (sym is) (
            c,
            refl,
            stands (with_mode th st (site.Waits u) s) (bind_attempt p n limit th st u t false s) refl refl
                (ask_row p (here_at (records w.sites)) w c i th st h at limit u t free (at_site u is_here.0) owner (a, b, need, allows, low) was central.0),
          )

      takes : (kinds : List NameKind) → stack_need p s.equations st ≡ Takes kinds → IsUnitFor p n limit s th st (Takes kinds) d → Goal
      takes kinds need t = ported (stack_effect p s.equations (fresh_names s kinds) None st).port refl t
        where
          site_is : s.records.site ≡ i
          site_is = (h.kept i).site

          steps_is : d ≡ thread_step p n limit th st kinds (fresh_names s kinds) None s → ((x : CellName) (new told : VarName) → (stack_effect p s.equations (fresh_names s kinds) None st).cell ≢ Exchanged x new told) → (stack_effect p s.equations (fresh_names s kinds) None st).port ≡ Keeps → Follows p w c i d
          steps_is is none keeps = step_follows st kinds None d at need
              (subst (λ (o : ℕ). (x : CellName) (new told : VarName) → (stack_effect p s.equations (next_names o s.counters kinds) None st).cell ≢ Exchanged x new told) site_is none)
              (subst (λ (o : ℕ). (stack_effect p s.equations (next_names o s.counters kinds) None st).port ≡ Keeps) site_is keeps)
              (subst (λ (o : ℕ). d ≡ step_row p n limit (step_pick th (next_names o s.counters kinds) None) kinds (stack_effect p s.equations (next_names o s.counters kinds) None st) s) site_is is)

          e : Effect
          e = stack_effect p s.equations (fresh_names s kinds) None st

          -- it is on a port, or on a stationary cell
          kept : IsKept e → Goal
          kept k = inl (st, at, (kinds, fresh_names s kinds, need, inr k))

          one : (ch : CellChange) → (stack_effect p s.equations (fresh_names s kinds) None st).cell ≡ ch → (stack_effect p s.equations (fresh_names s kinds) None st).port ≡ Keeps →
              IsUnitOfCell limit th st s (thread_step p n limit th st kinds (fresh_names s kinds) None s) (kept_step p limit th st kinds (fresh_names s kinds) s) ch d → Goal
          one Stays q keeps is = inr (steps_is is (λ x new told r. let both : Stays ≡ Exchanged x new told = sym q ∙ r in cc) keeps)
          one (Made x v) q keeps (inl (mobile, is)) = inr (steps_is is (λ y new told r. let both : Made x v ≡ Exchanged y new told = sym q ∙ r in cc) keeps)
          one (Made x v) q keeps (inr (far, is)) = kept (kept_made e x v keeps q far)
          one (Exchanged x new told) q keeps (inl (mobile, u)) = inl (st, at, (kinds, fresh_names s kinds, need, inl (x, new, told, q, mobile, keeps)))
          one (Exchanged x new told) q keeps (inr (far, u)) = kept (kept_exchanged e x new told keeps q far)

          ported : (q : PortChange) → (stack_effect p s.equations (fresh_names s kinds) None st).port ≡ q →
              IsStepOrRequest limit th st s (thread_step p n limit th st kinds (fresh_names s kinds) None s) (kept_step p limit th st kinds (fresh_names s kinds) s) (stack_effect p s.equations (fresh_names s kinds) None st) d → Goal
          ported Keeps q u = one (stack_effect p s.equations (fresh_names s kinds) None st).cell refl q (stays_cell limit th st s (thread_step p n limit th st kinds (fresh_names s kinds) None s) (kept_step p limit th st kinds (fresh_names s kinds) s) (stack_effect p s.equations (fresh_names s kinds) None st) d q u)
          ported (Opened r end) q u = kept (kept_opened e r end q)
          ported (Sent r value new) q u = kept (kept_sent e r value new q)

      go : (q : Need) → stack_need p s.equations st ≡ q → IsUnitFor p n limit s th st q d → Goal
      go (Waits x) e (z, class, is) = inr (needs x z e class.0 is)
      go (WaitsAny q) e (xs, open_on, is) = inr (waits_any q xs e open_on is)
      go (Binds a b) e (u, t, root, is) = inr (binds a b e u t root is)
      go (Takes kinds) e t = takes kinds e t
