-- A unit that steps, from what the site knows.
use Rattle.std.proofs.Common.{◌≡◌, ◌∙◌, sym, ap, refl, subst, ℕ, ◌<◌, List, [], ◌∷◌, ◌⊎◌, inl, inr, Bool, true, false, cond, Some, None}
use Rattle.std.specs.Prelude.{Option, Contains, ◌≢◌, ◌==◌}
use Rattle.tree_node.specs.declared.names.VarName.{VarName}
use Rattle.tree_node.specs.declared.names.ThreadName.{ThreadName}
use Rattle.tree_node.specs.declared.names.Name.{Name}
use Rattle.tree_node.specs.declared.names.Name.TheVariants as name
use Rattle.tree_node.specs.declared.names.NameKind.{NameKind}
use Rattle.tree_node.specs.declared.node.Term.{Term}
use Rattle.tree_node.specs.declared.node.Term.TheVariants as term
use Rattle.tree_node.specs.declared.pick.Pick.{Pick}
use Rattle.tree_node.specs.Assoc.{value_of}
use Rattle.tree_node.specs.Each.{Each, AreDistinct}
use Rattle.tree_node.specs.Goal.{IsAllowedBind}
use Rattle.tree_node.specs.Names.{EachOfEquation, EachOfStack, IsNew}
use Rattle.tree_node.specs.Order.{IsLower}
use Rattle.tree_node.specs.State.{Stack, State, equal_thread}
use Rattle.tree_node.specs.Store.{Store, Equation, IsSound, IsFree}
use Rattle.kernel_syntax.specs.declared.stmt.Stmt.{Stmt}
use Rattle.site_message.specs.declared.message.Msg.{Msg}
use Rattle.oz_model.specs.Need.{Need, Binds, Takes, stack_need, IsReady, kinds_of}
use Rattle.oz_model.specs.Effect.{Effect, Birth, CellChange, Stays, Made, Exchanged, PortChange, Keeps, stack_effect, vars_among}
use Rattle.oz_model.specs.Step.{AreOfKinds, IsAllowed, IsBindFor, AreFresh, effect_of, next, stack_of, stack_with_content, stack_with_end, stack_left}
use Rattle.oz_model.specs.Laws.{nobody}
use Rattle.oz_model.proofs.DownLemmas.{lower_binds}
use Rattle.oz_model.proofs.WithinLemmas.{more_is_within}
use Rattle.oz_model.proofs.KeepLemmas.{steps_stay, binds_stay}
use Rattle.oz_model.specs.EffectNames.{EachOfEffect, EachOfBirth, EachOfChange}
use Rattle.oz_model.proofs.EffectNames.{stack_effect_names, effect_names}
use Rattle.oz_model.proofs.OnceLemmas.{BornFrom, stack_born}
use Rattle.oz_model.proofs.NameLemmas.{Each-weaker}
use Rattle.bind_protocol.specs.Records.{Records, IsKnown}
use Rattle.bind_protocol.specs.Rows.{after_make}
use Rattle.site_model.specs.Site.{Site, Counters}
use Rattle.thread_roster.specs.declared.mode.Mode.TheVariants.{Runs}
use Rattle.site_model.specs.Transition.{Transition, without_output, with_messages, with_pick}
use Rattle.site_model.specs.Variables.{after_makes, own_binds}
use Rattle.site_model.specs.Cells.{exchange_stack}
use Rattle.site_model.specs.Unit.{next_names, counters_after, with_fresh_names, birth_row, after_effect, step_row, step_pick, content_here}
use Rattle.site_model.specs.Fit as Fit
use Rattle.site_model.specs.Unit as Unit
use Rattle.site_model.specs.Messages as Receive
use Rattle.site_model.specs.Bundle as Bundle
use Rattle.bind_protocol.specs.Rows as Rows
use Rattle.oz_model.specs.Step as Step
use Rattle.site_message.specs.declared.message.Msg.TheVariants as msg
use Rattle.world_model.specs.World.{World, IsOnItsWay, after_transition, eqs, records, threads, counters}
use Rattle.world_model.specs.Names.{IsHere, IsHereName, IsMade, here_at}
use Rattle.world_model.proofs.PutLemmas.{at_all, at_here}
use Rattle.world_variables.proofs.MakeLemmas.{IsNextOf, next_are, next_fresh}
use Rattle.site_model.proofs.EffectLemmas.{AddsFresh, stack_adds, bind_effect}
use Rattle.world_variables.proofs.AlikeLemmas.{parts_weaker}
use Rattle.world_variables.proofs.RowLemmas.{makes_row}
use Rattle.world_variables.proofs.LearnLemmas.{head_or_tail}
use Rattle.world_variables.proofs.OwnLemmas.{CanAdd, CanAddEach, IsOwnStep, own_step, new_none}
use Rattle.world_variables.specs.Laws.{PartsIn}
use Rattle.tree_node.proofs.OrderLemmas.{Each-member}
use Rattle.bind_protocol.proofs.LearnLemmas.{make_learns, make_known, ask_known}
use Rattle.site_model.proofs.FrameLemmas.{cell_keeps_records}

-- ---- what is known after a step

asks_known : (limit : ℕ) (es : List Equation) (s : Site) (y : VarName) → IsKnown s.records y → IsKnown (own_binds limit es s).site.records y
asks_known limit [] s y h = h
asks_known limit (e ∷ es) s y h = ask_known (own_binds limit es s).site.records e.0 e.1 y (asks_known limit es s y h)

pub makes_known : (xs : List VarName) (b : Records) (y : VarName) → IsKnown b y → IsKnown (after_makes b xs) y
makes_known [] b y h = h
makes_known (x ∷ xs) b y h = makes_known xs (after_make b x) y (make_known b x y h)

pub made_known : (xs : List VarName) (b : Records) → Each (λ (x : VarName). x.site ≡ b.site) xs → Each (λ (x : VarName). IsKnown (after_makes b xs) x) xs
made_known [] b h = tt
made_known (x ∷ xs) b h = (makes_known xs (after_make b x) x (rw (make_learns b x h.0).here refl), made_known xs (after_make b x) h.1)

bears_records : (p : List Stmt) (n limit : ℕ) (o : Option Birth) (s : Site) → (birth_row p n limit o s).site.records ≡ s.records
bears_records p n limit None s = refl
bears_records p n limit (Some b) s = go (Unit.placement n s.records.site b.at == s.records.site)
  where
    go : (q : Bool) → (cond q (without_output (Receive.with_thread p (Some b) s)) (with_messages s (Bundle.with_own_bundle limit s.equations (Rows.sent_message (Unit.placement n s.records.site b.at) (msg.Spawn b.name b.code b.vars [])) ∷ []))).site.records ≡ s.records
    go true = refl
    go false = refl

pub steps_known : (p : List Stmt) (n limit : ℕ) (k : Pick) (kinds : List NameKind) (e : Effect) (s : Site) (y : VarName) → IsKnown (with_fresh_names kinds s).records y → IsKnown (step_row p n limit k kinds e s).site.records y
steps_known p n limit k kinds e s y h =
    subst (λ (b : Records). IsKnown b y) (sym (bears_records p n limit e.born (after_effect k.thread e (own_binds limit e.adds (with_fresh_names kinds s)).site) ∙ cell_keeps_records e.cell (own_binds limit e.adds (with_fresh_names kinds s)).site))
    (asks_known limit e.adds (with_fresh_names kinds s) y h)

-- what is here stays here
pub step_here : (p : List Stmt) (n limit : ℕ) (k : Pick) (kinds : List NameKind) (e : Effect) (s : Site) (y : VarName) → IsHere s.records y → IsHere (step_row p n limit k kinds e s).site.records y
step_here p n limit k kinds e s y (inl zero) = inl zero
step_here p n limit k kinds e s y (inr q) = inr (steps_known p n limit k kinds e s y (makes_known (vars_among (next_names s.records.site s.counters kinds)) s.records y q))

-- ---- names among fresh ones

pub vars_each : (P : VarName → Type 0) (Q : Name → Type 0) → ((x : VarName) → Q (name.Var x) → P x) → (ns : List Name) → Each Q ns → Each P (vars_among ns)
vars_each P Q f [] h = tt
vars_each P Q f (name.Var x ∷ ns) h = (f x h.0, vars_each P Q f ns h.1)
vars_each P Q f (name.Cell c ∷ ns) h = vars_each P Q f ns h.1
vars_each P Q f (name.Proc c ∷ ns) h = vars_each P Q f ns h.1
vars_each P Q f (name.Port c ∷ ns) h = vars_each P Q f ns h.1
vars_each P Q f (name.Thread c ∷ ns) h = vars_each P Q f ns h.1

pub names_here : (b : Records) (ns : List Name) → Each (IsKnown b) (vars_among ns) → Each (IsHereName b) ns
names_here b [] h = tt
names_here b (name.Var x ∷ ns) h = (inr h.0, names_here b ns h.1)
names_here b (name.Cell c ∷ ns) h = (tt, names_here b ns h)
names_here b (name.Proc c ∷ ns) h = (tt, names_here b ns h)
names_here b (name.Port c ∷ ns) h = (tt, names_here b ns h)
names_here b (name.Thread c ∷ ns) h = (tt, names_here b ns h)

-- ---- cells apart

-- the token here has the content of the centre, which is here
abbrev pub CellAgrees : (Name → Type 0) → State → Site → CellChange → Type 0
CellAgrees here c s (Exchanged d new told) = (content_here s (Exchanged d new told) ≡ Step.content_of c.cells d) × here (name.Var (Step.content_of c.cells d))
CellAgrees here c s _ = Unit {0}

-- ---- the unit

-- what the site knows of the step: it takes names, or it makes a bind of an own variable that goes down
abbrev pub SiteStep : List Stmt → Store → ℕ → Stack → List NameKind → Option Equation → Type 0
SiteStep p s i st kinds None = stack_need p s st ≡ Takes kinds
SiteStep p s i st kinds (Some (u, t)) = (a : Term) × (b : Term) × (stack_need p s st ≡ Binds a b) × IsAllowedBind s a b (u, t) × IsFree s u × IsLower t u × (u.site ≡ i) × (kinds ≡ [])

-- the same step at the centre
record AtCentre (p : List Stmt) (s c : Store) (st : Stack) (kinds : List NameKind) (bind : Option Equation) : Type 0 where
  ready : IsReady (stack_need p c st)
  kinds_there : kinds_of (stack_need p c st) ≡ kinds
  bind_there : IsBindFor c (stack_need p c st) bind
  kinds_here : kinds_of (stack_need p s st) ≡ kinds
  bind_here : IsBindFor s (stack_need p s st) bind
  alike : (fresh : List Name) → stack_effect p s fresh bind st ≡ stack_effect p c fresh bind st

at_centre : (p : List Stmt) (here : ℕ → Name → Type 0) (w : World) (c : State) (i : ℕ) (st : Stack) (kinds : List NameKind) (bind : Option Equation) → IsSound c.equations → PartsIn p here w c → SiteStep p (eqs w.sites i) i st kinds bind → AtCentre p (eqs w.sites i) c.equations st kinds bind
at_centre p here w c i st kinds None sound h need =
    let more = more_is_within (eqs w.sites i) c.equations (h.knowledge.known i) in
    let kept = steps_stay p (eqs w.sites i) c.equations st kinds sound more need in
    record {
      ready = subst IsReady (sym kept.0) tt;
      kinds_there = ap kinds_of kept.0;
      bind_there = subst (λ (d : Need). IsBindFor c.equations d None) (sym kept.0) tt;
      kinds_here = ap kinds_of need;
      bind_here = subst (λ (d : Need). IsBindFor (eqs w.sites i) d None) (sym need) tt;
      alike = λ fresh. kept.1 fresh None;
    }
at_centre p here w c i st kinds (Some (u, t)) sound h (a, b, need, allows, free, low, own, none) =
    let central : IsFree c.equations u = λ q k. free q (subst (λ (j : ℕ). Contains (eqs w.sites j) (u, q)) own (h.knowledge.owned u q k)) in
    let lower = lower_binds c.equations u t h.knowledge.one h.knowledge.down central low in
    let kept = binds_stay p (eqs w.sites i) c.equations st a b u t sound (more_is_within (eqs w.sites i) c.equations (h.knowledge.known i)) need allows lower.0 lower.1 in
    record {
      ready = subst IsReady (sym kept.0) tt;
      kinds_there = ap kinds_of kept.0 ∙ sym none;
      bind_there = subst (λ (d : Need). IsBindFor c.equations d (Some (u, t))) (sym kept.0) kept.1;
      kinds_here = ap kinds_of need ∙ sym none;
      bind_here = subst (λ (d : Need). IsBindFor (eqs w.sites i) d (Some (u, t))) (sym need) allows;
      alike = λ fresh. kept.2 fresh (Some (u, t));
    }

unborn_by : (c : State) (fresh : List Name) (o : Option Birth) → BornFrom fresh o → Each (IsNew c) fresh → (b : Birth) → o ≡ Some b → value_of equal_thread c.threads b.name ≡ None
unborn_by c fresh None from new b e = cc
unborn_by c fresh (Some d) (rest, is) new b e =
    let same : d ≡ b = cc in
    subst (λ (x : Birth). value_of equal_thread c.threads x.name ≡ None) same (new_none c.threads d.name (subst (λ (ns : List Name). Each (IsNew c) ns) is new).0.3)

-- a variable that is new has no equation
new_free : (c : State) (x : VarName) → IsNew c (name.Var x) → IsFree c.equations x
new_free c x new t h = (Each-member (EachOfEquation (λ y. y ≢ name.Var x)) c.equations (x, t) new.0 h).0 refl

module _ (p : List Stmt) (w : World) (c : State) (n limit i : ℕ) (th : ThreadName) (st : Stack) (kinds : List NameKind) (bind : Option Equation) where
  abbrev fresh : List Name
  fresh = next_names i (counters w.sites i) kinds

  abbrev k : Pick
  k = step_pick th fresh bind

  abbrev e : Effect
  e = stack_effect p (eqs w.sites i) fresh bind st

  abbrev d : Transition
  d = step_row p n limit k kinds e (w.sites i)

  abbrev hereF : ℕ → Name → Type 0
  hereF = here_at (records (after_transition w i d).sites)

  pub record UnitDone : Type 0 where
    pub allowed : IsAllowed p c k
    pub parts : PartsIn p hereF (after_transition w i d) (next p c k)
    pub effect : effect_of p c k ≡ e
    pub names : EachOfEffect (hereF i) e
    pub news : AreFresh c kinds fresh
    pub wider : (x : VarName) → IsHere (w.sites i).records x → IsHere d.site.records x

  pub unit_step : i ≢ 0 → IsSound c.equations → ((l a : ℕ) (m : Msg) → IsOnItsWay w.mail l a m → l < w.sent) → value_of equal_thread (threads w.sites i) th ≡ Some (st, Runs) → SiteStep p (eqs w.sites i) i st kinds bind →
      CellAgrees (hereF i) c (own_binds limit e.adds (with_fresh_names kinds (w.sites i))).site e.cell → e.port ≡ Keeps → PartsIn p (here_at (records w.sites)) w c → UnitDone
  unit_step real sound below at step agrees keeps h = record { allowed = allowed; parts = subst (λ (x : Effect). PartsIn p hereF (after_transition w i (step_row p n limit k kinds x (w.sites i))) (next p c k)) effect (own_step p hereF w c n limit i k kinds st own h2); effect = effect; names = names; news = news; wider = wider }
    where
      s : Site
      s = w.sites i

      there : AtCentre p (eqs w.sites i) c.equations st kinds bind
      there = at_centre p (here_at (records w.sites)) w c i st kinds bind sound h step

      central : value_of equal_thread c.threads th ≡ Some st
      central = h.placed.up i th st (Runs, at)

      stack_is : stack_of c th ≡ st
      stack_is = rw central refl

      effect : effect_of p c k ≡ e
      effect = rw stack_is (sym (there.alike fresh))

      news : AreFresh c kinds fresh
      news = next_fresh (counters w.sites) c i kinds real h.centred

      allowed : IsAllowed p c k
      allowed = record {
        lives = rw central refl;
        ready = subst (λ (x : Stack). IsReady (stack_need p c.equations x)) (sym stack_is) there.ready;
        fresh = subst (λ (x : Stack). AreFresh c (kinds_of (stack_need p c.equations x)) fresh) (sym stack_is) (subst (λ (ks : List NameKind). AreFresh c ks fresh) (sym there.kinds_there) news);
        bind = subst (λ (x : Stack). IsBindFor c.equations (stack_need p c.equations x) bind) (sym stack_is) there.bind_there;
      }

      final_known : (y : VarName) → IsKnown (with_fresh_names kinds s).records y → IsKnown (records (after_transition w i d).sites i) y
      final_known y q = subst (λ (t : Site). IsKnown t.records y) (sym (at_here w.sites i d.site)) (steps_known p n limit k kinds e s y q)

      up : (j : ℕ) (x : Name) → here_at (records w.sites) j x → hereF j x
      up = at_all w.sites i d.site (λ j (t : Site). (x : Name) → here_at (records w.sites) j x → IsHereName t.records x ⊎ (j ≡ 0)) (λ x q. either x q) (λ j other x q. q)
        where
          one : (x : Name) → IsHereName s.records x → IsHereName d.site.records x
          one (name.Var x) (inl zero) = inl zero
          one (name.Var x) (inr q) = inr (steps_known p n limit k kinds e s x (makes_known (vars_among (next_names s.records.site s.counters kinds)) s.records x q))
          one (name.Cell x) q = tt
          one (name.Proc x) q = tt
          one (name.Port x) q = tt
          one (name.Thread x) q = tt

          either : (x : Name) → IsHereName s.records x ⊎ (i ≡ 0) → IsHereName d.site.records x ⊎ (i ≡ 0)
          either x (inl q) = inl (one x q)
          either x (inr q) = inr q

      wider : (x : VarName) → IsHere s.records x → IsHere d.site.records x
      wider x (inl zero) = inl zero
      wider x (inr q) = inr (steps_known p n limit k kinds e s x (makes_known (vars_among (next_names s.records.site s.counters kinds)) s.records x q))

      h2 : PartsIn p hereF w c
      h2 = parts_weaker p (here_at (records w.sites)) hereF (eqs w.sites) (records w.sites) (threads w.sites) (counters w.sites) w.mail c up h

      h1 : PartsIn p hereF (after_transition w i (with_pick (with_fresh_names kinds s) k)) c
      h1 = makes_row p hereF w c i k kinds h2

      nob : hereF i (name.Var nobody)
      nob = inl (inl refl)

      fresh_known : Each (IsKnown (with_fresh_names kinds s).records) (vars_among fresh)
      fresh_known = subst (λ (o : ℕ). Each (IsKnown (with_fresh_names kinds s).records) (vars_among (next_names o s.counters kinds))) (h.kept i).site
          (made_known (vars_among (next_names s.records.site s.counters kinds)) s.records
          (vars_each (λ (x : VarName). x.site ≡ s.records.site) (IsNextOf s.records.site s.counters (counters_after s.counters kinds)) (λ x r. r.0) (next_names s.records.site s.counters kinds) (next_are s.records.site s.counters kinds)))

      fresh_here : Each (hereF i) fresh
      fresh_here = Each-weaker (IsHereName (records (after_transition w i d).sites i)) (hereF i) (λ x q. inl q) fresh (names_here (records (after_transition w i d).sites i) fresh (Each-weaker _ _ final_known (vars_among fresh) fresh_known))

      names : EachOfEffect (hereF i) e
      names = stack_effect_names (hereF i) nob p (eqs w.sites i) fresh bind st (h2.homes i).equations ((h2.homes i).stacks th (st, Runs) at) fresh_here (subst (AreOfKinds fresh) (sym there.kinds_here) news.of_kinds) there.bind_here

      site1 : counters (after_transition w i (with_pick (with_fresh_names kinds s) k)).sites i ≡ counters_after s.counters kinds
      site1 = ap (λ (t : Site). t.counters) (at_here w.sites i (with_fresh_names kinds s))

      fresh_made : Each (IsMade (counters (after_transition w i (with_pick (with_fresh_names kinds s) k)).sites)) fresh
      fresh_made = Each-weaker _ _ one fresh (next_are i (counters w.sites i) kinds)
        where
          one : (x : Name) → IsNextOf i (counters w.sites i) (counters_after (counters w.sites i) kinds) x → IsMade (counters (after_transition w i (with_pick (with_fresh_names kinds s) k)).sites) x
          one x r = inr (subst (λ (j : ℕ). Fit.IsBelowCounter (counters (after_transition w i (with_pick (with_fresh_names kinds s) k)).sites j) x) (sym r.0) (subst (λ (m : Counters). Fit.IsBelowCounter m x) (sym site1) r.2))

      was : EachOfEffect (IsMade (counters (after_transition w i (with_pick (with_fresh_names kinds s) k)).sites)) e
      was = subst (EachOfEffect (IsMade (counters (after_transition w i (with_pick (with_fresh_names kinds s) k)).sites))) effect (effect_names (IsMade (counters (after_transition w i (with_pick (with_fresh_names kinds s) k)).sites)) (inl refl) p c k h1.centred.all fresh_made allowed)

      adds_ok : CanAddEach (hereF i) (counters (after_transition w i (with_pick (with_fresh_names kinds s) k)).sites) i c.equations e.adds
      adds_ok = go bind refl
        where
          M : ℕ → Counters
          M = counters (after_transition w i (with_pick (with_fresh_names kinds s) k)).sites

          taken : AddsFresh fresh e.adds → CanAddEach (hereF i) M i c.equations e.adds
          taken (inl none) = subst (CanAddEach (hereF i) M i c.equations) (sym none) tt
          taken (inr (a, x, m, q, is, adds)) = subst (CanAddEach (hereF i) M i c.equations) (sym adds) ((tt, one), two)
            where
              of_fresh : Each (IsNextOf i (counters w.sites i) (counters_after (counters w.sites i) kinds)) (name.Var a ∷ name.Var x ∷ [])
              of_fresh = subst (Each (IsNextOf i (counters w.sites i) (counters_after (counters w.sites i) kinds))) is (next_are i (counters w.sites i) kinds)

              new_ones : Each (IsNew c) (name.Var a ∷ name.Var x ∷ [])
              new_ones = subst (Each (IsNew c)) is news.unused

              apart : name.Var a ≢ name.Var x
              apart = (subst AreDistinct is news.distinct).0.0

              names2 : Each (EachOfEquation (hereF i)) ((x, term.Node m) ∷ (a, term.Node q) ∷ [])
              names2 = subst (Each (EachOfEquation (hereF i))) adds names.adds

              was2 : Each (EachOfEquation (IsMade M)) ((x, term.Node m) ∷ (a, term.Node q) ∷ [])
              was2 = subst (Each (EachOfEquation (IsMade M))) adds was.adds

              one : CanAdd (hereF i) M i c.equations (a, term.Node q)
              one = record { own = of_fresh.0.0; free = new_free c a new_ones.0; counted = subst (λ (z : Counters). Fit.IsBelowCounter z (name.Var a)) (sym site1) of_fresh.0.2; low = tt; names = names2.1.0; was = was2.1.0 }

              two : CanAdd (hereF i) M i ((a, term.Node q) ∷ c.equations) (x, term.Node m)
              two = record {
                own = of_fresh.1.0.0;
                free = λ r g. other r (head_or_tail a x (term.Node q) r c.equations g);
                counted = subst (λ (z : Counters). Fit.IsBelowCounter z (name.Var x)) (sym site1) of_fresh.1.0.2;
                low = tt;
                names = names2.0;
                was = was2.0;
              }
                where
                  other : (r : Term) → Contains c.equations (x, r) ⊎ ((x ≡ a) × (r ≡ term.Node q)) → ⊥
                  other r (inl g) = new_free c x new_ones.1.0 r g
                  other r (inr g) = apart (ap name.Var (sym g.0))

          go : (o : Option Equation) → bind ≡ o → CanAddEach (hereF i) M i c.equations e.adds
          go None is = taken (subst (λ (o : Option Equation). AddsFresh fresh (stack_effect p (eqs w.sites i) fresh o st).adds) (sym is) (stack_adds p (eqs w.sites i) fresh st kinds (subst (SiteStep p (eqs w.sites i) i st kinds) is step) news.of_kinds))
          go (Some (u, t)) is = made_bind (subst (SiteStep p (eqs w.sites i) i st kinds) is step)
            where
              made_bind : SiteStep p (eqs w.sites i) i st kinds (Some (u, t)) → CanAddEach (hereF i) M i c.equations e.adds
              made_bind (a, b, need, allows, free, low, at_own, none) = subst (CanAddEach (hereF i) M i c.equations) (sym adds) (
                tt,
                record {
                  own = at_own;
                  free = λ q g. free q (subst (λ (j : ℕ). Contains (eqs w.sites j) (u, q)) at_own (h.knowledge.owned u q g));
                  counted = counted;
                  low = low;
                  names = (subst (Each (EachOfEquation (hereF i))) adds names.adds).0;
                  was = was_one;
                },
              )
                where
                  adds : e.adds ≡ (u, t) ∷ []
                  adds = rw (is, none) (ap (λ (x : Effect). x.adds) (bind_effect p (eqs w.sites i) st a b (u, t) need))

                  was_one : EachOfEquation (IsMade M) (u, t)
                  was_one = (subst (Each (EachOfEquation (IsMade M))) adds was.adds).0

                  counted : Fit.IsBelowCounter (M i) (name.Var u)
                  counted = at_site was_one.0
                    where
                      at_site : IsMade M (name.Var u) → Fit.IsBelowCounter (M i) (name.Var u)
                      at_site (inl zero) = absurd (real (sym at_own ∙ zero))
                      at_site (inr q) = subst (λ (j : ℕ). Fit.IsBelowCounter (M j) (name.Var u)) at_own q

      own : IsOwnStep p hereF w c limit i k kinds st
      own = record {
        real = real;
        at = at;
        allowed = allowed;
        fresh = refl;
        adds = subst (λ (x : Effect). CanAddEach (hereF i) (counters (after_transition w i (with_pick (with_fresh_names kinds s) k)).sites) i c.equations x.adds) (sym effect) adds_ok;
        cell = subst (λ (x : Effect). exchange_stack (content_here (own_binds limit x.adds (with_fresh_names kinds s)).site x.cell) x.cell x.stack ≡ stack_left c x) (sym effect) (settles e.cell e.stack agrees ∙ sym no_end);
        stack = subst (λ (x : Effect). EachOfStack (hereF i) (stack_left c x)) (sym effect) (subst (EachOfStack (hereF i)) (sym no_end) (stack_here e.cell names.cell agrees));
        birth = subst (λ (x : Effect). EachOfBirth (hereF i) x.born) (sym effect) names.born;
        unborn = subst (λ (x : Effect). (b : Birth) → x.born ≡ Some b → value_of equal_thread c.threads b.name ≡ None) (sym effect) (unborn_by c fresh e.born (stack_born p (eqs w.sites i) fresh bind st (subst (AreOfKinds fresh) (sym there.kinds_here) news.of_kinds)) news.unused);
        central = central;
        nobody = nob;
        below = below;
      }
        where
          s2 : Site
          s2 = (own_binds limit e.adds (with_fresh_names kinds s)).site

          no_end : stack_left c e ≡ stack_with_content c.cells e.cell e.stack
          no_end = ap (λ (q : PortChange). stack_with_end c.ports q (stack_with_content c.cells e.cell e.stack)) keeps

          settles : (ch : CellChange) (su : Stack) → CellAgrees (hereF i) c s2 ch → exchange_stack (content_here s2 ch) ch su ≡ stack_with_content c.cells ch su
          settles Stays su a = refl
          settles (Made x v) su a = refl
          settles (Exchanged x new told) su a = rw a.0 refl

          stack_here : (ch : CellChange) → EachOfChange (hereF i) ch → CellAgrees (hereF i) c s2 ch → EachOfStack (hereF i) (stack_with_content c.cells ch e.stack)
          stack_here Stays q a = names.stack
          stack_here (Made x v) q a = names.stack
          stack_here (Exchanged x new told) q a = ((((q.2, a.1), tt), tt), names.stack)
