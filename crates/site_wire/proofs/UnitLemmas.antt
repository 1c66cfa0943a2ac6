-- Units of a site that fits.
use Rattle.std.proofs.Common.{arith, ◌≡◌, ◌≢◌, ◌∙◌, sym, ap, refl, subst, ℕ, ◌<◌, ◌≤◌, List, [], ◌∷◌, ◌++◌, ◌⊎◌, inl, inr, Some, None}
use Rattle.std.specs.Prelude.{Option, ◌==◌}
use Rattle.tree_node.specs.declared.names.VarName.{VarName}
use Rattle.tree_node.specs.declared.names.CellName.{CellName}
use Rattle.tree_node.specs.declared.names.PortName.{PortName}
use Rattle.tree_node.specs.declared.names.ThreadName.{ThreadName}
use Rattle.tree_node.specs.declared.names.NameKind.{NameKind}
use Rattle.tree_node.specs.declared.names.NameKind.TheVariants as kind
use Rattle.tree_node.specs.State.{Stack}
use Rattle.tree_node.proofs.EachLemmas.{each_append}
use Rattle.kernel_syntax.specs.declared.stmt.Stmt.{Stmt}
use Rattle.kernel_syntax.specs.Program.{IsProgram}
use Rattle.site_message.specs.declared.message.Sent as letter
use Rattle.site_message.specs.Wire.{IsSite, FitsVar, FitsWire}
use Rattle.oz_model.specs.Need.{Need, Takes, stack_need, kinds_of}
use Rattle.oz_model.specs.Need as need
use Rattle.oz_model.specs.Effect.{Birth, CellChange, Stays, Made, Exchanged, PortChange, Keeps, Opened, Sent, Effect, thread_among}
use Rattle.oz_model.specs.EffectNames.{EachOfChange, EachOfPortChange}
use Rattle.oz_model.specs.Step.{AreOfKinds, IsBindFor}
use Rattle.oz_model.proofs.BirthLemmas.{stack_born}
use Rattle.thread_roster.specs.declared.mode.Awaited.TheVariants.{Cell, Port}
use Rattle.thread_roster.specs.declared.mode.Mode.TheVariants.{Runs}
use Rattle.thread_roster.specs.declared.mode.Mode.TheVariants as mode
use Rattle.site_model.specs.Site.{Site, ThreadState, thread_state}
use Rattle.site_model.specs.Transition.{Transition}
use Rattle.site_model.specs.Cells.{step_pick, effect_here}
use Rattle.site_model.specs.Requests.{with_asking}
use Rattle.site_model.specs.Turn.{AreUnits}
use Rattle.site_model.specs.Unit.{next_names, with_fresh_names, fresh_names, home_content, end_here, IsTokenHere, IsCellUnit, IsStepOrRequest, IsUnitFor, with_mode, thread_step, kept_step}
use Rattle.site_model.proofs.FilledLemmas.{next_kinds}
use Rattle.site_wire.specs.Sending.{IsOfSites, IsAtNameless, IsAtSend, IsKeptVar, SiteFits, TransitionFits}
use Rattle.site_wire.proofs.EffectLemmas.{EffectFits, ChangesOne, effect_fits, changes_one, exchanges_nameless, sends_at}
use Rattle.site_wire.proofs.CellLemmas.{end_fits}
use Rattle.site_wire.proofs.SiteLemmas.{still}
use Rattle.site_wire.proofs.StepLemmas.{fresh_of, needing_fits, several_fits, steps_fit, bind_attempts_fit, asking_stands, requests_fit}
use Rattle.site_wire.proofs.KeptLemmas.{IsKeptGiven, send_asks, home_asks, home_waits, kept_fits}

-- an effect on a port changes no cell
stays_on : (e : Effect) → ChangesOne e → (e.port ≡ Keeps → ⊥) → e.cell ≡ Stays
stays_on e (inl k) h = k
stays_on e (inr k) h = absurd (h k)

given_port : (e : Effect) (s : Site) → e.cell ≡ Stays → ((q : PortName) (value new : VarName) → e.port ≡ Sent q value new → FitsVar (end_here s e.port)) → IsKeptGiven e s
given_port e s k end = record {
  stationary = λ c v r. (let contrary : Stays ≡ Made c v = sym k ∙ r in cc);
  content = λ c new told r. (let contrary : Stays ≡ Exchanged c new told = sym k ∙ r in cc);
  end = end;
}

module _ (p : List Stmt) (is : IsProgram p) (n limit : ℕ) (high : limit ≤ 256) (i : ℕ) (low : IsSite i) where
  -- by what becomes of a cell
  by_cell : (th : ThreadName) (st : Stack) (s : Site) (step kept : Transition) (e : Effect) (d : Transition) → thread_state s th ≡ Some (st, Runs) → EffectFits p e → ((c : CellName) (new told : VarName) → e.cell ≡ Exchanged c new told → IsAtNameless p st)
      → (((c : CellName) (new told : VarName) → e.cell ≡ Exchanged c new told → IsTokenHere s c) → TransitionFits p i step)
      → (((c : CellName) (v : VarName) → e.cell ≡ Made c v → c.at ≢ 0) → ((c : CellName) (new told : VarName) → e.cell ≡ Exchanged c new told → FitsVar (home_content s e.cell)) → TransitionFits p i kept)
      → SiteFits p i s → (c : CellChange) → e.cell ≡ c → IsCellUnit limit th st s step kept c d → TransitionFits p i d
  by_cell th st s step kept e d now f calm steps keeps h Stays q k = subst (TransitionFits p i) (sym k) (steps (λ c new told r. (let contrary : Stays ≡ Exchanged c new told = sym q ∙ r in cc)))
  by_cell th st s step kept e d now f calm steps keeps h (Made b v) q (inl k) = subst (TransitionFits p i) (sym k.1) (steps (λ c new told r. (let contrary : Made b v ≡ Exchanged c new told = sym q ∙ r in cc)))
  by_cell th st s step kept e d now f calm steps keeps h (Made b v) q (inr k) = subst (TransitionFits p i) (sym k.1)
      (keeps (λ c w r. (let same : Made b v ≡ Made c w = sym q ∙ r in let cell : b ≡ c = cc in subst (λ (z : CellName). z.at ≢ 0) cell k.0))
      (λ c new told r. (let contrary : Made b v ≡ Exchanged c new told = sym q ∙ r in cc)))
  by_cell th st s step kept e d now f calm steps keeps h (Exchanged b m t) q (inl (mobile, inl k)) = subst (TransitionFits p i) (sym k.1)
      (steps (λ c new told r. (let same : Exchanged b m t ≡ Exchanged c new told = sym q ∙ r in let cell : b ≡ c = cc in subst (IsTokenHere s) cell k.0)))
  by_cell th st s step kept e d now f calm steps keeps h (Exchanged b m t) q (inl (mobile, inr k)) =
      let names : EachOfChange IsOfSites (Exchanged b m t) = subst (EachOfChange IsOfSites) q f.cell in
      subst (TransitionFits p i) (sym k.1) (requests_fit p is n limit high i low b m th st s now (calm b m t q) (names.0.0, mobile) names.1 h)
  by_cell th st s step kept e d now f calm steps keeps h (Exchanged b m t) q (inr (stationary, inl (here, k))) = subst (TransitionFits p i) (sym k)
      (keeps (λ c w r. (let contrary : Exchanged b m t ≡ Made c w = sym q ∙ r in cc)) (λ c new told r. content))
    where
      known : FitsVar (home_content s (Exchanged b m t))
      known = rw here.2 (subst IsKeptVar here.2 (h.kept.homes b).0)

      content : FitsVar (home_content s e.cell)
      content = subst (λ (c : CellChange). FitsVar (home_content s c)) (sym q) known
  by_cell th st s step kept e d now f calm steps keeps h (Exchanged b m t) q (inr (stationary, inr (inl k))) =
      let names : EachOfChange IsOfSites (Exchanged b m t) = subst (EachOfChange IsOfSites) q f.cell in
      subst (TransitionFits p i) (sym k.1) (home_asks p is n limit high i low b m th st s now (calm b m t q) (names.0.0, (omega (arith, stationary), names.0.1)) names.1 h)
  by_cell th st s step kept e d now f calm steps keeps h (Exchanged b m t) q (inr (stationary, inr (inr k))) =
      let names : EachOfChange IsOfSites (Exchanged b m t) = subst (EachOfChange IsOfSites) q f.cell in
      subst (TransitionFits p i) (sym k.2) (home_waits p is n limit high i low b m th st s now (calm b m t q) k.0 names.1 h)

  -- by what becomes of a port
  by_port : (th : ThreadName) (st : Stack) (s : Site) (step kept : Transition) (e : Effect) (d : Transition) → thread_state s th ≡ Some (st, Runs) → EffectFits p e → ChangesOne e → ((c : CellName) (new told : VarName) → e.cell ≡ Exchanged c new told → IsAtNameless p st)
      → ((q : PortName) (value new : VarName) → e.port ≡ Sent q value new → IsAtSend p st)
      → (((c : CellName) (new told : VarName) → e.cell ≡ Exchanged c new told → IsTokenHere s c) → TransitionFits p i step) → (IsKeptGiven e s → TransitionFits p i kept)
      → SiteFits p i s → (r : PortChange) → e.port ≡ r → IsStepOrRequest limit th st s step kept (record e { port = r }) d → TransitionFits p i d
  by_port th st s step kept e d now f one calm sends steps keeps h Keeps q k = by_cell th st s step kept e d now f calm steps
      (λ stationary content. keeps (record { stationary = stationary; content = content; end = λ r value new g. (let contrary : Keeps ≡ Sent r value new = sym q ∙ g in cc) })) h e.cell refl k
  by_port th st s step kept e d now f one calm sends steps keeps h (Opened a x) q k = subst (TransitionFits p i) (sym k)
      (keeps (given_port e s (stays_on e one (λ w. (let contrary : Opened a x ≡ Keeps = sym q ∙ w in cc))) (λ r value new g. (let contrary : Opened a x ≡ Sent r value new = sym q ∙ g in cc))))
  by_port th st s step kept e d now f one calm sends steps keeps h (Sent a v m) q (inl (here, x, held, k)) = subst (TransitionFits p i) (sym k)
      (keeps (given_port e s (stays_on e one (λ w. (let contrary : Sent a v m ≡ Keeps = sym q ∙ w in cc))) (λ r value new g. end)))
    where
      known : FitsVar (end_here s (Sent a v m))
      known = rw held (end_fits s.ports a x h.kept.ends held)

      end : FitsVar (end_here s e.port)
      end = subst (λ (r : PortChange). FitsVar (end_here s r)) (sym q) known
  by_port th st s step kept e d now f one calm sends steps keeps h (Sent a v m) q (inr (inl k)) =
      let names : EachOfPortChange IsOfSites (Sent a v m) = subst (EachOfPortChange IsOfSites) q f.port in
      subst (TransitionFits p i) (sym k.1) (send_asks p is n limit high i low a th st s now (sends a v m q) names.0 h)
  by_port th st s step kept e d now f one calm sends steps keeps h (Sent a v m) q (inr (inr k)) = subst (TransitionFits p i) (sym k.2)
      (still p is limit high i low (with_asking th st (Port a) s) (asking_stands p is n limit high i low th st (Port a) s now (λ (c : CellName) (w : Port a ≡ Cell c). cc) (λ r w. sends a v m q) h))

  needs_fit : (s : Site) (th : ThreadName) (st : Stack) (d : Need) (e : Transition) → thread_state s th ≡ Some (st, Runs) → SiteFits p i s → stack_need p s.equations st ≡ d → IsUnitFor p n limit s th st d e → TransitionFits p i e
  needs_fit s th st (need.Waits x) e now h q (z, names, g) = subst (TransitionFits p i) (sym g) (still p is limit high i low (with_mode th st (mode.Needs z) s) (needing_fits p is n limit high i low th st z s now h))
  needs_fit s th st (need.WaitsAny r) e now h q (xs, open_on, g) = subst (TransitionFits p i) (sym g) (still p is limit high i low (with_mode th st (mode.WaitsAny xs) s) (several_fits p is n limit high i low th st xs s now h))
  needs_fit s th st (need.Binds a b) e now h q (u, t, root, g) = subst (TransitionFits p i) (sym g) (bind_attempts_fit p is n limit high i low s th st a b u t (u.site == s.records.site) now q root.0 h)
  needs_fit s th st (Takes kinds) e now h q g = by_port th st s (thread_step p n limit th st kinds (fresh_names s kinds) None s) (kept_step p limit th st kinds (fresh_names s kinds) s) (effect_here p s (fresh_names s kinds) None st) e now f
      (changes_one p s.equations (fresh_names s kinds) None st) (λ c new told r. exchanges_nameless p s.equations (fresh_names s kinds) None st c new told r) (λ a value new r. sends_at p s.equations (fresh_names s kinds) None st a value new r)
      (λ token. steps_fit p is n limit high i low (step_pick th (fresh_names s kinds) None) kinds (effect_here p s (fresh_names s kinds) None st) s st now f (record { none = λ b r. none b r; number = λ b r mine. number b r mine; token = token }) h)
      (λ given. kept_fits p is n limit high i low (step_pick th (fresh_names s kinds) None) kinds (effect_here p s (fresh_names s kinds) None st) s st now f given h) h (effect_here p s (fresh_names s kinds) None st).port refl g
    where
      f : EffectFits p (effect_here p s (fresh_names s kinds) None st)
      f = effect_fits p is s.equations (fresh_names s kinds) None st h.equations (h.threads.each th (st, Runs) now).stack (fresh_of s.records.site s.counters kinds (subst IsSite (sym h.site) low) h.kept.sites)
          (subst (λ (d : Need). AreOfKinds (fresh_names s kinds) (kinds_of d)) (sym q) (next_kinds s.records.site s.counters kinds)) (subst (λ (d : Need). IsBindFor s.equations d None) (sym q) tt)

      -- the name that is taken next
      next : (ks : List NameKind) → ks ≡ kind.Thread ∷ [] → (thread_among (next_names s.records.site s.counters ks) ≡ record { site = s.records.site; num = s.counters.threads }) × (s.counters.threads < (with_fresh_names ks s).counters.threads)
      next ks k = subst (λ (ks : List NameKind). (thread_among (next_names s.records.site s.counters ks) ≡ record { site = s.records.site; num = s.counters.threads }) × (s.counters.threads < (with_fresh_names ks s).counters.threads)) (sym k) (refl, omega arith)

      named : (b : Birth) → (effect_here p s (fresh_names s kinds) None st).born ≡ Some b → (b.name ≡ record { site = s.records.site; num = s.counters.threads }) × (s.counters.threads < (with_fresh_names kinds s).counters.threads)
      named b r =
          let o = stack_born p s.equations (fresh_names s kinds) None st b r in
          let k = next kinds (sym (ap kinds_of q) ∙ ap kinds_of o.1) in
          (o.0 ∙ k.0, k.1)

      none : (b : Birth) → (effect_here p s (fresh_names s kinds) None st).born ≡ Some b → thread_state s b.name ≡ None
      none b r = go (thread_state s b.name) refl
        where
          go : (o : Option ThreadState) → thread_state s b.name ≡ o → thread_state s b.name ≡ None
          go None k = k
          go (Some v) k =
              let name = (named b r).0 in
              let mine : b.name.site ≡ i = ap (λ (z : ThreadName). z.site) name ∙ h.site in
              let number : b.name.num ≡ s.counters.threads = ap (λ (z : ThreadName). z.num) name in
              let below = h.threads.own b.name v k mine in
              absurd (omega (arith, number, below))

      number : (b : Birth) → (effect_here p s (fresh_names s kinds) None st).born ≡ Some b → b.name.site ≡ i → b.name.num < (with_fresh_names kinds s).counters.threads
      number b r mine =
          let o = named b r in
          let num : b.name.num ≡ s.counters.threads = ap (λ (z : ThreadName). z.num) o.0 in
          omega (arith, num, o.1)

  pub units_fit : (ths : List ThreadName) (s : Site) (d : Transition) → SiteFits p i s → AreUnits p n limit ths s d → TransitionFits p i d
  units_fit [] s d h e = subst (TransitionFits p i) (sym e) (still p is limit high i low s h)
  units_fit (th ∷ ths) s d h (one, rest, unit, units, e) =
      let first : TransitionFits p i one = needs_fit s th unit.0 (stack_need p s.equations unit.0) one unit.1 h refl unit.2 in
      let next : TransitionFits p i rest = units_fit ths one.site rest first.site units in
      subst (TransitionFits p i) (sym e) (record { site = next.site; sent = each_append (λ (m : letter.Sent). FitsWire m.msg) one.sent rest.sent first.sent next.sent })
