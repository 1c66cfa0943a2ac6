-- What each part of a turn makes of a fitting site, and what it sends.
use Rattle.std.proofs.Common.{arith, ◌≡◌, ◌∙◌, sym, refl, subst, ℕ, zero, suc, ◌<◌, ◌≤◌, List, [], ◌∷◌, ◌++◌, map, ◌⊎◌, inl, inr, Bool, true, false, cond, Some, None}
use Rattle.std.specs.Prelude.{Option, Contains, ℤ, pos, negsuc}
use Rattle.std.proofs.lemmas.List.Elements.{Contains-append_left, Contains-append_right, Contains-append_cases}
use Rattle.tree_node.specs.declared.names.VarName.{VarName}
use Rattle.tree_node.specs.declared.names.CellName.{CellName}
use Rattle.tree_node.specs.declared.names.ThreadName.{ThreadName}
use Rattle.tree_node.specs.declared.names.Name.{Name}
use Rattle.tree_node.specs.declared.names.Name.TheVariants as name
use Rattle.tree_node.specs.declared.names.NameKind.{NameKind}
use Rattle.tree_node.specs.declared.names.NameKind.TheVariants as kind
use Rattle.tree_node.specs.declared.node.Term.{Term}
use Rattle.tree_node.specs.Assoc.{value_of, with_value, without_key, with_optional_value}
use Rattle.tree_node.specs.Each.{Each}
use Rattle.tree_node.specs.Names.{EachOfEquation}
use Rattle.tree_node.specs.State.{Stack, equal_thread}
use Rattle.tree_node.specs.Store.{Store, Equation}
use Rattle.tree_node.proofs.ClassLemmas.{Contains-head, Contains-tail}
use Rattle.kernel_syntax.specs.declared.stmt.Stmt.{Stmt}
use Rattle.kernel_syntax.specs.Program.{IsProgram}
use Rattle.site_message.specs.declared.message.Msg.{Msg}
use Rattle.site_message.specs.declared.message.Msg.TheVariants as msg
use Rattle.site_message.specs.declared.message.Sent.{Sent}
use Rattle.variable_owner.specs.Owners.{owner_of, sites_of}
use Rattle.oz_model.specs.WellFormed.{IsNode, IsNodeOf}
use Rattle.oz_model.specs.Effect.{vars_among}
use Rattle.oz_model.proofs.NameLemmas.{Each-weaker, EachOfTerm-weaker, EachOfEquation-weaker}
use Rattle.thread_machine.specs.Fits.{EquationsFit}
use Rattle.thread_machine.specs.Fits as fits
use Rattle.bind_protocol.specs.Records.{Records, knowledge, IsKnown}
use Rattle.bind_protocol.specs.Rows.{binding}
use Rattle.site_message.specs.Vars.{vars_of}
use Rattle.site_model.specs.Site.{Site, ThreadState, Threads, CellRecord, Counters}
use Rattle.thread_roster.specs.declared.mode.Mode.{Mode}
use Rattle.thread_roster.specs.Binds.{goes_on}
use Rattle.thread_roster.specs.Threads.{wake_where}
use Rattle.site_model.specs.Bundle.{with_own_bundles, bundle_of, with_bundle}
use Rattle.site_model.specs.Transition.{Transition, without_output, and_then}
use Rattle.site_model.specs.Variables.{after_makes, own_bind, own_binds}
use Rattle.site_model.specs.Unit.{with_fresh_names, fresh_names, next_names, counter_after, counters_after, home_among}
use Rattle.site_model.specs.Fit.{EachOfMsg, CodesFit}
use Rattle.world_messages.specs.Fitting.{HasHomeIn, ThreadFits, TermsFit, NamesKnown, SiteFits, MessageHomes, MsgFits, AllFit}
use Rattle.world_messages.proofs.AddsLemmas.{fresh_own}
use Rattle.world_messages.proofs.TermLemmas.{IsMore, IsFitFor, terms_grow, terms_learn}
use Rattle.world_messages.proofs.KnownLemmas.{Goes, MakesAll, ask_goes, makes_all, counted_cases, counted_back, counted_more}
use Rattle.world_messages.proofs.EffectLemmas.{bundles}
use Rattle.world_messages.proofs.KeepFitLemmas.{keeps_grow}
use Rattle.tree_node.proofs.NameLemmas.{same_thread_decides}

-- ---- messages

module _ (P Q : Name → Type 0) (w : (x : Name) → P x → Q x) where
  vars_weaker : (xs : List VarName) → Each (λ (x : VarName). P (name.Var x)) xs → Each (λ (x : VarName). Q (name.Var x)) xs
  vars_weaker xs h = Each-weaker _ _ (λ (x : VarName) (k : P (name.Var x)). w (name.Var x) k) xs h

  pub EachOfMsg-weaker : (m : Msg) → EachOfMsg P m → EachOfMsg Q m
  EachOfMsg-weaker (msg.Spawn n code vars es) h = (w (name.Thread n) h.0, vars_weaker vars h.1, Each-weaker _ _ (EachOfEquation-weaker P Q w) es h.2)
  EachOfMsg-weaker (msg.Register x k) h = w (name.Var x) h
  EachOfMsg-weaker (msg.BindReq x n t es) h = (w (name.Var x) h.0, w (name.Thread n) h.1, EachOfTerm-weaker P Q w t h.2, Each-weaker _ _ (EachOfEquation-weaker P Q w) es h.3)
  EachOfMsg-weaker (msg.Binding x t es) h = (w (name.Var x) h.0, EachOfTerm-weaker P Q w t h.1, Each-weaker _ _ (EachOfEquation-weaker P Q w) es h.2)
  EachOfMsg-weaker (msg.Get c k) h = w (name.Cell c) h
  EachOfMsg-weaker (msg.Forward c k) h = w (name.Cell c) h
  EachOfMsg-weaker (msg.Put c v es) h = (w (name.Cell c) h.0, w (name.Var v) h.1, Each-weaker _ _ (EachOfEquation-weaker P Q w) es h.2)
  EachOfMsg-weaker (msg.PortSend q n k) h = (w (name.Port q) h.0, w (name.Thread n) h.1)
  EachOfMsg-weaker (msg.PortEnd n old new es) h = (w (name.Thread n) h.0, w (name.Var old) h.1, w (name.Var new) h.2, Each-weaker _ _ (EachOfEquation-weaker P Q w) es h.3)
  EachOfMsg-weaker (msg.CellMake c v es) h = (w (name.Cell c) h.0, w (name.Var v) h.1, Each-weaker _ _ (EachOfEquation-weaker P Q w) es h.2)
  EachOfMsg-weaker (msg.CellAsk c n k v es) h = (w (name.Cell c) h.0, w (name.Thread n) h.1, w (name.Var v) h.2, Each-weaker _ _ (EachOfEquation-weaker P Q w) es h.3)
  EachOfMsg-weaker (msg.CellOld n v es) h = (w (name.Thread n) h.0, w (name.Var v) h.1, Each-weaker _ _ (EachOfEquation-weaker P Q w) es h.2)

more_names : (known more : List VarName) → ((x : VarName) → Contains known x → Contains more x) → (n : Name) → fits.IsKnown known n → fits.IsKnown more n
more_names known more w (name.Var x) h = w x h
more_names known more w (name.Cell x) h = tt
more_names known more w (name.Proc x) h = tt
more_names known more w (name.Port x) h = tt
more_names known more w (name.Thread x) h = tt

pub all_grow : (p : List Stmt) (n : ℕ) (known more : List VarName) (ms : List Sent) → IsMore known more → AllFit p n known ms → AllFit p n more ms
all_grow p n known more ms w h = Each-weaker _ _ (λ (m : Sent) (k : MsgFits p n known m.msg). (EachOfMsg-weaker (fits.IsKnown known) (fits.IsKnown more) (more_names known more w) m.msg k.0, k.1, k.2)) ms h

pub all_append : (p : List Stmt) (n : ℕ) (known : List VarName) (xs ys : List Sent) → AllFit p n known xs → AllFit p n known ys → AllFit p n known (xs ++ ys)
all_append p n known [] ys h k = k
all_append p n known (x ∷ xs) ys h k = (h.0, all_append p n known xs ys h.1 k)

-- ---- deeds

-- the site that did this fits on, over more variables; the new ones are of R
pub record FitsOn (p : List Stmt) (n i : ℕ) (R : VarName → Type 0) (known : List VarName) (d : Transition) : Type 0 where
  pub more : List VarName
  pub grows : IsMore known more
  pub new : (x : VarName) → Contains more x → Contains known x ⊎ R x
  pub site : SiteFits p n i more d.site
  pub sent : AllFit p n more d.sent

-- what is new after one part and another
pub new_then : (R : VarName → Type 0) (known more most : List VarName) → ((x : VarName) → Contains more x → Contains known x ⊎ R x) → ((x : VarName) → Contains most x → Contains more x ⊎ R x) → (x : VarName) → Contains most x → Contains known x ⊎ R x
new_then R known more most f g x h = go (g x h)
  where
    go : Contains more x ⊎ R x → Contains known x ⊎ R x
    go (inl k) = f x k
    go (inr r) = inr r

module _ (p : List Stmt) (is : IsProgram p) (n limit : ℕ) (i : ℕ) (R : VarName → Type 0) where
  pub becomes_fits : (known : List VarName) (s : Site) → SiteFits p n i known s → FitsOn p n i R known (without_output s)
  becomes_fits known s h = record { more = known; grows = λ x c. c; new = λ x c. inl c; site = h; sent = tt }

  pub fits_then : (known : List VarName) (d : Transition) (f : Site → Transition) → FitsOn p n i R known d → ((more : List VarName) → IsMore known more → SiteFits p n i more d.site → FitsOn p n i R more (f d.site)) → FitsOn p n i R known (and_then d f)
  fits_then known d f h g = go (g h.more h.grows h.site)
    where
      go : FitsOn p n i R h.more (f d.site) → FitsOn p n i R known (and_then d f)
      go k = record {
        more = k.more;
        grows = λ x c. k.grows x (h.grows x c);
        new = new_then R known h.more k.more h.new k.new;
        site = k.site;
        sent = all_append p n k.more d.sent (f d.site).sent (all_grow p n h.more k.more d.sent k.grows h.sent) k.sent;
      }

  -- ---- what goes with a message

  abbrev Rows : List VarName → List Equation → Type 0
  Rows known es = Each (EachOfEquation (fits.IsKnown known)) es × Each (λ (e : Equation). IsNodeOf (IsNode p) e.1) es

  -- a message that fits without its bundle fits with it
  carried_terms : (known : List VarName) (s : Store) (m : Msg) → EquationsFit p known s → Each (λ (e : Equation). IsNodeOf (IsNode p) e.1) s → EachOfMsg (fits.IsKnown known) m × CodesFit p m → EachOfMsg (fits.IsKnown known) (with_bundle (bundle_of limit s m) m) × CodesFit p (with_bundle (bundle_of limit s m) m)
  carried_terms known s (msg.Spawn th code vars es) h g k = ((k.0.0, k.0.1, bundles _ limit s vars h.names), (k.1.0, (tt, bundles _ limit s vars g)))
  carried_terms known s (msg.Register x k0) h g k = k
  carried_terms known s (msg.BindReq x th t es) h g k = ((k.0.0, k.0.1, k.0.2, bundles _ limit s (vars_of t) h.names), (tt, (k.1.1.0, bundles _ limit s (vars_of t) g)))
  carried_terms known s (msg.Binding x t es) h g k = ((k.0.0, k.0.1, bundles _ limit s (vars_of t) h.names), (tt, (k.1.1.0, bundles _ limit s (vars_of t) g)))
  carried_terms known s (msg.Get c k0) h g k = k
  carried_terms known s (msg.Forward c k0) h g k = k
  carried_terms known s (msg.Put c v es) h g k = ((k.0.0, k.0.1, bundles _ limit s (v ∷ []) h.names), (tt, (tt, bundles _ limit s (v ∷ []) g)))
  carried_terms known s (msg.PortSend q th k0) h g k = k
  carried_terms known s (msg.PortEnd th old new es) h g k = ((k.0.0, k.0.1, k.0.2, bundles _ limit s (old ∷ new ∷ []) h.names), (tt, (tt, bundles _ limit s (old ∷ new ∷ []) g)))
  carried_terms known s (msg.CellMake c v es) h g k = ((k.0.0, k.0.1, bundles _ limit s (v ∷ []) h.names), (tt, (tt, bundles _ limit s (v ∷ []) g)))
  carried_terms known s (msg.CellAsk c th k0 v es) h g k = ((k.0.0, k.0.1, k.0.2, bundles _ limit s (v ∷ []) h.names), (tt, (tt, bundles _ limit s (v ∷ []) g)))
  carried_terms known s (msg.CellOld th v es) h g k = ((k.0.0, k.0.1, bundles _ limit s (v ∷ []) h.names), (tt, (tt, bundles _ limit s (v ∷ []) g)))

  carried_homes : (s : Store) (m : Msg) → Each (EachOfEquation (HasHomeIn n)) s → MessageHomes n m → MessageHomes n (with_bundle (bundle_of limit s m) m)
  carried_homes s (msg.Spawn th code vars es) h k = (tt, bundles _ limit s vars h)
  carried_homes s (msg.Register x k0) h k = k
  carried_homes s (msg.BindReq x th t es) h k = (k.0, bundles _ limit s (vars_of t) h)
  carried_homes s (msg.Binding x t es) h k = (k.0, bundles _ limit s (vars_of t) h)
  carried_homes s (msg.Get c k0) h k = k
  carried_homes s (msg.Forward c k0) h k = k
  carried_homes s (msg.Put c v es) h k = (tt, bundles _ limit s (v ∷ []) h)
  carried_homes s (msg.PortSend q th k0) h k = k
  carried_homes s (msg.PortEnd th old new es) h k = (tt, bundles _ limit s (old ∷ new ∷ []) h)
  carried_homes s (msg.CellMake c v es) h k = (k.0, bundles _ limit s (v ∷ []) h)
  carried_homes s (msg.CellAsk c th k0 v es) h k = (k.0, bundles _ limit s (v ∷ []) h)
  carried_homes s (msg.CellOld th v es) h k = (tt, bundles _ limit s (v ∷ []) h)

  pub carried : (known : List VarName) (s : Store) (m : Msg) → EquationsFit p known s → Each (λ (e : Equation). IsNodeOf (IsNode p) e.1) s → Each (EachOfEquation (HasHomeIn n)) s → MsgFits p n known m → MsgFits p n known (with_bundle (bundle_of limit s m) m)
  carried known s m h g q k = (let c = carried_terms known s m h g (k.0, k.1) in (c.0, c.1, carried_homes s m q k.2))

  -- bindings to each of these sites
  pub bindings_fit : (known : List VarName) (s : Store) (x : VarName) (t : Term) (ks : List ℕ) → EquationsFit p known s → Each (λ (e : Equation). IsNodeOf (IsNode p) e.1) s → Each (EachOfEquation (HasHomeIn n)) s → IsFitFor p n known x t → AllFit p n known (with_own_bundles limit s (map (λ (k : ℕ). binding x t k) ks))
  bindings_fit known s x t [] h g q f = tt
  bindings_fit known s x t (k ∷ ks) h g q f = (carried known s (msg.Binding x t []) h g q ((f.0, f.1, tt), (tt, (f.3, tt)), (f.4, tt)), bindings_fit known s x t ks h g q f)

  -- ---- names that are made

  abbrev pub new_of : Site → List NameKind → List VarName
  new_of s kinds = vars_among (fresh_names s kinds)

  -- the number of sites stays
  counted_sites : (c : Counters) (kinds : List NameKind) → (counters_after c kinds).sites ≡ c.sites
  counted_sites c [] = refl
  counted_sites c (kind.Var ∷ ks) = counted_sites (counter_after c kind.Var) ks
  counted_sites c (kind.Cell ∷ ks) = counted_sites (counter_after c kind.Cell) ks
  counted_sites c ((kind.CellAt k) ∷ ks) = counted_sites (counter_after c (kind.CellAt k)) ks
  counted_sites c (kind.Proc ∷ ks) = counted_sites (counter_after c kind.Proc) ks
  counted_sites c (kind.Port ∷ ks) = counted_sites (counter_after c kind.Port) ks
  counted_sites c (kind.Thread ∷ ks) = counted_sites (counter_after c kind.Thread) ks

  -- the home of a new cell is one of the sites
  home_low : (m : ℕ) (k : ℤ) → 1 ≤ n → m ≡ n → home_among m k ≤ n
  home_low (suc m) (pos (suc k)) some e = omega (arith, e)
  home_low (suc m) (pos zero) some e = omega (arith, some)
  home_low (suc m) (negsuc k) some e = omega (arith, some)
  home_low zero k some e = omega (arith, some)

  pub fresh_homes : (o : ℕ) (c : Counters) (kinds : List NameKind) → 1 ≤ n → c.sites ≡ n → Each (HasHomeIn n) (next_names o c kinds)
  fresh_homes o c [] some e = tt
  fresh_homes o c (kind.Var ∷ ks) some e = (omega arith, fresh_homes o (counter_after c kind.Var) ks some e)
  fresh_homes o c (kind.Cell ∷ ks) some e = (omega arith, fresh_homes o (counter_after c kind.Cell) ks some e)
  fresh_homes o c ((kind.CellAt k) ∷ ks) some e = (home_low c.sites k some e, fresh_homes o (counter_after c (kind.CellAt k)) ks some e)
  fresh_homes o c (kind.Proc ∷ ks) some e = (omega arith, fresh_homes o (counter_after c kind.Proc) ks some e)
  fresh_homes o c (kind.Port ∷ ks) some e = (omega arith, fresh_homes o (counter_after c kind.Port) ks some e)
  fresh_homes o c (kind.Thread ∷ ks) some e = (omega arith, fresh_homes o (counter_after c kind.Thread) ks some e)

  pub makes_fits : (known : List VarName) (kinds : List NameKind) (s : Site) → SiteFits p n i known s → SiteFits p n i (vars_among (fresh_names s kinds) ++ known) (with_fresh_names kinds s)
  makes_fits known kinds s h = go (makes_all (new_of s kinds) s.records (fresh_own s.records.site s.counters kinds))
    where
      go : MakesAll s.records (after_makes s.records (new_of s kinds)) (new_of s kinds) → SiteFits p n i ((new_of s kinds) ++ known) (with_fresh_names kinds s)
      go m = record {
        names = record {
          site = m.grows.site ∙ h.names.site;
          here = λ x c. here x (Contains-append_cases (new_of s kinds) known x c);
          within = λ x k. within x (m.from x k);
          own = λ x mine low. own x mine (counted_cases s.records.site s.counters kinds x (mine ∙ sym h.names.site) low);
          counted = λ x mine c. count x mine (Contains-append_cases (new_of s kinds) known x c);
          bound = λ x t e. h.names.bound x t (m.grows.bound x t e);
        };
        terms = terms_grow p n known (new_of s kinds ++ known) s.equations s.threads s.cell_records (λ x c. Contains-append_right (new_of s kinds) known x c) h.terms;
        keeps = keeps_grow known (new_of s kinds ++ known) s.ports s.homes (λ x c. Contains-append_right (new_of s kinds) known x c) h.keeps;
        sites = counted_sites s.counters kinds ∙ h.sites;
      }
        where
          here : (x : VarName) → Contains (new_of s kinds) x ⊎ Contains known x → IsKnown (after_makes s.records (new_of s kinds)) x
          here x (inl c) = m.counters x c
          here x (inr c) = m.grows.keeps x (h.names.here x c)

          within : (x : VarName) → IsKnown s.records x ⊎ Contains (new_of s kinds) x → Contains (new_of s kinds ++ known) x
          within x (inl k) = Contains-append_right (new_of s kinds) known x (h.names.within x k)
          within x (inr c) = Contains-append_left (new_of s kinds) known x c

          own : (x : VarName) → x.site ≡ i → (x.num < s.counters.vars) ⊎ Contains (new_of s kinds) x → IsKnown (after_makes s.records (new_of s kinds)) x
          own x mine (inl low) = m.grows.keeps x (h.names.own x mine low)
          own x mine (inr c) = m.counters x c

          count : (x : VarName) → x.site ≡ i → Contains (new_of s kinds) x ⊎ Contains known x → x.num < (with_fresh_names kinds s).counters.vars
          count x mine (inl c) = counted_back s.records.site s.counters kinds x c
          count x mine (inr c) = omega (arith, h.names.counted x mine c, counted_more s.records.site s.counters kinds)

  -- ---- own variables bound

  pub learn_names : (known more : List VarName) (b c : Records) (made : Counters) (s : Store) (x : VarName) (t : Term) → Goes b c x (Some t) → Contains more x → NamesKnown i known more b made s → NamesKnown i known more c made ((x, t) ∷ s)
  learn_names known more b c made s x t g at h = record {
    site = g.site ∙ h.site;
    here = λ y k. g.keeps y (h.here y k);
    within = λ y k. from y (g.from y k);
    own = λ y mine low. g.keeps y (h.own y mine low);
    counted = h.counted;
    bound = λ y r e. by y r (g.bound y r e);
  }
    where
      from : (y : VarName) → IsKnown b y ⊎ (y ≡ x) → Contains more y
      from y (inl k) = h.within y k
      from y (inr e) = subst (λ (z : VarName). Contains more z) (sym e) at

      by : (y : VarName) (r : Term) → (knowledge b y ≡ Some (Some r)) ⊎ ((y ≡ x) × (Some t ≡ Some r)) → Contains ((x, t) ∷ s) (y, r)
      by y r (inl e) = Contains-tail (x, t) (y, r) s (h.bound y r e)
      by y r (inr k) =
          let same : t ≡ r = (let e : ◌≡◌ {A = Option Term} (Some t) (Some r) = k.1 in cc) in
          subst (λ (z : VarName). Contains ((x, t) ∷ s) (z, r)) (sym k.0) (subst (λ (u : Term). Contains ((x, t) ∷ s) (x, u)) same (Contains-head (x, t) s))

  pub binds_fits : (known : List VarName) (x : VarName) (t : Term) (s : Site) → x.site ≡ s.records.site → IsFitFor p n known x t → SiteFits p n i known s → SiteFits p n i known (own_bind limit x t s).site × AllFit p n known (own_bind limit x t s).sent
  binds_fits known x t s own f h = (
    record { names = learn_names known known s.records _ s.counters s.equations x t (ask_goes s.records x t own) f.0 h.names; terms = terms; keeps = h.keeps; sites = h.sites },
    bindings_fit known ((x, t) ∷ s.equations) x t (sites_of (owner_of s.records.owners x)) terms.equations terms.nodes terms.homes f,
  )
    where
      terms : TermsFit p n known ((x, t) ∷ s.equations) (wake_where (goes_on ((x, t) ∷ s.equations) x) s.threads) s.cell_records
      terms = terms_learn p n known s.equations s.threads s.cell_records x t f h.terms

  pub binds_each_fits : (known : List VarName) (es : List Equation) (s : Site) → Each (λ (e : Equation). e.0.site ≡ i) es → Each (λ (e : Equation). IsFitFor p n known e.0 e.1) es → SiteFits p n i known s →
      SiteFits p n i known (own_binds limit es s).site × AllFit p n known (own_binds limit es s).sent × ((own_binds limit es s).site.cell_records ≡ s.cell_records)
  binds_each_fits known [] s own f h = (h, tt, refl)
  binds_each_fits known (q ∷ es) s own f h = go (binds_each_fits known es s own.1 f.1 h)
    where
      go : SiteFits p n i known (own_binds limit es s).site × AllFit p n known (own_binds limit es s).sent × ((own_binds limit es s).site.cell_records ≡ s.cell_records) →
          SiteFits p n i known (own_binds limit (q ∷ es) s).site × AllFit p n known (own_binds limit (q ∷ es) s).sent × ((own_binds limit (q ∷ es) s).site.cell_records ≡ s.cell_records)
      go (site, all, places) =
          let b = binds_fits known q.0 q.1 (own_binds limit es s).site (own.0 ∙ sym site.names.site) f.0 site in
          (b.0, all_append p n known (own_binds limit es s).sent _ all b.1, places)

  -- ---- a thread goes on

  goes_old : (ts : Threads) (th o : ThreadName) (r : Option ThreadState) (v : ThreadState) → value_of equal_thread (with_optional_value equal_thread ts th r) o ≡ Some v → (r ≡ Some v) ⊎ (value_of equal_thread ts o ≡ Some v)
  goes_old [] th o None v e = inr e
  goes_old [] th o (Some w) v e = inr e
  goes_old ((m, u) ∷ ts) th o None v e = go (equal_thread m th) refl e (λ k. goes_old ts th o None v k)
    where
      skip : (b : Bool) → equal_thread m th ≡ true → equal_thread m o ≡ b → value_of equal_thread ts o ≡ Some v → (None ≡ Some v) ⊎ (cond b (Some u) (value_of equal_thread ts o) ≡ Some v) → (None ≡ Some v) ⊎ (cond b (Some u) (value_of equal_thread ts o) ≡ Some v)
      skip b q k l h = h

      gone : (ts : Threads) (b : ThreadName) → value_of equal_thread (without_key equal_thread ts b) b ≡ None
      gone [] b = refl
      gone ((n, w) ∷ ts) b = by (equal_thread n b) refl (gone ts b)
        where
          by : (c : Bool) → equal_thread n b ≡ c → value_of equal_thread (without_key equal_thread ts b) b ≡ None → value_of equal_thread (cond c (without_key equal_thread ts b) ((n, w) ∷ without_key equal_thread ts b)) b ≡ None
          by true q ih = ih
          by false q ih = rw q ih

      here : equal_thread m th ≡ true → value_of equal_thread (without_key equal_thread ts th) o ≡ Some v → (c : Bool) → equal_thread m o ≡ c → ((None ≡ Some v) ⊎ (value_of equal_thread ts o ≡ Some v)) → (None ≡ Some v) ⊎ (cond c (Some u) (value_of equal_thread ts o) ≡ Some v)
      here q k true l ih =
          let one : m ≡ th = (same_thread_decides m th).0 q in
          let two : m ≡ o = (same_thread_decides m o).0 l in
          let no : value_of equal_thread (without_key equal_thread ts th) o ≡ None = subst (λ (z : ThreadName). value_of equal_thread (without_key equal_thread ts th) z ≡ None) (sym one ∙ two) (gone ts th) in
          let contrary : ◌≡◌ {A = Option ThreadState} None (Some v) = sym no ∙ k in cc
      here q k false l ih = ih

      later : (c : Bool) → (cond c (Some u) (value_of equal_thread (without_key equal_thread ts th) o) ≡ Some v) → (value_of equal_thread (without_key equal_thread ts th) o ≡ Some v → (None ≡ Some v) ⊎ (value_of equal_thread ts o ≡ Some v)) → (None ≡ Some v) ⊎ (cond c (Some u) (value_of equal_thread ts o) ≡ Some v)
      later true k ih = inr k
      later false k ih = ih k

      go : (b : Bool) → equal_thread m th ≡ b → value_of equal_thread (cond b (without_key equal_thread ts th) ((m, u) ∷ without_key equal_thread ts th)) o ≡ Some v → (value_of equal_thread (without_key equal_thread ts th) o ≡ Some v → (None ≡ Some v) ⊎ (value_of equal_thread ts o ≡ Some v)) →
          (None ≡ Some v) ⊎ (cond (equal_thread m o) (Some u) (value_of equal_thread ts o) ≡ Some v)
      go true q k ih = here q k (equal_thread m o) refl (ih k)
      go false q k ih = later (equal_thread m o) k ih
  goes_old ((m, u) ∷ ts) th o (Some w) v e = go (equal_thread m th) refl e (λ k. goes_old ts th o (Some w) v k)
    where
      this : equal_thread m th ≡ true → (c d : Bool) → equal_thread th o ≡ c → equal_thread m o ≡ d → cond c (Some w) (value_of equal_thread ts o) ≡ Some v → (Some w ≡ Some v) ⊎ (cond d (Some u) (value_of equal_thread ts o) ≡ Some v)
      this q true d k l h = inl h
      this q false false k l h = inr h
      this q false true k l h =
          let one : m ≡ th = (same_thread_decides m th).0 q in
          let two : m ≡ o = (same_thread_decides m o).0 l in
          let yes : equal_thread th o ≡ true = (same_thread_decides th o).1 (sym one ∙ two) in cc

      later : (c : Bool) → cond c (Some u) (value_of equal_thread (with_value equal_thread ts th w) o) ≡ Some v → (value_of equal_thread (with_value equal_thread ts th w) o ≡ Some v → (Some w ≡ Some v) ⊎ (value_of equal_thread ts o ≡ Some v)) → (Some w ≡ Some v) ⊎ (cond c (Some u) (value_of equal_thread ts o) ≡ Some v)
      later true k ih = inr k
      later false k ih = ih k

      go : (b : Bool) → equal_thread m th ≡ b → value_of equal_thread (cond b ((th, w) ∷ ts) ((m, u) ∷ with_value equal_thread ts th w)) o ≡ Some v → (value_of equal_thread (with_value equal_thread ts th w) o ≡ Some v → (Some w ≡ Some v) ⊎ (value_of equal_thread ts o ≡ Some v)) →
          (Some w ≡ Some v) ⊎ (cond (equal_thread m o) (Some u) (value_of equal_thread ts o) ≡ Some v)
      go true q k ih = this q (equal_thread th o) (equal_thread m o) refl refl k
      go false q k ih = later (equal_thread m o) k ih

  pub thread_goes : (known : List VarName) (s : Store) (ts : Threads) (qs : List (CellName × CellRecord)) (th : ThreadName) (r : Option ThreadState) → ((v : ThreadState) → r ≡ Some v → ThreadFits p n known v.0) → TermsFit p n known s ts qs → TermsFit p n known s (with_optional_value equal_thread ts th r) qs
  thread_goes known s ts qs th r f h = record { equations = h.equations; nodes = h.nodes; homes = h.homes; stacks = λ o v e. by o v (goes_old ts th o r v e); contents = h.contents }
    where
      by : (o : ThreadName) (v : ThreadState) → (r ≡ Some v) ⊎ (value_of equal_thread ts o ≡ Some v) → ThreadFits p n known v.0
      by o v (inl k) = f v k
      by o v (inr k) = h.stacks o v k

  -- with this standing
  pub thread_with : (known : List VarName) (s : Store) (ts : Threads) (qs : List (CellName × CellRecord)) (th : ThreadName) (st : Stack) (m : Mode) → ThreadFits p n known st → TermsFit p n known s ts qs → TermsFit p n known s (with_value equal_thread ts th (st, m)) qs
  thread_with known s ts qs th st m f h = thread_goes known s ts qs th (Some (st, m)) (λ v e. let same : ◌≡◌ {A = ThreadState} (st, m) v = cc in subst (λ (u : ThreadState). ThreadFits p n known u.0) same f) h
