-- What each part of a turn keeps of a site that fits, and what it sends.
use Rattle.std.proofs.Common.{arith, ◌≡◌, ◌≢◌, ◌∙◌, sym, refl, subst, ℕ, ◌≤◌, List, [], ◌∷◌, ◌++◌, map, ◌⊎◌, inl, inr, Bool, true, false, cond, Some, None}
use Rattle.std.specs.Prelude.{Option, is_some}
use Rattle.tree_node.specs.declared.names.VarName.{VarName}
use Rattle.tree_node.specs.declared.names.CellName.{CellName}
use Rattle.tree_node.specs.declared.names.ThreadName.{ThreadName}
use Rattle.tree_node.specs.declared.names.NameKind.{NameKind}
use Rattle.tree_node.specs.declared.names.NameKind.TheVariants as kind
use Rattle.tree_node.specs.declared.node.Term.{Term}
use Rattle.tree_node.specs.Each.{Each}
use Rattle.tree_node.specs.Store.{Store, Equation, equal_var}
use Rattle.tree_node.proofs.ClassLemmas.{same_name_decides}
use Rattle.tree_node.proofs.EachLemmas.{each_append}
use Rattle.kernel_syntax.specs.declared.stmt.Stmt.{Stmt}
use Rattle.kernel_syntax.specs.Program.{IsProgram}
use Rattle.site_message.specs.declared.message.Msg.TheVariants as msg
use Rattle.site_message.specs.declared.message.Sent.{Sent}
use Rattle.site_message.specs.Wire.{IsSite, FitsVar, FitsCell, FitsWire}
use Rattle.oz_model.specs.Effect.{vars_among}
use Rattle.proxy_table.specs.Proxies.{entry_of}
use Rattle.proxy_table.specs.Proxies as proxies
use Rattle.variable_owner.specs.declared.owners.Owner.{Owner}
use Rattle.variable_owner.specs.declared.owners.Owner.TheVariants.{Open, Bound}
use Rattle.variable_owner.specs.Owners.{Owned, owner_of, sites_of, with_owner}
use Rattle.variable_owner.specs.Owners as owners
use Rattle.bind_protocol.specs.Records.{Records, is_own, knowledge}
use Rattle.bind_protocol.specs.Rows.{binding, register, after_meet, meet_sends, after_meets, meets_send}
use Rattle.bind_protocol.proofs.LookLemmas.{in_here, in_other}
use Rattle.token_chain.specs.Rows.{Reply}
use Rattle.site_model.specs.Site.{Site, HomeRecord, Counters, cell_record, home_record, with_home_record}
use Rattle.site_model.specs.Bundle.{with_own_bundles}
use Rattle.site_model.specs.Transition.{Transition, without_output, and_then}
use Rattle.site_model.specs.Variables.{after_makes, meeting, with_new_equation, with_known_equation, with_known_equations, own_bind, own_binds}
use Rattle.site_model.specs.Cells.{cell_reply}
use Rattle.site_model.specs.Requests.{with_home_content}
use Rattle.site_model.specs.Unit.{counter_after, counters_after, with_fresh_names, fresh_names}
use Rattle.site_wire.specs.Sending.{CanBeSpelled, TermFits, EquationsFit, OwnersFit, QueueFits, HomeFits, KeptFits, SiteFits, TransitionFits, home_in, own_threads}
use Rattle.site_wire.proofs.TermLemmas.{term_spelled, more_fits}
use Rattle.site_wire.proofs.BundleLemmas.{carried}
use Rattle.site_wire.proofs.ThreadLemmas.{woken_fit, made_more}
use Rattle.site_wire.proofs.CellLemmas.{ReplyFits, mails_spelled, contents_put, homes_put, queues_put, earlies_put, line_mobile, line_home}
use Rattle.site_model.proofs.FrameLemmas.{makes_site}

-- ---- own variables

var_cases : (x y : VarName) → (y ≡ x) ⊎ (y ≢ x)
var_cases x y = go (equal_var y x) refl
  where
    go : (b : Bool) → equal_var y x ≡ b → (y ≡ x) ⊎ (y ≢ x)
    go true e = inl ((same_name_decides y x).0 e)
    go false e = inr (λ q. let yes : equal_var y x ≡ true = (same_name_decides y x).1 q in cc)

owner_put : (p : List Stmt) (os : List Owned) (x : VarName) (o : Owner) → ((t : Term) → o ≡ Bound t → TermFits p t) → OwnersFit p os → OwnersFit p (with_owner os x o)
owner_put p os x o f h y t e = go (var_cases x y)
  where
    go : (y ≡ x) ⊎ (y ≢ x) → TermFits p t
    go (inl k) =
        let here : owner_of (with_owner os x o) x ≡ Some (Bound t) = subst (λ (z : VarName). owner_of (with_owner os x o) z ≡ Some (Bound t)) k e in
        let both : Some o ≡ Some (Bound t) = sym (in_here os x o) ∙ here in
        f t (let same : o ≡ Bound t = cc in same)
    go (inr k) = h y t (sym (in_other os x y o k) ∙ e)

never_open : (p : List Stmt) (ks : List ℕ) (t : Term) → Open ks ≡ Bound t → TermFits p t
never_open p ks t e = cc

asked_fit : (p : List Stmt) (os : List Owned) (x : VarName) (t : Term) → TermFits p t → OwnersFit p os → OwnersFit p (owners.after_ask os x t)
asked_fit p os x t f h = go (owner_of os x) refl
  where
    go : (o : Option Owner) → owner_of os x ≡ o → OwnersFit p (owners.after_ask os x t)
    go None e = rw e h
    go (Some (Open ks)) e = rw e (owner_put p os x (Bound t) (λ r q. (let same : t ≡ r = cc in subst (TermFits p) same f)) h)
    go (Some (Bound u)) e = rw e (owner_put p os x (Bound u) (λ r q. (let same : u ≡ r = cc in subst (TermFits p) same (h x u e))) h)

pub registered_fit : (p : List Stmt) (os : List Owned) (x : VarName) (k : ℕ) → OwnersFit p os → OwnersFit p (owners.after_register os x k)
registered_fit p os x k h = go (owner_of os x) refl
  where
    go : (o : Option Owner) → owner_of os x ≡ o → OwnersFit p (owners.after_register os x k)
    go None e = rw e h
    go (Some (Open ks)) e = rw e (owner_put p os x (Open (ks ++ k ∷ [])) (never_open p (ks ++ k ∷ [])) h)
    go (Some (Bound u)) e = rw e (owner_put p os x (Bound u) (λ r q. (let same : u ≡ r = cc in subst (TermFits p) same (h x u e))) h)

pub made_fit : (p : List Stmt) (b : Records) (xs : List VarName) → OwnersFit p b.owners → OwnersFit p (after_makes b xs).owners
made_fit p b [] h = h
made_fit p b (x ∷ xs) h = made_fit p (record b { owners = with_owner b.owners x (Open []) }) xs (owner_put p b.owners x (Open []) (never_open p []) h)

threads_counted : (c : Counters) (kinds : List NameKind) → c.threads ≤ (counters_after c kinds).threads
threads_counted c [] = omega arith
threads_counted c (kind.Var ∷ ks) = threads_counted (counter_after c kind.Var) ks
threads_counted c (kind.Cell ∷ ks) = threads_counted (counter_after c kind.Cell) ks
threads_counted c ((kind.CellAt at_home) ∷ ks) = threads_counted (counter_after c (kind.CellAt at_home)) ks
threads_counted c (kind.Proc ∷ ks) = threads_counted (counter_after c kind.Proc) ks
threads_counted c (kind.Port ∷ ks) = threads_counted (counter_after c kind.Port) ks
threads_counted c (kind.Thread ∷ ks) = let more = threads_counted (counter_after c kind.Thread) ks in omega (arith, more)

-- the number of sites is no counter
sites_counted : (c : Counters) (kinds : List NameKind) → (counters_after c kinds).sites ≡ c.sites
sites_counted c [] = refl
sites_counted c (kind.Var ∷ ks) = sites_counted (counter_after c kind.Var) ks
sites_counted c (kind.Cell ∷ ks) = sites_counted (counter_after c kind.Cell) ks
sites_counted c ((kind.CellAt at_home) ∷ ks) = sites_counted (counter_after c (kind.CellAt at_home)) ks
sites_counted c (kind.Proc ∷ ks) = sites_counted (counter_after c kind.Proc) ks
sites_counted c (kind.Port ∷ ks) = sites_counted (counter_after c kind.Port) ks
sites_counted c (kind.Thread ∷ ks) = sites_counted (counter_after c kind.Thread) ks

-- ---- names that are met

meet_keeps : (b : Records) (x : VarName) → ((after_meet b x).owners ≡ b.owners) × ((after_meet b x).site ≡ b.site)
meet_keeps b x = go (is_own b x)
  where
    go : (c : Bool) → ((cond c b (record b { proxies = proxies.after_meet b.proxies x })).owners ≡ b.owners) × ((cond c b (record b { proxies = proxies.after_meet b.proxies x })).site ≡ b.site)
    go true = (refl, refl)
    go false = (refl, refl)

meets_keep : (b : Records) (xs : List VarName) → ((after_meets b xs).owners ≡ b.owners) × ((after_meets b xs).site ≡ b.site)
meets_keep b [] = (refl, refl)
meets_keep b (x ∷ xs) =
    let one = meet_keeps b x in
    let rest = meets_keep (after_meet b x) xs in
    (rest.0 ∙ one.0, rest.1 ∙ one.1)

meets_spelled : (b : Records) (xs : List VarName) → IsSite b.site → Each FitsVar xs → CanBeSpelled (meets_send b xs)
meets_spelled b [] low h = tt
meets_spelled b (x ∷ xs) low h = each_append (λ (m : Sent). FitsWire m.msg) (meet_sends b x) (meets_send (after_meet b x) xs) (one (is_own b x) (is_some (entry_of b.proxies x))) (meets_spelled (after_meet b x) xs (subst IsSite (sym (meet_keeps b x).1) low) h.1)
  where
    one : (c d : Bool) → CanBeSpelled (cond c [] (cond d [] (register x b.site ∷ [])))
    one true d = tt
    one false true = tt
    one false false = ((h.0, low), tt)

module _ (p : List Stmt) (is : IsProgram p) (limit : ℕ) (high : limit ≤ 256) (i : ℕ) (low : IsSite i) where
  pub still : (s : Site) → SiteFits p i s → TransitionFits p i (without_output s)
  still s h = record { site = h; sent = tt }

  pub fits_then : (d : Transition) (f : Site → Transition) → TransitionFits p i d → (SiteFits p i d.site → TransitionFits p i (f d.site)) → TransitionFits p i (and_then d f)
  fits_then d f h g = let k : TransitionFits p i (f d.site) = g h.site in record { site = k.site; sent = each_append (λ (m : Sent). FitsWire m.msg) d.sent (f d.site).sent h.sent k.sent }

  -- ---- equations

  pub meets_fit : (xs : List VarName) (s : Site) → Each FitsVar xs → SiteFits p i s → TransitionFits p i (meeting xs s)
  meets_fit xs s f h = record {
    site = record {
      site = (meets_keep s.records xs).1 ∙ h.site;
      equations = h.equations;
      owners = subst (OwnersFit p) (sym (meets_keep s.records xs).0) h.owners;
      threads = h.threads;
      contents = h.contents;
      kept = h.kept;
    };
    sent = meets_spelled s.records xs (subst IsSite (sym h.site) low) f;
  }

  learns_fit : (s : Site) (x : VarName) (t : Term) → FitsVar x → TermFits p t → SiteFits p i s → SiteFits p i (with_new_equation s x t)
  learns_fit s x t fx ft h = record {
    site = h.site;
    equations = more_fits p s.equations x t fx ft h.equations;
    owners = h.owners;
    threads = woken_fit p i s.counters.threads s.threads _ ((x, t) ∷ s.equations) x h.threads;
    contents = h.contents;
    kept = h.kept;
  }

  pub told_fit : (s : Site) (x : VarName) (t : Term) → FitsVar x → TermFits p t → SiteFits p i s → SiteFits p i (with_known_equation s x t)
  told_fit s x t fx ft h = go (is_own s.records x) refl (knowledge s.records x) refl
    where
      go : (c : Bool) → is_own s.records x ≡ c → (o : Option (Option Term)) → knowledge s.records x ≡ o → SiteFits p i (with_known_equation s x t)
      go true q o e = rw (e, q) h
      go false q None e = rw (e, q) (learns_fit s x t fx ft h)
      go false q (Some None) e = rw (e, q) (learns_fit s x t fx ft h)
      go false q (Some (Some r)) e = rw (e, q) h

  pub told_all_fit : (es : List Equation) (s : Site) → EquationsFit p es → SiteFits p i s → SiteFits p i (with_known_equations s es)
  told_all_fit [] s f h = h
  told_all_fit (e ∷ es) s f h = told_all_fit es (with_known_equation s e.0 e.1) (record { names = f.names.1; nodes = f.nodes.1 }) (told_fit s e.0 e.1 f.names.0.0 (f.names.0.1, f.nodes.0) h)

  pub told_each : (s : Store) (x : VarName) (t : Term) (ks : List ℕ) → EquationsFit p s → FitsVar x → TermFits p t → CanBeSpelled (with_own_bundles limit s (map (λ (k : ℕ). binding x t k) ks))
  told_each s x t [] h fx ft = tt
  told_each s x t (k ∷ ks) h fx ft = (carried p is limit high s (msg.Binding x t []) h (fx, term_spelled p is t ft, (omega arith, tt, tt)), told_each s x t ks h fx ft)

  pub bind_fits : (x : VarName) (t : Term) (s : Site) → FitsVar x → TermFits p t → SiteFits p i s → TransitionFits p i (own_bind limit x t s)
  bind_fits x t s fx ft h =
      let more : EquationsFit p ((x, t) ∷ s.equations) = more_fits p s.equations x t fx ft h.equations in
      record {
        site = record {
          site = h.site;
          equations = more;
          owners = asked_fit p s.records.owners x t ft h.owners;
          threads = woken_fit p i s.counters.threads s.threads _ ((x, t) ∷ s.equations) x h.threads;
          contents = h.contents;
          kept = h.kept;
        };
        sent = told_each ((x, t) ∷ s.equations) x t (sites_of (owner_of s.records.owners x)) more fx ft;
      }

  pub binds_fit : (es : List Equation) (s : Site) → EquationsFit p es → SiteFits p i s → TransitionFits p i (own_binds limit es s)
  binds_fit [] s f h = still s h
  binds_fit (e ∷ es) s f h = fits_then (own_binds limit es s) (own_bind limit e.0 e.1) (binds_fit es s (record { names = f.names.1; nodes = f.nodes.1 }) h) (λ g. bind_fits e.0 e.1 (own_binds limit es s).site f.names.0.0 (f.names.0.1, f.nodes.0) g)

  -- ---- names that are made

  pub fresh_fits : (kinds : List NameKind) (s : Site) → SiteFits p i s → SiteFits p i (with_fresh_names kinds s)
  fresh_fits kinds s h = record {
    site = makes_site s.records (vars_among (fresh_names s kinds)) ∙ h.site;
    equations = h.equations;
    owners = made_fit p s.records (vars_among (fresh_names s kinds)) h.owners;
    threads = made_more p i s.counters.threads (counters_after s.counters kinds).threads s.threads _ (threads_counted s.counters kinds) h.threads;
    contents = h.contents;
    kept = subst (λ (k : ℕ). KeptFits k s.ports s.homes) (sym (sites_counted s.counters kinds)) h.kept;
  }

  -- ---- cells

  -- the line of a mobile cell is its queue, and that of a stationary one at home here its own early threads
  pub in_queue : (c : CellName) (s : Site) → SiteFits p i s → c.at ≡ 0 → QueueFits s.threads c (cell_record s c).queue
  in_queue c s h e = subst (QueueFits s.threads c) (line_mobile i s.cell_records s.homes c e) (h.threads.queues c)

  pub in_early : (c : CellName) (s : Site) → SiteFits p i s → c.at ≡ i → QueueFits s.threads c (own_threads i (home_in s.homes c).early)
  in_early c s h e = subst (QueueFits s.threads c) (line_home i s.cell_records s.homes c low.0 e) (h.threads.queues c)

  -- the home keeps this of a cell
  pub homes_fit : (c : CellName) (r : HomeRecord) (s : Site) → HomeFits r → (c.at ≡ i → QueueFits s.threads c (own_threads i r.early)) → SiteFits p i s → SiteFits p i (with_home_record s c r)
  homes_fit c r s f q h = record {
    site = h.site;
    equations = h.equations;
    owners = h.owners;
    threads = earlies_put p i s.counters.threads s.threads s.cell_records s.homes c r q h.threads;
    contents = h.contents;
    kept = record { sites = h.kept.sites; ends = h.kept.ends; homes = homes_put s.homes c r f h.kept.homes };
  }

  -- the content at the home is this
  pub content_kept : (c : CellName) (new : VarName) (s : Site) → FitsVar new → SiteFits p i s → SiteFits p i (with_home_content c new s)
  content_kept c new s f h = homes_fit c (record (home_record s c) { content = Some new }) s (f, (h.kept.homes c).1) (in_early c s h) h

  pub reply_fits : (c : CellName) (queue : List ThreadName) (r : Reply) (s : Site) → FitsCell c → ReplyFits r → (c.at ≡ 0 → QueueFits s.threads c queue) → SiteFits p i s → TransitionFits p i (cell_reply limit c queue r s)
  reply_fits c queue r s pc f q h = record {
    site = record {
      site = h.site;
      equations = h.equations;
      owners = h.owners;
      threads = queues_put p i s.counters.threads s.threads s.cell_records s.homes c (record { held = r.held; queue = queue }) q h.threads;
      contents = contents_put s.cell_records c (record { held = r.held; queue = queue }) f.content h.contents;
      kept = h.kept;
    };
    sent = mails_spelled p is limit high c s.equations pc h.equations r.sent f.sent;
  }
