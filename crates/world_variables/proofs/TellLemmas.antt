-- Equations that a site is told, binds of own variables, and registrations.
use Rattle.std.proofs.Common.{◌≡◌, ◌∙◌, sym, ap, refl, subst, ℕ, List, [], ◌∷◌, ◌++◌, map, ◌⊎◌, inl, inr, Some, None}
use Rattle.std.specs.Prelude.{Option, Contains, ◌≢◌, ◌↔◌, is_some, IsTrue}
use Rattle.tree_node.specs.declared.names.VarName.{VarName}
use Rattle.tree_node.specs.declared.names.Name.{Name}
use Rattle.tree_node.specs.declared.names.Name.TheVariants as name
use Rattle.tree_node.specs.declared.node.Term.{Term}
use Rattle.tree_node.specs.Each.{Each}
use Rattle.tree_node.specs.Names.{EachOfEquation}
use Rattle.tree_node.specs.Order.{IsLower}
use Rattle.tree_node.specs.State.{State}
use Rattle.tree_node.specs.Store.{Store, Equation, IsFree}
use Rattle.tree_node.proofs.ClassLemmas.{Contains-cons_cases, Contains-head, Contains-tail}
use Rattle.kernel_syntax.specs.declared.stmt.Stmt.{Stmt}
use Rattle.site_message.specs.declared.message.Msg.{Msg}
use Rattle.site_message.specs.declared.message.Msg.TheVariants as msg
use Rattle.site_message.specs.declared.message.Sent.{Sent}
use Rattle.oz_model.specs.Answers.{IsPartOf}
use Rattle.bind_protocol.specs.Records.{Records, knowledge, IsKnown, sites_in}
use Rattle.bind_protocol.specs.Rows.{after_ask, ask_sends, after_binding, binding}
use Rattle.site_model.specs.Site.{Threads, Counters}
use Rattle.thread_roster.specs.Binds.{goes_on}
use Rattle.thread_roster.specs.Threads.{wake_where}
use Rattle.site_model.specs.Bundle.{with_own_bundles, with_own_bundle, bundle_of}
use Rattle.site_model.specs.Fit as Fit
use Rattle.site_model.proofs.BundleLemmas.{bundle_known}
use Rattle.oz_model.proofs.NameLemmas.{Each-weaker}
use Rattle.variable_owner.specs.declared.owners.Owner.{Owner}
use Rattle.variable_owner.specs.Owners.{owner_of, sites_of}
use Rattle.variable_owner.specs.Owners as owners
use Rattle.bind_protocol.proofs.LookLemmas.{in_other}
use Rattle.world_variables.proofs.AlikeLemmas.{said_posts}
use Rattle.world_model.specs.World.{Mail, at_put, mail_from}
use Rattle.world_model.specs.Names.{IsMade, KnownAreMade}
use Rattle.world_model.specs.Matches.{AllRecordsMatch, PartsMatch}
use Rattle.world_model.proofs.PutLemmas.{at_all}
use Rattle.world_model.proofs.MailLemmas.{nothing, sent_to, Posts, posts}
use Rattle.world_variables.proofs.LearnLemmas.{IsLearnt, head_or_tail, learnt_knowledge, learnt_kept, learnt_placed, learnt_told, learnt_addressed, learnt_waiting, learnt_homes}
use Rattle.tree_node.proofs.OrderLemmas.{Each-member}
use Rattle.bind_protocol.proofs.RowCountLemmas.{name_cases}
use Rattle.bind_protocol.proofs.LearnLemmas.{ask_learns, binding_learns}
use Rattle.bind_protocol.specs.Learn.{HasLearned}

-- what holds of all of a list holds of some of its elements
pub each_of : (P : Equation → Type 0) (xs : List Equation) → Each P xs → (ys : List Equation) → Each (Contains xs) ys → Each P ys
each_of P xs h [] g = tt
each_of P xs h (y ∷ ys) g = (Each-member P xs y h g.0, each_of P xs h ys g.1)

-- who is registered for another variable stays
ask_sites : (b : Records) (x : VarName) (t : Term) (y : VarName) → y ≢ x → sites_in (after_ask b x t) y ≡ sites_in b y
ask_sites b x t y other = go (owner_of b.owners x) refl
  where
    go : (o : Option Owner) → owner_of b.owners x ≡ o → sites_in (after_ask b x t) y ≡ sites_in b y
    go None e = rw e refl
    go (Some r) e = rw e (ap sites_of (in_other b.owners x y (owners.after_bind r t) other))

abbrev pub with_equation : State → VarName → Term → State
with_equation s x t = record s { equations = (x, t) ∷ s.equations }

-- site i learns x = t of another site: the whole change of the parts
module _ (p : List Stmt) (here : ℕ → Name → Type 0) (eqs : ℕ → Store) (records : ℕ → Records) (threads : ℕ → Threads) (made : ℕ → Counters) (mail : Mail) (s : State) (parts : PartsMatch p here eqs records threads made mail s) where
  none_posts : Posts mail mail []
  none_posts = record { old = λ k to m h. h; from = λ k to m h. inl h; new = λ to m h. absurd (nothing _ h) }

  free_unless : (i : ℕ) (x : VarName) → ((r : Term) → knowledge (records i) x ≢ Some (Some r)) → IsFree (eqs i) x
  free_unless i x unknown r h = unknown r ((parts.kept i).held x r h)

  -- who knows names of its own and others
  learnt_makers : (i : ℕ) (b : Records) (x : VarName) (o : Option Term) → HasLearned (records i) b x (Some o) → IsMade made (name.Var x) → (x.site ≡ i → IsKnown (records i) x) → KnownAreMade (at_put records i b) made
  learnt_makers i b x o l real known = record {
    own = at_all records i b (λ j (r : Records). (y : VarName) → y.site ≡ j → Fit.IsBelowCounter (made j) (name.Var y) ↔ IsKnown r y) (λ y at. own y at (name_cases y x)) (λ j other y at. parts.makers.own j y at);
    met = at_all records i b (λ j (r : Records). (y : VarName) → IsKnown r y → IsMade made (name.Var y)) (λ y h. met y h (name_cases y x)) (λ j other y h. parts.makers.met j y h);
  }
    where
      own : (y : VarName) → y.site ≡ i → (y ≡ x) ⊎ (y ≢ x) → Fit.IsBelowCounter (made i) (name.Var y) ↔ IsKnown b y
      own y at (inl e) = (
        (λ h. subst (λ (z : VarName). IsKnown b z) (sym e) (rw l.here refl)),
        (λ h. (parts.makers.own i y at).1 (subst (λ (z : VarName). IsKnown (records i) z) (sym e) (known (sym (ap (λ (z : VarName). z.site) e) ∙ at)))),
      )
      own y at (inr other) = rw (l.others y other) (parts.makers.own i y at)

      met : (y : VarName) → IsKnown b y → (y ≡ x) ⊎ (y ≢ x) → IsMade made (name.Var y)
      met y h (inl e) = subst (λ (z : VarName). IsMade made (name.Var z)) (sym e) real
      met y h (inr other) = parts.makers.met i y (subst (λ (r : Option (Option Term)). IsTrue (is_some r)) (l.others y other) h)

  pub learnt_parts : (i : ℕ) (x : VarName) (t : Term) → x.site ≢ i → ((r : Term) → knowledge (records i) x ≢ Some (Some r)) → Contains s.equations (x, t) → EachOfEquation (here i) (x, t) → IsMade made (name.Var x) →
      PartsMatch p here (at_put eqs i ((x, t) ∷ eqs i)) (at_put records i (after_binding (records i) x t)) (at_put threads i (wake_where (goes_on ((x, t) ∷ eqs i) x) (threads i))) made mail s
  learnt_parts i x t elsewhere unknown has names real = record {
    knowledge = learnt_knowledge p eqs records threads mail mail [] s.equations s.equations i b x t l parts.knowledge;
    kept = kept;
    placed = learnt_placed p eqs records threads mail mail [] s.equations s.equations i b x t l s.threads parts.placed;
    told = learnt_told p eqs records threads mail mail [] s.equations s.equations i b x t l parts.told;
    addressed = learnt_addressed p eqs records threads mail mail [] s.equations s.equations i b x t l parts.addressed;
    waiting = learnt_waiting p eqs records threads mail mail [] s.equations s.equations i b x t l parts.knowledge kept parts.waiting;
    homes = learnt_homes p eqs records threads mail mail [] s.equations s.equations i b x t l here names parts.homes;
    centred = parts.centred;
    makers = learnt_makers i b x (Some t) knows real (λ e. absurd (elsewhere e));
    said = parts.said;
  }
    where
      b : Records
      b = after_binding (records i) x t

      site : (records i).site ≡ i
      site = (parts.kept i).site

      knows : HasLearned (records i) b x (Some (Some t))
      knows = binding_learns (records i) x t (λ e. elsewhere (e ∙ site))

      l : IsLearnt eqs records mail mail [] s.equations s.equations i b x t
      l = record {
        free = free_unless i x unknown;
        knows = knows;
        one = parts.knowledge.one;
        down = parts.knowledge.down;
        grows = λ e h. h;
        has = has;
        new = λ y r h. inl h;
        kept = λ y k h. inl h;
        posts = none_posts;
        told = λ to m h. absurd (nothing _ h);
      }

      kept : AllRecordsMatch (at_put records i b) (at_put eqs i ((x, t) ∷ eqs i))
      kept = learnt_kept p eqs records threads mail mail [] s.equations s.equations i b x t l parts.knowledge parts.kept

  -- ---- an own variable is bound

  -- what the owner sends: a Binding to each registered site
  sent_asks : (limit : ℕ) (store : Store) (x : VarName) (t : Term) (ks : List ℕ) (to : ℕ) (m : Msg) → Contains (with_own_bundles limit store (map (λ k. binding x t k) ks)) (sent_to to m) →
      (m ≡ msg.Binding x t (bundle_of limit store (msg.Binding x t []))) × Contains ks to
  sent_asks limit store x t [] to m h = absurd (nothing _ h)
  sent_asks limit store x t (k ∷ ks) to m h = go (Contains-cons_cases _ _ (with_own_bundles limit store (map (λ k. binding x t k) ks)) h) (λ g. sent_asks limit store x t ks to m g)
    where
      go : (with_own_bundle limit store (binding x t k) ≡ sent_to to m) ⊎ Contains (with_own_bundles limit store (map (λ k. binding x t k) ks)) (sent_to to m) →
          (Contains (with_own_bundles limit store (map (λ k. binding x t k) ks)) (sent_to to m) → (m ≡ msg.Binding x t (bundle_of limit store (msg.Binding x t []))) × Contains ks to) →
          (m ≡ msg.Binding x t (bundle_of limit store (msg.Binding x t []))) × Contains (k ∷ ks) to
      go (inl e) ih = (sym (ap (λ (o : Sent). o.msg) e), subst (λ (q : ℕ). Contains (k ∷ ks) q) (ap (λ (o : Sent). o.to) e) (Contains-head k ks))
      go (inr q) ih = let r = ih q in (r.0, Contains-tail _ _ ks r.1)

  asks_sent : (limit : ℕ) (store : Store) (x : VarName) (t : Term) (ks : List ℕ) (to : ℕ) → Contains ks to →
      Contains (with_own_bundles limit store (map (λ k. binding x t k) ks)) (sent_to to (msg.Binding x t (bundle_of limit store (msg.Binding x t []))))
  asks_sent limit store x t [] to h = absurd (nothing _ h)
  asks_sent limit store x t (k ∷ ks) to h = go (Contains-cons_cases _ _ ks h) (λ g. asks_sent limit store x t ks to g)
    where
      go : (k ≡ to) ⊎ Contains ks to → (Contains ks to → Contains (with_own_bundles limit store (map (λ k. binding x t k) ks)) (sent_to to (msg.Binding x t (bundle_of limit store (msg.Binding x t []))))) →
          Contains (with_own_bundle limit store (binding x t k) ∷ with_own_bundles limit store (map (λ k. binding x t k) ks)) (sent_to to (msg.Binding x t (bundle_of limit store (msg.Binding x t []))))
      go (inl e) ih = subst (λ (q : ℕ). Contains (with_own_bundle limit store (binding x t k) ∷ with_own_bundles limit store (map (λ k. binding x t k) ks)) (sent_to q (msg.Binding x t (bundle_of limit store (msg.Binding x t []))))) e (Contains-head _ _)
      go (inr q) ih = Contains-tail _ _ _ (ih q)

  pub bind_parts : (limit k i : ℕ) (x : VarName) (t : Term) → x.site ≡ i → x.site ≢ 0 → knowledge (records i) x ≡ Some None → IsLower t x → EachOfEquation (here i) (x, t) → EachOfEquation (IsMade made) (x, t) →
      PartsMatch p here (at_put eqs i ((x, t) ∷ eqs i)) (at_put records i (after_ask (records i) x t)) (at_put threads i (wake_where (goes_on ((x, t) ∷ eqs i) x) (threads i))) made
      (mail ++ mail_from k (with_own_bundles limit ((x, t) ∷ eqs i) (ask_sends (records i) x t))) (with_equation s x t)
  bind_parts limit k i x t own real unbound low names was = record {
    knowledge = learnt_knowledge p eqs records threads mail more out s.equations d i b x t l parts.knowledge;
    kept = kept;
    placed = learnt_placed p eqs records threads mail more out s.equations d i b x t l s.threads parts.placed;
    told = learnt_told p eqs records threads mail more out s.equations d i b x t l parts.told;
    addressed = learnt_addressed p eqs records threads mail more out s.equations d i b x t l parts.addressed;
    waiting = learnt_waiting p eqs records threads mail more out s.equations d i b x t l parts.knowledge kept parts.waiting;
    homes = learnt_homes p eqs records threads mail more out s.equations d i b x t l here names parts.homes;
    centred = record { all = ((was, parts.centred.all.0), parts.centred.all.1, parts.centred.all.2, parts.centred.all.3); nobody = λ y zero r h. nobody y zero r (head_or_tail x y t r s.equations h) };
    makers = learnt_makers i b x (Some t) knows was.0 (λ e. rw unbound refl);
    said = said_posts mail more out sent made (λ to m h. said to m h) parts.said;
  }
    where
      b : Records
      b = after_ask (records i) x t

      d : Store
      d = (x, t) ∷ s.equations

      out : List Sent
      out = with_own_bundles limit ((x, t) ∷ eqs i) (ask_sends (records i) x t)

      more : Mail
      more = mail ++ mail_from k out

      sent : Posts mail more out
      sent = posts mail k out

      own_site : x.site ≡ (records i).site
      own_site = own ∙ sym (parts.kept i).site

      knows : HasLearned (records i) b x (Some (Some t))
      knows = ask_learns (records i) x t own_site unbound

      free : IsFree (eqs i) x
      free = free_unless i x (λ r h. let both : Some None ≡ Some (Some r) = sym unbound ∙ h in cc)

      central : IsFree s.equations x
      central r h = free r (subst (λ (j : ℕ). Contains (eqs j) (x, r)) own (parts.knowledge.owned x r h))

      sees : IsPartOf ((x, t) ∷ eqs i) d
      sees e h = go (Contains-cons_cases _ _ (eqs i) h)
        where
          go : ((x, t) ≡ e) ⊎ Contains (eqs i) e → Contains d e
          go (inl q) = subst (λ (o : Equation). Contains d o) q (Contains-head _ s.equations)
          go (inr q) = Contains-tail _ _ s.equations (parts.knowledge.known i e q)

      bundle : List Equation
      bundle = bundle_of limit ((x, t) ∷ eqs i) (msg.Binding x t [])

      carried : Each (Contains d) bundle
      carried = Each-weaker (Contains ((x, t) ∷ eqs i)) (Contains d) sees bundle (bundle_known limit ((x, t) ∷ eqs i) (msg.Binding x t []))

      kept_sites : (y : VarName) (o : ℕ) → (y ≡ x) ⊎ (y ≢ x) → Contains (sites_in (records i) y) o → Contains (sites_in b y) o ⊎ ((r : Term) × (bundle : List Equation) × Contains out (sent_to o (msg.Binding y r bundle)))
      kept_sites y o (inl e) h = inr (t, bundle, subst (λ (z : VarName). Contains out (sent_to o (msg.Binding z t bundle))) (sym e) (asks_sent limit ((x, t) ∷ eqs i) x t (sites_in (records i) x) o (subst (λ (z : VarName). Contains (sites_in (records i) z) o) e h)))
      kept_sites y o (inr other) h = inl (subst (λ (q : List ℕ). Contains q o) (sym (ask_sites (records i) x t y other)) h)

      l : IsLearnt eqs records mail more out s.equations d i b x t
      l = record {
        free = free;
        knows = knows;
        one = λ y r q h g. one y r q (head_or_tail x y t r s.equations h) (head_or_tail x y t q s.equations g);
        down = λ y r h. down y r (head_or_tail x y t r s.equations h);
        grows = λ e h. Contains-tail _ _ s.equations h;
        has = Contains-head _ s.equations;
        new = λ y r h. new y r (head_or_tail x y t r s.equations h);
        kept = λ y o h. kept_sites y o (name_cases y x) h;
        posts = sent;
        told = λ to m h. (bundle, (sent_asks limit ((x, t) ∷ eqs i) x t (sites_in (records i) x) to m h).0, carried);
      }
        where
          one : (y : VarName) (r q : Term) → Contains s.equations (y, r) ⊎ ((y ≡ x) × (r ≡ t)) → Contains s.equations (y, q) ⊎ ((y ≡ x) × (q ≡ t)) → r ≡ q
          one y r q (inl h) (inl g) = parts.knowledge.one y r q h g
          one y r q (inr h) (inr g) = h.1 ∙ sym g.1
          one y r q (inl h) (inr g) = absurd (central r (subst (λ (z : VarName). Contains s.equations (z, r)) g.0 h))
          one y r q (inr h) (inl g) = absurd (central q (subst (λ (z : VarName). Contains s.equations (z, q)) h.0 g))

          down : (y : VarName) (r : Term) → Contains s.equations (y, r) ⊎ ((y ≡ x) × (r ≡ t)) → IsLower r y
          down y r (inl h) = parts.knowledge.down y r h
          down y r (inr h) = rw (h.0, h.1) low

          new : (y : VarName) (r : Term) → Contains s.equations (y, r) ⊎ ((y ≡ x) × (r ≡ t)) → Contains s.equations (y, r) ⊎ ((i ≡ x.site) × (y ≡ x) × (r ≡ t))
          new y r (inl h) = inl h
          new y r (inr h) = inr (sym own, h.0, h.1)

      kept : AllRecordsMatch (at_put records i b) (at_put eqs i ((x, t) ∷ eqs i))
      kept = learnt_kept p eqs records threads mail more out s.equations d i b x t l parts.knowledge parts.kept

      nobody : (y : VarName) → y.site ≡ 0 → (r : Term) → Contains s.equations (y, r) ⊎ ((y ≡ x) × (r ≡ t)) → ⊥
      nobody y zero r (inl h) = parts.centred.nobody y zero r h
      nobody y zero r (inr e) = real (sym (ap (λ (z : VarName). z.site) e.0) ∙ zero)

      said : (to : ℕ) (m : Msg) → Contains out (sent_to to m) → Fit.EachOfMsg (IsMade made) m
      said to m h =
          let e = (sent_asks limit ((x, t) ∷ eqs i) x t (sites_in (records i) x) to m h).0 in
          subst (λ (o : Msg). Fit.EachOfMsg (IsMade made) o) (sym e) (was.0, was.1, each_of (EachOfEquation (IsMade made)) d (was, parts.centred.all.0) bundle carried)
