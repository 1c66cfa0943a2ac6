-- All parts as messages are sent and come, and the row of a Register.
use Rattle.std.proofs.Common.{arith, ◌≡◌, ◌∙◌, sym, ap, refl, subst, ℕ, ◌+◌, ◌<◌, ◌≤◌, List, [], ◌++◌, ◌⊎◌, inl, inr, Some, None, length}
use Rattle.std.specs.Prelude.{Option, Contains, ◌≢◌, is_some, IsTrue}
use Rattle.tree_node.specs.declared.names.VarName.{VarName}
use Rattle.tree_node.specs.declared.names.CodeId.{CodeId}
use Rattle.tree_node.specs.declared.names.ThreadName.{ThreadName}
use Rattle.tree_node.specs.declared.names.Name.{Name}
use Rattle.tree_node.specs.declared.node.Term.{Term}
use Rattle.tree_node.specs.Each.{Each}
use Rattle.tree_node.specs.Names.{EachOfEquation}
use Rattle.tree_node.specs.State.{State}
use Rattle.tree_node.specs.Store.{Store, Equation}
use Rattle.tree_node.proofs.ClassLemmas.{Contains-cons_cases, Contains-head}
use Rattle.kernel_syntax.specs.declared.stmt.Stmt.{Stmt}
use Rattle.site_message.specs.declared.message.Msg.{Msg}
use Rattle.site_message.specs.declared.message.Msg.TheVariants as msg
use Rattle.site_message.specs.declared.message.Sent.{Sent}
use Rattle.oz_model.proofs.NameLemmas.{Each-weaker}
use Rattle.variable_owner.specs.declared.owners.Owner.{Owner}
use Rattle.variable_owner.specs.declared.owners.Owner.TheVariants.{Open, Bound}
use Rattle.variable_owner.specs.Owners.{owner_of}
use Rattle.bind_protocol.specs.Records.{Records, knowledge, IsKnown, sites_in}
use Rattle.bind_protocol.specs.Rows.{after_register, register_sends, register_answer, binding}
use Rattle.site_model.specs.Site.{Threads, Counters}
use Rattle.site_model.specs.Bundle.{with_own_bundles, with_own_bundle, bundle_of}
use Rattle.site_model.specs.Fit as Fit
use Rattle.site_model.proofs.BundleLemmas.{bundle_known}
use Rattle.world_model.specs.World.{Mail, IsOnItsWay, at_put, mail_from, without_number}
use Rattle.world_model.specs.Names.{IsHere, IsMade}
use Rattle.world_model.specs.Matches.{equations_in, IsTold, IsAddressed, IsBound, IsAwaited, PartsMatch}
use Rattle.world_model.proofs.PutLemmas.{at_all, at_here}
use Rattle.world_model.proofs.MailLemmas.{nothing, sent_to, Posts, posts, Gone, gone, new_number, from_number}
use Rattle.world_variables.proofs.RecordLemmas.{bound_knows}
use Rattle.world_variables.proofs.AlikeLemmas.{knowledge_posts, told_posts, addressed_posts, said_posts, waiting_posts, placed_posts, knowledge_gone, addressed_gone, said_gone, told_gone, waiting_gone, placed_gone, Wider, kept_wider, addressed_wider, told_wider, waiting_wider}
use Rattle.world_variables.proofs.TellLemmas.{each_of}
use Rattle.tree_node.proofs.OrderLemmas.{Each-member}
use Rattle.bind_protocol.proofs.LearnLemmas.{bound_at, registers_is}
use Rattle.bind_protocol.specs.Learn.{HasRegistered}
use Rattle.bind_protocol.proofs.NoticeLemmas.{unknown}

-- what is sent may be sent
pub record MaySend (p : List Stmt) (eqs : ℕ → Store) (records : ℕ → Records) (threads : ℕ → Threads) (made : ℕ → Counters) (c : Store) (out : List Sent) : Type 0 where
  pub told : (to : ℕ) (m : Msg) → Contains out (sent_to to m) → Each (Contains c) (equations_in m)
  pub addressed : (to : ℕ) (m : Msg) → Contains out (sent_to to m) → IsAddressed records to m
  pub said : (to : ℕ) (m : Msg) → Contains out (sent_to to m) → Fit.EachOfMsg (IsMade made) m
  pub awaited : (to : ℕ) (x : VarName) (t : Term) (n : ThreadName) (bundle : List Equation) → Contains out (sent_to to (msg.BindReq x n t bundle)) → IsAwaited p eqs threads c x t n
  pub none : (to : ℕ) (n : ThreadName) (code : CodeId) (vars : List VarName) (bundle : List Equation) → Contains out (sent_to to (msg.Spawn n code vars bundle)) → ⊥

-- message k may go
pub record MayGo (records : ℕ → Records) (c : Store) (k : ℕ) (mail less : Mail) : Type 0 where
  pub told : (to : ℕ) (m : Msg) → IsOnItsWay mail k to m → (i : ℕ) (x : VarName) → knowledge (records i) x ≡ Some None → x.site ≢ i →
      ((m ≡ msg.Register x i) ⊎ ((to ≡ i) × ((t : Term) × (bundle : List Equation) × (m ≡ msg.Binding x t bundle)))) → IsTold records less i x
  pub bound : (to : ℕ) (x : VarName) (t : Term) (n : ThreadName) (bundle : List Equation) → IsOnItsWay mail k to (msg.BindReq x n t bundle) → IsBound c x
  pub none : (to : ℕ) (n : ThreadName) (code : CodeId) (vars : List VarName) (bundle : List Equation) → IsOnItsWay mail k to (msg.Spawn n code vars bundle) → ⊥

module _ (p : List Stmt) (here : ℕ → Name → Type 0) (eqs : ℕ → Store) (records : ℕ → Records) (threads : ℕ → Threads) (made : ℕ → Counters) (mail : Mail) (s : State) (parts : PartsMatch p here eqs records threads made mail s) where
  pub parts_posts : (n : ℕ) (out : List Sent) → MaySend p eqs records threads made s.equations out → PartsMatch p here eqs records threads made (mail ++ mail_from n out) s
  parts_posts n out may = record {
    knowledge = knowledge_posts mail (mail ++ mail_from n out) out sent eqs s.equations may.told parts.knowledge;
    kept = parts.kept;
    placed = placed_posts mail (mail ++ mail_from n out) out sent p threads s.threads may.none parts.placed;
    told = λ i x unbound other. told_posts mail (mail ++ mail_from n out) out sent records i x (parts.told i x unbound other);
    addressed = addressed_posts mail (mail ++ mail_from n out) out sent records may.addressed parts.addressed;
    waiting = waiting_posts mail (mail ++ mail_from n out) out sent p eqs records threads s.equations may.awaited parts.waiting;
    homes = parts.homes;
    centred = parts.centred;
    makers = parts.makers;
    said = said_posts mail (mail ++ mail_from n out) out sent made may.said parts.said;
  }
    where
      sent : Posts mail (mail ++ mail_from n out) out
      sent = posts mail n out

  pub parts_gone : (k : ℕ) → MayGo records s.equations k mail (without_number k mail) → PartsMatch p here eqs records threads made (without_number k mail) s
  parts_gone k may = record {
    knowledge = knowledge_gone k mail (without_number k mail) went eqs s.equations parts.knowledge;
    kept = parts.kept;
    placed = placed_gone k mail (without_number k mail) went p threads s.threads may.none parts.placed;
    told = told_gone k mail (without_number k mail) went records may.told parts.told;
    addressed = addressed_gone k mail (without_number k mail) went records parts.addressed;
    waiting = waiting_gone k mail (without_number k mail) went p eqs records threads s.equations may.bound parts.waiting;
    homes = parts.homes;
    centred = parts.centred;
    makers = parts.makers;
    said = said_gone k mail (without_number k mail) went made parts.said;
  }
    where
      went : Gone k mail (without_number k mail)
      went = gone k mail

  -- a site registers another one
  registered_wider : (j : ℕ) (b : Records) (x : VarName) (k : ℕ) → HasRegistered (records j) b x k → Wider records (at_put records j b)
  registered_wider j b x k r = record {
    site = at_all records j b (λ i (o : Records). o.site ≡ (records i).site) r.site (λ i other. refl);
    known = at_all records j b (λ i (o : Records). (y : VarName) → IsKnown (records i) y → IsKnown o y) (λ y h. rw (r.same y) h) (λ i other y h. h);
    bound = at_all records j b (λ i (o : Records). (y : VarName) (t : Term) → knowledge o y ≡ Some (Some t) → knowledge (records i) y ≡ Some (Some t)) (λ y t h. sym (r.same y) ∙ h) (λ i other y t h. h);
    held = at_all records j b (λ i (o : Records). (y : VarName) (t : Term) → knowledge (records i) y ≡ Some (Some t) → knowledge o y ≡ Some (Some t)) (λ y t h. r.same y ∙ h) (λ i other y t h. h);
    listed = at_all records j b (λ i (o : Records). (y : VarName) (o2 : ℕ) → Contains (sites_in (records i) y) o2 → Contains (sites_in o y) o2) r.listed (λ i other y o2 h. h);
  }

  same_know : (j : ℕ) (b : Records) (x : VarName) (k : ℕ) → HasRegistered (records j) b x k → (i : ℕ) (y : VarName) → knowledge (at_put records j b i) y ≡ knowledge (records i) y
  same_know j b x k r = at_all records j b (λ i (o : Records). (y : VarName) → knowledge o y ≡ knowledge (records i) y) r.same (λ i other y. refl)

  pub registered_parts : (j : ℕ) (b : Records) (x : VarName) (k : ℕ) → HasRegistered (records j) b x k → PartsMatch p here eqs (at_put records j b) threads made mail s
  registered_parts j b x k r = record {
    knowledge = parts.knowledge;
    kept = kept_wider records (at_put records j b) wide eqs parts.kept;
    placed = parts.placed;
    told = λ i y unbound other. told_wider records (at_put records j b) wide mail i y (parts.told i y (sym (same i y) ∙ unbound) other);
    addressed = addressed_wider records (at_put records j b) wide mail parts.addressed;
    waiting = waiting_wider records (at_put records j b) wide p eqs threads mail s.equations parts.waiting;
    homes = parts.homes;
    centred = parts.centred;
    makers = record {
      own = λ i y at. rw (same i y) (parts.makers.own i y at);
      met = λ i y h. parts.makers.met i y (subst (λ (o : Option (Option Term)). IsTrue (is_some o)) (same i y) h);
    };
    said = parts.said;
  }
    where
      wide : Wider records (at_put records j b)
      wide = registered_wider j b x k r

      same : (i : ℕ) (y : VarName) → knowledge (at_put records j b i) y ≡ knowledge (records i) y
      same = same_know j b x k r

-- ---- the row

module _ (p : List Stmt) (here : ℕ → Name → Type 0) (eqs : ℕ → Store) (records : ℕ → Records) (threads : ℕ → Threads) (made : ℕ → Counters) (mail : Mail) (s : State) (parts : PartsMatch p here eqs records threads made mail s) where
  abbrev answered : ℕ → ℕ → VarName → ℕ → List Sent
  answered limit j x k = with_own_bundles limit (eqs j) (register_sends (records j) x k)

  -- what is answered: the binding, to the site that asked
  answer_is : (limit j : ℕ) (x : VarName) (k : ℕ) (to : ℕ) (m : Msg) → x.site ≡ j → Contains (answered limit j x k) (sent_to to m) →
      (t : Term) × (knowledge (records j) x ≡ Some (Some t)) × (m ≡ msg.Binding x t (bundle_of limit (eqs j) (msg.Binding x t []))) × (to ≡ k)
  answer_is limit j x k to m own h = go (owner_of (records j).owners x) refl h
    where
      own_at : x.site ≡ (records j).site
      own_at = own ∙ sym (parts.kept j).site

      go : (o : Option Owner) → owner_of (records j).owners x ≡ o → Contains (with_own_bundles limit (eqs j) (register_answer o x k)) (sent_to to m) →
          (t : Term) × (knowledge (records j) x ≡ Some (Some t)) × (m ≡ msg.Binding x t (bundle_of limit (eqs j) (msg.Binding x t []))) × (to ≡ k)
      go None e q = absurd (nothing _ q)
      go (Some (Open ks)) e q = absurd (nothing _ q)
      go (Some (Bound t)) e q = one (Contains-cons_cases _ _ [] q)
        where
          one : (with_own_bundle limit (eqs j) (binding x t k) ≡ sent_to to m) ⊎ Contains [] (sent_to to m) →
              (t : Term) × (knowledge (records j) x ≡ Some (Some t)) × (m ≡ msg.Binding x t (bundle_of limit (eqs j) (msg.Binding x t []))) × (to ≡ k)
          one (inl f) = (t, bound_knows (records j) x t own_at e, sym (ap (λ (o : Sent). o.msg) f), sym (ap (λ (o : Sent). o.to) f))
          one (inr r) = absurd (nothing _ r)

  -- a bound variable's is there
  answer_there : (limit j : ℕ) (x : VarName) (k : ℕ) (t : Term) → owner_of (records j).owners x ≡ Some (Bound t) →
      Contains (answered limit j x k) (sent_to k (msg.Binding x t (bundle_of limit (eqs j) (msg.Binding x t []))))
  answer_there limit j x k t e = rw e (Contains-head _ [])

  pub register_parts : (limit n l j : ℕ) (x : VarName) (k : ℕ) → j ≢ 0 → IsOnItsWay mail l j (msg.Register x k) → ((a b : ℕ) (m o : Msg) → IsOnItsWay mail l a m → IsOnItsWay mail l b o → (a ≡ b) × (m ≡ o)) → l < n →
      PartsMatch p here eqs (at_put records j (after_register (records j) x k)) threads made (without_number l (mail ++ mail_from n (answered limit j x k))) s
  register_parts limit n l j x k real at once low =
      module_gone (registered_parts p here eqs records threads made mail s parts j b x k r) (record {
        told = λ to m h i y unbound other why. told (is_it to m h) i y (sym (same_know p here eqs records threads made mail s parts j b x k r i y) ∙ unbound) why;
        bound = λ to y t o bundle h. let e = (is_it to _ h).1 in cc;
        none = λ to o code vars bundle h. let e = (is_it to _ h).1 in cc;
      })
    where
      b : Records
      b = after_register (records j) x k

      own : x.site ≡ j
      own = sym (parts.addressed l j _ at).0

      own_at : x.site ≡ (records j).site
      own_at = own ∙ sym (parts.kept j).site

      r : HasRegistered (records j) b x k
      r = registers_is (records j) x k own_at

      more : Mail
      more = mail ++ mail_from n (answered limit j x k)

      sent : PartsMatch p here eqs (at_put records j b) threads made mail s → PartsMatch p here eqs (at_put records j b) threads made more s
      sent q = parts_posts p here eqs (at_put records j b) threads made mail s q n (answered limit j x k) (record {
        told = λ to m h. tells to m (answer_is limit j x k to m own h);
        addressed = λ to m h. let a = answer_is limit j x k to m own h in subst (λ (o : Msg). IsAddressed (at_put records j b) to o) (sym a.2) tt;
        said = λ to m h. says to m (answer_is limit j x k to m own h);
        awaited = λ to y t o bundle h. let a = answer_is limit j x k to _ own h in let e = a.2 in cc;
        none = λ to o code vars bundle h. let a = answer_is limit j x k to _ own h in let e = a.2 in cc;
      })
        where
          sees : (t : Term) → knowledge (records j) x ≡ Some (Some t) → Contains s.equations (x, t)
          sees t known = parts.knowledge.known j (x, t) ((parts.kept j).bound x t known)

          carried : (t : Term) → Each (Contains s.equations) (bundle_of limit (eqs j) (msg.Binding x t []))
          carried t = Each-weaker (Contains (eqs j)) (Contains s.equations) (parts.knowledge.known j) _ (bundle_known limit (eqs j) (msg.Binding x t []))

          tells : (to : ℕ) (m : Msg) → (t : Term) × (knowledge (records j) x ≡ Some (Some t)) × (m ≡ msg.Binding x t (bundle_of limit (eqs j) (msg.Binding x t []))) × (to ≡ k) → Each (Contains s.equations) (equations_in m)
          tells to m (t, known, is, site) = subst (λ (o : Msg). Each (Contains s.equations) (equations_in o)) (sym is) (sees t known, carried t)

          says : (to : ℕ) (m : Msg) → (t : Term) × (knowledge (records j) x ≡ Some (Some t)) × (m ≡ msg.Binding x t (bundle_of limit (eqs j) (msg.Binding x t []))) × (to ≡ k) → Fit.EachOfMsg (IsMade made) m
          says to m (t, known, is, site) =
              let e = Each-member (EachOfEquation (IsMade made)) s.equations (x, t) parts.centred.all.0 (sees t known) in
              subst (λ (o : Msg). Fit.EachOfMsg (IsMade made) o) (sym is) (e.0, e.1, each_of (EachOfEquation (IsMade made)) s.equations parts.centred.all.0 _ (carried t))

      module_gone : PartsMatch p here eqs (at_put records j b) threads made mail s → MayGo (at_put records j b) s.equations l more (without_number l more) → PartsMatch p here eqs (at_put records j b) threads made (without_number l more) s
      module_gone q may = parts_gone p here eqs (at_put records j b) threads made more s (sent q) l may

      -- the message of this number is the Register
      is_it : (to : ℕ) (m : Msg) → IsOnItsWay more l to m → (to ≡ j) × (m ≡ msg.Register x k)
      is_it to m h = go (from_number mail n (answered limit j x k) l to m h)
        where
          go : IsOnItsWay mail l to m ⊎ (Contains (answered limit j x k) (sent_to to m) × (n ≤ l) × (l < n + length (answered limit j x k))) → (to ≡ j) × (m ≡ msg.Register x k)
          go (inl q) = once to j m (msg.Register x k) q at
          go (inr (q, high, top)) = absurd (omega (arith, low, high))

      told : {to : ℕ} {m : Msg} → (to ≡ j) × (m ≡ msg.Register x k) → (i : ℕ) (y : VarName) → knowledge (records i) y ≡ Some None →
          ((m ≡ msg.Register y i) ⊎ ((to ≡ i) × ((t : Term) × (bundle : List Equation) × (m ≡ msg.Binding y t bundle)))) → IsTold (at_put records j b) (without_number l more) i y
      told {to} {m} is i y unbound (inr (site, (t, bundle, e))) = let both : msg.Register x k ≡ msg.Binding y t bundle = sym is.1 ∙ e in cc
      told {to} {m} is i y unbound (inl e) =
          let both : msg.Register x k ≡ msg.Register y i = sym is.1 ∙ e in
          let var : x ≡ y = cc in
          let site : k ≡ i = cc in
          subst (λ (z : VarName). IsTold (at_put records j b) (without_number l more) i z) var (subst (λ (o : ℕ). IsTold (at_put records j b) (without_number l more) o x) site known)
        where
          owner : (o : Option (Option Term)) → knowledge (records j) x ≡ o → IsKnown (records j) x → IsTold (at_put records j b) (without_number l more) k x
          owner None e h = absurd (unknown (knowledge (records j) x) e h)
          owner (Some None) e h = inl (subst (λ (o : Records). Contains (sites_in o x) k) (sym (subst (λ (i : ℕ). at_put records j b i ≡ b) (sym own) (at_here records j b))) (r.joined e))
          owner (Some (Some t)) e h =
              let new = new_number mail n (answered limit j x k) k _ (answer_there limit j x k t (bound_at (records j) x t own_at e)) in
              inr (inr (new.0, t, _, (gone l more).kept new.0 k _ new.1 (λ (q : new.0 ≡ l). absurd (omega (arith, low, new.2, q)))))

          known : IsTold (at_put records j b) (without_number l more) k x
          known = go (parts.addressed l j _ at).1
            where
              go : IsHere (records x.site) x → IsTold (at_put records j b) (without_number l more) k x
              go (inl zero) = absurd (real (sym own ∙ zero))
              go (inr h) = owner (knowledge (records j) x) refl (subst (λ (i : ℕ). IsKnown (records i) x) own h)
