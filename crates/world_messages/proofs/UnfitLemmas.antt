-- No delivered message is unfit.
use Rattle.std.proofs.Common.{rules, arith, ◌≡◌, ◌≢◌, ◌∙◌, sym, ap, refl, subst, ℕ, ◌+◌, ◌<◌, ◌≤◌, List, [], ◌∷◌, ◌⊎◌, inl, inr, Bool, true, false, cond, Some, None}
use Rattle.std.specs.Prelude.{Option, Contains, ◌==◌, ◌&&◌, is_some, IsTrue}
use Rattle.std.specs.List.{count_by}
use Rattle.tree_node.specs.declared.names.VarName.{VarName}
use Rattle.tree_node.specs.declared.names.Name.TheVariants as name
use Rattle.tree_node.specs.declared.node.Term.{Term}
use Rattle.tree_node.specs.Each.{Each}
use Rattle.tree_node.specs.Store.{Equation, equal_var}
use Rattle.tree_node.proofs.ClassLemmas.{same_name_refl, Contains-cons_cases, Contains-head}
use Rattle.kernel_syntax.specs.declared.stmt.Stmt.{Stmt}
use Rattle.site_message.specs.declared.message.Msg.{Msg}
use Rattle.site_message.specs.declared.message.Msg.TheVariants as msg
use Rattle.site_message.specs.declared.message.Sent.{Sent}
use Rattle.site_message.specs.declared.turn.Turn.{Turn}
use Rattle.site_message.specs.Journal.{IsTravelling, sent_of, travelling}
use Rattle.site_message.proofs.JournalLemmas.{travelling_tells}
use Rattle.proxy_table.specs.Proxies.{entry_of}
use Rattle.variable_owner.specs.declared.owners.Owner.{Owner}
use Rattle.variable_owner.specs.Owners.{IsMade, owner_of}
use Rattle.bind_protocol.specs.Records.{Records, knowledge, owner_knows, IsKnown, sites_in}
use Rattle.bind_protocol.specs.World.{is_register, is_binding}
use Rattle.bind_protocol.specs.Lawful.{met_count, register_count, binding_count, site_count}
use Rattle.bind_protocol.proofs.ListLemmas.{one, count_cons, there_counted, each_at}
use Rattle.site_model.specs.Site.{Site, initial_site}
use Rattle.site_model.specs.Bundle.{message_vars}
use Rattle.site_model.specs.Fit.{IsKnownName}
use Rattle.site_model.specs.Run.{WorldRun, delivered_message}
use Rattle.world_model.specs.World.{Sites, records}
use Rattle.world_model.specs.Chain.{messages}
use Rattle.world_model.proofs.PutLemmas.{nat_decides, at_other}
use Rattle.world_model.proofs.MailLemmas.{nothing}
use Rattle.bind_protocol.specs.Count.{AreCounted}
use Rattle.world_messages.specs.Fitting.{IsMadeVar, IsFitting, IsFittingMsg, WorldFits}
use Rattle.world_messages.specs.Unfit.{TakesVars, SitesVars, VarsFit}
use Rattle.world_messages.proofs.CountLemmas.{counted_in}
use Rattle.world_messages.proofs.SentLemmas.{GoesHome, turn_home}
use Rattle.world_messages.proofs.RunLemmas.{every_run}
use Rattle.world_messages.proofs.WireLemmas.{is_left, kept_fewer}
use Rattle.tree_node.proofs.EachLemmas.{each_append}
use Rattle.bind_protocol.proofs.RowCountLemmas.{at_most_one}
use Rattle.std.proofs.lemmas.Bool.{eqb-false}

-- ---- what travels is counted

pub travels_counted : (q : Sent → Bool) (ms : List (ℕ × Sent)) (y : ℕ × Sent) → Contains ms y → q y.1 ≡ true → 1 ≤ count_by q (messages ms)
travels_counted q [] y at e = absurd (nothing y at)
travels_counted q (z ∷ ms) y at e = go (Contains-cons_cases z y ms at) (λ k. travels_counted q ms y k e)
  where
    whole : count_by q (messages (z ∷ ms)) ≡ one (q z.1) + count_by q (messages ms)
    whole = count_cons q z.1 (messages ms)

    go : (z ≡ y) ⊎ Contains ms y → (Contains ms y → 1 ≤ count_by q (messages ms)) → 1 ≤ count_by q (messages (z ∷ ms))
    go (inl same) ih = let here : one (q z.1) ≡ 1 = ap (λ (w : ℕ × Sent). one (q w.1)) same ∙ ap one e in omega (arith, whole)
    go (inr k) ih = omega (arith, whole, ih k)

-- ---- sites that are none of n

pub outside : (p : List Stmt) (n limit : ℕ) (j : List Turn) (f : Sites) → WorldRun p n limit j f → (i : ℕ) → (1 ≤ i × i ≤ n → ⊥) → f i ≡ initial_site p n i
outside p n limit j f run = every_run p n limit (λ j f. (i : ℕ) → (1 ≤ i × i ≤ n → ⊥) → f i ≡ initial_site p n i) (λ i none. refl)
    (λ j e f d entry h i none. at_other f e.site d.site i (λ (q : i ≡ e.site). none (subst (λ (k : ℕ). 1 ≤ k × k ≤ n) (sym q) entry.site)) ∙ h i none) j f run

pub known_inside : (p : List Stmt) (n limit : ℕ) (j : List Turn) (f : Sites) → WorldRun p n limit j f → (i : ℕ) (x : VarName) → IsKnown (f i).records x → (1 ≤ i) × (i ≤ n)
known_inside p n limit j f run i x k = search (rules, arith, out)
  where
    none : (b : Bool) → IsTrue (is_some (cond {A = Option (Option Term)} b None None)) → ⊥
    none true h = cc
    none false h = cc

    out : ((1 ≤ i) × (i ≤ n) → ⊥) → ⊥
    out h = none (x.site == i) (subst (λ (s : Site). IsKnown s.records x) (outside p n limit j f run i h) k)

-- ---- messages go home

home_in : (p : List Stmt) (n limit : ℕ) (j : List Turn) (f : Sites) → WorldRun p n limit j f → Each GoesHome (sent_of j)
home_in p n limit j f run = every_run p n limit (λ j f. Each GoesHome (sent_of j)) tt
    (λ j e f d entry h. each_append GoesHome (sent_of j) e.sent h (subst (Each GoesHome) (sym entry.tells.sent) (turn_home p n limit (delivered_message j e.delivered) (f e.site) d entry.turn))) j f run

-- ---- the counts of one variable at one site

pub met_some : (b : Bool) (o : Option (Option Term)) → 1 ≤ met_count b o → (b ≡ false) × IsTrue (is_some o)
met_some true o h = absurd (omega (arith, h))
met_some false None h = absurd (omega (arith, h))
met_some false (Some v) h = (refl, refl)

-- nobody among the registered
none_there : (i : ℕ) (ks : List ℕ) → site_count i ks ≡ 0 → Contains ks i → ⊥
none_there i ks e at = let h : 1 ≤ site_count i ks = there_counted (λ k. i == k) ks i at ((nat_decides i i).1 refl) in absurd (omega (arith, h, e))

owner_made : (b : Records) (x : VarName) → x.site ≡ b.site → IsKnown b x → IsMade b.owners x
owner_made b x own k = go (owner_of b.owners x) (subst (λ (c : Bool). IsTrue (is_some (cond c (owner_knows (owner_of b.owners x)) (entry_of b.proxies x)))) ((nat_decides x.site b.site).1 own) k)
  where
    go : (o : Option Owner) → IsTrue (is_some (owner_knows o)) → IsTrue (is_some o)
    go None h = h
    go (Some r) h = refl

-- ---- a travelling message on variables

module _ (p : List Stmt) (n limit : ℕ) (j : List Turn) (f : Sites) (run : WorldRun p n limit j f) where
  pub own_number : (i : ℕ) → (f i).records.site ≡ i
  own_number = (counted_in p n limit j f run).0

  counts : AreCounted (records f) (messages (travelling j)) (sent_of j)
  counts = (counted_in p n limit j f run).1

  pub goes_home : (k : ℕ) (m : Sent) → IsTravelling j k m → GoesHome m
  goes_home k m at = each_at GoesHome (sent_of j) k m (home_in p n limit j f run) at.0

  -- a Register is of another site that met the variable and is not registered
  register_way : (k i to : ℕ) (x : VarName) → IsTravelling j k (record { to = to; msg = msg.Register x i }) →
      (site_count i (sites_in (f x.site).records x) ≡ 0) × (i ≢ x.site) × IsKnown (f i).records x
  register_way k i to x at =
      let here : 1 ≤ register_count x i (messages (travelling j)) = travels_counted (is_register x i) (travelling j) (k, record { to = to; msg = msg.Register x i }) ((travelling_tells j k _).1 at) this in
      let most : met_count (i == x.site) (knowledge (records f i) x) ≤ 1 = at_most_one _ _ in
      let some : 1 ≤ met_count (i == x.site) (knowledge (records f i) x) = omega (arith, counts.once i x, counts.way i x) in
      let m = met_some (i == x.site) (knowledge (records f i) x) some in
      (omega (arith, counts.once i x, counts.way i x), eqb-false i x.site m.0, m.1)
    where
      this : (equal_var x x && (i == i)) ≡ true
      this = rw (same_name_refl x, (nat_decides i i).1 refl) refl

  -- a Binding is for another site that met the variable
  binding_way : (k to : ℕ) (x : VarName) (t : Term) (bundle : List Equation) → IsTravelling j k (record { to = to; msg = msg.Binding x t bundle }) →
      (1 ≤ binding_count x to (messages (travelling j))) × ((to == x.site) ≡ false) × IsKnown (f to).records x
  binding_way k to x t bundle at =
      let here : 1 ≤ binding_count x to (messages (travelling j)) = travels_counted (is_binding x to) (travelling j) (k, record { to = to; msg = msg.Binding x t bundle }) ((travelling_tells j k _).1 at) this in
      let sent : 1 ≤ binding_count x to (sent_of j) = was_sent here in
      let some : 1 ≤ met_count (to == x.site) (knowledge (records f to) x) = omega (arith, counts.once to x, counts.way to x) in
      let m = met_some (to == x.site) (knowledge (records f to) x) some in
      (here, m.0, m.1)
    where
      this : (equal_var x x && (to == to)) ≡ true
      this = rw (same_name_refl x, (nat_decides to to).1 refl) refl

      was_sent : 1 ≤ binding_count x to (messages (travelling j)) → 1 ≤ binding_count x to (sent_of j)
      was_sent h = let few : binding_count x to (messages (travelling j)) ≤ binding_count x to (sent_of j) = kept_fewer (is_binding x to) (is_left j) 0 (sent_of j) in omega (arith, few, h)

-- ---- the part on variables

-- where the world fits. An induction that has this beside what it shows of the same run needs no more
pub fit_now : (p : List Stmt) (n limit : ℕ) (j : List Turn) (f : Sites) → WorldFits p n j f → WorldRun p n limit j f → (k : ℕ) (m : Sent) → IsTravelling j k m → VarsFit p n (f m.to) m.msg
fit_now p n limit j f fits run k m at = record {
  takes = takes m.msg at;
  sites = sites m.msg at;
  vars = λ x c. known x (said.1 x c);
  codes = said.0;
}
  where
    said : IsFittingMsg p n f m
    said = each_at (IsFittingMsg p n f) (sent_of j) k m fits.messages at.0

    own : (i : ℕ) → (f i).records.site ≡ i
    own = own_number p n limit j f run

    known : (x : VarName) → IsMadeVar n f x → IsKnownName n (f m.to) (name.Var x)
    known x (low, high, made) = (low, high, omega arith, λ (e : x.site ≡ (f m.to).records.site). counted (e ∙ own m.to) (fits.sites x.site))
      where
        counted : x.site ≡ m.to → IsFitting p n f x.site (f x.site) → x.num < (f m.to).counters.vars
        counted e s = subst (λ (i : ℕ). x.num < (f i).counters.vars) e (s.1.names.counted x refl (s.1.names.within x made))

    home : (o : Msg) → IsTravelling j k (record { to = m.to; msg = o }) → GoesHome (record { to = m.to; msg = o })
    home o at = goes_home p n limit j f run k (record { to = m.to; msg = o }) at

    made_here : (x : VarName) → m.to ≡ x.site → IsMadeVar n f x → IsMade (f m.to).records.owners x
    made_here x to (low, high, made) = owner_made (f m.to).records x (sym to ∙ sym (own m.to)) (subst (λ (i : ℕ). IsKnown (f i).records x) (sym to) made)

    vars_here : (o : Msg) → IsTravelling j k (record { to = m.to; msg = o }) → (x : VarName) → Contains (message_vars o) x → IsMadeVar n f x
    vars_here o at = (each_at (IsFittingMsg p n f) (sent_of j) k (record { to = m.to; msg = o }) fits.messages at.0).1

    takes : (o : Msg) → IsTravelling j k (record { to = m.to; msg = o }) → TakesVars (f m.to) o
    takes (msg.Register x i) at =
        let to : m.to ≡ x.site = home (msg.Register x i) at in
        let w = register_way p n limit j f run k i m.to x at in (
          sym to ∙ sym (own m.to),
          made_here x to (vars_here (msg.Register x i) at x (Contains-head x [])),
          subst (λ (q : ℕ). Contains (sites_in (f q).records x) i → ⊥) (sym to) (none_there i (sites_in (f x.site).records x) w.0),
        )
    takes (msg.BindReq x th t bundle) at =
        let to : m.to ≡ x.site = home (msg.BindReq x th t bundle) at in
        (sym to ∙ sym (own m.to), made_here x to (vars_here (msg.BindReq x th t bundle) at x (Contains-head x _)))
    takes (msg.Binding x t bundle) at = let w = binding_way p n limit j f run k m.to x t bundle at in (λ (e : x.site ≡ (f m.to).records.site). eqb-false m.to x.site w.1 (sym (e ∙ own m.to)), w.2)
    takes (msg.Spawn a b c d) at = tt
    takes (msg.Get a b) at = tt
    takes (msg.Forward a b) at = tt
    takes (msg.Put a b c) at = tt
    takes (msg.PortSend a b c) at = tt
    takes (msg.PortEnd a b c d) at = tt
    takes (msg.CellMake a b c) at = tt
    takes (msg.CellAsk a b c d e) at = tt
    takes (msg.CellOld a b c) at = tt

    sites : (o : Msg) → IsTravelling j k (record { to = m.to; msg = o }) → SitesVars n (f m.to) o
    sites (msg.Register x i) at =
        let to : m.to ≡ x.site = home (msg.Register x i) at in
        let w = register_way p n limit j f run k i m.to x at in
        let in_range = known_inside p n limit j f run i x w.2 in
        (in_range.0, in_range.1, λ (e : i ≡ (f m.to).records.site). w.1 (e ∙ own m.to ∙ to))
    sites (msg.BindReq a b c d) at = tt
    sites (msg.Binding a b c) at = tt
    sites (msg.Spawn a b c d) at = tt
    sites (msg.Get a b) at = tt
    sites (msg.Forward a b) at = tt
    sites (msg.Put a b c) at = tt
    sites (msg.PortSend a b c) at = tt
    sites (msg.PortEnd a b c d) at = tt
    sites (msg.CellMake a b c) at = tt
    sites (msg.CellAsk a b c d e) at = tt
    sites (msg.CellOld a b c) at = tt
