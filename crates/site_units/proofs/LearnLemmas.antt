-- Equations that a site learns by messages.
use Rattle.std.proofs.Common.{◌≡◌, ◌≢◌, ◌∙◌, sym, ap, refl, subst, ℕ, List, [], ◌∷◌, ◌++◌, ◌⊎◌, inl, inr, Bool, true, false, cond, Some, None}
use Rattle.std.specs.Prelude.{Option, Contains, is_some}
use Rattle.tree_node.specs.declared.names.VarName.{VarName}
use Rattle.tree_node.specs.declared.names.ThreadName.{ThreadName}
use Rattle.tree_node.specs.declared.names.Name.TheVariants as name
use Rattle.tree_node.specs.declared.node.Term.{Term}
use Rattle.tree_node.specs.Each.{Each}
use Rattle.tree_node.specs.Names.{EachOfTerm}
use Rattle.tree_node.specs.State.{Stack}
use Rattle.tree_node.specs.Store.{Store, IsSound}
use Rattle.tree_node.proofs.ClassLemmas.{Contains-tail}
use Rattle.kernel_syntax.specs.declared.stmt.Stmt.{Stmt}
use Rattle.oz_model.specs.Answers.{IsPartOf}
use Rattle.bind_protocol.specs.Records.{Records, IsKnown, is_own, knowledge, owner_knows}
use Rattle.variable_owner.specs.declared.owners.Owner.{Owner}
use Rattle.variable_owner.specs.declared.owners.Owner.TheVariants.{Open, Bound}
use Rattle.variable_owner.specs.Owners.{Owned, owner_of}
use Rattle.variable_owner.specs.Owners.{IsMade as IsOwned}
use Rattle.proxy_table.specs.Proxies.{entry_of}
use Rattle.variable_owner.specs.declared.owners.Asked.{Asked}
use Rattle.name_supply.specs.declared.fresh.Fresh.{Fresh}
use Rattle.name_supply.specs.declared.fresh.Fresh.TheVariants as fresh
use Rattle.thread_machine.specs.Fits.{IsKnown as IsAmong, TermFits, EquationsFit}
use Rattle.thread_machine.specs.Running.{Running}
use Rattle.name_supply.specs.Supply.{site_in, IsMade}
use Rattle.thread_machine.proofs.KeepLemmas.{equations_grow}
use Rattle.thread_roster.specs.declared.mode.Mode.{Mode}
use Rattle.thread_roster.specs.Threads.{Threads as Roster, Entry, wake_where}
use Rattle.thread_roster.specs.Binds.{goes_on}
use Rattle.thread_roster.proofs.ThreadLemmas.{woken_by, each_where}
use Rattle.oz_model.proofs.NameLemmas.{Each-weaker}
use Rattle.site_model.specs.Site.{Site}
use Rattle.site_model.specs.Transition.{Transition, without_output}
use Rattle.site_model.specs.Variables.{with_known_equation, with_known_equation_as}
use Rattle.site_model.specs.Messages.{bind_request_row, bind_request_as}
use Rattle.site_variables.specs.declared.variables.Variables.{Variables}
use Rattle.site_variables.specs.Variables.{IsLinked, IsGrown, IsVariableRow, parts_of, with_parts, stacks_of, request_picks}
use Rattle.site_units.specs.declared.data.Core.{Core}
use Rattle.site_units.specs.declared.data.Output.{Output}
use Rattle.site_units.specs.Core.{site_of, stack_in}
use Rattle.site_units.specs.Invariant.{ThreadFits, IsConsistent, AwaitKnown}
use Rattle.site_units.specs.Turns.{IsRowMade}
use Rattle.site_units.proofs.AwaitLemmas.{await_grows, await_where}
use Rattle.site_units.proofs.ThreadLemmas.{Living, WaitsStay, waits_woken, waited_where}
use Rattle.site_units.proofs.WakeLemmas.{Bind, encode, woken_each, woken_living, recovered_all}
use Rattle.site_units.proofs.NextLemmas.{next_consistent, thread_grows, asks_before, exchanges_more, sends_more}
use Rattle.site_units.proofs.SiteLemmas.{nil_right}
use Rattle.site_units.proofs.RowLemmas.{row_reached}
use Rattle.tree_node.proofs.OrderLemmas.{Each-member}
use Rattle.tree_node.proofs.EachLemmas.{each_in}
use Rattle.std.proofs.lemmas.Bool.{ne_eqb, eq-eqb}

-- ---- some go on by one bind after another

pub waits_each : (bs : List Bind) (ts : Living) → WaitsStay ts (woken_each bs ts)
waits_each [] ts m s c e = e
waits_each (b ∷ bs) ts m s c e = waits_each bs (wake_where (goes_on b.0 b.1) ts) m s c (waits_woken b.0 b.1 ts m s c e)

waited_each : (bs : List Bind) (ts : Living) → WaitsStay (woken_each bs ts) ts
waited_each [] ts m s a e = e
waited_each (b ∷ bs) ts m s a e = waited_where (goes_on b.0 b.1) ts m s a (waited_each bs (wake_where (goes_on b.0 b.1) ts) m s a e)

await_each : (known : List VarName) (bs : List Bind) (ts : Living) → AwaitKnown known ts → AwaitKnown known (woken_each bs ts)
await_each known [] ts h = h
await_each known (b ∷ bs) ts h = await_each known bs (wake_where (goes_on b.0 b.1) ts) (await_where known (goes_on b.0 b.1) ts h)

each_each : (P : Entry Running → Type 0) → ((n : ThreadName) (v : Running) (m k : Mode) → P (n, (v, m)) → P (n, (v, k))) → (bs : List Bind) (ts : Living) → Each P ts → Each P (woken_each bs ts)
each_each P any [] ts all = all
each_each P any (b ∷ bs) ts all = each_each P any bs (wake_where (goes_on b.0 b.1) ts) (each_where P P (goes_on b.0 b.1) ts (λ n v m g. any n v m (woken_by (goes_on b.0 b.1) m) g) all)

-- ---- names

made_if_own : (f : Fresh) (i : ℕ) (x : VarName) → site_in f ≡ Some i → (x.site ≡ i → IsMade f (name.Var x)) → IsMade f (name.Var x)
made_if_own (fresh.Counted site sites vars cells procs threads ports) i x e h = let is : site ≡ i = cc in λ same. h (same ∙ is) same
made_if_own (fresh.Given names) i x e h = let no : None ≡ Some i = e in cc

-- own names are known by the owners' table alone
pub own_known : (b b1 : Records) (x : VarName) → b1.site ≡ b.site → b1.owners ≡ b.owners → x.site ≡ b.site → IsKnown b1 x → IsKnown b x
own_known b b1 x site owners own known =
    let here : is_own b x ≡ true = eq-eqb x.site b.site own in
    let there : is_own b1 x ≡ true = eq-eqb x.site b1.site (own ∙ sym site) in
    let now : is_some (owner_knows (owner_of b1.owners x)) ≡ true = subst (λ (c : Bool). is_some (cond c (owner_knows (owner_of b1.owners x)) (entry_of b1.proxies x)) ≡ true) there known in
    subst (λ (c : Bool). is_some (cond c (owner_knows (owner_of b.owners x)) (entry_of b.proxies x)) ≡ true) (sym here) (subst (λ (o : List Owned). is_some (owner_knows (owner_of o x)) ≡ true) owners now)

pub owned_known : (b : Records) (x : VarName) → x.site ≡ b.site → IsOwned b.owners x → IsKnown b x
owned_known b x own made =
    let here : is_own b x ≡ true = eq-eqb x.site b.site own in
    subst (λ (c : Bool). is_some (cond c (owner_knows (owner_of b.owners x)) (entry_of b.proxies x)) ≡ true) (sym here) (go (owner_of b.owners x) refl)
  where
    go : (o : Option Owner) → owner_of b.owners x ≡ o → is_some (owner_knows (owner_of b.owners x)) ≡ true
    go None e = let none : is_some (owner_of b.owners x) ≡ false = rw e refl in let both : true ≡ false = sym made ∙ none in cc
    go (Some (Open sites)) e = rw e refl
    go (Some (Bound t)) e = rw e refl

-- ---- consistent again

-- what a site learned
pub record Learned (p : List Stmt) (c : Core) (v1 : Variables) (ts1 : Roster Running) : Type 0 where
  pub linked : IsLinked v1
  pub own : v1.binder.site ≡ c.variables.binder.site
  pub grows : IsGrown c.variables.store.known v1.store.known
  pub own_names : (x : VarName) → x.site ≡ c.variables.binder.site → Contains v1.store.known x → Contains c.variables.store.known x
  pub equations : EquationsFit p v1.store.known v1.store.equations
  pub includes : IsPartOf c.variables.store.equations v1.store.equations
  pub sound : IsSound v1.store.equations
  pub bound : List Bind
  pub woken : ts1.living ≡ woken_each bound c.threads.living

pub learned_consistent : (p : List Stmt) (c : Core) (v1 : Variables) (ts1 : Roster Running) → IsConsistent p c → Learned p c v1 ts1 → IsConsistent p (record c { variables = v1; threads = ts1 })
learned_consistent p c v1 ts1 h l = next_consistent p c (record c { variables = v1; threads = ts1 }) h (record {
  linked = l.linked;
  grows = l.grows;
  threads =
      subst (Each (ThreadFits p v1.store.known)) (sym l.woken)
      (each_each (ThreadFits p v1.store.known) (λ n v m k g. record { named = g.named; goes = g.goes; fits = g.fits }) l.bound c.threads.living
      (Each-weaker (ThreadFits p c.variables.store.known) (ThreadFits p v1.store.known) (λ t g. thread_grows p c.variables.store.known v1.store.known t l.grows g) c.threads.living h.threads));
  equations = l.equations;
  own = l.own;
  site = refl;
  below = h.below;
  known_made = each_in (λ (x : VarName). IsMade c.fresh (name.Var x)) v1.store.known (λ x m. made_if_own c.fresh c.variables.binder.site x h.site (λ same. Each-member (λ (y : VarName). IsMade c.fresh (name.Var y)) c.variables.store.known x h.known_made (l.own_names x same m)));
  made_known = λ x m. l.grows x (h.made_known x m);
  threads_made = subst (Each (λ (t : Entry Running). IsMade c.fresh (name.Thread t.0))) (sym l.woken) (each_each (λ (t : Entry Running). IsMade c.fresh (name.Thread t.0)) (λ n v m k g. g) l.bound c.threads.living h.threads_made);
  stays = λ x m. m;
  cells = refl;
  ports = refl;
  homes = refl;
  waits = subst (λ (ts : Living). WaitsStay c.threads.living ts) (sym l.woken) (waits_each l.bound c.threads.living);
  asks = asks_before p v1.store.known v1.store.equations c.threads.living ts1.living (subst (λ (ts : Living). WaitsStay ts c.threads.living) (sym l.woken) (waited_each l.bound c.threads.living));
  awaits = subst (AwaitKnown v1.store.known) (sym l.woken) (await_each v1.store.known l.bound c.threads.living (await_grows c.variables.store.known v1.store.known c.threads.living l.grows h.awaits));
  exchanges = exchanges_more p c.variables.store.known v1.store.known c.variables.store.equations v1.store.equations l.sound l.includes l.grows;
  sends = sends_more p c.variables.store.known v1.store.known c.variables.store.equations v1.store.equations l.sound l.includes l.grows;
  sites = refl;
})

-- ---- one equation, or none

-- the equation came, and those go on that go on by it; or nothing changed
abbrev pub IsOneMore : VarName → Term → Core → Variables → Roster Running → Type 0
IsOneMore x t c v1 ts1 =
    ((v1.store.equations ≡ (x, t) ∷ c.variables.store.equations) × (ts1.living ≡ wake_where (goes_on ((x, t) ∷ c.variables.store.equations) x) c.threads.living))
    ⊎ ((v1.store.equations ≡ c.variables.store.equations) × (ts1.living ≡ c.threads.living))

one_learned : (p : List Stmt) (c : Core) (v1 : Variables) (ts1 : Roster Running) (x : VarName) (t : Term) → IsConsistent p c → IsLinked v1 → v1.binder.site ≡ c.variables.binder.site → IsGrown c.variables.store.known v1.store.known →
    ((y : VarName) → y.site ≡ c.variables.binder.site → Contains v1.store.known y → Contains c.variables.store.known y) → IsSound v1.store.equations →
    Contains c.variables.store.known x → EachOfTerm (IsAmong c.variables.store.known) t → TermFits p t → IsOneMore x t c v1 ts1 → Learned p c v1 ts1
one_learned p c v1 ts1 x t h linked own grows names sound known term fits (inl more) = record {
  linked = linked;
  own = own;
  grows = grows;
  own_names = names;
  equations = subst (λ (es : Store). EquationsFit p v1.store.known es) (sym more.0)
      (equations_grow p c.variables.store.known v1.store.known ((x, t) ∷ c.variables.store.equations) grows
      (record { names = ((known, term), h.equations.names); terms = (fits, h.equations.terms) }));
  includes = λ e m. subst (λ (es : Store). Contains es e) (sym more.0) (Contains-tail (x, t) e c.variables.store.equations m);
  sound = sound;
  bound = ((x, t) ∷ c.variables.store.equations, x) ∷ [];
  woken = more.1;
}
one_learned p c v1 ts1 x t h linked own grows names sound known term fits (inr same) = record {
  linked = linked;
  own = own;
  grows = grows;
  own_names = names;
  equations = subst (λ (es : Store). EquationsFit p v1.store.known es) (sym same.0) (equations_grow p c.variables.store.known v1.store.known c.variables.store.equations grows h.equations);
  includes = λ e m. subst (λ (es : Store). Contains es e) (sym same.0) m;
  sound = sound;
  bound = [];
  woken = same.1;
}

-- ---- a request

abbrev pub Requested : Core → Variables → Roster Running → Output → Output → VarName → Term → ThreadName → Asked → Type 0
Requested c v1 ts1 o0 o1 x t n a =
    (g : Running → Stack) → IsVariableRow (bind_request_row 0 x t n) (request_picks a n x t) (parts_of c.variables (stacks_of g c.threads.living) o0.sent) (parts_of v1 (stacks_of g ts1.living) o1.sent)

granted : (c : Core) (v1 : Variables) (ts1 : Roster Running) (o0 o1 : Output) (x : VarName) (t : Term) (n : ThreadName) (a : Asked) → Requested c v1 ts1 o0 o1 x t n a → IsOneMore x t c v1 ts1 × (v1.binder.site ≡ c.variables.binder.site)
granted c v1 ts1 o0 o1 x t n a done = go (knowledge c.variables.binder x) (λ g. (done g).done (site_of c))
  where
    go : (k : Option (Option Term)) →
        ((g : Running → Stack) → bind_request_as k 0 x t n (with_parts (site_of c) (parts_of c.variables (stacks_of g c.threads.living) o0.sent)) ≡ record { site = with_parts (site_of c) (parts_of v1 (stacks_of g ts1.living) o1.sent); picks = request_picks a n x t; sent = (done g).more; lines = [] }) →
        IsOneMore x t c v1 ts1 × (v1.binder.site ≡ c.variables.binder.site)
    go None e = (inr (sym (ap (λ (d : Transition). d.site.equations) (e stack_in)), recovered_all c.threads.living ts1.living (sym (ap (λ (d : Transition). d.site.threads) (e encode)))), sym (ap (λ (d : Transition). d.site.records.site) (e stack_in)))
    go (Some None) e = (inl (sym (ap (λ (d : Transition). d.site.equations) (e stack_in)), woken_living (goes_on ((x, t) ∷ c.variables.store.equations) x) c.threads.living ts1.living (sym (ap (λ (d : Transition). d.site.threads) (e encode)))), sym (ap (λ (d : Transition). d.site.records.site) (e stack_in)))
    go (Some (Some r)) e = (inr (sym (ap (λ (d : Transition). d.site.equations) (e stack_in)), recovered_all c.threads.living ts1.living (sym (ap (λ (d : Transition). d.site.threads) (e encode)))), sym (ap (λ (d : Transition). d.site.records.site) (e stack_in)))

pub grant_made : (p : List Stmt) (c : Core) (v1 : Variables) (ts1 : Roster Running) (o0 o1 : Output) (x : VarName) (t : Term) (n : ThreadName) (a : Asked) → Requested c v1 ts1 o0 o1 x t n a → ts1.ended ≡ c.threads.ended → IsLinked v1 →
    v1.store.known ≡ c.variables.store.known → IsSound v1.store.equations → Contains c.variables.store.known x → EachOfTerm (IsAmong c.variables.store.known) t → TermFits p t → IsConsistent p c →
    o1.picks ≡ o0.picks ++ request_picks a n x t → o1.lines.items ≡ o0.lines.items → IsRowMade p (bind_request_row 0 x t n) c o0 (record c { variables = v1; threads = ts1 }) o1
grant_made p c v1 ts1 o0 o1 x t n a done ended linked same sound known term fits h picks lines =
    let more = granted c v1 ts1 o0 o1 x t n a done in
    row_reached p (bind_request_row 0 x t n) (request_picks a n x t) c v1 ts1 o0 o1 (done stack_in) ended picks lines
    (learned_consistent p c v1 ts1 h
    (one_learned p c v1 ts1 x t h linked more.1 (λ y m. subst (λ (l : List VarName). Contains l y) (sym same) m) (λ y own m. subst (λ (l : List VarName). Contains l y) same m) sound known term fits more.0))

-- ---- a binding

abbrev pub Told : Core → Variables → Roster Running → VarName → Term → Type 0
Told c v1 ts1 x t =
    (g : Running → Stack) → IsVariableRow (λ s. without_output (with_known_equation s x t)) [] (parts_of c.variables (stacks_of g c.threads.living) []) (parts_of v1 (stacks_of g ts1.living) [])

told_one : (c : Core) (v1 : Variables) (ts1 : Roster Running) (x : VarName) (t : Term) → x.site ≢ c.variables.binder.site → Told c v1 ts1 x t → IsOneMore x t c v1 ts1
told_one c v1 ts1 x t elsewhere done =
    go (knowledge c.variables.binder x) (λ g. subst (λ (b : Bool). with_known_equation_as b (knowledge c.variables.binder x) (begun g) x t ≡ after g) (ne_eqb x.site c.variables.binder.site elsewhere) (ap (λ (d : Transition). d.site) ((done g).done (site_of c))))
  where
    begun : (Running → Stack) → Site
    begun g = with_parts (site_of c) (parts_of c.variables (stacks_of g c.threads.living) [])

    after : (Running → Stack) → Site
    after g = with_parts (site_of c) (parts_of v1 (stacks_of g ts1.living) [])

    go : (k : Option (Option Term)) → ((g : Running → Stack) → with_known_equation_as false k (with_parts (site_of c) (parts_of c.variables (stacks_of g c.threads.living) [])) x t ≡ with_parts (site_of c) (parts_of v1 (stacks_of g ts1.living) [])) → IsOneMore x t c v1 ts1
    go None e = inl (sym (ap (λ (s : Site). s.equations) (e stack_in)), woken_living (goes_on ((x, t) ∷ c.variables.store.equations) x) c.threads.living ts1.living (sym (ap (λ (s : Site). s.threads) (e encode))))
    go (Some None) e = inl (sym (ap (λ (s : Site). s.equations) (e stack_in)), woken_living (goes_on ((x, t) ∷ c.variables.store.equations) x) c.threads.living ts1.living (sym (ap (λ (s : Site). s.threads) (e encode))))
    go (Some (Some r)) e = inr (sym (ap (λ (s : Site). s.equations) (e stack_in)), recovered_all c.threads.living ts1.living (sym (ap (λ (s : Site). s.threads) (e encode))))

pub learn_made : (p : List Stmt) (c : Core) (v1 : Variables) (ts1 : Roster Running) (o : Output) (x : VarName) (t : Term) → Told c v1 ts1 x t → ts1.ended ≡ c.threads.ended → IsLinked v1 → IsGrown c.variables.store.known v1.store.known →
    v1.binder.owners ≡ c.variables.binder.owners → v1.binder.site ≡ c.variables.binder.site → IsSound v1.store.equations → x.site ≢ c.variables.binder.site → IsKnown c.variables.binder x → EachOfTerm (IsAmong c.variables.store.known) t → TermFits p t →
    IsConsistent p c → IsRowMade p (λ s. without_output (with_known_equation s x t)) c o (record c { variables = v1; threads = ts1 }) o
learn_made p c v1 ts1 o x t done ended linked grows owners own sound elsewhere met term fits h =
    row_reached p (λ s. without_output (with_known_equation s x t)) [] c v1 ts1 o o quiet ended (sym (nil_right o.picks)) refl
    (learned_consistent p c v1 ts1 h (one_learned p c v1 ts1 x t h linked own grows names sound ((h.linked.names x).0 met) term fits (told_one c v1 ts1 x t elsewhere done)))
  where
    names : (y : VarName) → y.site ≡ c.variables.binder.site → Contains v1.store.known y → Contains c.variables.store.known y
    names y same m = (h.linked.names y).0 (own_known c.variables.binder v1.binder y own owners same ((linked.names y).1 m))

    quiet : IsVariableRow (λ s. without_output (with_known_equation s x t)) [] (parts_of c.variables (stacks_of stack_in c.threads.living) o.sent) (parts_of v1 (stacks_of stack_in ts1.living) o.sent)
    quiet = record { more = []; sent = sym (nil_right o.sent); done = λ s. same s }
      where
        same : (s : Site) → without_output (with_known_equation (with_parts s (parts_of c.variables (stacks_of stack_in c.threads.living) o.sent)) x t) ≡ record { site = with_parts s (parts_of v1 (stacks_of stack_in ts1.living) o.sent); picks = []; sent = []; lines = [] }
        same s = ap (λ (d : Transition). without_output d.site) ((done stack_in).done s)
