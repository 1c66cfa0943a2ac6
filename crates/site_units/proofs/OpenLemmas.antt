-- A message that is opened.
use Rattle.std.proofs.Common.{◌≡◌, ◌∙◌, sym, ap, refl, subst, ℕ, List, [], ◌∷◌, ◌++◌, ◌⊎◌, inl, inr, Bool, true, false, cond, Some, None}
use Rattle.std.specs.Prelude.{Option, Contains, is_some}
use Rattle.tree_node.specs.declared.names.VarName.{VarName}
use Rattle.tree_node.specs.declared.names.ThreadName.{ThreadName}
use Rattle.tree_node.specs.declared.names.Name.TheVariants as name
use Rattle.tree_node.specs.declared.node.Feature.{Feature}
use Rattle.tree_node.specs.declared.node.Node.TheVariants as node
use Rattle.tree_node.specs.declared.node.Term.{Term}
use Rattle.tree_node.specs.declared.node.Term.TheVariants as term
use Rattle.tree_node.specs.Assoc.{value_of}
use Rattle.tree_node.specs.Each.{Each}
use Rattle.tree_node.specs.Names.{EachOfTerm, EachOfEquation}
use Rattle.tree_node.specs.State.{Stack, equal_thread}
use Rattle.tree_node.specs.Store.{Store, Equation, IsSound}
use Rattle.tree_node.proofs.ClassLemmas.{Contains-head, Contains-tail, Contains-cons_cases}
use Rattle.tree_node.proofs.EachLemmas.{each_in}
use Rattle.tree_node.proofs.OrderLemmas.{Each-member, none}
use Rattle.kernel_syntax.specs.declared.stmt.Stmt.{Stmt}
use Rattle.kernel_syntax.proofs.PreorderLemmas.{each_left, each_right}
use Rattle.oz_model.specs.Answers.{IsPartOf}
use Rattle.oz_model.proofs.NameLemmas.{Each-weaker}
use Rattle.bind_protocol.specs.Records.{Records, IsKnown, is_own, knowledge, owner_knows}
use Rattle.variable_owner.specs.declared.owners.Owner.{Owner}
use Rattle.variable_owner.specs.Owners.{owner_of}
use Rattle.proxy_table.specs.Proxies.{entry_of}
use Rattle.site_message.specs.declared.message.Msg.{Msg}
use Rattle.site_message.specs.Vars.{vars_of, field_vars}
use Rattle.name_supply.specs.declared.fresh.Fresh.{Fresh}
use Rattle.thread_machine.specs.Fits.{IsKnown as IsAmong, TermFits, EquationsFit}
use Rattle.thread_machine.specs.Running.{Running}
use Rattle.name_supply.specs.Supply.{site_in, IsMade, HasMade}
use Rattle.thread_machine.proofs.KeepLemmas.{equations_grow}
use Rattle.thread_roster.specs.declared.mode.Mode.{Mode}
use Rattle.thread_roster.specs.Threads.{Threads as Roster, wake_where}
use Rattle.thread_roster.specs.Binds.{goes_on}
use Rattle.thread_roster.proofs.ThreadLemmas.{woken_by}
use Rattle.site_model.specs.Site.{Site, Threads}
use Rattle.site_model.specs.Bundle.{body_vars, message_bundle, message_vars, vars_of_equations}
use Rattle.site_model.specs.Transition.{Transition}
use Rattle.site_model.specs.Variables.{with_known_equation, with_known_equation_as, with_known_equations, opening}
use Rattle.site_variables.specs.declared.variables.Variables.{Variables}
use Rattle.site_variables.specs.Variables.{IsLinked, IsGrown, IsMadeIfOwn, IsVariableRow, parts_of, with_parts, stacks_of}
use Rattle.site_units.specs.declared.data.Core.{Core}
use Rattle.site_units.specs.declared.data.Output.{Output}
use Rattle.site_units.specs.Core.{site_of, stack_in}
use Rattle.site_units.specs.Invariant.{IsConsistent}
use Rattle.site_units.specs.Turns.{IsRowMade}
use Rattle.site_units.proofs.ThreadLemmas.{Living}
use Rattle.site_units.proofs.WakeLemmas.{Bind, encode, woken_each, woken_back}
use Rattle.site_units.proofs.LearnLemmas.{own_known, learned_consistent}
use Rattle.site_units.proofs.SiteLemmas.{nil_right}
use Rattle.site_units.proofs.RowLemmas.{row_reached}
use Rattle.std.proofs.lemmas.Bool.{eq-eqb}

-- ---- what a bundle brings

-- equations and threads afterwards: the new ones are of the bundle, and threads go on by some binds
record Brings (es : List Equation) (s t : Site) : Type 0 where
  from : (e : Equation) → Contains t.equations e → Contains s.equations e ⊎ Contains es e
  includes : IsPartOf s.equations t.equations
  bound : List Bind
  woken : t.threads ≡ woken_each bound s.threads

brings_one : (s : Site) (x : VarName) (t : Term) → Brings ((x, t) ∷ []) s (with_known_equation s x t)
brings_one s x t = go (is_own s.records x) (knowledge s.records x)
  where
    same : Brings ((x, t) ∷ []) s s
    same = record { from = λ e m. inl m; includes = λ e m. m; bound = []; woken = refl }

    more : Brings ((x, t) ∷ []) s (with_known_equation_as false None s x t)
    more = record {
      from = λ e m. (elim (Contains-cons_cases (x, t) e s.equations m) [ inl is ↦ inr (subst (Contains ((x, t) ∷ [])) is (Contains-head (x, t) [])) | inr old ↦ inl old ]);
      includes = λ e m. Contains-tail (x, t) e s.equations m;
      bound = ((x, t) ∷ s.equations, x) ∷ [];
      woken = refl;
    }

    go : (own : Bool) (k : Option (Option Term)) → Brings ((x, t) ∷ []) s (with_known_equation_as own k s x t)
    go true k = same
    go false (Some (Some r)) = same
    go false (Some None) = more
    go false None = more

woken_on : (bs ds : List Bind) (ts : Threads) → woken_each ds (woken_each bs ts) ≡ woken_each (bs ++ ds) ts
woken_on [] ds ts = refl
woken_on (b ∷ bs) ds ts = woken_on bs ds (wake_where (goes_on b.0 b.1) ts)

brings_all : (es : List Equation) (s : Site) → Brings es s (with_known_equations s es)
brings_all [] s = record { from = λ e m. inl m; includes = λ e m. m; bound = []; woken = refl }
brings_all (e ∷ es) s =
    let first : Brings (e ∷ []) s (with_known_equation s e.0 e.1) = brings_one s e.0 e.1 in
    let rest : Brings es (with_known_equation s e.0 e.1) (with_known_equations (with_known_equation s e.0 e.1) es) = brings_all es (with_known_equation s e.0 e.1) in
    record {
      from = λ d m. (elim (rest.from d m) [ inl old ↦ at_first d (first.from d old) | inr new ↦ inr (Contains-tail e d es new) ]);
      includes = λ d m. rest.includes d (first.includes d m);
      bound = first.bound ++ rest.bound;
      woken = rest.woken ∙ (ap (woken_each rest.bound) first.woken ∙ woken_on first.bound rest.bound s.threads);
    }
  where
    at_first : (d : Equation) → Contains s.equations d ⊎ Contains (e ∷ []) d → Contains s.equations d ⊎ Contains (e ∷ es) d
    at_first d (inl old) = inl old
    at_first d (inr new) = inr (elim (Contains-cons_cases e d [] new) [ inl is ↦ subst (Contains (e ∷ es)) is (Contains-head e es) | inr nothing ↦ absurd (none d nothing) ])

-- ---- names

each_field : (known : List VarName) (fields : List (Feature × VarName)) → Each (Contains known) (field_vars fields) → Each (λ (f : Feature × VarName). Contains known f.1) fields
each_field known [] h = tt
each_field known (f ∷ fields) h = (h.0, each_field known fields h.1)

-- a term over known variables
pub term_known : (known : List VarName) (t : Term) → Each (Contains known) (vars_of t) → EachOfTerm (IsAmong known) t
term_known known (term.Var x) h = h.0
term_known known (term.Node (node.Rec label fields)) h = each_field known fields h
term_known known (term.Node (node.Proc formals code q vars)) h = (tt, h)
term_known known (term.Node (node.Int z)) h = tt
term_known known (term.Node (node.Atom a)) h = tt
term_known known (term.Node (node.Cell c)) h = tt
term_known known (term.Node (node.Port c)) h = tt

equations_known : (known : List VarName) (es : List Equation) → Each (Contains known) (vars_of_equations es) → Each (EachOfEquation (IsAmong known)) es
equations_known known [] h = tt
equations_known known (e ∷ es) h =
    let first = each_left (Contains known) (e.0 ∷ vars_of e.1) (vars_of_equations es) h in
    ((first.0, term_known known e.1 first.1), equations_known known es (each_right (Contains known) (e.0 ∷ vars_of e.1) (vars_of_equations es) h))

-- ---- own variables

-- an own variable that is known was made
own_made : (b : Records) (x : VarName) → IsKnown b x → IsMadeIfOwn b x
own_made b x known own =
    let here : is_own b x ≡ true = eq-eqb x.site b.site own in
    owned (owner_of b.owners x) refl (subst (λ (c : Bool). is_some (cond c (owner_knows (owner_of b.owners x)) (entry_of b.proxies x)) ≡ true) here known)
  where
    owned : (o : Option Owner) → owner_of b.owners x ≡ o → is_some (owner_knows (owner_of b.owners x)) ≡ true → is_some (owner_of b.owners x) ≡ true
    owned None e k = let no : is_some (owner_knows (owner_of b.owners x)) ≡ false = rw e refl in let both : true ≡ false = sym k ∙ no in cc
    owned (Some o) e k = rw e refl

has_made : (f : Fresh) (i : ℕ) (x : VarName) → site_in f ≡ Some i → x.site ≡ i → IsMade f (name.Var x) → HasMade f (name.Var x)
has_made f i x site own made = (site ∙ ap (λ (j : ℕ). Some j) (sym own), made)

pub made_if_own : (p : List Stmt) (c : Core) (xs : List VarName) → IsConsistent p c → Each (λ (x : VarName). IsMade c.fresh (name.Var x)) xs → Each (IsMadeIfOwn c.variables.binder) xs
made_if_own p c xs h made = Each-weaker (λ (x : VarName). IsMade c.fresh (name.Var x)) (IsMadeIfOwn c.variables.binder) one xs made
  where
    one : (x : VarName) → IsMade c.fresh (name.Var x) → IsMadeIfOwn c.variables.binder x
    one x m own = own_made c.variables.binder x ((h.linked.names x).1 (h.made_known x (has_made c.fresh c.variables.binder.site x h.site own m))) own

-- ---- the row

abbrev pub Opened : Core → Variables → Roster Running → Output → Output → Msg → Type 0
Opened c v1 ts1 o0 o1 m = (g : Running → Stack) → IsVariableRow (opening m) [] (parts_of c.variables (stacks_of g c.threads.living) o0.sent) (parts_of v1 (stacks_of g ts1.living) o1.sent)

module _ (p : List Stmt) (c : Core) (v1 : Variables) (ts1 : Roster Running) (o0 o1 : Output) (m : Msg) (done : Opened c v1 ts1 o0 o1 m) where
  abbrev begun : (Running → Stack) → Site
  begun g = with_parts (site_of c) (parts_of c.variables (stacks_of g c.threads.living) o0.sent)

  brings : (g : Running → Stack) → Brings (message_bundle m) (begun g) (with_known_equations (begun g) (message_bundle m))
  brings g = brings_all (message_bundle m) (begun g)

  equations_are : (with_known_equations (begun stack_in) (message_bundle m)).equations ≡ v1.store.equations
  equations_are = ap (λ (d : Transition). d.site.equations) ((done stack_in).done (site_of c))

  threads_are : (with_known_equations (begun encode) (message_bundle m)).threads ≡ stacks_of encode ts1.living
  threads_are = ap (λ (d : Transition). d.site.threads) ((done encode).done (site_of c))

  pub which_woken : (bs : List Bind) × (ts1.living ≡ woken_each bs c.threads.living)
  which_woken = ((brings encode).bound, woken_back (brings encode).bound c.threads.living ts1.living (sym threads_are ∙ (brings encode).woken))

  pub open_made : IsConsistent p c → Each (λ (e : Equation). TermFits p e.1) (message_bundle m) → ts1.ended ≡ c.threads.ended → IsLinked v1 → IsGrown c.variables.store.known v1.store.known → Each (Contains v1.store.known) (message_vars m) →
      v1.binder.owners ≡ c.variables.binder.owners → v1.binder.site ≡ c.variables.binder.site → IsSound v1.store.equations → o1.picks ≡ o0.picks → o1.lines.items ≡ o0.lines.items →
      IsRowMade p (opening m) c o0 (record c { variables = v1; threads = ts1 }) o1
  open_made h terms ended linked grows known owners own sound picks lines =
      row_reached p (opening m) [] c v1 ts1 o0 o1 (done stack_in) ended (picks ∙ sym (nil_right o0.picks)) lines
      (learned_consistent p c v1 ts1 h (record {
        linked = linked;
        own = own;
        grows = grows;
        own_names = names;
        equations = fit;
        includes = λ e k. subst (λ (es : Store). Contains es e) equations_are ((brings stack_in).includes e k);
        sound = sound;
        bound = which_woken.0;
        woken = which_woken.1;
      }))
    where
      names : (x : VarName) → x.site ≡ c.variables.binder.site → Contains v1.store.known x → Contains c.variables.store.known x
      names x same k = (h.linked.names x).0 (own_known c.variables.binder v1.binder x own owners same ((linked.names x).1 k))

      old : EquationsFit p v1.store.known c.variables.store.equations
      old = equations_grow p c.variables.store.known v1.store.known c.variables.store.equations grows h.equations

      bundle_known : Each (EachOfEquation (IsAmong v1.store.known)) (message_bundle m)
      bundle_known = equations_known v1.store.known (message_bundle m) (each_right (Contains v1.store.known) (body_vars m) (vars_of_equations (message_bundle m)) known)

      each_new : (P : Equation → Type 0) → Each P c.variables.store.equations → Each P (message_bundle m) → Each P v1.store.equations
      each_new P before brought = each_in P v1.store.equations (λ e k. from e ((brings stack_in).from e (subst (λ (es : Store). Contains es e) (sym equations_are) k)))
        where
          from : (e : Equation) → Contains c.variables.store.equations e ⊎ Contains (message_bundle m) e → P e
          from e (inl k) = Each-member P c.variables.store.equations e before k
          from e (inr k) = Each-member P (message_bundle m) e brought k

      fit : EquationsFit p v1.store.known v1.store.equations
      fit = record { names = each_new (EachOfEquation (IsAmong v1.store.known)) old.names bundle_known; terms = each_new (λ (e : Equation). TermFits p e.1) old.terms terms }

-- no thread is born
pub still_new : (bs : List Bind) (ts us : Living) (n : ThreadName) → us ≡ woken_each bs ts → value_of equal_thread ts n ≡ None → value_of equal_thread us n ≡ None
still_new bs ts us n e none = ap (λ (l : Living). value_of equal_thread l n) e ∙ each bs ts none
  where
    one : (f : Mode → Bool) (ts : Living) → value_of equal_thread ts n ≡ None → value_of equal_thread (wake_where f ts) n ≡ None
    one f [] h = refl
    one f (t ∷ ts) h = go (equal_thread t.0 n) h (λ k. one f ts k)
      where
        go : (b : Bool) → cond b (Some t.1) (value_of equal_thread ts n) ≡ None → (value_of equal_thread ts n ≡ None → value_of equal_thread (wake_where f ts) n ≡ None) →
            cond b (Some (t.1.0, woken_by f t.1.1)) (value_of equal_thread (wake_where f ts) n) ≡ None
        go true h ih = cc
        go false h ih = ih h

    each : (bs : List Bind) (ts : Living) → value_of equal_thread ts n ≡ None → value_of equal_thread (woken_each bs ts) n ≡ None
    each [] ts h = h
    each (b ∷ bs) ts h = each bs (wake_where (goes_on b.0 b.1) ts) (one (goes_on b.0 b.1) ts h)
