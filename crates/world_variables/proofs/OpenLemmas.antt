-- A message is opened: its equations are known, and then its names are met.
use Rattle.std.proofs.Common.{◌≡◌, ◌∙◌, sym, ap, refl, subst, ℕ, List, [], ◌∷◌, ◌++◌, map, ◌⊎◌, inl, inr, Bool, true, false, Some, None}
use Rattle.std.specs.Prelude.{Option, Contains}
use Rattle.tree_node.specs.declared.names.VarName.{VarName}
use Rattle.tree_node.specs.declared.names.Name.{Name}
use Rattle.tree_node.specs.declared.names.Name.TheVariants as name
use Rattle.tree_node.specs.declared.node.Feature.{Feature}
use Rattle.tree_node.specs.declared.node.Node.TheVariants as node
use Rattle.tree_node.specs.declared.node.Term.{Term}
use Rattle.tree_node.specs.declared.node.Term.TheVariants as term
use Rattle.tree_node.specs.Each.{Each}
use Rattle.tree_node.specs.Names.{EachOfEquation, EachOfTerm}
use Rattle.tree_node.specs.State.{State}
use Rattle.tree_node.specs.Store.{Equation}
use Rattle.kernel_syntax.specs.declared.stmt.Stmt.{Stmt}
use Rattle.site_message.specs.declared.message.Msg.{Msg}
use Rattle.site_message.specs.declared.message.Msg.TheVariants as msg
use Rattle.oz_model.proofs.NameLemmas.{Each-weaker, EachOfEquation-weaker}
use Rattle.bind_protocol.specs.Records.{Records, knowledge, IsKnown, is_own}
use Rattle.bind_protocol.specs.Rows.{after_meet, after_meets, meets_send}
use Rattle.site_message.specs.Vars.{vars_of}
use Rattle.site_model.specs.Site.{Site, Counters}
use Rattle.site_model.specs.Bundle.{message_vars, body_vars, message_bundle, vars_of_equations}
use Rattle.site_model.specs.Variables.{with_known_equation_as, with_known_equation, with_known_equations, meeting, opening}
use Rattle.site_model.specs.Fit as Fit
use Rattle.world_model.specs.World.{World, Sites, IsOnItsWay, put, after_transition, mail_from, eqs, records, threads, counters}
use Rattle.world_model.specs.Names.{IsHere, IsHereName, IsMade, here_at}
use Rattle.world_model.specs.Matches.{PartsMatch}
use Rattle.world_model.proofs.PutLemmas.{at_all, at_here, at_own, at_twice, field_kept, nat_decides}
use Rattle.world_model.proofs.MailLemmas.{acts_after}
use Rattle.world_variables.proofs.RecordLemmas.{met_known}
use Rattle.world_variables.proofs.AlikeLemmas.{parts_weaker}
use Rattle.world_variables.proofs.RowLemmas.{to_put, unsent, meets_one, meet_row}
use Rattle.world_variables.proofs.MessageLemmas.{told_parts}
use Rattle.world_variables.specs.Laws.{PartsIn}
use Rattle.tree_node.proofs.EachLemmas.{each_append}
use Rattle.kernel_syntax.proofs.PreorderLemmas.{each_left, each_right}
use Rattle.bind_protocol.proofs.LearnLemmas.{binding_known, meet_known}
use Rattle.site_model.proofs.FrameLemmas.{told_all_counters, told_counters, meet_site}

-- ---- variables of a term

each_map : {X Y : Type 0} (f : X → Y) (P : Y → Type 0) (xs : List X) → Each P (map f xs) → Each (λ x. P (f x)) xs
each_map f P [] h = tt
each_map f P (x ∷ xs) h = (h.0, each_map f P xs h.1)

each_unmap : {X Y : Type 0} (f : X → Y) (P : Y → Type 0) (xs : List X) → Each (λ x. P (f x)) xs → Each P (map f xs)
each_unmap f P [] h = tt
each_unmap f P (x ∷ xs) h = (h.0, each_unmap f P xs h.1)

pub term_here : (b : Records) (t : Term) → Each (IsHere b) (vars_of t) → EachOfTerm (IsHereName b) t
term_here b (term.Var x) h = h.0
term_here b (term.Node (node.Int z)) h = tt
term_here b (term.Node (node.Atom a)) h = tt
term_here b (term.Node (node.Rec label fields)) h = each_map (λ (f : Feature × VarName). f.1) (IsHere b) fields h
term_here b (term.Node (node.Proc formals code q vars)) h = (tt, h)
term_here b (term.Node (node.Cell c)) h = tt
term_here b (term.Node (node.Port c)) h = tt

-- the variables of a term have what its names have
vars_have : (P : Name → Type 0) (t : Term) → EachOfTerm P t → Each (λ (x : VarName). P (name.Var x)) (vars_of t)
vars_have P (term.Var x) h = (h, tt)
vars_have P (term.Node (node.Int z)) h = tt
vars_have P (term.Node (node.Atom a)) h = tt
vars_have P (term.Node (node.Rec label fields)) h = each_unmap (λ (f : Feature × VarName). f.1) (λ (x : VarName). P (name.Var x)) fields h
vars_have P (term.Node (node.Proc formals code q vars)) h = h.1
vars_have P (term.Node (node.Cell c)) h = tt
vars_have P (term.Node (node.Port c)) h = tt

equations_have : (P : Name → Type 0) (es : List Equation) → Each (EachOfEquation P) es → Each (λ (x : VarName). P (name.Var x)) (vars_of_equations es)
equations_have P [] h = tt
equations_have P (e ∷ es) h = (h.0.0, each_append _ (vars_of e.1) (vars_of_equations es) (vars_have P e.1 h.0.1) (equations_have P es h.1))

equations_here : (b : Records) (es : List Equation) → Each (IsHere b) (vars_of_equations es) → Each (EachOfEquation (IsHereName b)) es
equations_here b [] h = tt
equations_here b (e ∷ es) h = ((h.0, term_here b e.1 (each_left (IsHere b) (vars_of e.1) (vars_of_equations es) h.1)), equations_here b es (each_right (IsHere b) (vars_of e.1) (vars_of_equations es) h.1))

-- the variables in a message that was made of made names were made
pub vars_made : (P : Name → Type 0) (m : Msg) → Fit.EachOfMsg P m → Each (λ (x : VarName). P (name.Var x)) (message_vars m)
vars_made P (msg.Spawn n code vars bundle) h = each_append _ vars _ h.1 (equations_have P bundle h.2)
vars_made P (msg.Register x k) h = (h, tt)
vars_made P (msg.BindReq x n t bundle) h = (h.0, each_append _ (vars_of t) _ (vars_have P t h.2) (equations_have P bundle h.3))
vars_made P (msg.Binding x t bundle) h = (h.0, each_append _ (vars_of t) _ (vars_have P t h.1) (equations_have P bundle h.2))
vars_made P (msg.Get c k) h = tt
vars_made P (msg.Forward c k) h = tt
vars_made P (msg.Put c v bundle) h = (h.1, equations_have P bundle h.2)
vars_made P (msg.PortSend q n k) h = tt
vars_made P (msg.PortEnd n old new bundle) h = (h.1, (h.2, equations_have P bundle h.3))
vars_made P (msg.CellMake c v bundle) h = (h.1, equations_have P bundle h.2)
vars_made P (msg.CellAsk c n k v bundle) h = (h.2, equations_have P bundle h.3)
vars_made P (msg.CellOld n v bundle) h = (h.1, equations_have P bundle h.2)

bundle_made : (P : Name → Type 0) (m : Msg) → Fit.EachOfMsg P m → Each (EachOfEquation P) (message_bundle m)
bundle_made P (msg.Spawn n code vars bundle) h = h.2
bundle_made P (msg.Register x k) h = tt
bundle_made P (msg.BindReq x n t bundle) h = h.3
bundle_made P (msg.Binding x t bundle) h = h.2
bundle_made P (msg.Get c k) h = tt
bundle_made P (msg.Forward c k) h = tt
bundle_made P (msg.Put c v bundle) h = h.2
bundle_made P (msg.PortSend q n k) h = tt
bundle_made P (msg.PortEnd n old new bundle) h = h.3
bundle_made P (msg.CellMake c v bundle) h = h.2
bundle_made P (msg.CellAsk c n k v bundle) h = h.3
bundle_made P (msg.CellOld n v bundle) h = h.2

-- ---- what is known stays known

pub told_known : (s : Site) (x : VarName) (t : Term) (y : VarName) → IsKnown s.records y → IsKnown (with_known_equation s x t).records y
told_known s x t y h = go (is_own s.records x) (knowledge s.records x)
  where
    go : (b : Bool) (o : Option (Option Term)) → IsKnown (with_known_equation_as b o s x t).records y
    go true o = h
    go false (Some (Some r)) = h
    go false (Some None) = binding_known s.records x t y h
    go false None = binding_known s.records x t y h

pub told_all_known : (es : List Equation) (s : Site) (y : VarName) → IsKnown s.records y → IsKnown (with_known_equations s es).records y
told_all_known [] s y h = h
told_all_known (e ∷ es) s y h = told_all_known es (with_known_equation s e.0 e.1) y (told_known s e.0 e.1 y h)

pub meets_known : (xs : List VarName) (b : Records) (y : VarName) → IsKnown b y → IsKnown (after_meets b xs) y
meets_known [] b y h = h
meets_known (x ∷ xs) b y h = meets_known xs (after_meet b x) y (meet_known b x y h)

-- all that are met are known afterwards, or the site's own
all_met : (xs : List VarName) (b : Records) → Each (λ (x : VarName). IsKnown (after_meets b xs) x ⊎ (x.site ≡ b.site)) xs
all_met [] b = tt
all_met (x ∷ xs) b = (go (met_known b x), Each-weaker _ _ (λ y h. up y h) xs (all_met xs (after_meet b x)))
  where
    go : IsKnown (after_meet b x) x ⊎ (x.site ≡ b.site) → IsKnown (after_meets (after_meet b x) xs) x ⊎ (x.site ≡ b.site)
    go (inl h) = inl (meets_known xs (after_meet b x) x h)
    go (inr e) = inr e

    up : (y : VarName) → IsKnown (after_meets (after_meet b x) xs) y ⊎ (y.site ≡ (after_meet b x).site) → IsKnown (after_meets (after_meet b x) xs) y ⊎ (y.site ≡ b.site)
    up y (inl h) = inl h
    up y (inr e) = inr (e ∙ meet_site b x)

-- ---- the rows

put_put : (w : World) (i : ℕ) (s t : Site) → ◌≡◌ {A = World} (record w { sites = put (put w.sites i s) i t }) (record w { sites = put w.sites i t })
put_put w i s t = ap (λ (f : Sites). record w { sites = f }) (at_twice w.sites i s t)

told_row : (p : List Stmt) (here : ℕ → Name → Type 0) (w : World) (c : State) (i : ℕ) (e : Equation) → PartsIn p here w c → Contains c.equations e → EachOfEquation (here i) e → IsMade (counters w.sites) (name.Var e.0) →
    PartsIn p here (record w { sites = put w.sites i (with_known_equation (w.sites i) e.0 e.1) }) c
told_row p here w c i e h has names real = go (is_own (w.sites i).records e.0) refl
  where
    go : (b : Bool) → is_own (w.sites i).records e.0 ≡ b → PartsIn p here (record w { sites = put w.sites i (with_known_equation (w.sites i) e.0 e.1) }) c
    go false q = (told_parts p here w c i e.0 e.1 h (λ (own : e.0.site ≡ i). let yes : is_own (w.sites i).records e.0 ≡ true = (nat_decides e.0.site (w.sites i).records.site).1 (own ∙ sym (h.kept i).site) in cc) has names real).0
    go true q =
        let is : with_known_equation (w.sites i) e.0 e.1 ≡ w.sites i = rw q refl in
        rw is (to_put p here w.sites i (w.sites i) w.mail c (rw (at_own (eqs w.sites) i, at_own (records w.sites) i, at_own (threads w.sites) i, at_own (counters w.sites) i) h))

told_all_row : (p : List Stmt) (here : ℕ → Name → Type 0) (c : State) (i : ℕ) (es : List Equation) (w : World) → PartsIn p here w c → Each (Contains c.equations) es → Each (EachOfEquation (here i)) es → Each (λ (e : Equation). IsMade (counters w.sites) (name.Var e.0)) es →
    PartsIn p here (record w { sites = put w.sites i (with_known_equations (w.sites i) es) }) c
told_all_row p here c i [] w h has names real = to_put p here w.sites i (w.sites i) w.mail c (rw (at_own (eqs w.sites) i, at_own (records w.sites) i, at_own (threads w.sites) i, at_own (counters w.sites) i) h)
told_all_row p here c i (e ∷ es) w h has names real =
    let s = with_known_equation (w.sites i) e.0 e.1 in
    let v = record w { sites = put w.sites i s } in
    let one = told_row p here w c i e h has.0 names.0 real.0 in
    let same : counters v.sites ≡ counters w.sites = field_kept (λ (t : Site). t.counters) w.sites i s (told_counters (w.sites i) e.0 e.1) in
    let rest = told_all_row p here c i es v one has.1 names.1 (subst (λ (m : ℕ → Counters). Each (λ (e : Equation). IsMade m (name.Var e.0)) es) (sym same) real.1) in
    let at = subst (λ (t : Site). PartsIn p here (record w { sites = put (put w.sites i s) i (with_known_equations t es) }) c) (at_here w.sites i s) rest in
    subst (λ (u : World). PartsIn p here u c) (put_put w i s (with_known_equations s es)) at

meets_row : (p : List Stmt) (here : ℕ → Name → Type 0) (c : State) (i : ℕ) (xs : List VarName) (w : World) → PartsIn p here w c → Each (λ (x : VarName). IsMade (counters w.sites) (name.Var x)) xs → PartsIn p here (after_transition w i (meeting xs (w.sites i))) c
meets_row p here c i [] w h real =
    unsent p here w.sites i (w.sites i) w.mail w.sent c (rw (at_own (eqs w.sites) i, at_own (records w.sites) i, at_own (threads w.sites) i, at_own (counters w.sites) i) h)
meets_row p here c i (x ∷ xs) w h real =
    let d = meets_one p here x (w.sites i) in
    let v = after_transition w i d in
    let one = meet_row p here w c i x real.0 h in
    let same : counters v.sites ≡ counters w.sites = field_kept (λ (t : Site). t.counters) w.sites i d.site refl in
    let rest = meets_row p here c i xs v one (subst (λ (m : ℕ → Counters). Each (λ (x : VarName). IsMade m (name.Var x)) xs) (sym same) real.1) in
    let at = subst (λ (t : Site). PartsIn p here (after_transition v i (meeting xs t)) c) (at_here w.sites i d.site) rest in
    subst (λ (u : World). PartsIn p here u c) (sym (acts_after w i d (meeting xs d.site))) at

-- what is here after the message is opened
abbrev pub opened_here : World → ℕ → Msg → ℕ → Name → Type 0
opened_here w i m = here_at (records (after_transition w i (opening m (w.sites i))).sites)

opened_records : (w : World) (i : ℕ) (m : Msg) → records (after_transition w i (opening m (w.sites i))).sites i ≡ after_meets (with_known_equations (w.sites i) (message_bundle m)).records (message_vars m)
opened_records w i m = ap (λ (t : Site). t.records) (at_here w.sites i (opening m (w.sites i)).site)

told_all_site : (es : List Equation) (s : Site) → (with_known_equations s es).records.site ≡ s.records.site
told_all_site [] s = refl
told_all_site (e ∷ es) s = told_all_site es (with_known_equation s e.0 e.1) ∙ one (is_own s.records e.0) (knowledge s.records e.0)
  where
    one : (b : Bool) (o : Option (Option Term)) → (with_known_equation_as b o s e.0 e.1).records.site ≡ s.records.site
    one true o = refl
    one false (Some (Some r)) = refl
    one false (Some None) = refl
    one false None = refl

pub record Opened (p : List Stmt) (w : World) (c : State) (i : ℕ) (m : Msg) : Type 0 where
  pub parts : PartsIn p (opened_here w i m) (after_transition w i (opening m (w.sites i))) c
  pub vars : Each (λ (x : VarName). opened_here w i m i (name.Var x)) (message_vars m)

pub opens_row : (p : List Stmt) (w : World) (c : State) (k i : ℕ) (m : Msg) → PartsIn p (here_at (records w.sites)) w c → IsOnItsWay w.mail k i m → Each (Contains c.equations) (message_bundle m) → Opened p w c i m
opens_row p w c k i m h at has = record { parts = parts; vars = vars }
  where
    s : Site
    s = w.sites i

    s2 : Site
    s2 = with_known_equations s (message_bundle m)

    here : ℕ → Name → Type 0
    here = opened_here w i m

    real : Each (λ (x : VarName). IsMade (counters w.sites) (name.Var x)) (message_vars m)
    real = vars_made (IsMade (counters w.sites)) m (h.said k i m at)

    heads : (es : List Equation) → Each (EachOfEquation (IsMade (counters w.sites))) es → Each (λ (e : Equation). IsMade (counters w.sites) (name.Var e.0)) es
    heads es q = Each-weaker _ _ (λ e r. r.0) es q

    up : (j : ℕ) (x : Name) → here_at (records w.sites) j x → here j x
    up = at_all w.sites i (opening m s).site (λ j (t : Site). (x : Name) → here_at (records w.sites) j x → IsHereName t.records x ⊎ (j ≡ 0)) (λ x q. either x q) (λ j other x q. q)
      where
        own : (x : Name) → IsHereName s.records x → IsHereName (after_meets s2.records (message_vars m)) x
        own (name.Var x) (inl zero) = inl zero
        own (name.Var x) (inr q) = inr (meets_known (message_vars m) s2.records x (told_all_known (message_bundle m) s x q))
        own (name.Cell x) q = tt
        own (name.Proc x) q = tt
        own (name.Port x) q = tt
        own (name.Thread x) q = tt

        either : (x : Name) → IsHereName s.records x ⊎ (i ≡ 0) → IsHereName (after_meets s2.records (message_vars m)) x ⊎ (i ≡ 0)
        either x (inl q) = inl (own x q)
        either x (inr q) = inr q

    -- each name of the message is here at the end
    known : Each (IsHere (after_meets s2.records (message_vars m))) (message_vars m)
    known = each_two (message_vars m) (all_met (message_vars m) s2.records) real
      where
        one : (x : VarName) → IsKnown (after_meets s2.records (message_vars m)) x ⊎ (x.site ≡ s2.records.site) → IsMade (counters w.sites) (name.Var x) → IsHere (after_meets s2.records (message_vars m)) x
        one x (inl q) r = inr q
        one x (inr q) (inl zero) = inl zero
        one x (inr q) (inr counted) =
            let own : x.site ≡ i = q ∙ told_all_site (message_bundle m) s ∙ (h.kept i).site in
            let before : IsKnown s.records x = (h.makers.own i x own).0 (subst (λ (j : ℕ). Fit.IsBelowCounter (counters w.sites j) (name.Var x)) own counted) in
            inr (meets_known (message_vars m) s2.records x (told_all_known (message_bundle m) s x before))

        each_two : (xs : List VarName) → Each (λ (x : VarName). IsKnown (after_meets s2.records (message_vars m)) x ⊎ (x.site ≡ s2.records.site)) xs → Each (λ (x : VarName). IsMade (counters w.sites) (name.Var x)) xs → Each (IsHere (after_meets s2.records (message_vars m))) xs
        each_two [] a b = tt
        each_two (x ∷ xs) a b = (one x a.0 b.0, each_two xs a.1 b.1)

    vars : Each (λ (x : VarName). here i (name.Var x)) (message_vars m)
    vars = Each-weaker (IsHere (records (after_transition w i (opening m (w.sites i))).sites i)) (λ (x : VarName). here i (name.Var x)) (λ x q. inl q) (message_vars m) (subst (λ (b : Records). Each (IsHere b) (message_vars m)) (sym (opened_records w i m)) known)

    bundle_here : Each (EachOfEquation (here i)) (message_bundle m)
    bundle_here = Each-weaker _ _ (λ e q. EachOfEquation-weaker (IsHereName (records (after_transition w i (opening m (w.sites i))).sites i)) (here i) (λ x r. inl r) e q) (message_bundle m) (subst (λ (b : Records). Each (EachOfEquation (IsHereName b)) (message_bundle m)) (sym (opened_records w i m))
        (equations_here (after_meets s2.records (message_vars m)) (message_bundle m) (each_right (IsHere (after_meets s2.records (message_vars m))) (body_vars m) (vars_of_equations (message_bundle m)) known)))

    v : World
    v = record w { sites = put w.sites i s2 }

    told_parts2 : PartsIn p here v c
    told_parts2 = told_all_row p here c i (message_bundle m) w (parts_weaker p (here_at (records w.sites)) here (eqs w.sites) (records w.sites) (threads w.sites) (counters w.sites) w.mail c up h) has bundle_here
        (heads (message_bundle m) (bundle_made (IsMade (counters w.sites)) m (h.said k i m at)))

    same : counters v.sites ≡ counters w.sites
    same = field_kept (λ (t : Site). t.counters) w.sites i s2 (told_all_counters (message_bundle m) s)

    parts : PartsIn p here (after_transition w i (opening m s)) c
    parts =
        let met = meets_row p here c i (message_vars m) v told_parts2 (subst (λ (n : ℕ → Counters). Each (λ (x : VarName). IsMade n (name.Var x)) (message_vars m)) (sym same) real) in
        let at2 = subst (λ (t : Site). PartsIn p here (after_transition v i (meeting (message_vars m) t)) c) (at_here w.sites i s2) met in
        subst (λ (f : Sites). PartsMatch p here (eqs f) (records f) (threads f) (counters f) (w.mail ++ mail_from w.sent (meets_send s2.records (message_vars m))) c) (at_twice w.sites i s2 (meeting (message_vars m) s2).site) at2
