-- Names that are met, one after another.
use Rattle.std.proofs.Common.{rules, arith, ◌≡◌, ◌∙◌, sym, ap, refl, subst, ℕ, zero, suc, ◌+◌, ◌<◌, List, [], ◌∷◌, ◌++◌, length, take, get_or, ◌⊎◌, inl, inr, Bool, true, false, cond, append_assoc, add-one}
use Rattle.std.proofs.lemmas.List.{append-nil}
use Rattle.std.proofs.Math.Seq.{take-suc}
use Rattle.std.specs.Prelude.{Contains, ◌↔◌}
use Rattle.tree_node.specs.declared.names.VarName.{VarName}
use Rattle.tree_node.specs.declared.node.Feature.{Feature}
use Rattle.tree_node.specs.Each.{Each}
use Rattle.tree_node.specs.Store.{Store, Equation}
use Rattle.tree_store.specs.Contents.{with_name}
use Rattle.kernel_syntax.proofs.OrderLemmas.{Each-at}
use Rattle.kernel_syntax.proofs.PreorderLemmas.{each_left, each_right}
use Rattle.site_message.specs.declared.message.Msg.{Msg}
use Rattle.site_message.specs.declared.message.Sent.{Sent}
use Rattle.site_message.specs.Vars.{vars_of, field_vars}
use Rattle.proxy_table.specs.Proxies as proxies
use Rattle.bind_protocol.specs.Records.{Records, is_own, knowledge, IsKnown}
use Rattle.bind_protocol.specs.Rows.{after_meet, meet_sends, after_meets, meets_send}
use Rattle.bind_protocol.specs.Learn.{MeetCase}
use Rattle.bind_protocol.proofs.LearnLemmas.{rows_teach}
use Rattle.site_model.specs.Bundle.{vars_of_equations, body_vars, message_vars, message_bundle}
use Rattle.site_variables.specs.declared.variables.Variables.{Variables}
use Rattle.site_variables.specs.Variables.{IsRecorded, IsLinked, IsGrown, IsMadeIfOwn}
use Rattle.site_variables.specs.Meeting.{AreMet}
use Rattle.site_variables.proofs.LinkLemmas.{with_name_is, grown_name, same_recorded, named_recorded, own_made}
use Rattle.tree_node.proofs.EachLemmas.{each_append}
use Rattle.site_model.proofs.FrameLemmas.{meet_site}
use Rattle.bind_protocol.proofs.CodeLemmas.{each_var_of}
use Rattle.site_model.proofs.BundleLemmas.{equations_append}

-- ---- one name

known_name : (names : List VarName) (x : VarName) → Contains names x → (y : VarName) → Contains (with_name names x) y ↔ Contains names y
known_name names x there y = (to, λ k. grown_name names x y k)
  where
    to : Contains (with_name names x) y → Contains names y
    to k = elim ((with_name_is names x y).0 k) [ inl h ↦ h | inr q ↦ rw q there ]

meet_recorded : (es : Store) (known : List VarName) (b : Records) (x : VarName) → IsRecorded es known b → IsMadeIfOwn b x → IsRecorded es (with_name known x) (after_meet b x)
meet_recorded es known b x h made = go (rows_teach.meet b x)
  where
    known_here : (x.site ≡ b.site) ⊎ IsKnown b x → IsKnown b x
    known_here (inl q) =
        let own : is_own b x ≡ true = search rules in
        own_made b x own (made q)
    known_here (inr k) = k

    go : MeetCase b x → IsRecorded es (with_name known x) (after_meet b x)
    go (inl (same, silent, why)) = same_recorded es known (with_name known x) b (after_meet b x) h (λ y. ap (λ (r : Records). knowledge r y) same) (known_name known x ((h.names x).0 (known_here why)))
    go (inr (learns, unknown, other, sends, owners)) = named_recorded es known (with_name known x) b (after_meet b x) x h unknown learns (with_name_is known x)

meet_owners : (b : Records) (x : VarName) → (after_meet b x).owners ≡ b.owners
meet_owners b x = go (is_own b x)
  where
    go : (o : Bool) → (cond o b (record b { proxies = proxies.after_meet b.proxies x })).owners ≡ b.owners
    go true = refl
    go false = refl

pub met_one : (v w : Variables) (before after : List Sent) (x : VarName) → IsLinked v → IsMadeIfOwn v.binder x → w.binder ≡ after_meet v.binder x → w.store.known ≡ with_name v.store.known x → w.store.equations ≡ v.store.equations →
    after ≡ before ++ meet_sends v.binder x → AreMet (x ∷ []) v before w after
met_one v w before after x h made a b c d = record {
  records = a;
  sent = d ∙ ap (λ (ms : List Sent). before ++ ms) (sym (append-nil (meet_sends v.binder x)));
  linked = rw (a, b, c) (meet_recorded v.store.equations v.store.known v.binder x h made);
  known = (rw b ((with_name_is v.store.known x x).1 (inr refl)), tt);
  equations = c;
  grows = λ y k. rw b (grown_name v.store.known x y k);
  owners = ap (λ (r : Records). r.owners) a ∙ meet_owners v.binder x;
  site = ap (λ (r : Records). r.site) a ∙ meet_site v.binder x;
}

-- ---- more names

meets_append : (b : Records) (xs ys : List VarName) → after_meets b (xs ++ ys) ≡ after_meets (after_meets b xs) ys
meets_append b [] ys = refl
meets_append b (x ∷ xs) ys = meets_append (after_meet b x) xs ys

sends_append : (b : Records) (xs ys : List VarName) → meets_send b (xs ++ ys) ≡ meets_send b xs ++ meets_send (after_meets b xs) ys
sends_append b [] ys = refl
sends_append b (x ∷ xs) ys = ap (λ (ms : List Sent). meet_sends b x ++ ms) (sends_append (after_meet b x) xs ys) ∙ sym (append_assoc (meet_sends b x) (meets_send (after_meet b x) xs) (meets_send (after_meets (after_meet b x) xs) ys))

each_grown : (old new : List VarName) (xs : List VarName) → IsGrown old new → Each (Contains old) xs → Each (Contains new) xs
each_grown old new [] g h = tt
each_grown old new (x ∷ xs) g h = (g x h.0, each_grown old new xs g h.1)

pub met_none : (v : Variables) (before : List Sent) → IsLinked v → AreMet [] v before v before
met_none v before h = record {
  records = refl;
  sent = sym (append-nil before);
  linked = h;
  known = tt;
  equations = refl;
  grows = λ y k. k;
  owners = refl;
  site = refl;
}

pub met_more : (xs ys : List VarName) (v w u : Variables) (before between after : List Sent) → AreMet xs v before w between → AreMet ys w between u after → AreMet (xs ++ ys) v before u after
met_more xs ys v w u before between after h g = record {
  records = g.records ∙ (ap (λ (b : Records). after_meets b ys) h.records ∙ sym (meets_append v.binder xs ys));
  sent = g.sent ∙ (ap (λ (ms : List Sent). ms ++ meets_send w.binder ys) h.sent ∙ (append_assoc before (meets_send v.binder xs) (meets_send w.binder ys)
      ∙ ap (λ (ms : List Sent). before ++ ms) (ap (λ (b : Records). meets_send v.binder xs ++ meets_send b ys) h.records ∙ sym (sends_append v.binder xs ys))));
  linked = g.linked;
  known = each_append (Contains u.store.known) xs ys (each_grown w.store.known u.store.known xs g.grows h.known) g.known;
  equations = g.equations ∙ h.equations;
  grows = λ y k. g.grows y (h.grows y k);
  owners = g.owners ∙ h.owners;
  site = g.site ∙ h.site;
}

-- ---- own names are made

pub still_made : (b c : Records) (x : VarName) → c.owners ≡ b.owners → c.site ≡ b.site → IsMadeIfOwn b x → IsMadeIfOwn c x
still_made b c x e f h q = rw e (h (q ∙ f))

pub each_made : (b c : Records) (xs : List VarName) → c.owners ≡ b.owners → c.site ≡ b.site → Each (IsMadeIfOwn b) xs → Each (IsMadeIfOwn c) xs
each_made b c [] e f h = tt
each_made b c (x ∷ xs) e f h = (still_made b c x e f h.0, each_made b c xs e f h.1)

-- ---- lists gone through

pub next_var : (xs : List VarName) (k : ℕ) (d : VarName) (v w u : Variables) (o p q : List Sent) → k < length xs → AreMet (take k xs) v o w p → AreMet (get_or xs k d ∷ []) w p u q → AreMet (take (k + 1) xs) v o u q
next_var xs k d v w u o p q below h g =
    rw (add-one, take-suc xs k d below) (met_more (take k xs) (get_or xs k d ∷ []) v w u o p q h g)

pub var_made : (b c : Records) (xs : List VarName) (k : ℕ) (d : VarName) → c.owners ≡ b.owners → c.site ≡ b.site → Each (IsMadeIfOwn b) xs → k < length xs → IsMadeIfOwn c (get_or xs k d)
var_made b c xs k d e f h below = still_made b c (get_or xs k d) e f (Each-at (IsMadeIfOwn b) xs k d h below)

field_append : (xs ys : List (Feature × VarName)) → field_vars (xs ++ ys) ≡ field_vars xs ++ field_vars ys
field_append [] ys = refl
field_append (x ∷ xs) ys = ap (λ (l : List VarName). x.1 ∷ l) (field_append xs ys)

pub next_field : (xs : List (Feature × VarName)) (k : ℕ) (d : Feature × VarName) (x : VarName) (v w u : Variables) (o p q : List Sent) → k < length xs → d ≡ get_or xs k d → x ≡ d.1 → AreMet (field_vars (take k xs)) v o w p → AreMet (x ∷ []) w p u q →
    AreMet (field_vars (take (k + 1) xs)) v o u q
next_field xs k d x v w u o p q below at is h g =
    let same : x ≡ (get_or xs k d).1 = is ∙ ap (λ (f : Feature × VarName). f.1) at in
    rw (add-one, take-suc xs k d below, field_append (take k xs) (get_or xs k d ∷ []), ← same) (met_more (field_vars (take k xs)) (x ∷ []) v w u o p q h g)

pub field_made : (b c : Records) (xs : List (Feature × VarName)) (k : ℕ) (d : Feature × VarName) (x : VarName) → c.owners ≡ b.owners → c.site ≡ b.site → Each (IsMadeIfOwn b) (field_vars xs) → k < length xs → d ≡ get_or xs k d → x ≡ d.1 → IsMadeIfOwn c x
field_made b c xs k d x e f h below at is =
    let same : x ≡ (get_or xs k d).1 = is ∙ ap (λ (g : Feature × VarName). g.1) at in
    still_made b c x e f (subst (IsMadeIfOwn b) (sym same) (each_var_of (IsMadeIfOwn b) xs k d h below))

pub next_equation : (es : List Equation) (k : ℕ) (d : Equation) (v w u : Variables) (o p q : List Sent) → k < length es → d ≡ get_or es k d → AreMet (vars_of_equations (take k es)) v o w p → AreMet (d.0 ∷ vars_of d.1) w p u q →
    AreMet (vars_of_equations (take (k + 1) es)) v o u q
next_equation es k d v w u o p q below at h g =
    rw (add-one, take-suc es k d below, ← at, equations_append (take k es) (d ∷ []), append-nil (d.0 ∷ vars_of d.1)) (met_more (vars_of_equations (take k es)) (d.0 ∷ vars_of d.1) v w u o p q h g)

each_equation_at : (P : VarName → Type 0) (es : List Equation) (k : ℕ) (d : Equation) → Each P (vars_of_equations es) → k < length es → Each P ((get_or es k d).0 ∷ vars_of (get_or es k d).1)
each_equation_at P [] k d h below = absurd (omega arith)
each_equation_at P (e ∷ es) zero d h below = each_left P (e.0 ∷ vars_of e.1) (vars_of_equations es) h
each_equation_at P (e ∷ es) (suc k) d h below = each_equation_at P es k d (each_right P (e.0 ∷ vars_of e.1) (vars_of_equations es) h) (omega arith)

pub equation_made : (b c : Records) (es : List Equation) (k : ℕ) (d : Equation) → c.owners ≡ b.owners → c.site ≡ b.site → Each (IsMadeIfOwn b) (vars_of_equations es) → k < length es → d ≡ get_or es k d → Each (IsMadeIfOwn c) (d.0 ∷ vars_of d.1)
equation_made b c es k d e f h below at =
    each_made b c (d.0 ∷ vars_of d.1) e f (subst (λ (g : Equation). Each (IsMadeIfOwn b) (g.0 ∷ vars_of g.1)) (sym at) (each_equation_at (IsMadeIfOwn b) es k d h below))

-- ---- a message

pub bundle_met : (m : Msg) (es : List Equation) (v w u : Variables) (o p q : List Sent) → es ≡ message_bundle m → AreMet (body_vars m) v o w p → AreMet (vars_of_equations es) w p u q → AreMet (message_vars m) v o u q
bundle_met m es v w u o p q is h g =
    met_more (body_vars m) (vars_of_equations (message_bundle m)) v w u o p q h (subst (λ (fs : List Equation). AreMet (vars_of_equations fs) w p u q) is g)

pub bundle_made : (m : Msg) (es : List Equation) (b c : Records) → es ≡ message_bundle m → c.owners ≡ b.owners → c.site ≡ b.site → Each (IsMadeIfOwn b) (message_vars m) → Each (IsMadeIfOwn c) (vars_of_equations es)
bundle_made m es b c is e f h =
    each_made b c (vars_of_equations es) e f
    (subst (λ (fs : List Equation). Each (IsMadeIfOwn b) (vars_of_equations fs)) (sym is) (each_right (IsMadeIfOwn b) (body_vars m) (vars_of_equations (message_bundle m)) h))
