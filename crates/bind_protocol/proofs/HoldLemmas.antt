-- What holds of lawful worlds, and of the worlds after any list of calls.
use Rattle.std.proofs.Common.{arith, rules, ◌≡◌, ◌≢◌, ◌∙◌, ℕ, zero, suc, ◌+◌, ◌≤◌, List, [], ◌∷◌, ◌++◌, length, refl, sym, ap, subst, ◌⊎◌, inl, inr, Bool, true, false}
use Rattle.std.specs.Prelude.{Option, Some, None, Contains, slice_get, ◌==◌}
use Rattle.std.specs.List.{count_by}
use Rattle.std.proofs.lemmas.List.{length-append}
use Rattle.tree_node.specs.declared.names.VarName.{VarName}
use Rattle.tree_node.specs.declared.node.Term.{Term}
use Rattle.tree_node.specs.Each.{Each}
use Rattle.tree_node.specs.Store.{Equation}
use Rattle.tree_node.proofs.OrderLemmas.{Each-member}
use Rattle.site_message.specs.declared.message.Sent.{Sent}
use Rattle.site_message.specs.declared.message.Msg.{Msg}
use Rattle.site_message.specs.declared.message.Msg.TheVariants as msg
use Rattle.bind_protocol.specs.Records.{Records}
use Rattle.bind_protocol.specs.Rows.{register, binding}
use Rattle.bind_protocol.specs.World.{World, HasInvariant, EachIsTold, SentOnce, IsElsewhere, IsDownward, empty_records, new_records, new_world, records_at, knowledge_at, known_at, registered_sites, registered_at, is_register, is_binding}
use Rattle.bind_protocol.specs.Lawful.{IsTrueMessage, IsLawful, met_count, known_count, register_count, binding_count, site_count}
use Rattle.bind_protocol.specs.Calls.{Call, Make, Meet, Want, Deliver, IsAllowed, IsAfter, CallsKeep, after_call}
use Rattle.bind_protocol.proofs.ListLemmas.{count_append, counted_there}
use Rattle.bind_protocol.proofs.GrowLemmas.{place_is}
use Rattle.bind_protocol.proofs.RowLemmas.{Kept}
use Rattle.bind_protocol.proofs.CallLemmas.{kept_same, kept_on, makes_kept, meets_kept, wants_kept}
use Rattle.bind_protocol.proofs.DeliverLemmas.{delivers_kept, binding_awaited, register_awaited}
use Rattle.std.proofs.lemmas.Bool.{eqb-true}
use Rattle.bind_protocol.proofs.RowCountLemmas.{at_most_one}
use Rattle.bind_protocol.proofs.CountLemmas.{not_own}
use Rattle.tree_node.proofs.EachLemmas.{each_in}
use Rattle.bind_protocol.proofs.NoticeLemmas.{unknown_is_not_bound}

pub once_holds : (w : World) → IsLawful w → SentOnce w
once_holds w l i x =
    let most : met_count (i == x.site) (known_at w i x) ≤ 1 = at_most_one (i == x.site) (known_at w i x) in
    let asked : register_count x i w.delivered + register_count x i w.travelling ≡ met_count (i == x.site) (known_at w i x) = l.counts.asked i x in
    let heard : binding_count x i w.delivered ≡ known_count (i == x.site) (known_at w i x) = l.counts.heard i x in
    let way : register_count x i w.travelling + site_count i (registered_at w x) + binding_count x i w.travelling + known_count (i == x.site) (known_at w i x) ≡ met_count (i == x.site) (known_at w i x) = l.counts.one_place i x in
    let all_registers : count_by (is_register x i) (w.delivered ++ w.travelling) ≡ register_count x i w.delivered + register_count x i w.travelling = count_append (is_register x i) w.delivered w.travelling in
    let all_bindings : count_by (is_binding x i) (w.delivered ++ w.travelling) ≡ binding_count x i w.delivered + binding_count x i w.travelling = count_append (is_binding x i) w.delivered w.travelling in
    (omega arith, omega arith)

-- a counted Register or Binding that is a letter
the_register : (w : World) (x : VarName) (i to : ℕ) (m : Msg) → is_register x i (record { to = to; msg = m }) ≡ true → IsTrueMessage (known_at w) (record { to = to; msg = m }) → ◌≡◌ {A = Sent} (record { to = to; msg = m }) (register x i)
the_register w x i to (msg.Register y k) e fits =
    let p = place_is k y i x e in
    let site : to ≡ x.site = fits.0 ∙ ap (λ (z : VarName). z.site) (sym p.1) in
    rw (site, p.1, p.0) refl
the_register w x i to (msg.BindReq a b c d) e fits = cc
the_register w x i to (msg.Binding a b c) e fits = cc
the_register w x i to (msg.Spawn a b c d) e fits = cc
the_register w x i to (msg.Get a b) e fits = cc
the_register w x i to (msg.Forward a b) e fits = cc
the_register w x i to (msg.Put a b c) e fits = cc
the_register w x i to (msg.PortSend a b c) e fits = cc
the_register w x i to (msg.PortEnd a b c d) e fits = cc
the_register w x i to (msg.CellMake a b c) e fits = cc
the_register w x i to (msg.CellAsk a b c d g) e fits = cc
the_register w x i to (msg.CellOld a b c) e fits = cc

abbrev IsBindingTo : VarName → ℕ → Sent → Type 0
IsBindingTo x i s = (t : Term) × (s ≡ binding x t i)

the_binding : (w : World) (x : VarName) (i to : ℕ) (m : Msg) → is_binding x i (record { to = to; msg = m }) ≡ true → IsTrueMessage (known_at w) (record { to = to; msg = m }) → IsBindingTo x i (record { to = to; msg = m })
the_binding w x i to (msg.Binding y t bundle) e fits = let p = place_is to y i x e in (t, rw (p.0, p.1, fits.0) refl)
the_binding w x i to (msg.Register a b) e fits = cc
the_binding w x i to (msg.BindReq a b c d) e fits = cc
the_binding w x i to (msg.Spawn a b c d) e fits = cc
the_binding w x i to (msg.Get a b) e fits = cc
the_binding w x i to (msg.Forward a b) e fits = cc
the_binding w x i to (msg.Put a b c) e fits = cc
the_binding w x i to (msg.PortSend a b c) e fits = cc
the_binding w x i to (msg.PortEnd a b c d) e fits = cc
the_binding w x i to (msg.CellMake a b c) e fits = cc
the_binding w x i to (msg.CellAsk a b c d g) e fits = cc
the_binding w x i to (msg.CellOld a b c) e fits = cc

three : (a b c : ℕ) → 1 ≤ a + b + c → (1 ≤ a) ⊎ ((1 ≤ b) ⊎ (1 ≤ c))
three (suc a) b c h = inl (omega arith)
three zero (suc b) c h = inr (inl (omega arith))
three zero zero (suc c) h = inr (inr (omega arith))
three zero zero zero h = absurd (omega arith)

pub told_holds : (w : World) → IsLawful w → EachIsTold w
told_holds w l i x unbound other = go (three _ _ _ way)
  where
    numbers : register_count x i w.travelling + site_count i (registered_at w x) + binding_count x i w.travelling + known_count (i == x.site) (known_at w i x) ≡ met_count (i == x.site) (known_at w i x)
    numbers = l.counts.one_place i x

    way : 1 ≤ register_count x i w.travelling + site_count i (registered_at w x) + binding_count x i w.travelling
    way =
        let one : register_count x i w.travelling + site_count i (registered_at w x) + binding_count x i w.travelling + 0 ≡ 1 = rw (not_own i x other, unbound) at numbers in omega arith

    go : (1 ≤ register_count x i w.travelling) ⊎ ((1 ≤ site_count i (registered_at w x)) ⊎ (1 ≤ binding_count x i w.travelling)) →
        Contains (registered_at w x) i ⊎ (Contains w.travelling (register x i) ⊎ ((t : Term) × Contains w.travelling (binding x t i)))
    go (inl h) =
        let f = counted_there (is_register x i) w.travelling h in
        let fits : IsTrueMessage (known_at w) f.0 = Each-member (IsTrueMessage (known_at w)) w.travelling f.0 l.letters f.1 in
        inr (inl (subst (λ (s : Sent). Contains w.travelling s) (the_register w x i f.0.to f.0.msg f.2 fits) f.1))
    go (inr (inl h)) =
        let f = counted_there (λ k. i == k) (registered_at w x) h in
        inl (subst (λ (k : ℕ). Contains (registered_at w x) k) (sym (eqb-true i f.0 f.2)) f.1)
    go (inr (inr h)) =
        let f = counted_there (is_binding x i) w.travelling h in
        let fits : IsTrueMessage (known_at w) f.0 = Each-member (IsTrueMessage (known_at w)) w.travelling f.0 l.letters f.1 in
        let is = the_binding w x i f.0.to f.0.msg f.2 fits in
        inr (inr (is.0, subst (λ (s : Sent). Contains w.travelling s) is.1 f.1))

elsewhere : (w : World) (to : ℕ) (m : Msg) → IsLawful w → IsTrueMessage (known_at w) (record { to = to; msg = m }) → Contains w.travelling (record { to = to; msg = m }) → IsElsewhere (record { to = to; msg = m })
elsewhere w to (msg.Register y k) l fits at = λ e.
    let own : Contains w.travelling (register y k) = subst (λ (j : ℕ). Contains w.travelling (record { to = j; msg = msg.Register y k })) fits.0 at in
    (register_awaited w k y l own).0 (sym e ∙ fits.0)
elsewhere w to (msg.Binding y t bundle) l fits at =
    let plain : Contains w.travelling (binding y t to) = subst (λ (es : List Equation). Contains w.travelling (record { to = to; msg = msg.Binding y t es })) fits.0 at in
    (binding_awaited w to y t l plain).0
elsewhere w to (msg.BindReq a b c d) l fits at = tt
elsewhere w to (msg.Spawn a b c d) l fits at = tt
elsewhere w to (msg.Get a b) l fits at = tt
elsewhere w to (msg.Forward a b) l fits at = tt
elsewhere w to (msg.Put a b c) l fits at = tt
elsewhere w to (msg.PortSend a b c) l fits at = tt
elsewhere w to (msg.PortEnd a b c d) l fits at = tt
elsewhere w to (msg.CellMake a b c) l fits at = tt
elsewhere w to (msg.CellAsk a b c d g) l fits at = tt
elsewhere w to (msg.CellOld a b c) l fits at = tt

down : (w : World) (to : ℕ) (m : Msg) → IsTrueMessage (known_at w) (record { to = to; msg = m }) → IsDownward (record { to = to; msg = m })
down w to (msg.BindReq y thread t bundle) fits = fits.2.1
down w to (msg.Register a b) fits = tt
down w to (msg.Binding a b c) fits = tt
down w to (msg.Spawn a b c d) fits = tt
down w to (msg.Get a b) fits = tt
down w to (msg.Forward a b) fits = tt
down w to (msg.Put a b c) fits = tt
down w to (msg.PortSend a b c) fits = tt
down w to (msg.PortEnd a b c d) fits = tt
down w to (msg.CellMake a b c) fits = tt
down w to (msg.CellAsk a b c d g) fits = tt
down w to (msg.CellOld a b c) fits = tt

pub lawful_holds : (w : World) → IsLawful w → HasInvariant w
lawful_holds w l = record {
  owned = l.truth.owned;
  told = told_holds w l;
  once = once_holds w l;
  elsewhere = each_in IsElsewhere w.travelling (λ s at. elsewhere w s.to s.msg l (Each-member (IsTrueMessage (known_at w)) w.travelling s l.letters at) at);
  down = each_in IsDownward w.travelling (λ s at. down w s.to s.msg (Each-member (IsTrueMessage (known_at w)) w.travelling s l.letters at));
  links = λ x t h. (l.truth.good x t h).1;
}

-- new worlds
new_at : (n k : ℕ) (b : Records) → slice_get (new_records n) k ≡ Some b → b ≡ empty_records (suc k)
new_at zero k b e = cc
new_at (suc n) k b e = last (new_records n) k e (new_length n) (λ f. new_at n k b f)
  where
    new_length : (n : ℕ) → length (new_records n) ≡ n
    new_length zero = refl
    new_length (suc n) = let ih : length (new_records n) ≡ n = new_length n in omega (arith, length-append (new_records n) (empty_records (suc n) ∷ []))

    last : (bs : List Records) (k : ℕ) → slice_get (bs ++ empty_records (suc n) ∷ []) k ≡ Some b → length bs ≡ n → (slice_get bs k ≡ Some b → b ≡ empty_records (suc k)) → b ≡ empty_records (suc k)
    last bs k e size old =
        let z : k + 0 ≡ k = omega arith in
        subst (λ (j : ℕ). b ≡ empty_records (suc j)) z (go bs 0 k e (omega arith) (λ f. subst (λ (j : ℕ). b ≡ empty_records (suc j)) (sym z) (old f)))
      where
        go : (cs : List Records) (d k : ℕ) → slice_get (cs ++ empty_records (suc n) ∷ []) k ≡ Some b → length cs + d ≡ n → (slice_get cs k ≡ Some b → b ≡ empty_records (suc (k + d))) → b ≡ empty_records (suc (k + d))
        go [] d zero e size old = let same : empty_records (suc n) ≡ b = cc in let is : n ≡ 0 + d = omega arith in rw (← same) (ap (λ j. empty_records (suc j)) is)
        go [] d (suc k) e size old = cc
        go (c ∷ cs) d zero e size old = old e
        go (c ∷ cs) d (suc k) e size old = let more : suc k + d ≡ k + suc d = omega arith in rw more (go cs (suc d) k e (omega arith) (λ f. rw (← more) (old f)))

new_knows : (n i : ℕ) (x : VarName) → knowledge_at (records_at (new_records n) i) x ≡ None
new_knows n zero x = refl
new_knows n (suc k) x = go (slice_get (new_records n) k) refl
  where
    go : (o : Option Records) → slice_get (new_records n) k ≡ o → knowledge_at (slice_get (new_records n) k) x ≡ None
    go None q = rw q refl
    go (Some b) q = rw (q, new_at n k b q) (empty_knows (suc k))
      where
        empty_knows : (i : ℕ) → knowledge_at (Some (empty_records i)) x ≡ None
        empty_knows i = search rules

new_listed : (n : ℕ) (x : VarName) → registered_at (new_world n) x ≡ []
new_listed n x = by_site x.site
  where
    by_site : (i : ℕ) → registered_sites (records_at (new_records n) i) x ≡ []
    by_site zero = refl
    by_site (suc k) = go (slice_get (new_records n) k) refl
      where
        go : (o : Option Records) → slice_get (new_records n) k ≡ o → registered_sites (slice_get (new_records n) k) x ≡ []
        go None q = rw q refl
        go (Some b) q = rw (q, new_at n k b q) refl

no_met : (b : Bool) → met_count b None ≡ 0
no_met true = refl
no_met false = refl

pub new_lawful : (n : ℕ) → IsLawful (new_world n)
new_lawful n = record {
  numbered = λ i b e. number i b e;
  truth = record {
    made = λ i x o e. let contrary : None ≡ Some o = sym (new_knows n i x) ∙ e in cc;
    owned = λ i x t e. let contrary : None ≡ Some (Some t) = sym (new_knows n i x) ∙ e in cc;
    good = λ x t e. let contrary : None ≡ Some (Some t) = sym (new_knows n x.site x) ∙ e in absurd (differ t contrary);
  };
  letters = tt;
  counts = record {
    one_place = λ i x. rw (new_knows n i x, new_listed n x, no_met (i == x.site), unknown_is_not_bound (i == x.site)) refl;
    heard = λ i x. rw (new_knows n i x, unknown_is_not_bound (i == x.site)) refl;
    asked = λ i x. rw (new_knows n i x, no_met (i == x.site)) refl;
  };
}
  where
    differ : (t : Term) → ◌≡◌ {A = Option (Option Term)} None (Some (Some t)) → ⊥
    differ t e = cc

    number : (i : ℕ) (b : Records) → records_at (new_records n) i ≡ Some b → b.site ≡ i
    number zero b e = cc
    number (suc k) b e = ap (λ (r : Records). r.site) (new_at n k b e)

pub call_kept : (w : World) (c : Call) → IsLawful w → IsAllowed w c → Kept w (after_call w c)
call_kept w (Make i x) l can = makes_kept w i x l can
call_kept w (Meet i x) l can = meets_kept w i x l can.site can.made
call_kept w (Want i x t thread) l can = wants_kept w i x t thread l can
call_kept w (Deliver place) l can = delivers_kept w place l

all_kept : (cs : List Call) (w v : World) → IsLawful w → IsAfter w cs v → Kept w v
all_kept [] w v l h = rw h (kept_same w l)
all_kept (c ∷ cs) w v l h =
    let k : Kept w (after_call w c) = call_kept w c l h.0 in
    kept_on w (after_call w c) v k (all_kept cs (after_call w c) v k.lawful h.1)

pub calls_keep : CallsKeep
calls_keep n before after w v h g =
    let first : Kept (new_world n) w = all_kept before (new_world n) w (new_lawful n) h in
    let rest : Kept w v = all_kept after w v first.lawful g in
    (lawful_holds v rest.lawful, λ x t e. rest.grows.bound x.site x t e)
