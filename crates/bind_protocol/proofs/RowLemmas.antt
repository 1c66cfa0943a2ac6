-- Each row of the protocol keeps a world lawful.
use Rattle.std.proofs.Common.{arith, rules, ◌≡◌, ◌≢◌, ◌∙◌, ℕ, ◌+◌, List, [], ◌∷◌, ◌++◌, refl, sym, ap, subst, ◌⊎◌, inl, inr, true, false, cond, map}
use Rattle.std.specs.Prelude.{Some, None, is_some, remove, slice_get, ◌&&◌, ◌==◌}
use Rattle.tree_node.specs.declared.names.VarName.{VarName}
use Rattle.tree_node.specs.declared.names.ThreadName.{ThreadName}
use Rattle.tree_node.specs.declared.node.Term.{Term}
use Rattle.tree_node.specs.Each.{Each}
use Rattle.tree_node.proofs.ClassLemmas.{same_name_refl}
use Rattle.site_message.specs.declared.message.Sent.{Sent}
use Rattle.proxy_table.specs.Proxies.{Proxy, entry_of}
use Rattle.variable_owner.specs.declared.owners.Owner.TheVariants.{Open, Bound}
use Rattle.variable_owner.specs.Owners.{owner_of, sites_of, with_owner}
use Rattle.bind_protocol.specs.Records.{Records, is_own, knowledge, owner_knows}
use Rattle.bind_protocol.specs.Rows.{register, request, binding}
use Rattle.bind_protocol.specs.World.{World, IsSiteOf, records_of, known_at, registered_at, with_records, with_sent, after_arrival, is_register, is_binding}
use Rattle.bind_protocol.specs.Lawful.{Knowing, IsKnownToOwner, IsGood, IsTrueMessage, IsLawful, register_count, binding_count, site_count}
use Rattle.bind_protocol.proofs.ListLemmas.{one, count_append, count_push, count_out, each_out}
use Rattle.bind_protocol.proofs.LookLemmas.{proxy_here, proxy_other, last_here, last_other}
use Rattle.bind_protocol.proofs.GrowLemmas.{Changes, Grows, this_place, change_grows, letters_stay, truth_stays}
use Rattle.bind_protocol.proofs.CountLemmas.{own_met, own_told, now_met, met_untold, now_told, told_met, bindings_sent, no_register, same_counts, meet_counts, register_counts, bind_counts, binding_counts}
use Rattle.bind_protocol.proofs.PlaceLemmas.{site_records, known_records, listed_records, numbered_puts, puts_changes, listed_stays, owns_changes, owns_listed, owns_others}
use Rattle.bind_protocol.proofs.RowCountLemmas.{name_cases}
use Rattle.tree_node.proofs.EachLemmas.{each_append}
use Rattle.tree_node.proofs.NameLemmas.{differ}
use Rattle.bind_protocol.proofs.NoticeLemmas.{no_sites}

-- a lawful world in which sites know no less
pub record Kept (w v : World) : Type 0 where
  pub lawful : IsLawful v
  pub grows : Grows (known_at w) (known_at v)

pub grows_same : (know : Knowing) → Grows know know
grows_same know = record { some = λ i x h. h; bound = λ i x t h. h }

pub grows_on : (know more most : Knowing) → Grows know more → Grows more most → Grows know most
grows_on know more most g h = record { some = λ i x k. h.some i x (g.some i x k); bound = λ i x t k. h.bound i x t (g.bound i x t k) }

pub site_of : (w : World) (i : ℕ) → IsLawful w → IsSiteOf w i → (records_of w i).site ≡ i
site_of w i l h = l.numbered i (records_of w i) (site_records w i h)

pub own_here : (w : World) (y : VarName) → IsLawful w → IsSiteOf w y.site → is_own (records_of w y.site) y ≡ true
own_here w y l h = let e : (records_of w y.site).site ≡ y.site = site_of w y.site l h in rw e (search rules)

pub not_own_here : (w : World) (i : ℕ) (y : VarName) → IsLawful w → IsSiteOf w i → i ≢ y.site → is_own (records_of w i) y ≡ false
not_own_here w i y l h n =
    let e : (records_of w i).site ≡ i = site_of w i l h in
    let m : y.site ≢ i = λ f. n (sym f) in
    rw e (search rules)

pub own_knows : (b : Records) (x : VarName) → is_own b x ≡ true → knowledge b x ≡ owner_knows (owner_of b.owners x)
own_knows b x e = rw e refl

pub proxy_knows : (b : Records) (x : VarName) → is_own b x ≡ false → knowledge b x ≡ entry_of b.proxies x
proxy_knows b x e = rw e refl

-- an own variable is made
pub make_row : (w : World) (y : VarName) → IsLawful w → IsSiteOf w y.site → known_at w y.site y ≡ None →
    Kept w (with_records w y.site (record (records_of w y.site) { owners = with_owner (records_of w y.site).owners y (Open []) }))
make_row w y l h new = record {
  lawful = record {
    numbered = numbered_puts w y.site _ h (site_of w y.site l h) l.numbered;
    truth = truth_stays _ _ y.site y None ch g (inl refl) (λ t e. let contrary : None ≡ Some t = e in cc) l.truth;
    letters = letters_stay _ _ g w.travelling l.letters;
    counts = same_counts _ _ _ _ _ _ _ _ l.counts (own_met _ _ _ _ _ ch refl) (own_told _ _ _ _ _ ch refl) list (λ i x. refl) (λ i x. refl) (λ i x. refl) (λ i x. refl);
  };
  grows = g;
}
  where
    b : Records
    b = records_of w y.site

    own : is_own (records_of w y.site) y ≡ true
    own = own_here w y l h

    ch : Changes (known_at w) (known_at (with_records w y.site (record (records_of w y.site) { owners = with_owner (records_of w y.site).owners y (Open []) }))) y.site y None
    ch = owns_changes w y (Open []) h None own refl

    g : Grows (known_at w) (known_at (with_records w y.site (record (records_of w y.site) { owners = with_owner (records_of w y.site).owners y (Open []) })))
    g = change_grows _ _ y.site y None ch (λ t e. let contrary : None ≡ Some (Some t) = sym new ∙ e in cc)

    before : registered_at w y ≡ []
    before = listed_records w y.site y h refl ∙ no_sites _ (sym (own_knows (records_of w y.site) y own) ∙ sym (known_records w y.site y h) ∙ new)

    list : (x : VarName) → registered_at (with_records w y.site (record (records_of w y.site) { owners = with_owner (records_of w y.site).owners y (Open []) })) x ≡ registered_at w x
    list x = go (name_cases x y)
      where
        go : (x ≡ y) ⊎ (x ≢ y) → registered_at (with_records w y.site (record (records_of w y.site) { owners = with_owner (records_of w y.site).owners y (Open []) })) x ≡ registered_at w x
        go (inl e) = rw e (owns_listed w y (Open []) h ∙ sym before)
        go (inr n) = owns_others w y (Open []) h x n

-- a name owned elsewhere is met for the first time
pub meet_row : (w : World) (i : ℕ) (y : VarName) → IsLawful w → IsSiteOf w i → i ≢ y.site → known_at w i y ≡ None → IsKnownToOwner (known_at w) y →
    Kept w (with_sent (with_records w i (record (records_of w i) { proxies = (records_of w i).proxies ++ (y, None) ∷ [] })) (register y i ∷ []))
meet_row w i y l h other new made = record {
  lawful = record {
    numbered = numbered_puts w i _ h (site_of w i l h) l.numbered;
    truth = truth_stays _ _ i y None ch g (inr made) (λ t e. let contrary : None ≡ Some t = e in cc) l.truth;
    letters = each_append _ w.travelling (register y i ∷ []) (letters_stay _ _ g w.travelling l.letters) ((refl, g.some y.site y made), tt);
    counts = meet_counts _ _ _ _ _ _ _ _ l.counts (λ j x. one (this_place i y j x)) (now_met _ _ _ _ _ ch other new) (met_untold _ _ _ _ _ ch new refl)
        (listed_stays w i _ h refl) (λ j x. count_push (is_register x j) w.travelling (register y i))
        (λ j x. let e : binding_count x j (w.travelling ++ register y i ∷ []) ≡ binding_count x j w.travelling + one false = count_push (is_binding x j) w.travelling (register y i) in omega arith) refl;
  };
  grows = g;
}
  where
    not_own : is_own (records_of w i) y ≡ false
    not_own = not_own_here w i y l h other

    none : entry_of (records_of w i).proxies y ≡ None
    none = sym (proxy_knows (records_of w i) y not_own) ∙ sym (known_records w i y h) ∙ new

    ch : Changes (known_at w) (known_at (with_records w i (record (records_of w i) { proxies = (records_of w i).proxies ++ (y, None) ∷ [] }))) i y None
    ch = puts_changes w i _ h y None (proxy_here (records_of w i) y _ None not_own (last_here (records_of w i).proxies y None none)) (λ x n. proxy_other (records_of w i) x _ (last_other (records_of w i).proxies y x None n))

    g : Grows (known_at w) (known_at (with_records w i (record (records_of w i) { proxies = (records_of w i).proxies ++ (y, None) ∷ [] })))
    g = change_grows _ _ i y None ch (λ t e. let contrary : None ≡ Some (Some t) = sym new ∙ e in cc)

each_told : (know : Knowing) (y : VarName) (t : Term) (ks : List ℕ) → know y.site y ≡ Some (Some t) → Each (IsTrueMessage know) (map (λ k. binding y t k) ks)
each_told know y t [] h = tt
each_told know y t (k ∷ ks) h = ((refl, h), each_told know y t ks h)

-- an owner binds an unbound variable, and tells who registered
pub bind_row : (w : World) (y : VarName) (t : Term) → IsLawful w → IsSiteOf w y.site → known_at w y.site y ≡ Some None → IsGood (known_at w) y t →
    Kept w (with_sent (with_records w y.site (record (records_of w y.site) { owners = with_owner (records_of w y.site).owners y (Bound t) })) (map (λ k. binding y t k) (registered_at w y)))
bind_row w y t l h unbound good = record {
  lawful = record {
    numbered = numbered_puts w y.site _ h (site_of w y.site l h) l.numbered;
    truth = truth_stays _ _ y.site y (Some t) ch g (inl refl) (λ r e. inl (refl, subst (IsGood (known_at w) y) (let same : t ≡ r = cc in same) good)) l.truth;
    letters = each_append _ w.travelling _ (letters_stay _ _ g w.travelling l.letters) (each_told (known_at (with_records w y.site (record (records_of w y.site) { owners = with_owner (records_of w y.site).owners y (Bound t) }))) y t (registered_at w y) ch.here);
    counts = bind_counts _ _ _ _ _ _ _ _ l.counts (λ j x. binding_count x j (map (λ k. binding y t k) (registered_at w y))) (own_met _ _ _ _ _ ch refl) (own_told _ _ _ _ _ ch refl) list
        (λ j x. let none : register_count x j (map (λ k. binding y t k) (registered_at w y)) ≡ 0 = no_register y t (registered_at w y) j x in
        let e : register_count x j (w.travelling ++ map (λ k. binding y t k) (registered_at w y)) ≡ register_count x j w.travelling + register_count x j (map (λ k. binding y t k) (registered_at w y)) = count_append (is_register x j) w.travelling _ in omega arith)
        (λ j x. count_append (is_binding x j) w.travelling _) refl;
  };
  grows = g;
}
  where
    own : is_own (records_of w y.site) y ≡ true
    own = own_here w y l h

    ch : Changes (known_at w) (known_at (with_records w y.site (record (records_of w y.site) { owners = with_owner (records_of w y.site).owners y (Bound t) }))) y.site y (Some t)
    ch = owns_changes w y (Bound t) h (Some t) own refl

    g : Grows (known_at w) (known_at (with_records w y.site (record (records_of w y.site) { owners = with_owner (records_of w y.site).owners y (Bound t) })))
    g = change_grows _ _ y.site y (Some t) ch (λ r e. let contrary : Some None ≡ Some (Some r) = sym unbound ∙ e in cc)

    list : (j : ℕ) (x : VarName) → site_count j (registered_at (with_records w y.site (record (records_of w y.site) { owners = with_owner (records_of w y.site).owners y (Bound t) })) x) + binding_count x j (map (λ k. binding y t k) (registered_at w y)) ≡ site_count j (registered_at w x)
    list j x = go (name_cases x y)
      where
        go : (x ≡ y) ⊎ (x ≢ y) → site_count j (registered_at (with_records w y.site (record (records_of w y.site) { owners = with_owner (records_of w y.site).owners y (Bound t) })) x) + binding_count x j (map (λ k. binding y t k) (registered_at w y)) ≡ site_count j (registered_at w x)
        go (inl e) =
            let none : site_count j (registered_at (with_records w y.site (record (records_of w y.site) { owners = with_owner (records_of w y.site).owners y (Bound t) })) y) ≡ 0 = ap (site_count j) (owns_listed w y (Bound t) h) in
            let all : binding_count y j (map (λ k. binding y t k) (registered_at w y)) ≡ site_count j (registered_at w y) =
            bindings_sent y t (registered_at w y) j y ∙ ap (λ b. cond b (site_count j (registered_at w y)) 0) (same_name_refl y) in
            subst (λ (z : VarName). site_count j (registered_at (with_records w y.site (record (records_of w y.site) { owners = with_owner (records_of w y.site).owners y (Bound t) })) z) + binding_count z j (map (λ k. binding y t k) (registered_at w y)) ≡ site_count j (registered_at w z)) (sym e)
            (omega arith)
        go (inr n) =
            let none : binding_count x j (map (λ k. binding y t k) (registered_at w y)) ≡ 0 =
            bindings_sent y t (registered_at w y) j x ∙ ap (λ b. cond b (site_count j (registered_at w y)) 0) (differ x y n) in
            let same : site_count j (registered_at (with_records w y.site (record (records_of w y.site) { owners = with_owner (records_of w y.site).owners y (Bound t) })) x) ≡ site_count j (registered_at w x) = ap (site_count j) (owns_others w y (Bound t) h x n) in
            omega arith

-- a request is sent
pub request_row : (w : World) (y : VarName) (t : Term) (thread : ThreadName) → IsLawful w → IsKnownToOwner (known_at w) y → IsGood (known_at w) y t → Kept w (with_sent w (request y t thread ∷ []))
request_row w y t thread l made good = record {
  lawful = record {
    numbered = l.numbered;
    truth = l.truth;
    letters = each_append _ w.travelling (request y t thread ∷ []) l.letters ((refl, made, good), tt);
    counts = same_counts _ _ _ _ _ _ _ _ l.counts (λ i x. refl) (λ i x. refl) (λ x. refl)
        (λ j x. let e : register_count x j (w.travelling ++ request y t thread ∷ []) ≡ register_count x j w.travelling + one false = count_push (is_register x j) w.travelling (request y t thread) in omega arith)
        (λ j x. let e : binding_count x j (w.travelling ++ request y t thread ∷ []) ≡ binding_count x j w.travelling + one false = count_push (is_binding x j) w.travelling (request y t thread) in omega arith)
        (λ i x. refl) (λ i x. refl);
  };
  grows = grows_same _;
}

-- a message that is not counted comes
pub uncounted_row : (w : World) (place : ℕ) (m : Sent) → IsLawful w → slice_get w.travelling place ≡ Some m → ((i : ℕ) (x : VarName) → is_register x i m ≡ false) → ((i : ℕ) (x : VarName) → is_binding x i m ≡ false) → Kept w (after_arrival w place m)
uncounted_row w place m l at no_reg no_bind = record {
  lawful = record {
    numbered = l.numbered;
    truth = l.truth;
    letters = each_out _ w.travelling place l.letters;
    counts = same_counts _ _ _ _ _ _ _ _ l.counts (λ i x. refl) (λ i x. refl) (λ x. refl)
        (λ j x. let o : register_count x j (remove w.travelling place) + one (is_register x j m) ≡ register_count x j w.travelling = count_out (is_register x j) w.travelling place m at in let z : one (is_register x j m) ≡ 0 = ap one (no_reg j x) in omega arith)
        (λ j x. let o : binding_count x j (remove w.travelling place) + one (is_binding x j m) ≡ binding_count x j w.travelling = count_out (is_binding x j) w.travelling place m at in let z : one (is_binding x j m) ≡ 0 = ap one (no_bind j x) in omega arith)
        (λ j x. let p : register_count x j (w.delivered ++ m ∷ []) ≡ register_count x j w.delivered + one (is_register x j m) = count_push (is_register x j) w.delivered m in let z : one (is_register x j m) ≡ 0 = ap one (no_reg j x) in omega arith)
        (λ j x. let p : binding_count x j (w.delivered ++ m ∷ []) ≡ binding_count x j w.delivered + one (is_binding x j m) = count_push (is_binding x j) w.delivered m in let z : one (is_binding x j m) ≡ 0 = ap one (no_bind j x) in omega arith);
  };
  grows = grows_same _;
}

-- a Register for an unbound variable comes, and its site is registered
pub keep_row : (w : World) (y : VarName) (k : ℕ) (ks : List ℕ) (place : ℕ) → IsLawful w → IsSiteOf w y.site → owner_of (records_of w y.site).owners y ≡ Some (Open ks) → slice_get w.travelling place ≡ Some (register y k) →
    Kept w (after_arrival (with_records w y.site (record (records_of w y.site) { owners = with_owner (records_of w y.site).owners y (Open (ks ++ k ∷ [])) })) place (register y k))
keep_row w y k ks place l h open_now at = record {
  lawful = record {
    numbered = numbered_puts w y.site _ h (site_of w y.site l h) l.numbered;
    truth = truth_stays _ _ y.site y None ch g (inl refl) (λ t e. let contrary : None ≡ Some t = e in cc) l.truth;
    letters = each_out _ w.travelling place (letters_stay _ _ g w.travelling l.letters);
    counts = register_counts _ _ _ _ _ _ _ _ l.counts (λ j x. one (is_register x j (register y k))) (λ j x. 0) (own_met _ _ _ _ _ ch refl) (own_told _ _ _ _ _ ch refl) list
        (λ j x. count_out (is_register x j) w.travelling place (register y k) at)
        (λ j x. let o : binding_count x j (remove w.travelling place) + one false ≡ binding_count x j w.travelling = count_out (is_binding x j) w.travelling place (register y k) at in omega arith)
        (λ j x. count_push (is_register x j) w.delivered (register y k))
        (λ j x. let p : binding_count x j (w.delivered ++ register y k ∷ []) ≡ binding_count x j w.delivered + one false = count_push (is_binding x j) w.delivered (register y k) in omega arith);
  };
  grows = g;
}
  where
    own : is_own (records_of w y.site) y ≡ true
    own = own_here w y l h

    unbound : known_at w y.site y ≡ Some None
    unbound = known_records w y.site y h ∙ own_knows (records_of w y.site) y own ∙ ap owner_knows open_now

    ch : Changes (known_at w) (known_at (with_records w y.site (record (records_of w y.site) { owners = with_owner (records_of w y.site).owners y (Open (ks ++ k ∷ [])) }))) y.site y None
    ch = owns_changes w y (Open (ks ++ k ∷ [])) h None own refl

    g : Grows (known_at w) (known_at (with_records w y.site (record (records_of w y.site) { owners = with_owner (records_of w y.site).owners y (Open (ks ++ k ∷ [])) })))
    g = change_grows _ _ y.site y None ch (λ t e. let contrary : Some None ≡ Some (Some t) = sym unbound ∙ e in cc)

    before : registered_at w y ≡ ks
    before = listed_records w y.site y h refl ∙ ap sites_of open_now

    list : (j : ℕ) (x : VarName) → site_count j (registered_at (with_records w y.site (record (records_of w y.site) { owners = with_owner (records_of w y.site).owners y (Open (ks ++ k ∷ [])) })) x) + 0 ≡ site_count j (registered_at w x) + one (is_register x j (register y k))
    list j x = go (name_cases x y)
      where
        go : (x ≡ y) ⊎ (x ≢ y) → site_count j (registered_at (with_records w y.site (record (records_of w y.site) { owners = with_owner (records_of w y.site).owners y (Open (ks ++ k ∷ [])) })) x) + 0 ≡ site_count j (registered_at w x) + one (is_register x j (register y k))
        go (inl e) =
            let now : site_count j (registered_at (with_records w y.site (record (records_of w y.site) { owners = with_owner (records_of w y.site).owners y (Open (ks ++ k ∷ [])) })) y) ≡ site_count j (ks ++ k ∷ []) = ap (site_count j) (owns_listed w y (Open (ks ++ k ∷ [])) h) in
            let more : site_count j (ks ++ k ∷ []) ≡ site_count j ks + one (j == k) = count_push (λ i. j == i) ks k in
            let was : site_count j (registered_at w y) ≡ site_count j ks = ap (site_count j) before in
            let this : one (is_register y j (register y k)) ≡ one (j == k) = ap (λ b. one (b && (j == k))) (same_name_refl y) in
            subst (λ (z : VarName). site_count j (registered_at (with_records w y.site (record (records_of w y.site) { owners = with_owner (records_of w y.site).owners y (Open (ks ++ k ∷ [])) })) z) + 0 ≡ site_count j (registered_at w z) + one (is_register z j (register y k))) (sym e)
            (omega arith)
        go (inr n) =
            let same : site_count j (registered_at (with_records w y.site (record (records_of w y.site) { owners = with_owner (records_of w y.site).owners y (Open (ks ++ k ∷ [])) })) x) ≡ site_count j (registered_at w x) = ap (site_count j) (owns_others w y (Open (ks ++ k ∷ [])) h x n) in
            let other : one (is_register x j (register y k)) ≡ 0 = ap (λ b. one (b && (j == k))) (differ x y n) in
            omega arith

-- a Register for a bound variable comes, and is answered
pub answer_row : (w : World) (y : VarName) (k : ℕ) (t : Term) (place : ℕ) → IsLawful w → known_at w y.site y ≡ Some (Some t) → slice_get w.travelling place ≡ Some (register y k) → slice_get (w.travelling ++ binding y t k ∷ []) place ≡ Some (register y k) →
    Kept w (after_arrival (with_sent w (binding y t k ∷ [])) place (register y k))
answer_row w y k t place l bound at after = record {
  lawful = record {
    numbered = l.numbered;
    truth = l.truth;
    letters = each_out _ (w.travelling ++ binding y t k ∷ []) place (each_append _ w.travelling (binding y t k ∷ []) l.letters ((refl, bound), tt));
    counts = register_counts _ _ _ _ _ _ _ _ l.counts (λ j x. one (is_register x j (register y k))) (λ j x. one (is_register x j (register y k))) (λ i x. refl) (λ i x. refl) (λ j x. refl)
        (λ j x.
        let o : register_count x j (remove (w.travelling ++ binding y t k ∷ []) place) + one (is_register x j (register y k)) ≡ register_count x j (w.travelling ++ binding y t k ∷ []) = count_out (is_register x j) (w.travelling ++ binding y t k ∷ []) place (register y k) after in
        let p : register_count x j (w.travelling ++ binding y t k ∷ []) ≡ register_count x j w.travelling + one false = count_push (is_register x j) w.travelling (binding y t k) in omega arith)
        (λ j x.
        let o : binding_count x j (remove (w.travelling ++ binding y t k ∷ []) place) + one false ≡ binding_count x j (w.travelling ++ binding y t k ∷ []) = count_out (is_binding x j) (w.travelling ++ binding y t k ∷ []) place (register y k) after in
        let p : binding_count x j (w.travelling ++ binding y t k ∷ []) ≡ binding_count x j w.travelling + one (is_register x j (register y k)) = count_push (is_binding x j) w.travelling (binding y t k) in omega arith)
        (λ j x. count_push (is_register x j) w.delivered (register y k))
        (λ j x. let p : binding_count x j (w.delivered ++ register y k ∷ []) ≡ binding_count x j w.delivered + one false = count_push (is_binding x j) w.delivered (register y k) in omega arith);
  };
  grows = grows_same _;
}

-- a Binding comes to a site that met the name and does not know it bound
pub binding_row : (w : World) (i : ℕ) (y : VarName) (t : Term) (place : ℕ) → IsLawful w → IsSiteOf w i → i ≢ y.site → known_at w i y ≡ Some None → known_at w y.site y ≡ Some (Some t) → slice_get w.travelling place ≡ Some (binding y t i) →
    (es : List Proxy) → entry_of es y ≡ Some (Some t) → ((x : VarName) → x ≢ y → entry_of es x ≡ entry_of (records_of w i).proxies x) →
    Kept w (after_arrival (with_records w i (record (records_of w i) { proxies = es })) place (binding y t i))
binding_row w i y t place l h other unbound bound at es here others = record {
  lawful = record {
    numbered = numbered_puts w i _ h (site_of w i l h) l.numbered;
    truth = truth_stays _ _ i y (Some t) ch g (inr (ap is_some bound)) (λ r e. inr (bound ∙ ap Some e)) l.truth;
    letters = each_out _ w.travelling place (letters_stay _ _ g w.travelling l.letters);
    counts = binding_counts _ _ _ _ _ _ _ _ l.counts (λ j x. one (this_place i y j x)) (told_met _ _ _ _ _ ch unbound) (now_told _ _ _ _ _ ch t other unbound refl)
        (listed_stays w i _ h refl)
        (λ j x. let o : register_count x j (remove w.travelling place) + one false ≡ register_count x j w.travelling = count_out (is_register x j) w.travelling place (binding y t i) at in omega arith)
        (λ j x. count_out (is_binding x j) w.travelling place (binding y t i) at)
        (λ j x. let p : register_count x j (w.delivered ++ binding y t i ∷ []) ≡ register_count x j w.delivered + one false = count_push (is_register x j) w.delivered (binding y t i) in omega arith)
        (λ j x. count_push (is_binding x j) w.delivered (binding y t i));
  };
  grows = g;
}
  where
    not_own : is_own (records_of w i) y ≡ false
    not_own = not_own_here w i y l h other

    ch : Changes (known_at w) (known_at (with_records w i (record (records_of w i) { proxies = es }))) i y (Some t)
    ch = puts_changes w i _ h y (Some t) (proxy_here (records_of w i) y es (Some t) not_own here) (λ x n. proxy_other (records_of w i) x es (others x n))

    g : Grows (known_at w) (known_at (with_records w i (record (records_of w i) { proxies = es })))
    g = change_grows _ _ i y (Some t) ch (λ r e. let contrary : Some None ≡ Some (Some r) = sym unbound ∙ e in cc)
