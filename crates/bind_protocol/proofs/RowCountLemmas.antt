-- What each row of the protocol does to the counts of Registers and Bindings.
use Rattle.std.proofs.Common.{rules, arith, ◌≡◌, ◌≢◌, ◌∙◌, sym, ap, refl, subst, ℕ, ◌+◌, ◌≤◌, List, [], ◌∷◌, ◌++◌, map, ◌⊎◌, inl, inr, Bool, true, false, cond, Some, None}
use Rattle.std.specs.Prelude.{Option, ◌==◌, ◌&&◌, is_some}
use Rattle.std.specs.Bool.{Decides}
use Rattle.tree_node.specs.declared.names.VarName.{VarName}
use Rattle.tree_node.specs.declared.names.ThreadName.{ThreadName}
use Rattle.tree_node.specs.declared.node.Term.{Term}
use Rattle.tree_node.specs.Each.{Each}
use Rattle.tree_node.specs.Store.{equal_var}
use Rattle.tree_node.proofs.ClassLemmas.{same_name_decides, same_name_refl}
use Rattle.site_message.specs.declared.message.Msg.TheVariants as msg
use Rattle.site_message.specs.declared.message.Sent.{Sent}
use Rattle.proxy_table.specs.Proxies.{Proxy, entry_of}
use Rattle.proxy_table.specs.Proxies as proxies
use Rattle.variable_owner.specs.declared.owners.Owner.{Owner}
use Rattle.variable_owner.specs.declared.owners.Owner.TheVariants.{Open, Bound}
use Rattle.variable_owner.specs.Owners.{Owned, owner_of, sites_of, with_owner, with_registered, after_bind}
use Rattle.variable_owner.specs.Owners as owners
use Rattle.bind_protocol.specs.Records.{Records, is_own, knowledge, owner_knows}
use Rattle.bind_protocol.specs.Rows.{sent_message, register, request, binding, after_make, after_meet, meet_sends, after_register, register_answer, register_sends, after_ask, ask_sends, after_binding, after_want, want_sends}
use Rattle.bind_protocol.specs.World.{is_register, is_binding}
use Rattle.bind_protocol.specs.Lawful.{met_count, known_count, register_count, binding_count, site_count}
use Rattle.bind_protocol.specs.Count.{KeepsCounts, KeepsHeard, IsNeither}
use Rattle.bind_protocol.proofs.ListLemmas.{one, count_append, count_push, count_cons}
use Rattle.bind_protocol.proofs.LookLemmas.{in_here, in_other, last_here, last_other, proxy_other}
use Rattle.bind_protocol.proofs.CountLemmas.{bindings_sent, no_register}
use Rattle.std.proofs.lemmas.Bool.Decides.{Decides-eqb}
use Rattle.tree_node.proofs.EnvLemmas.{equal_no}
use Rattle.tree_node.proofs.NameLemmas.{differ}

pub at_most_one : (b : Bool) (o : Option (Option Term)) → met_count b o ≤ 1
at_most_one true o = omega arith
at_most_one false None = omega arith
at_most_one false (Some o) = omega arith

-- ---- messages that are not counted

pub no_registers : (out : List Sent) → Each IsNeither out → (i : ℕ) (x : VarName) → register_count x i out ≡ 0
no_registers [] h i x = refl
no_registers (m ∷ out) h i x =
    let first : one (is_register x i m) ≡ 0 = ap one (h.0 i x).0 in
    let rest : register_count x i out ≡ 0 = no_registers out h.1 i x in
    let whole : register_count x i (m ∷ out) ≡ one (is_register x i m) + register_count x i out = count_cons (is_register x i) m out in
    omega arith

pub no_bindings : (out : List Sent) → Each IsNeither out → (i : ℕ) (x : VarName) → binding_count x i out ≡ 0
no_bindings [] h i x = refl
no_bindings (m ∷ out) h i x =
    let first : one (is_binding x i m) ≡ 0 = ap one (h.0 i x).1 in
    let rest : binding_count x i out ≡ 0 = no_bindings out h.1 i x in
    let whole : binding_count x i (m ∷ out) ≡ one (is_binding x i m) + binding_count x i out = count_cons (is_binding x i) m out in
    omega arith

pub others_count : (b : Records) (out : List Sent) → Each IsNeither out → KeepsCounts b b [] out
others_count b out h = record {
  site = refl;
  mine = λ x. omega (arith, no_registers out h b.site x);
  others = λ i x other. no_registers out h i x;
  listed = λ i x own. omega (arith, no_bindings out h i x);
  elsewhere = λ i x other. no_bindings out h i x;
}

pub same_hear : (b : Records) → KeepsHeard b b []
same_hear b x = omega arith

-- a message in hand that is not used
pub unused_counts : (b c : Records) (h g o : List Sent) → KeepsCounts b c h o → KeepsCounts b c (h ++ g) o
unused_counts b c h g o k = record {
  site = k.site;
  mine = k.mine;
  others = k.others;
  listed = λ i x own. let f : register_count x i (h ++ g) ≡ register_count x i h + register_count x i g = count_append (is_register x i) h g in omega (arith, k.listed i x own);
  elsewhere = k.elsewhere;
}

-- ---- own variables

flip : (a b : ℕ) → (a == b) ≡ (b == a)
flip a b = search rules

pub name_cases : (x y : VarName) → (x ≡ y) ⊎ (x ≢ y)
name_cases x y = go (equal_var x y) refl
  where
    go : (b : Bool) → equal_var x y ≡ b → (x ≡ y) ⊎ (x ≢ y)
    go true q = inl ((same_name_decides x y).0 q)
    go false q = inr (λ e. let yes : equal_var x y ≡ true = (same_name_decides x y).1 e in cc)

-- a change of owners changes nothing that is known of others' variables
pub by_owners : {X : Type 0} (f : Bool → Option (Option Term) → X) → ((o p : Option (Option Term)) → f true o ≡ f true p) → (b : Records) (es : List Owned) (x : VarName) →
    f (b.site == x.site) (knowledge (record b { owners = es }) x) ≡ f (b.site == x.site) (knowledge b x)
by_owners {X} f same b es x = go (b.site == x.site) (flip x.site b.site)
  where
    go : (c : Bool) → (x.site == b.site) ≡ c → f c (cond (x.site == b.site) (owner_knows (owner_of es x)) (entry_of b.proxies x)) ≡ f c (cond (x.site == b.site) (owner_knows (owner_of b.owners x)) (entry_of b.proxies x))
    go true q = same _ _
    go false q = rw q refl

-- a change of owners whose lists and messages are so
owners_counts : (b : Records) (es : List Owned) (h out : List Sent) → ((i : ℕ) (x : VarName) → register_count x i out ≡ 0) →
    ((i : ℕ) (x : VarName) → x.site ≡ b.site → site_count i (sites_of (owner_of es x)) + binding_count x i out ≤ site_count i (sites_of (owner_of b.owners x)) + register_count x i h) → ((i : ℕ) (x : VarName) → x.site ≢ b.site → binding_count x i out ≡ 0) →
    KeepsCounts b (record b { owners = es }) h out
owners_counts b es h out r l o = record {
  site = refl;
  mine = λ x. let e : met_count (b.site == x.site) (knowledge (record b { owners = es }) x) ≡ met_count (b.site == x.site) (knowledge b x) = by_owners met_count (λ o p. refl) b es x in omega (arith, r b.site x);
  others = λ i x other. r i x;
  listed = l;
  elsewhere = o;
}

pub owners_hears : (b : Records) (es : List Owned) → KeepsHeard b (record b { owners = es }) []
owners_hears b es x = let e : known_count (b.site == x.site) (knowledge (record b { owners = es }) x) ≡ known_count (b.site == x.site) (knowledge b x) = by_owners known_count (λ o p. refl) b es x in omega arith

-- a variable is made
pub make_counts : (b : Records) (x : VarName) → KeepsCounts b (after_make b x) [] []
make_counts b x = owners_counts b (with_owner b.owners x (Open [])) [] [] (λ i y. refl) (λ i y own. go i y (name_cases y x)) (λ i y other. refl)
  where
    go : (i : ℕ) (y : VarName) → (y ≡ x) ⊎ (y ≢ x) → site_count i (sites_of (owner_of (with_owner b.owners x (Open [])) y)) + 0 ≤ site_count i (sites_of (owner_of b.owners y)) + 0
    go i y (inl e) =
        let now : site_count i (sites_of (owner_of (with_owner b.owners x (Open [])) y)) ≡ 0 = ap (λ (z : VarName). site_count i (sites_of (owner_of (with_owner b.owners x (Open [])) z))) e ∙ ap (λ (o : Option Owner). site_count i (sites_of o)) (in_here b.owners x (Open [])) in
        omega arith
    go i y (inr n) =
        let same : site_count i (sites_of (owner_of (with_owner b.owners x (Open [])) y)) ≡ site_count i (sites_of (owner_of b.owners y)) = ap (λ (o : Option Owner). site_count i (sites_of o)) (in_other b.owners x y (Open []) n) in
        omega arith

-- a variable is bound, and those who are registered are told
pub ask_counts : (b : Records) (x : VarName) (t : Term) → x.site ≡ b.site → KeepsCounts b (after_ask b x t) [] (ask_sends b x t)
ask_counts b x t own = go (owner_of b.owners x) refl
  where
    out : List ℕ → List Sent
    out ks = map (λ (k : ℕ). binding x t k) ks

    none : (ks : List ℕ) (i : ℕ) (y : VarName) → y ≢ x → binding_count y i (out ks) ≡ 0
    none ks i y n = bindings_sent x t ks i y ∙ ap (λ (b : Bool). cond b (site_count i ks) 0) (differ y x n)

    all : (ks : List ℕ) (i : ℕ) → binding_count x i (out ks) ≡ site_count i ks
    all ks i = bindings_sent x t ks i x ∙ ap (λ (b : Bool). cond b (site_count i ks) 0) (same_name_refl x)

    apart : (y : VarName) → y.site ≢ b.site → y ≢ x
    apart y other e = other (ap (λ (z : VarName). z.site) e ∙ own)

    listed : (o : Owner) → owner_of b.owners x ≡ Some o → sites_of (Some (after_bind o t)) ≡ [] → (i : ℕ) (y : VarName) → (y ≡ x) ⊎ (y ≢ x) →
        site_count i (sites_of (owner_of (with_owner b.owners x (after_bind o t)) y)) + binding_count y i (out (sites_of (Some o))) ≤ site_count i (sites_of (owner_of b.owners y)) + 0
    listed o q empty i y (inl e) =
        let now : site_count i (sites_of (owner_of (with_owner b.owners x (after_bind o t)) y)) ≡ 0 = ap (λ (z : VarName). site_count i (sites_of (owner_of (with_owner b.owners x (after_bind o t)) z))) e ∙ ap (λ (p : Option Owner). site_count i (sites_of p)) (in_here b.owners x (after_bind o t)) ∙ ap (site_count i) empty in
        let sent_message : binding_count y i (out (sites_of (Some o))) ≡ site_count i (sites_of (Some o)) = ap (λ (z : VarName). binding_count z i (out (sites_of (Some o)))) e ∙ all (sites_of (Some o)) i in
        let was : site_count i (sites_of (owner_of b.owners y)) ≡ site_count i (sites_of (Some o)) = ap (λ (z : VarName). site_count i (sites_of (owner_of b.owners z))) e ∙ ap (λ (p : Option Owner). site_count i (sites_of p)) q in
        omega arith
    listed o q empty i y (inr n) =
        let same : site_count i (sites_of (owner_of (with_owner b.owners x (after_bind o t)) y)) ≡ site_count i (sites_of (owner_of b.owners y)) = ap (λ (p : Option Owner). site_count i (sites_of p)) (in_other b.owners x y (after_bind o t) n) in
        let sent_message : binding_count y i (out (sites_of (Some o))) ≡ 0 = none (sites_of (Some o)) i y n in
        omega arith

    emptied : (o : Owner) → sites_of (Some (after_bind o t)) ≡ []
    emptied (Open ks) = refl
    emptied (Bound r) = refl

    go : (o : Option Owner) → owner_of b.owners x ≡ o → KeepsCounts b (after_ask b x t) [] (ask_sends b x t)
    go None q = rw q (owners_counts b b.owners [] [] (λ i y. refl) (λ i y own. omega arith) (λ i y other. refl))
    go (Some o) q = rw q (owners_counts b (with_owner b.owners x (after_bind o t)) [] (out (sites_of (Some o))) (λ i y. no_register x t (sites_of (Some o)) i y) (λ i y mine. listed o q (emptied o) i y (name_cases y x)) (λ i y other. none (sites_of (Some o)) i y (apart y other)))

pub ask_hears : (b : Records) (x : VarName) (t : Term) → KeepsHeard b (after_ask b x t) []
ask_hears b x t = owners_hears b (owners.after_ask b.owners x t)

-- a Register comes
pub register_counts : (b : Records) (x : VarName) (k : ℕ) (m : Sent) → x.site ≡ b.site → ((i : ℕ) → is_register x i m ≡ (i == k)) → KeepsCounts b (after_register b x k) (m ∷ []) (register_sends b x k)
register_counts b x k m own reg = go (owner_of b.owners x) refl
  where
    hand : (i : ℕ) → register_count x i (m ∷ []) ≡ one (i == k)
    hand i = let e : register_count x i (m ∷ []) ≡ one (is_register x i m) + 0 = count_cons (is_register x i) m [] in let f : one (is_register x i m) ≡ one (i == k) = ap one (reg i) in omega arith

    now : (o : Owner) (i : ℕ) → site_count i (sites_of (owner_of (with_owner b.owners x o) x)) ≡ site_count i (sites_of (Some o))
    now o i = ap (λ (p : Option Owner). site_count i (sites_of p)) (in_here b.owners x o)

    there : (o : Owner) (i : ℕ) (y : VarName) → y ≢ x → site_count i (sites_of (owner_of (with_owner b.owners x o) y)) ≡ site_count i (sites_of (owner_of b.owners y))
    there o i y n = ap (λ (p : Option Owner). site_count i (sites_of p)) (in_other b.owners x y o n)

    was : (o : Owner) → owner_of b.owners x ≡ Some o → (i : ℕ) → site_count i (sites_of (owner_of b.owners x)) ≡ site_count i (sites_of (Some o))
    was o q i = ap (λ (p : Option Owner). site_count i (sites_of p)) q

    one_binding : (t : Term) (i : ℕ) (y : VarName) → binding_count y i (binding x t k ∷ []) ≡ one (equal_var y x && (i == k))
    one_binding t i y = let e : binding_count y i (binding x t k ∷ []) ≡ one (equal_var y x && (i == k)) + 0 = count_cons (is_binding y i) (binding x t k) [] in omega arith

    at_x : (o : Owner) (out : List Sent) → ((i : ℕ) → site_count i (sites_of (owner_of (with_owner b.owners x o) x)) + binding_count x i out ≤ site_count i (sites_of (owner_of b.owners x)) + register_count x i (m ∷ [])) →
        ((i : ℕ) (y : VarName) → y ≢ x → binding_count y i out ≡ 0) → (i : ℕ) (y : VarName) → (y ≡ x) ⊎ (y ≢ x) →
        site_count i (sites_of (owner_of (with_owner b.owners x o) y)) + binding_count y i out ≤ site_count i (sites_of (owner_of b.owners y)) + register_count y i (m ∷ [])
    at_x o out here none i y (inl e) = subst (λ (z : VarName). site_count i (sites_of (owner_of (with_owner b.owners x o) z)) + binding_count z i out ≤ site_count i (sites_of (owner_of b.owners z)) + register_count z i (m ∷ [])) (sym e) (here i)
    at_x o out here none i y (inr n) = omega (arith, there o i y n, none i y n)

    no_other : (t : Term) (i : ℕ) (y : VarName) → y ≢ x → binding_count y i (binding x t k ∷ []) ≡ 0
    no_other t i y n = one_binding t i y ∙ ap (λ (c : Bool). one (c && (i == k))) (differ y x n)

    apart : (y : VarName) → y.site ≢ b.site → y ≢ x
    apart y other e = other (ap (λ (z : VarName). z.site) e ∙ own)

    known : (o : Owner) → owner_of b.owners x ≡ Some o → KeepsCounts b (record b { owners = with_owner b.owners x (with_registered o k) }) (m ∷ []) (register_answer (Some o) x k)
    known (Open ks) q = owners_counts b (with_owner b.owners x (Open (ks ++ k ∷ []))) (m ∷ []) [] (λ i y. refl)
        (λ i y mine. at_x (Open (ks ++ k ∷ [])) [] (λ i. let more : site_count i (ks ++ k ∷ []) ≡ site_count i ks + one (i == k) = count_push (λ j. i == j) ks k in omega (arith, now (Open (ks ++ k ∷ [])) i, was (Open ks) q i, hand i)) (λ i y n. refl) i y (name_cases y x))
        (λ i y other. refl)
    known (Bound t) q = owners_counts b (with_owner b.owners x (Bound t)) (m ∷ []) (binding x t k ∷ []) (λ i y. refl)
        (λ i y mine. at_x (Bound t) (binding x t k ∷ []) (λ i. let f : one (equal_var x x && (i == k)) ≡ one (i == k) = ap (λ (c : Bool). one (c && (i == k))) (same_name_refl x) in omega (arith, now (Bound t) i, was (Bound t) q i, hand i, one_binding t i x)) (no_other t) i y (name_cases y x))
        (λ i y other. no_other t i y (apart y other))

    go : (o : Option Owner) → owner_of b.owners x ≡ o → KeepsCounts b (after_register b x k) (m ∷ []) (register_sends b x k)
    go None q = rw q (owners_counts b b.owners (m ∷ []) [] (λ i y. refl) (λ i y own. omega arith) (λ i y other. refl))
    go (Some o) q = rw q (known o q)

pub register_hears : (b : Records) (x : VarName) (k : ℕ) → KeepsHeard b (after_register b x k) []
register_hears b x k = owners_hears b (owners.after_register b.owners x k)

-- ---- others' variables

-- a change of the records of others' variables, at one name
at_proxy : (b : Records) (es : List Proxy) (x : VarName) (out : List Sent) → x.site ≢ b.site → (v : Option Term) → entry_of es x ≡ Some v → ((y : VarName) → y ≢ x → entry_of es y ≡ entry_of b.proxies y) →
    ((y : VarName) → y ≢ x → register_count y b.site out ≡ 0) → met_count false (entry_of b.proxies x) + register_count x b.site out ≤ 1 → ((i : ℕ) (y : VarName) → i ≢ b.site → register_count y i out ≡ 0) → ((i : ℕ) (y : VarName) → binding_count y i out ≡ 0) →
    KeepsCounts b (record b { proxies = es }) [] out
at_proxy b es x out other v here there none few apart quiet = record {
  site = refl;
  mine = λ y. mine y (name_cases y x);
  others = apart;
  listed = λ i y own. omega (arith, quiet i y);
  elsewhere = λ i y k. quiet i y;
}
  where
    elsewhere : (b.site == x.site) ≡ false
    elsewhere = equal_no b.site x.site (λ e. other (sym e))

    not_own : (x.site == b.site) ≡ false
    not_own = equal_no x.site b.site other

    at_x : met_count (b.site == x.site) (knowledge b x) + register_count x b.site out ≤ met_count (b.site == x.site) (knowledge (record b { proxies = es }) x)
    at_x = rw (elsewhere, not_own, here) few

    mine : (y : VarName) → (y ≡ x) ⊎ (y ≢ x) → met_count (b.site == y.site) (knowledge b y) + register_count y b.site out ≤ met_count (b.site == y.site) (knowledge (record b { proxies = es }) y)
    mine y (inl e) = subst (λ (z : VarName). met_count (b.site == z.site) (knowledge b z) + register_count z b.site out ≤ met_count (b.site == z.site) (knowledge (record b { proxies = es }) z)) (sym e) at_x
    mine y (inr n) =
        let same : met_count (b.site == y.site) (knowledge (record b { proxies = es }) y) ≡ met_count (b.site == y.site) (knowledge b y) = ap (met_count (b.site == y.site)) (proxy_other b y es (there y n)) in
        omega (arith, none y n)

-- a name is met
pub meet_counts : (b : Records) (x : VarName) → KeepsCounts b (after_meet b x) [] (meet_sends b x)
meet_counts b x = go (is_own b x) refl
  where
    fresh : x.site ≢ b.site → entry_of b.proxies x ≡ None → KeepsCounts b (record b { proxies = b.proxies ++ (x, None) ∷ [] }) [] (register x b.site ∷ [])
    fresh other q = at_proxy b (b.proxies ++ (x, None) ∷ []) x (register x b.site ∷ []) other None (last_here b.proxies x None q) (λ y n. last_other b.proxies x y None n)
        (λ y n. one_register b.site y ∙ ap (λ (c : Bool). one (c && (b.site == b.site))) (differ y x n))
        (let e : met_count false (entry_of b.proxies x) ≡ 0 = ap (met_count false) q in let most : one (equal_var x x && (b.site == b.site)) ≤ 1 = few (equal_var x x && (b.site == b.site)) in omega (arith, one_register b.site x))
        (λ i y n. one_register i y ∙ (let e : (i == b.site) ≡ false = equal_no i b.site n in rw e (none_and (equal_var y x)))) (λ i y. refl)
      where
        one_register : (i : ℕ) (y : VarName) → register_count y i (register x b.site ∷ []) ≡ one (equal_var y x && (i == b.site))
        one_register i y = let e : register_count y i (register x b.site ∷ []) ≡ one (equal_var y x && (i == b.site)) + 0 = count_cons (is_register y i) (register x b.site) [] in omega arith

        few : (c : Bool) → one c ≤ 1
        few true = omega arith
        few false = omega arith

        none_and : (c : Bool) → one (c && false) ≡ 0
        none_and true = refl
        none_and false = refl

    new : x.site ≢ b.site → (o : Option (Option Term)) → entry_of b.proxies x ≡ o →
        KeepsCounts b (record b { proxies = cond (is_some o) b.proxies (b.proxies ++ (x, None) ∷ []) }) [] (cond (is_some o) [] (register x b.site ∷ []))
    new other None q = fresh other q
    new other (Some v) q = others_count b [] tt

    go : (c : Bool) → is_own b x ≡ c → KeepsCounts b (after_meet b x) [] (meet_sends b x)
    go true q = rw q (others_count b [] tt)
    go false q = rw q (new (λ (e : x.site ≡ b.site). let yes : is_own b x ≡ true = (Decides-eqb x.site b.site).1 e in cc) (entry_of b.proxies x) refl)

-- a binding is told
pub binding_counts : (b : Records) (x : VarName) (t : Term) → x.site ≢ b.site → KeepsCounts b (after_binding b x t) [] []
binding_counts b x t other = at_proxy b (proxies.after_bound b.proxies x t) x [] other (Some t) (in_here b.proxies x (Some t)) (λ y n. in_other b.proxies x y (Some t) n) (λ y n. refl)
    (let m : met_count false (entry_of b.proxies x) ≤ 1 = at_most_one false (entry_of b.proxies x) in omega arith) (λ i y n. refl) (λ i y. refl)

-- ---- what is heard

pub meet_hears : (b : Records) (x : VarName) → KeepsHeard b (after_meet b x) []
meet_hears b x = go (is_own b x) refl
  where
    fresh : x.site ≢ b.site → entry_of b.proxies x ≡ None → KeepsHeard b (record b { proxies = b.proxies ++ (x, None) ∷ [] }) []
    fresh other q y = by_name (name_cases y x)
      where
        elsewhere : (b.site == x.site) ≡ false
        elsewhere = equal_no b.site x.site (λ e. other (sym e))

        not_own : (x.site == b.site) ≡ false
        not_own = equal_no x.site b.site other

        at_x : known_count (b.site == x.site) (knowledge (record b { proxies = b.proxies ++ (x, None) ∷ [] }) x) ≤ known_count (b.site == x.site) (knowledge b x) + 0
        at_x = rw (elsewhere, not_own, last_here b.proxies x None q) (omega arith)

        by_name : (y ≡ x) ⊎ (y ≢ x) → known_count (b.site == y.site) (knowledge (record b { proxies = b.proxies ++ (x, None) ∷ [] }) y) ≤ known_count (b.site == y.site) (knowledge b y) + 0
        by_name (inl e) = subst (λ (z : VarName). known_count (b.site == z.site) (knowledge (record b { proxies = b.proxies ++ (x, None) ∷ [] }) z) ≤ known_count (b.site == z.site) (knowledge b z) + 0) (sym e) at_x
        by_name (inr n) =
            let same : known_count (b.site == y.site) (knowledge (record b { proxies = b.proxies ++ (x, None) ∷ [] }) y) ≡ known_count (b.site == y.site) (knowledge b y) = ap (known_count (b.site == y.site)) (proxy_other b y _ (last_other b.proxies x y None n)) in
            omega arith

    new : x.site ≢ b.site → (o : Option (Option Term)) → entry_of b.proxies x ≡ o → KeepsHeard b (record b { proxies = cond (is_some o) b.proxies (b.proxies ++ (x, None) ∷ []) }) []
    new other None q = fresh other q
    new other (Some v) q = same_hear b

    go : (c : Bool) → is_own b x ≡ c → KeepsHeard b (after_meet b x) []
    go true q = rw q (same_hear b)
    go false q = rw q (new (λ (e : x.site ≡ b.site). let yes : is_own b x ≡ true = (Decides-eqb x.site b.site).1 e in cc) (entry_of b.proxies x) refl)

pub told_once : (b : Bool) (o : Option (Option Term)) → known_count b o ≤ 1
told_once true o = omega arith
told_once false None = omega arith
told_once false (Some None) = omega arith
told_once false (Some (Some t)) = omega arith

pub binding_hears : (b : Records) (x : VarName) (t : Term) (hand : List Sent) → x.site ≢ b.site → 1 ≤ binding_count x b.site hand → KeepsHeard b (after_binding b x t) hand
binding_hears b x t hand other some y = by_name (name_cases y x)
  where
    by_name : (y ≡ x) ⊎ (y ≢ x) → known_count (b.site == y.site) (knowledge (after_binding b x t) y) ≤ known_count (b.site == y.site) (knowledge b y) + binding_count y b.site hand
    by_name (inl e) =
        let one : 1 ≤ binding_count y b.site hand = subst (λ (z : VarName). 1 ≤ binding_count z b.site hand) (sym e) some in
        omega (arith, told_once (b.site == y.site) (knowledge (after_binding b x t) y))
    by_name (inr n) =
        let same : known_count (b.site == y.site) (knowledge (after_binding b x t) y) ≡ known_count (b.site == y.site) (knowledge b y) = ap (known_count (b.site == y.site)) (proxy_other b y _ (in_other b.proxies x y (Some t) n)) in
        omega arith

-- ---- a thread wants a bind

pub want_counts : (b : Records) (x : VarName) (t : Term) (thread : ThreadName) → KeepsCounts b (after_want b x t) [] (want_sends b x t thread)
want_counts b x t thread = go (is_own b x) (Decides-eqb x.site b.site)
  where
    go : (c : Bool) → Decides c (x.site ≡ b.site) → KeepsCounts b (cond c (after_ask b x t) b) [] (cond c (ask_sends b x t) (request x t thread ∷ []))
    go true d = ask_counts b x t (d.0 refl)
    go false d = others_count b (request x t thread ∷ []) ((λ i y. (refl, refl)), tt)

pub want_hears : (b : Records) (x : VarName) (t : Term) → KeepsHeard b (after_want b x t) []
want_hears b x t = go (is_own b x)
  where
    go : (c : Bool) → KeepsHeard b (cond c (after_ask b x t) b) []
    go true = ask_hears b x t
    go false = same_hear b

pub register_of : (x : VarName) (k to i : ℕ) → is_register x i (sent_message to (msg.Register x k)) ≡ (i == k)
register_of x k to i = ap (λ (c : Bool). c && (i == k)) (same_name_refl x)
