-- Who waits for a name will be told: each row, rows together, and a world of which one site goes on.
use Rattle.std.proofs.Common.{arith, ◌≡◌, ◌≢◌, ◌∙◌, sym, ap, refl, subst, ℕ, zero, suc, ◌+◌, ◌≤◌, List, [], ◌∷◌, ◌++◌, map, ◌⊎◌, inl, inr, Bool, true, false, cond, Some, None}
use Rattle.std.specs.Prelude.{Option, ◌==◌, ◌&&◌, is_some, IsTrue, Contains}
use Rattle.std.specs.Bool.{Decides}
use Rattle.tree_node.specs.declared.names.VarName.{VarName}
use Rattle.tree_node.specs.declared.names.ThreadName.{ThreadName}
use Rattle.tree_node.specs.declared.node.Term.{Term}
use Rattle.tree_node.specs.Each.{Each}
use Rattle.tree_node.specs.Store.{Equation, equal_var}
use Rattle.tree_node.proofs.ClassLemmas.{same_name_refl}
use Rattle.site_message.specs.declared.message.Msg.TheVariants as msg
use Rattle.site_message.specs.declared.message.Sent.{Sent}
use Rattle.variable_owner.specs.declared.owners.Owner.{Owner}
use Rattle.variable_owner.specs.declared.owners.Owner.TheVariants.{Open, Bound}
use Rattle.variable_owner.specs.Owners.{Owned, owner_of, sites_of, with_owner, with_registered, after_bind}
use Rattle.bind_protocol.specs.Records.{Records, is_own, knowledge, owner_knows, IsKnown, sites_in}
use Rattle.bind_protocol.specs.Rows.{sent_message, register, request, binding, after_make, after_meet, meet_sends, after_meets, meets_send, after_register, register_answer, register_sends, after_ask, ask_sends, after_binding, after_want, want_sends}
use Rattle.bind_protocol.specs.World.{is_register, is_binding}
use Rattle.bind_protocol.specs.Lawful.{known_count, register_count, binding_count, site_count}
use Rattle.bind_protocol.specs.Count.{IsNeither, GoesOn}
use Rattle.bind_protocol.specs.Learn.{HasLearned, MeetCase}
use Rattle.bind_protocol.specs.Notices.{open_count, AreTold, KeepsTold, RowsTell, TellingJoins, IsForSite, TellingGoesOn, WaitersAreTold}
use Rattle.bind_protocol.proofs.ListLemmas.{one, count_append, count_push, count_cons, counted_there}
use Rattle.bind_protocol.proofs.LookLemmas.{in_here, in_other}
use Rattle.bind_protocol.proofs.CountLemmas.{bindings_sent}
use Rattle.bind_protocol.proofs.RowCountLemmas.{by_owners, name_cases, no_registers, no_bindings, told_once}
use Rattle.bind_protocol.proofs.LearnLemmas.{meet_case, binding_learns}
use Rattle.bind_protocol.proofs.KnowLemmas.{own_here}
use Rattle.std.proofs.lemmas.Bool.Decides.{Decides-eqb}
use Rattle.tree_node.proofs.NameLemmas.{differ}
use Rattle.tree_node.proofs.EnvLemmas.{equal_no}

-- ---- nothing changes

pub others_told : (b : Records) (hand out : List Sent) → Each IsNeither hand → KeepsTold b b hand out
others_told b hand out h = record {
  site = refl;
  unbound = λ x. omega arith;
  bound = λ x. omega arith;
  listed = λ i x own. omega (arith, no_registers hand h i x);
  heard = λ x other some. absurd (omega (arith, no_bindings hand h b.site x, some));
}

-- ---- own variables

-- a change of owners whose lists and messages are so
owners_told : (b : Records) (es : List Owned) (hand out : List Sent) → ((x : VarName) → binding_count x b.site hand ≡ 0) →
    ((i : ℕ) (x : VarName) → x.site ≡ b.site → site_count i (sites_of (owner_of b.owners x)) + register_count x i hand ≤ site_count i (sites_of (owner_of es x)) + binding_count x i out) →
    KeepsTold b (record b { owners = es }) hand out
owners_told b es hand out none l = record {
  site = refl;
  unbound = λ x. let e : open_count (b.site == x.site) (knowledge (record b { owners = es }) x) ≡ open_count (b.site == x.site) (knowledge b x) = by_owners open_count (λ o p. refl) b es x in omega arith;
  bound = λ x. let e : known_count (b.site == x.site) (knowledge (record b { owners = es }) x) ≡ known_count (b.site == x.site) (knowledge b x) = by_owners known_count (λ o p. refl) b es x in omega arith;
  listed = l;
  heard = λ x other some. absurd (omega (arith, none x, some));
}

pub no_sites : (o : Option Owner) → owner_knows o ≡ None → sites_of o ≡ []
no_sites None e = refl
no_sites (Some (Open ks)) e = cc
no_sites (Some (Bound t)) e = cc

make_told : (b : Records) (x : VarName) → x.site ≡ b.site → knowledge b x ≡ None → KeepsTold b (after_make b x) [] []
make_told b x own new = owners_told b (with_owner b.owners x (Open [])) [] [] (λ y. refl) (λ i y mine. go i y (name_cases y x))
  where
    before : sites_of (owner_of b.owners x) ≡ []
    before = no_sites (owner_of b.owners x) (sym (own_here b x own) ∙ new)

    go : (i : ℕ) (y : VarName) → (y ≡ x) ⊎ (y ≢ x) → site_count i (sites_of (owner_of b.owners y)) + 0 ≤ site_count i (sites_of (owner_of (with_owner b.owners x (Open [])) y)) + 0
    go i y (inl e) =
        let was : site_count i (sites_of (owner_of b.owners y)) ≡ 0 = ap (λ (z : VarName). site_count i (sites_of (owner_of b.owners z))) e ∙ ap (site_count i) before in
        omega arith
    go i y (inr n) =
        let same : site_count i (sites_of (owner_of (with_owner b.owners x (Open [])) y)) ≡ site_count i (sites_of (owner_of b.owners y)) = ap (λ (o : Option Owner). site_count i (sites_of o)) (in_other b.owners x y (Open []) n) in
        omega arith

ask_told : (b : Records) (x : VarName) (t : Term) → x.site ≡ b.site → KeepsTold b (after_ask b x t) [] (ask_sends b x t)
ask_told b x t own = go (owner_of b.owners x) refl
  where
    out : List ℕ → List Sent
    out ks = map (λ (k : ℕ). binding x t k) ks

    listed : (o : Owner) → owner_of b.owners x ≡ Some o → (i : ℕ) (y : VarName) → (y ≡ x) ⊎ (y ≢ x) →
        site_count i (sites_of (owner_of b.owners y)) + 0 ≤ site_count i (sites_of (owner_of (with_owner b.owners x (after_bind o t)) y)) + binding_count y i (out (sites_of (Some o)))
    listed o q i y (inl e) =
        let told : binding_count y i (out (sites_of (Some o))) ≡ site_count i (sites_of (Some o)) =
        ap (λ (z : VarName). binding_count z i (out (sites_of (Some o)))) e ∙ bindings_sent x t (sites_of (Some o)) i x ∙ ap (λ (c : Bool). cond c (site_count i (sites_of (Some o))) 0) (same_name_refl x) in
        let was : site_count i (sites_of (owner_of b.owners y)) ≡ site_count i (sites_of (Some o)) = ap (λ (z : VarName). site_count i (sites_of (owner_of b.owners z))) e ∙ ap (λ (p : Option Owner). site_count i (sites_of p)) q in
        omega arith
    listed o q i y (inr n) =
        let same : site_count i (sites_of (owner_of (with_owner b.owners x (after_bind o t)) y)) ≡ site_count i (sites_of (owner_of b.owners y)) = ap (λ (p : Option Owner). site_count i (sites_of p)) (in_other b.owners x y (after_bind o t) n) in
        omega arith

    go : (o : Option Owner) → owner_of b.owners x ≡ o → KeepsTold b (after_ask b x t) [] (ask_sends b x t)
    go None q = rw q (owners_told b b.owners [] [] (λ y. refl) (λ i y mine. omega arith))
    go (Some o) q = rw q (owners_told b (with_owner b.owners x (after_bind o t)) [] (out (sites_of (Some o))) (λ y. refl) (λ i y mine. listed o q i y (name_cases y x)))

pub unknown : (o : Option (Option Term)) → o ≡ None → IsTrue (is_some o) → ⊥
unknown None e h = cc
unknown (Some o) e h = cc

register_told : (b : Records) (x : VarName) (k to : ℕ) → x.site ≡ b.site → IsKnown b x →
    KeepsTold b (after_register b x k) (sent_message to (msg.Register x k) ∷ []) (register_sends b x k)
register_told b x k to own known = go (owner_of b.owners x) refl
  where
    hand : List Sent
    hand = sent_message to (msg.Register x k) ∷ []

    in_hand : (i : ℕ) (y : VarName) → register_count y i hand ≡ one (equal_var y x && (i == k))
    in_hand i y = let e : register_count y i hand ≡ one (equal_var y x && (i == k)) + 0 = count_cons (is_register y i) (sent_message to (msg.Register x k)) [] in omega arith

    told : (t : Term) (i : ℕ) (y : VarName) → binding_count y i (binding x t k ∷ []) ≡ one (equal_var y x && (i == k))
    told t i y = let e : binding_count y i (binding x t k ∷ []) ≡ one (equal_var y x && (i == k)) + 0 = count_cons (is_binding y i) (binding x t k) [] in omega arith

    listed : (o : Owner) (out : List Sent) → owner_of b.owners x ≡ Some o →
        ((i : ℕ) → site_count i (sites_of (Some o)) + one (i == k) ≤ site_count i (sites_of (Some (with_registered o k))) + binding_count x i out) →
        (i : ℕ) (y : VarName) → (y ≡ x) ⊎ (y ≢ x) →
        site_count i (sites_of (owner_of b.owners y)) + register_count y i hand ≤ site_count i (sites_of (owner_of (with_owner b.owners x (with_registered o k)) y)) + binding_count y i out
    listed o out q here i y (inl e) = subst (λ (z : VarName). site_count i (sites_of (owner_of b.owners z)) + register_count z i hand ≤ site_count i (sites_of (owner_of (with_owner b.owners x (with_registered o k)) z)) + binding_count z i out) (sym e) (
        let was : site_count i (sites_of (owner_of b.owners x)) ≡ site_count i (sites_of (Some o)) = ap (λ (p : Option Owner). site_count i (sites_of p)) q in
        let now : site_count i (sites_of (owner_of (with_owner b.owners x (with_registered o k)) x)) ≡ site_count i (sites_of (Some (with_registered o k))) = ap (λ (p : Option Owner). site_count i (sites_of p)) (in_here b.owners x (with_registered o k)) in
        let f : one (equal_var x x && (i == k)) ≡ one (i == k) = ap (λ (c : Bool). one (c && (i == k))) (same_name_refl x) in
        omega (arith, here i, in_hand i x))
    listed o out q here i y (inr n) =
        let same : site_count i (sites_of (owner_of (with_owner b.owners x (with_registered o k)) y)) ≡ site_count i (sites_of (owner_of b.owners y)) = ap (λ (p : Option Owner). site_count i (sites_of p)) (in_other b.owners x y (with_registered o k) n) in
        let f : one (equal_var y x && (i == k)) ≡ 0 = ap (λ (c : Bool). one (c && (i == k))) (differ y x n) in
        omega (arith, in_hand i y)

    kept : (o : Owner) → owner_of b.owners x ≡ Some o → KeepsTold b (record b { owners = with_owner b.owners x (with_registered o k) }) hand (register_answer (Some o) x k)
    kept (Open ks) q = owners_told b (with_owner b.owners x (Open (ks ++ k ∷ []))) hand [] (λ y. refl)
        (λ i y mine. listed (Open ks) [] q (λ j. let more : site_count j (ks ++ k ∷ []) ≡ site_count j ks + one (j == k) = count_push (λ s. j == s) ks k in omega arith) i y (name_cases y x))
    kept (Bound t) q = owners_told b (with_owner b.owners x (Bound t)) hand (binding x t k ∷ []) (λ y. refl)
        (λ i y mine. listed (Bound t) (binding x t k ∷ []) q (λ j. let f : one (equal_var x x && (j == k)) ≡ one (j == k) = ap (λ (c : Bool). one (c && (j == k))) (same_name_refl x) in omega (arith, told t j x)) i y (name_cases y x))

    go : (o : Option Owner) → owner_of b.owners x ≡ o → KeepsTold b (after_register b x k) hand (register_sends b x k)
    go None q = absurd (unknown (knowledge b x) (own_here b x own ∙ ap owner_knows q) known)
    go (Some o) q = rw q (kept o q)

-- ---- others' variables

open_at_most_one : (b : Bool) (o : Option (Option Term)) → open_count b o ≤ 1
open_at_most_one true o = omega arith
open_at_most_one false None = omega arith
open_at_most_one false (Some None) = omega arith
open_at_most_one false (Some (Some t)) = omega arith

pub unknown_is_not_bound : (b : Bool) → known_count b None ≡ 0
unknown_is_not_bound true = refl
unknown_is_not_bound false = refl

bound_is_not_open : (b : Bool) (t : Term) → open_count b (Some (Some t)) ≡ 0
bound_is_not_open true t = refl
bound_is_not_open false t = refl

meet_told : (b : Records) (x : VarName) → KeepsTold b (after_meet b x) [] (meet_sends b x)
meet_told b x = go (meet_case b x)
  where
    go : MeetCase b x → KeepsTold b (after_meet b x) [] (meet_sends b x)
    go (inl (same, none, known)) = rw (same, none) (others_told b [] [] tt)
    go (inr (l, new, elsewhere, sends, owners)) = rw sends (record {
      site = l.site;
      unbound = λ y. unbound y (name_cases y x);
      bound = λ y. bound y (name_cases y x);
      listed = λ i y own. let same : site_count i (sites_in (after_meet b x) y) ≡ site_count i (sites_in b y) = ap (λ (es : List Owned). site_count i (sites_of (owner_of es y))) owners in omega arith;
      heard = λ y other some. absurd (omega (arith, some));
    })
      where
        c : Records
        c = after_meet b x

        unbound : (y : VarName) → (y ≡ x) ⊎ (y ≢ x) → open_count (b.site == y.site) (knowledge c y) ≤ open_count (b.site == y.site) (knowledge b y) + register_count y b.site (register x b.site ∷ [])
        unbound y (inl e) =
            let sent : register_count y b.site (register x b.site ∷ []) ≡ one (equal_var y x && (b.site == b.site)) + 0 = count_cons (is_register y b.site) (register x b.site) [] in
            let f : one (equal_var y x && (b.site == b.site)) ≡ 1 = ap (λ (z : VarName). one (equal_var z x && (b.site == b.site))) e ∙ ap (λ (q : Bool). one (q && (b.site == b.site))) (same_name_refl x) ∙ ap one ((Decides-eqb b.site b.site).1 refl) in
            omega (arith, open_at_most_one (b.site == y.site) (knowledge c y))
        unbound y (inr n) = let same : open_count (b.site == y.site) (knowledge c y) ≡ open_count (b.site == y.site) (knowledge b y) = ap (open_count (b.site == y.site)) (l.others y n) in omega arith

        bound : (y : VarName) → (y ≡ x) ⊎ (y ≢ x) → known_count (b.site == y.site) (knowledge b y) ≤ known_count (b.site == y.site) (knowledge c y)
        bound y (inl e) =
            let none : known_count (b.site == y.site) (knowledge b y) ≡ 0 = ap (λ (z : VarName). known_count (b.site == y.site) (knowledge b z)) e ∙ ap (known_count (b.site == y.site)) new ∙ unknown_is_not_bound (b.site == y.site) in omega arith
        bound y (inr n) = let same : known_count (b.site == y.site) (knowledge c y) ≡ known_count (b.site == y.site) (knowledge b y) = ap (known_count (b.site == y.site)) (l.others y n) in omega arith

-- a name owned elsewhere becomes known, and no other Binding is in hand
module _ (b : Records) (x : VarName) (t : Term) (other : x.site ≢ b.site) where
  abbrev c : Records
  c = after_binding b x t

  l : HasLearned b (after_binding b x t) x (Some (Some t))
  l = binding_learns b x t other

  bound_now : known_count (b.site == x.site) (knowledge c x) ≡ 1
  bound_now = ap (known_count (b.site == x.site)) l.here ∙ ap (λ (q : Bool). known_count q (Some (Some t))) (equal_no b.site x.site (λ e. other (sym e)))

  learnt_told : (hand : List Sent) → ((i : ℕ) (y : VarName) → register_count y i hand ≡ 0) → ((y : VarName) → y ≢ x → binding_count y b.site hand ≡ 0) → KeepsTold b (after_binding b x t) hand []
  learnt_told hand quiet only = record {
    site = l.site;
    unbound = λ y. unbound y (name_cases y x);
    bound = λ y. bound y (name_cases y x);
    listed = λ i y own. omega (arith, quiet i y);
    heard = λ y far some. heard y some (name_cases y x);
  }
    where
      unbound : (y : VarName) → (y ≡ x) ⊎ (y ≢ x) → open_count (b.site == y.site) (knowledge c y) ≤ open_count (b.site == y.site) (knowledge b y) + 0
      unbound y (inl e) =
          let none : open_count (b.site == y.site) (knowledge c y) ≡ 0 = ap (λ (z : VarName). open_count (b.site == y.site) (knowledge c z)) e ∙ ap (open_count (b.site == y.site)) l.here ∙ bound_is_not_open (b.site == y.site) t in omega arith
      unbound y (inr n) = let same : open_count (b.site == y.site) (knowledge c y) ≡ open_count (b.site == y.site) (knowledge b y) = ap (open_count (b.site == y.site)) (l.others y n) in omega arith

      bound : (y : VarName) → (y ≡ x) ⊎ (y ≢ x) → known_count (b.site == y.site) (knowledge b y) ≤ known_count (b.site == y.site) (knowledge c y)
      bound y (inl e) = subst (λ (z : VarName). known_count (b.site == z.site) (knowledge b z) ≤ known_count (b.site == z.site) (knowledge c z)) (sym e) (omega (arith, bound_now, told_once (b.site == x.site) (knowledge b x)))
      bound y (inr n) = let same : known_count (b.site == y.site) (knowledge c y) ≡ known_count (b.site == y.site) (knowledge b y) = ap (known_count (b.site == y.site)) (l.others y n) in omega arith

      heard : (y : VarName) → 1 ≤ binding_count y b.site hand → (y ≡ x) ⊎ (y ≢ x) → 1 ≤ known_count (b.site == y.site) (knowledge c y)
      heard y some (inl e) = subst (λ (z : VarName). 1 ≤ known_count (b.site == z.site) (knowledge c z)) (sym e) (omega (arith, bound_now))
      heard y some (inr n) = absurd (omega (arith, only y n, some))

-- a Binding in hand is of its variable alone
of_no_other : (x : VarName) (t : Term) (to : ℕ) (bundle : List Equation) (i : ℕ) (y : VarName) → y ≢ x → binding_count y i (sent_message to (msg.Binding x t bundle) ∷ []) ≡ 0
of_no_other x t to bundle i y n =
    let e : binding_count y i (sent_message to (msg.Binding x t bundle) ∷ []) ≡ one (equal_var y x && (i == to)) + 0 = count_cons (is_binding y i) (sent_message to (msg.Binding x t bundle)) [] in
    let f : one (equal_var y x && (i == to)) ≡ 0 = ap (λ (c : Bool). one (c && (i == to))) (differ y x n) in
    omega arith

late_told : (b : Records) (x : VarName) (t r : Term) (to : ℕ) (bundle : List Equation) → knowledge b x ≡ Some (Some r) → KeepsTold b b (sent_message to (msg.Binding x t bundle) ∷ []) []
late_told b x t r to bundle known = record {
  site = refl;
  unbound = λ y. omega arith;
  bound = λ y. omega arith;
  listed = λ i y own. omega arith;
  heard = λ y other some. heard y other some (name_cases y x);
}
  where
    heard : (y : VarName) → y.site ≢ b.site → 1 ≤ binding_count y b.site (sent_message to (msg.Binding x t bundle) ∷ []) → (y ≡ x) ⊎ (y ≢ x) → 1 ≤ known_count (b.site == y.site) (knowledge b y)
    heard y other some (inl e) =
        let one_known : known_count (b.site == y.site) (knowledge b y) ≡ 1 =
        ap (λ (q : Bool). known_count q (knowledge b y)) (equal_no b.site y.site (λ k. other (sym k))) ∙ ap (λ (z : VarName). known_count false (knowledge b z)) e ∙ ap (known_count false) known in omega arith
    heard y other some (inr n) = absurd (omega (arith, of_no_other x t to bundle b.site y n, some))

want_told : (b : Records) (x : VarName) (t : Term) (thread : ThreadName) → KeepsTold b (after_want b x t) [] (want_sends b x t thread)
want_told b x t thread = go (is_own b x) (Decides-eqb x.site b.site)
  where
    go : (c : Bool) → Decides c (x.site ≡ b.site) → KeepsTold b (cond c (after_ask b x t) b) [] (cond c (ask_sends b x t) (request x t thread ∷ []))
    go true d = ask_told b x t (d.0 refl)
    go false d = others_told b [] (request x t thread ∷ []) tt

-- ---- one after another

told_on : (b c d : Records) (h g o u : List Sent) → KeepsTold b c h o → KeepsTold c d g u → KeepsTold b d (h ++ g) (o ++ u)
told_on b c d h g o u k l = record {
  site = l.site ∙ k.site;
  unbound = λ x.
      let e : register_count x b.site (o ++ u) ≡ register_count x b.site o + register_count x b.site u = count_append (is_register x b.site) o u in
      let n : open_count (b.site == x.site) (knowledge d x) ≤ open_count (b.site == x.site) (knowledge c x) + register_count x b.site u =
      subst (λ (i : ℕ). open_count (i == x.site) (knowledge d x) ≤ open_count (i == x.site) (knowledge c x) + register_count x i u) k.site (l.unbound x) in
      omega (arith, k.unbound x);
  bound = λ x. omega (arith, k.bound x, bound_on x);
  listed = λ i x own.
      let e : binding_count x i (o ++ u) ≡ binding_count x i o + binding_count x i u = count_append (is_binding x i) o u in
      let f : register_count x i (h ++ g) ≡ register_count x i h + register_count x i g = count_append (is_register x i) h g in
      omega (arith, k.listed i x own, l.listed i x (own ∙ sym k.site));
  heard = λ x other some. heard x other some (binding_count x b.site h) refl;
}
  where
    bound_on : (x : VarName) → known_count (b.site == x.site) (knowledge c x) ≤ known_count (b.site == x.site) (knowledge d x)
    bound_on x = subst (λ (i : ℕ). known_count (i == x.site) (knowledge c x) ≤ known_count (i == x.site) (knowledge d x)) k.site (l.bound x)

    heard : (x : VarName) → x.site ≢ b.site → 1 ≤ binding_count x b.site (h ++ g) → (n : ℕ) → binding_count x b.site h ≡ n → 1 ≤ known_count (b.site == x.site) (knowledge d x)
    heard x other some zero q =
        let e : binding_count x b.site (h ++ g) ≡ binding_count x b.site h + binding_count x b.site g = count_append (is_binding x b.site) h g in
        let later : 1 ≤ binding_count x b.site g = omega (arith, some) in
        subst (λ (i : ℕ). 1 ≤ known_count (i == x.site) (knowledge d x)) k.site (l.heard x (λ (s : x.site ≡ c.site). other (s ∙ k.site)) (subst (λ (i : ℕ). 1 ≤ binding_count x i g) (sym k.site) later))
    heard x other some (suc n) q = omega (arith, k.heard x other (omega arith), bound_on x)

meets_told : (b : Records) (xs : List VarName) → KeepsTold b (after_meets b xs) [] (meets_send b xs)
meets_told b [] = others_told b [] [] tt
meets_told b (x ∷ xs) = told_on b (after_meet b x) (after_meets (after_meet b x) xs) [] [] (meet_sends b x) (meets_send (after_meet b x) xs) (meet_told b x) (meets_told (after_meet b x) xs)

pub rows_tell : RowsTell
rows_tell = record {
  make = make_told;
  meet = meet_told;
  meets = meets_told;
  register = register_told;
  ask = ask_told;
  binding = λ b x t to bundle other. learnt_told b x t other (sent_message to (msg.Binding x t bundle) ∷ []) (λ i y. refl) (λ y n. of_no_other x t to bundle b.site y n);
  late = late_told;
  known = λ b x t other. learnt_told b x t other [] (λ i y. refl) (λ y n. refl);
  want = want_told;
  others = others_told;
}

pub telling_joins : TellingJoins
telling_joins = record {
  together = told_on;
  alike = λ b c h o u same k. record {
    site = k.site;
    unbound = λ x. omega (arith, k.unbound x, same.registers b.site x);
    bound = k.bound;
    listed = λ i x own. omega (arith, k.listed i x own, same.bindings i x);
    heard = k.heard;
  };
}

-- ---- a world of which one site goes on

module _ (a : ℕ) (old new : ℕ → Records) (hand rest out : List Sent) (g : GoesOn a old new) (mine : IsForSite a hand) (k : KeepsTold (old a) (new a) hand out) (h : AreTold old (hand ++ rest)) where
  -- how many a site waits for, and how many are on the way, besides
  unbound_here : (x : VarName) → open_count (a == x.site) (knowledge (new a) x) ≤ open_count (a == x.site) (knowledge (old a) x) + register_count x a out
  unbound_here x = subst (λ (i : ℕ). open_count (i == x.site) (knowledge (new a) x) ≤ open_count (i == x.site) (knowledge (old a) x) + register_count x i out) g.own (k.unbound x)

  -- the owner keeps or answers each Register in hand
  at_owner : (i : ℕ) (x : VarName) (b : Bool) → Decides b (x.site ≡ a) → site_count i (sites_in (old x.site) x) + register_count x i hand ≤ site_count i (sites_in (new x.site) x) + binding_count x i out
  at_owner i x true d =
      let site : x.site ≡ a = d.0 refl in
      subst (λ (j : ℕ). site_count i (sites_in (old j) x) + register_count x i hand ≤ site_count i (sites_in (new j) x) + binding_count x i out) (sym site) (k.listed i x (site ∙ sym g.own))
  at_owner i x false d =
      let other : x.site ≢ a = λ (q : x.site ≡ a). let yes : false ≡ true = d.1 q in cc in
      let same : site_count i (sites_in (new x.site) x) ≡ site_count i (sites_in (old x.site) x) = ap (λ (s : Records). site_count i (sites_in s x)) (g.others x.site other) in
      omega (arith, mine.registers i x other)

  abbrev Goal : ℕ → VarName → Type 0
  Goal i x = open_count (i == x.site) (knowledge (new i) x) ≤ register_count x i (rest ++ out) + site_count i (sites_in (new x.site) x) + binding_count x i (rest ++ out)

  -- where no Binding in hand is for the site
  still : (i : ℕ) (x : VarName) → open_count (i == x.site) (knowledge (new i) x) ≤ open_count (i == x.site) (knowledge (old i) x) + register_count x i out → binding_count x i hand ≡ 0 → Goal i x
  still i x more none =
      let e : register_count x i (rest ++ out) ≡ register_count x i rest + register_count x i out = count_append (is_register x i) rest out in
      let f : binding_count x i (rest ++ out) ≡ binding_count x i rest + binding_count x i out = count_append (is_binding x i) rest out in
      let r : register_count x i (hand ++ rest) ≡ register_count x i hand + register_count x i rest = count_append (is_register x i) hand rest in
      let s : binding_count x i (hand ++ rest) ≡ binding_count x i hand + binding_count x i rest = count_append (is_binding x i) hand rest in
      omega (arith, more, none, h i x, at_owner i x (x.site == a) (Decides-eqb x.site a))

  closed : (b : Bool) (o : Option (Option Term)) → 1 ≤ known_count b o → open_count b o ≡ 0
  closed true o some = refl
  closed false None some = refl
  closed false (Some None) some = absurd (omega (arith, some))
  closed false (Some (Some t)) some = refl

  -- a Binding in hand is heard
  told_here : (x : VarName) (n : ℕ) → binding_count x a hand ≡ n → Goal a x
  told_here x zero q = still a x (unbound_here x) q
  told_here x (suc n) q = by_owner (a == x.site) (Decides-eqb a x.site)
    where
      by_owner : (b : Bool) → Decides b (a ≡ x.site) → Goal a x
      by_owner true d =
          let none : open_count (a == x.site) (knowledge (new a) x) ≡ 0 = ap (λ (c : Bool). open_count c (knowledge (new a) x)) ((Decides-eqb a x.site).1 (d.0 refl)) in omega arith
      by_owner false d =
          let other : x.site ≢ (old a).site = λ (s : x.site ≡ (old a).site). let yes : false ≡ true = d.1 (sym (s ∙ g.own)) in cc in
          let some : 1 ≤ binding_count x (old a).site hand = subst (λ (i : ℕ). 1 ≤ binding_count x i hand) (sym g.own) (omega (arith, q)) in
          let known : 1 ≤ known_count (a == x.site) (knowledge (new a) x) = subst (λ (i : ℕ). 1 ≤ known_count (i == x.site) (knowledge (new a) x)) g.own (k.heard x other some) in
          let none : open_count (a == x.site) (knowledge (new a) x) ≡ 0 = closed (a == x.site) (knowledge (new a) x) known in omega arith

  told_goes : AreTold new (rest ++ out)
  told_goes i x = go (i == a) (Decides-eqb i a)
    where
      go : (b : Bool) → Decides b (i ≡ a) → Goal i x
      go true d = subst (λ (j : ℕ). Goal j x) (sym (d.0 refl)) (told_here x (binding_count x a hand) refl)
      go false d =
          let other : i ≢ a = λ (q : i ≡ a). let yes : false ≡ true = d.1 q in cc in
          let same : open_count (i == x.site) (knowledge (new i) x) ≡ open_count (i == x.site) (knowledge (old i) x) = ap (λ (r : Records). open_count (i == x.site) (knowledge r x)) (g.others i other) in
          still i x (omega arith) (mine.bindings i x other)

nothing_open : (b c : Bool) → open_count b (cond {A = Option (Option Term)} c None None) ≤ 0
nothing_open true c = omega arith
nothing_open false true = omega arith
nothing_open false false = omega arith

pub telling_goes_on : TellingGoesOn
telling_goes_on = record {
  start = λ i x. nothing_open (i == x.site) (x.site == i);
  told = told_goes;
  more = λ records ms ns registers bindings h i x. omega (arith, h i x, registers i x, bindings i x);
}

-- ---- what follows

pub waiters_are_told : WaitersAreTold
waiters_are_told records travelling h i x other waits = go (register_count x i travelling) (binding_count x i travelling) refl refl
  where
    away : (i == x.site) ≡ false
    away = equal_no i x.site other

    open_now : open_count (i == x.site) (knowledge (records i) x) ≡ 1
    open_now = ap (λ (q : Bool). open_count q (knowledge (records i) x)) away ∙ ap (open_count false) waits

    Way : Type 0
    Way = Contains (sites_in (records x.site) x) i ⊎ ((1 ≤ register_count x i travelling) ⊎ (1 ≤ binding_count x i travelling))

    go : (m n : ℕ) → register_count x i travelling ≡ m → binding_count x i travelling ≡ n → Way
    go (suc m) n p q = inr (inl (omega arith))
    go zero (suc n) p q = inr (inr (omega arith))
    go zero zero p q = listed (counted_there (λ s. i == s) (sites_in (records x.site) x) (omega (arith, h i x, open_now, p, q)))
      where
        listed : (s : ℕ) × Contains (sites_in (records x.site) x) s × ((i == s) ≡ true) → Way
        listed (s, at, is) = inl (subst (λ (j : ℕ). Contains (sites_in (records x.site) x) j) (sym ((Decides-eqb i s).0 is)) at)
