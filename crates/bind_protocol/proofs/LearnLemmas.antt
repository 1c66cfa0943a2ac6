-- What a site knows after its records changed.
use Rattle.std.proofs.Common.{◌≡◌, ◌∙◌, sym, ap, refl, subst, ℕ, List, [], ◌∷◌, ◌++◌, inl, inr, Bool, true, false, cond, Some, None}
use Rattle.std.specs.Prelude.{Option, Contains, ◌≢◌, is_some, IsTrue}
use Rattle.tree_node.specs.declared.names.VarName.{VarName}
use Rattle.tree_node.specs.declared.node.Term.{Term}
use Rattle.tree_node.specs.Store.{equal_var}
use Rattle.tree_node.proofs.ClassLemmas.{same_name_decides, Contains-head}
use Rattle.proxy_table.specs.Proxies.{entry_of}
use Rattle.proxy_table.specs.Proxies as proxies
use Rattle.variable_owner.specs.declared.owners.Owner.{Owner}
use Rattle.variable_owner.specs.declared.owners.Owner.TheVariants.{Open, Bound}
use Rattle.variable_owner.specs.Owners.{owner_of, sites_of, with_owner}
use Rattle.variable_owner.specs.Owners as owners
use Rattle.bind_protocol.specs.Records.{Records, is_own, knowledge, owner_knows, IsKnown, sites_in}
use Rattle.bind_protocol.specs.Rows.{after_make, after_meet, after_register, after_ask, after_binding, after_want}
use Rattle.bind_protocol.proofs.LookLemmas.{in_here, in_other, last_here, last_other, owner_here, owner_other, proxy_here, proxy_other}
use Rattle.std.proofs.lemmas.List.Elements.{Contains-append_left, Contains-append_right}
use Rattle.bind_protocol.specs.Learn.{HasLearned, HasRegistered, MeetCase, RowsTeach, KnownStays}
use Rattle.std.proofs.lemmas.Bool.Decides.{Decides-eqb}

pub own_is : (b : Records) (x : VarName) → x.site ≡ b.site → is_own b x ≡ true
own_is b x e = (Decides-eqb x.site b.site).1 e

pub not_own : (b : Records) (x : VarName) → x.site ≢ b.site → is_own b x ≡ false
not_own b x e = go (is_own b x) refl
  where
    go : (c : Bool) → is_own b x ≡ c → is_own b x ≡ false
    go true q = absurd (e ((Decides-eqb x.site b.site).0 q))
    go false q = q

-- the owner of a variable that its site knows
pub owner_at : (b : Records) (x : VarName) (o : Option Term) → x.site ≡ b.site → knowledge b x ≡ Some o → (r : Owner) × (owner_of b.owners x ≡ Some r) × (owner_knows (Some r) ≡ Some o)
owner_at b x o own k = go (owner_of b.owners x) refl (subst (λ (c : Bool). cond c (owner_knows (owner_of b.owners x)) (entry_of b.proxies x) ≡ Some o) (own_is b x own) k)
  where
    go : (p : Option Owner) → owner_of b.owners x ≡ p → owner_knows p ≡ Some o → (r : Owner) × (owner_of b.owners x ≡ Some r) × (owner_knows (Some r) ≡ Some o)
    go None e q = cc
    go (Some r) e q = (r, e, q)

pub open_at : (b : Records) (x : VarName) → x.site ≡ b.site → knowledge b x ≡ Some None → (ks : List ℕ) × (owner_of b.owners x ≡ Some (Open ks))
open_at b x own k = go (owner_at b x None own k)
  where
    go : (r : Owner) × (owner_of b.owners x ≡ Some r) × (owner_knows (Some r) ≡ Some None) → (ks : List ℕ) × (owner_of b.owners x ≡ Some (Open ks))
    go (Open ks, e, q) = (ks, e)
    go (Bound t, e, q) = cc

pub bound_at : (b : Records) (x : VarName) (t : Term) → x.site ≡ b.site → knowledge b x ≡ Some (Some t) → owner_of b.owners x ≡ Some (Bound t)
bound_at b x t own k = go (owner_at b x (Some t) own k)
  where
    go : (r : Owner) × (owner_of b.owners x ≡ Some r) × (owner_knows (Some r) ≡ Some (Some t)) → owner_of b.owners x ≡ Some (Bound t)
    go (Open ks, e, q) = cc
    go (Bound r, e, q) = let same : r ≡ t = cc in rw (← same) e

-- ---- the rows

-- an own unbound variable is bound
pub ask_learns : (b : Records) (x : VarName) (t : Term) → x.site ≡ b.site → knowledge b x ≡ Some None → HasLearned b (after_ask b x t) x (Some (Some t))
ask_learns b x t own k = go (open_at b x own k)
  where
    go : (ks : List ℕ) × (owner_of b.owners x ≡ Some (Open ks)) → HasLearned b (after_ask b x t) x (Some (Some t))
    go (ks, e) = rw e (record {
      site = refl;
      here = owner_here b x (Bound t) (own_is b x own);
      others = λ y other. owner_other b x y (Bound t) other;
    })

-- a bound one stays so
pub late_learns : (b : Records) (x : VarName) (t r : Term) → x.site ≡ b.site → knowledge b x ≡ Some (Some r) → HasLearned b (after_ask b x t) x (Some (Some r))
late_learns b x t r own k = rw (bound_at b x r own k) (record {
  site = refl;
  here = owner_here b x (Bound r) (own_is b x own);
  others = λ y other. owner_other b x y (Bound r) other;
})

-- a name owned elsewhere is known to be bound
pub binding_learns : (b : Records) (x : VarName) (t : Term) → x.site ≢ b.site → HasLearned b (after_binding b x t) x (Some (Some t))
binding_learns b x t other = record {
  site = refl;
  here = proxy_here b x _ (Some t) (not_own b x other) (in_here b.proxies x (Some t));
  others = λ y differ. proxy_other b y _ (in_other b.proxies x y (Some t) differ);
}

-- an own variable is made
pub make_learns : (b : Records) (x : VarName) → x.site ≡ b.site → HasLearned b (after_make b x) x (Some None)
make_learns b x own = record {
  site = refl;
  here = owner_here b x (Open []) (own_is b x own);
  others = λ y other. owner_other b x y (Open []) other;
}

-- ---- meeting a name

pub meet_case : (b : Records) (x : VarName) → MeetCase b x
meet_case b x = own (is_own b x) refl
  where
    known : is_own b x ≡ false → (o : Option (Option Term)) → entry_of b.proxies x ≡ o → MeetCase b x
    known q (Some o) e = inl (rw (q, e) refl, rw (q, e) refl, inr (rw (q, e) refl))
    known q None e = inr (
      rw (q, e) (record {
        site = refl;
        here = proxy_here b x _ None q (last_here b.proxies x None e);
        others = λ y other. proxy_other b y _ (last_other b.proxies x y None other);
      }),
      rw (q, e) refl,
      (λ same. let yes : is_own b x ≡ true = own_is b x same in cc),
      rw (q, e) refl,
      rw q refl,
    )

    own : (c : Bool) → is_own b x ≡ c → MeetCase b x
    own true q = inl (rw q refl, rw q refl, inl ((Decides-eqb x.site b.site).0 q))
    own false q = known q (entry_of b.proxies x) refl

-- ---- a site registers

pub registers_is : (b : Records) (x : VarName) (k : ℕ) → x.site ≡ b.site → HasRegistered b (after_register b x k) x k
registers_is b x k own = go (owner_of b.owners x) refl
  where
    own_true : is_own b x ≡ true
    own_true = own_is b x own

    with : (r : Owner) → owner_of b.owners x ≡ Some r → HasRegistered b (record b { owners = with_owner b.owners x (owners.with_registered r k) }) x k
    with r e = record {
      site = refl;
      same = λ y. same y (equal_var y x) refl;
      listed = λ y i h. listed y i (equal_var y x) refl h;
      joined = λ u. joined r e u;
    }
      where
        alike : (r : Owner) → owner_knows (Some (owners.with_registered r k)) ≡ owner_knows (Some r)
        alike (Open ks) = refl
        alike (Bound t) = refl

        more : (r : Owner) (i : ℕ) → Contains (sites_of (Some r)) i → Contains (sites_of (Some (owners.with_registered r k))) i
        more (Open ks) i h = Contains-append_left ks (k ∷ []) i h
        more (Bound t) i h = h

        same : (y : VarName) (q : Bool) → equal_var y x ≡ q → knowledge (record b { owners = with_owner b.owners x (owners.with_registered r k) }) y ≡ knowledge b y
        same y true q =
            let is : y ≡ x = (same_name_decides y x).0 q in
            rw is (owner_here b x (owners.with_registered r k) own_true ∙ alike r ∙ sym (rw own_true (ap owner_knows e)))
        same y false q = owner_other b x y (owners.with_registered r k) (λ (e : y ≡ x). let yes : equal_var y x ≡ true = (same_name_decides y x).1 e in cc)

        listed : (y : VarName) (i : ℕ) (q : Bool) → equal_var y x ≡ q → Contains (sites_in b y) i → Contains (sites_of (owner_of (with_owner b.owners x (owners.with_registered r k)) y)) i
        listed y i true q h =
            let is : y ≡ x = (same_name_decides y x).0 q in
            rw (is, in_here b.owners x (owners.with_registered r k)) (more r i (subst (λ (o : Option Owner). Contains (sites_of o) i) e (subst (λ (z : VarName). Contains (sites_in b z) i) is h)))
        listed y i false q h =
            rw (in_other b.owners x y (owners.with_registered r k) (λ (e : y ≡ x). let yes : equal_var y x ≡ true = (same_name_decides y x).1 e in cc)) h

        joined : (r : Owner) → owner_of b.owners x ≡ Some r → knowledge b x ≡ Some None → Contains (sites_of (owner_of (with_owner b.owners x (owners.with_registered r k)) x)) k
        joined (Open ks) e u = rw (in_here b.owners x (Open (ks ++ k ∷ []))) (Contains-append_right ks (k ∷ []) k (Contains-head k []))
        joined (Bound t) e u =
            let known : knowledge b x ≡ Some (Some t) = rw own_true (ap owner_knows e) in
            let both : Some None ≡ Some (Some t) = sym u ∙ known in cc

    go : (o : Option Owner) → owner_of b.owners x ≡ o → HasRegistered b (after_register b x k) x k
    go None e = rw e (record {
      site = refl;
      same = λ y. refl;
      listed = λ y i h. h;
      joined = λ u. absurd (unmade u);
    })
      where
        unmade : knowledge b x ≡ Some None → ⊥
        unmade u = let none : knowledge b x ≡ None = rw own_true (ap owner_knows e) in let both : None ≡ Some None = sym none ∙ u in cc
    go (Some r) e = rw e (with r e)

-- ---- what is known stays known

pub owner_known : (b : Records) (x y : VarName) (o : Owner) → IsKnown b y → IsKnown (record b { owners = with_owner b.owners x o }) y
owner_known b x y o h = own (is_own b y) refl
  where
    own : (c : Bool) → is_own b y ≡ c → IsKnown (record b { owners = with_owner b.owners x o }) y
    own false q = rw q (subst (λ (d : Bool). IsTrue (is_some (cond d (owner_knows (owner_of b.owners y)) (entry_of b.proxies y)))) q h)
    own true q = rw q (go (equal_var y x) refl)
      where
        some : (o : Owner) → IsTrue (is_some (owner_knows (Some o)))
        some (Open ks) = refl
        some (Bound t) = refl

        before : IsTrue (is_some (owner_knows (owner_of b.owners y)))
        before = subst (λ (d : Bool). IsTrue (is_some (cond d (owner_knows (owner_of b.owners y)) (entry_of b.proxies y)))) q h

        go : (e : Bool) → equal_var y x ≡ e → IsTrue (is_some (owner_knows (owner_of (with_owner b.owners x o) y)))
        go true e = let is : y ≡ x = (same_name_decides y x).0 e in rw (is, in_here b.owners x o) (some o)
        go false e = rw (in_other b.owners x y o (λ (k : y ≡ x). let yes : equal_var y x ≡ true = (same_name_decides y x).1 k in cc)) before

pub make_known : (b : Records) (x y : VarName) → IsKnown b y → IsKnown (after_make b x) y
make_known b x y h = owner_known b x y (Open []) h

pub ask_known : (b : Records) (x : VarName) (t : Term) (y : VarName) → IsKnown b y → IsKnown (after_ask b x t) y
ask_known b x t y h = go (owner_of b.owners x) refl
  where
    go : (o : Option Owner) → owner_of b.owners x ≡ o → IsKnown (after_ask b x t) y
    go None e = rw e h
    go (Some r) e = rw e (owner_known b x y (owners.after_bind r t) h)

pub proxy_known : (b : Records) (y : VarName) (es : List proxies.Proxy) → (IsTrue (is_some (entry_of b.proxies y)) → IsTrue (is_some (entry_of es y))) → IsKnown b y → IsKnown (record b { proxies = es }) y
proxy_known b y es more h = own (is_own b y) refl
  where
    own : (c : Bool) → is_own b y ≡ c → IsKnown (record b { proxies = es }) y
    own true q = rw q (subst (λ (d : Bool). IsTrue (is_some (cond d (owner_knows (owner_of b.owners y)) (entry_of b.proxies y)))) q h)
    own false q = rw q (more (subst (λ (d : Bool). IsTrue (is_some (cond d (owner_knows (owner_of b.owners y)) (entry_of b.proxies y)))) q h))

pub binding_known : (b : Records) (x : VarName) (t : Term) (y : VarName) → IsKnown b y → IsKnown (after_binding b x t) y
binding_known b x t y h = proxy_known b y _ (λ k. go k (equal_var y x) refl) h
  where
    go : IsTrue (is_some (entry_of b.proxies y)) → (e : Bool) → equal_var y x ≡ e → IsTrue (is_some (entry_of (proxies.after_bound b.proxies x t) y))
    go k true e = let is : y ≡ x = (same_name_decides y x).0 e in rw (is, in_here b.proxies x (Some t)) refl
    go k false e = rw (in_other b.proxies x y (Some t) (λ (q : y ≡ x). let yes : equal_var y x ≡ true = (same_name_decides y x).1 q in cc)) k

pub meet_known : (b : Records) (x y : VarName) → IsKnown b y → IsKnown (after_meet b x) y
meet_known b x y h = go (meet_case b x)
  where
    go : MeetCase b x → IsKnown (after_meet b x) y
    go (inl (same, none, known)) = rw same h
    go (inr (l, none, elsewhere, sends, owners)) = one (equal_var y x) refl
      where
        one : (e : Bool) → equal_var y x ≡ e → IsKnown (after_meet b x) y
        one true e = let is : y ≡ x = (same_name_decides y x).0 e in rw (is, l.here) refl
        one false e = rw (l.others y (λ (q : y ≡ x). let yes : equal_var y x ≡ true = (same_name_decides y x).1 q in cc)) h

-- a bind that a thread wants
want_learns : (b : Records) (x : VarName) (t : Term) → x.site ≡ b.site → knowledge b x ≡ Some None → HasLearned b (after_want b x t) x (Some (Some t))
want_learns b x t own k = subst (λ (c : Bool). HasLearned b (cond c (after_ask b x t) b) x (Some (Some t))) (sym (own_is b x own)) (ask_learns b x t own k)

request_learns : (b : Records) (x : VarName) (t : Term) → x.site ≢ b.site → after_want b x t ≡ b
request_learns b x t other = ap (λ (c : Bool). cond c (after_ask b x t) b) (not_own b x other)

want_known : (b : Records) (x : VarName) (t : Term) (y : VarName) → IsKnown b y → IsKnown (after_want b x t) y
want_known b x t y h = go (is_own b x)
  where
    go : (c : Bool) → IsKnown (cond c (after_ask b x t) b) y
    go true = ask_known b x t y h
    go false = h

-- ---- the laws

pub rows_teach : RowsTeach
rows_teach = record {
  make = make_learns;
  meet = meet_case;
  register = registers_is;
  ask = ask_learns;
  late = late_learns;
  binding = binding_learns;
  want = want_learns;
  request = request_learns;
}

pub known_stays : KnownStays
known_stays = record { make = make_known; meet = meet_known; ask = ask_known; binding = binding_known; want = want_known }
