-- What a site knows of names, as its records change.
use Rattle.std.proofs.Common.{arith, ◌≡◌, ◌≢◌, ◌∙◌, sym, ap, refl, subst, ℕ, ◌+◌, ◌<◌, ◌≤◌, List, [], ◌∷◌, ◌++◌, ◌⊎◌, inl, inr, Bool, true, false, cond, Some, None}
use Rattle.std.specs.Prelude.{Option, Contains, is_some, IsTrue}
use Rattle.tree_node.specs.declared.names.VarName.{VarName}
use Rattle.tree_node.specs.declared.names.NameKind.{NameKind}
use Rattle.tree_node.specs.declared.names.NameKind.TheVariants as kind
use Rattle.tree_node.specs.declared.node.Term.{Term}
use Rattle.tree_node.specs.Each.{Each}
use Rattle.tree_node.proofs.ClassLemmas.{Contains-cons_cases, Contains-head, Contains-tail}
use Rattle.proxy_table.specs.Proxies.{entry_of}
use Rattle.variable_owner.specs.declared.owners.Owner.{Owner}
use Rattle.variable_owner.specs.declared.owners.Owner.TheVariants.{Open, Bound}
use Rattle.variable_owner.specs.Owners.{owner_of, with_owner, with_registered, after_bind}
use Rattle.oz_model.specs.Effect.{vars_among}
use Rattle.bind_protocol.specs.Records.{Records, is_own, knowledge, owner_knows, IsKnown}
use Rattle.bind_protocol.specs.Rows.{after_make, after_meet, after_register, after_ask, after_binding, after_meets}
use Rattle.bind_protocol.proofs.LookLemmas.{in_here, in_other, last_here, last_other, owner_here, owner_other, proxy_here, proxy_other}
use Rattle.site_model.specs.Site.{Counters}
use Rattle.site_model.specs.Variables.{after_makes}
use Rattle.site_model.specs.Unit.{next_names, counter_after, counters_after}
use Rattle.world_model.proofs.PutLemmas.{nat_decides}
use Rattle.world_model.proofs.MailLemmas.{nothing}
use Rattle.bind_protocol.proofs.RowCountLemmas.{name_cases}
use Rattle.bind_protocol.proofs.LearnLemmas.{own_is, not_own}

-- what is known stays known; what is newly known bound is x, to t
pub record Goes (b c : Records) (x : VarName) (o : Option Term) : Type 0 where
  pub site : c.site ≡ b.site
  pub keeps : (y : VarName) → IsKnown b y → IsKnown c y
  pub from : (y : VarName) → IsKnown c y → IsKnown b y ⊎ (y ≡ x)
  pub bound : (y : VarName) (r : Term) → knowledge c y ≡ Some (Some r) → (knowledge b y ≡ Some (Some r)) ⊎ ((y ≡ x) × (o ≡ Some r))

pub stays : (b : Records) (x : VarName) (o : Option Term) → Goes b b x o
stays b x o = record { site = refl; keeps = λ y h. h; from = λ y h. inl h; bound = λ y r e. inl e }

-- a change at one name
changes : (b c : Records) (x : VarName) (v o : Option Term) → c.site ≡ b.site → knowledge c x ≡ Some v → ((y : VarName) → y ≢ x → knowledge c y ≡ knowledge b y) → ((r : Term) → v ≡ Some r → (knowledge b x ≡ Some (Some r)) ⊎ (o ≡ Some r)) → Goes b c x o
changes b c x v o site here others new = record {
  site = site;
  keeps = λ y h. keeps y h (name_cases y x);
  from = λ y h. from y h (name_cases y x);
  bound = λ y r e. bound y r e (name_cases y x);
}
  where
    from : (y : VarName) → IsKnown c y → (y ≡ x) ⊎ (y ≢ x) → IsKnown b y ⊎ (y ≡ x)
    from y h (inl e) = inr e
    from y h (inr n) = inl (subst (λ (k : Option (Option Term)). IsTrue (is_some k)) (others y n) h)

    keeps : (y : VarName) → IsKnown b y → (y ≡ x) ⊎ (y ≢ x) → IsKnown c y
    keeps y h (inl e) = subst (λ (z : VarName). IsKnown c z) (sym e) (rw here refl)
    keeps y h (inr n) = subst (λ (k : Option (Option Term)). IsTrue (is_some k)) (sym (others y n)) h

    bound : (y : VarName) (r : Term) → knowledge c y ≡ Some (Some r) → (y ≡ x) ⊎ (y ≢ x) → (knowledge b y ≡ Some (Some r)) ⊎ ((y ≡ x) × (o ≡ Some r))
    bound y r e (inl q) = go (new r now)
      where
        now : v ≡ Some r
        now = let k : knowledge c x ≡ Some (Some r) = subst (λ (z : VarName). knowledge c z ≡ Some (Some r)) q e in let both : Some v ≡ Some (Some r) = sym here ∙ k in cc

        go : (knowledge b x ≡ Some (Some r)) ⊎ (o ≡ Some r) → (knowledge b y ≡ Some (Some r)) ⊎ ((y ≡ x) × (o ≡ Some r))
        go (inl k) = inl (subst (λ (z : VarName). knowledge b z ≡ Some (Some r)) (sym q) k)
        go (inr k) = inr (q, k)
    bound y r e (inr n) = inl (sym (others y n) ∙ e)

pub make_goes : (b : Records) (x : VarName) → x.site ≡ b.site → Goes b (after_make b x) x None
make_goes b x own = changes b (after_make b x) x None None refl (owner_here b x (Open []) (own_is b x own)) (λ y n. owner_other b x y (Open []) n) (λ r e. let no : ◌≡◌ {A = Option Term} None (Some r) = e in cc)

knows_at : (b : Records) (x : VarName) (o : Owner) → x.site ≡ b.site → owner_of b.owners x ≡ Some o → knowledge b x ≡ owner_knows (Some o)
knows_at b x o own q = rw (own_is b x own) (ap owner_knows q)

pub ask_goes : (b : Records) (x : VarName) (t : Term) → x.site ≡ b.site → Goes b (after_ask b x t) x (Some t)
ask_goes b x t own = go (owner_of b.owners x) refl
  where
    known : (o : Owner) → owner_of b.owners x ≡ Some o → Goes b (record b { owners = with_owner b.owners x (after_bind o t) }) x (Some t)
    known (Open ks) q = changes b (record b { owners = with_owner b.owners x (Bound t) }) x (Some t) (Some t) refl (owner_here b x (Bound t) (own_is b x own)) (λ y n. owner_other b x y (Bound t) n) (λ r e. inr e)
    known (Bound r) q = changes b (record b { owners = with_owner b.owners x (Bound r) }) x (Some r) (Some t) refl (owner_here b x (Bound r) (own_is b x own)) (λ y n. owner_other b x y (Bound r) n) (λ u e. inl (knows_at b x (Bound r) own q ∙ ap Some e))

    go : (o : Option Owner) → owner_of b.owners x ≡ o → Goes b (after_ask b x t) x (Some t)
    go None q = rw q (stays b x (Some t))
    go (Some o) q = rw q (known o q)

pub register_goes : (b : Records) (x : VarName) (k : ℕ) → x.site ≡ b.site → Goes b (after_register b x k) x None
register_goes b x k own = go (owner_of b.owners x) refl
  where
    known : (o : Owner) → owner_of b.owners x ≡ Some o → Goes b (record b { owners = with_owner b.owners x (with_registered o k) }) x None
    known (Open ks) q = changes b (record b { owners = with_owner b.owners x (Open (ks ++ k ∷ [])) }) x None None refl (owner_here b x (Open (ks ++ k ∷ [])) (own_is b x own)) (λ y n. owner_other b x y (Open (ks ++ k ∷ [])) n) (λ r e. inr e)
    known (Bound r) q = changes b (record b { owners = with_owner b.owners x (Bound r) }) x (Some r) None refl (owner_here b x (Bound r) (own_is b x own)) (λ y n. owner_other b x y (Bound r) n) (λ u e. inl (knows_at b x (Bound r) own q ∙ ap Some e))

    go : (o : Option Owner) → owner_of b.owners x ≡ o → Goes b (after_register b x k) x None
    go None q = rw q (stays b x None)
    go (Some o) q = rw q (known o q)

pub binding_goes : (b : Records) (x : VarName) (t : Term) → x.site ≢ b.site → Goes b (after_binding b x t) x (Some t)
binding_goes b x t other = changes b (after_binding b x t) x (Some t) (Some t) refl (proxy_here b x _ (Some t) (not_own b x other) (in_here b.proxies x (Some t))) (λ y n. proxy_other b y _ (in_other b.proxies x y (Some t) n)) (λ r e. inr e)

-- and a name that is met is known, if it is another site's or was made
pub record Meets (b c : Records) (x : VarName) : Type 0 where
  pub goes : Goes b c x None
  pub met : (x.site ≡ b.site → IsKnown b x) → IsKnown c x

pub meet_goes : (b : Records) (x : VarName) → Meets b (after_meet b x) x
meet_goes b x = go (is_own b x) refl
  where
    new : is_own b x ≡ false → (o : Option (Option Term)) → entry_of b.proxies x ≡ o → Meets b (record b { proxies = cond (is_some o) b.proxies (b.proxies ++ (x, None) ∷ []) }) x
    new q None e =
        let here : knowledge (record b { proxies = b.proxies ++ (x, None) ∷ [] }) x ≡ Some None = proxy_here b x (b.proxies ++ (x, None) ∷ []) None q (last_here b.proxies x None e) in
        record {
          goes = changes b (record b { proxies = b.proxies ++ (x, None) ∷ [] }) x None None refl here (λ y n. proxy_other b y _ (last_other b.proxies x y None n)) (λ r f. inr f);
          met = λ k. rw here refl;
        }
    new q (Some v) e = record { goes = stays b x None; met = λ k. rw (q, e) refl }

    go : (c : Bool) → is_own b x ≡ c → Meets b (after_meet b x) x
    go true q = rw q (record { goes = stays b x None; met = λ k. k ((nat_decides x.site b.site).0 q) })
    go false q = rw q (new q (entry_of b.proxies x) refl)

-- ---- lists of names

pub record Grows (b c : Records) : Type 0 where
  pub site : c.site ≡ b.site
  pub keeps : (y : VarName) → IsKnown b y → IsKnown c y
  pub bound : (y : VarName) (r : Term) → knowledge c y ≡ Some (Some r) → knowledge b y ≡ Some (Some r)

never : {A : Type 0} (a : A) → ◌≡◌ {A = Option A} None (Some a) → ⊥
never a e = cc

pub without_bind : (b c : Records) (x : VarName) → Goes b c x None → Grows b c
without_bind b c x g = record { site = g.site; keeps = g.keeps; bound = λ y r e. only y r (g.bound y r e) }
  where
    only : (y : VarName) (r : Term) → (knowledge b y ≡ Some (Some r)) ⊎ ((y ≡ x) × (None ≡ Some r)) → knowledge b y ≡ Some (Some r)
    only y r (inl k) = k
    only y r (inr k) = absurd (never r k.1)

grows_on : (b c d : Records) → Grows b c → Grows c d → Grows b d
grows_on b c d g h = record { site = h.site ∙ g.site; keeps = λ y k. h.keeps y (g.keeps y k); bound = λ y r e. g.bound y r (h.bound y r e) }

grows_same : (b : Records) → Grows b b
grows_same b = record { site = refl; keeps = λ y h. h; bound = λ y r e. e }

pub record MeetsAll (b c : Records) (xs : List VarName) : Type 0 where
  pub grows : Grows b c
  pub from : (x : VarName) → IsKnown c x → IsKnown b x ⊎ Contains xs x
  pub met : (x : VarName) → Contains xs x → (x.site ≡ b.site → IsKnown b x) → IsKnown c x

pub meets_all : (xs : List VarName) (b : Records) → MeetsAll b (after_meets b xs) xs
meets_all [] b = record { grows = grows_same b; from = λ x h. inl h; met = λ x at f. absurd (nothing x at) }
meets_all (y ∷ ys) b = go (meet_goes b y) (meets_all ys (after_meet b y))
  where
    go : Meets b (after_meet b y) y → MeetsAll (after_meet b y) (after_meets (after_meet b y) ys) ys → MeetsAll b (after_meets (after_meet b y) ys) (y ∷ ys)
    go m r = record {
      grows = grows_on b (after_meet b y) _ (without_bind b (after_meet b y) y m.goes) r.grows;
      from = λ x h. from x (r.from x h);
      met = λ x at f. by x f (Contains-cons_cases y x ys at);
    }
      where
        head : (x : VarName) → IsKnown b x ⊎ (x ≡ y) → IsKnown b x ⊎ Contains (y ∷ ys) x
        head x (inl h) = inl h
        head x (inr e) = inr (subst (λ (z : VarName). Contains (y ∷ ys) z) (sym e) (Contains-head y ys))

        from : (x : VarName) → IsKnown (after_meet b y) x ⊎ Contains ys x → IsKnown b x ⊎ Contains (y ∷ ys) x
        from x (inl h) = head x (m.goes.from x h)
        from x (inr c) = inr (Contains-tail y x ys c)

        by : (x : VarName) → (x.site ≡ b.site → IsKnown b x) → (y ≡ x) ⊎ Contains ys x → IsKnown (after_meets (after_meet b y) ys) x
        by x f (inl e) = r.grows.keeps x (subst (λ (z : VarName). IsKnown (after_meet b y) z) e (m.met (λ own. subst (λ (z : VarName). IsKnown b z) (sym e) (f (ap (λ (z : VarName). z.site) (sym e) ∙ own)))))
        by x f (inr k) = r.met x k (λ own. m.goes.keeps x (f (own ∙ m.goes.site)))

-- own variables are made
pub record MakesAll (b c : Records) (xs : List VarName) : Type 0 where
  pub grows : Grows b c
  pub from : (x : VarName) → IsKnown c x → IsKnown b x ⊎ Contains xs x
  pub counters : (x : VarName) → Contains xs x → IsKnown c x

pub makes_all : (xs : List VarName) (b : Records) → Each (λ (x : VarName). x.site ≡ b.site) xs → MakesAll b (after_makes b xs) xs
makes_all [] b own = record { grows = grows_same b; from = λ x h. inl h; counters = λ x at. absurd (nothing x at) }
makes_all (y ∷ ys) b own = go (makes_all ys (after_make b y) own.1)
  where
    g : Goes b (after_make b y) y None
    g = make_goes b y own.0

    first : IsKnown (after_make b y) y
    first = rw (owner_here b y (Open []) (own_is b y own.0)) refl

    go : MakesAll (after_make b y) (after_makes (after_make b y) ys) ys → MakesAll b (after_makes (after_make b y) ys) (y ∷ ys)
    go r = record {
      grows = grows_on b (after_make b y) _ (without_bind b (after_make b y) y g) r.grows;
      from = λ x h. from x (r.from x h);
      counters = λ x at. by x (Contains-cons_cases y x ys at);
    }
      where
        head : (x : VarName) → IsKnown b x ⊎ (x ≡ y) → IsKnown b x ⊎ Contains (y ∷ ys) x
        head x (inl h) = inl h
        head x (inr e) = inr (subst (λ (z : VarName). Contains (y ∷ ys) z) (sym e) (Contains-head y ys))

        from : (x : VarName) → IsKnown (after_make b y) x ⊎ Contains ys x → IsKnown b x ⊎ Contains (y ∷ ys) x
        from x (inl h) = head x (g.from x h)
        from x (inr c) = inr (Contains-tail y x ys c)

        by : (x : VarName) → (y ≡ x) ⊎ Contains ys x → IsKnown (after_makes (after_make b y) ys) x
        by x (inl e) = r.grows.keeps x (subst (λ (z : VarName). IsKnown (after_make b y) z) e first)
        by x (inr k) = r.counters x k

-- those that are counted after names were made were counted before, or are among them
pub counted_cases : (i : ℕ) (c : Counters) (kinds : List NameKind) (x : VarName) → x.site ≡ i → x.num < (counters_after c kinds).vars → (x.num < c.vars) ⊎ Contains (vars_among (next_names i c kinds)) x
counted_cases i c [] x own h = inl h
counted_cases i c (kind.Var ∷ ks) x own h = go (counted_cases i (counter_after c kind.Var) ks x own h)
  where
    this : VarName
    this = record { site = i; num = c.vars }

    last : (x.num < c.vars) ⊎ (x.num ≡ c.vars) → (x.num < c.vars) ⊎ Contains (record { site = i; num = c.vars } ∷ vars_among (next_names i (counter_after c kind.Var) ks)) x
    last (inl k) = inl k
    last (inr k) = inr (subst (λ (z : VarName). Contains (record { site = i; num = c.vars } ∷ vars_among (next_names i (counter_after c kind.Var) ks)) z) (names i c.vars x (sym own) (sym k)) (Contains-head _ (vars_among (next_names i (counter_after c kind.Var) ks))))
      where
        names : (i k : ℕ) (x : VarName) → i ≡ x.site → k ≡ x.num → ◌≡◌ {A = VarName} (record { site = i; num = k }) x
        names i k x p q = rw (p, q) refl

    split : x.num < c.vars + 1 → (x.num < c.vars) ⊎ (x.num ≡ c.vars)
    split k = search (arith, k)

    go : (x.num < c.vars + 1) ⊎ Contains (vars_among (next_names i (counter_after c kind.Var) ks)) x → (x.num < c.vars) ⊎ Contains (record { site = i; num = c.vars } ∷ vars_among (next_names i (counter_after c kind.Var) ks)) x
    go (inl k) = last (split k)
    go (inr k) = inr (Contains-tail _ x (vars_among (next_names i (counter_after c kind.Var) ks)) k)
counted_cases i c (kind.Cell ∷ ks) x own h = counted_cases i (counter_after c kind.Cell) ks x own h
counted_cases i c ((kind.CellAt at_home) ∷ ks) x own h = counted_cases i (counter_after c (kind.CellAt at_home)) ks x own h
counted_cases i c (kind.Proc ∷ ks) x own h = counted_cases i (counter_after c kind.Proc) ks x own h
counted_cases i c (kind.Port ∷ ks) x own h = counted_cases i (counter_after c kind.Port) ks x own h
counted_cases i c (kind.Thread ∷ ks) x own h = counted_cases i (counter_after c kind.Thread) ks x own h

-- and those among them are counted
pub counted_back : (i : ℕ) (c : Counters) (kinds : List NameKind) (x : VarName) → Contains (vars_among (next_names i c kinds)) x → x.num < (counters_after c kinds).vars
counted_back i c kinds x h = (all_back i c kinds).1 x h
  where
    all_back : (i : ℕ) (c : Counters) (kinds : List NameKind) → (c.vars ≤ (counters_after c kinds).vars) × ((x : VarName) → Contains (vars_among (next_names i c kinds)) x → x.num < (counters_after c kinds).vars)
    all_back i c [] = (omega arith, λ x h. absurd (nothing x h))
    all_back i c (kind.Var ∷ ks) =
        let r = all_back i (counter_after c kind.Var) ks in
        (omega (arith, r.0), λ x h. by i c ks r x (Contains-cons_cases (record { site = i; num = c.vars }) x (vars_among (next_names i (counter_after c kind.Var) ks)) h))
      where
        by : (i : ℕ) (c : Counters) (ks : List NameKind) → ((counter_after c kind.Var).vars ≤ (counters_after (counter_after c kind.Var) ks).vars) × ((x : VarName) → Contains (vars_among (next_names i (counter_after c kind.Var) ks)) x → x.num < (counters_after (counter_after c kind.Var) ks).vars) →
            (x : VarName) → (◌≡◌ {A = VarName} (record { site = i; num = c.vars }) x) ⊎ Contains (vars_among (next_names i (counter_after c kind.Var) ks)) x → x.num < (counters_after (counter_after c kind.Var) ks).vars
        by i c ks r x (inl e) = let n : c.vars ≡ x.num = ap (λ (z : VarName). z.num) e in omega (arith, r.0)
        by i c ks r x (inr k) = r.1 x k
    all_back i c (kind.Cell ∷ ks) = all_back i (counter_after c kind.Cell) ks
    all_back i c ((kind.CellAt at_home) ∷ ks) = all_back i (counter_after c (kind.CellAt at_home)) ks
    all_back i c (kind.Proc ∷ ks) = all_back i (counter_after c kind.Proc) ks
    all_back i c (kind.Port ∷ ks) = all_back i (counter_after c kind.Port) ks
    all_back i c (kind.Thread ∷ ks) = all_back i (counter_after c kind.Thread) ks

pub counted_more : (i : ℕ) (c : Counters) (kinds : List NameKind) → c.vars ≤ (counters_after c kinds).vars
counted_more i c [] = omega arith
counted_more i c (kind.Var ∷ ks) = omega (arith, counted_more i (counter_after c kind.Var) ks)
counted_more i c (kind.Cell ∷ ks) = counted_more i (counter_after c kind.Cell) ks
counted_more i c ((kind.CellAt at_home) ∷ ks) = counted_more i (counter_after c (kind.CellAt at_home)) ks
counted_more i c (kind.Proc ∷ ks) = counted_more i (counter_after c kind.Proc) ks
counted_more i c (kind.Port ∷ ks) = counted_more i (counter_after c kind.Port) ks
counted_more i c (kind.Thread ∷ ks) = counted_more i (counter_after c kind.Thread) ks
