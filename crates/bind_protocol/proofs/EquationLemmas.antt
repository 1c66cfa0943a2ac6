-- What sites know is what owners know: each row, rows together, and a world of which one site goes on.
use Rattle.std.proofs.Common.{◌≡◌, ◌≢◌, ◌∙◌, sym, ap, refl, subst, ℕ, ◌<◌, List, [], ◌∷◌, ◌++◌, map, ◌⊎◌, inl, inr, Bool, true, false, cond, Some, None}
use Rattle.std.specs.Prelude.{Option, ◌==◌, Contains}
use Rattle.std.specs.Bool.{Decides}
use Rattle.std.proofs.lemmas.List.Elements.{Contains-append_left, Contains-append_right, Contains-append_cases}
use Rattle.tree_node.specs.declared.names.VarName.{VarName}
use Rattle.tree_node.specs.declared.names.ThreadName.{ThreadName}
use Rattle.tree_node.specs.declared.node.Term.{Term}
use Rattle.tree_node.specs.Order.{IsLower}
use Rattle.tree_node.specs.Store.{Equation}
use Rattle.tree_node.proofs.ClassLemmas.{Contains-cons_cases}
use Rattle.site_message.specs.declared.message.Sent.{Sent}
use Rattle.variable_owner.specs.declared.owners.Owner.{Owner}
use Rattle.variable_owner.specs.declared.owners.Owner.TheVariants.{Open, Bound}
use Rattle.variable_owner.specs.Owners.{owner_of, sites_of}
use Rattle.bind_protocol.specs.Records.{Records, is_own, knowledge, owner_knows}
use Rattle.bind_protocol.specs.Rows.{register, request, binding, after_make, after_meet, meet_sends, after_meets, meets_send, after_register, register_answer, register_sends, after_ask, ask_sends, after_binding, after_want, want_sends}
use Rattle.bind_protocol.specs.World.{IsDownward}
use Rattle.bind_protocol.specs.Count.{GoesOn}
use Rattle.bind_protocol.specs.Learn.{HasLearned, HasRegistered, MeetCase}
use Rattle.bind_protocol.specs.Equations.{equations_in, IsMessageEquation, IsBound, EquationsAreOwned, KeepsEquations, RowsKeepEquations, EquationsJoin, EquationsGoOn}
use Rattle.bind_protocol.proofs.RowCountLemmas.{name_cases}
use Rattle.bind_protocol.proofs.LearnLemmas.{meet_case, binding_learns, make_learns, ask_learns, late_learns, registers_is}
use Rattle.bind_protocol.proofs.KnowLemmas.{own_here}
use Rattle.std.proofs.lemmas.Bool.Decides.{Decides-eqb}
use Rattle.tree_node.proofs.OrderLemmas.{none as nothing}

-- ---- what messages tell

none_told : (x : VarName) (t : Term) → IsMessageEquation [] x t → ⊥
none_told x t h = nothing h.0 h.1

-- of one message
one_told : (m : Sent) (x : VarName) (t : Term) → IsMessageEquation (m ∷ []) x t → Contains (equations_in m.msg) (x, t)
one_told m x t (o, at, is) = go (Contains-cons_cases m o [] at)
  where
    go : (m ≡ o) ⊎ Contains [] o → Contains (equations_in m.msg) (x, t)
    go (inl e) = subst (λ (s : Sent). Contains (equations_in s.msg) (x, t)) (sym e) is
    go (inr h) = absurd (nothing o h)

one_asked : (m : Sent) → IsDownward m → (o : Sent) → Contains (m ∷ []) o → IsDownward o
one_asked m down o at = go (Contains-cons_cases m o [] at)
  where
    go : (m ≡ o) ⊎ Contains [] o → IsDownward o
    go (inl e) = subst IsDownward e down
    go (inr h) = absurd (nothing o h)

none_asked : (m : Sent) → Contains [] m → IsDownward m
none_asked m h = absurd (nothing m h)

-- the Bindings of x to t tell this equation alone
bindings_tell : (x : VarName) (t : Term) (ks : List ℕ) (y : VarName) (r : Term) → IsMessageEquation (map (λ (k : ℕ). binding x t k) ks) y r → (y ≡ x) × (r ≡ t)
bindings_tell x t [] y r h = absurd (none_told y r h)
bindings_tell x t (k ∷ ks) y r (m, at, is) = go (λ h. bindings_tell x t ks y r (m, h, is)) (Contains-cons_cases _ m _ at)
  where
    one : Contains {X = Equation} ((x, t) ∷ []) (y, r) → (y ≡ x) × (r ≡ t)
    one h = split (Contains-cons_cases {X = Equation} (x, t) (y, r) [] h)
      where
        split : (◌≡◌ {A = Equation} (x, t) (y, r)) ⊎ Contains {X = Equation} [] (y, r) → (y ≡ x) × (r ≡ t)
        split (inl e) = (sym (ap (λ (p : Equation). p.0) e), sym (ap (λ (p : Equation). p.1) e))
        split (inr q) = absurd (nothing {X = Equation} (y, r) q)

    go : (Contains (map (λ (j : ℕ). binding x t j) ks) m → (y ≡ x) × (r ≡ t)) → (binding x t k ≡ m) ⊎ Contains (map (λ (j : ℕ). binding x t j) ks) m → (y ≡ x) × (r ≡ t)
    go rest (inl e) = one (subst (λ (s : Sent). Contains (equations_in s.msg) (y, r)) (sym e) is)
    go rest (inr h) = rest h

bindings_ask : (x : VarName) (t : Term) (ks : List ℕ) (m : Sent) → Contains (map (λ (k : ℕ). binding x t k) ks) m → IsDownward m
bindings_ask x t [] m at = none_asked m at
bindings_ask x t (k ∷ ks) m at = go (λ h. bindings_ask x t ks m h) (Contains-cons_cases _ m _ at)
  where
    go : (Contains (map (λ (j : ℕ). binding x t j) ks) m → IsDownward m) → (binding x t k ≡ m) ⊎ Contains (map (λ (j : ℕ). binding x t j) ks) m → IsDownward m
    go rest (inl e) = subst IsDownward e tt
    go rest (inr h) = rest h

-- ---- the rows

-- the same is known, and what is known may be told
same_equations : (b c : Records) (hand out : List Sent) → c.site ≡ b.site → ((y : VarName) → knowledge c y ≡ knowledge b y) → ((x : VarName) (t : Term) → IsMessageEquation out x t → IsBound b x t) →
    ((m : Sent) → Contains out m → IsDownward m) → KeepsEquations b c hand out
same_equations b c hand out site same told asked = record {
  site = site;
  stays = λ x t h. same x ∙ h;
  new = λ x t h. inl (sym (same x) ∙ h);
  told = λ x t h. same x ∙ told x t h;
  asked = asked;
}

-- one name is learnt
learns_equations : (b c : Records) (hand out : List Sent) (x : VarName) (o : Option (Option Term)) → HasLearned b c x o → ((t : Term) → IsBound b x t → o ≡ Some (Some t)) →
    ((t : Term) → o ≡ Some (Some t) → IsBound b x t ⊎ (((x.site ≡ b.site) × IsLower t x) ⊎ IsMessageEquation hand x t)) →
    ((y : VarName) (t : Term) → IsMessageEquation out y t → IsBound c y t) → ((m : Sent) → Contains out m → IsDownward m) → KeepsEquations b c hand out
learns_equations b c hand out x o l stay new told asked = record {
  site = l.site;
  stays = λ y t h. stays y t h (name_cases y x);
  new = λ y t h. learnt y t h (name_cases y x);
  told = told;
  asked = asked;
}
  where
    stays : (y : VarName) (t : Term) → IsBound b y t → (y ≡ x) ⊎ (y ≢ x) → IsBound c y t
    stays y t h (inl e) = subst (λ (z : VarName). IsBound c z t) (sym e) (l.here ∙ stay t (subst (λ (z : VarName). IsBound b z t) e h))
    stays y t h (inr n) = l.others y n ∙ h

    learnt : (y : VarName) (t : Term) → IsBound c y t → (y ≡ x) ⊎ (y ≢ x) → IsBound b y t ⊎ (((y.site ≡ b.site) × IsLower t y) ⊎ IsMessageEquation hand y t)
    learnt y t h (inl e) = subst (λ (z : VarName). IsBound b z t ⊎ (((z.site ≡ b.site) × IsLower t z) ⊎ IsMessageEquation hand z t)) (sym e) (new t (sym l.here ∙ subst (λ (z : VarName). IsBound c z t) e h))
    learnt y t h (inr n) = inl (sym (l.others y n) ∙ h)

not_bound : (t : Term) → ◌≡◌ {A = Option (Option Term)} (Some None) (Some (Some t)) → ⊥
not_bound t e = cc

not_known : (o : Option (Option Term)) (t : Term) → o ≡ None → o ≡ Some (Some t) → ⊥
not_known None t e f = cc
not_known (Some o) t e f = cc

make_equations : (b : Records) (x : VarName) → x.site ≡ b.site → knowledge b x ≡ None → KeepsEquations b (after_make b x) [] []
make_equations b x own new =
    learns_equations b (after_make b x) [] [] x (Some None) (make_learns b x own) (λ t h. absurd (not_known (knowledge b x) t new h)) (λ t e. absurd (not_bound t e)) (λ y t h. absurd (none_told y t h)) none_asked

unchanged : (b : Records) (hand : List Sent) → KeepsEquations b b hand []
unchanged b hand = same_equations b b hand [] refl (λ y. refl) (λ x t h. absurd (none_told x t h)) none_asked

meet_equations : (b : Records) (x : VarName) → KeepsEquations b (after_meet b x) [] (meet_sends b x)
meet_equations b x = go (meet_case b x)
  where
    go : MeetCase b x → KeepsEquations b (after_meet b x) [] (meet_sends b x)
    go (inl (same, none, known)) = rw (same, none) (unchanged b [])
    go (inr (l, new, elsewhere, sends, owners)) = rw sends (learns_equations b (after_meet b x) [] (register x b.site ∷ []) x (Some None) l (λ t h. absurd (not_known (knowledge b x) t new h)) (λ t e. absurd (not_bound t e))
        (λ y t h. absurd (nothing {X = Equation} (y, t) (one_told (register x b.site) y t h))) (one_asked (register x b.site) tt))

register_equations : (b : Records) (x : VarName) (k : ℕ) → x.site ≡ b.site → KeepsEquations b (after_register b x k) [] (register_sends b x k)
register_equations b x k own = go (owner_of b.owners x) refl
  where
    r : HasRegistered b (after_register b x k) x k
    r = registers_is b x k own

    go : (o : Option Owner) → owner_of b.owners x ≡ o → KeepsEquations b (after_register b x k) [] (register_answer (owner_of b.owners x) x k)
    go None q = subst (λ (o : Option Owner). KeepsEquations b (after_register b x k) [] (register_answer o x k)) (sym q)
        (same_equations b (after_register b x k) [] [] r.site r.same (λ y t h. absurd (none_told y t h)) none_asked)
    go (Some (Open ks)) q = subst (λ (o : Option Owner). KeepsEquations b (after_register b x k) [] (register_answer o x k)) (sym q)
        (same_equations b (after_register b x k) [] [] r.site r.same (λ y t h. absurd (none_told y t h)) none_asked)
    go (Some (Bound t)) q = subst (λ (o : Option Owner). KeepsEquations b (after_register b x k) [] (register_answer o x k)) (sym q)
        (same_equations b (after_register b x k) [] (binding x t k ∷ []) r.site r.same (λ y s h. tells y s (bindings_tell x t (k ∷ []) y s h)) (bindings_ask x t (k ∷ [])))
      where
        bound : IsBound b x t
        bound = own_here b x own ∙ ap owner_knows q

        tells : (y : VarName) (s : Term) → (y ≡ x) × (s ≡ t) → IsBound b y s
        tells y s (e, f) = subst (λ (z : VarName). IsBound b z s) (sym e) (subst (λ (u : Term). IsBound b x u) (sym f) bound)

ask_equations : (b : Records) (x : VarName) (t : Term) → x.site ≡ b.site → IsLower t x → KeepsEquations b (after_ask b x t) [] (ask_sends b x t)
ask_equations b x t own low = go (owner_of b.owners x) refl
  where
    known : (o : Option Owner) → owner_of b.owners x ≡ o → knowledge b x ≡ owner_knows o
    known o q = own_here b x own ∙ ap owner_knows q

    out : Option Owner → List Sent
    out o = map (λ (k : ℕ). binding x t k) (sites_of o)

    go : (o : Option Owner) → owner_of b.owners x ≡ o → KeepsEquations b (after_ask b x t) [] (ask_sends b x t)
    go None q = rw q (unchanged b [])
    go (Some (Open ks)) q = subst (λ (o : Option Owner). KeepsEquations b (after_ask b x t) [] (map (λ (k : ℕ). binding x t k) (sites_of o))) (sym q)
        (learns_equations b (after_ask b x t) [] (map (λ (k : ℕ). binding x t k) ks) x (Some (Some t)) l (λ r h. absurd (not_bound r (sym open_now ∙ h)))
        (λ r e. let same : t ≡ r = cc in inr (inl (own, subst (λ (u : Term). IsLower u x) same low))) (λ y s h. tells y s (bindings_tell x t ks y s h)) (bindings_ask x t ks))
      where
        open_now : knowledge b x ≡ Some None
        open_now = known (Some (Open ks)) q

        l : HasLearned b (after_ask b x t) x (Some (Some t))
        l = ask_learns b x t own open_now

        tells : (y : VarName) (s : Term) → (y ≡ x) × (s ≡ t) → IsBound (after_ask b x t) y s
        tells y s (e, f) = subst (λ (z : VarName). IsBound (after_ask b x t) z s) (sym e) (subst (λ (u : Term). IsBound (after_ask b x t) x u) (sym f) l.here)
    go (Some (Bound r)) q = subst (λ (o : Option Owner). KeepsEquations b (after_ask b x t) [] (map (λ (k : ℕ). binding x t k) (sites_of o))) (sym q)
        (learns_equations b (after_ask b x t) [] [] x (Some (Some r)) (late_learns b x t r own bound_now) (λ s h. sym bound_now ∙ h) (λ s e. inl (bound_now ∙ e)) (λ y s h. absurd (none_told y s h)) none_asked)
      where
        bound_now : knowledge b x ≡ Some (Some r)
        bound_now = known (Some (Bound r)) q

binding_equations : (b : Records) (x : VarName) (t : Term) (hand : List Sent) → x.site ≢ b.site → IsMessageEquation hand x t → ((r : Term) → IsBound b x r → r ≡ t) → KeepsEquations b (after_binding b x t) hand []
binding_equations b x t hand other told same =
    learns_equations b (after_binding b x t) hand [] x (Some (Some t)) (binding_learns b x t other) (λ r h. ap (λ (u : Term). Some (Some u)) (sym (same r h)))
    (λ r e. let is : t ≡ r = cc in inr (inr (subst (IsMessageEquation hand x) is told))) (λ y s h. absurd (none_told y s h)) none_asked

want_equations : (b : Records) (x : VarName) (t : Term) (thread : ThreadName) → IsLower t x → KeepsEquations b (after_want b x t) [] (want_sends b x t thread)
want_equations b x t thread low = go (is_own b x) (Decides-eqb x.site b.site)
  where
    go : (c : Bool) → Decides c (x.site ≡ b.site) → KeepsEquations b (cond c (after_ask b x t) b) [] (cond c (ask_sends b x t) (request x t thread ∷ []))
    go true d = ask_equations b x t (d.0 refl) low
    go false d = same_equations b b [] (request x t thread ∷ []) refl (λ y. refl) (λ y s h. absurd (nothing {X = Equation} (y, s) (one_told (request x t thread) y s h))) (one_asked (request x t thread) low)

-- ---- one after another

told_cases : (ms ns : List Sent) (x : VarName) (t : Term) → IsMessageEquation (ms ++ ns) x t → IsMessageEquation ms x t ⊎ IsMessageEquation ns x t
told_cases ms ns x t (m, at, is) = go (Contains-append_cases ms ns m at)
  where
    go : Contains ms m ⊎ Contains ns m → IsMessageEquation ms x t ⊎ IsMessageEquation ns x t
    go (inl h) = inl (m, h, is)
    go (inr h) = inr (m, h, is)

told_left : (ms ns : List Sent) (x : VarName) (t : Term) → IsMessageEquation ms x t → IsMessageEquation (ms ++ ns) x t
told_left ms ns x t (m, at, is) = (m, Contains-append_left ms ns m at, is)

told_right : (ms ns : List Sent) (x : VarName) (t : Term) → IsMessageEquation ns x t → IsMessageEquation (ms ++ ns) x t
told_right ms ns x t (m, at, is) = (m, Contains-append_right ms ns m at, is)

asked_both : (ms ns : List Sent) → ((m : Sent) → Contains ms m → IsDownward m) → ((m : Sent) → Contains ns m → IsDownward m) → (m : Sent) → Contains (ms ++ ns) m → IsDownward m
asked_both ms ns h k m at = go (Contains-append_cases ms ns m at)
  where
    go : Contains ms m ⊎ Contains ns m → IsDownward m
    go (inl q) = h m q
    go (inr q) = k m q

equations_on : (b c d : Records) (h g o u : List Sent) → KeepsEquations b c h o → KeepsEquations c d g u → KeepsEquations b d (h ++ g) (o ++ u)
equations_on b c d h g o u k l = record {
  site = l.site ∙ k.site;
  stays = λ x t q. l.stays x t (k.stays x t q);
  new = λ x t q. later x t (l.new x t q);
  told = λ x t q. told x t (told_cases o u x t q);
  asked = asked_both o u k.asked l.asked;
}
  where
    first : (x : VarName) (t : Term) → IsBound b x t ⊎ (((x.site ≡ b.site) × IsLower t x) ⊎ IsMessageEquation h x t) → IsBound b x t ⊎ (((x.site ≡ b.site) × IsLower t x) ⊎ IsMessageEquation (h ++ g) x t)
    first x t (inl q) = inl q
    first x t (inr (inl q)) = inr (inl q)
    first x t (inr (inr q)) = inr (inr (told_left h g x t q))

    later : (x : VarName) (t : Term) → IsBound c x t ⊎ (((x.site ≡ c.site) × IsLower t x) ⊎ IsMessageEquation g x t) → IsBound b x t ⊎ (((x.site ≡ b.site) × IsLower t x) ⊎ IsMessageEquation (h ++ g) x t)
    later x t (inl q) = first x t (k.new x t q)
    later x t (inr (inl (own, low))) = inr (inl (own ∙ k.site, low))
    later x t (inr (inr q)) = inr (inr (told_right h g x t q))

    told : (x : VarName) (t : Term) → IsMessageEquation o x t ⊎ IsMessageEquation u x t → IsBound d x t
    told x t (inl q) = l.stays x t (k.told x t q)
    told x t (inr q) = l.told x t q

unused_equations : (b c : Records) (h g o : List Sent) → KeepsEquations b c h o → KeepsEquations b c (h ++ g) o
unused_equations b c h g o k = record {
  site = k.site;
  stays = k.stays;
  new = λ x t q. more x t (k.new x t q);
  told = k.told;
  asked = k.asked;
}
  where
    more : (x : VarName) (t : Term) → IsBound b x t ⊎ (((x.site ≡ b.site) × IsLower t x) ⊎ IsMessageEquation h x t) → IsBound b x t ⊎ (((x.site ≡ b.site) × IsLower t x) ⊎ IsMessageEquation (h ++ g) x t)
    more x t (inl q) = inl q
    more x t (inr (inl q)) = inr (inl q)
    more x t (inr (inr q)) = inr (inr (told_left h g x t q))

meets_equations : (b : Records) (xs : List VarName) → KeepsEquations b (after_meets b xs) [] (meets_send b xs)
meets_equations b [] = unchanged b []
meets_equations b (x ∷ xs) = equations_on b (after_meet b x) (after_meets (after_meet b x) xs) [] [] (meet_sends b x) (meets_send (after_meet b x) xs) (meet_equations b x) (meets_equations (after_meet b x) xs)

pub rows_keep_equations : RowsKeepEquations
rows_keep_equations = record {
  make = make_equations;
  meet = meet_equations;
  meets = meets_equations;
  register = register_equations;
  ask = ask_equations;
  binding = binding_equations;
  want = want_equations;
  others = λ b hand out told asked. same_equations b b hand out refl (λ y. refl) told asked;
}

pub equations_join : EquationsJoin
equations_join = record {
  together = equations_on;
  unused = unused_equations;
  sent = λ b c h o u told asked k. record { site = k.site; stays = k.stays; new = k.new; told = told; asked = asked };
}

-- ---- a world of which one site goes on

module _ (a : ℕ) (old new : ℕ → Records) (hand out : List Sent) (g : GoesOn a old new) (k : KeepsEquations (old a) (new a) hand out) where
  stay : (i : ℕ) (x : VarName) (t : Term) → IsBound (old i) x t → IsBound (new i) x t
  stay i x t h = go (i == a) (Decides-eqb i a)
    where
      go : (b : Bool) → Decides b (i ≡ a) → IsBound (new i) x t
      go true d = subst (λ (j : ℕ). IsBound (old j) x t → IsBound (new j) x t) (sym (d.0 refl)) (k.stays x t) h
      go false d =
          let other : i ≢ a = λ (q : i ≡ a). let yes : false ≡ true = d.1 q in cc in
          subst (λ (r : Records). IsBound r x t) (sym (g.others i other)) h

  module _ (rest : List Sent) (h : EquationsAreOwned old (hand ++ rest)) where
    abbrev Learnt : VarName → Term → Type 0
    Learnt x t = IsBound (old a) x t ⊎ (((x.site ≡ (old a).site) × IsLower t x) ⊎ IsMessageEquation hand x t)

    -- an equation that the site knows now
    here : (x : VarName) (t : Term) → IsBound (new a) x t → Learnt x t → IsBound (new x.site) x t
    here x t e (inl was) = stay x.site x t (h.known a x t was)
    here x t e (inr (inl (own, low))) = subst (λ (j : ℕ). IsBound (new j) x t) (sym (own ∙ g.own)) e
    here x t e (inr (inr told)) = stay x.site x t (h.told x t (told_left hand rest x t told))

    lower : (x : VarName) (t : Term) → Learnt x t → IsLower t x
    lower x t (inl was) = h.down x t (h.known a x t was)
    lower x t (inr (inl (own, low))) = low
    lower x t (inr (inr told)) = h.down x t (h.told x t (told_left hand rest x t told))

    known : (i : ℕ) (x : VarName) (t : Term) → IsBound (new i) x t → IsBound (new x.site) x t
    known i x t e = go (i == a) (Decides-eqb i a)
      where
        go : (b : Bool) → Decides b (i ≡ a) → IsBound (new x.site) x t
        go true d = let mine : IsBound (new a) x t = subst (λ (j : ℕ). IsBound (new j) x t) (d.0 refl) e in here x t mine (k.new x t mine)
        go false d =
            let other : i ≢ a = λ (q : i ≡ a). let yes : false ≡ true = d.1 q in cc in
            stay x.site x t (h.known i x t (subst (λ (r : Records). IsBound r x t) (g.others i other) e))

    down : (x : VarName) (t : Term) → IsBound (new x.site) x t → IsLower t x
    down x t e = go (x.site == a) (Decides-eqb x.site a)
      where
        go : (b : Bool) → Decides b (x.site ≡ a) → IsLower t x
        go true d = lower x t (k.new x t (subst (λ (j : ℕ). IsBound (new j) x t) (d.0 refl) e))
        go false d =
            let other : x.site ≢ a = λ (q : x.site ≡ a). let yes : false ≡ true = d.1 q in cc in
            h.down x t (subst (λ (r : Records). IsBound r x t) (g.others x.site other) e)

    told : (x : VarName) (t : Term) → IsMessageEquation rest x t ⊎ IsMessageEquation out x t → IsBound (new x.site) x t
    told x t (inl q) = stay x.site x t (h.told x t (told_right hand rest x t q))
    told x t (inr q) = known a x t (k.told x t q)

    owned : EquationsAreOwned new (rest ++ out)
    owned = record {
      known = known;
      told = λ x t q. told x t (told_cases rest out x t q);
      down = down;
      asked = asked_both rest out (λ m at. h.asked m (Contains-append_right hand rest m at)) k.asked;
    }

nothing_bound : (c : Bool) (t : Term) → cond {A = Option (Option Term)} c None None ≡ Some (Some t) → ⊥
nothing_bound true t e = cc
nothing_bound false t e = cc

pub equations_go_on : EquationsGoOn
equations_go_on = record {
  start = record {
    known = λ i x t e. absurd (nothing_bound (x.site == i) t e);
    told = λ x t h. absurd (none_told x t h);
    down = λ x t e. absurd (nothing_bound (x.site == x.site) t e);
    asked = none_asked;
  };
  world = λ a old new hand rest out g k h. owned a old new hand out g k rest h;
  stays = stay;
  fewer = λ records ms ns less h. record {
    known = h.known;
    told = λ x t q. h.told x t (q.0, less q.0 q.1, q.2);
    down = h.down;
    asked = λ m at. h.asked m (less m at);
  };
}
