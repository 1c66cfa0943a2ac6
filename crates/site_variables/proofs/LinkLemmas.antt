-- The store's equations and names follow the records.
use Rattle.std.proofs.Common.{rules, arith, ◌≡◌, ◌≢◌, ◌∙◌, sym, ap, subst, refl, ℕ, List, [], ◌∷◌, ◌++◌, ◌⊎◌, inl, inr, Bool, true, false, cond}
use Rattle.std.specs.Prelude.{Option, Some, None, Contains, is_some, IsTrue, ◌↔◌}
use Rattle.std.specs.List.{list_any}
use Rattle.std.proofs.lemmas.List.Elements.{Contains-append_left, Contains-append_right, Contains-append_cases}
use Rattle.tree_node.specs.declared.names.VarName.{VarName}
use Rattle.tree_node.specs.declared.node.Term.{Term}
use Rattle.tree_node.specs.Store.{Store, Equation, IsFree, equal_var}
use Rattle.tree_node.proofs.ClassLemmas.{Contains-cons_cases, Contains-head, Contains-tail}
use Rattle.tree_node.proofs.OrderLemmas.{none as nowhere}
use Rattle.tree_store.specs.Contents.{with_name}
use Rattle.tree_store.proofs.NameLemmas.{known_tells}
use Rattle.proxy_table.specs.Proxies.{entry_of}
use Rattle.variable_owner.specs.Owners.{IsMade, owner_of}
use Rattle.variable_owner.specs.declared.owners.Owner.{Owner}
use Rattle.variable_owner.specs.declared.owners.Owner.TheVariants.{Open, Bound}
use Rattle.bind_protocol.specs.Records.{Records, is_own, knowledge, owner_knows, IsKnown}
use Rattle.bind_protocol.specs.Rows.{after_ask, after_register, after_binding}
use Rattle.bind_protocol.specs.Learn.{HasLearned}
use Rattle.bind_protocol.proofs.LearnLemmas.{rows_teach}
use Rattle.site_variables.specs.declared.variables.Variables.{Variables}
use Rattle.site_variables.specs.Variables.{IsRecorded, IsLinked, IsGrown}
use Rattle.bind_protocol.proofs.RowCountLemmas.{name_cases}

-- ---- names

-- one more name
pub with_name_is : (names : List VarName) (x y : VarName) → Contains (with_name names x) y ↔ (Contains names y ⊎ (y ≡ x))
with_name_is names x y = go (list_any (equal_var x) names) refl
  where
    last : Contains (names ++ x ∷ []) y → Contains names y ⊎ (y ≡ x)
    last k = at_last (Contains-append_cases names (x ∷ []) y k)
      where
        one : (x ≡ y) ⊎ Contains [] y → Contains names y ⊎ (y ≡ x)
        one (inl e) = inr (sym e)
        one (inr (i, below, is)) = absurd (omega arith)

        at_last : Contains names y ⊎ Contains (x ∷ []) y → Contains names y ⊎ (y ≡ x)
        at_last (inl h) = inl h
        at_last (inr h) = one (Contains-cons_cases x y [] h)

    go : (b : Bool) → list_any (equal_var x) names ≡ b → Contains (cond b names (names ++ x ∷ [])) y ↔ (Contains names y ⊎ (y ≡ x))
    go true e = (λ k. inl k, λ k. elim k [ inl h ↦ h | inr q ↦ rw q ((known_tells names x true (sym e)).0 refl) ])
    go false e = (last, λ k. elim k [ inl h ↦ Contains-append_left names (x ∷ []) y h | inr q ↦ rw q (Contains-append_right names (x ∷ []) x (Contains-head x [])) ])

pub grown_name : (names : List VarName) (x : VarName) → IsGrown names (with_name names x)
grown_name names x y k = (with_name_is names x y).1 (inl k)

-- ---- a site without variables

unknown : (site : ℕ) (x : VarName) → knowledge (record { site = site; owners = []; proxies = [] }) x ≡ None
unknown site x = go (is_own (record { site = site; owners = []; proxies = [] }) x)
  where
    go : (own : Bool) → ◌≡◌ {A = Option (Option Term)} (cond own None None) None
    go true = refl
    go false = refl

-- no equation is known, and no name
pub none_recorded : (site : ℕ) → IsRecorded [] [] (record { site = site; owners = []; proxies = [] })
none_recorded site = record {
  bound = λ x t. (λ e. absurd (bound_nowhere x t e), λ k. absurd (nowhere (x, t) k));
  names = λ x. (λ k. absurd (name_nowhere x k), λ k. absurd (nowhere x k));
}
  where
    bound_nowhere : (x : VarName) (t : Term) → knowledge (record { site = site; owners = []; proxies = [] }) x ≡ Some (Some t) → ⊥
    bound_nowhere x t e = let none = sym (unknown site x) ∙ e in cc

    name_nowhere : (x : VarName) → IsKnown (record { site = site; owners = []; proxies = [] }) x → ⊥
    name_nowhere x k = let none = subst (λ (o : Option (Option Term)). IsTrue (is_some o)) (unknown site x) k in cc

-- ---- equations

cons_is : (es : Store) (x : VarName) (t : Term) (y : VarName) (r : Term) → Contains ((x, t) ∷ es) (y, r) ↔ (Contains es (y, r) ⊎ ((y ≡ x) × (◌≡◌ {A = Option Term} (Some t) (Some r))))
cons_is es x t y r = (to, fro)
  where
    to : Contains ((x, t) ∷ es) (y, r) → Contains es (y, r) ⊎ ((y ≡ x) × (◌≡◌ {A = Option Term} (Some t) (Some r)))
    to k = elim (Contains-cons_cases _ _ es k) [ inl q ↦ inr (sym (ap (λ (e : Equation). e.0) q), ap (λ (e : Equation). Some e.1) q) | inr h ↦ inl h ]

    fro : Contains es (y, r) ⊎ ((y ≡ x) × (◌≡◌ {A = Option Term} (Some t) (Some r))) → Contains ((x, t) ∷ es) (y, r)
    fro (inl h) = Contains-tail _ _ es h
    fro (inr (q, e)) =
        let same : t ≡ r = cc in
        rw (q, sym same) (Contains-head (x, t) es)

none_is : (es : Store) (x y : VarName) (r : Term) → Contains es (y, r) ↔ (Contains es (y, r) ⊎ ((y ≡ x) × (◌≡◌ {A = Option Term} None (Some r))))
none_is es x y r = (λ k. inl k, fro)
  where
    fro : Contains es (y, r) ⊎ ((y ≡ x) × (◌≡◌ {A = Option Term} None (Some r))) → Contains es (y, r)
    fro (inl h) = h
    fro (inr (q, e)) = cc

-- ---- what the records learn, the store follows

learns_recorded : (es fs : Store) (old new : List VarName) (b c : Records) (x : VarName) (o : Option Term) → IsRecorded es old b → ((r : Term) → knowledge b x ≡ Some (Some r) → ⊥) → HasLearned b c x (Some o) →
    ((y : VarName) (r : Term) → Contains fs (y, r) ↔ (Contains es (y, r) ⊎ ((y ≡ x) × (o ≡ Some r)))) → ((y : VarName) → Contains new y ↔ (Contains old y ⊎ (y ≡ x))) → IsRecorded fs new c
learns_recorded es fs old new b c x o h free learns more names = record { bound = λ y r. bound_at y r (name_cases y x); names = λ y. names_at y (name_cases y x) }
  where
    here : (y : VarName) → y ≡ x → knowledge c y ≡ Some o
    here y q = ap (λ (z : VarName). knowledge c z) q ∙ learns.here

    bound_at : (y : VarName) (r : Term) → (y ≡ x) ⊎ (y ≢ x) → knowledge c y ≡ Some (Some r) ↔ Contains fs (y, r)
    bound_at y r (inl q) = (to, fro)
      where
        to : knowledge c y ≡ Some (Some r) → Contains fs (y, r)
        to k =
            let both : Some o ≡ Some (Some r) = sym (here y q) ∙ k in
            let same : o ≡ Some r = cc in
            (more y r).1 (inr (q, same))

        fro : Contains fs (y, r) → knowledge c y ≡ Some (Some r)
        fro k = go ((more y r).0 k)
          where
            go : Contains es (y, r) ⊎ ((y ≡ x) × (o ≡ Some r)) → knowledge c y ≡ Some (Some r)
            go (inl there) = absurd (free r (ap (λ (z : VarName). knowledge b z) (sym q) ∙ (h.bound y r).1 there))
            go (inr (p, e)) = here y q ∙ ap (λ (z : Option Term). Some z) e
    bound_at y r (inr differs) = (λ k. (more y r).1 (inl ((h.bound y r).0 (sym (learns.others y differs) ∙ k))), fro)
      where
        fro : Contains fs (y, r) → knowledge c y ≡ Some (Some r)
        fro k = go ((more y r).0 k)
          where
            go : Contains es (y, r) ⊎ ((y ≡ x) × (o ≡ Some r)) → knowledge c y ≡ Some (Some r)
            go (inl there) = learns.others y differs ∙ (h.bound y r).1 there
            go (inr (p, e)) = absurd (differs p)

    names_at : (y : VarName) → (y ≡ x) ⊎ (y ≢ x) → IsKnown c y ↔ Contains new y
    names_at y (inl q) = (λ k. (names y).1 (inr q), λ k. rw (here y q) refl)
    names_at y (inr differs) = (λ k. (names y).1 (inl ((h.names y).0 (sym (ap (λ (z : Option (Option Term)). is_some z) (learns.others y differs)) ∙ k))), fro)
      where
        fro : Contains new y → IsKnown c y
        fro k = go ((names y).0 k)
          where
            go : Contains old y ⊎ (y ≡ x) → IsKnown c y
            go (inl there) = ap (λ (z : Option (Option Term)). is_some z) (learns.others y differs) ∙ (h.names y).1 there
            go (inr q) = absurd (differs q)

-- one more variable is known to be bound
pub bound_recorded : (es : Store) (old new : List VarName) (b c : Records) (x : VarName) (t : Term) → IsRecorded es old b → ((r : Term) → knowledge b x ≡ Some (Some r) → ⊥) → HasLearned b c x (Some (Some t)) →
    ((y : VarName) → Contains new y ↔ (Contains old y ⊎ (y ≡ x))) → IsRecorded ((x, t) ∷ es) new c
bound_recorded es old new b c x t h free learns names = learns_recorded es ((x, t) ∷ es) old new b c x (Some t) h free learns (cons_is es x t) names

-- one more name is known, unbound
pub named_recorded : (es : Store) (old new : List VarName) (b c : Records) (x : VarName) → IsRecorded es old b → knowledge b x ≡ None → HasLearned b c x (Some None) →
    ((y : VarName) → Contains new y ↔ (Contains old y ⊎ (y ≡ x))) → IsRecorded es new c
named_recorded es old new b c x h unknown learns names = learns_recorded es es old new b c x None h (λ r k. cc) learns (none_is es x) names

-- nothing else is known
pub same_recorded : (es : Store) (old new : List VarName) (b c : Records) → IsRecorded es old b → ((y : VarName) → knowledge c y ≡ knowledge b y) → ((y : VarName) → Contains new y ↔ Contains old y) → IsRecorded es new c
same_recorded es old new b c h e names = record {
  bound = λ y r. (λ k. (h.bound y r).0 (sym (e y) ∙ k), λ k. e y ∙ (h.bound y r).1 k);
  names = λ y. (λ k. (names y).1 ((h.names y).0 (sym (ap (λ (o : Option (Option Term)). is_some o) (e y)) ∙ k)), λ k. ap (λ (o : Option (Option Term)). is_some o) (e y) ∙ (h.names y).1 ((names y).0 k));
}

-- the name was known
pub known_union : (known : List VarName) (x : VarName) → Contains known x → (y : VarName) → Contains known y ↔ (Contains known y ⊎ (y ≡ x))
known_union known x there y = (λ k. inl k, fro)
  where
    fro : Contains known y ⊎ (y ≡ x) → Contains known y
    fro (inl k) = k
    fro (inr q) = rw q there

-- ---- what is known

pub known_there : (es : Store) (known : List VarName) (b : Records) (x : VarName) (o : Option Term) → IsRecorded es known b → knowledge b x ≡ Some o → Contains known x
known_there es known b x o h e = (h.names x).0 (rw e refl)

pub free_here : (es : Store) (known : List VarName) (b : Records) (x : VarName) → IsRecorded es known b → ((r : Term) → knowledge b x ≡ Some (Some r) → ⊥) → IsFree es x
free_here es known b x h free r there = free r ((h.bound x r).1 there)

pub unbound_free : (b : Records) (x : VarName) → knowledge b x ≡ Some None → (r : Term) → knowledge b x ≡ Some (Some r) → ⊥
unbound_free b x e r k = cc

pub own_made : (b : Records) (x : VarName) → is_own b x ≡ true → IsMade b.owners x → IsKnown b x
own_made b x own made = go (owner_of b.owners x) made (ap (λ (o : Bool). cond o (owner_knows (owner_of b.owners x)) (entry_of b.proxies x)) own)
  where
    go : (o : Option Owner) → IsTrue (is_some o) → knowledge b x ≡ owner_knows o → IsKnown b x
    go None m e = cc
    go (Some (Open ks)) m e = rw e refl
    go (Some (Bound t)) m e = rw e refl

-- ---- after a row

pub ask_recorded : (es : Store) (known : List VarName) (b c : Records) (x : VarName) (t : Term) → IsRecorded es known b → x.site ≡ b.site → knowledge b x ≡ Some None → c ≡ after_ask b x t → IsRecorded ((x, t) ∷ es) known c
ask_recorded es known b c x t h own e is =
    rw is (bound_recorded es known known b (after_ask b x t) x t h (unbound_free b x e) (rows_teach.ask b x t own e) (known_union known x (known_there es known b x None h e)))

pub register_recorded : (es : Store) (known : List VarName) (b c : Records) (x : VarName) (k : ℕ) → IsRecorded es known b → x.site ≡ b.site → c ≡ after_register b x k → IsRecorded es known c
register_recorded es known b c x k h own is =
    rw is (same_recorded es known known b (after_register b x k) h (rows_teach.register b x k own).same (λ y. (λ there. there, λ there. there)))

pub learn_recorded : (es : Store) (known : List VarName) (b c : Records) (x : VarName) (t : Term) → IsRecorded es known b → x.site ≢ b.site → ((r : Term) → knowledge b x ≡ Some (Some r) → ⊥) → c ≡ after_binding b x t → IsRecorded ((x, t) ∷ es) (with_name known x) c
learn_recorded es known b c x t h other free is =
    rw is (bound_recorded es known (with_name known x) b (after_binding b x t) x t h free (rows_teach.binding b x t other) (with_name_is known x))

pub learn_linked : (v w : Variables) (x : VarName) (t : Term) → IsLinked v → is_own v.binder x ≡ false → ((r : Term) → knowledge v.binder x ≡ Some (Some r) → ⊥) → w.store.equations ≡ (x, t) ∷ v.store.equations → w.store.known ≡ with_name v.store.known x →
    w.binder ≡ after_binding v.binder x t → IsLinked w
learn_linked v w x t h own free a b c =
    let other : x.site ≢ v.binder.site = λ q. let yes : is_own v.binder x ≡ true = search rules in cc in
    rw (a, b) (learn_recorded v.store.equations v.store.known v.binder w.binder x t h other free c)

-- no name is forgotten
pub grown_to : (old new : List VarName) (x : VarName) → new ≡ with_name old x → IsGrown old new
grown_to old new x e y k = rw e (grown_name old x y k)

pub grown_same : (old : List VarName) → IsGrown old old
grown_same old y k = k

pub grown_on : (old new last : List VarName) → IsGrown old new → IsGrown new last → IsGrown old last
grown_on old new last h g y k = g y (h y k)
