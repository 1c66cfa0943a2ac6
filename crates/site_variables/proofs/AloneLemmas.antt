-- Own variables for which no site is registered are bound, one after another; and those that were bound before others were made.
use Rattle.std.proofs.Common.{◌≡◌, ◌≢◌, ◌∙◌, sym, ap, refl, subst, ℕ, ◌+◌, ◌<◌, ◌≤◌, List, [], ◌∷◌, ◌⊎◌, inl, inr, map, drop, length, get_or, Bool, true, false, cond, Some, None}
use Rattle.std.specs.Prelude.{Option}
use Rattle.std.proofs.lemmas.List.{drop_more}
use Rattle.tree_node.specs.declared.names.VarName.{VarName}
use Rattle.tree_node.specs.declared.node.Term.{Term}
use Rattle.tree_node.specs.Each.{Each, AreDistinct}
use Rattle.tree_node.specs.Store.{Equation, equal_var}
use Rattle.pick_list.specs.declared.columns.Bind.{Bind}
use Rattle.pick_list.specs.Binds.{equation_of}
use Rattle.oz_model.proofs.NameLemmas.{Each-weaker}
use Rattle.variable_owner.specs.declared.owners.Owner.{Owner}
use Rattle.variable_owner.specs.declared.owners.Owner.TheVariants.{Open, Bound}
use Rattle.variable_owner.specs.Owners.{Owned, IsMade, owner_of, sites_of, with_owner, after_bind}
use Rattle.variable_owner.specs.Owners as owners
use Rattle.bind_protocol.specs.Records.{Records, knowledge}
use Rattle.bind_protocol.specs.Rows.{after_ask, after_make}
use Rattle.bind_protocol.specs.Learn.{HasLearned}
use Rattle.bind_protocol.proofs.LookLemmas.{in_here, in_other}
use Rattle.bind_protocol.proofs.LearnLemmas.{open_at, rows_teach}
use Rattle.bind_protocol.proofs.RowCountLemmas.{name_cases}
use Rattle.site_model.specs.Variables.{after_makes}
use Rattle.site_variables.specs.Variables.{AreAloneBinds, AreOwnBinds, IsNewOwn, after_own_binds}
use Rattle.site_variables.proofs.MakeLemmas.{new_left, none_owned}

-- ---- no site is registered for a variable

none_with : (es : List Owned) (x y : VarName) (o : Owner) → sites_of (Some o) ≡ [] → sites_of (owner_of es y) ≡ [] → sites_of (owner_of (with_owner es x o) y) ≡ []
none_with es x y o none h = go (name_cases y x)
  where
    go : (y ≡ x) ⊎ (y ≢ x) → sites_of (owner_of (with_owner es x o) y) ≡ []
    go (inl e) = subst (λ (z : VarName). sites_of (owner_of (with_owner es x o) z) ≡ []) (sym e) (ap sites_of (in_here es x o) ∙ none)
    go (inr e) = ap sites_of (in_other es x y o e) ∙ h

pub none_after : (es : List Owned) (x y : VarName) (t : Term) → sites_of (owner_of es y) ≡ [] → sites_of (owner_of (owners.after_ask es x t) y) ≡ []
none_after es x y t h = go (owner_of es x) refl
  where
    bound : (o : Owner) → sites_of (Some (after_bind o t)) ≡ []
    bound (Open ks) = refl
    bound (Bound r) = refl

    go : (o : Option Owner) → owner_of es x ≡ o → sites_of (owner_of (owners.after_ask es x t) y) ≡ []
    go None q = rw q h
    go (Some o) q = rw q (none_with es x y (after_bind o t) (bound o) h)

pub none_makes : (b : Records) (xs : List VarName) (y : VarName) → sites_of (owner_of b.owners y) ≡ [] → sites_of (owner_of (after_makes b xs).owners y) ≡ []
none_makes b [] y h = h
none_makes b (x ∷ xs) y h = none_makes (after_make b x) xs y (none_with b.owners x y (Open []) refl h)

pub none_binds : (b : Records) (es : List Equation) (y : VarName) → sites_of (owner_of b.owners y) ≡ [] → sites_of (owner_of (after_own_binds b es).owners y) ≡ []
none_binds b [] y h = h
none_binds b (e ∷ es) y h = none_binds (after_ask b e.0 e.1) es y (none_after b.owners e.0 y e.1 h)

-- a bind leaves others without
pub alone_behind : (b : Records) (x : VarName) (t : Term) (es : List Equation) → AreAloneBinds b es → AreAloneBinds (after_ask b x t) es
alone_behind b x t es h = Each-weaker (λ (e : Equation). sites_of (owner_of b.owners e.0) ≡ []) (λ (e : Equation). sites_of (owner_of (after_ask b x t).owners e.0) ≡ []) (λ e k. none_after b.owners x e.0 t k) es h

-- ---- binds in a row

-- these records are those after a front of the binds, of which the rest is left
pub record AreFollowed (b old : Records) (rest all : List Equation) : Type 0 where
  pub alone : AreAloneBinds b rest
  pub unbound : AreOwnBinds b rest
  pub after : after_own_binds b rest ≡ after_own_binds old all

module _ (old b : Records) (bs : List Bind) (i : ℕ) (d : Bind) (below : i < length bs) (at : d ≡ get_or bs i d) (h : AreFollowed b old (map equation_of (drop i bs)) (map equation_of bs)) where
  split : drop i bs ≡ d ∷ drop (i + 1) bs
  split = drop_more bs i d below ∙ ap (λ (x : Bind). x ∷ drop (i + 1) bs) (sym at)

  now : AreFollowed b old ((d.var, d.term) ∷ map equation_of (drop (i + 1) bs)) (map equation_of bs)
  now = subst (λ (l : List Bind). AreFollowed b old (map equation_of l) (map equation_of bs)) split h

  pub next_own : d.var.site ≡ b.site
  next_own = now.unbound.0

  pub next_made : IsMade b.owners d.var
  next_made = let o = open_at b d.var now.unbound.0 now.unbound.1 in rw o.1 refl

  pub next_alone : sites_of (owner_of b.owners d.var) ≡ []
  next_alone = now.alone.0

  pub next_follows : (c : Records) → c ≡ after_ask b d.var d.term → AreFollowed c old (map equation_of (drop (i + 1) bs)) (map equation_of bs)
  next_follows c is = subst (λ (r : Records). AreFollowed r old (map equation_of (drop (i + 1) bs)) (map equation_of bs)) (sym is)
      (record { alone = alone_behind b d.var d.term (map equation_of (drop (i + 1) bs)) now.alone.1; unbound = now.unbound.2; after = now.after })

-- ---- a bind before variables were made, and behind them

put_here : (es : List Owned) (z x : VarName) (s o : Owner) → equal_var x z ≡ true → with_owner ((z, s) ∷ es) x o ≡ (z, o) ∷ es
put_here es z x s o e = ap (λ (b : Bool). cond b ((z, o) ∷ es) ((z, s) ∷ with_owner es x o)) e

put_past : (es : List Owned) (z x : VarName) (s o : Owner) → equal_var x z ≡ false → with_owner ((z, s) ∷ es) x o ≡ (z, s) ∷ with_owner es x o
put_past es z x s o e = ap (λ (b : Bool). cond b ((z, o) ∷ es) ((z, s) ∷ with_owner es x o)) e

-- another owner of a variable that was made, and a new variable, in either order
put_either : (es : List Owned) (x y : VarName) (o p r : Owner) → owner_of es x ≡ Some r → owner_of es y ≡ None → with_owner (with_owner es x p) y o ≡ with_owner (with_owner es y o) x p
put_either [] x y o p r e f = cc
put_either ((z, s) ∷ es) x y o p r e f = go (equal_var x z) (equal_var y z) refl refl e f (λ a b. put_either es x y o p r a b)
  where
    go : (b d : Bool) → equal_var x z ≡ b → equal_var y z ≡ d → cond b (Some s) (owner_of es x) ≡ Some r → cond d (Some s) (owner_of es y) ≡ None →
        (owner_of es x ≡ Some r → owner_of es y ≡ None → with_owner (with_owner es x p) y o ≡ with_owner (with_owner es y o) x p) → with_owner (with_owner ((z, s) ∷ es) x p) y o ≡ with_owner (with_owner ((z, s) ∷ es) y o) x p
    go b true k l a none ih = cc
    go true false k l a none ih =
        ap (λ (l : List Owned). with_owner l y o) (put_here es z x s p k)
        ∙ (put_past es z y p o l ∙ sym (ap (λ (l : List Owned). with_owner l x p) (put_past es z y s o l) ∙ put_here (with_owner es y o) z x s p k))
    go false false k l a none ih =
        ap (λ (l : List Owned). with_owner l y o) (put_past es z x s p k)
        ∙ (put_past (with_owner es x p) z y s o l
        ∙ (ap (λ (l : List Owned). (z, s) ∷ l) (ih a none) ∙ sym (ap (λ (l : List Owned). with_owner l x p) (put_past es z y s o l) ∙ put_past (with_owner es y o) z x s p k)))

bound_open : (es : List Owned) (x : VarName) (t : Term) (ks : List ℕ) → owner_of es x ≡ Some (Open ks) → owners.after_ask es x t ≡ with_owner es x (Bound t)
bound_open es x t ks e = rw e refl

-- it is none of the new ones
unbound_apart : (b : Records) (x y : VarName) → knowledge b x ≡ Some None → knowledge b y ≡ None → x ≢ y
unbound_apart b x y e f same = let clash : ◌≡◌ {A = Option (Option Term)} (Some None) None = sym e ∙ (ap (λ (z : VarName). knowledge b z) same ∙ f) in cc

ask_make : (b : Records) (x y : VarName) (t : Term) → x.site ≡ b.site → knowledge b x ≡ Some None → IsNewOwn b y → after_make (after_ask b x t) y ≡ after_ask (after_make b y) x t
ask_make b x y t own unbound new = ap (λ (es : List Owned). record b { owners = es }) (before ∙ (put_either b.owners x y (Open []) (Bound t) (Open held.0) held.1 (none_owned b y new.0 new.1) ∙ sym behind))
  where
    held : (ks : List ℕ) × (owner_of b.owners x ≡ Some (Open ks))
    held = open_at b x own unbound

    before : with_owner (owners.after_ask b.owners x t) y (Open []) ≡ with_owner (with_owner b.owners x (Bound t)) y (Open [])
    before = ap (λ (es : List Owned). with_owner es y (Open [])) (bound_open b.owners x t held.0 held.1)

    behind : owners.after_ask (with_owner b.owners y (Open [])) x t ≡ with_owner (with_owner b.owners y (Open [])) x (Bound t)
    behind = bound_open (with_owner b.owners y (Open [])) x t held.0 (in_other b.owners y x (Open []) (unbound_apart b x y unbound new.1) ∙ held.1)

-- an unbound variable stays one, and is bound before others are made or behind them
pub unbound_made : (ys : List VarName) (b : Records) (x : VarName) → knowledge b x ≡ Some None → Each (IsNewOwn b) ys → AreDistinct ys → knowledge (after_makes b ys) x ≡ Some None
unbound_made [] b x unbound new distinct = unbound
unbound_made (y ∷ ys) b x unbound new distinct =
    let learns : HasLearned b (after_make b y) y (Some None) = rows_teach.make b y new.0.0 in
    unbound_made ys (after_make b y) x (learns.others x (unbound_apart b x y unbound new.0.1) ∙ unbound) (new_left b (after_make b y) y (Some None) ys learns distinct.0 new.1) distinct.1

pub ask_makes : (ys : List VarName) (b : Records) (x : VarName) (t : Term) → x.site ≡ b.site → knowledge b x ≡ Some None → Each (IsNewOwn b) ys → AreDistinct ys → after_makes (after_ask b x t) ys ≡ after_ask (after_makes b ys) x t
ask_makes [] b x t own unbound new distinct = refl
ask_makes (y ∷ ys) b x t own unbound new distinct =
    let learns : HasLearned b (after_make b y) y (Some None) = rows_teach.make b y new.0.0 in
    ap (λ (c : Records). after_makes c ys) (ask_make b x y t own unbound new.0)
    ∙ ask_makes ys (after_make b y) x t own (learns.others x (unbound_apart b x y unbound new.0.1) ∙ unbound) (new_left b (after_make b y) y (Some None) ys learns distinct.0 new.1) distinct.1
