-- The ways to a name go on by one message at a time.
use Rattle.std.proofs.Common.{arith, rules, ◌≡◌, ◌≢◌, ◌∙◌, ℕ, ◌+◌, List, [], ◌∷◌, refl, sym, ap, Bool, true, false, cond, map}
use Rattle.std.specs.Prelude.{Option, Some, None, ◌&&◌, ◌==◌}
use Rattle.tree_node.specs.declared.names.VarName.{VarName}
use Rattle.tree_node.specs.declared.node.Term.{Term}
use Rattle.tree_node.specs.Store.{equal_var}
use Rattle.site_message.specs.declared.message.Sent.{Sent}
use Rattle.bind_protocol.specs.Rows.{binding}
use Rattle.bind_protocol.specs.World.{is_register, is_binding}
use Rattle.bind_protocol.specs.Lawful.{Knowing, AreCountedExactly, met_count, known_count, register_count, binding_count, site_count}
use Rattle.bind_protocol.proofs.ListLemmas.{one, count_cons}
use Rattle.bind_protocol.proofs.GrowLemmas.{Changes, this_place, place_is, place_is_not}

pub not_own : (i : ℕ) (x : VarName) → i ≢ x.site → (i == x.site) ≡ false
not_own i x h = search rules

own : (i : ℕ) (x : VarName) → i ≡ x.site → (i == x.site) ≡ true
own i x h = search rules

-- where knowledge of own variables changes, nothing is met or told
module _ (know more : Knowing) (k : ℕ) (y : VarName) (v : Option Term) (ch : Changes know more k y v) where
  by_place : {X : Type 0} (f : Bool → Option (Option Term) → X) (i : ℕ) (x : VarName) → (this_place k y i x ≡ true → f (i == x.site) (more i x) ≡ f (i == x.site) (know i x)) →
      f (i == x.site) (more i x) ≡ f (i == x.site) (know i x)
  by_place f i x here = go (this_place k y i x) refl
    where
      go : (b : Bool) → this_place k y i x ≡ b → f (i == x.site) (more i x) ≡ f (i == x.site) (know i x)
      go true q = here q
      go false q = ap (f (i == x.site)) (ch.others i x (place_is_not k y i x q))

  pub own_met : k ≡ y.site → (i : ℕ) (x : VarName) → met_count (i == x.site) (more i x) ≡ met_count (i == x.site) (know i x)
  own_met e i x = by_place met_count i x (λ q. let p = place_is k y i x q in let mine : i ≡ x.site = p.0 ∙ e ∙ ap (λ (z : VarName). z.site) (sym p.1) in rw (own i x mine) refl)

  pub own_told : k ≡ y.site → (i : ℕ) (x : VarName) → known_count (i == x.site) (more i x) ≡ known_count (i == x.site) (know i x)
  own_told e i x = by_place known_count i x (λ q. let p = place_is k y i x q in let mine : i ≡ x.site = p.0 ∙ e ∙ ap (λ (z : VarName). z.site) (sym p.1) in rw (own i x mine) refl)

  -- a name that is met, and one that is known bound
  pub now_met : k ≢ y.site → know k y ≡ None → (i : ℕ) (x : VarName) → met_count (i == x.site) (more i x) ≡ met_count (i == x.site) (know i x) + one (this_place k y i x)
  now_met other before i x = go (this_place k y i x) refl
    where
      go : (b : Bool) → this_place k y i x ≡ b → met_count (i == x.site) (more i x) ≡ met_count (i == x.site) (know i x) + one (this_place k y i x)
      go true q =
          let p = place_is k y i x q in
          rw (q, p.0, p.1, not_own k y other, ch.here, before) refl
      go false q = rw (q, ch.others i x (place_is_not k y i x q)) (omega arith)

  pub met_untold : know k y ≡ None → v ≡ None → (i : ℕ) (x : VarName) → known_count (i == x.site) (more i x) ≡ known_count (i == x.site) (know i x)
  met_untold before after i x = by_place known_count i x (λ q. let p = place_is k y i x q in rw (p.0, p.1, ch.here, before, after) (go (k == y.site)))
    where
      go : (b : Bool) → known_count b (Some None) ≡ known_count b None
      go true = refl
      go false = refl

  pub now_told : (t : Term) → k ≢ y.site → know k y ≡ Some None → v ≡ Some t → (i : ℕ) (x : VarName) → known_count (i == x.site) (more i x) ≡ known_count (i == x.site) (know i x) + one (this_place k y i x)
  now_told t other before after i x = go (this_place k y i x) refl
    where
      go : (b : Bool) → this_place k y i x ≡ b → known_count (i == x.site) (more i x) ≡ known_count (i == x.site) (know i x) + one (this_place k y i x)
      go true q =
          let p = place_is k y i x q in
          rw (q, p.0, p.1, not_own k y other, ch.here, before, after) refl
      go false q = rw (q, ch.others i x (place_is_not k y i x q)) (omega arith)

  pub told_met : know k y ≡ Some None → (i : ℕ) (x : VarName) → met_count (i == x.site) (more i x) ≡ met_count (i == x.site) (know i x)
  told_met before i x = by_place met_count i x (λ q. let p = place_is k y i x q in rw (p.0, p.1, ch.here, before) (go (k == y.site)))
    where
      go : (b : Bool) → met_count b (Some v) ≡ met_count b (Some None)
      go true = refl
      go false = refl

-- bindings to each of these sites
pub bindings_sent : (y : VarName) (t : Term) (ks : List ℕ) (i : ℕ) (x : VarName) → binding_count x i (map (λ k. binding y t k) ks) ≡ cond (equal_var x y) (site_count i ks) 0
bindings_sent y t [] i x = go (equal_var x y)
  where
    go : (b : Bool) → ◌≡◌ {A = ℕ} 0 (cond b 0 0)
    go true = refl
    go false = refl
bindings_sent y t (k ∷ ks) i x =
    let ih : binding_count x i (map (λ k. binding y t k) ks) ≡ cond (equal_var x y) (site_count i ks) 0 = bindings_sent y t ks i x in
    let first : binding_count x i (map (λ k. binding y t k) (k ∷ ks)) ≡ one (equal_var x y && (i == k)) + binding_count x i (map (λ k. binding y t k) ks) =
    count_cons (is_binding x i) (binding y t k) (map (λ k. binding y t k) ks) in
    let more : site_count i (k ∷ ks) ≡ one (i == k) + site_count i ks = count_cons (λ j. i == j) k ks in
    go (equal_var x y) ih first more
  where
    go : (b : Bool) → binding_count x i (map (λ k. binding y t k) ks) ≡ cond b (site_count i ks) 0 →
        binding_count x i (map (λ k. binding y t k) (k ∷ ks)) ≡ one (b && (i == k)) + binding_count x i (map (λ k. binding y t k) ks) →
        site_count i (k ∷ ks) ≡ one (i == k) + site_count i ks → binding_count x i (map (λ k. binding y t k) (k ∷ ks)) ≡ cond b (site_count i (k ∷ ks)) 0
    go true ih first more = omega arith
    go false ih first more = omega arith

pub no_register : (y : VarName) (t : Term) (ks : List ℕ) (i : ℕ) (x : VarName) → register_count x i (map (λ k. binding y t k) ks) ≡ 0
no_register y t [] i x = refl
no_register y t (k ∷ ks) i x =
    let ih : register_count x i (map (λ k. binding y t k) ks) ≡ 0 = no_register y t ks i x in
    let first : register_count x i (map (λ k. binding y t k) (k ∷ ks)) ≡ one false + register_count x i (map (λ k. binding y t k) ks) =
    count_cons (is_register x i) (binding y t k) (map (λ k. binding y t k) ks) in
    omega arith

-- how a count goes from before to after
module _ (know more : Knowing) (list list' : VarName → List ℕ) (ms ms' ds ds' : List Sent) (c : AreCountedExactly know list ms ds) where
  -- nothing is counted otherwise
  pub same_counts : ((i : ℕ) (x : VarName) → met_count (i == x.site) (more i x) ≡ met_count (i == x.site) (know i x)) → ((i : ℕ) (x : VarName) → known_count (i == x.site) (more i x) ≡ known_count (i == x.site) (know i x)) →
      ((x : VarName) → list' x ≡ list x) → ((i : ℕ) (x : VarName) → register_count x i ms' ≡ register_count x i ms) → ((i : ℕ) (x : VarName) → binding_count x i ms' ≡ binding_count x i ms) →
      ((i : ℕ) (x : VarName) → register_count x i ds' ≡ register_count x i ds) → ((i : ℕ) (x : VarName) → binding_count x i ds' ≡ binding_count x i ds) → AreCountedExactly more list' ms' ds'
  same_counts m t l r b dr db = record {
    one_place = λ i x. let e : site_count i (list' x) ≡ site_count i (list x) = ap (site_count i) (l x) in omega (arith, m i x, t i x, r i x, b i x, c.one_place i x);
    heard = λ i x. omega (arith, t i x, db i x, c.heard i x);
    asked = λ i x. omega (arith, m i x, r i x, dr i x, c.asked i x);
  }

  -- a site meets a name and asks
  pub meet_counts : (e : ℕ → VarName → ℕ) → ((i : ℕ) (x : VarName) → met_count (i == x.site) (more i x) ≡ met_count (i == x.site) (know i x) + e i x) → ((i : ℕ) (x : VarName) → known_count (i == x.site) (more i x) ≡ known_count (i == x.site) (know i x)) →
      ((x : VarName) → list' x ≡ list x) → ((i : ℕ) (x : VarName) → register_count x i ms' ≡ register_count x i ms + e i x) → ((i : ℕ) (x : VarName) → binding_count x i ms' ≡ binding_count x i ms) → ds' ≡ ds → AreCountedExactly more list' ms' ds'
  meet_counts e m t l r b d = record {
    one_place = λ i x. let f : site_count i (list' x) ≡ site_count i (list x) = ap (site_count i) (l x) in omega (arith, m i x, t i x, r i x, b i x, c.one_place i x);
    heard = λ i x. let f : binding_count x i ds' ≡ binding_count x i ds = ap (binding_count x i) d in omega (arith, t i x, c.heard i x);
    asked = λ i x. let f : register_count x i ds' ≡ register_count x i ds = ap (register_count x i) d in omega (arith, m i x, r i x, c.asked i x);
  }

  -- a Register comes, and its site is registered or answered
  pub register_counts : (e a : ℕ → VarName → ℕ) → ((i : ℕ) (x : VarName) → met_count (i == x.site) (more i x) ≡ met_count (i == x.site) (know i x)) → ((i : ℕ) (x : VarName) → known_count (i == x.site) (more i x) ≡ known_count (i == x.site) (know i x)) →
      ((i : ℕ) (x : VarName) → site_count i (list' x) + a i x ≡ site_count i (list x) + e i x) → ((i : ℕ) (x : VarName) → register_count x i ms' + e i x ≡ register_count x i ms) → ((i : ℕ) (x : VarName) → binding_count x i ms' ≡ binding_count x i ms + a i x) →
      ((i : ℕ) (x : VarName) → register_count x i ds' ≡ register_count x i ds + e i x) → ((i : ℕ) (x : VarName) → binding_count x i ds' ≡ binding_count x i ds) → AreCountedExactly more list' ms' ds'
  register_counts e a m t l r b dr db = record {
    one_place = λ i x. omega (arith, m i x, t i x, l i x, r i x, b i x, c.one_place i x);
    heard = λ i x. omega (arith, t i x, db i x, c.heard i x);
    asked = λ i x. omega (arith, m i x, r i x, dr i x, c.asked i x);
  }

  -- an owner binds and tells the registered sites
  pub bind_counts : (a : ℕ → VarName → ℕ) → ((i : ℕ) (x : VarName) → met_count (i == x.site) (more i x) ≡ met_count (i == x.site) (know i x)) → ((i : ℕ) (x : VarName) → known_count (i == x.site) (more i x) ≡ known_count (i == x.site) (know i x)) →
      ((i : ℕ) (x : VarName) → site_count i (list' x) + a i x ≡ site_count i (list x)) → ((i : ℕ) (x : VarName) → register_count x i ms' ≡ register_count x i ms) → ((i : ℕ) (x : VarName) → binding_count x i ms' ≡ binding_count x i ms + a i x) → ds' ≡ ds → AreCountedExactly more list' ms' ds'
  bind_counts a m t l r b d = record {
    one_place = λ i x. omega (arith, m i x, t i x, l i x, r i x, b i x, c.one_place i x);
    heard = λ i x. let f : binding_count x i ds' ≡ binding_count x i ds = ap (binding_count x i) d in omega (arith, t i x, c.heard i x);
    asked = λ i x. let f : register_count x i ds' ≡ register_count x i ds = ap (register_count x i) d in omega (arith, m i x, r i x, c.asked i x);
  }

  -- a Binding comes
  pub binding_counts : (e : ℕ → VarName → ℕ) → ((i : ℕ) (x : VarName) → met_count (i == x.site) (more i x) ≡ met_count (i == x.site) (know i x)) → ((i : ℕ) (x : VarName) → known_count (i == x.site) (more i x) ≡ known_count (i == x.site) (know i x) + e i x) →
      ((x : VarName) → list' x ≡ list x) → ((i : ℕ) (x : VarName) → register_count x i ms' ≡ register_count x i ms) → ((i : ℕ) (x : VarName) → binding_count x i ms' + e i x ≡ binding_count x i ms) →
      ((i : ℕ) (x : VarName) → register_count x i ds' ≡ register_count x i ds) → ((i : ℕ) (x : VarName) → binding_count x i ds' ≡ binding_count x i ds + e i x) → AreCountedExactly more list' ms' ds'
  binding_counts e m t l r b dr db = record {
    one_place = λ i x. let f : site_count i (list' x) ≡ site_count i (list x) = ap (site_count i) (l x) in omega (arith, m i x, t i x, r i x, b i x, c.one_place i x);
    heard = λ i x. omega (arith, t i x, db i x, c.heard i x);
    asked = λ i x. omega (arith, m i x, r i x, dr i x, c.asked i x);
  }
