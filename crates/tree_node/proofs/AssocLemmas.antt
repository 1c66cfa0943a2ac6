-- Look-up laws of association lists: what a key has, and what holds of all entries, after a value is put, a key is left
-- out, or entries stand before.
use Rattle.std.proofs.Common.{◌≡◌, ◌∙◌, sym, ap, refl, subst, suc, length, List, [], ◌∷◌, ◌++◌, map, ◌⊎◌, inl, inr, Bool, true, false, cond, Some, None}
use Rattle.std.specs.Prelude.{Option, IsSome, unwrap_or, ◌≢◌}
use Rattle.std.specs.Bool.{Decides}
use Rattle.tree_node.specs.Assoc.{value_of, with_value, without_key, with_optional_value}
use Rattle.tree_node.specs.Each.{Each, AreDistinct}

-- ---- what holds of all entries

module _ {K V : Type 0} (same : K → K → Bool) where
  -- the value of a key, or another one where the key has none
  pub Each-value_or : (Q : V → Type 0) (es : List (K × V)) (k : K) (d : V) → Q d → Each (λ (e : K × V). Q e.1) es → Q (unwrap_or (value_of same es k) d)
  Each-value_or Q [] k d q h = q
  Each-value_or Q (e ∷ es) k d q h = go (same e.0 k) (Each-value_or Q es k d q h.1)
    where
      go : (b : Bool) → Q (unwrap_or (value_of same es k) d) → Q (unwrap_or (cond b (Some e.1) (value_of same es k)) d)
      go true r = h.0
      go false r = r

  pub Each-value_of : (Q : V → Type 0) (es : List (K × V)) (k : K) (v : V) → Each (λ (e : K × V). Q e.1) es → value_of same es k ≡ Some v → Q v
  Each-value_of Q [] k v h e = cc
  Each-value_of Q (e ∷ es) k v h is = go (same e.0 k) (λ at. Each-value_of Q es k v h.1 at) is
    where
      go : (b : Bool) → (value_of same es k ≡ Some v → Q v) → cond b (Some e.1) (value_of same es k) ≡ Some v → Q v
      go true r at = let found : e.1 ≡ v = cc in subst Q found h.0
      go false r at = r at

  pub Each-with_value : (Q : K × V → Type 0) (es : List (K × V)) (k : K) (v : V) → Q (k, v) → Each Q es → Each Q (with_value same es k v)
  Each-with_value Q [] k v q h = tt
  Each-with_value Q (e ∷ es) k v q h = go (same e.0 k) (Each-with_value Q es k v q h.1)
    where
      go : (b : Bool) → Each Q (with_value same es k v) → Each Q (cond b ((k, v) ∷ es) (e ∷ with_value same es k v))
      go true r = (q, h.1)
      go false r = (h.0, r)

  pub Each-without_key : (Q : K × V → Type 0) (es : List (K × V)) (k : K) → Each Q es → Each Q (without_key same es k)
  Each-without_key Q [] k h = tt
  Each-without_key Q (e ∷ es) k h = go (same e.0 k) (Each-without_key Q es k h.1)
    where
      go : (b : Bool) → Each Q (without_key same es k) → Each Q (cond b (without_key same es k) (e ∷ without_key same es k))
      go true r = r
      go false r = (h.0, r)

  pub Each-goes_on : (Q : K × V → Type 0) (es : List (K × V)) (k : K) (o : Option V) → ((v : V) → o ≡ Some v → Q (k, v)) → Each Q es → Each Q (with_optional_value same es k o)
  Each-goes_on Q es k None q h = Each-without_key Q es k h
  Each-goes_on Q es k (Some v) q h = Each-with_value Q es k v (q v refl) h

-- ---- what a key has

abbrev pub keys : {K V : Type 0} → List (K × V) → List K
keys {K} {V} es = map (λ (e : K × V). e.0) es

test_other : {K : Type 0} (same : K → K → Bool) → ((a b : K) → Decides (same a b) (a ≡ b)) → (n o : K) → n ≢ o → same n o ≡ false
test_other same decides n o other = go (same n o) refl
  where
    go : (b : Bool) → same n o ≡ b → b ≡ false
    go true p = absurd (other ((decides n o).0 p))
    go false p = refl

module _ {K V : Type 0} (same : K → K → Bool) (decides : (a b : K) → Decides (same a b) (a ≡ b)) where
  pub value_of-with_value : (es : List (K × V)) (k : K) (v u : V) → value_of same es k ≡ Some u → value_of same (with_value same es k v) k ≡ Some v
  value_of-with_value [] k v u e = cc
  value_of-with_value ((j, w) ∷ es) k v u e = go (same j k) refl (λ h. value_of-with_value es k v u h) e
    where
      go : (b : Bool) → same j k ≡ b → (value_of same es k ≡ Some u → value_of same (with_value same es k v) k ≡ Some v) → cond b (Some w) (value_of same es k) ≡ Some u → value_of same (cond b ((k, v) ∷ es) ((j, w) ∷ with_value same es k v)) k ≡ Some v
      go true q more h = rw ((decides k k).1 refl) refl
      go false q more h = rw q (more h)

  pub value_of-with_value-other : (es : List (K × V)) (k o : K) (v : V) → k ≢ o → value_of same (with_value same es k v) o ≡ value_of same es o
  value_of-with_value-other [] k o v other = refl
  value_of-with_value-other ((j, w) ∷ es) k o v other = go (same j k) refl (value_of-with_value-other es k o v other)
    where
      go : (b : Bool) → same j k ≡ b → value_of same (with_value same es k v) o ≡ value_of same es o → value_of same (cond b ((k, v) ∷ es) ((j, w) ∷ with_value same es k v)) o ≡ cond (same j o) (Some w) (value_of same es o)
      go true q more = rw (test_other same decides k o other, test_other same decides j o (λ e. other (sym ((decides j k).0 q) ∙ e))) refl
      go false q more = ap (λ (r : Option V). cond (same j o) (Some w) r) more

  -- a value is put for a key that has one: a key that has none goes on to have none
  pub value_of-with_value-none : (es : List (K × V)) (k o : K) (v : V) → value_of same es o ≡ None → value_of same (with_value same es k v) o ≡ None
  value_of-with_value-none [] k o v e = refl
  value_of-with_value-none ((j, w) ∷ es) k o v e = go (same j k) refl (same j o) refl (λ h. value_of-with_value-none es k o v h) e
    where
      go : (b : Bool) → same j k ≡ b → (c : Bool) → same j o ≡ c → (value_of same es o ≡ None → value_of same (with_value same es k v) o ≡ None) → cond c (Some w) (value_of same es o) ≡ None →
          value_of same (cond b ((k, v) ∷ es) ((j, w) ∷ with_value same es k v)) o ≡ None
      go b q true at more h = cc
      go true q false at more h = rw (← (decides j k).0 q, at) h
      go false q false at more h = rw at (more h)

  pub value_of-without_key : (es : List (K × V)) (k : K) → value_of same (without_key same es k) k ≡ None
  value_of-without_key [] k = refl
  value_of-without_key ((j, w) ∷ es) k = go (same j k) refl (value_of-without_key es k)
    where
      go : (b : Bool) → same j k ≡ b → value_of same (without_key same es k) k ≡ None → value_of same (cond b (without_key same es k) ((j, w) ∷ without_key same es k)) k ≡ None
      go true q more = more
      go false q more = rw q more

  pub value_of-without_key-other : (es : List (K × V)) (k o : K) → k ≢ o → value_of same (without_key same es k) o ≡ value_of same es o
  value_of-without_key-other [] k o other = refl
  value_of-without_key-other ((j, w) ∷ es) k o other = go (same j k) refl (value_of-without_key-other es k o other)
    where
      go : (b : Bool) → same j k ≡ b → value_of same (without_key same es k) o ≡ value_of same es o → value_of same (cond b (without_key same es k) ((j, w) ∷ without_key same es k)) o ≡ cond (same j o) (Some w) (value_of same es o)
      go true q more = rw (test_other same decides j o (λ e. other (sym ((decides j k).0 q) ∙ e))) more
      go false q more = ap (λ (r : Option V). cond (same j o) (Some w) r) more

  pub value_of-goes_on : (es : List (K × V)) (k : K) (r : Option V) (w : V) → value_of same es k ≡ Some w → value_of same (with_optional_value same es k r) k ≡ r
  value_of-goes_on es k None w at = value_of-without_key es k
  value_of-goes_on es k (Some v) w at = value_of-with_value es k v w at

  pub value_of-goes_on-other : (es : List (K × V)) (k o : K) (r : Option V) → k ≢ o → value_of same (with_optional_value same es k r) o ≡ value_of same es o
  value_of-goes_on-other es k o None other = value_of-without_key-other es k o other
  value_of-goes_on-other es k o (Some v) other = value_of-with_value-other es k o v other

  -- what a key has after its value, or another's, went on
  pub value_of-goes_on-cases : (es : List (K × V)) (k o : K) (r : Option V) (w u : V) → value_of same es k ≡ Some w → value_of same (with_optional_value same es k r) o ≡ Some u →
      ((o ≡ k) × (r ≡ Some u)) ⊎ ((k ≢ o) × (value_of same es o ≡ Some u))
  value_of-goes_on-cases es k o r w u at h = go (same k o) refl
    where
      go : (b : Bool) → same k o ≡ b → ((o ≡ k) × (r ≡ Some u)) ⊎ ((k ≢ o) × (value_of same es o ≡ Some u))
      go true q =
          let e : k ≡ o = (decides k o).0 q in
          inl (sym e, sym (rw (← e) (value_of-goes_on es k r w at)) ∙ h)
      go false q =
          let other : k ≢ o = λ (e : k ≡ o). let yes : same k o ≡ true = (decides k o).1 e in cc in
          inr (other, sym (value_of-goes_on-other es k o r other) ∙ h)

  pub value_of-append : (es fs : List (K × V)) (k : K) (v : V) → value_of same es k ≡ Some v → value_of same (es ++ fs) k ≡ Some v
  value_of-append [] fs k v h = cc
  value_of-append ((j, w) ∷ es) fs k v h = go (same j k) (λ at. value_of-append es fs k v at) h
    where
      go : (b : Bool) → (value_of same es k ≡ Some v → value_of same (es ++ fs) k ≡ Some v) → cond b (Some w) (value_of same es k) ≡ Some v → cond b (Some w) (value_of same (es ++ fs) k) ≡ Some v
      go true more at = at
      go false more at = more at

  pub value_of-append-other : (es fs : List (K × V)) (k : K) → value_of same es k ≡ None → value_of same (es ++ fs) k ≡ value_of same fs k
  value_of-append-other [] fs k h = refl
  value_of-append-other ((j, w) ∷ es) fs k h = go (same j k) (λ at. value_of-append-other es fs k at) h
    where
      go : (b : Bool) → (value_of same es k ≡ None → value_of same (es ++ fs) k ≡ value_of same fs k) → cond b (Some w) (value_of same es k) ≡ None → cond b (Some w) (value_of same (es ++ fs) k) ≡ value_of same fs k
      go true more at = cc
      go false more at = more at

  -- ---- keys

  pub Each-keys-with_value : (P : K → Type 0) (es : List (K × V)) (k : K) (v : V) → Each P (keys es) → Each P (keys (with_value same es k v))
  Each-keys-with_value P [] k v h = tt
  Each-keys-with_value P (e ∷ es) k v h = go (same e.0 k) refl (Each-keys-with_value P es k v h.1)
    where
      go : (b : Bool) → same e.0 k ≡ b → Each P (keys (with_value same es k v)) → Each P (keys (cond b ((k, v) ∷ es) (e ∷ with_value same es k v)))
      go true at r = (subst P ((decides e.0 k).0 at) h.0, h.1)
      go false at r = (h.0, r)

  pub Each-keys-without_key : (P : K → Type 0) (es : List (K × V)) (k : K) → Each P (keys es) → Each P (keys (without_key same es k))
  Each-keys-without_key P [] k h = tt
  Each-keys-without_key P (e ∷ es) k h = go (same e.0 k) (Each-keys-without_key P es k h.1)
    where
      go : (b : Bool) → Each P (keys (without_key same es k)) → Each P (keys (cond b (without_key same es k) (e ∷ without_key same es k)))
      go true r = r
      go false r = (h.0, r)

  pub Each-keys-goes_on : (P : K → Type 0) (es : List (K × V)) (k : K) (o : Option V) → Each P (keys es) → Each P (keys (with_optional_value same es k o))
  Each-keys-goes_on P es k None h = Each-keys-without_key P es k h
  Each-keys-goes_on P es k (Some v) h = Each-keys-with_value P es k v h

  -- a key that has a value is one of the keys
  pub Each-key : (P : K → Type 0) (es : List (K × V)) (k : K) → IsSome (value_of same es k) → Each P (keys es) → P k
  Each-key P [] k some h = absurd (cc)
  Each-key P (e ∷ es) k some h = go (same e.0 k) refl some (λ l. Each-key P es k l h.1)
    where
      go : (b : Bool) → same e.0 k ≡ b → IsSome (cond b (Some e.1) (value_of same es k)) → (IsSome (value_of same es k) → P k) → P k
      go true at l r = subst P ((decides e.0 k).0 at) h.0
      go false at l r = r l

  pub AreDistinct-with_value : (es : List (K × V)) (k : K) (v : V) → AreDistinct (keys es) → AreDistinct (keys (with_value same es k v))
  AreDistinct-with_value [] k v h = tt
  AreDistinct-with_value (e ∷ es) k v h = go (same e.0 k) refl (AreDistinct-with_value es k v h.1)
    where
      go : (b : Bool) → same e.0 k ≡ b → AreDistinct (keys (with_value same es k v)) → AreDistinct (keys (cond b ((k, v) ∷ es) (e ∷ with_value same es k v)))
      go true at r = (subst (λ (x : K). Each (λ y. x ≢ y) (keys es)) ((decides e.0 k).0 at) h.0, h.1)
      go false at r = (Each-keys-with_value (λ y. e.0 ≢ y) es k v h.0, r)

  pub AreDistinct-without_key : (es : List (K × V)) (k : K) → AreDistinct (keys es) → AreDistinct (keys (without_key same es k))
  AreDistinct-without_key [] k h = tt
  AreDistinct-without_key (e ∷ es) k h = go (same e.0 k) (AreDistinct-without_key es k h.1)
    where
      go : (b : Bool) → AreDistinct (keys (without_key same es k)) → AreDistinct (keys (cond b (without_key same es k) (e ∷ without_key same es k)))
      go true r = r
      go false r = (Each-keys-without_key (λ y. e.0 ≢ y) es k h.0, r)

  pub AreDistinct-goes_on : (es : List (K × V)) (k : K) (o : Option V) → AreDistinct (keys es) → AreDistinct (keys (with_optional_value same es k o))
  AreDistinct-goes_on es k None h = AreDistinct-without_key es k h
  AreDistinct-goes_on es k (Some v) h = AreDistinct-with_value es k v h

-- ---- lengths

module _ {K V : Type 0} (same : K → K → Bool) where
  pub length-with_value : (es : List (K × V)) (k : K) (v : V) → length (with_value same es k v) ≡ length es
  length-with_value [] k v = refl
  length-with_value (e ∷ es) k v = go (same e.0 k) (length-with_value es k v)
    where
      go : (b : Bool) → length (with_value same es k v) ≡ length es → length (cond b ((k, v) ∷ es) (e ∷ with_value same es k v)) ≡ suc (length es)
      go true ih = refl
      go false ih = ap suc ih
