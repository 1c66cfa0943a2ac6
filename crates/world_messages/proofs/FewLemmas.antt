-- At most one message for each key: at most as many messages as keys.
use Rattle.std.proofs.Common.{arith, ◌≡◌, ◌≢◌, ◌∙◌, sym, ap, refl, subst, ℕ, zero, suc, ◌+◌, ◌-◌, ◌*◌, ◌≤◌, List, [], ◌∷◌, ◌++◌, map, length, ◌⊎◌, inl, inr, Bool, true, false, cond, length-append}
use Rattle.std.specs.Prelude.{Contains, ◌==◌}
use Rattle.std.specs.List.{count_by}
use Rattle.std.proofs.lemmas.List.Elements.{Contains-append_left, Contains-append_right}
use Rattle.tree_node.proofs.ClassLemmas.{Contains-cons_cases, Contains-head, Contains-tail}
use Rattle.bind_protocol.proofs.ListLemmas.{one, count_cons}
use Rattle.world_model.proofs.MailLemmas.{nothing}
use Rattle.world_model.proofs.PutLemmas.{nat_decides}

module _ {M K : Type 0} (kind : M → Bool) (is : K → M → Bool) where
  -- the messages of these keys
  abbrev all_of : List K → List M → ℕ
  all_of [] ms = 0
  all_of (k ∷ ks) ms = count_by (is k) ms + all_of ks ms

  one_more : (ks : List K) (m : M) (ms : List M) → all_of ks ms ≤ all_of ks (m ∷ ms)
  one_more [] m ms = omega arith
  one_more (k ∷ ks) m ms = omega (arith, count_cons (is k) m ms, one_more ks m ms)

  counted_more : (ks : List K) (m : M) (ms : List M) (k : K) → Contains ks k → is k m ≡ true → 1 + all_of ks ms ≤ all_of ks (m ∷ ms)
  counted_more [] m ms k at e = absurd (nothing k at)
  counted_more (l ∷ ks) m ms k at e = go (Contains-cons_cases l k ks at) (λ c. counted_more ks m ms k c e)
    where
      go : (l ≡ k) ⊎ Contains ks k → (Contains ks k → 1 + all_of ks ms ≤ all_of ks (m ∷ ms)) → 1 + all_of (l ∷ ks) ms ≤ all_of (l ∷ ks) (m ∷ ms)
      go (inl same) ih = let here : one (is l m) ≡ 1 = ap (λ (z : K). one (is z m)) same ∙ ap one e in omega (arith, count_cons (is l) m ms, one_more ks m ms)
      go (inr c) ih = omega (arith, count_cons (is l) m ms, ih c)

  -- each message of the kind has a key
  abbrev HaveKeys : List K → List M → Type 0
  HaveKeys ks ms = (m : M) → Contains ms m → kind m ≡ true → (k : K) × Contains ks k × (is k m ≡ true)

  kind_among : (ks : List K) (ms : List M) → HaveKeys ks ms → count_by kind ms ≤ all_of ks ms
  kind_among ks [] h = omega arith
  kind_among ks (m ∷ ms) h = go (kind m) refl (kind_among ks ms (λ o c. h o (Contains-tail m o ms c)))
    where
      go : (b : Bool) → kind m ≡ b → count_by kind ms ≤ all_of ks ms → count_by kind (m ∷ ms) ≤ all_of ks (m ∷ ms)
      go true q ih =
          let key = h m (Contains-head m ms) q in
          let here : one (kind m) ≡ 1 = ap one q in
          omega (arith, ih, count_cons kind m ms, counted_more ks m ms key.0 key.1 key.2)
      go false q ih = let here : one (kind m) ≡ 0 = ap one q in omega (arith, ih, count_cons kind m ms, one_more ks m ms)

  one_each : (ks : List K) (ms : List M) → ((k : K) → count_by (is k) ms ≤ 1) → all_of ks ms ≤ length ks
  one_each [] ms h = omega arith
  one_each (k ∷ ks) ms h = omega (arith, h k, one_each ks ms h)

  -- so there are at most as many as keys
  pub few : (ks : List K) (ms : List M) → HaveKeys ks ms → ((k : K) → count_by (is k) ms ≤ 1) → count_by kind ms ≤ length ks
  few ks ms h g = omega (arith, kind_among ks ms h, one_each ks ms g)

-- ---- pairs

module _ {A B : Type 0} (others : A → List B) (w : ℕ) where
  abbrev pub pairs : List A → List (A × B)
  pairs [] = []
  pairs (a ∷ firsts) = map (λ (b : B). (a, b)) (others a) ++ pairs firsts

  length_map : {X Y : Type 0} (g : X → Y) (xs : List X) → length (map g xs) ≡ length xs
  length_map g [] = refl
  length_map g (x ∷ xs) = ap suc (length_map g xs)

  pub many_pairs : (firsts : List A) → ((a : A) → Contains firsts a → length (others a) ≤ w) → length (pairs firsts) ≤ length firsts * w
  many_pairs [] h = omega arith
  many_pairs (a ∷ firsts) h =
      let ih : length (pairs firsts) ≤ length firsts * w = many_pairs firsts (λ b c. h b (Contains-tail a b firsts c)) in
      let e : length (pairs (a ∷ firsts)) ≡ length (others a) + length (pairs firsts) = length-append (map (λ (b : B). (a, b)) (others a)) (pairs firsts) ∙ ap (λ (k : ℕ). k + length (pairs firsts)) (length_map (λ (b : B). (a, b)) (others a)) in
      let product : suc (length firsts) * w ≡ w + length firsts * w = grind arith in
      omega (arith, ih, e, h a (Contains-head a firsts), product)

  in_map : (a : A) (bs : List B) (b : B) → Contains bs b → Contains {X = A × B} (map (λ (c : B). (a, c)) bs) (a, b)
  in_map a [] b c = absurd (nothing b c)
  in_map a (d ∷ bs) b c = go (Contains-cons_cases d b bs c) (λ k. in_map a bs b k)
    where
      go : (d ≡ b) ⊎ Contains bs b → (Contains bs b → Contains {X = A × B} (map (λ (c : B). (a, c)) bs) (a, b)) → Contains {X = A × B} ((a, d) ∷ map (λ (c : B). (a, c)) bs) (a, b)
      go (inl e) ih = subst (λ (z : B). Contains {X = A × B} ((a, d) ∷ map (λ (c : B). (a, c)) bs) (a, z)) e (Contains-head (a, d) (map (λ (c : B). (a, c)) bs))
      go (inr k) ih = Contains-tail (a, d) (a, b) (map (λ (c : B). (a, c)) bs) (ih k)

  pub pair_in : (firsts : List A) (a : A) (b : B) → Contains firsts a → Contains (others a) b → Contains {X = A × B} (pairs firsts) (a, b)
  pair_in [] a b c d = absurd (nothing a c)
  pair_in (e ∷ firsts) a b c d = go (Contains-cons_cases e a firsts c) (λ k. pair_in firsts a b k d)
    where
      go : (e ≡ a) ⊎ Contains firsts a → (Contains firsts a → Contains {X = A × B} (pairs firsts) (a, b)) → Contains {X = A × B} (pairs (e ∷ firsts)) (a, b)
      go (inl q) ih = Contains-append_left (map (λ (c : B). (e, c)) (others e)) (pairs firsts) (a, b) (subst (λ (z : A). Contains {X = A × B} (map (λ (c : B). (z, c)) (others z)) (a, b)) (sym q) (in_map a (others a) b d))
      go (inr k) ih = Contains-append_right (map (λ (c : B). (e, c)) (others e)) (pairs firsts) (a, b) (ih k)

-- ---- the sites 1 to n but one

abbrev pub sites_but : ℕ → ℕ → List ℕ
sites_but zero i = []
sites_but (suc n) i = cond (suc n == i) (sites_but n i) (suc n ∷ sites_but n i)

all_sites : (n i : ℕ) → length (sites_but n i) ≤ n
all_sites zero i = omega arith
all_sites (suc n) i = go (suc n == i) (all_sites n i)
  where
    go : (b : Bool) → length (sites_but n i) ≤ n → length (cond b (sites_but n i) (suc n ∷ sites_but n i)) ≤ suc n
    go true ih = omega arith
    go false ih = omega arith

pub others_few : (n i : ℕ) → 1 ≤ i → i ≤ n → length (sites_but n i) ≤ n - 1
others_few zero i low high = absurd (omega arith)
others_few (suc n) i low high = go (suc n == i) refl (λ h. others_few n i low h)
  where
    go : (b : Bool) → (suc n == i) ≡ b → (i ≤ n → length (sites_but n i) ≤ n - 1) → length (cond b (sites_but n i) (suc n ∷ sites_but n i)) ≤ suc n - 1
    go true q ih = omega (arith, all_sites n i)
    go false q ih =
        let other : suc n ≢ i = λ (z : suc n ≡ i). let yes : (suc n == i) ≡ true = (nat_decides (suc n) i).1 z in cc in
        let less : i ≤ n = search (arith, other, high) in
        omega (arith, ih less, low)

pub site_in : (n i k : ℕ) → 1 ≤ k → k ≤ n → k ≢ i → Contains (sites_but n i) k
site_in zero i k low high other = absurd (omega arith)
site_in (suc n) i k low high other = go (suc n == i) refl (k == suc n) refl (λ h. site_in n i k low h other)
  where
    go : (b : Bool) → (suc n == i) ≡ b → (c : Bool) → (k == suc n) ≡ c → (k ≤ n → Contains (sites_but n i) k) → Contains (cond b (sites_but n i) (suc n ∷ sites_but n i)) k
    go true q true r ih = absurd (other ((nat_decides k (suc n)).0 r ∙ (nat_decides (suc n) i).0 q))
    go true q false r ih = ih (less r)
      where
        less : (k == suc n) ≡ false → k ≤ n
        less r = let no : k ≢ suc n = λ (z : k ≡ suc n). let yes : (k == suc n) ≡ true = (nat_decides k (suc n)).1 z in cc in search (arith, no, high)
    go false q true r ih = subst (λ (z : ℕ). Contains (suc n ∷ sites_but n i) z) (sym ((nat_decides k (suc n)).0 r)) (Contains-head (suc n) (sites_but n i))
    go false q false r ih = Contains-tail (suc n) k (sites_but n i) (ih (less r))
      where
        less : (k == suc n) ≡ false → k ≤ n
        less r = let no : k ≢ suc n = λ (z : k ≡ suc n). let yes : (k == suc n) ≡ true = (nat_decides k (suc n)).1 z in cc in search (arith, no, high)
