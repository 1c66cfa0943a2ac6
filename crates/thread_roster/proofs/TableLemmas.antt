-- The slots of names in a row by number, and others behind them.
use Rattle.std.proofs.Common.{arith, ◌≡◌, ◌≢◌, ◌∙◌, sym, ap, refl, inl, inr, ◌⊎◌, ℕ, zero, suc, ◌+◌, ◌-◌, ◌<◌, ◌≤◌, List, [], ◌∷◌, ◌++◌, length, get_or, set, Bool, true, false, cond, Some, None}
use Rattle.std.specs.Prelude.{Option}
use Rattle.std.proofs.lemmas.Bool.Decides.{nat_tests}
use Rattle.tree_node.specs.declared.names.ThreadName.{ThreadName}
use Rattle.tree_node.specs.State.{equal_thread}
use Rattle.thread_roster.specs.Slots.{slot_in, with_slot}
use Rattle.thread_roster.specs.Row.{in_row, is_in_row}
use Rattle.thread_roster.proofs.NameLemmas.{is_same, is_other, name_cases}

abbrev pub Filed : Type 0
Filed = List (ThreadName × ℕ)

by_parts : (site num : ℕ) (x : ThreadName) → x.site ≡ site → x.num ≡ num → x ≡ record { site = site; num = num }
by_parts site num x p q = ap (λ (s : ℕ). record { site = s; num = x.num }) p ∙ ap (λ (n : ℕ). record { site = site; num = n }) q

apart : (site num : ℕ) (x : ThreadName) → (x.site ≡ site → x.num ≡ num → ⊥) → equal_thread x (record { site = site; num = num }) ≡ false
apart site num x h = is_other x (record { site = site; num = num }) (λ e. h (ap (λ (y : ThreadName). y.site) e) (ap (λ (y : ThreadName). y.num) e))

-- ---- a name in the row

first_there : (site first i : ℕ) (bs : List Bool) (es : Filed) (x : ThreadName) → x.site ≡ site → x.num ≡ first → slot_in (in_row site first i (true ∷ bs) ++ es) x ≡ Some i
first_there site first i bs es x own num = rw (is_same x (record { site = site; num = first }) (by_parts site first x own num)) refl

-- a place that is not the name's is passed
passed : (c : Bool) (site first i : ℕ) (bs : List Bool) (es : Filed) (x : ThreadName) → (x.site ≡ site → x.num ≡ first → ⊥) →
    slot_in (in_row site first i (c ∷ bs) ++ es) x ≡ slot_in (in_row site (suc first) (suc i) bs ++ es) x
passed true site first i bs es x out = rw (apart site first x out) refl
passed false site first i bs es x out = refl

-- a name that is none of the row is looked up behind it
beside : (site first i : ℕ) (bs : List Bool) (es : Filed) (x : ThreadName) → (x.site ≡ site → first ≤ x.num → x.num < first + length bs → ⊥) → slot_in (in_row site first i bs ++ es) x ≡ slot_in es x
beside site first i [] es x out = refl
beside site first i (c ∷ bs) es x out =
    passed c site first i bs es x (λ own k. out own (omega (arith, k)) (omega (arith, k)))
    ∙ beside site (suc first) (suc i) bs es x (λ own least below. out own (omega (arith, least)) (omega (arith, below)))

at_there : (site first i : ℕ) (bs : List Bool) (es : Filed) (x : ThreadName) (j : ℕ) (b : Bool) → x.site ≡ site → x.num ≡ first + j → j < length bs → b ≡ get_or bs j b → b ≡ true → slot_in (in_row site first i bs ++ es) x ≡ Some (i + j)
at_there site first i [] es x j b own num below is is_true = absurd (omega (arith, below))
at_there site first i (c ∷ bs) es x zero b own num below is is_true =
    let place : i ≡ i + 0 = omega arith in
    ap (λ (d : Bool). slot_in (in_row site first i (d ∷ bs) ++ es) x) (sym is ∙ is_true) ∙ first_there site first i bs es x own (omega (arith, num)) ∙ ap (λ (n : ℕ). Some n) place
at_there site first i (c ∷ bs) es x (suc j) b own num below is is_true =
    let place : suc i + j ≡ i + suc j = omega arith in
    passed c site first i bs es x (λ _ k. omega (arith, k, num))
    ∙ at_there site (suc first) (suc i) bs es x j b own (omega (arith, num)) (omega (arith, below)) is is_true ∙ ap (λ (n : ℕ). Some n) place

at_gone : (site first i : ℕ) (bs : List Bool) (es : Filed) (x : ThreadName) (j : ℕ) (b : Bool) → x.num ≡ first + j → j < length bs → b ≡ get_or bs j b → b ≡ false → slot_in (in_row site first i bs ++ es) x ≡ slot_in es x
at_gone site first i [] es x j b num below is is_false = absurd (omega (arith, below))
at_gone site first i (c ∷ bs) es x zero b num below is is_false =
    ap (λ (d : Bool). slot_in (in_row site first i (d ∷ bs) ++ es) x) (sym is ∙ is_false) ∙ beside site (suc first) (suc i) bs es x (λ _ least _. omega (arith, least, num))
at_gone site first i (c ∷ bs) es x (suc j) b num below is is_false =
    passed c site first i bs es x (λ _ k. omega (arith, k, num)) ∙ at_gone site (suc first) (suc i) bs es x j b (omega (arith, num)) (omega (arith, below)) is is_false

-- what the test of the row tells
pub record Within (site first n : ℕ) (x : ThreadName) : Type 0 where
  pub own : x.site ≡ site
  pub num : x.num ≡ first + (x.num - first)
  pub below : x.num - first < n

pub within : (site first n : ℕ) (x : ThreadName) → is_in_row site first n x ≡ true → Within site first n x
within site first n x h = record { own = grind (arith, nat_tests, h); num = grind (arith, nat_tests, h); below = grind (arith, nat_tests, h) }

pub row_there : (site first : ℕ) (bs : List Bool) (es : Filed) (x : ThreadName) (b : Bool) → is_in_row site first (length bs) x ≡ true → b ≡ get_or bs (x.num - first) b → b ≡ true → slot_in (in_row site first 0 bs ++ es) x ≡ Some (x.num - first)
row_there site first bs es x b h is is_true =
    let w = within site first (length bs) x h in
    let place : 0 + (x.num - first) ≡ x.num - first = omega arith in
    at_there site first 0 bs es x (x.num - first) b w.own w.num w.below is is_true ∙ ap (λ (n : ℕ). Some n) place

pub row_gone : (site first : ℕ) (bs : List Bool) (es : Filed) (x : ThreadName) (b : Bool) → is_in_row site first (length bs) x ≡ true → b ≡ get_or bs (x.num - first) b → b ≡ false → slot_in (in_row site first 0 bs ++ es) x ≡ slot_in es x
row_gone site first bs es x b h is is_false = let w = within site first (length bs) x h in at_gone site first 0 bs es x (x.num - first) b w.num w.below is is_false

pub row_beside : (site first : ℕ) (bs : List Bool) (es : Filed) (x : ThreadName) → is_in_row site first (length bs) x ≡ false → slot_in (in_row site first 0 bs ++ es) x ≡ slot_in es x
row_beside site first bs es x h = beside site first 0 bs es x (λ own least below. grind (arith, nat_tests, h, own, least, below))

-- ---- the names behind the row

-- where they say the same of a name
same_behind : (xs es fs : Filed) (x : ThreadName) → slot_in fs x ≡ slot_in es x → slot_in (xs ++ fs) x ≡ slot_in (xs ++ es) x
same_behind [] es fs x e = e
same_behind (y ∷ xs) es fs x e = ap (λ (o : Option ℕ). cond (equal_thread x y.0) (Some y.1) o) (same_behind xs es fs x e)

-- a name that has no slot has none by the row
none_before : (xs es fs : Filed) (x : ThreadName) → slot_in (xs ++ es) x ≡ None → slot_in (xs ++ fs) x ≡ slot_in fs x
none_before [] es fs x e = refl
none_before (y ∷ xs) es fs x e = go (equal_thread x y.0) e (λ k. none_before xs es fs x k)
  where
    go : (r : Bool) → cond r (Some y.1) (slot_in (xs ++ es) x) ≡ None → (slot_in (xs ++ es) x ≡ None → slot_in (xs ++ fs) x ≡ slot_in fs x) → cond r (Some y.1) (slot_in (xs ++ fs) x) ≡ slot_in fs x
    go true e ih = cc
    go false e ih = ih e

-- what comes of one name and of the others
by_name : (slot now : ThreadName → Option ℕ) (n : ThreadName) (o : Option ℕ) → now n ≡ o → ((x : ThreadName) → n ≢ x → now x ≡ slot x) → (x : ThreadName) → now x ≡ with_slot slot n o x
by_name slot now n o there others x = go (name_cases n x)
  where
    go : (n ≡ x) ⊎ (n ≢ x) → now x ≡ with_slot slot n o x
    go (inl same) = ap now (sym same) ∙ there ∙ sym (rw (is_same n x same) refl)
    go (inr differ) = others x differ ∙ sym (rw (is_other n x differ) refl)

-- ---- a name leaves

left_other : (site first i : ℕ) (bs : List Bool) (es : Filed) (x : ThreadName) (j : ℕ) → (x.site ≡ site → x.num ≡ first + j → ⊥) → slot_in (in_row site first i (set bs j false) ++ es) x ≡ slot_in (in_row site first i bs ++ es) x
left_other site first i [] es x j out = refl
left_other site first i (c ∷ bs) es x zero out = sym (passed c site first i bs es x (λ own k. out own (omega (arith, k))))
left_other site first i (c ∷ bs) es x (suc j) out = go c (left_other site (suc first) (suc i) bs es x j (λ own k. out own (omega (arith, k))))
  where
    go : (c : Bool) → slot_in (in_row site (suc first) (suc i) (set bs j false) ++ es) x ≡ slot_in (in_row site (suc first) (suc i) bs ++ es) x →
        slot_in (in_row site first i (c ∷ set bs j false) ++ es) x ≡ slot_in (in_row site first i (c ∷ bs) ++ es) x
    go true ih = ap (λ (o : Option ℕ). cond (equal_thread x (record { site = site; num = first })) (Some i) o) ih
    go false ih = ih

left_there : (site first i : ℕ) (bs : List Bool) (es : Filed) (x : ThreadName) (j : ℕ) → x.num ≡ first + j → j < length bs → slot_in (in_row site first i (set bs j false) ++ es) x ≡ slot_in es x
left_there site first i [] es x j num below = absurd (omega (arith, below))
left_there site first i (c ∷ bs) es x zero num below = beside site (suc first) (suc i) bs es x (λ _ least _. omega (arith, least, num))
left_there site first i (c ∷ bs) es x (suc j) num below =
    passed c site first i (set bs j false) es x (λ _ k. omega (arith, k, num)) ∙ left_there site (suc first) (suc i) bs es x j (omega (arith, num)) (omega (arith, below))

differs : (site num : ℕ) (n x : ThreadName) → n.site ≡ site → n.num ≡ num → n ≢ x → x.site ≡ site → x.num ≡ num → ⊥
differs site num n x a b other p q = other (by_parts site num n a b ∙ sym (by_parts site num x p q))

none_now : (slot : ThreadName → Option ℕ) (n : ThreadName) (o : Option ℕ) → with_slot slot n o n ≡ o
none_now slot n o = rw (is_same n n refl) refl

others_now : (slot : ThreadName → Option ℕ) (n : ThreadName) (o : Option ℕ) (x : ThreadName) → n ≢ x → with_slot slot n o x ≡ slot x
others_now slot n o x h = rw (is_other n x h) refl

-- a name of the row
pub row_left : (site first : ℕ) (bs cs : List Bool) (es fs : Filed) (n : ThreadName) → is_in_row site first (length bs) n ≡ true → cs ≡ set bs (n.num - first) false → ((k : ThreadName) → slot_in fs k ≡ with_slot (slot_in es) n None k) →
    (x : ThreadName) → slot_in (in_row site first 0 cs ++ fs) x ≡ with_slot (slot_in (in_row site first 0 bs ++ es)) n None x
row_left site first bs cs es fs n h put rest =
    let w = within site first (length bs) n h in
    rw put (by_name (slot_in (in_row site first 0 bs ++ es)) (slot_in (in_row site first 0 (set bs (n.num - first) false) ++ fs)) n None
    (left_there site first 0 bs fs n (n.num - first) w.num w.below ∙ rest n ∙ none_now (slot_in es) n None)
    (λ x other. same_behind (in_row site first 0 (set bs (n.num - first) false)) es fs x (rest x ∙ others_now (slot_in es) n None x other)
    ∙ left_other site first 0 bs es x (n.num - first) (differs site (first + (n.num - first)) n x w.own w.num other)))

-- a name behind it
pub other_left : (site first : ℕ) (bs : List Bool) (es fs : Filed) (n : ThreadName) → is_in_row site first (length bs) n ≡ false → ((k : ThreadName) → slot_in fs k ≡ with_slot (slot_in es) n None k) →
    (x : ThreadName) → slot_in (in_row site first 0 bs ++ fs) x ≡ with_slot (slot_in (in_row site first 0 bs ++ es)) n None x
other_left site first bs es fs n h rest = by_name (slot_in (in_row site first 0 bs ++ es)) (slot_in (in_row site first 0 bs ++ fs)) n None
    (row_beside site first bs fs n h ∙ rest n ∙ none_now (slot_in es) n None)
    (λ x other. same_behind (in_row site first 0 bs) es fs x (rest x ∙ others_now (slot_in es) n None x other))

-- ---- a name comes

more_there : (site first i : ℕ) (bs : List Bool) (es : Filed) (x : ThreadName) → x.site ≡ site → x.num ≡ first + length bs → slot_in (in_row site first i (bs ++ true ∷ []) ++ es) x ≡ Some (i + length bs)
more_there site first i [] es x own num = let place : i ≡ i + 0 = omega arith in first_there site first i [] es x own (omega (arith, num)) ∙ ap (λ (n : ℕ). Some n) place
more_there site first i (c ∷ bs) es x own num =
    let place : suc i + length bs ≡ i + suc (length bs) = omega arith in
    passed c site first i (bs ++ true ∷ []) es x (λ _ k. omega (arith, k, num)) ∙ more_there site (suc first) (suc i) bs es x own (omega (arith, num)) ∙ ap (λ (n : ℕ). Some n) place

more_other : (site first i : ℕ) (bs : List Bool) (es : Filed) (x : ThreadName) → (x.site ≡ site → x.num ≡ first + length bs → ⊥) → slot_in (in_row site first i (bs ++ true ∷ []) ++ es) x ≡ slot_in (in_row site first i bs ++ es) x
more_other site first i [] es x out = passed true site first i [] es x (λ own k. out own (omega (arith, k)))
more_other site first i (c ∷ bs) es x out = go c (more_other site (suc first) (suc i) bs es x (λ own k. out own (omega (arith, k))))
  where
    go : (c : Bool) → slot_in (in_row site (suc first) (suc i) (bs ++ true ∷ []) ++ es) x ≡ slot_in (in_row site (suc first) (suc i) bs ++ es) x →
        slot_in (in_row site first i (c ∷ bs ++ true ∷ []) ++ es) x ≡ slot_in (in_row site first i (c ∷ bs) ++ es) x
    go true ih = ap (λ (o : Option ℕ). cond (equal_thread x (record { site = site; num = first })) (Some i) o) ih
    go false ih = ih

-- the next one of the row joins it
pub row_more : (site first : ℕ) (bs cs : List Bool) (es : Filed) (n : ThreadName) (slot : ℕ) → n ≡ record { site = site; num = first + length bs } → slot ≡ length bs → cs ≡ bs ++ true ∷ [] →
    (x : ThreadName) → slot_in (in_row site first 0 cs ++ es) x ≡ with_slot (slot_in (in_row site first 0 bs ++ es)) n (Some slot) x
row_more site first bs cs es n slot name count put =
    let own : n.site ≡ site = ap (λ (y : ThreadName). y.site) name in
    let num : n.num ≡ first + length bs = ap (λ (y : ThreadName). y.num) name in
    let place : 0 + length bs ≡ slot = omega (arith, count) in
    rw put (by_name (slot_in (in_row site first 0 bs ++ es)) (slot_in (in_row site first 0 (bs ++ true ∷ []) ++ es)) n (Some slot)
    (more_there site first 0 bs es n own num ∙ ap (λ (k : ℕ). Some k) place)
    (λ x other. more_other site first 0 bs es x (differs site (first + length bs) n x own num other)))

-- another one comes behind it
pub other_more : (site first : ℕ) (bs : List Bool) (es fs : Filed) (n : ThreadName) (slot : ℕ) → slot_in (in_row site first 0 bs ++ es) n ≡ None → ((k : ThreadName) → slot_in fs k ≡ with_slot (slot_in es) n (Some slot) k) →
    (x : ThreadName) → slot_in (in_row site first 0 bs ++ fs) x ≡ with_slot (slot_in (in_row site first 0 bs ++ es)) n (Some slot) x
other_more site first bs es fs n slot new put = by_name (slot_in (in_row site first 0 bs ++ es)) (slot_in (in_row site first 0 bs ++ fs)) n (Some slot)
    (none_before (in_row site first 0 bs) es fs n new ∙ put n ∙ none_now (slot_in es) n (Some slot))
    (λ x other. same_behind (in_row site first 0 bs) es fs x (put x ∙ others_now (slot_in es) n (Some slot) x other))
