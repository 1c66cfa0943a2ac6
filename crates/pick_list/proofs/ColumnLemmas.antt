-- What a pick more, and a pick less, does to the columns.
use Rattle.std.proofs.Common.{arith, ◌≡◌, ◌≢◌, ◌∙◌, sym, ap, refl, subst, ℕ, zero, suc, ◌+◌, ◌-◌, ◌<◌, ◌≤◌, length, List, [], ◌∷◌, ◌++◌, take, drop, map, Bool, cond, Some, None, ◌⊎◌, inl, inr, add-one, get_or}
use Rattle.std.specs.Prelude.{Option, reverse, option_to_list}
use Rattle.std.proofs.lemmas.Bool.{eq-eqb, ne_eqb, cases_eq}
use Rattle.std.proofs.lemmas.List.{map-append, append-nil, append_assoc, drop_at, take_at, length-append, reverse-append, take_more, take_all}
use Rattle.tree_node.specs.declared.names.Name.{Name}
use Rattle.tree_node.specs.declared.names.ThreadName.{ThreadName}
use Rattle.tree_node.specs.declared.pick.Pick.{Pick}
use Rattle.tree_node.specs.Store.{Equation}
use Rattle.pick_list.specs.declared.columns.Stretch.{Stretch}
use Rattle.pick_list.specs.declared.columns.Naming.{Naming}
use Rattle.pick_list.specs.declared.columns.Bind.{Bind}
use Rattle.pick_list.specs.Columns.{Columns, AreColumns, columns_of, thread_at, fresh_at, bind_at, pick_at, picks_below, AreNamings, AreBinds, IsStretchOn, IsNamingOn, IsStretchBefore, IsNamingBefore, IsBindBefore}
use Rattle.pick_list.specs.Binds.{binds_of, equation_of}

-- ---- lists the other way round

pub reverse_push : {X : Type 0} (xs : List X) (x : X) → reverse (xs ++ x ∷ []) ≡ x ∷ reverse xs
reverse_push xs x = reverse-append xs (x ∷ [])

pub empty_list : {X : Type 0} (xs : List X) → length xs ≡ 0 → xs ≡ []
empty_list [] e = refl
empty_list (x ∷ xs) e = absurd (omega (arith, e))

-- ---- stretches

-- ---- namings

pub namings_more : (n m most more : ℕ) (ts : List Naming) → n ≤ m → most ≤ more → AreNamings n most ts → AreNamings m more ts
namings_more n m most more [] p q h = tt
namings_more n m most more (t ∷ ts) p q h = (let below = h.0 in omega arith, let within = h.1 in omega arith, h.2)

pub no_naming : (n most : ℕ) (ts : List Naming) (names : List Name) (k : ℕ) → AreNamings n most ts → n ≤ k → fresh_at ts names k ≡ []
no_naming n most [] names k h p = refl
no_naming n most (t ∷ ts) names k h p =
    ap (λ (b : Bool). cond b (drop t.first names) (fresh_at ts (take t.first names) k)) (ne_eqb t.pick k (λ is. absurd (let below = h.0 in omega arith)))
    ∙ no_naming t.pick t.first ts (take t.first names) k h.2 (let below = h.0 in omega arith)

pub naming_none : (n : ℕ) (before : List Name) (ts : List Naming) → AreNamings n (length before) ts → IsNamingOn n [] before ts ts
naming_none n before ts h = record {
  last = no_naming n (length before) ts (before ++ []) n h (omega arith);
  others = λ k below. ap (λ (names : List Name). fresh_at ts names k) (append-nil before);
  namings = namings_more n (n + 1) (length before) (length (before ++ [])) ts (omega arith) (omega (arith, length-append before [])) h;
}

pub naming_some : (n first : ℕ) (fresh before : List Name) (ts : List Naming) → length before ≡ first → AreNamings n first ts → IsNamingOn n fresh before ts (record { pick = n; first = first } ∷ ts)
naming_some n first fresh before ts is h = record {
  last = ap (λ (b : Bool). cond b (drop first (before ++ fresh)) (fresh_at ts (take first (before ++ fresh)) n)) (eq-eqb n n refl) ∙ drop_at before fresh first is;
  others = λ k below.
      ap (λ (b : Bool). cond b (drop first (before ++ fresh)) (fresh_at ts (take first (before ++ fresh)) k)) (ne_eqb n k (λ same. absurd (omega arith)))
      ∙ ap (λ (names : List Name). fresh_at ts names k) (take_at before fresh first is);
  namings = (omega arith, omega (arith, length-append before fresh), h);
}

-- ---- binds

pub no_bind : (n : ℕ) (bs : List Bind) (k : ℕ) → AreBinds n bs → n ≤ k → bind_at bs k ≡ None
no_bind n [] k h p = refl
no_bind n (b ∷ bs) k h p =
    ap (λ (d : Bool). cond d (Some (b.var, b.term)) (bind_at bs k)) (ne_eqb b.pick k (λ is. absurd (let below = h.0 in omega arith)))
    ∙ no_bind b.pick bs k h.1 (let below = h.0 in omega arith)

pub binds_more : (n m : ℕ) (bs : List Bind) → n ≤ m → AreBinds n bs → AreBinds m bs
binds_more n m [] p h = tt
binds_more n m (b ∷ bs) p h = (let below = h.0 in omega arith, h.1)

pub bind_here : (b : Bind) (bs : List Bind) (n : ℕ) → b.pick ≡ n → bind_at (b ∷ bs) n ≡ Some (b.var, b.term)
bind_here b bs n is = ap (λ (d : Bool). cond d (Some (b.var, b.term)) (bind_at bs n)) (eq-eqb b.pick n is)

pub bind_other : (b : Bind) (bs : List Bind) (k : ℕ) → b.pick ≢ k → bind_at (b ∷ bs) k ≡ bind_at bs k
bind_other b bs k other = ap (λ (d : Bool). cond d (Some (b.var, b.term)) (bind_at bs k)) (ne_eqb b.pick k other)

-- ---- the picks

pub same_pick : (t u : ThreadName) (f g : List Name) (a b : Option Equation) → t ≡ u → f ≡ g → a ≡ b → ◌≡◌ {A = Pick} (record { thread = t; fresh = f; bind = a }) (record { thread = u; fresh = g; bind = b })
same_pick t u f g a b p q r = cc

pub picks_same : (c d : Columns) (n : ℕ) →
    ((k : ℕ) → k < n → thread_at c.stretches k ≡ thread_at d.stretches k) → ((k : ℕ) → k < n → fresh_at c.namings c.names k ≡ fresh_at d.namings d.names k) → ((k : ℕ) → k < n → bind_at c.binds k ≡ bind_at d.binds k) →
    picks_below c n ≡ picks_below d n
picks_same c d zero threads names binds = refl
picks_same c d (suc n) threads names binds =
    ap (λ (ks : List Pick). ks ++ pick_at c n ∷ []) (picks_same c d n (λ k below. threads k (omega arith)) (λ k below. names k (omega arith)) (λ k below. binds k (omega arith)))
    ∙ ap (λ (p : Pick). picks_below d n ++ p ∷ []) (same_pick (thread_at c.stretches n) (thread_at d.stretches n) (fresh_at c.namings c.names n) (fresh_at d.namings d.names n) (bind_at c.binds n) (bind_at d.binds n)
    (threads n (omega arith)) (names n (omega arith)) (binds n (omega arith)))

pub length_picks : (c : Columns) (n : ℕ) → length (picks_below c n) ≡ n
length_picks c zero = refl
length_picks c (suc n) = length-append (picks_below c n) (pick_at c n ∷ []) ∙ (ap (λ (m : ℕ). m + 1) (length_picks c n) ∙ add-one n)

-- the columns of none
pub no_columns : (s : List Stretch) (n : List Naming) (m : List Name) (b : List Bind) → s ≡ [] → n ≡ [] → m ≡ [] → b ≡ [] → AreColumns 0 (columns_of s n m b)
no_columns s n m b p q r t = subst (λ (c : Columns). AreColumns 0 c) (sym same) (record { stretches = refl; namings = tt; binds = tt })
  where
    same : columns_of s n m b ≡ columns_of [] [] [] []
    same = cc

-- one pick more
pub picks_put : (c d : Columns) (n : ℕ) (k : Pick) → IsStretchOn n k.thread c.stretches d.stretches → IsNamingOn n k.fresh c.names c.namings d.namings → d.names ≡ c.names ++ k.fresh →
    ((i : ℕ) → i < n → bind_at d.binds i ≡ bind_at c.binds i) → bind_at d.binds n ≡ k.bind → picks_below d (suc n) ≡ picks_below c n ++ k ∷ []
picks_put c d n k stretches namings names before last =
    ap (λ (ks : List Pick). ks ++ pick_at d n ∷ []) (picks_same d c n stretches.before (λ i below. named i ∙ namings.others i below) before)
    ∙ ap (λ (p : Pick). picks_below c n ++ p ∷ []) (same_pick (thread_at d.stretches n) k.thread (fresh_at d.namings d.names n) k.fresh (bind_at d.binds n) k.bind stretches.last (named n ∙ namings.last) last)
  where
    named : (i : ℕ) → fresh_at d.namings d.names i ≡ fresh_at d.namings (c.names ++ k.fresh) i
    named i = ap (λ (l : List Name). fresh_at d.namings l i) names

-- one pick less
pub picks_before : (c d : Columns) (n : ℕ) → IsStretchBefore n c.stretches d.stretches → IsNamingBefore n c.names c.namings d.names d.namings → IsBindBefore n c.binds d.binds → picks_below d n ≡ picks_below c n
picks_before c d n stretches namings binds = picks_same d c n stretches.same namings.same binds.same

-- ---- the equations that picks add

binds_push : (ks : List Pick) (k : Pick) → binds_of (ks ++ k ∷ []) ≡ binds_of ks ++ option_to_list k.bind
binds_push [] k = append-nil (option_to_list k.bind)
binds_push (j ∷ ks) k = ap (λ (l : List Equation). option_to_list j.bind ++ l) (binds_push ks k) ∙ sym (append_assoc (option_to_list j.bind) (binds_of ks) (option_to_list k.bind))

-- those of the picks before a place
binds_below : List Bind → ℕ → List Equation
binds_below bs zero = []
binds_below bs (suc n) = binds_below bs n ++ option_to_list (bind_at bs n)

picks_bind : (c : Columns) (n : ℕ) → binds_of (picks_below c n) ≡ binds_below c.binds n
unfolding binds_below
picks_bind c zero = refl
picks_bind c (suc n) = binds_push (picks_below c n) (pick_at c n) ∙ ap (λ (l : List Equation). l ++ option_to_list (bind_at c.binds n)) (picks_bind c n)

below_same : (cs bs : List Bind) (n : ℕ) → ((k : ℕ) → k < n → bind_at cs k ≡ bind_at bs k) → binds_below cs n ≡ binds_below bs n
unfolding binds_below
below_same cs bs zero h = refl
below_same cs bs (suc n) h =
    ap (λ (l : List Equation). l ++ option_to_list (bind_at cs n)) (below_same cs bs n (λ k below. h k (omega arith)))
    ∙ ap (λ (o : Option Equation). binds_below bs n ++ option_to_list o) (h n (omega arith))

below_all : (n : ℕ) (bs : List Bind) → AreBinds n bs → binds_below bs n ≡ map equation_of (reverse bs)
unfolding binds_below
below_all zero [] h = refl
below_all zero (b ∷ bs) h = absurd (let below = h.0 in omega arith)
below_all (suc n) [] h = append-nil (binds_below [] n) ∙ below_all n [] tt
below_all (suc n) (b ∷ bs) h =
    go (cases_eq b.pick n) (λ is. below_all n bs (binds_more b.pick n bs (omega arith) h.1)) (λ other. below_all n (b ∷ bs) (let below = h.0 in omega arith, h.1))
  where
    whole : map equation_of (reverse bs) ++ equation_of b ∷ [] ≡ map equation_of (reverse (b ∷ bs))
    whole = sym (ap (map equation_of) (reverse-append (b ∷ []) bs) ∙ map-append equation_of (reverse bs) (b ∷ []))

    go : (b.pick ≡ n) ⊎ (b.pick ≡ n → ⊥) → (b.pick ≡ n → binds_below bs n ≡ map equation_of (reverse bs)) → ((b.pick ≡ n → ⊥) → binds_below (b ∷ bs) n ≡ map equation_of (reverse (b ∷ bs))) →
        binds_below (b ∷ bs) n ++ option_to_list (bind_at (b ∷ bs) n) ≡ map equation_of (reverse (b ∷ bs))
    go (inl is) here there =
        ap (λ (o : Option Equation). binds_below (b ∷ bs) n ++ option_to_list o) (bind_here b bs n is)
        ∙ (ap (λ (l : List Equation). l ++ equation_of b ∷ []) (below_same (b ∷ bs) bs n (λ k below. bind_other b bs k (λ same. absurd (omega arith))) ∙ here is)
        ∙ whole)
    go (inr other) here there =
        ap (λ (o : Option Equation). binds_below (b ∷ bs) n ++ option_to_list o) (bind_other b bs n other ∙ no_bind b.pick bs n h.1 (let below = h.0 in omega arith))
        ∙ (append-nil (binds_below (b ∷ bs) n) ∙ there other)

pub picks_bound : (c : Columns) (n : ℕ) → AreBinds n c.binds → map equation_of (reverse c.binds) ≡ binds_of (picks_below c n)
picks_bound c n h = sym (picks_bind c n ∙ below_all n c.binds h)

-- the last pick neither takes nor binds, where the last naming or bind is of another one
last_first : {X : Type 0} (xs : List X) (d : X) → 0 < length xs → reverse xs ≡ get_or xs (length xs - 1) d ∷ reverse (take (length xs - 1) xs)
last_first xs d some =
    ap reverse (sym (take_all (length xs - 1 + 1) xs (omega arith)) ∙ take_more xs (length xs - 1) d (omega arith))
    ∙ reverse_push (take (length xs - 1) xs) (get_or xs (length xs - 1) d)

pub no_last_bind : (n : ℕ) (xs : List Bind) (d : Bind) → AreBinds (n + 1) (reverse xs) → 0 < length xs → (get_or xs (length xs - 1) d).pick ≢ n → bind_at (reverse xs) n ≡ None
no_last_bind n xs d h some other =
    let is = last_first xs d some in
    let last : Bind = get_or xs (length xs - 1) d in
    let rest : List Bind = reverse (take (length xs - 1) xs) in
    let all : AreBinds (n + 1) (last ∷ rest) = subst (λ (bs : List Bind). AreBinds (n + 1) bs) is h in
    ap (λ (bs : List Bind). bind_at bs n) is ∙ (bind_other last rest n other ∙ no_bind last.pick rest n all.1 (let below = all.0 in omega arith))

pub no_last_naming : (n most : ℕ) (xs : List Naming) (names : List Name) (d : Naming) → AreNamings (n + 1) most (reverse xs) → 0 < length xs → (get_or xs (length xs - 1) d).pick ≢ n → fresh_at (reverse xs) names n ≡ []
no_last_naming n most xs names d h some other =
    let is = last_first xs d some in
    let last : Naming = get_or xs (length xs - 1) d in
    let rest : List Naming = reverse (take (length xs - 1) xs) in
    let all : AreNamings (n + 1) most (last ∷ rest) = subst (λ (ts : List Naming). AreNamings (n + 1) most ts) is h in
    ap (λ (ts : List Naming). fresh_at ts names n) is
    ∙ (ap (λ (b : Bool). cond b (drop last.first names) (fresh_at rest (take last.first names) n)) (ne_eqb last.pick n other)
    ∙ no_naming last.pick last.first rest (take last.first names) n all.2 (let below = all.0 in omega arith))

-- the picks before the last one are the others
pub picks_front : (c : Columns) (n m : ℕ) → n ≡ m + 1 → picks_below c m ≡ take m (picks_below c n)
picks_front c n m is =
    sym (ap (λ (i : ℕ). take m (picks_below c i)) (is ∙ add-one m) ∙ take_at (picks_below c m) (pick_at c m ∷ []) m (length_picks c m))

-- one pick less, which is told before those that were taken away
pub told_before : (c d : Columns) (n m : ℕ) (out : List Pick) (k : Pick) (all : List Pick) → n ≡ m + 1 → picks_below d m ≡ picks_below c m → k ≡ pick_at c m →
    picks_below c n ++ reverse out ≡ all → picks_below d m ++ reverse (out ++ k ∷ []) ≡ all
told_before c d n m out k all is same last told =
    ap (λ (ks : List Pick). picks_below d m ++ ks) (reverse_push out k)
    ∙ (ap (λ (ks : List Pick). ks ++ k ∷ reverse out) same
    ∙ (ap (λ (p : Pick). picks_below c m ++ p ∷ reverse out) last
    ∙ (sym (append_assoc (picks_below c m) (pick_at c m ∷ []) (reverse out))
    ∙ (ap (λ (i : ℕ). picks_below c i ++ reverse out) (sym (is ∙ add-one m)) ∙ told))))
