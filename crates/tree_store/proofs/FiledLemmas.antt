-- Names in a row by number, and others between them.
use Rattle.std.proofs.Common.{arith, ◌≡◌, ◌∙◌, sym, ap, refl, subst, ℕ, zero, suc, ◌+◌, ◌-◌, ◌<◌, ◌≤◌, List, [], ◌∷◌, ◌++◌, length, get_or, set, get_or-set_same, get_or-set_other, length-set, ◌≢◌, ◌⊎◌, inl, inr, Bool, true, false, cond, Some, None, append_assoc, length-append}
use Rattle.std.specs.Prelude.{Contains, Option, IsSome, is_some, IsTrue, ◌↔◌, nat_lt, slice_index}
use Rattle.std.specs.Map.{lookup, set_value, keys_of}
use Rattle.std.proofs.lemmas.Bool.Decides.{nat_tests}
use Rattle.std.proofs.lemmas.List.Elements.{Contains-append_left, Contains-append_right, Contains-append_cases, Contains-push, Contains-push_cases}
use Rattle.std.proofs.lemmas.Map.Views.{Contains-keys_from_lookup, IsSome-lookup_from_Contains}
use Rattle.std.proofs.lemmas.List.{get_or_append_left, get_or_default}
use Rattle.std.proofs.Math.Seq.{get_or-append_seam}
use Rattle.std.specs.Cmp.{IsEquivalence, decided}
use Rattle.tree_node.specs.declared.names.VarName.{VarName}
use Rattle.tree_node.specs.Store.{equal_var}
use Rattle.tree_node.proofs.ClassLemmas.{same_name_decides, Contains-cons_cases, Contains-head, Contains-tail}
use Rattle.tree_store.specs.declared.names.Entry.{Entry}
use Rattle.tree_store.specs.Names.{NameTable, successive_names, interleaving, IsRising, IsPut, names_in, is_own, entry_ordinal, ordinal_of}
use Rattle.tree_store.proofs.LinkLemmas.{apart_false, put_lookup}

-- ---- a row

-- the name stands in a row of so many names of a site
abbrev InRun : ℕ → ℕ → ℕ → VarName → Type 0
InRun site first n x = (x.site ≡ site) × (first ≤ x.num) × (x.num < first + n)

by_parts : (site num : ℕ) (x : VarName) → x.site ≡ site → x.num ≡ num → record { site = site; num = num } ≡ x
by_parts site num x p q = ap (λ (s : ℕ). record { site = s; num = num }) (sym p) ∙ ap (λ (n : ℕ). record { site = x.site; num = n }) (sym q)

run_contains : (site first n : ℕ) (x : VarName) → InRun site first n x → Contains (successive_names site first n) x
run_contains site first zero x h = absurd (omega (arith, h.1, h.2))
run_contains site first (suc n) x h = go (nat_lt x.num (first + n)) refl (λ k. run_contains site first n x k)
  where
    go : (b : Bool) → nat_lt x.num (first + n) ≡ b → (InRun site first n x → Contains (successive_names site first n) x) → Contains (successive_names site first (suc n)) x
    go true e ih = Contains-append_left (successive_names site first n) _ x (ih (h.0, h.1, grind (arith, nat_tests)))
    go false e ih =
        let num : x.num ≡ first + n = grind (arith, nat_tests, h.2) in
        let name = by_parts site (first + n) x h.0 num in
        subst (λ (y : VarName). Contains (successive_names site first (suc n)) y) name (Contains-push (successive_names site first n) _)

run_among : (site first n : ℕ) (x : VarName) → Contains (successive_names site first n) x → InRun site first n x
run_among site first zero x (k, below, is) = absurd (omega arith)
run_among site first (suc n) x h = go (Contains-push_cases (successive_names site first n) _ x h) (λ k. run_among site first n x k)
  where
    go : Contains (successive_names site first n) x ⊎ (record { site = site; num = first + n } ≡ x) → (Contains (successive_names site first n) x → InRun site first n x) → InRun site first (suc n) x
    go (inl k) ih = let in_row : InRun site first n x = ih k in (in_row.0, in_row.1, omega (arith, in_row.2))
    go (inr e) ih = (sym (ap (λ (y : VarName). y.site) e), omega (arith, ap (λ (y : VarName). y.num) e), omega (arith, ap (λ (y : VarName). y.num) e))

-- ---- names woven into a row

abbrev Entries : Type 0
Entries = List (VarName × Entry)

woven_contains_row : (site first from last : ℕ) (es : Entries) (x : VarName) → InRun site (first + from) (last - from) x → Contains (interleaving site first from last es) x
woven_contains_row site first from last [] x h = run_contains site (first + from) (last - from) x h
woven_contains_row site first from last ((y, e) ∷ es) x h = go (nat_lt x.num (first + e.before)) refl (λ k. woven_contains_row site first e.before last es x k)
  where
    go : (b : Bool) → nat_lt x.num (first + e.before) ≡ b → (InRun site (first + e.before) (last - e.before) x → Contains (interleaving site first e.before last es) x) →
        Contains (interleaving site first from last ((y, e) ∷ es)) x
    go true e1 ih =
        Contains-append_left (successive_names site (first + from) (e.before - from)) _ x
        (run_contains site (first + from) (e.before - from) x (h.0, h.1, grind (arith, nat_tests, h.1)))
    go false e1 ih =
        Contains-append_right (successive_names site (first + from) (e.before - from)) _ x
        (Contains-tail y x _ (ih (h.0, grind (arith, nat_tests), grind (arith, nat_tests, h.2))))

woven_contains_other : (site first from last : ℕ) (es : Entries) (x : VarName) → Contains (keys_of es) x → Contains (interleaving site first from last es) x
woven_contains_other site first from last [] x (k, below, is) = absurd (omega arith)
woven_contains_other site first from last ((y, e) ∷ es) x h =
    Contains-append_right (successive_names site (first + from) (e.before - from)) _ x (go (Contains-cons_cases y x (keys_of es) h) (λ k. woven_contains_other site first e.before last es x k))
  where
    go : (y ≡ x) ⊎ Contains (keys_of es) x → (Contains (keys_of es) x → Contains (interleaving site first e.before last es) x) → Contains (y ∷ interleaving site first e.before last es) x
    go (inl same) ih = subst (λ (z : VarName). Contains (y ∷ interleaving site first e.before last es) z) same (Contains-head y _)
    go (inr k) ih = Contains-tail y x _ (ih k)

rising_reach : (from last : ℕ) (es : Entries) → IsRising from last es → from ≤ last
rising_reach from last [] h = h
rising_reach from last ((y, e) ∷ es) h = omega (arith, h.0, rising_reach e.before last es h.1)

woven_among : (site first from last : ℕ) (es : Entries) (x : VarName) → IsRising from last es → Contains (interleaving site first from last es) x →
    InRun site (first + from) (last - from) x ⊎ Contains (keys_of es) x
woven_among site first from last [] x r h = inl (run_among site (first + from) (last - from) x h)
woven_among site first from last ((y, e) ∷ es) x r h = go (Contains-append_cases (successive_names site (first + from) (e.before - from)) _ x h) (λ k. woven_among site first e.before last es x r.1 k)
  where
    reach : e.before ≤ last
    reach = rising_reach e.before last es r.1

    behind : InRun site (first + e.before) (last - e.before) x ⊎ Contains (keys_of es) x → InRun site (first + from) (last - from) x ⊎ Contains (y ∷ keys_of es) x
    behind (inl k) = inl (k.0, omega (arith, r.0, k.1), omega (arith, r.0, k.2))
    behind (inr k) = inr (Contains-tail y x (keys_of es) k)

    next : (y ≡ x) ⊎ Contains (interleaving site first e.before last es) x → (Contains (interleaving site first e.before last es) x → InRun site (first + e.before) (last - e.before) x ⊎ Contains (keys_of es) x) →
        InRun site (first + from) (last - from) x ⊎ Contains (y ∷ keys_of es) x
    next (inl same) ih = inr (subst (λ (z : VarName). Contains (y ∷ keys_of es) z) same (Contains-head y (keys_of es)))
    next (inr k) ih = behind (ih k)

    go : Contains (successive_names site (first + from) (e.before - from)) x ⊎ Contains (y ∷ interleaving site first e.before last es) x →
        (Contains (interleaving site first e.before last es) x → InRun site (first + e.before) (last - e.before) x ⊎ Contains (keys_of es) x) → InRun site (first + from) (last - from) x ⊎ Contains (y ∷ keys_of es) x
    go (inl k) ih = let in_row = run_among site (first + from) (e.before - from) x k in inl (in_row.0, in_row.1, omega (arith, reach, in_row.2))
    go (inr k) ih = next (Contains-cons_cases y x _ k) ih

-- one more name in the row
row_grows : (site first from last : ℕ) → from ≤ last → successive_names site (first + from) (suc last - from) ≡ successive_names site (first + from) (last - from) ++ record { site = site; num = first + last } ∷ []
row_grows site first from last h =
    let more : suc last - from ≡ suc (last - from) = omega arith in
    let num : first + from + (last - from) ≡ first + last = omega arith in
    rw more (ap (λ (k : ℕ). successive_names site (first + from) (last - from) ++ record { site = site; num = k } ∷ []) num)

woven_grows : (site first from last : ℕ) (es : Entries) → IsRising from last es →
    interleaving site first from (suc last) es ≡ interleaving site first from last es ++ record { site = site; num = first + last } ∷ []
woven_grows site first from last [] r = row_grows site first from last r
woven_grows site first from last ((y, e) ∷ es) r =
    ap (λ (xs : List VarName). successive_names site (first + from) (e.before - from) ++ y ∷ xs) (woven_grows site first e.before last es r.1)
    ∙ sym (append_assoc (successive_names site (first + from) (e.before - from)) (y ∷ interleaving site first e.before last es) _)

rising_grows : (from last : ℕ) (es : Entries) → IsRising from last es → IsRising from (suc last) es
rising_grows from last [] r = omega arith
rising_grows from last ((y, e) ∷ es) r = (r.0, rising_grows e.before last es r.1)

-- one more name beside the row
none_left : (site first last : ℕ) → successive_names site (first + last) (last - last) ≡ []
none_left site first last = let none : last - last ≡ 0 = omega arith in rw none refl

woven_more : (site first from last : ℕ) (es : Entries) (x : VarName) (e : Entry) → e.before ≡ last →
    interleaving site first from last (es ++ (x, e) ∷ []) ≡ interleaving site first from last es ++ x ∷ []
woven_more site first from last [] x e h = rw h (ap (λ (xs : List VarName). successive_names site (first + from) (last - from) ++ x ∷ xs) (none_left site first last))
woven_more site first from last ((y, o) ∷ es) x e h =
    ap (λ (xs : List VarName). successive_names site (first + from) (o.before - from) ++ y ∷ xs) (woven_more site first o.before last es x e h)
    ∙ sym (append_assoc (successive_names site (first + from) (o.before - from)) (y ∷ interleaving site first o.before last es) _)

rising_more : (from last : ℕ) (es : Entries) (x : VarName) (e : Entry) → e.before ≡ last → IsRising from last es → IsRising from last (es ++ (x, e) ∷ [])
rising_more from last [] x e h r = (omega arith, omega arith)
rising_more from last ((y, o) ∷ es) x e h r = (r.0, rising_more o.before last es x e h r.1)

-- another ordinal at an entry
woven_put : (site first from last : ℕ) (es : Entries) (x : VarName) (e o : Entry) → lookup (equal_var x) es ≡ Some e → o.before ≡ e.before →
    interleaving site first from last (set_value (equal_var x) es o) ≡ interleaving site first from last es
woven_put site first from last [] x e o h same = refl
woven_put site first from last ((y, w) ∷ es) x e o h same = go (equal_var x y) refl h (λ k. woven_put site first w.before last es x e o k same)
  where
    go : (b : Bool) → equal_var x y ≡ b → cond b (Some w) (lookup (equal_var x) es) ≡ Some e →
        (lookup (equal_var x) es ≡ Some e → interleaving site first w.before last (set_value (equal_var x) es o) ≡ interleaving site first w.before last es) →
        interleaving site first from last (cond b ((y, o) ∷ es) ((y, w) ∷ set_value (equal_var x) es o)) ≡ interleaving site first from last ((y, w) ∷ es)
    go true p k ih =
        let entry : w ≡ e = cc in
        let place : o.before ≡ w.before = same ∙ sym (ap (λ (d : Entry). d.before) entry) in
        rw place refl
    go false p k ih = ap (λ (xs : List VarName). successive_names site (first + from) (w.before - from) ++ y ∷ xs) (ih k)

rising_put : (from last : ℕ) (es : Entries) (x : VarName) (e o : Entry) → lookup (equal_var x) es ≡ Some e → o.before ≡ e.before → IsRising from last es →
    IsRising from last (set_value (equal_var x) es o)
rising_put from last [] x e o h same r = r
rising_put from last ((y, w) ∷ es) x e o h same r = go (equal_var x y) refl h (λ k. rising_put w.before last es x e o k same r.1)
  where
    go : (b : Bool) → equal_var x y ≡ b → cond b (Some w) (lookup (equal_var x) es) ≡ Some e →
        (lookup (equal_var x) es ≡ Some e → IsRising w.before last (set_value (equal_var x) es o)) → IsRising from last (cond b ((y, o) ∷ es) ((y, w) ∷ set_value (equal_var x) es o))
    go true p k ih =
        let entry : w ≡ e = cc in
        let place : o.before ≡ w.before = same ∙ sym (ap (λ (d : Entry). d.before) entry) in
        (rw place r.0, rw place r.1)
    go false p k ih = (r.0, ih k)

-- a row without names may begin anywhere
woven_none : (site first other start from : ℕ) (es : Entries) → IsRising from 0 es → interleaving site first from 0 es ≡ interleaving other start from 0 es
woven_none site first other start from [] r = let none : 0 - from ≡ 0 = omega arith in rw none refl
woven_none site first other start from ((y, e) ∷ es) r =
    let none : e.before - from ≡ 0 = omega (arith, rising_reach e.before 0 es r.1) in
    rw none (ap (λ (xs : List VarName). y ∷ xs) (woven_none site first other start e.before es r.1))

-- ---- which names are known

abbrev IsOwn : NameTable → VarName → Type 0
IsOwn f x = (x.site ≡ f.site) × (f.first ≤ x.num) × (x.num - f.first < length f.own)

own_true : (f : NameTable) (x : VarName) → is_own f x ≡ true → IsOwn f x
own_true f x h = (grind (arith, nat_tests), grind (arith, nat_tests), grind (arith, nat_tests))

true_own : (f : NameTable) (x : VarName) → IsOwn f x → is_own f x ≡ true
true_own f x (p, q, r) = grind (arith, nat_tests)

not_own : (f : NameTable) (x : VarName) → is_own f x ≡ false → IsOwn f x → ⊥
not_own f x h k = let yes : is_own f x ≡ true = true_own f x k in cc

own_false : (f : NameTable) (x : VarName) → (IsOwn f x → ⊥) → is_own f x ≡ false
own_false f x h = go (is_own f x) refl
  where
    go : (b : Bool) → is_own f x ≡ b → is_own f x ≡ false
    go true e = absurd (h (own_true f x e))
    go false e = e

abbrev AreFiled : NameTable → Type 0
AreFiled f = IsRising 0 (length f.own) f.others

same_equivalence : IsEquivalence equal_var
same_equivalence = decided equal_var same_name_decides

pub own_known : (f : NameTable) (x : VarName) → is_own f x ≡ true → Contains (names_in f) x
unfolding names_in
own_known f x h =
    let own = own_true f x h in
    woven_contains_row f.site f.first 0 (length f.own) f.others x (own.0, omega (arith, own.1), omega (arith, own.1, own.2))

pub other_known : (f : NameTable) (x : VarName) → IsSome (lookup (equal_var x) f.others) → Contains (names_in f) x
unfolding names_in
other_known f x h =
    woven_contains_other f.site f.first 0 (length f.own) f.others x
    (Contains-keys_from_lookup (λ a b e. (same_name_decides a b).0 e) x f.others h)

known_cases : (f : NameTable) (x : VarName) → AreFiled f → Contains (names_in f) x → IsOwn f x ⊎ IsSome (lookup (equal_var x) f.others)
unfolding names_in
known_cases f x r h = go (woven_among f.site f.first 0 (length f.own) f.others x r h)
  where
    go : InRun f.site (f.first + 0) (length f.own - 0) x ⊎ Contains (keys_of f.others) x → IsOwn f x ⊎ IsSome (lookup (equal_var x) f.others)
    go (inl k) = inl (k.0, omega (arith, k.1), omega (arith, k.1, k.2))
    go (inr k) = inr (IsSome-lookup_from_Contains same_equivalence x f.others k)

pub other_some : (f : NameTable) (x : VarName) → AreFiled f → is_own f x ≡ false → Contains (names_in f) x → IsSome (lookup (equal_var x) f.others)
other_some f x r h k = go (known_cases f x r k)
  where
    go : IsOwn f x ⊎ IsSome (lookup (equal_var x) f.others) → IsSome (lookup (equal_var x) f.others)
    go (inl own) = absurd (not_own f x h own)
    go (inr some) = some

pub other_tells : (f : NameTable) (x : VarName) (b : Bool) → AreFiled f → is_own f x ≡ false → b ≡ is_some (lookup (equal_var x) f.others) → IsTrue b ↔ Contains (names_in f) x
other_tells f x b r h e = (λ yes. other_known f x (sym e ∙ yes), λ k. e ∙ other_some f x r h k)

pub unknown_none : (f : NameTable) (x : VarName) → (Contains (names_in f) x → ⊥) → lookup (equal_var x) f.others ≡ None
unknown_none f x h = go (lookup (equal_var x) f.others) refl
  where
    go : (o : Option Entry) → lookup (equal_var x) f.others ≡ o → lookup (equal_var x) f.others ≡ None
    go None e = e
    go (Some w) e = absurd (h (other_known f x (ap is_some e)))

-- ---- ordinals

ordinal_own : (f : NameTable) (x : VarName) → is_own f x ≡ true → ordinal_of f x ≡ slice_index f.own (x.num - f.first)
unfolding ordinal_of
ordinal_own f x h = rw h refl

pub ordinal_other : (f : NameTable) (x : VarName) → is_own f x ≡ false → ordinal_of f x ≡ entry_ordinal (lookup (equal_var x) f.others)
unfolding ordinal_of
ordinal_other f x h = rw h refl

-- what is read in the row
pub own_read : (f : NameTable) (x : VarName) (v : ℕ) → is_own f x ≡ true → v ≡ get_or f.own (x.num - f.first) v → v ≡ ordinal_of f x
own_read f x v h e = e ∙ get_or_default f.own (x.num - f.first) v 0 (own_true f x h).2 ∙ sym (ordinal_own f x h)

by_own : (f : NameTable) (x : VarName) {P : Type 0} → (is_own f x ≡ true → P) → (is_own f x ≡ false → P) → P
by_own f x {P} within beside = go (is_own f x) refl
  where
    go : (b : Bool) → is_own f x ≡ b → P
    go true e = within e
    go false e = beside e

-- ---- one more name

-- the row with other ordinals, or other names beside it
abbrev with_own : NameTable → List ℕ → NameTable
with_own f own = record { site = f.site; first = f.first; own = own; others = f.others }

abbrev with_others : NameTable → Entries → NameTable
with_others f others = record { site = f.site; first = f.first; own = f.own; others = others }

abbrev pub next_name : NameTable → VarName
next_name f = record { site = f.site; num = f.first + length f.own }

pub pushed_rising : (f : NameTable) (own : List ℕ) → AreFiled f → own ≡ f.own ++ 0 ∷ [] → IsRising 0 (length own) f.others
pushed_rising f own r e =
    let longer : length own ≡ suc (length f.own) = omega (arith, ap length e, length-append f.own (0 ∷ [])) in
    rw longer (rising_grows 0 (length f.own) f.others r)

pub pushed_names : (f : NameTable) (x : VarName) (own : List ℕ) → AreFiled f → x ≡ next_name f → own ≡ f.own ++ 0 ∷ [] → names_in (with_own f own) ≡ names_in f ++ x ∷ []
unfolding names_in
pushed_names f x own r next e =
    let longer : length own ≡ suc (length f.own) = omega (arith, ap length e, length-append f.own (0 ∷ [])) in
    rw (longer, next) (woven_grows f.site f.first 0 (length f.own) f.others r)

pub pushed_ordinals : (f : NameTable) (x y : VarName) (own : List ℕ) → x ≡ next_name f → (Contains (names_in f) x → ⊥) → own ≡ f.own ++ 0 ∷ [] → ordinal_of (with_own f own) y ≡ ordinal_of f y
pushed_ordinals f x y own next new e = by_own f y within beside
  where
    longer : length own ≡ suc (length f.own)
    longer = omega (arith, ap length e, length-append f.own (0 ∷ []))

    within : is_own f y ≡ true → ordinal_of (with_own f own) y ≡ ordinal_of f y
    within h =
        let o = own_true f y h in
        let still : is_own (with_own f own) y ≡ true = true_own (with_own f own) y (o.0, o.1, omega (arith, longer, o.2)) in
        ordinal_own (with_own f own) y still ∙ ap (λ (l : List ℕ). slice_index l (y.num - f.first)) e
        ∙ get_or_append_left f.own (0 ∷ []) 0 (y.num - f.first) o.2 ∙ sym (ordinal_own f y h)

    beside : is_own f y ≡ false → ordinal_of (with_own f own) y ≡ ordinal_of f y
    beside h = by_own (with_own f own) y last other
      where
        last : is_own (with_own f own) y ≡ true → ordinal_of (with_own f own) y ≡ ordinal_of f y
        last k =
            let o = own_true (with_own f own) y k in
            let past : y.num - f.first ≡ length f.own = omega (arith, longer, o.2, λ (l : y.num - f.first < length f.own). not_own f y h (o.0, o.1, l)) in
            let num : y.num ≡ f.first + length f.own = omega (arith, o.1) in
            let same : x ≡ y = next ∙ by_parts f.site (f.first + length f.own) y o.0 num in
            let absent : lookup (equal_var y) f.others ≡ None = subst (λ (z : VarName). lookup (equal_var z) f.others ≡ None) same (unknown_none f x new) in
            ordinal_own (with_own f own) y k ∙ ap (λ (l : List ℕ). slice_index l (y.num - f.first)) e
            ∙ ap (λ (i : ℕ). slice_index (f.own ++ 0 ∷ []) i) past ∙ get_or-append_seam f.own 0 [] 0
            ∙ sym (ordinal_other f y h ∙ ap entry_ordinal absent)

        other : is_own (with_own f own) y ≡ false → ordinal_of (with_own f own) y ≡ ordinal_of f y
        other k = ordinal_other (with_own f own) y k ∙ sym (ordinal_other f y h)

pub added_rising : (f : NameTable) (x : VarName) (e : Entry) (others : Entries) → AreFiled f → e.before ≡ length f.own → others ≡ f.others ++ (x, e) ∷ [] → IsRising 0 (length f.own) others
added_rising f x e others r at more = rw more (rising_more 0 (length f.own) f.others x e at r)

pub added_names : (f : NameTable) (x : VarName) (e : Entry) (others : Entries) → e.before ≡ length f.own → others ≡ f.others ++ (x, e) ∷ [] → names_in (with_others f others) ≡ names_in f ++ x ∷ []
unfolding names_in
added_names f x e others at more = rw more (woven_more f.site f.first 0 (length f.own) f.others x e at)

pub added_ordinals : (f : NameTable) (x y : VarName) (e : Entry) (others : Entries) → (Contains (names_in f) x → ⊥) → e.ordinal ≡ 0 →
    lookup (equal_var y) others ≡ cond (equal_var x y) (Some e) (lookup (equal_var y) f.others) → ordinal_of (with_others f others) y ≡ ordinal_of f y
added_ordinals f x y e others new zero_at found = by_own f y within beside
  where
    within : is_own f y ≡ true → ordinal_of (with_others f others) y ≡ ordinal_of f y
    within h = ordinal_own (with_others f others) y h ∙ sym (ordinal_own f y h)

    value : (b : Bool) → equal_var x y ≡ b → entry_ordinal (cond b (Some e) (lookup (equal_var y) f.others)) ≡ entry_ordinal (lookup (equal_var y) f.others)
    value false k = refl
    value true k =
        let same : x ≡ y = (same_name_decides x y).0 k in
        let absent : lookup (equal_var y) f.others ≡ None = subst (λ (z : VarName). lookup (equal_var z) f.others ≡ None) same (unknown_none f x new) in
        zero_at ∙ sym (ap entry_ordinal absent)

    beside : is_own f y ≡ false → ordinal_of (with_others f others) y ≡ ordinal_of f y
    beside h = ordinal_other (with_others f others) y h ∙ ap entry_ordinal found ∙ value (equal_var x y) refl ∙ sym (ordinal_other f y h)

-- ---- the row begins

pub begun_names : (f : NameTable) (site first : ℕ) → AreFiled f → f.own ≡ [] → names_in (record { site = site; first = first; own = f.own; others = f.others }) ≡ names_in f
unfolding names_in
begun_names f site first r e =
    let none : length f.own ≡ 0 = ap length e in
    let rising : IsRising 0 0 f.others = subst (λ (n : ℕ). IsRising 0 n f.others) none r in
    rw none (woven_none site first f.site f.first 0 f.others rising)

pub begun_ordinals : (f : NameTable) (site first : ℕ) (y : VarName) → f.own ≡ [] → ordinal_of (record { site = site; first = first; own = f.own; others = f.others }) y ≡ ordinal_of f y
begun_ordinals f site first y e =
    let none : length f.own ≡ 0 = ap length e in
    let begun : NameTable = record { site = site; first = first; own = f.own; others = f.others } in
    ordinal_other begun y (own_false begun y (λ o. omega (arith, none, o.2)))
    ∙ sym (ordinal_other f y (own_false f y (λ o. omega (arith, none, o.2))))

-- ---- an ordinal is filed

pub set_own_names : (f : NameTable) (own : List ℕ) → length own ≡ length f.own → names_in (with_own f own) ≡ names_in f
unfolding names_in
set_own_names f own e = rw e refl

pub set_own_ordinals : (f : NameTable) (x y : VarName) (n : ℕ) (own : List ℕ) → is_own f x ≡ true → own ≡ set f.own (x.num - f.first) n →
    ordinal_of (with_own f own) y ≡ cond (equal_var x y) n (ordinal_of f y)
set_own_ordinals f x y n own here e = by_own f y within beside
  where
    o : IsOwn f x
    o = own_true f x here

    long : length own ≡ length f.own
    long = ap length e ∙ length-set f.own (x.num - f.first) n

    within : is_own f y ≡ true → ordinal_of (with_own f own) y ≡ cond (equal_var x y) n (ordinal_of f y)
    within h = ordinal_own (with_own f own) y still ∙ ap (λ (l : List ℕ). slice_index l (y.num - f.first)) e ∙ go (equal_var x y) refl
      where
        p : IsOwn f y
        p = own_true f y h

        still : is_own (with_own f own) y ≡ true
        still = true_own (with_own f own) y (p.0, p.1, omega (arith, long, p.2))

        go : (b : Bool) → equal_var x y ≡ b → get_or (set f.own (x.num - f.first) n) (y.num - f.first) 0 ≡ cond b n (ordinal_of f y)
        go true k =
            let same : x ≡ y = (same_name_decides x y).0 k in
            let in_row : x.num - f.first < length f.own = o.2 in
            ap (λ (i : ℕ). get_or (set f.own (x.num - f.first) n) i 0) (sym (ap (λ (z : VarName). z.num - f.first) same)) ∙ rw get_or-set_same refl
        go false k =
            let num : x.num ≡ y.num → ⊥ = λ e. not_same k (by_parts x.site x.num y (p.0 ∙ sym o.0) (sym e)) in
            let differ : y.num - f.first ≢ x.num - f.first = λ e. num (omega (arith, e, o.1, p.1)) in
            rw get_or-set_other (sym (ordinal_own f y h))
          where
            not_same : equal_var x y ≡ false → x ≡ y → ⊥
            not_same k e = let t : equal_var x y ≡ true = (same_name_decides x y).1 e in cc

    beside : is_own f y ≡ false → ordinal_of (with_own f own) y ≡ cond (equal_var x y) n (ordinal_of f y)
    beside h =
        let out : is_own (with_own f own) y ≡ false = own_false (with_own f own) y (λ p. not_own f y h (p.0, p.1, omega (arith, long, p.2))) in
        let differ : equal_var x y ≡ false = apart_false x y (λ e. not_own f y h (subst (λ (z : VarName). IsOwn f z) e o)) in
        rw differ (ordinal_other (with_own f own) y out ∙ sym (ordinal_other f y h))

pub set_other_rising : (f : NameTable) (x : VarName) (n : ℕ) (others : Entries) → AreFiled f → IsPut f.others x n others → IsRising 0 (length f.own) others
set_other_rising f x n others r (e, found, is) = rw is (rising_put 0 (length f.own) f.others x e (record { before = e.before; ordinal = n }) found refl r)

pub set_other_names : (f : NameTable) (x : VarName) (n : ℕ) (others : Entries) → IsPut f.others x n others → names_in (with_others f others) ≡ names_in f
unfolding names_in
set_other_names f x n others (e, found, is) = rw is (woven_put f.site f.first 0 (length f.own) f.others x e (record { before = e.before; ordinal = n }) found refl)

pub set_other_ordinals : (f : NameTable) (x y : VarName) (n : ℕ) (others : Entries) → is_own f x ≡ false → IsPut f.others x n others →
    ordinal_of (with_others f others) y ≡ cond (equal_var x y) n (ordinal_of f y)
set_other_ordinals f x y n others out (e, found, is) = by_own f y within beside
  where
    within : is_own f y ≡ true → ordinal_of (with_others f others) y ≡ cond (equal_var x y) n (ordinal_of f y)
    within h =
        let differ : equal_var x y ≡ false = apart_false x y (λ k. let no_own : is_own f y ≡ false = subst (λ (z : VarName). is_own f z ≡ false) k out in cc) in
        rw differ (ordinal_own (with_others f others) y h ∙ sym (ordinal_own f y h))

    beside : is_own f y ≡ false → ordinal_of (with_others f others) y ≡ cond (equal_var x y) n (ordinal_of f y)
    beside h =
        ordinal_other (with_others f others) y h ∙ ap (λ (es : Entries). entry_ordinal (lookup (equal_var y) es)) is
        ∙ ap entry_ordinal (put_lookup f.others x y (record { before = e.before; ordinal = n }) (ap is_some found)) ∙ go (equal_var x y)
      where
        go : (b : Bool) → entry_ordinal (cond b (Some (record { before = e.before; ordinal = n })) (lookup (equal_var y) f.others)) ≡ cond b n (ordinal_of f y)
        go true = refl
        go false = sym (ordinal_other f y h)

-- ---- no names

pub none_names : (f : NameTable) → f.own ≡ [] → f.others ≡ [] → names_in f ≡ []
unfolding names_in
none_names f p q = rw (p, q) refl

pub none_ordinals : (f : NameTable) (y : VarName) → f.own ≡ [] → f.others ≡ [] → ordinal_of f y ≡ 0
none_ordinals f y p q = ordinal_other f y (own_false f y (λ o. omega (arith, ap length p, o.2))) ∙ ap (λ (es : Entries). entry_ordinal (lookup (equal_var y) es)) q
