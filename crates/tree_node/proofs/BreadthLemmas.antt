-- Lists without repetitions, and what is reached breadth first: a queue that takes each element once has what all
-- levels have, in the same order.
use Rattle.std.proofs.Common.{arith, ◌≡◌, ◌∙◌, sym, ap, refl, subst, ℕ, zero, suc, ◌+◌, ◌≤◌, List, [], ◌∷◌, ◌++◌, length, take, append_assoc, length-append, ◌⊎◌, inl, inr, Bool, true, false, cond, ◌||◌}
use Rattle.std.specs.Prelude.{filter, Contains, nat_lt}
use Rattle.std.proofs.lemmas.Bool.Decides.{nat_tests}
use Rattle.std.specs.Bool.{Decides}
use Rattle.std.specs.List.{list_any, flat_map, IsDistinct}
use Rattle.std.specs.Cmp.{IsEquivalence}
use Rattle.std.proofs.Math.Seq.{take-append_seam}
use Rattle.std.proofs.lemmas.List.{append-nil, take-append-le}
use Rattle.std.proofs.lemmas.List.Elements.{filter-append, Contains-append_cases}
use Rattle.std.proofs.lemmas.List.Folds.{list_any-append}
use Rattle.std.proofs.lemmas.List.Sums.{fold-append}
use Rattle.std.proofs.lemmas.Grind.{flat_map-append}
use Rattle.std.proofs.lemmas.Map.Keys.{IsDistinct-push}
use Rattle.tree_node.specs.Each.{Each}
use Rattle.tree_node.proofs.EachLemmas.{each_append}
use Rattle.tree_node.specs.Compare.{with_new, each_once}
use Rattle.tree_node.specs.ClassPairs.{all_new}
use Rattle.tree_node.proofs.ClassLemmas.{Contains-cons_cases, Contains-head, Contains-tail}

-- the first elements of a list
abbrev pub IsFront : {X : Type 0} → List X → List X → Type 0
IsFront {X} xs ys = (zs : List X) × (ys ≡ xs ++ zs)

pub front_same : {X : Type 0} (xs : List X) → IsFront xs xs
front_same xs = ([], sym (append-nil xs))

pub front_on : {X : Type 0} (xs ys zs : List X) → IsFront xs ys → IsFront ys zs → IsFront xs zs
front_on xs ys zs (us, e) (vs, q) = (us ++ vs, q ∙ (ap (λ (l : List _). l ++ vs) e ∙ append_assoc xs us vs))

pub front_both : {X : Type 0} (xs ys : List X) → IsFront xs ys → IsFront ys xs → xs ≡ ys
front_both xs ys ([], e) k = sym (e ∙ append-nil xs)
front_both xs ys (z ∷ zs, e) (us, q) =
    let more : length ys ≡ length xs + length (z ∷ zs) = ap length e ∙ length-append xs (z ∷ zs) in
    let less : length xs ≡ length ys + length us = ap length q ∙ length-append ys us in
    absurd (omega (arith, more, less))

pub front_length : {X : Type 0} (xs ys : List X) → IsFront xs ys → length xs ≤ length ys
front_length xs ys (zs, e) = let more : length ys ≡ length xs + length zs = ap length e ∙ length-append xs zs in omega (arith, more)

pub front_take : {X : Type 0} (n : ℕ) (xs ys : List X) → IsFront xs ys → n ≤ length xs → take n ys ≡ take n xs
front_take n xs ys (zs, e) h = ap (λ (l : List _). take n l) e ∙ take-append-le n xs zs h

-- ---- elements, each once

abbrev pub IsIn : {X : Type 0} → (X → X → Bool) → List X → X → Type 0
IsIn eq xs x = list_any (eq x) xs ≡ true

pub all_new_append : {X : Type 0} (eq : X → X → Bool) (xs ys zs : List X) → all_new eq xs (ys ++ zs) ≡ all_new eq (all_new eq xs ys) zs
all_new_append eq xs ys zs = fold-append (with_new eq) xs ys zs

with_new_front : {X : Type 0} (eq : X → X → Bool) (xs : List X) (x : X) → IsFront xs (with_new eq xs x)
with_new_front eq xs x = go (list_any (eq x) xs)
  where
    go : (b : Bool) → IsFront xs (cond b xs (xs ++ x ∷ []))
    go true = front_same xs
    go false = (x ∷ [], refl)

pub all_new_front : {X : Type 0} (eq : X → X → Bool) (xs ys : List X) → IsFront xs (all_new eq xs ys)
all_new_front eq xs [] = front_same xs
all_new_front eq xs (y ∷ ys) = front_on xs (with_new eq xs y) (all_new eq (with_new eq xs y) ys) (with_new_front eq xs y) (all_new_front eq (with_new eq xs y) ys)

in_front : {X : Type 0} (eq : X → X → Bool) (xs ys : List X) (x : X) → IsFront xs ys → IsIn eq xs x → IsIn eq ys x
in_front eq xs ys x (zs, e) h =
    ap (λ (l : List _). list_any (eq x) l) e ∙ (list_any-append (eq x) xs zs ∙ ap (λ (b : Bool). b || list_any (eq x) zs) h)

pub each_in_front : {X : Type 0} (eq : X → X → Bool) (xs ys zs : List X) → IsFront xs ys → Each (IsIn eq xs) zs → Each (IsIn eq ys) zs
each_in_front eq xs ys [] f h = tt
each_in_front eq xs ys (z ∷ zs) f h = (in_front eq xs ys z f h.0, each_in_front eq xs ys zs f h.1)

-- those that are there add nothing
pub all_there : {X : Type 0} (eq : X → X → Bool) (xs ys : List X) → Each (IsIn eq xs) ys → all_new eq xs ys ≡ xs
all_there eq xs [] h = refl
all_there eq xs (y ∷ ys) h =
    ap (λ (l : List _). all_new eq l ys) (ap (λ (b : Bool). cond b xs (xs ++ y ∷ [])) h.0) ∙ all_there eq xs ys h.1

abbrev pub Same : {X : Type 0} → (X → X → Bool) → Type 0
Same {X} eq = (a b : X) → Decides (eq a b) (a ≡ b)

with_new_has : {X : Type 0} (eq : X → X → Bool) → Same eq → (xs : List X) (x : X) → IsIn eq (with_new eq xs x) x
with_new_has eq same xs x = go (list_any (eq x) xs) refl
  where
    go : (b : Bool) → list_any (eq x) xs ≡ b → IsIn eq (cond b xs (xs ++ x ∷ [])) x
    go true e = e
    go false e = list_any-append (eq x) xs (x ∷ []) ∙ rw (e, (same x x).1 refl) refl

pub all_new_has : {X : Type 0} (eq : X → X → Bool) → Same eq → (xs ys : List X) → Each (IsIn eq (all_new eq xs ys)) ys
all_new_has eq same xs [] = tt
all_new_has eq same xs (y ∷ ys) =
    (in_front eq (with_new eq xs y) _ y (all_new_front eq (with_new eq xs y) ys) (with_new_has eq same xs y), all_new_has eq same (with_new eq xs y) ys)

-- ---- what elements lead to, each once

-- whatever is among the first leads to what is there
abbrev Covers : {X Y : Type 0} → (X → X → Bool) → (Y → Y → Bool) → (X → List Y) → List X → List Y → Type 0
Covers {X} eq es f before there = (x : X) → IsIn eq before x → Each (IsIn es there) (f x)

covers_all : {X Y : Type 0} (eq : X → X → Bool) (es : Y → Y → Bool) (f : X → List Y) → Same eq → (before : List X) (there : List Y) → Covers eq es f before there → Each (IsIn es there) (flat_map f before)
covers_all eq es f same before there cover = go before (λ x h. cover x h)
  where
    go : (xs : List _) → ((x : _) → IsIn eq xs x → Each (IsIn es there) (f x)) → Each (IsIn es there) (flat_map f xs)
    go [] h = tt
    go (x ∷ xs) h = each_append _ (f x) (flat_map f xs) (h x (ap (λ (b : Bool). b || list_any (eq x) xs) ((same x x).1 refl))) (go xs (λ y k. h y (go_on (eq y x) k)))
      where
        go_on : {c : Bool} (b : Bool) → c ≡ true → (b || c) ≡ true
        go_on true k = refl
        go_on false k = k

covers_more : {X Y : Type 0} (eq : X → X → Bool) (es : Y → Y → Bool) (f : X → List Y) → Same eq → Same es → (before : List X) (there : List Y) (x : X) → Covers eq es f before there →
    Covers eq es f (before ++ x ∷ []) (all_new es there (f x))
covers_more eq es f same alike before there x cover y h = go (list_any (eq y) before) refl (eq y x) refl (sym (list_any-append (eq y) before (x ∷ [])) ∙ h)
  where
    go : (b : Bool) → list_any (eq y) before ≡ b → (c : Bool) → eq y x ≡ c → (list_any (eq y) before || (eq y x || false)) ≡ true → Each (IsIn es (all_new es there (f x))) (f y)
    go true e c q k = each_in_front es there _ (f y) (all_new_front es there (f x)) (cover y e)
    go false e true q k = subst (λ (z : _). Each (IsIn es (all_new es there (f x))) (f z)) (sym ((same y x).0 q)) (all_new_has es alike there (f x))
    go false e false q k = cc

-- a list that stands there once more, or often, leads to nothing new
pub once_leads : {X : Type 0} {Y : Type 0} (eq : X → X → Bool) (es : Y → Y → Bool) (f : X → List Y) → Same eq → Same es → (xs before : List X) (there : List Y) → Covers eq es f before there →
    all_new es there (flat_map f (all_new eq before xs)) ≡ all_new es there (flat_map f xs)
once_leads eq es f same alike [] before there cover = all_there es there (flat_map f before) (covers_all eq es f same before there cover)
once_leads {X} {Y} eq es f same alike (x ∷ xs) before there cover =
    go (list_any (eq x) before) refl (once_leads eq es f same alike xs before there cover)
    (once_leads eq es f same alike xs (before ++ x ∷ []) (all_new es there (f x)) (covers_more eq es f same alike before there x cover))
  where
    wider : List Y
    wider = all_new es there (f x)

    split : all_new es there (f x ++ flat_map f xs) ≡ all_new es wider (flat_map f xs)
    split = all_new_append es there (f x) (flat_map f xs)

    known : list_any (eq x) before ≡ true → all_new es there (flat_map f (all_new eq before xs)) ≡ all_new es there (flat_map f xs) →
        all_new es there (flat_map f (all_new eq before xs)) ≡ all_new es there (f x ++ flat_map f xs)
    known e ih =
        ih
        ∙ sym (split ∙ ap (λ (l : List _). all_new es l (flat_map f xs)) (all_there es there (f x) (cover x e)))

    new : (rest : List X) → all_new eq (before ++ x ∷ []) xs ≡ (before ++ x ∷ []) ++ rest → all_new es there (flat_map f ((before ++ x ∷ []) ++ rest)) ≡ all_new es wider (flat_map f ((before ++ x ∷ []) ++ rest))
    new rest e = left ∙ sym right
      where
        parts : flat_map f ((before ++ x ∷ []) ++ rest) ≡ flat_map f before ++ (f x ++ flat_map f rest)
        parts = flat_map-append f (before ++ x ∷ []) rest ∙ (ap (λ (l : List _). l ++ flat_map f rest) (flat_map-append f before (x ∷ []) ∙ ap (λ (l : List _). flat_map f before ++ l) (append-nil (f x)))
            ∙ append_assoc (flat_map f before) (f x) (flat_map f rest))

        covered : Each (IsIn es there) (flat_map f before)
        covered = covers_all eq es f same before there cover

        left : all_new es there (flat_map f ((before ++ x ∷ []) ++ rest)) ≡ all_new es wider (flat_map f rest)
        left = ap (λ (l : List _). all_new es there l) parts ∙ (all_new_append es there (flat_map f before) (f x ++ flat_map f rest)
            ∙ (ap (λ (l : List _). all_new es l (f x ++ flat_map f rest)) (all_there es there (flat_map f before) covered) ∙ all_new_append es there (f x) (flat_map f rest)))

        right : all_new es wider (flat_map f ((before ++ x ∷ []) ++ rest)) ≡ all_new es wider (flat_map f rest)
        right = ap (λ (l : List _). all_new es wider l) parts ∙ (all_new_append es wider (flat_map f before) (f x ++ flat_map f rest)
            ∙ (ap (λ (l : List _). all_new es l (f x ++ flat_map f rest)) (all_there es wider (flat_map f before) (each_in_front es there wider (flat_map f before) (all_new_front es there (f x)) covered))
            ∙ (all_new_append es wider (f x) (flat_map f rest) ∙ ap (λ (l : List _). all_new es l (flat_map f rest)) (all_there es wider (f x) (all_new_has es alike there (f x))))))

    unknown : IsFront (before ++ x ∷ []) (all_new eq (before ++ x ∷ []) xs) → all_new es wider (flat_map f (all_new eq (before ++ x ∷ []) xs)) ≡ all_new es wider (flat_map f xs) →
        all_new es there (flat_map f (all_new eq (before ++ x ∷ []) xs)) ≡ all_new es there (f x ++ flat_map f xs)
    unknown (rest, e) ih =
        ap (λ (l : List _). all_new es there (flat_map f l)) e ∙ (new rest e ∙ (ap (λ (l : List _). all_new es wider (flat_map f l)) (sym e)
        ∙ (ih ∙ sym split)))

    go : (b : Bool) → list_any (eq x) before ≡ b → all_new es there (flat_map f (all_new eq before xs)) ≡ all_new es there (flat_map f xs) →
        all_new es wider (flat_map f (all_new eq (before ++ x ∷ []) xs)) ≡ all_new es wider (flat_map f xs) →
        all_new es there (flat_map f (all_new eq (cond b before (before ++ x ∷ [])) xs)) ≡ all_new es there (f x ++ flat_map f xs)
    go true e ih jh = known e ih
    go false e ih jh = unknown (all_new_front eq (before ++ x ∷ []) xs) jh

-- so it does not matter whether what leads on stands there once
pub each_once_leads : {X Y : Type 0} (eq : X → X → Bool) (es : Y → Y → Bool) (f : X → List Y) → Same eq → Same es → (xs : List X) (there : List Y) →
    all_new es there (flat_map f (each_once eq xs)) ≡ all_new es there (flat_map f xs)
each_once_leads eq es f same alike xs there = once_leads eq es f same alike xs [] there (λ x h. cc)

-- ---- level after level

-- an element, and what it leads to through so many levels, each time that it is reached
abbrev pub levels : {X : Type 0} → (X → List X) → X → ℕ → List X
levels f q zero = q ∷ []
levels f q (suc d) = q ∷ flat_map f (levels f q d)

-- what these lead to besides the first, each once
abbrev pub led : {X : Type 0} → (X → X → Bool) → (X → List X) → X → List X → List X
led eq f q xs = each_once eq (q ∷ flat_map f xs)

abbrev pub reached : {X : Type 0} → (X → X → Bool) → (X → List X) → X → ℕ → List X
reached eq f q d = each_once eq (levels f q d)

led_append : {X : Type 0} (eq : X → X → Bool) (f : X → List X) (q : X) (xs ys : List X) → led eq f q (xs ++ ys) ≡ all_new eq (led eq f q xs) (flat_map f ys)
led_append eq f q xs ys =
    ap (λ (l : List _). each_once eq (q ∷ l)) (flat_map-append f xs ys) ∙ all_new_append eq (q ∷ []) (flat_map f xs) (flat_map f ys)

led_front : {X : Type 0} (eq : X → X → Bool) (f : X → List X) (q : X) (xs ys : List X) → IsFront xs ys → IsFront (led eq f q xs) (led eq f q ys)
led_front eq f q xs ys (zs, e) =
    subst (λ (l : List _). IsFront (led eq f q xs) l) (sym (ap (λ (l : List _). led eq f q l) e ∙ led_append eq f q xs zs)) (all_new_front eq (led eq f q xs) (flat_map f zs))

pub reached_next : {X : Type 0} (eq : X → X → Bool) (f : X → List X) (q : X) → Same eq → (d : ℕ) → reached eq f q (suc d) ≡ led eq f q (reached eq f q d)
reached_next eq f q same d = sym (each_once_leads eq eq f same same (levels f q d) (q ∷ []))

first_front : {X : Type 0} (eq : X → X → Bool) (f : X → List X) (q : X) (xs : List X) → IsFront (q ∷ []) (led eq f q xs)
first_front eq f q xs = all_new_front eq (q ∷ []) (flat_map f xs)

reached_front : {X : Type 0} (eq : X → X → Bool) (f : X → List X) (q : X) → Same eq → (d : ℕ) → IsFront (reached eq f q d) (reached eq f q (suc d))
reached_front eq f q same zero = first_front eq f q (q ∷ [])
reached_front eq f q same (suc d) =
    subst (λ (l : List _). IsFront l (reached eq f q (suc (suc d)))) (sym (reached_next eq f q same d))
    (subst (λ (l : List _). IsFront (led eq f q (reached eq f q d)) l) (sym (reached_next eq f q same (suc d))) (led_front eq f q _ _ (reached_front eq f q same d)))

pub reached_more : {X : Type 0} (eq : X → X → Bool) (f : X → List X) (q : X) → Same eq → (d e : ℕ) → d ≤ e → IsFront (reached eq f q d) (reached eq f q e)
reached_more eq f q same d zero h = let e : d ≡ zero = omega (arith, h) in subst (λ (n : ℕ). IsFront (reached eq f q d) (reached eq f q n)) e (front_same (reached eq f q d))
reached_more eq f q same d (suc e) h = go (nat_lt d (suc e)) refl (λ k. reached_more eq f q same d e k)
  where
    go : (b : Bool) → nat_lt d (suc e) ≡ b → (d ≤ e → IsFront (reached eq f q d) (reached eq f q e)) → IsFront (reached eq f q d) (reached eq f q (suc e))
    go true k ih = front_on _ (reached eq f q e) _ (ih (grind (arith, nat_tests))) (reached_front eq f q same e)
    go false k ih =
        let same_level : d ≡ suc e = grind (arith, nat_tests, h) in
        subst (λ (n : ℕ). IsFront (reached eq f q d) (reached eq f q n)) same_level (front_same (reached eq f q d))

-- a list that what it leads to gives again has all levels
fixed_has : {X : Type 0} (eq : X → X → Bool) (f : X → List X) (q : X) → Same eq → (xs : List X) → xs ≡ led eq f q xs → (d : ℕ) → IsFront (reached eq f q d) xs
fixed_has eq f q same xs e zero = subst (λ (l : List _). IsFront (q ∷ []) l) (sym e) (first_front eq f q xs)
fixed_has eq f q same xs e (suc d) =
    subst (λ (l : List _). IsFront l xs) (sym (reached_next eq f q same d))
    (subst (λ (l : List _). IsFront (led eq f q (reached eq f q d)) l) (sym e) (led_front eq f q _ _ (fixed_has eq f q same xs e d)))

-- ---- the levels end

-- the test holds where an element leads on
abbrev pub TellsLeads : {X : Type 0} → (X → List X) → (X → Bool) → Type 0
TellsLeads {X} f leads = (x : X) → leads x ≡ false → f x ≡ []

leads_alone : {X : Type 0} (f : X → List X) (leads : X → Bool) → TellsLeads f leads → (xs : List X) → flat_map f xs ≡ flat_map f (filter leads xs)
leads_alone f leads tells [] = refl
leads_alone f leads tells (x ∷ xs) = go (leads x) refl (leads_alone f leads tells xs)
  where
    go : (b : Bool) → leads x ≡ b → flat_map f xs ≡ flat_map f (filter leads xs) → f x ++ flat_map f xs ≡ flat_map f (cond b (x ∷ filter leads xs) (filter leads xs))
    go true e ih = ap (λ (l : List _). f x ++ l) ih
    go false e ih = ap (λ (l : List _). l ++ flat_map f xs) (tells x e) ∙ ih

led_alone : {X : Type 0} (eq : X → X → Bool) (f : X → List X) (q : X) (leads : X → Bool) → TellsLeads f leads → (xs ys : List X) → filter leads xs ≡ filter leads ys → led eq f q xs ≡ led eq f q ys
led_alone eq f q leads tells xs ys e =
    ap (λ (l : List _). each_once eq (q ∷ l)) (leads_alone f leads tells xs ∙ (ap (λ (l : List _). flat_map f l) e ∙ sym (leads_alone f leads tells ys)))

-- each level either ends the search, or has one more element that leads on
settled : {X : Type 0} (eq : X → X → Bool) (f : X → List X) (q : X) (leads : X → Bool) → Same eq → TellsLeads f leads → (d : ℕ) →
    (reached eq f q (suc d) ≡ reached eq f q d) ⊎ (suc d ≤ length (filter leads (reached eq f q d)))
settled eq f q leads same tells zero = go (leads q) refl
  where
    go : (b : Bool) → leads q ≡ b → (led eq f q (q ∷ []) ≡ q ∷ []) ⊎ (1 ≤ length (cond b (q ∷ []) []))
    go true e = inr (omega arith)
    go false e = inl (ap (λ (l : List _). each_once eq (q ∷ (l ++ []))) (tells q e))
settled eq f q leads same tells (suc d) = go (settled eq f q leads same tells d) (reached_front eq f q same d)
  where
    from_same : filter leads (reached eq f q (suc d)) ≡ filter leads (reached eq f q d) → reached eq f q (suc (suc d)) ≡ reached eq f q (suc d)
    from_same e = reached_next eq f q same (suc d) ∙ (led_alone eq f q leads tells _ _ e ∙ sym (reached_next eq f q same d))

    longer : (zs : List _) → filter leads (reached eq f q (suc d)) ≡ filter leads (reached eq f q d) ++ zs → suc d ≤ length (filter leads (reached eq f q d)) →
        (reached eq f q (suc (suc d)) ≡ reached eq f q (suc d)) ⊎ (suc (suc d) ≤ length (filter leads (reached eq f q (suc d))))
    longer [] e h = inl (from_same (e ∙ append-nil _))
    longer (z ∷ zs) e h =
        let more : length (filter leads (reached eq f q (suc d))) ≡ length (filter leads (reached eq f q d)) + length (z ∷ zs) = ap length e ∙ length-append (filter leads (reached eq f q d)) (z ∷ zs) in
        inr (omega (arith, more, h))

    go : (reached eq f q (suc d) ≡ reached eq f q d) ⊎ (suc d ≤ length (filter leads (reached eq f q d))) → IsFront (reached eq f q d) (reached eq f q (suc d)) →
        (reached eq f q (suc (suc d)) ≡ reached eq f q (suc d)) ⊎ (suc (suc d) ≤ length (filter leads (reached eq f q (suc d))))
    go (inl e) k = inl (from_same (ap (λ (l : List _). filter leads l) e))
    go (inr h) (zs, e) = longer (filter leads zs) (ap (λ (l : List _). filter leads l) e ∙ filter-append leads (reached eq f q d) zs) h

-- so where few can lead on, a few levels have all
abbrev pub LeadFew : {X : Type 0} → (X → X → Bool) → (X → List X) → X → (X → Bool) → ℕ → Type 0
LeadFew eq f q leads most = (d : ℕ) → length (filter leads (reached eq f q d)) ≤ most

pub reached_all : {X : Type 0} (eq : X → X → Bool) (f : X → List X) (q : X) (leads : X → Bool) → Same eq → TellsLeads f leads → (most : ℕ) → LeadFew eq f q leads most → (e : ℕ) → most ≤ e →
    reached eq f q e ≡ reached eq f q most
reached_all eq f q leads same tells most few zero h = let e : zero ≡ most = omega (arith, h) in ap (λ (n : ℕ). reached eq f q n) e
reached_all eq f q leads same tells most few (suc e) h = go (nat_lt most (suc e)) refl (settled eq f q leads same tells most) (λ k. reached_all eq f q leads same tells most few e k)
  where
    next : (reached eq f q (suc most) ≡ reached eq f q most) ⊎ (suc most ≤ length (filter leads (reached eq f q most))) → reached eq f q e ≡ reached eq f q most → reached eq f q (suc e) ≡ reached eq f q most
    next (inl k) ih = reached_next eq f q same e ∙ (ap (λ (l : List _). led eq f q l) ih ∙ (sym (reached_next eq f q same most) ∙ k))
    next (inr g) ih = absurd (let few_lead = few most in omega (arith, g, few_lead))

    go : (b : Bool) → nat_lt most (suc e) ≡ b → (reached eq f q (suc most) ≡ reached eq f q most) ⊎ (suc most ≤ length (filter leads (reached eq f q most))) →
        (most ≤ e → reached eq f q e ≡ reached eq f q most) → reached eq f q (suc e) ≡ reached eq f q most
    go true k ends ih = next ends (ih (grind (arith, nat_tests)))
    go false k ends ih = ap (λ (n : ℕ). reached eq f q n) (let e : suc e ≡ most = grind (arith, nat_tests, h) in e)

-- ---- a queue

-- the queue is what its first elements lead to, and stands among what so many levels reach
pub record IsQueue {X : Type 0} (eq : X → X → Bool) (f : X → List X) (q : X) (queue : List X) (at : ℕ) : Type 0 where
  pub led : queue ≡ led eq f q (take at queue)
  pub front : IsFront queue (reached eq f q at)
  pub within : at ≤ length queue

pub queue_begins : {X : Type 0} (eq : X → X → Bool) (f : X → List X) (q : X) → IsQueue eq f q (q ∷ []) 0
queue_begins eq f q = record { led = refl; front = front_same (q ∷ []); within = omega arith }

-- what the next element leads to stands behind the others
pub queue_goes_on : {X : Type 0} (eq : X → X → Bool) (f : X → List X) (q : X) → Same eq → (ys zs : List X) (x : X) → IsQueue eq f q (ys ++ x ∷ zs) (length ys) →
    IsQueue eq f q (all_new eq (ys ++ x ∷ zs) (f x)) (suc (length ys))
queue_goes_on {X} eq f q same ys zs x h = go (all_new_front eq (ys ++ x ∷ zs) (f x))
  where
    queue : List X
    queue = ys ++ x ∷ zs

    before : queue ≡ led eq f q ys
    before = h.led ∙ ap (λ (l : List X). led eq f q l) (take-append_seam ys (x ∷ zs))

    here : all_new eq queue (f x) ≡ led eq f q (ys ++ x ∷ [])
    here = ap (λ (l : List X). all_new eq l (f x)) before ∙ (ap (λ (l : List X). all_new eq (led eq f q ys) l) (sym (append-nil (f x))) ∙ sym (led_append eq f q ys (x ∷ [])))

    taken : queue ≡ (ys ++ x ∷ []) ++ zs
    taken = sym (append_assoc ys (x ∷ []) zs)

    counted : length (ys ++ x ∷ []) ≡ suc (length ys)
    counted = let e = length-append ys (x ∷ []) in omega (arith, e)

    go : IsFront queue (all_new eq queue (f x)) → IsQueue eq f q (all_new eq queue (f x)) (suc (length ys))
    go (more, e) = record { led = here ∙ ap (λ (l : List X). led eq f q l) (sym first); front = there; within = inside }
      where
        whole : all_new eq queue (f x) ≡ (ys ++ x ∷ []) ++ (zs ++ more)
        whole = e ∙ (ap (λ (l : List X). l ++ more) taken ∙ append_assoc (ys ++ x ∷ []) zs more)

        first : take (suc (length ys)) (all_new eq queue (f x)) ≡ ys ++ x ∷ []
        first = ap (λ (l : List X). take (suc (length ys)) l) whole ∙ (ap (λ (n : ℕ). take n ((ys ++ x ∷ []) ++ (zs ++ more))) (sym counted) ∙ take-append_seam (ys ++ x ∷ []) (zs ++ more))

        there : IsFront (all_new eq queue (f x)) (reached eq f q (suc (length ys)))
        there =
            subst (λ (l : List X). IsFront l (reached eq f q (suc (length ys)))) (sym here)
            (subst (λ (l : List X). IsFront (led eq f q (ys ++ x ∷ [])) l) (sym (reached_next eq f q same (length ys)))
            (led_front eq f q _ _ (front_on _ queue _ (zs, taken) h.front)))

        inside : suc (length ys) ≤ length (all_new eq queue (f x))
        inside = let a = ap length whole ∙ length-append (ys ++ x ∷ []) (zs ++ more) in omega (arith, a, counted)

-- the queue is among what is reached at all
pub queue_among : {X : Type 0} (eq : X → X → Bool) (f : X → List X) (q : X) (leads : X → Bool) → Same eq → TellsLeads f leads → (most : ℕ) → LeadFew eq f q leads most → (queue : List X) (at : ℕ) → IsQueue eq f q queue at →
    IsFront queue (reached eq f q most)
queue_among eq f q leads same tells most few queue at h = go (nat_lt most at) refl
  where
    go : (b : Bool) → nat_lt most at ≡ b → IsFront queue (reached eq f q most)
    go true k = subst (λ (l : List _). IsFront queue l) (reached_all eq f q leads same tells most few at (grind (arith, nat_tests))) h.front
    go false k = front_on _ (reached eq f q at) _ h.front (reached_more eq f q same at most (grind (arith, nat_tests)))

-- at its end it is all that is reached
pub queue_ends : {X : Type 0} (eq : X → X → Bool) (f : X → List X) (q : X) (leads : X → Bool) → Same eq → TellsLeads f leads → (most : ℕ) → LeadFew eq f q leads most → (queue : List X) → IsQueue eq f q queue (length queue) →
    queue ≡ reached eq f q most
queue_ends eq f q leads same tells most few queue h =
    front_both _ _ (queue_among eq f q leads same tells most few queue (length queue) h) (fixed_has eq f q same queue again most)
  where
    again : queue ≡ led eq f q queue
    again = h.led ∙ ap (λ (l : List _). led eq f q l) (ap (λ (l : List _). take (length queue) l) (sym (append-nil queue)) ∙ take-append_seam queue [])

-- ---- each once

pub each_once_distinct : {X : Type 0} (eq : X → X → Bool) → IsEquivalence eq → (xs ys : List X) → IsDistinct eq ys → IsDistinct eq (all_new eq ys xs)
each_once_distinct eq laws [] ys h = h
each_once_distinct eq laws (x ∷ xs) ys h = each_once_distinct eq laws xs (with_new eq ys x) (go (list_any (eq x) ys) refl)
  where
    go : (b : Bool) → list_any (eq x) ys ≡ b → IsDistinct eq (cond b ys (ys ++ x ∷ []))
    go true e = h
    go false e = IsDistinct-push laws ys x h e

-- an element stands in the list that has each once exactly where it stands in the list
pub once_from : {X : Type 0} (eq : X → X → Bool) (xs ys : List X) (x : X) → Contains (all_new eq ys xs) x → Contains ys x ⊎ Contains xs x
once_from eq [] ys x h = inl h
once_from {X} eq (z ∷ xs) ys x h = go (list_any (eq z) ys) (once_from eq xs (with_new eq ys z) x h)
  where
    go : (b : Bool) → Contains (cond b ys (ys ++ z ∷ [])) x ⊎ Contains xs x → Contains ys x ⊎ Contains (z ∷ xs) x
    go b (inr k) = inr (Contains-tail z x xs k)
    go true (inl k) = inl k
    go false (inl k) = pushed (Contains-append_cases ys (z ∷ []) x k)
      where
        last : Contains (z ∷ []) x → Contains (z ∷ xs) x
        last c = at (Contains-cons_cases z x [] c)
          where
            at : (z ≡ x) ⊎ Contains [] x → Contains (z ∷ xs) x
            at (inl e) = subst (λ (y : X). Contains (z ∷ xs) y) e (Contains-head z xs)
            at (inr (i, below, is)) = absurd (omega arith)

        pushed : Contains ys x ⊎ Contains (z ∷ []) x → Contains ys x ⊎ Contains (z ∷ xs) x
        pushed (inl c) = inl c
        pushed (inr c) = inr (last c)

in_contains : {X : Type 0} (eq : X → X → Bool) → Same eq → (xs : List X) (x : X) → IsIn eq xs x → Contains xs x
in_contains eq same [] x h = cc
in_contains {X} eq same (y ∷ xs) x h = go (eq x y) refl h (λ k. in_contains eq same xs x k)
  where
    go : (b : Bool) → eq x y ≡ b → (b || list_any (eq x) xs) ≡ true → (IsIn eq xs x → Contains xs x) → Contains (y ∷ xs) x
    go true e k ih = subst (λ (z : X). Contains (y ∷ xs) z) (sym ((same x y).0 e)) (Contains-head y xs)
    go false e k ih = Contains-tail y x xs (ih k)

pub once_has : {X : Type 0} (eq : X → X → Bool) → Same eq → (xs ys : List X) (x : X) → Contains xs x → Contains (all_new eq ys xs) x
once_has eq same xs ys x h = in_contains eq same (all_new eq ys xs) x (member xs (all_new_has eq same ys xs) h)
  where
    member : (zs : List _) → Each (IsIn eq (all_new eq ys xs)) zs → Contains zs x → IsIn eq (all_new eq ys xs) x
    member [] e (i, below, is) = absurd (omega arith)
    member (z ∷ zs) e k = go (Contains-cons_cases z x zs k) (λ c. member zs e.1 c)
      where
        go : (z ≡ x) ⊎ Contains zs x → (Contains zs x → IsIn eq (all_new eq ys xs) x) → IsIn eq (all_new eq ys xs) x
        go (inl p) ih = subst (λ (w : _). IsIn eq (all_new eq ys xs) w) p e.0
        go (inr c) ih = ih c
