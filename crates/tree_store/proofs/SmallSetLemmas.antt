-- The keys of a set of which most are small: those looked through one by one, and those in a table behind them.
use Rattle.std.proofs.Common.{arith, ◌≡◌, ◌∙◌, sym, ap, refl, subst, ℕ, zero, suc, ◌+◌, ◌-◌, ◌<◌, ◌≤◌, leb, List, [], ◌∷◌, ◌++◌, length, length-append, take, get_or, append_assoc, Bool, true, false, cond, ◌||◌, Some}
use Rattle.std.specs.Prelude.{slice_get}
use Rattle.std.specs.List.{list_any}
use Rattle.std.proofs.lemmas.Bool.{leb-true, leb-false}
use Rattle.std.proofs.lemmas.List.{append-nil, length-take, take_all, get_or_append_left, get_or-append-add}
use Rattle.std.proofs.lemmas.List.Folds.{list_any-append}
use Rattle.std.proofs.lemmas.Option.{slice_get_read}
use Rattle.std.proofs.Math.Seq.{take-nil}
use Rattle.tree_node.specs.Compare.{with_new}
use Rattle.tree_store.specs.SmallSet.{AreApart}

-- a key that is there changes nothing
pub there_already : {X : Type 0} (eq : X → X → Bool) (few more : List X) (x : X) → list_any (eq x) few ≡ true → with_new eq (few ++ more) x ≡ few ++ more
there_already eq few more x h =
    let is : list_any (eq x) (few ++ more) ≡ true = list_any-append (eq x) few more ∙ ap (λ (b : Bool). b || list_any (eq x) more) h in
    ap (λ (b : Bool). cond b (few ++ more) ((few ++ more) ++ x ∷ [])) is

-- a key more behind the first ones, where there are no others
pub new_among_few : {X : Type 0} (eq : X → X → Bool) (few more : List X) (x : X) → list_any (eq x) few ≡ false → more ≡ [] → (few ++ x ∷ []) ++ more ≡ with_new eq (few ++ more) x
new_among_few eq few more x h none =
    subst (λ (rest : List _). (few ++ x ∷ []) ++ rest ≡ with_new eq (few ++ rest) x) (sym none)
    (append-nil (few ++ x ∷ []) ∙ (sym (ap (λ (b : Bool). cond b few (few ++ x ∷ [])) h) ∙ sym (ap (λ (l : List _). with_new eq l x) (append-nil few))))

-- a key more behind all
pub new_behind : {X : Type 0} (eq : X → X → Bool) (few more : List X) (x : X) → list_any (eq x) few ≡ false → few ++ with_new eq more x ≡ with_new eq (few ++ more) x
new_behind eq few more x h = go (list_any (eq x) more) ∙ sym (ap (λ (b : Bool). cond b (few ++ more) ((few ++ more) ++ x ∷ [])) is)
  where
    is : list_any (eq x) (few ++ more) ≡ list_any (eq x) more
    is = list_any-append (eq x) few more ∙ ap (λ (b : Bool). b || list_any (eq x) more) h

    go : (b : Bool) → few ++ cond b more (more ++ x ∷ []) ≡ cond b (few ++ more) ((few ++ more) ++ x ∷ [])
    go true = refl
    go false = sym (append_assoc few more (x ∷ []))

pub apart_more : {X : Type 0} (few more : List X) (x : X) → AreApart few more → length few < 4 → AreApart (few ++ x ∷ []) more
apart_more few more x h less = record {
  few_first = let all = length-append few (x ∷ []) in omega (arith, all, less);
  rest = λ _. h.rest less;
}

pub apart_behind : {X : Type 0} (few more after : List X) → AreApart few more → (length few < 4 → ⊥) → AreApart few after
apart_behind few more after h full = record { few_first = h.few_first; rest = λ less. absurd (full less) }

-- the first keys
pub first_keys : {X : Type 0} (few more : List X) (n : ℕ) → take n few ++ take (n - length few) more ≡ take n (few ++ more)
first_keys [] more zero = refl
first_keys [] more (suc n) = let same : suc n - 0 ≡ suc n = omega arith in ap (λ (m : ℕ). take m more) same
first_keys (x ∷ few) more zero = let none : 0 - suc (length few) ≡ 0 = omega arith in ap (λ (m : ℕ). take m more) none
first_keys (x ∷ few) more (suc n) =
    let less : suc n - suc (length few) ≡ n - length few = omega arith in
    ap (λ (m : ℕ). x ∷ (take n few ++ take m more)) less ∙ ap (λ (l : List _). x ∷ l) (first_keys few more n)

pub apart_first : {X : Type 0} (few more : List X) (n : ℕ) → AreApart few more → AreApart (take n few) (take (n - length few) more)
apart_first few more n h = record { few_first = let is = length-take n few in let most = h.few_first in omega (arith, is, most); rest = λ less. go less (leb (length few) n) refl }
  where
    go : length (take n few) < 4 → (b : Bool) → leb (length few) n ≡ b → take (n - length few) more ≡ []
    go less true e =
        let all : take n few ≡ few = take_all n few (leb-true (length few) n e) in
        let none : more ≡ [] = h.rest (subst (λ (l : List _). length l < 4) all less) in
        ap (λ (l : List _). take (n - length few) l) none ∙ take-nil (n - length few)
    go less false e =
        let past = leb-false (length few) n e in
        let zero_left : n - length few ≡ 0 = omega (arith, past) in
        ap (λ (m : ℕ). take m more) zero_left

-- the key at a place
pub key_first : {X : Type 0} (few more : List X) (i : ℕ) (x : X) → i < length few → x ≡ get_or few i x → slice_get (few ++ more) i ≡ Some x
key_first few more i x h e =
    slice_get_read (few ++ more) (length (few ++ more)) i x refl (let all = length-append few more in omega (arith, all, h)) (e ∙ sym (get_or_append_left few more x i h))

pub key_behind : {X : Type 0} (few more : List X) (i : ℕ) (x : X) → length few ≤ i → i < length (few ++ more) → x ≡ get_or more (i - length few) x → slice_get (few ++ more) i ≡ Some x
key_behind few more i x past h e =
    let place : length few + (i - length few) ≡ i = omega (arith, past) in
    slice_get_read (few ++ more) (length (few ++ more)) i x refl h
    (e ∙ (sym (get_or-append-add few more (i - length few) x) ∙ ap (λ (n : ℕ). get_or (few ++ more) n x) place))
