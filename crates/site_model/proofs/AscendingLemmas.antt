-- Equations in the ascending order of their names.
use Rattle.std.proofs.Common.{rules, arith, ◌≡◌, ◌∙◌, sym, ap, refl, subst, ℕ, zero, suc, ◌≤◌, List, [], ◌∷◌, ◌++◌, length, map, take, Bool, true, false, cond, ◌||◌, None, Some}
use Rattle.std.specs.Prelude.{Option, option_to_list}
use Rattle.std.specs.List.{list_any}
use Rattle.tree_node.specs.declared.names.VarName.{VarName}
use Rattle.tree_node.specs.declared.node.Term.{Term}
use Rattle.tree_node.specs.Assoc.{value_of}
use Rattle.tree_node.specs.Order.{IsBelow}
use Rattle.tree_node.specs.Store.{Store, Equation, equal_var}
use Rattle.tree_node.proofs.ClassLemmas.{same_name_decides, same_name_refl}
use Rattle.tree_node.proofs.BoolLemmas.{exchange}
use Rattle.site_message.specs.Wire.{NamesAscend}
use Rattle.site_model.specs.Bundle.{distinct_vars, known_equations, reachable_vars, reachable_equations, is_below, insert_ascending, ascending}
use Rattle.site_model.specs.Laws.{left_names, BundlesAreOrdered}

-- of two different names one is below the other
one_below : (a b : VarName) → equal_var a b ≡ false → is_below a b ≡ false → is_below b a ≡ true
one_below a b differ above = search rules

not_both : (a b : VarName) → is_below a b ≡ true → is_below b a ≡ false
not_both a b e = search rules

-- what is not below a is above what is below it
between : (d a b : VarName) → is_below d a ≡ false → is_below d b ≡ true → is_below a b ≡ true
between d a b above below = search rules

-- two equations of different names are put in, whichever comes first
insert_both : (a b : Equation) → equal_var a.0 b.0 ≡ false → (ds : List Equation) → insert_ascending a (insert_ascending b ds) ≡ insert_ascending b (insert_ascending a ds)
insert_both a b differ [] = go (is_below b.0 a.0) (is_below a.0 b.0) refl refl
  where
    go : (p q : Bool) → is_below b.0 a.0 ≡ p → is_below a.0 b.0 ≡ q → cond p (b ∷ a ∷ []) (a ∷ b ∷ []) ≡ cond q (a ∷ b ∷ []) (b ∷ a ∷ [])
    go true false e f = refl
    go false true e f = refl
    go true true e f = let no : is_below a.0 b.0 ≡ false = not_both b.0 a.0 e in cc
    go false false e f = let yes : is_below b.0 a.0 ≡ true = one_below a.0 b.0 differ f in cc
insert_both a b differ (d ∷ ds) = go (is_below d.0 a.0) (is_below d.0 b.0) refl refl (insert_both a b differ ds)
  where
    go : (p q : Bool) → is_below d.0 a.0 ≡ p → is_below d.0 b.0 ≡ q → insert_ascending a (insert_ascending b ds) ≡ insert_ascending b (insert_ascending a ds) →
        insert_ascending a (cond q (d ∷ insert_ascending b ds) (b ∷ d ∷ ds)) ≡ insert_ascending b (cond p (d ∷ insert_ascending a ds) (a ∷ d ∷ ds))
    go true true e f ih = rw (e, f) (ap (λ (l : List Equation). d ∷ l) ih)
    go false true e f ih = rw (e, f, between d.0 a.0 b.0 e f) refl
    go true false e f ih = rw (e, f, between d.0 b.0 a.0 f e) refl
    go false false e f ih = last (is_below b.0 a.0) (is_below a.0 b.0) refl refl
      where
        last : (p q : Bool) → is_below b.0 a.0 ≡ p → is_below a.0 b.0 ≡ q →
            cond p (b ∷ insert_ascending a (d ∷ ds)) (a ∷ b ∷ d ∷ ds) ≡ cond q (a ∷ insert_ascending b (d ∷ ds)) (b ∷ a ∷ d ∷ ds)
        last true false k l = rw e refl
        last false true k l = rw f refl
        last true true k l = let no : is_below a.0 b.0 ≡ false = not_both b.0 a.0 k in cc
        last false false k l = let yes : is_below b.0 a.0 ≡ true = one_below a.0 b.0 differ l in cc

-- an equation of another name, put in last or first
pub ascending_more : (es : List Equation) (e : Equation) → list_any (equal_var e.0) (left_names es) ≡ false → ascending (es ++ e ∷ []) ≡ insert_ascending e (ascending es)
ascending_more [] e new = refl
ascending_more (d ∷ es) e new = go (equal_var e.0 d.0) refl new (λ k. ascending_more es e k)
  where
    go : (b : Bool) → equal_var e.0 d.0 ≡ b → (b || list_any (equal_var e.0) (left_names es)) ≡ false → (list_any (equal_var e.0) (left_names es) ≡ false → ascending (es ++ e ∷ []) ≡ insert_ascending e (ascending es)) →
        insert_ascending d (ascending (es ++ e ∷ [])) ≡ insert_ascending e (insert_ascending d (ascending es))
    go true q k ih = cc
    go false q k ih = ap (λ (l : List Equation). insert_ascending d l) (ih k) ∙ sym (insert_both e d q (ascending es))

-- which names there are does not hang on the order
insert_names : (p : VarName → Bool) (e : Equation) (ds : List Equation) → list_any p (left_names (insert_ascending e ds)) ≡ (p e.0 || list_any p (left_names ds))
insert_names p e [] = refl
insert_names p e (d ∷ ds) = go (is_below d.0 e.0) (insert_names p e ds)
  where
    go : (b : Bool) → list_any p (left_names (insert_ascending e ds)) ≡ (p e.0 || list_any p (left_names ds)) → list_any p (left_names (cond b (d ∷ insert_ascending e ds) (e ∷ d ∷ ds))) ≡ (p e.0 || (p d.0 || list_any p (left_names ds)))
    go true ih = ap (λ (o : Bool). p d.0 || o) ih ∙ exchange (p d.0) (p e.0) (list_any p (left_names ds))
    go false ih = refl

pub ascending_names : (p : VarName → Bool) (es : List Equation) → list_any p (left_names (ascending es)) ≡ list_any p (left_names es)
ascending_names p [] = refl
ascending_names p (e ∷ es) = insert_names p e (ascending es) ∙ ap (λ (o : Bool). p e.0 || o) (ascending_names p es)

-- nor how many there are
insert_length : (e : Equation) (ds : List Equation) → length (insert_ascending e ds) ≡ suc (length ds)
insert_length e [] = refl
insert_length e (d ∷ ds) = go (is_below d.0 e.0) (insert_length e ds)
  where
    go : (b : Bool) → length (insert_ascending e ds) ≡ suc (length ds) → length (cond b (d ∷ insert_ascending e ds) (e ∷ d ∷ ds)) ≡ suc (suc (length ds))
    go true ih = ap suc ih
    go false ih = refl

pub ascending_length : (es : List Equation) → length (ascending es) ≡ length es
ascending_length [] = refl
ascending_length (e ∷ es) = insert_length e (ascending es) ∙ ap suc (ascending_length es)

-- ---- names that stand once

abbrev StandOnce : List Equation → Type 0
StandOnce [] = Unit {0}
StandOnce (e ∷ es) = (list_any (equal_var e.0) (left_names es) ≡ false) × StandOnce es

-- a name that was seen is not taken again
not_again : (s : Store) (x : VarName) (xs seen : List VarName) → list_any (equal_var x) seen ≡ true → list_any (equal_var x) (left_names (known_equations s (distinct_vars seen xs))) ≡ false
not_again s x [] seen h = refl
not_again s x (y ∷ xs) seen h = go (list_any (equal_var y) seen) refl (not_again s x xs seen h) (λ k. not_again s x xs (y ∷ seen) k)
  where
    rest : List Equation
    rest = known_equations s (distinct_vars (y ∷ seen) xs)

    go : (b : Bool) → list_any (equal_var y) seen ≡ b → list_any (equal_var x) (left_names (known_equations s (distinct_vars seen xs))) ≡ false → ((equal_var x y || list_any (equal_var x) seen) ≡ true → list_any (equal_var x) (left_names rest) ≡ false) →
        list_any (equal_var x) (left_names (known_equations s (cond b (distinct_vars seen xs) (y ∷ distinct_vars (y ∷ seen) xs)))) ≡ false
    go true e f g = f
    go false e f g = by (value_of equal_var s y)
      where
        apart : (b : Bool) → equal_var x y ≡ b → b ≡ false
        apart false q = refl
        apart true q = let clash : list_any (equal_var y) seen ≡ true = subst (λ (z : VarName). list_any (equal_var z) seen ≡ true) ((same_name_decides x y).0 q) h in cc

        later : list_any (equal_var x) (left_names rest) ≡ false
        later = g (ap (λ (b : Bool). b || list_any (equal_var x) seen) (apart (equal_var x y) refl) ∙ h)

        by : (o : Option Term) → list_any (equal_var x) (left_names (map (λ (t : Term). (y, t)) (option_to_list o) ++ rest)) ≡ false
        by None = later
        by (Some t) = ap (λ (b : Bool). b || list_any (equal_var x) (left_names rest)) (apart (equal_var x y) refl) ∙ later

known_once : (s : Store) (xs seen : List VarName) → StandOnce (known_equations s (distinct_vars seen xs))
known_once s [] seen = tt
known_once s (y ∷ xs) seen = go (list_any (equal_var y) seen) (known_once s xs seen) (known_once s xs (y ∷ seen))
  where
    rest : List Equation
    rest = known_equations s (distinct_vars (y ∷ seen) xs)

    go : (b : Bool) → StandOnce (known_equations s (distinct_vars seen xs)) → StandOnce rest → StandOnce (known_equations s (cond b (distinct_vars seen xs) (y ∷ distinct_vars (y ∷ seen) xs)))
    go true f g = f
    go false f g = by (value_of equal_var s y)
      where
        by : (o : Option Term) → StandOnce (map (λ (t : Term). (y, t)) (option_to_list o) ++ rest)
        by None = g
        by (Some t) = (not_again s y xs (y ∷ seen) (ap (λ (b : Bool). b || list_any (equal_var y) seen) (same_name_refl y)), g)

take_none : (p : VarName → Bool) (n : ℕ) (es : List Equation) → list_any p (left_names es) ≡ false → list_any p (left_names (take n es)) ≡ false
take_none p zero es h = refl
take_none p (suc n) [] h = refl
take_none p (suc n) (e ∷ es) h = go (p e.0) refl h (λ k. take_none p n es k)
  where
    go : (b : Bool) → p e.0 ≡ b → (b || list_any p (left_names es)) ≡ false → (list_any p (left_names es) ≡ false → list_any p (left_names (take n es)) ≡ false) → (b || list_any p (left_names (take n es))) ≡ false
    go true q k ih = cc
    go false q k ih = ih k

take_once : (n : ℕ) (es : List Equation) → StandOnce es → StandOnce (take n es)
take_once zero es h = tt
take_once (suc n) [] h = tt
take_once (suc n) (e ∷ es) h = (take_none (equal_var e.0) n es h.0, take_once n es h.1)

-- ---- in order

pub below_yes : (a b : VarName) → is_below a b ≡ true → IsBelow a b
below_yes a b h = search rules

abbrev IsUnder : Equation → List Equation → Type 0
IsUnder d [] = Unit {0}
IsUnder d (e ∷ es) = IsBelow d.0 e.0

under_first : (d : Equation) (es : List Equation) → NamesAscend (d ∷ es) → IsUnder d es × NamesAscend es
under_first d [] h = (tt, tt)
under_first d (e ∷ es) h = h

under_then : (d : Equation) (es : List Equation) → IsUnder d es → NamesAscend es → NamesAscend (d ∷ es)
under_then d [] u h = tt
under_then d (e ∷ es) u h = (u, h)

insert_ordered : (e : Equation) (ds : List Equation) → NamesAscend ds → list_any (equal_var e.0) (left_names ds) ≡ false → NamesAscend (insert_ascending e ds)
insert_ordered e [] h new = tt
insert_ordered e (d ∷ ds) h new = go (is_below d.0 e.0) (equal_var e.0 d.0) refl refl new (λ k. insert_ordered e ds (under_first d ds h).1 k)
  where
    under : IsBelow d.0 e.0 → (ds : List Equation) → IsUnder d ds → IsUnder d (insert_ascending e ds)
    under low [] u = low
    under low (c ∷ cs) u = by (is_below c.0 e.0)
      where
        by : (b : Bool) → IsUnder d (cond b (c ∷ insert_ascending e cs) (e ∷ c ∷ cs))
        by true = u
        by false = low

    go : (b c : Bool) → is_below d.0 e.0 ≡ b → equal_var e.0 d.0 ≡ c → (c || list_any (equal_var e.0) (left_names ds)) ≡ false → (list_any (equal_var e.0) (left_names ds) ≡ false → NamesAscend (insert_ascending e ds)) →
        NamesAscend (cond b (d ∷ insert_ascending e ds) (e ∷ d ∷ ds))
    go b true q r k ih = cc
    go true false q r k ih = under_then d (insert_ascending e ds) (under (below_yes d.0 e.0 q) ds (under_first d ds h).0) (ih k)
    go false false q r k ih = (below_yes e.0 d.0 (one_below d.0 e.0 (other d.0 e.0 r) q), h)
      where
        other : (a b : VarName) → equal_var b a ≡ false → equal_var a b ≡ false
        other a b n = search rules

ordered : (es : List Equation) → StandOnce es → NamesAscend (ascending es)
ordered [] h = tt
ordered (e ∷ es) h = insert_ordered e (ascending es) (ordered es h.1) (ascending_names (equal_var e.0) es ∙ h.0)

take_few : (n : ℕ) (es : List Equation) → length (take n es) ≤ n
take_few zero es = omega arith
take_few (suc n) [] = omega arith
take_few (suc n) (e ∷ es) = let h = take_few n es in omega (arith, h)

pub bundles_are_ordered : BundlesAreOrdered
bundles_are_ordered limit s xs = (
  rw (ascending_length (take limit (reachable_equations s xs))) (take_few limit (reachable_equations s xs)),
  ordered (take limit (reachable_equations s xs)) (take_once limit (reachable_equations s xs) (known_once s (reachable_vars (length s) s xs) [])),
)
