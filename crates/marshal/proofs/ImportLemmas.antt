-- Names that become known, and equations that are taken in, one after another.
use Rattle.std.proofs.Common.{arith, ◌≡◌, ◌∙◌, sym, ap, refl, subst, ℕ, ◌+◌, ◌<◌, List, [], ◌∷◌, ◌++◌, length, take, get_or, append_assoc, add-one, ◌⊎◌, inl, inr, Bool, true, false, cond, ◌||◌}
use Rattle.std.proofs.Math.Seq.{take-suc}
use Rattle.std.proofs.lemmas.List.{append-nil}
use Rattle.std.proofs.lemmas.List.Elements.{Contains-append_left, Contains-append_right}
use Rattle.std.specs.Prelude.{Some, Contains, is_some}
use Rattle.std.specs.List.{list_any}
use Rattle.tree_node.specs.declared.names.VarName.{VarName}
use Rattle.tree_node.specs.declared.node.Term.{Term}
use Rattle.tree_node.specs.Assoc.{value_of}
use Rattle.tree_node.specs.Store.{Store, Equation, IsFree, equal_var}
use Rattle.tree_node.proofs.ClassLemmas.{same_name_decides, Contains-cons_cases, Contains-head, Contains-tail}
use Rattle.tree_node.proofs.BoolLemmas.{exchange}
use Rattle.tree_store.specs.Contents.{Contents as Held, with_name}
use Rattle.tree_store.proofs.NameLemmas.{known_tells}
use Rattle.site_message.specs.Vars.{vars_of}
use Rattle.site_model.specs.Bundle.{distinct_vars, vars_of_equations}
use Rattle.marshal.specs.Marshal.{with_equation, with_equations, AreKnown}
use Rattle.site_model.proofs.BundleLemmas.{equations_append}

-- ---- names, each once

-- which names came before matters, and not in which order
same_seen : (xs r s : List VarName) → ((y : VarName) → list_any (equal_var y) r ≡ list_any (equal_var y) s) → distinct_vars r xs ≡ distinct_vars s xs
same_seen [] r s h = refl
same_seen (x ∷ xs) r s h = go (list_any (equal_var x) r) (list_any (equal_var x) s) (h x) (same_seen xs r s h) (same_seen xs (x ∷ r) (x ∷ s) (λ y. ap (λ (b : Bool). equal_var y x || b) (h y)))
  where
    go : (a b : Bool) → a ≡ b → distinct_vars r xs ≡ distinct_vars s xs → distinct_vars (x ∷ r) xs ≡ distinct_vars (x ∷ s) xs →
        cond a (distinct_vars r xs) (x ∷ distinct_vars (x ∷ r) xs) ≡ cond b (distinct_vars s xs) (x ∷ distinct_vars (x ∷ s) xs)
    go true true e f g = f
    go true false e f g = cc
    go false true e f g = cc
    go false false e f g = ap (λ (l : List VarName). x ∷ l) g

pub seen_moved : (p : VarName → Bool) (x : VarName) (s d : List VarName) → list_any p (x ∷ (s ++ d)) ≡ list_any p (s ++ x ∷ d)
seen_moved p x [] d = refl
seen_moved p x (z ∷ s) d = exchange (p x) (p z) (list_any p (s ++ d)) ∙ ap (λ (b : Bool). p z || b) (seen_moved p x s d)

pub distinct_append : (xs ys seen : List VarName) → distinct_vars seen (xs ++ ys) ≡ distinct_vars seen xs ++ distinct_vars (seen ++ distinct_vars seen xs) ys
distinct_append [] ys seen = ap (λ (s : List VarName). distinct_vars s ys) (sym (append-nil seen))
distinct_append (x ∷ xs) ys seen = go (list_any (equal_var x) seen) (distinct_append xs ys seen) (distinct_append xs ys (x ∷ seen))
  where
    go : (b : Bool) → distinct_vars seen (xs ++ ys) ≡ distinct_vars seen xs ++ distinct_vars (seen ++ distinct_vars seen xs) ys →
        distinct_vars (x ∷ seen) (xs ++ ys) ≡ distinct_vars (x ∷ seen) xs ++ distinct_vars ((x ∷ seen) ++ distinct_vars (x ∷ seen) xs) ys →
        cond b (distinct_vars seen (xs ++ ys)) (x ∷ distinct_vars (x ∷ seen) (xs ++ ys))
        ≡ cond b (distinct_vars seen xs) (x ∷ distinct_vars (x ∷ seen) xs) ++ distinct_vars (seen ++ cond b (distinct_vars seen xs) (x ∷ distinct_vars (x ∷ seen) xs)) ys
    go true f g = f
    go false f g =
        ap (λ (l : List VarName). x ∷ l)
        (g ∙ ap (λ (l : List VarName). distinct_vars (x ∷ seen) xs ++ l)
        (same_seen ys ((x ∷ seen) ++ distinct_vars (x ∷ seen) xs) (seen ++ x ∷ distinct_vars (x ∷ seen) xs) (λ y. seen_moved (equal_var y) x seen (distinct_vars (x ∷ seen) xs))))

-- ---- names that are known

pub known_none : (s : Held) (b : List VarName) → AreKnown [] s b s b
known_none s b = record { known = sym (append-nil s.known); names = sym (append-nil b) }

pub known_more : (xs ys : List VarName) (s t u : Held) (b c d : List VarName) → AreKnown xs s b t c → AreKnown ys t c u d → AreKnown (xs ++ ys) s b u d
known_more xs ys s t u b c d h g = record {
  known = g.known ∙ (ap (λ (l : List VarName). l ++ distinct_vars l ys) h.known ∙ (append_assoc s.known (distinct_vars s.known xs) (distinct_vars (s.known ++ distinct_vars s.known xs) ys)
      ∙ ap (λ (l : List VarName). s.known ++ l) (sym (distinct_append xs ys s.known))));
  names = g.names ∙ (ap (λ (l : List VarName). l ++ distinct_vars t.known ys) h.names ∙ (ap (λ (l : List VarName). (b ++ distinct_vars s.known xs) ++ distinct_vars l ys) h.known
      ∙ (append_assoc b (distinct_vars s.known xs) (distinct_vars (s.known ++ distinct_vars s.known xs) ys) ∙ ap (λ (l : List VarName). b ++ l) (sym (distinct_append xs ys s.known)))));
}

pub known_there : (s : Held) (b : List VarName) (x : VarName) → Contains s.known x → AreKnown (x ∷ []) s b s b
known_there s b x there = go (list_any (equal_var x) s.known) refl
  where
    go : (o : Bool) → list_any (equal_var x) s.known ≡ o → AreKnown (x ∷ []) s b s b
    go true e = record { known = rw e (sym (append-nil s.known)); names = rw e (sym (append-nil b)) }
    go false e = let yes : false ≡ true = (known_tells s.known x false (sym e)).1 there in cc

pub known_new : (s t : Held) (b c : List VarName) (x : VarName) → (Contains s.known x → ⊥) → t.known ≡ with_name s.known x → c ≡ b ++ x ∷ [] → AreKnown (x ∷ []) s b t c
known_new s t b c x new e f = go (list_any (equal_var x) s.known) refl
  where
    go : (o : Bool) → list_any (equal_var x) s.known ≡ o → AreKnown (x ∷ []) s b t c
    go true q = absurd (new ((known_tells s.known x true (sym q)).0 refl))
    go false q = record { known = rw q (subst (λ (o : Bool). t.known ≡ cond o s.known (s.known ++ x ∷ [])) q e); names = rw q f }

-- the same names are known
pub known_same : (xs : List VarName) (s t u : Held) (b c : List VarName) → AreKnown xs s b t c → u.known ≡ t.known → AreKnown xs s b u c
known_same xs s t u b c h e = record { known = e ∙ h.known; names = h.names }

pub first_known : (s t : Held) (b c : List VarName) (x : VarName) → AreKnown (x ∷ []) s b t c → Contains t.known x
first_known s t b c x h = subst (λ (l : List VarName). Contains l x) (sym h.known) (go (list_any (equal_var x) s.known) refl)
  where
    go : (o : Bool) → list_any (equal_var x) s.known ≡ o → Contains (s.known ++ cond o [] (x ∷ [])) x
    go true e = Contains-append_left s.known [] x ((known_tells s.known x true (sym e)).0 refl)
    go false e = Contains-append_right s.known (x ∷ []) x (Contains-head x [])

pub still_known : (xs : List VarName) (s t : Held) (b c : List VarName) (x : VarName) → AreKnown xs s b t c → Contains s.known x → Contains t.known x
still_known xs s t b c x h k = subst (λ (l : List VarName). Contains l x) (sym h.known) (Contains-append_left s.known (distinct_vars s.known xs) x k)

pub next_known : (xs : List VarName) (k : ℕ) (d : VarName) (s t u : Held) (b c e : List VarName) → k < length xs → AreKnown (take k xs) s b t c → AreKnown (get_or xs k d ∷ []) t c u e → AreKnown (take (k + 1) xs) s b u e
next_known xs k d s t u b c e below h g = rw (add-one, take-suc xs k d below) (known_more (take k xs) (get_or xs k d ∷ []) s t u b c e h g)

pub next_equation : (es : List Equation) (k : ℕ) (d : Equation) (s t u : Held) (b c e : List VarName) → k < length es → d ≡ get_or es k d → AreKnown (vars_of_equations (take k es)) s b t c → AreKnown (d.0 ∷ vars_of d.1) t c u e →
    AreKnown (vars_of_equations (take (k + 1) es)) s b u e
next_equation es k d s t u b c e below at h g =
    rw (add-one, take-suc es k d below, ← at, equations_append (take k es) (d ∷ []), append-nil (d.0 ∷ vars_of d.1)) (known_more (vars_of_equations (take k es)) (d.0 ∷ vars_of d.1) s t u b c e h g)

-- ---- equations that are taken in

value_some : (s : Store) (x : VarName) (t : Term) → Contains s (x, t) → is_some (value_of equal_var s x) ≡ true
value_some [] x t (i, below, is) = absurd (omega arith)
value_some ((y, r) ∷ s) x t k = go (equal_var y x) refl (Contains-cons_cases _ _ s k) (λ there. value_some s x t there)
  where
    go : (b : Bool) → equal_var y x ≡ b → (◌≡◌ {A = Equation} (y, r) (x, t)) ⊎ Contains s (x, t) → (Contains s (x, t) → is_some (value_of equal_var s x) ≡ true) → is_some (cond b (Some r) (value_of equal_var s x)) ≡ true
    go true e c ih = refl
    go false e (inl q) ih =
        let same : y ≡ x = ap (λ (f : Equation). f.0) q in
        let yes : equal_var y x ≡ true = (same_name_decides y x).1 same in
        cc
    go false e (inr there) ih = ih there

value_none : (s : Store) (x : VarName) → IsFree s x → is_some (value_of equal_var s x) ≡ false
value_none [] x free = refl
value_none ((y, r) ∷ s) x free = go (equal_var y x) refl (value_none s x (λ t k. free t (Contains-tail _ _ s k)))
  where
    go : (b : Bool) → equal_var y x ≡ b → is_some (value_of equal_var s x) ≡ false → is_some (cond b (Some r) (value_of equal_var s x)) ≡ false
    go true e ih =
        let same : y ≡ x = (same_name_decides y x).0 e in
        absurd (free r (subst (λ (z : VarName). Contains ((y, r) ∷ s) (z, r)) same (Contains-head _ s)))
    go false e ih = ih

pub bound_before : (s : Store) (x : VarName) (t r : Term) → Contains s (x, r) → s ≡ with_equation s (x, t)
bound_before s x t r there = rw (value_some s x r there) refl

pub bound_now : (s t : Store) (x : VarName) (r : Term) → IsFree s x → t ≡ (x, r) ∷ s → t ≡ with_equation s (x, r)
bound_now s t x r free e = rw (value_none s x free) e

with_append : (s : Store) (es fs : List Equation) → with_equations s (es ++ fs) ≡ with_equations (with_equations s es) fs
with_append s [] fs = refl
with_append s (e ∷ es) fs = with_append (with_equation s e) es fs

pub next_taken : (es : List Equation) (k : ℕ) (d : Equation) (s t u : Store) → k < length es → d ≡ get_or es k d → t ≡ with_equations s (take k es) → u ≡ with_equation t (d.0, d.1) → u ≡ with_equations s (take (k + 1) es)
next_taken es k d s t u below at e f =
    rw (add-one, take-suc es k d below, ← at, with_append s (take k es) (d ∷ [])) (f ∙ ap (λ (z : Store). with_equation z (d.0, d.1)) e)
