-- Texts that are found and made as they are spelled.
use Rattle.std.proofs.Common.{◌≡◌, ◌∙◌, sym, refl, ap, ℕ, List, [], ◌∷◌, length, Bool, true, false, cond, Some, eqb}
use Rattle.std.specs.Prelude.{slice_index}
use Rattle.std.specs.Borrow.{Bor}
use Rattle.std.specs.Cmp.Lexicographic.{pointwise, bytes_decides}
use Rattle.std.specs.Str.{bytes_eq}
use Rattle.std.specs.Map.{lookup}
use Rattle.indexmap.specs.IndexMap.{insert_entry}
use Rattle.oz_symbols.specs.Texts.{Entries, AreSpelled}

-- texts that compare equal are the same
pub same_bytes : (x y : List ℕ) → bytes_eq x y ≡ true → x ≡ y
same_bytes x y e = (bytes_decides x y).0 e

-- texts of one letter are the same where the letters are
pub same_letter : (x y : List ℕ) → length x ≡ 1 → length y ≡ 1 → slice_index x 0 ≡ slice_index y 0 → x ≡ y
same_letter [] y one other e = absurd cc
same_letter (a ∷ []) [] one other e = absurd cc
same_letter (a ∷ []) (b ∷ []) one other e = ap (λ (n : ℕ). n ∷ []) e
same_letter (a ∷ []) (b ∷ c ∷ y) one other e = absurd cc
same_letter (a ∷ d ∷ x) y one other e = absurd cc

some_is : {v t : List ℕ} → Some v ≡ Some t → v ≡ t
some_is e = cc

-- what is found is what is looked for
pub found_spelled : (es : Entries) (x t : List ℕ) → AreSpelled es → lookup (λ (k : Bor (List ℕ)). bytes_eq x k.now) es ≡ Some t → t ≡ x
found_spelled [] x t are e = cc
found_spelled ((k, v) ∷ es) x t are e = go (bytes_eq x k.now) refl e (found_spelled es x t are.1)
  where
    go : (b : Bool) → bytes_eq x k.now ≡ b → cond b (Some v) (lookup (λ (k : Bor (List ℕ)). bytes_eq x k.now) es) ≡ Some t →
        (lookup (λ (k : Bor (List ℕ)). bytes_eq x k.now) es ≡ Some t → t ≡ x) → t ≡ x
    go true q f ih = sym (some_is f) ∙ are.0 ∙ sym ((bytes_decides x k.now).0 q)
    go false q f ih = ih f

-- one text more
pub spelled_more : (es : Entries) (k : Bor (List ℕ)) (v : List ℕ) → AreSpelled es → v ≡ k.now → AreSpelled (insert_entry (λ (a b : Bor (List ℕ)). pointwise eqb a.now b.now) es k v)
spelled_more [] k v are e = (e, tt)
spelled_more ((z, w) ∷ es) k v are e = go (bytes_eq k.now z.now) refl (spelled_more es k v are.1 e)
  where
    go : (b : Bool) → bytes_eq k.now z.now ≡ b → AreSpelled (insert_entry (λ (a b : Bor (List ℕ)). pointwise eqb a.now b.now) es k v) →
        AreSpelled (cond b ((z, v) ∷ es) ((z, w) ∷ insert_entry (λ (a b : Bor (List ℕ)). pointwise eqb a.now b.now) es k v))
    go true q more = (e ∙ (bytes_decides k.now z.now).0 q, are.1)
    go false q more = (are.0, more)
