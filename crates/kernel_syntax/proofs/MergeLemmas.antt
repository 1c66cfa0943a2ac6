-- The positions of two ascending lists, from the lowest on.
use Rattle.std.proofs.Common.{arith, ◌≡◌, ◌∙◌, sym, ap, refl, subst, ℕ, zero, suc, ◌+◌, ◌<◌, ◌≤◌, List, [], ◌∷◌, ◌++◌, length, drop, get_or, append_assoc}
use Rattle.std.proofs.lemmas.List.{append-nil, drop_more, drop_all}
use Rattle.tree_node.specs.Each.{Each}
use Rattle.tree_node.proofs.EnvLemmas.{each_more}
use Rattle.kernel_syntax.specs.Free.{AreRising, with_position, with_positions}
use Rattle.kernel_syntax.proofs.FrontLemmas.{risen}

-- a position below others stays before them
under : (k : ℕ) (js ks : List ℕ) → Each (λ j. k < j) ks → with_positions (k ∷ js) ks ≡ k ∷ with_positions js ks
under k js [] h = refl
under k js (i ∷ ks) h =
    let low : k < i = h.0 in
    let one : with_position i (k ∷ js) ≡ k ∷ with_position i js = grind (arith, low) in
    ap (λ (xs : List ℕ). with_positions xs ks) one ∙ under k (with_position i js) ks h.1

first_lower : (x y : ℕ) (xs ys : List ℕ) → x < y → AreRising (y ∷ ys) → with_positions (x ∷ xs) (y ∷ ys) ≡ x ∷ with_positions xs (y ∷ ys)
first_lower x y xs ys low up = under x xs (y ∷ ys) (low, each_more (λ j. y < j) (λ j. x < j) ys (λ j h. omega (arith, low, h)) up.0)

second_lower : (x y : ℕ) (xs ys : List ℕ) → y < x → AreRising (y ∷ ys) → with_positions (x ∷ xs) (y ∷ ys) ≡ y ∷ with_positions (x ∷ xs) ys
second_lower x y xs ys low up =
    let one : with_position y (x ∷ xs) ≡ y ∷ x ∷ xs = grind (arith, low) in
    ap (λ (zs : List ℕ). with_positions zs ys) one ∙ under y (x ∷ xs) ys up.0

both_first : (x y : ℕ) (xs ys : List ℕ) → x ≡ y → AreRising (y ∷ ys) → with_positions (x ∷ xs) (y ∷ ys) ≡ y ∷ with_positions xs ys
both_first x y xs ys same up =
    let one : with_position y (x ∷ xs) ≡ y ∷ xs = grind (arith, same) in
    ap (λ (zs : List ℕ). with_positions zs ys) one ∙ under y xs ys up.0

-- what is still to come ascends
pub rising_drop : (n : ℕ) (ks : List ℕ) → AreRising ks → AreRising (drop n ks)
rising_drop zero ks up = up
rising_drop (suc n) [] up = up
rising_drop (suc n) (k ∷ ks) up = rising_drop n ks up.1

-- one position more behind those that are written
more_written : (out rest all : List ℕ) (k : ℕ) → all ≡ k ∷ rest → (out ++ k ∷ []) ++ rest ≡ out ++ all
more_written out rest all k e = append_assoc out (k ∷ []) rest ∙ ap (λ (zs : List ℕ). out ++ zs) (sym e)

-- the next position of a list behind others
pub next_written : (out xs : List ℕ) (i : ℕ) → i < length xs → (out ++ get_or xs i 0 ∷ []) ++ drop (i + 1) xs ≡ out ++ drop i xs
next_written out xs i l = more_written out (drop (i + 1) xs) (drop i xs) (get_or xs i 0) (drop_more xs i 0 l)

pub some_written : (out xs ys : List ℕ) (i j : ℕ) → AreRising ys → i < length xs → j < length ys → get_or xs i 0 < get_or ys j 0
    → (out ++ get_or xs i 0 ∷ []) ++ with_positions (drop (i + 1) xs) (drop j ys) ≡ out ++ with_positions (drop i xs) (drop j ys)
some_written out xs ys i j up l m low =
    let ps : drop i xs ≡ get_or xs i 0 ∷ drop (i + 1) xs = drop_more xs i 0 l in
    let qs : drop j ys ≡ get_or ys j 0 ∷ drop (j + 1) ys = drop_more ys j 0 m in
    let rises : AreRising (get_or ys j 0 ∷ drop (j + 1) ys) = subst AreRising qs (rising_drop j ys up) in
    more_written out _ _ (get_or xs i 0)
    (ap (λ (zs : List ℕ). with_positions zs (drop j ys)) ps
    ∙ ap (with_positions (get_or xs i 0 ∷ drop (i + 1) xs)) qs
    ∙ first_lower (get_or xs i 0) (get_or ys j 0) (drop (i + 1) xs) (drop (j + 1) ys) low rises
    ∙ ap (λ (zs : List ℕ). get_or xs i 0 ∷ with_positions (drop (i + 1) xs) zs) (sym qs))

pub other_written : (out xs ys : List ℕ) (i j : ℕ) → AreRising ys → i < length xs → j < length ys → get_or ys j 0 < get_or xs i 0
    → (out ++ get_or ys j 0 ∷ []) ++ with_positions (drop i xs) (drop (j + 1) ys) ≡ out ++ with_positions (drop i xs) (drop j ys)
other_written out xs ys i j up l m low =
    let ps : drop i xs ≡ get_or xs i 0 ∷ drop (i + 1) xs = drop_more xs i 0 l in
    let qs : drop j ys ≡ get_or ys j 0 ∷ drop (j + 1) ys = drop_more ys j 0 m in
    let rises : AreRising (get_or ys j 0 ∷ drop (j + 1) ys) = subst AreRising qs (rising_drop j ys up) in
    more_written out _ _ (get_or ys j 0)
    (ap (λ (zs : List ℕ). with_positions zs (drop j ys)) ps
    ∙ ap (with_positions (get_or xs i 0 ∷ drop (i + 1) xs)) qs
    ∙ second_lower (get_or xs i 0) (get_or ys j 0) (drop (i + 1) xs) (drop (j + 1) ys) low rises
    ∙ ap (λ (zs : List ℕ). get_or ys j 0 ∷ with_positions zs (drop (j + 1) ys)) (sym ps))

pub both_written : (out xs ys : List ℕ) (i j : ℕ) → AreRising ys → i < length xs → j < length ys → get_or xs i 0 ≡ get_or ys j 0
    → (out ++ get_or ys j 0 ∷ []) ++ with_positions (drop (i + 1) xs) (drop (j + 1) ys) ≡ out ++ with_positions (drop i xs) (drop j ys)
both_written out xs ys i j up l m same =
    let ps : drop i xs ≡ get_or xs i 0 ∷ drop (i + 1) xs = drop_more xs i 0 l in
    let qs : drop j ys ≡ get_or ys j 0 ∷ drop (j + 1) ys = drop_more ys j 0 m in
    let rises : AreRising (get_or ys j 0 ∷ drop (j + 1) ys) = subst AreRising qs (rising_drop j ys up) in
    more_written out _ _ (get_or ys j 0)
    (ap (λ (zs : List ℕ). with_positions zs (drop j ys)) ps
    ∙ ap (with_positions (get_or xs i 0 ∷ drop (i + 1) xs)) qs
    ∙ both_first (get_or xs i 0) (get_or ys j 0) (drop (i + 1) xs) (drop (j + 1) ys) same rises)

-- .. and what is left of one of them behind all
pub end_of_some : (out xs ys : List ℕ) (i j : ℕ) → AreRising ys → length xs ≤ i → (out ++ drop i xs) ++ drop j ys ≡ out ++ with_positions (drop i xs) (drop j ys)
end_of_some out xs ys i j up l =
    let none : drop i xs ≡ [] = drop_all i xs l in
    ap (λ (zs : List ℕ). (out ++ zs) ++ drop j ys) none
    ∙ ap (λ (zs : List ℕ). zs ++ drop j ys) (append-nil out)
    ∙ ap (λ (zs : List ℕ). out ++ zs) (sym (risen (drop j ys) (rising_drop j ys up)))
    ∙ ap (λ (zs : List ℕ). out ++ with_positions zs (drop j ys)) (sym none)

pub end_of_others : (out xs ys : List ℕ) (i j : ℕ) → length ys ≤ j → (out ++ drop i xs) ++ drop j ys ≡ out ++ with_positions (drop i xs) (drop j ys)
end_of_others out xs ys i j l =
    let none : drop j ys ≡ [] = drop_all j ys l in
    ap (λ (zs : List ℕ). (out ++ drop i xs) ++ zs) none
    ∙ append-nil (out ++ drop i xs)
    ∙ ap (λ (zs : List ℕ). out ++ with_positions (drop i xs) zs) (sym none)
