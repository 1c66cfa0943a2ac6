-- Escapes, a byte at a time.
use Rattle.std.proofs.Common.{◌≡◌, ℕ, List, [], ◌∷◌, ◌++◌, Bool, true, false, cond, eqb, length, drop, ◌≤◌, refl, sym, subst, ap, ◌∙◌, arith}
use Rattle.std.proofs.lemmas.List.{drop_all, append-nil}
use Rattle.oz_lexer.specs.Spelling.{text_in_quotes}
use Rattle.oz_symbols.specs.Escapes.{meaning_of, text_in_quotes_from}

joins : (t : Bool) (b c : ℕ) (xs ys zs ws : List ℕ) → xs ≡ ys → zs ≡ ws → cond t (c ∷ xs) (b ∷ zs) ≡ cond t (c ∷ ys) (b ∷ ws)
joins t b c xs ys zs ws e f = rw (e, f) refl

by_case : (b c : ℕ) (cs : List ℕ) (t : Bool) → cond t [] (b ∷ []) ++ text_in_quotes_from t (c ∷ cs) ≡ cond t (meaning_of c ∷ text_in_quotes_from false cs) (b ∷ text_in_quotes_from false (c ∷ cs))
by_case b c cs true = refl
by_case b c cs false = refl

pub unescaped_is : (bs : List ℕ) → text_in_quotes_from false bs ≡ text_in_quotes bs
unescaped_is [] = refl
unescaped_is (b ∷ []) =
    let chosen : (t : Bool) → eqb b 92 ≡ t → cond t [] (b ∷ []) ++ text_in_quotes_from t [] ≡ b ∷ [] = elim [
      | true ↦ λ e. let is : 92 ≡ b = grind arith in ap (λ (x : ℕ). x ∷ []) is
      | false ↦ λ e. refl
    ] in chosen (eqb b 92) refl
unescaped_is (b ∷ c ∷ bs) =
    by_case b c bs (eqb b 92)
    ∙ joins (eqb b 92) b (meaning_of c) (text_in_quotes_from false bs) (text_in_quotes bs) (text_in_quotes_from false (c ∷ bs)) (text_in_quotes (c ∷ bs)) (unescaped_is bs) (unescaped_is (c ∷ bs))

pub ends_escaping : (e : Bool) (text bs : List ℕ) (i : ℕ) → e ≡ true → length bs ≤ i → text ++ text_in_quotes_from e (drop i bs) ≡ text_in_quotes_from false bs → text ++ 92 ∷ [] ≡ text_in_quotes bs
ends_escaping e text bs i is le so_far =
    let none = drop_all i bs le in
    let whole : text ++ text_in_quotes_from true [] ≡ text_in_quotes_from false bs = subst (λ (xs : List ℕ). text ++ text_in_quotes_from true xs ≡ text_in_quotes_from false bs) none (subst (λ (t : Bool). text ++ text_in_quotes_from t (drop i bs) ≡ text_in_quotes_from false bs) is so_far) in
    whole ∙ unescaped_is bs

pub ends_plain : (e : Bool) (text bs : List ℕ) (i : ℕ) → e ≡ false → length bs ≤ i → text ++ text_in_quotes_from e (drop i bs) ≡ text_in_quotes_from false bs → text ≡ text_in_quotes bs
ends_plain e text bs i is le so_far =
    let none = drop_all i bs le in
    let whole : text ++ text_in_quotes_from false [] ≡ text_in_quotes_from false bs = subst (λ (xs : List ℕ). text ++ text_in_quotes_from false xs ≡ text_in_quotes_from false bs) none (subst (λ (t : Bool). text ++ text_in_quotes_from t (drop i bs) ≡ text_in_quotes_from false bs) is so_far) in
    sym (append-nil text) ∙ whole ∙ unescaped_is bs
