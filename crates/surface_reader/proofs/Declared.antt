-- Names that are declared from a place on.
use Rattle.std.proofs.Common.{◌≡◌, ◌∙◌, ℕ, ◌≤◌, List, [], ◌∷◌, ◌++◌, length, take, drop, sym, ap}
use Rattle.std.proofs.lemmas.List.{take-append-drop, drop-append-le, take-append-le}
use Rattle.oz_grammar.specs.Scoping.{Scope}

-- one name more behind so many
pub drop_more : (n : ℕ) (scope : Scope) (x : List ℕ) → n ≤ length scope → drop n (scope ++ x ∷ []) ≡ drop n scope ++ x ∷ []
drop_more n scope x h = drop-append-le n scope (x ∷ []) h

pub take_more : (n : ℕ) (scope : Scope) (x : List ℕ) → n ≤ length scope → take n (scope ++ x ∷ []) ≡ take n scope
take_more n scope x h = take-append-le n scope (x ∷ []) h

-- those before, and those declared behind them
pub joined : (old new : Scope) → take (length old) new ≡ old → old ++ drop (length old) new ≡ new
joined old new e = ap (λ (xs : Scope). xs ++ drop (length old) new) (sym e) ∙ take-append-drop (length old) new
