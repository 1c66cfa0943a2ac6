-- The first exception of a variable, found one exception after the other.
use Rattle.std.proofs.Common.{◌≡◌, ◌∙◌, sym, ap, refl, subst, ℕ, ◌+◌, drop, List, [], ◌∷◌, Bool, true, false, cond, Some, None}
use Rattle.std.specs.Prelude.{Option, is_some}
use Rattle.std.specs.List.{position_from}
use Rattle.tree_node.specs.declared.names.VarName.{VarName}
use Rattle.tree_node.specs.Store.{equal_var}
use Rattle.tree_node.proofs.ClassLemmas.{same_name_decides}
use Rattle.run_trace.specs.declared.findings.Raise.{Raise}
use Rattle.run_trace.specs.First.{first_place, or_later, place_of}

-- the place of the first exception of a variable among these, which are counted from this number on
abbrev pub from : ℕ → List Raise → VarName → Option ℕ
from i rs x = position_from (λ (r : Raise). equal_var r.raised x) i rs

or_none : (o : Option ℕ) → o ≡ or_later o None
or_none None = refl
or_none (Some k) = refl

-- the place of a variable, by another name for it
same_place : (es : List (VarName × ℕ)) (x y : VarName) (o : Option ℕ) → equal_var x y ≡ true → place_of es x ≡ o → place_of es y ≡ o
same_place es x y o same is = subst (λ (z : VarName). place_of es z ≡ o) ((same_name_decides x y).0 same) is

-- a variable that has a place keeps it
pub kept_there : (es : List (VarName × ℕ)) (i : ℕ) (r : VarName) (b : Bool) → b ≡ is_some (place_of es r) → b ≡ true → (x : VarName) →
    place_of es x ≡ or_later (place_of es x) (cond (equal_var r x) (Some i) None)
kept_there es i r b told yes_it x = go (place_of es r) refl (sym told ∙ yes_it)
  where
    by : (k : ℕ) → place_of es r ≡ Some k → (c : Bool) → equal_var r x ≡ c → place_of es x ≡ or_later (place_of es x) (cond c (Some i) None)
    by k at true e = let it : place_of es x ≡ Some k = same_place es r x (Some k) e at in it ∙ ap (λ (o : Option ℕ). or_later o (Some i)) (sym it)
    by k at false e = or_none (place_of es x)

    go : (o : Option ℕ) → place_of es r ≡ o → is_some (place_of es r) ≡ true → place_of es x ≡ or_later (place_of es x) (cond (equal_var r x) (Some i) None)
    go None e h = let no_it : is_some (place_of es r) ≡ false = ap (λ (o : Option ℕ). is_some o) e in absurd (cc)
    go (Some k) e h = by k e (equal_var r x) refl

-- one that has none is put at this place
pub put_there : (es fs : List (VarName × ℕ)) (i : ℕ) (r : VarName) (b : Bool) → b ≡ is_some (place_of es r) → b ≡ false →
    ((x : VarName) → place_of fs x ≡ cond (equal_var r x) (Some i) (place_of es x)) → (x : VarName) → place_of fs x ≡ or_later (place_of es x) (cond (equal_var r x) (Some i) None)
put_there es fs i r b told none put x = put x ∙ go (place_of es r) refl (sym told ∙ none)
  where
    by : place_of es r ≡ None → (c : Bool) → equal_var r x ≡ c → cond c (Some i) (place_of es x) ≡ or_later (place_of es x) (cond c (Some i) None)
    by at true e = ap (λ (o : Option ℕ). or_later o (Some i)) (sym (same_place es r x None e at))
    by at false e = or_none (place_of es x)

    go : (o : Option ℕ) → place_of es r ≡ o → is_some (place_of es r) ≡ false → cond (equal_var r x) (Some i) (place_of es x) ≡ or_later (place_of es x) (cond (equal_var r x) (Some i) None)
    go None e h = by e (equal_var r x) refl
    go (Some k) e h = let it : is_some (place_of es r) ≡ true = ap (λ (o : Option ℕ). is_some o) e in absurd (cc)

join : (o later : Option ℕ) (i : ℕ) (b : Bool) → or_later (or_later o (cond b (Some i) None)) later ≡ or_later o (cond b (Some i) later)
join (Some k) later i b = refl
join None later i true = refl
join None later i false = refl

-- one exception more is looked at
pub first_step : (es fs : List (VarName × ℕ)) (i : ℕ) (r : Raise) (rest rs : List Raise) (x : VarName) → drop i rs ≡ r ∷ rest →
    place_of fs x ≡ or_later (place_of es x) (cond (equal_var r.raised x) (Some i) None) → or_later (place_of es x) (from i (drop i rs) x) ≡ first_place rs x →
    or_later (place_of fs x) (from (i + 1) rest x) ≡ first_place rs x
first_step es fs i r rest rs x at put before =
    ap (λ (o : Option ℕ). or_later o (from (i + 1) rest x)) put
    ∙ (join (place_of es x) (from (i + 1) rest x) i (equal_var r.raised x)
    ∙ (ap (λ (l : List Raise). or_later (place_of es x) (from i l x)) (sym at) ∙ before))
