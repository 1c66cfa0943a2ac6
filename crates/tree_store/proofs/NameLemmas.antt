-- Lists of names.
use Rattle.std.proofs.Common.{arith, ◌≡◌, ◌∙◌, sym, refl, List, ◌∷◌, [], ◌++◌, ◌⊎◌, inl, inr, Bool, true, false, cond}
use Rattle.std.specs.Prelude.{Contains, ◌↔◌, ◌||◌, IsTrue}
use Rattle.std.specs.List.{list_any}
use Rattle.std.proofs.Math.Bool.{or-true}
use Rattle.std.proofs.lemmas.Map.Views.{Contains-from_any}
use Rattle.tree_node.specs.declared.names.VarName.{VarName}
use Rattle.tree_node.specs.Store.{equal_var}
use Rattle.tree_node.proofs.ClassLemmas.{same_name_decides, same_name_refl, Contains-cons_cases}
use Rattle.tree_store.specs.Contents.{with_name}

any_contains : (names : List VarName) (x : VarName) → Contains names x → list_any (equal_var x) names ≡ true
any_contains [] x (k, below, is) = absurd (omega arith)
any_contains (y ∷ names) x h = go (Contains-cons_cases _ _ names h) (λ k. any_contains names x k)
  where
    go : (y ≡ x) ⊎ Contains names x → (Contains names x → list_any (equal_var x) names ≡ true) → (equal_var x y || list_any (equal_var x) names) ≡ true
    go (inl e) ih = rw (e, same_name_refl x) refl
    go (inr k) ih = rw (ih k) (or-true (equal_var x y))

contains_any : (names : List VarName) (x : VarName) → list_any (equal_var x) names ≡ true → Contains names x
contains_any names x h = Contains-from_any {eq = equal_var} (λ a b k. (same_name_decides a b).0 k) x names h

-- the test of a known name
pub known_tells : (names : List VarName) (x : VarName) (b : Bool) → b ≡ list_any (equal_var x) names → IsTrue b ↔ Contains names x
known_tells names x b e = (λ h. contains_any names x (sym e ∙ h), λ h. e ∙ any_contains names x h)

-- a name that is not known goes last
pub name_added : (names : List VarName) (x : VarName) → (Contains names x → ⊥) → with_name names x ≡ names ++ x ∷ []
name_added names x new = go (list_any (equal_var x) names) refl
  where
    go : (b : Bool) → list_any (equal_var x) names ≡ b → cond b names (names ++ x ∷ []) ≡ names ++ x ∷ []
    go true e = absurd (new (contains_any names x e))
    go false e = refl
