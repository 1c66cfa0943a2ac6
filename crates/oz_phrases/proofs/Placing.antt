-- Fields in the order of features.
use Rattle.std.proofs.Common.{◌≡◌, ℕ, suc, ◌+◌, List, [], ◌∷◌, Bool, true, false, cond, refl, ap, arith}
use Rattle.std.specs.Prelude.{insert}
use Rattle.std.specs.Ordering.{is_lt}
use Rattle.tree_node.specs.declared.node.Feature.{Feature}
use Rattle.tree_node.specs.Node.{feature_cmp}
use Rattle.oz_grammar.specs.Scoping.{with_field}
use Rattle.oz_phrases.specs.Fields.{insertion_point}

pub inserted : (f : Feature) (x : List ℕ) (fields : List (Feature × List ℕ)) → insert fields (insertion_point f fields) (f, x) ≡ with_field f x fields
inserted f x [] = refl
inserted f x ((g, y) ∷ fields) =
    let chosen : (t : Bool) → insert ((g, y) ∷ fields) (cond t 0 (insertion_point f fields + 1)) (f, x) ≡ cond t ((f, x) ∷ (g, y) ∷ fields) ((g, y) ∷ with_field f x fields) = elim [
      | true ↦ refl
      | false ↦ let n : insertion_point f fields + 1 ≡ suc (insertion_point f fields) = omega arith in rw n (ap (λ (xs : List (Feature × List ℕ)). (g, y) ∷ xs) (inserted f x fields))
    ] in chosen (is_lt (feature_cmp f g))
