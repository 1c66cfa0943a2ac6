-- Fields in the order of features.
use Rattle.std.proofs.Common.{◌≡◌, suc, ◌+◌, List, [], ◌∷◌, ◌++◌, length, Bool, true, false, cond, refl, ap, arith}
use Rattle.std.specs.Prelude.{insert, ◌||◌}
use Rattle.std.specs.Ordering.{is_lt}
use Rattle.tree_node.specs.declared.node.Feature.{Feature}
use Rattle.tree_node.specs.Node.{feature_cmp}
use Rattle.tree_node.specs.Goal.{equal_feature}
use Rattle.kernel_syntax.specs.declared.sugar.Field.{Field}
use Rattle.oz_grammar.specs.Scoping.{has_feature, with_field}
use Rattle.oz_grammar.specs.Table.{features_in}
use Rattle.surface_grammar.specs.Points.{is_given}
use Rattle.surface_parts.specs.Slots.{slot_point}

pub given_of_slots : (slots : List (Feature × Field)) (f : Feature) → has_feature slots f ≡ is_given (features_in slots) f
given_of_slots [] f = refl
given_of_slots (s ∷ slots) f = ap (λ (b : Bool). equal_feature s.0 f || b) (given_of_slots slots f)

pub inserted : (f : Feature) (p : Field) (slots : List (Feature × Field)) → insert slots (slot_point f slots) (f, p) ≡ with_field f p slots
inserted f p [] = refl
inserted f p ((g, q) ∷ slots) =
    let chosen : (t : Bool) → insert ((g, q) ∷ slots) (cond t 0 (slot_point f slots + 1)) (f, p) ≡ cond t ((f, p) ∷ (g, q) ∷ slots) ((g, q) ∷ with_field f p slots) = elim [
      | true ↦ refl
      | false ↦ let n : slot_point f slots + 1 ≡ suc (slot_point f slots) = omega arith in rw n (ap (λ (xs : List (Feature × Field)). (g, q) ∷ xs) (inserted f p slots))
    ] in chosen (is_lt (feature_cmp f g))

pub appended : (f : Feature) (p : Field) (slots : List (Feature × Field)) → slot_point f slots ≡ length slots → slots ++ (f, p) ∷ [] ≡ with_field f p slots
appended f p [] e = refl
appended f p ((g, q) ∷ slots) e =
    let chosen : (t : Bool) → cond t 0 (slot_point f slots + 1) ≡ suc (length slots) → (g, q) ∷ (slots ++ (f, p) ∷ []) ≡ cond t ((f, p) ∷ (g, q) ∷ slots) ((g, q) ∷ with_field f p slots) = elim [
      | true ↦ λ h. absurd (omega (arith, h))
      | false ↦ λ h. ap (λ (xs : List (Feature × Field)). (g, q) ∷ xs) (appended f p slots (omega (arith, h)))
    ] in chosen (is_lt (feature_cmp f g)) e
