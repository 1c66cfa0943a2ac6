-- How deep a head and a tail are, one behind the other.
use Rattle.std.proofs.Common.{◌≡◌, ◌∙◌, ap, refl, ℕ, Option, None, Some}
use Rattle.kernel_syntax.specs.Sugar.{Value, Variable, Values, no_values, left_of, by_kind, part_and, pair_values}
use Rattle.oz_sugar.specs.Deep.{or_else, deep_value, deep_fields}

or_none : (x : Option ℕ) → or_else x None ≡ x
or_none (Some left) = refl
or_none None = refl

deep_part : (v : Value) (vs : Values) (d : ℕ) → deep_fields (part_and v vs) d ≡ or_else (by_kind v None (deep_value v (left_of v) d)) (deep_fields vs d)
deep_part (Variable left k) vs d = refl
deep_part v vs d = refl

pub deep_two : (h u : Value) (d : ℕ) → deep_fields (pair_values h u) d ≡ or_else (by_kind h None (deep_value h (left_of h) d)) (by_kind u None (deep_value u (left_of u) d))
deep_two h u d =
    deep_part h (part_and u no_values) d
    ∙ ap (or_else (by_kind h None (deep_value h (left_of h) d))) (deep_part u no_values d ∙ or_none (by_kind u None (deep_value u (left_of u) d)))
