-- Heads and tails, one behind the other.
use Rattle.std.proofs.Common.{arith, ◌≡◌, ap, refl, ℕ, ◌+◌, List}
use Rattle.tree_node.specs.declared.names.CodeId.{CodeId}
use Rattle.kernel_syntax.specs.declared.stmt.Stmt.{Stmt}
use Rattle.kernel_syntax.specs.Sugar.{Value, Variable, Values, no_values, field_of, new_of, new_in, part_and, pair_values}
use Rattle.sugar_rows.specs.Put.{Places, field_place}
use Rattle.sugar_rows.specs.Writing.{Numbered, held_place, write_fields}

new_part : (v : Value) (vs : Values) → new_in (part_and v vs) ≡ new_of v + new_in vs
new_part (Variable left k) vs = let e : new_in vs ≡ 0 + new_in vs = omega arith in e
new_part v vs = refl

pub new_two : (h u : Value) → new_in (pair_values h u) ≡ new_of h + new_of u
new_two h u =
    let first : new_in (pair_values h u) ≡ new_of h + new_in (part_and u no_values) = new_part h (part_and u no_values) in
    let other : new_in (part_and u no_values) ≡ new_of u + 0 = new_part u no_values in
    omega (arith, first, other)

write_part : (v : Value) (vs : Values) (places : Places) (n i : ℕ) (numbers : List CodeId) (rows : List Stmt) →
    ◌≡◌ {A = Numbered} (write_fields (part_and v vs) places n i numbers rows)
    (write_fields vs places n (i + new_of v) (write_fields (part_and v no_values) places n i numbers rows).0 (write_fields (part_and v no_values) places n i numbers rows).1)
write_part (Variable left k) vs places n i numbers rows =
    let same : i ≡ i + 0 = omega arith in ap (λ (j : ℕ). write_fields vs places n j numbers rows) same
write_part v vs places n i numbers rows = refl

pub write_both : (h u : Value) (places : Places) (n i : ℕ) (numbers : List CodeId) (rows : List Stmt) →
    ◌≡◌ {A = Numbered} (write_fields (pair_values h u) places n i numbers rows)
    (write_fields (part_and u no_values) places n (i + new_of h) (write_fields (part_and h no_values) places n i numbers rows).0 (write_fields (part_and h no_values) places n i numbers rows).1)
write_both h u places n i numbers rows = write_part h (part_and u no_values) places n i numbers rows

pub head_place : (h : Value) (places : Places) (n : ℕ) → held_place h places n ≡ field_place places n (field_of h 0)
head_place (Variable left k) places n = refl
head_place h places n = omega arith

pub tail_place : (h u : Value) (places : Places) (n : ℕ) → held_place u places (n + new_of h) ≡ field_place places n (field_of u (new_of h))
tail_place h (Variable left k) places n = refl
tail_place h u places n = refl
