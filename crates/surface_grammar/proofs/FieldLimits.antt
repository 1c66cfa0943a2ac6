-- Records are within their limits, field by field.
use Rattle.std.proofs.Common.{◌≡◌, ◌∙◌, ℕ, ◌+◌, ◌≤◌, List, [], ◌∷◌, length, Bool, None, refl, sym, ap, subst, arith}
use Rattle.std.specs.Prelude.{◌||◌}
use Rattle.std.proofs.lemmas.List.{length-map}
use Rattle.tree_node.specs.declared.node.Feature.{Feature}
use Rattle.tree_node.specs.Each.{Each}
use Rattle.tree_node.specs.Node.{AreAscending}
use Rattle.tree_node.specs.Goal.{equal_feature}
use Rattle.kernel_syntax.specs.declared.sugar.Field.{Field}
use Rattle.kernel_syntax.specs.declared.sugar.Field.TheVariants as field
use Rattle.kernel_syntax.specs.Texts.{IsText, IsFeature}
use Rattle.kernel_syntax.specs.Sugar as sugar
use Rattle.kernel_syntax.specs.Sugar.{Value, Values, no_values, value_and, new_of, new_in, field_of, pair_values}
use Rattle.kernel_syntax.specs.SugarLimits.{FitsField, FitsValue, FitsValues}
use Rattle.oz_grammar.specs.declared.fault.FaultKind.TheVariants.{Twice}
use Rattle.oz_grammar.specs.Scoping.{has_feature, with_field}
use Rattle.oz_grammar.specs.Faults.{where_so, room_fault, fewer}
use Rattle.oz_grammar.specs.Table.{features_in}
use Rattle.oz_grammar.proofs.FieldOrder.{Each-with_field, Each-features, Each-fields, length-with_field, has_with_field, ascending_with_field, or_neither, not_so}
use Rattle.oz_grammar.proofs.PartsChecked.{room_of}
use Rattle.oz_grammar.proofs.TableTexts.{bar_text}
use Rattle.surface_grammar.specs.Points.{is_given, given_fault}
use Rattle.surface_grammar.specs.Trees.{with_last, with_value, record_value, pair_value}

-- ---- the values of a record that are no variables

new_with_last : (vs : Values) (v : Value) → new_in (with_last vs v) ≡ new_in vs + new_of v
new_with_last no_values v = omega arith
new_with_last (value_and u vs) v = let h = new_with_last vs v in omega (arith, h)

fits_with_last : (vs : Values) (v : Value) (t : ℕ) → FitsValues vs t → FitsValue v t → FitsValues (with_last vs v) t
fits_with_last no_values v t fs f = (f, tt)
fits_with_last (value_and u vs) v t fs f = (fs.0, fits_with_last vs v t fs.1 f)

-- a value that stands behind these in a record
record IsHeld (v : Value) (vs : Values) (t : ℕ) : Type 0 where
  values : FitsValues (with_value vs v) t
  place : FitsField t (new_in (with_value vs v)) (field_of v (new_in vs))
  new : new_in (with_value vs v) ≡ new_in vs + new_of v

held : (v : Value) (vs : Values) (t : ℕ) → FitsValues vs t → FitsValue v t → IsHeld v vs t
held (sugar.Variable left k) vs t fs f = record { values = fs; place = f; new = omega arith }
held v vs t fs f = let n = new_with_last vs v in record { values = fits_with_last vs v t fs f; place = omega (arith, n); new = n }

-- where there are more values, a field is still one
grows : (t n m : ℕ) (f : Field) → n ≤ m → FitsField t n f → FitsField t m f
grows t n m (field.Variable k) le h = h
grows t n m (field.Value i) le h = omega (arith, le, h)

all_grow : (t n m : ℕ) (slots : List (Feature × Field)) → n ≤ m → Each (λ (s : Feature × Field). FitsField t n s.1) slots → Each (λ (s : Feature × Field). FitsField t m s.1) slots
all_grow t n m [] le h = tt
all_grow t n m (s ∷ slots) le h = (grows t n m s.1 le h.0, all_grow t n m slots le h.1)

-- the fields of a pair and its values
pair_parts : (h u : Value) (t : ℕ) → FitsValue h t → FitsValue u t
    → FitsField t (new_in (pair_values h u)) (field_of h 0) × FitsField t (new_in (pair_values h u)) (field_of u (new_of h)) × FitsValues (pair_values h u) t
pair_parts (sugar.Variable l k) (sugar.Variable m j) t f g = (f, g, tt)
pair_parts (sugar.Variable l k) u t f g = (f, omega arith, (g, tt))
pair_parts h (sugar.Variable m j) t f g = (omega arith, g, (f, tt))
pair_parts h u t f g = (omega arith, omega arith, (f, (g, tt)))

pub pair_fits : (left t : ℕ) (h u : Value) → FitsValue h t → FitsValue u t → FitsValue (pair_value left h u) t
pair_fits left t h u f g =
    let p = pair_parts h u t f g in (bar_text, (omega arith, omega arith, ((refl, tt), (tt, tt))), (refl, (refl, tt)), (p.0, (p.1, tt)), p.2)

-- ---- fields one after another

-- the fields so far: these features are given, i of the values are no variables, and there is room for more
pub record Collected (t room nth i : ℕ) (before : List Feature) (slots : List (Feature × Field)) (vs : Values) : Type 0 where
  pub ascending : AreAscending (features_in slots)
  pub few : length slots + room ≡ 64
  pub numbered : nth + room ≤ 65
  pub features : Each IsFeature (features_in slots)
  pub fields : Each (λ (s : Feature × Field). FitsField t (new_in vs) s.1) slots
  pub values : FitsValues vs t
  pub number : i ≡ new_in vs
  pub given : (f : Feature) → is_given before f ≡ has_feature slots f

pub none_collected : (t : ℕ) → Collected t 64 1 0 [] [] no_values
none_collected t = record { ascending = tt; few = refl; numbered = omega arith; features = tt; fields = tt; values = tt; number = refl; given = λ f. refl }

-- one field more
pub collected : (t room nth next i : ℕ) (before : List Feature) (slots : List (Feature × Field)) (vs : Values) (f : Feature) (v : Value) → Collected t room nth i before slots vs → IsFeature f → given_fault room before f ≡ None → FitsValue v t
    → next + fewer room ≤ 65 → Collected t (fewer room) next (i + new_of v) (f ∷ before) (with_field f (field_of v i) slots) (with_value vs v)
collected t room nth next i before slots vs f v c good free fits numbered =
    let two = or_neither (room_fault room) (where_so (is_given before f) Twice) free in
    let r = room_of room two.0 in
    let h = held v vs t c.values fits in
    let longer = length-with_field f (field_of v i) slots in
    let place = subst (λ (k : ℕ). FitsField t (new_in (with_value vs v)) (field_of v k)) (sym c.number) h.place in
    record {
      ascending = ascending_with_field f (field_of v i) slots (sym (c.given f) ∙ not_so (is_given before f) Twice two.1) c.ascending;
      few = omega (arith, longer, c.few, r);
      numbered = numbered;
      features = Each-features IsFeature (with_field f (field_of v i) slots) (Each-with_field (λ (s : Feature × Field). IsFeature s.0) f (field_of v i) slots good (Each-fields IsFeature slots c.features));
      fields = Each-with_field (λ (s : Feature × Field). FitsField t (new_in (with_value vs v)) s.1) f (field_of v i) slots place (all_grow t (new_in vs) (new_in (with_value vs v)) slots (omega (arith, h.new)) c.fields);
      values = h.values;
      number = omega (arith, c.number, h.new);
      given = λ g. ap (λ (b : Bool). equal_feature f g || b) (c.given g) ∙ sym (has_with_field f (field_of v i) slots g);
    }

-- all fields of a record
pub record_fits : (t room nth i left : ℕ) (before : List Feature) (slots : List (Feature × Field)) (vs : Values) (a : List ℕ) → Collected t room nth i before slots vs → IsText a → FitsValue (record_value left a slots vs) t
record_fits t room nth i left before [] vs a c is = is
record_fits t room nth i left before (s ∷ slots) vs a c is =
    let l = length-map (s ∷ slots) (λ (g : Feature × Field). g.0) in (is, (omega (arith, l), omega (arith, l, c.few), c.ascending), c.features, c.fields, c.values)
