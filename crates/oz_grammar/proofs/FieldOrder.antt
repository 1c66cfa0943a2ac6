-- Fields that pass are in the order of their features, each once, and at most 64.
use Rattle.std.proofs.Common.{◌≡◌, ◌∙◌, ℕ, zero, suc, ◌+◌, ◌≤◌, List, [], ◌∷◌, length, Bool, true, false, cond, Option, Some, None, refl, ap, arith}
use Rattle.std.specs.Prelude.{◌||◌}
use Rattle.std.specs.Bool.{Decides}
use Rattle.std.specs.declared.cmp.Ordering.{Ordering}
use Rattle.std.specs.declared.cmp.Ordering.TheVariants.{Less, Equal, Greater}
use Rattle.std.specs.Ordering.{int_cmp, nat_cmp, ordering_reverse, is_eq, is_lt}
use Rattle.std.specs.Cmp.Lexicographic.{slice_cmp}
use Rattle.std.proofs.lemmas.Cmp.{int_cmp_total, nat_list_cmp_total}
use Rattle.std.proofs.lemmas.Map.Text.{is_eq-slice_cmp}
use Rattle.std.proofs.lemmas.Bool.Decides.{Decides-int_eq}
use Rattle.tree_node.specs.declared.node.Feature.{Feature}
use Rattle.tree_node.specs.declared.node.Feature.TheVariants as feature
use Rattle.tree_node.specs.Each.{Each}
use Rattle.tree_node.specs.Node.{feature_cmp, AreAscending}
use Rattle.tree_node.specs.Goal.{equal_feature}
use Rattle.oz_grammar.specs.declared.symbol.Symbol.{Symbol}
use Rattle.oz_grammar.specs.declared.symbol.Purpose.{Purpose}
use Rattle.oz_grammar.specs.declared.symbol.Purpose.TheVariants as purpose
use Rattle.oz_grammar.specs.declared.fault.Fault.{Fault}
use Rattle.oz_grammar.specs.declared.fault.FaultKind.{FaultKind}
use Rattle.oz_grammar.specs.declared.fault.FaultKind.TheVariants.{Twice}
use Rattle.oz_grammar.specs.Grammar.{Identifier, FeatureToken, AtomFeature, IntFeature, Field, Placed, WithFeature}
use Rattle.oz_grammar.specs.Scoping.{Scope, Fields, is_declared, feature_of, place_feature, has_feature, with_field, fields_behind, fields_of}
use Rattle.oz_grammar.specs.Table.{features_in}
use Rattle.oz_grammar.specs.Faults.{or_else, where_so, where_not, number_fault, room_fault, feature_fault, feature_token_fault, name_fault, placed_fault, fewer}
use Rattle.oz_grammar.specs.Check.{first_fault, check_fields}
use Rattle.std.proofs.lemmas.Bool.{or_parts}
use Rattle.tree_node.proofs.FeatureOrder.{feature_trans}
use Rattle.tree_node.proofs.BoolLemmas.{exchange}

-- ---- the order of features

-- of two that differ, one is below
turned : (o r : Ordering) → o ≡ ordering_reverse r → is_lt r ≡ false → is_eq o ≡ false → o ≡ Less
turned o Less e low other = cc
turned o Equal e low other = let same : true ≡ false = rw e at other in cc
turned o Greater e low other = e

int_equal : (a b : Rattle.std.specs.Prelude.ℤ) → is_eq (int_cmp a b) ≡ true → a ≡ b
int_equal a b e = grind arith

above : (f g : Feature) → is_lt (feature_cmp f g) ≡ false → equal_feature g f ≡ false → feature_cmp g f ≡ Less
above (feature.Int a) (feature.Int b) low other =
    let differs : is_eq (int_cmp b a) ≡ false =
    (let go : (t : Bool) → is_eq (int_cmp b a) ≡ t → t ≡ false = elim [
      | true ↦ λ e. let same : b ≡ a = int_equal b a e in let yes : equal_feature (feature.Int b) (feature.Int a) ≡ true = (Decides-int_eq b a).1 same in cc
      | false ↦ λ e. refl
    ] in go (is_eq (int_cmp b a)) refl) in
    turned (int_cmp b a) (int_cmp a b) (int_cmp_total.antisymm b a) low differs
above (feature.Int a) (feature.Atom b) low other = cc
above (feature.Atom a) (feature.Int b) low other = refl
above (feature.Atom a) (feature.Atom b) low other =
    turned (slice_cmp nat_cmp b a) (slice_cmp nat_cmp a b) (nat_list_cmp_total.antisymm b a) low (is_eq-slice_cmp b a ∙ other)

-- ---- one field more

Each-below : (f g : Feature) (gs : List Feature) → feature_cmp f g ≡ Less → Each (λ h. feature_cmp g h ≡ Less) gs → Each (λ h. feature_cmp f h ≡ Less) gs
Each-below f g [] low up = tt
Each-below f g (h ∷ gs) low up = (feature_trans f g h low up.0, Each-below f g gs low up.1)

-- what holds of all, and of one field more, holds of all then
pub Each-with_field : {A : Type 0} (P : Feature × A → Type 0) (f : Feature) (x : A) (fields : List (Feature × A)) → P (f, x) → Each P fields → Each P (with_field f x fields)
Each-with_field P f x [] p ps = (p, tt)
Each-with_field P f x ((g, y) ∷ fields) p ps =
    let chosen : (b : Bool) → Each P (cond b ((f, x) ∷ (g, y) ∷ fields) ((g, y) ∷ with_field f x fields)) = elim [
      | true ↦ (p, ps)
      | false ↦ (ps.0, Each-with_field P f x fields p ps.1)
    ] in chosen (is_lt (feature_cmp f g))

pub Each-features : {A : Type 0} (P : Feature → Type 0) (fields : List (Feature × A)) → Each (λ (g : Feature × A). P g.0) fields → Each P (features_in fields)
Each-features P [] ps = tt
Each-features P (g ∷ fields) ps = (ps.0, Each-features P fields ps.1)

pub Each-fields : {A : Type 0} (P : Feature → Type 0) (fields : List (Feature × A)) → Each P (features_in fields) → Each (λ (g : Feature × A). P g.0) fields
Each-fields P [] ps = tt
Each-fields P (g ∷ fields) ps = (ps.0, Each-fields P fields ps.1)

pub length-with_field : {A : Type 0} (f : Feature) (x : A) (fields : List (Feature × A)) → length (with_field f x fields) ≡ suc (length fields)
length-with_field f x [] = refl
length-with_field f x ((g, y) ∷ fields) =
    let chosen : (b : Bool) → length (cond b ((f, x) ∷ (g, y) ∷ fields) ((g, y) ∷ with_field f x fields)) ≡ suc (suc (length fields)) = elim [
      | true ↦ refl
      | false ↦ ap suc (length-with_field f x fields)
    ] in chosen (is_lt (feature_cmp f g))

-- the features of fields and one more are its own and theirs
pub has_with_field : {A : Type 0} (f : Feature) (x : A) (fields : List (Feature × A)) (g : Feature) → has_feature (with_field f x fields) g ≡ (equal_feature f g || has_feature fields g)
has_with_field f x [] g = refl
has_with_field f x ((h, y) ∷ fields) g =
    let chosen : (b : Bool) → has_feature (cond b ((f, x) ∷ (h, y) ∷ fields) ((h, y) ∷ with_field f x fields)) g ≡ (equal_feature f g || (equal_feature h g || has_feature fields g)) = elim [
      | true ↦ refl
      | false ↦ ap (λ (c : Bool). equal_feature h g || c) (has_with_field f x fields g) ∙ exchange (equal_feature h g) (equal_feature f g) (has_feature fields g)
    ] in chosen (is_lt (feature_cmp f h))

first_less : (o : Ordering) → is_lt o ≡ true → o ≡ Less
first_less Less e = refl
first_less Equal e = cc
first_less Greater e = cc

pub ascending_with_field : {A : Type 0} (f : Feature) (x : A) (fields : List (Feature × A)) → has_feature fields f ≡ false → AreAscending (features_in fields) → AreAscending (features_in (with_field f x fields))
ascending_with_field f x [] other up = (tt, tt)
ascending_with_field {A = A} f x ((g, y) ∷ fields) other up =
    let two = or_parts (equal_feature g f) (has_feature fields f) other in
    let chosen : (b : Bool) → is_lt (feature_cmp f g) ≡ b → AreAscending (features_in (cond b ((f, x) ∷ (g, y) ∷ fields) ((g, y) ∷ with_field f x fields))) = elim [
      | true ↦ λ e. let low = first_less (feature_cmp f g) e in ((low, Each-below f g (features_in fields) low up.0), up)
      | false ↦ λ e.
          let high = above f g e two.0 in
          (Each-features (λ h. feature_cmp g h ≡ Less) (with_field f x fields) (Each-with_field (λ (h : Feature × A). feature_cmp g h.0 ≡ Less) f x fields high (Each-fields (λ h. feature_cmp g h ≡ Less) fields up.0)), ascending_with_field f x fields two.1 up.1)
    ] in chosen (is_lt (feature_cmp f g)) refl

-- ---- fields that pass

pub stopped : (kind : Option FaultKind) (symbols : List Symbol) (behind : Option Fault) → first_fault kind symbols behind ≡ None → (kind ≡ None) × (behind ≡ None)
stopped None symbols behind e = (refl, e)
stopped (Some kind) symbols behind e = cc

pub or_neither : (a b : Option FaultKind) → or_else a b ≡ None → (a ≡ None) × (b ≡ None)
or_neither None b e = (refl, e)
or_neither (Some kind) b e = cc

pub not_so : (b : Bool) (kind : FaultKind) → where_so b kind ≡ None → b ≡ false
not_so true kind e = cc
not_so false kind e = refl

pub is_so : (b : Bool) (kind : FaultKind) → where_not b kind ≡ None → b ≡ true
is_so true kind e = refl
is_so false kind e = cc

-- a used name of fields is declared
abbrev pub Declared : Purpose → Scope → Fields → Type 0
Declared purpose.Use scope fields = Each (λ (f : Feature × Identifier). is_declared scope f.1 ≡ true) fields
Declared purpose.Declare scope fields = Unit {0}

-- fields that pass: in order, at most 64, and declared where they are used
pub record Good (p : Purpose) (scope : Scope) (fields : Fields) : Type 0 where
  pub ascending : AreAscending (features_in fields)
  pub few : length fields ≤ 64
  pub declared : Declared p scope fields

declared_with : (p : Purpose) (scope : Scope) (f : Feature) (x : Identifier) (before fields : Fields) → name_fault p scope before x ≡ None → Declared p scope fields → Declared p scope (with_field f x fields)
declared_with purpose.Use scope f x before fields e all = Each-with_field (λ (g : Feature × Identifier). is_declared scope g.1 ≡ true) f x fields (is_so (is_declared scope x) _ e) all
declared_with purpose.Declare scope f x before fields e all = tt

room_left : (room : ℕ) → room_fault room ≡ None → (k : ℕ) × (room ≡ suc k)
room_left zero e = cc
room_left (suc k) e = (k, refl)

one_more : (p : Purpose) (scope : Scope) (room : ℕ) (before : Fields) (f : Feature) (x : Identifier) → Good p scope before → length before + room ≡ 64
    → feature_fault room before f ≡ None → name_fault p scope before x ≡ None → Good p scope (with_field f x before) × (length (with_field f x before) + fewer room ≡ 64)
one_more p scope room before f x good sum feature name =
    let two = or_neither (room_fault room) (where_so (has_feature before f) Twice) feature in
    let left = room_left room two.0 in
    let longer = length-with_field f x before in
    let here : fewer room ≡ left.0 = ap fewer left.1 in (
      record {
        ascending = ascending_with_field f x before (not_so (has_feature before f) Twice two.1) good.ascending;
        few = omega (arith, longer, sum, left.1);
        declared = declared_with p scope f x before before name good.declared;
      },
      omega (arith, longer, sum, left.1, here),
    )

mark_passes : (room : ℕ) (before : Fields) (m : FeatureToken) → feature_token_fault room before m ≡ None → feature_fault room before (feature_of m) ≡ None
mark_passes room before (AtomFeature a) e = e
mark_passes room before (IntFeature n) e = (or_neither (number_fault n) (feature_fault room before (feature_of (IntFeature n))) e).1

good_behind : (p : Purpose) (scope : Scope) (room : ℕ) (before : Fields) (next : ℕ) (fs : List Field) (rest : List Symbol) (found : Option Fault)
    → check_fields p scope room before next fs rest found ≡ None → Good p scope before → length before + room ≡ 64
    → (found ≡ None) × Good p scope (fields_behind before next fs)
good_behind p scope room before next [] rest found e good sum = (e, good)
good_behind p scope room before next (Placed x ∷ fs) rest found e good sum =
    let s = stopped (placed_fault p scope room before next x) _ _ e in
    let two = or_neither (feature_fault room before (place_feature next)) (name_fault p scope before x) s.0 in
    let more = one_more p scope room before (place_feature next) x good sum two.0 two.1 in
    good_behind p scope (fewer room) (with_field (place_feature next) x before) (next + 1) fs rest found s.1 more.0 more.1
good_behind p scope room before next (WithFeature m x ∷ fs) rest found e good sum =
    let s = stopped (feature_token_fault room before m) _ _ e in
    let t = stopped (name_fault p scope before x) _ _ s.1 in
    let more = one_more p scope room before (feature_of m) x good sum (mark_passes room before m s.0) t.0 in
    good_behind p scope (fewer room) (with_field (feature_of m) x before) next fs rest found t.1 more.0 more.1

no_fields : (p : Purpose) (scope : Scope) → Good p scope []
no_fields purpose.Use scope = record { ascending = tt; few = omega arith; declared = tt }
no_fields purpose.Declare scope = record { ascending = tt; few = omega arith; declared = tt }

-- the fields in brackets of a record or a pattern that passes
pub good_fields : (p : Purpose) (scope : Scope) (fs : List Field) (rest : List Symbol) (found : Option Fault)
    → check_fields p scope 64 [] 1 fs rest found ≡ None → (found ≡ None) × Good p scope (fields_of fs)
good_fields p scope fs rest found e = good_behind p scope 64 [] 1 fs rest found e (no_fields p scope) refl
