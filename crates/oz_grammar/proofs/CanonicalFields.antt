-- Fields that are written in their order, each with its feature, pass and are the same fields.
use Rattle.std.proofs.Common.{◌≡◌, ◌∙◌, ℕ, zero, suc, ◌+◌, ◌<◌, ◌≤◌, ◌^◌, List, [], ◌∷◌, ◌++◌, length, map, Bool, true, false, Option, None, refl, sym, ap, subst, arith, append_assoc}
use Rattle.std.specs.declared.cmp.Ordering.{Ordering}
use Rattle.std.specs.declared.cmp.Ordering.TheVariants.{Less, Equal, Greater}
use Rattle.std.specs.Ordering.{int_eq, is_lt}
use Rattle.std.specs.Str.{bytes_eq}
use Rattle.std.proofs.lemmas.List.{append-nil, map-append}
use Rattle.std.proofs.lemmas.Slice.Eq.{bytes_eq-Decides}
use Rattle.std.proofs.lemmas.Bool.Decides.{Decides-int_eq}
use Rattle.tree_node.specs.declared.node.Feature.{Feature}
use Rattle.tree_node.specs.declared.node.Feature.TheVariants as feature
use Rattle.tree_node.specs.Each.{Each}
use Rattle.tree_node.specs.Node.{feature_cmp, AreAscending}
use Rattle.tree_node.specs.Goal.{equal_feature}
use Rattle.tree_node.proofs.OrderLemmas.{one_way}
use Rattle.oz_grammar.specs.declared.symbol.Symbol.{Symbol}
use Rattle.oz_grammar.specs.declared.symbol.Purpose.{Purpose}
use Rattle.oz_grammar.specs.declared.symbol.Purpose.TheVariants as purpose
use Rattle.oz_grammar.specs.declared.fault.Fault.{Fault}
use Rattle.oz_grammar.specs.declared.fault.FaultKind.TheVariants.{Twice, Unbound}
use Rattle.oz_grammar.specs.Grammar.{Identifier, Field}
use Rattle.oz_grammar.specs.Scoping.{Scope, Fields, is_declared, with_field, has_feature, has_name, names_in, feature_of, fields_behind, fields_of}
use Rattle.oz_grammar.specs.Table.{features_in}
use Rattle.oz_grammar.specs.Faults.{where_so, where_not, feature_token_fault, name_fault}
use Rattle.oz_grammar.specs.Check.{check_fields}
use Rattle.oz_grammar.specs.Canonical.{name_at, names_from, feature_token, field_with_feature, declared_fields}
use Rattle.oz_grammar.proofs.CanonicalNames.{next_is_new, names_append}
use Rattle.tree_node.proofs.EachLemmas.{each_append}

-- ---- features in order

differs : (g f : Feature) → feature_cmp g f ≡ Less → equal_feature g f ≡ false
differs (feature.Int a) (feature.Int b) low = go (int_eq a b) refl
  where
    go : (e : Bool) → int_eq a b ≡ e → e ≡ false
    go true e =
        let same : feature.Int a ≡ feature.Int b = ap feature.Int ((Decides-int_eq a b).0 e) in
        let up : feature_cmp (feature.Int b) (feature.Int b) ≡ Less = subst (λ (h : Feature). feature_cmp h (feature.Int b) ≡ Less) same low in
        absurd (one_way (feature.Int b) (feature.Int b) up up)
    go false e = refl
differs (feature.Int a) (feature.Atom b) low = refl
differs (feature.Atom a) (feature.Int b) low = refl
differs (feature.Atom a) (feature.Atom b) low = go (bytes_eq a b) refl
  where
    go : (e : Bool) → bytes_eq a b ≡ e → e ≡ false
    go true e =
        let same : feature.Atom a ≡ feature.Atom b = ap feature.Atom ((bytes_eq-Decides a b).0 e) in
        let up : feature_cmp (feature.Atom b) (feature.Atom b) ≡ Less = subst (λ (h : Feature). feature_cmp h (feature.Atom b) ≡ Less) same low in
        absurd (one_way (feature.Atom b) (feature.Atom b) up up)
    go false e = refl

not_less : (f g : Feature) → feature_cmp g f ≡ Less → is_lt (feature_cmp f g) ≡ false
not_less f g low = go (feature_cmp f g) refl
  where
    go : (o : Ordering) → feature_cmp f g ≡ o → is_lt o ≡ false
    go Less e = absurd (one_way f g e low)
    go Equal e = refl
    go Greater e = refl

-- each of these features is below this one
abbrev AllBelow : Fields → Feature → Type 0
AllBelow fields f = Each (λ (g : Feature × Identifier). feature_cmp g.0 f ≡ Less) fields

goes_last : (f : Feature) (x : Identifier) (fields : Fields) → AllBelow fields f → with_field f x fields ≡ fields ++ (f, x) ∷ []
goes_last f x [] below = refl
goes_last f x ((g, y) ∷ fields) below = rw (not_less f g below.0, goes_last f x fields below.1) refl

has_none : (f : Feature) (fields : Fields) → AllBelow fields f → has_feature fields f ≡ false
has_none f [] below = refl
has_none f ((g, y) ∷ fields) below = rw (differs g f below.0, has_none f fields below.1) refl

-- each of the first is below each of the second
abbrev Under : Fields → Fields → Type 0
Under before [] = Unit {0}
Under before ((f, x) ∷ fs) = AllBelow before f × Under before fs

under_first : (before : Fields) (f : Feature) (x : Identifier) (fs : Fields) → Under before fs → Each (λ g. feature_cmp f g ≡ Less) (features_in fs) → Under (before ++ (f, x) ∷ []) fs
under_first before f x [] under low = tt
under_first before f x ((g, y) ∷ fs) under low =
    (each_append (λ (h : Feature × Identifier). feature_cmp h.0 g ≡ Less) before ((f, x) ∷ []) under.0 (low.0, tt), under_first before f x fs under.1 low.1)

under_none : (fs : Fields) → Under [] fs
under_none [] = tt
under_none (f ∷ fs) = (tt, under_none fs)

-- ---- fields that pass

mark_feature : (f : Feature) → feature_of (feature_token f) ≡ f
mark_feature (feature.Int z) = refl
mark_feature (feature.Atom a) = refl

mark_passes : (room : ℕ) (before : Fields) (f : Feature) → AllBelow before f → feature_token_fault (suc room) before (feature_token f) ≡ None
mark_passes room before (feature.Int z) below = ap (λ (b : Bool). where_so b Twice) (has_none (feature.Int z) before below)
mark_passes room before (feature.Atom a) below = ap (λ (b : Bool). where_so b Twice) (has_none (feature.Atom a) before below)

-- the names pass one after the other, behind these
abbrev pub NamesPass : Purpose → Scope → Fields → Fields → Type 0
NamesPass p scope before [] = Unit {0}
NamesPass p scope before ((f, x) ∷ fs) = (name_fault p scope before x ≡ None) × NamesPass p scope (before ++ (f, x) ∷ []) fs

marked_pass : (gs : Fields) (p : Purpose) (scope : Scope) (room : ℕ) (before : Fields) (rest : List Symbol) (behind : Option Fault) → AreAscending (features_in gs) → Under before gs → length gs ≤ room → NamesPass p scope before gs
    → check_fields p scope room before 1 (map field_with_feature gs) rest behind ≡ behind
marked_pass [] p scope room before rest behind up under le names = refl
marked_pass ((f, x) ∷ gs) p scope zero before rest behind up under le names = absurd (omega (arith, le))
marked_pass ((f, x) ∷ gs) p scope (suc room) before rest behind up under le names =
    let last = goes_last f x before under.0 in
    let more = marked_pass gs p scope room (before ++ (f, x) ∷ []) rest behind up.1 (under_first before f x gs under.1 up.0) (omega (arith, le)) names.1 in
    rw (mark_passes room before f under.0, names.0, mark_feature f, last) more

marked_behind : (gs : Fields) (before : Fields) → AreAscending (features_in gs) → Under before gs → fields_behind before 1 (map field_with_feature gs) ≡ before ++ gs
marked_behind [] before up under = sym (append-nil before)
marked_behind ((f, x) ∷ gs) before up under =
    let last = goes_last f x before under.0 in
    let more = marked_behind gs (before ++ (f, x) ∷ []) up.1 (under_first before f x gs under.1 up.0) in
    rw (mark_feature f, last) (more ∙ append_assoc before ((f, x) ∷ []) gs)

pub marked_fields : (gs : Fields) → AreAscending (features_in gs) → fields_of (map field_with_feature gs) ≡ gs
marked_fields gs up = marked_behind gs [] up (under_none gs)

pub marked_check : (gs : Fields) (p : Purpose) (scope : Scope) (rest : List Symbol) (behind : Option Fault) → AreAscending (features_in gs) → length gs ≤ 64 → NamesPass p scope [] gs
    → check_fields p scope 64 [] 1 (map field_with_feature gs) rest behind ≡ behind
marked_check gs p scope rest behind up few names = marked_pass gs p scope 64 [] rest behind up (under_none gs) few names

-- ---- names that pass

pub used_pass : (gs : Fields) (scope : Scope) (before : Fields) → Each (λ (g : Feature × Identifier). is_declared scope g.1 ≡ true) gs → NamesPass purpose.Use scope before gs
used_pass [] scope before all = tt
used_pass ((f, x) ∷ gs) scope before all = (ap (λ (b : Bool). where_not b Unbound) all.0, used_pass gs scope (before ++ (f, x) ∷ []) all.1)

-- features with the identifiers from a position on
abbrev pub with_names : ℕ → List Feature → Fields
with_names first [] = []
with_names first (f ∷ fs) = (f, name_at first) ∷ with_names (first + 1) fs

pub with_names_features : (first : ℕ) (fs : List Feature) → features_in (with_names first fs) ≡ fs
with_names_features first [] = refl
with_names_features first (f ∷ fs) = ap (λ (gs : List Feature). f ∷ gs) (with_names_features (first + 1) fs)

pub with_names_names : (first : ℕ) (fs : List Feature) → names_in (with_names first fs) ≡ names_from first (length fs)
with_names_names first [] = refl
with_names_names first (f ∷ fs) = ap (λ (xs : List Identifier). name_at first ∷ xs) (with_names_names (first + 1) fs)

pub with_names_marked : (first : ℕ) (fs : List Feature) → declared_fields first fs ≡ map field_with_feature (with_names first fs)
with_names_marked first [] = refl
with_names_marked first (f ∷ fs) = ap (λ (gs : List Field). field_with_feature (f, name_at first) ∷ gs) (with_names_marked (first + 1) fs)

pub with_names_length : (first : ℕ) (fs : List Feature) → length (with_names first fs) ≡ length fs
with_names_length first [] = refl
with_names_length first (f ∷ fs) = ap suc (with_names_length (first + 1) fs)

declared_from : (fs : List Feature) (start k : ℕ) (before : Fields) (scope : Scope) → names_in before ≡ names_from start k → start + k + length fs < 2 ^ 64 → NamesPass purpose.Declare scope before (with_names (start + k) fs)
declared_from [] start k before scope names le = tt
declared_from (f ∷ fs) start k before scope names le =
    let fresh : has_name (names_in before) (name_at (start + k)) ≡ false = rw names (next_is_new start k (omega (arith, le))) in
    let e : start + k + 1 ≡ start + (k + 1) = omega arith in
    let longer : names_in (before ++ (f, name_at (start + k)) ∷ []) ≡ names_from start (k + 1) =
    map-append (λ (g : Feature × Identifier). g.1) before ((f, name_at (start + k)) ∷ []) ∙ ap (λ (xs : List Identifier). xs ++ name_at (start + k) ∷ []) names ∙ sym (names_append start k 1) in
    (ap (λ (b : Bool). where_so b Twice) fresh, rw e (declared_from fs start (k + 1) (before ++ (f, name_at (start + k)) ∷ []) scope longer (omega (arith, le))))

pub declared_pass : (fs : List Feature) (first : ℕ) (scope : Scope) → first + length fs < 2 ^ 64 → NamesPass purpose.Declare scope [] (with_names first fs)
declared_pass fs first scope le =
    let e : first + 0 ≡ first = omega arith in
    subst (λ (n : ℕ). NamesPass purpose.Declare scope [] (with_names n fs)) e (declared_from fs first 0 [] scope refl (omega (arith, le)))
