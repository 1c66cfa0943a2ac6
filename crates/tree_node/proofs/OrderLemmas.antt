-- Fields in order.
use Rattle.std.proofs.Common.{arith, ◌≡◌, ◌≢◌, ◌∙◌, sym, ap, refl, subst, List, [], ◌∷◌, ◌⊎◌, inl, inr, true}
use Rattle.std.specs.Prelude.{Contains, ◌↔◌}
use Rattle.std.specs.Bool.{Decides}
use Rattle.std.specs.declared.cmp.Ordering.{Ordering}
use Rattle.std.specs.declared.cmp.Ordering.TheVariants.{Less, Greater}
use Rattle.std.specs.Ordering.{ordering_reverse}
use Rattle.std.proofs.lemmas.Cmp.{int_cmp_total, nat_list_cmp_total}
use Rattle.std.proofs.lemmas.Slice.Eq.{bytes_eq-Decides}
use Rattle.std.proofs.lemmas.Bool.Decides.{Decides-int_eq}
use Rattle.tree_node.specs.declared.names.VarName.{VarName}
use Rattle.tree_node.specs.declared.node.Feature.{Feature}
use Rattle.tree_node.specs.declared.node.Feature.TheVariants as feature
use Rattle.tree_node.specs.Each.{Each, AreDistinct}
use Rattle.tree_node.specs.Node.{feature_cmp, features_of, AreAscending, IsInOrder}
use Rattle.tree_node.specs.Goal.{equal_feature, equal_features}
use Rattle.tree_node.specs.Fields.{FeaturesAreDistinct, PlacesTellFeatures, OrderTellsFields}
use Rattle.tree_node.proofs.ClassLemmas.{Contains-head, Contains-tail, Contains-cons_cases}
use Rattle.std.proofs.lemmas.Bool.{and_parts}
use Rattle.tree_node.proofs.EnvLemmas.{each_more}

pub Each-member : {X : Type 0} (P : X → Type 0) (xs : List X) (y : X) → Each P xs → Contains xs y → P y
Each-member P [] y h (i, below, is) = absurd (omega arith)
Each-member P (x ∷ xs) y h at = go (λ k. Each-member P xs y h.1 k) (Contains-cons_cases x y xs at)
  where
    go : (Contains xs y → P y) → (x ≡ y) ⊎ Contains xs y → P y
    go ih (inl e) = subst P e h.0
    go ih (inr k) = ih k

-- the order goes one way
turned : (o r : Ordering) → o ≡ ordering_reverse r → o ≡ Less → r ≡ Less → ⊥
turned o r e p q = let contrary : Less ≡ Greater = sym p ∙ e ∙ ap ordering_reverse q in cc

pub one_way : (f g : Feature) → feature_cmp f g ≡ Less → feature_cmp g f ≡ Less → ⊥
one_way (feature.Int a) (feature.Int b) p q = turned _ _ (int_cmp_total.antisymm a b) p q
one_way (feature.Int a) (feature.Atom b) p q = cc
one_way (feature.Atom a) (feature.Int b) p q = cc
one_way (feature.Atom a) (feature.Atom b) p q = turned _ _ (nat_list_cmp_total.antisymm a b) p q

below_differs : (f g : Feature) → feature_cmp f g ≡ Less → f ≢ g
below_differs f g low e =
    let itself : feature_cmp f f ≡ Less = subst (λ (h : Feature). feature_cmp f h ≡ Less) (sym e) low in one_way f f itself itself

ascending_differ : (fs : List Feature) → AreAscending fs → AreDistinct fs
ascending_differ [] up = tt
ascending_differ (f ∷ fs) up = (each_more _ (λ g. f ≢ g) fs (λ g low. below_differs f g low) up.0, ascending_differ fs up.1)

pub features_are_distinct : FeaturesAreDistinct
features_are_distinct xs up = ascending_differ (features_of xs) up

-- each is before all later ones
abbrev pub Up : {X : Type 0} → (X → X → Type 0) → List X → Type 0
Up R [] = Unit {0}
Up R (x ∷ xs) = Each (R x) xs × Up R xs

up_features : (fs : List Feature) → AreAscending fs → Up (λ f g. feature_cmp f g ≡ Less) fs
up_features [] up = tt
up_features (f ∷ fs) up = (up.0, up_features fs up.1)

each_field : (P : Feature → Type 0) (xs : List (Feature × VarName)) → Each P (features_of xs) → Each (λ (p : Feature × VarName). P p.0) xs
each_field P [] h = tt
each_field P (x ∷ xs) h = (h.0, each_field P xs h.1)

up_fields : (xs : List (Feature × VarName)) → IsInOrder xs → Up (λ (p q : Feature × VarName). feature_cmp p.0 q.0 ≡ Less) xs
up_fields [] up = tt
up_fields ((f, x) ∷ xs) up = (each_field (λ g. feature_cmp f g ≡ Less) xs up.0, up_fields xs up.1)

-- where an order goes one way, such a list has its first element first, so the same members make the same list
abbrev OneWay : {X : Type 0} → (X → X → Type 0) → Type 0
OneWay {X} R = (x y : X) → R x y → R y x → ⊥

first_same : {X : Type 0} (R : X → X → Type 0) (x y : X) (xs ys : List X) → OneWay R → Up R (x ∷ xs) → Up R (y ∷ ys) → Contains (y ∷ ys) x → Contains (x ∷ xs) y → x ≡ y
first_same R x y xs ys way up on at by = go (Contains-cons_cases y x ys at) (Contains-cons_cases x y xs by)
  where
    go : (y ≡ x) ⊎ Contains ys x → (x ≡ y) ⊎ Contains xs y → x ≡ y
    go (inl e) k = sym e
    go (inr h) (inl e) = e
    go (inr h) (inr k) = absurd (way x y (Each-member (R x) xs y up.0 k) (Each-member (R y) ys x on.0 h))

behind_first : {X : Type 0} (R : X → X → Type 0) (x y z : X) (xs ys : List X) → OneWay R → Up R (x ∷ xs) → x ≡ y → Contains (y ∷ ys) z → Contains xs z → Contains ys z
behind_first R x y z xs ys way up e at k = go (Contains-cons_cases y z ys at)
  where
    go : (y ≡ z) ⊎ Contains ys z → Contains ys z
    go (inl same) =
        let low : R x z = Each-member (R x) xs z up.0 k in
        let itself : R x x = subst (R x) (sym (e ∙ same)) low in absurd (way x x itself itself)
    go (inr l) = l

pub none : {X : Type 0} (x : X) → Contains [] x → ⊥
none x (i, below, is) = omega arith

abbrev SameMembers : {X : Type 0} → List X → List X → Type 0
SameMembers {X} xs ys = (z : X) → Contains xs z ↔ Contains ys z

same_members : {X : Type 0} (R : X → X → Type 0) (xs ys : List X) → OneWay R → Up R xs → Up R ys → SameMembers xs ys → xs ≡ ys
same_members R [] [] way up on same = refl
same_members R [] (y ∷ ys) way up on same = absurd (none y ((same y).1 (Contains-head y ys)))
same_members R (x ∷ xs) [] way up on same = absurd (none x ((same x).0 (Contains-head x xs)))
same_members R (x ∷ xs) (y ∷ ys) way up on same =
    let e : x ≡ y = first_same R x y xs ys way up on ((same x).0 (Contains-head x xs)) ((same y).1 (Contains-head y ys)) in
    let rest : xs ≡ ys = same_members R xs ys way up.1 on.1 (λ z. (
      λ k. behind_first R x y z xs ys way up e ((same z).0 (Contains-tail x z xs k)) k,
      λ k. behind_first R y x z ys xs way on (sym e) ((same z).1 (Contains-tail y z ys k)) k,
    )) in
    cc

feature_decides : (f g : Feature) → Decides (equal_feature f g) (f ≡ g)
feature_decides (feature.Int a) (feature.Int b) = let d = Decides-int_eq a b in (λ h. ap feature.Int (d.0 h), λ e. d.1 (let same : a ≡ b = cc in same))
feature_decides (feature.Int a) (feature.Atom b) = (λ h. cc, λ e. cc)
feature_decides (feature.Atom a) (feature.Int b) = (λ h. cc, λ e. cc)
feature_decides (feature.Atom a) (feature.Atom b) = let d = bytes_eq-Decides a b in (λ h. ap feature.Atom (d.0 h), λ e. d.1 (let same : a ≡ b = cc in same))

to_places : (xs ys : List (Feature × VarName)) → equal_features xs ys ≡ true → features_of xs ≡ features_of ys
to_places [] [] e = refl
to_places [] (y ∷ ys) e = cc
to_places (x ∷ xs) [] e = cc
to_places ((f, x) ∷ xs) ((g, y) ∷ ys) e =
    let h = and_parts (equal_feature f g) (equal_features xs ys) e in
    let first : f ≡ g = (feature_decides f g).0 h.0 in
    let rest : features_of xs ≡ features_of ys = to_places xs ys h.1 in
    cc

from_places : (xs ys : List (Feature × VarName)) → features_of xs ≡ features_of ys → equal_features xs ys ≡ true
from_places [] [] e = refl
from_places [] (y ∷ ys) e = cc
from_places (x ∷ xs) [] e = cc
from_places ((f, x) ∷ xs) ((g, y) ∷ ys) e =
    let first : f ≡ g = cc in
    let rest : features_of xs ≡ features_of ys = cc in
    rw ((feature_decides f g).1 first) (from_places xs ys rest)

pub places_tell_features : PlacesTellFeatures
places_tell_features xs ys up on = (
  λ h. let e : features_of xs ≡ features_of ys = to_places xs ys h in
      λ f. (λ k. subst (λ (fs : List Feature). Contains fs f) e k, λ k. subst (λ (fs : List Feature). Contains fs f) (sym e) k),
  λ same. from_places xs ys (same_members _ (features_of xs) (features_of ys) one_way (up_features _ up) (up_features _ on) same),
)

pub order_tells_fields : OrderTellsFields
order_tells_fields xs ys up on same =
    same_members _ xs ys (λ p q a b. one_way p.0 q.0 a b) (up_fields xs up) (up_fields ys on) same
