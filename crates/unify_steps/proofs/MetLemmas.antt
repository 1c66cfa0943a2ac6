-- Met pairs stand under their hashes.
use Rattle.std.proofs.Common.{arith, ◌≡◌, ◌∙◌, sym, ap, refl, ℕ, ◌+◌, List, [], ◌∷◌, ◌⊎◌, inl, inr, Bool, true, false, cond, ◌&&◌, nat_eq}
use Rattle.std.specs.Prelude.{◌||◌, filter}
use Rattle.std.specs.List.{list_any}
use Rattle.std.specs.Map.{lookup}
use Rattle.std.specs.Global.{Vec}
use Rattle.std.specs.Str.{bytes_eq}
use Rattle.std.proofs.lemmas.Slice.Eq.{bytes_eq-Decides}
use Rattle.std.proofs.lemmas.Bool.{and_parts, or_cases}
use Rattle.std.proofs.lemmas.Bool.Decides.{Decides-int_eq, Decides-eqb}
use Rattle.tree_node.specs.declared.names.VarName.{VarName}
use Rattle.tree_node.specs.declared.node.Feature.{Feature}
use Rattle.tree_node.specs.declared.node.Feature.TheVariants as feature
use Rattle.tree_node.specs.declared.node.Node.{Node}
use Rattle.tree_node.specs.declared.node.Node.TheVariants as node
use Rattle.tree_node.specs.Store.{equal_var}
use Rattle.tree_node.specs.Goal.{equal_feature, equal_fields, equal_text, is_met_pair}
use Rattle.tree_node.proofs.ClassLemmas.{same_name_decides}
use Rattle.unify_steps.specs.Hash.{node_hash, pair_hash}
use Rattle.unify_steps.specs.MetPairs.{has_hash, pairs_of, IsIndexOf}

-- nodes of equal text have one hash
feature_same : (f g : Feature) → equal_feature f g ≡ true → f ≡ g
feature_same (feature.Int a) (feature.Int b) e = ap feature.Int ((Decides-int_eq a b).0 e)
feature_same (feature.Atom a) (feature.Atom b) e = ap feature.Atom ((bytes_eq-Decides a b).0 e)
feature_same (feature.Int a) (feature.Atom b) e = cc
feature_same (feature.Atom a) (feature.Int b) e = cc

fields_same : (xs ys : List (Feature × VarName)) → equal_fields xs ys ≡ true → xs ≡ ys
fields_same [] [] e = refl
fields_same [] (y ∷ ys) e = cc
fields_same (x ∷ xs) [] e = cc
fields_same ((f, x) ∷ xs) ((g, y) ∷ ys) e =
    let features : f ≡ g = feature_same f g (and_parts (equal_feature f g) (equal_var x y && equal_fields xs ys) e).0 in
    let others : (equal_var x y && equal_fields xs ys) ≡ true = (and_parts (equal_feature f g) (equal_var x y && equal_fields xs ys) e).1 in
    let vars : x ≡ y = (same_name_decides x y).0 (and_parts (equal_var x y) (equal_fields xs ys) others).0 in
    let rest : xs ≡ ys = fields_same xs ys (and_parts (equal_var x y) (equal_fields xs ys) others).1 in
    rw (features, vars, rest) refl

equal_hash : (m n : Node) → equal_text m n ≡ true → node_hash m ≡ node_hash n
equal_hash (node.Int a) (node.Int b) e = refl
equal_hash (node.Int a) (node.Atom b) e = refl
equal_hash (node.Int a) (node.Rec r ys) e = cc
equal_hash (node.Int a) (node.Proc w j q vs) e = refl
equal_hash (node.Int a) (node.Cell d) e = refl
equal_hash (node.Int a) (node.Port d) e = refl
equal_hash (node.Atom a) (node.Int b) e = refl
equal_hash (node.Atom a) (node.Atom b) e = refl
equal_hash (node.Atom a) (node.Rec r ys) e = cc
equal_hash (node.Atom a) (node.Proc w j q vs) e = refl
equal_hash (node.Atom a) (node.Cell d) e = refl
equal_hash (node.Atom a) (node.Port d) e = refl
equal_hash (node.Rec l xs) (node.Int b) e = cc
equal_hash (node.Rec l xs) (node.Atom b) e = cc
equal_hash (node.Rec l xs) (node.Rec r ys) e =
    let labels : l ≡ r = (bytes_eq-Decides l r).0 (and_parts (bytes_eq l r) (equal_fields xs ys) e).0 in
    let fields : xs ≡ ys = fields_same xs ys (and_parts (bytes_eq l r) (equal_fields xs ys) e).1 in
    rw (labels, fields) refl
equal_hash (node.Rec l xs) (node.Proc w j q vs) e = cc
equal_hash (node.Rec l xs) (node.Cell d) e = cc
equal_hash (node.Rec l xs) (node.Port d) e = cc
equal_hash (node.Proc k i p us) (node.Int b) e = refl
equal_hash (node.Proc k i p us) (node.Atom b) e = refl
equal_hash (node.Proc k i p us) (node.Rec r ys) e = cc
equal_hash (node.Proc k i p us) (node.Proc w j q vs) e = refl
equal_hash (node.Proc k i p us) (node.Cell d) e = refl
equal_hash (node.Proc k i p us) (node.Port d) e = refl
equal_hash (node.Cell c) (node.Int b) e = refl
equal_hash (node.Cell c) (node.Atom b) e = refl
equal_hash (node.Cell c) (node.Rec r ys) e = cc
equal_hash (node.Cell c) (node.Proc w j q vs) e = refl
equal_hash (node.Cell c) (node.Cell d) e = refl
equal_hash (node.Cell c) (node.Port d) e = refl
equal_hash (node.Port c) (node.Int b) e = refl
equal_hash (node.Port c) (node.Atom b) e = refl
equal_hash (node.Port c) (node.Rec r ys) e = cc
equal_hash (node.Port c) (node.Proc w j q vs) e = refl
equal_hash (node.Port c) (node.Cell d) e = refl
equal_hash (node.Port c) (node.Port d) e = refl

-- pairs of equal text, in either order, have one hash
abbrev is_pair : Node → Node → Node × Node → Bool
is_pair m n p = (equal_text p.0 m && equal_text p.1 n) || (equal_text p.0 n && equal_text p.1 m)

pair_same : (m n : Node) (p : Node × Node) → is_pair m n p ≡ true → pair_hash p.0 p.1 ≡ pair_hash m n
pair_same m n p e = go (or_cases (equal_text p.0 m && equal_text p.1 n) (equal_text p.0 n && equal_text p.1 m) e)
  where
    go : ((equal_text p.0 m && equal_text p.1 n) ≡ true) ⊎ ((equal_text p.0 n && equal_text p.1 m) ≡ true) → pair_hash p.0 p.1 ≡ pair_hash m n
    go (inl h) =
        let left = equal_hash p.0 m (and_parts (equal_text p.0 m) (equal_text p.1 n) h).0 in
        let right = equal_hash p.1 n (and_parts (equal_text p.0 m) (equal_text p.1 n) h).1 in
        rw (left, right) refl
    go (inr h) =
        let sum : node_hash n + node_hash m ≡ node_hash m + node_hash n = omega arith in
        let left = equal_hash p.0 n (and_parts (equal_text p.0 n) (equal_text p.1 m) h).0 in
        let right = equal_hash p.1 m (and_parts (equal_text p.0 n) (equal_text p.1 m) h).1 in
        rw (left, right, sum) refl

under_mark : (m n : Node) (p : Node × Node) → is_pair m n p ≡ true → has_hash (pair_hash m n) p ≡ true
under_mark m n p e = (Decides-eqb (pair_hash p.0 p.1) (pair_hash m n)).1 (pair_same m n p e)

-- a test that only marked pairs pass needs to look at these alone
any_filtered : (f g : Node × Node → Bool) → ((p : Node × Node) → f p ≡ true → g p ≡ true) → (xs : List (Node × Node)) → list_any f (filter g xs) ≡ list_any f xs
any_filtered f g h [] = refl
any_filtered f g h (x ∷ xs) = go (g x) (f x) refl refl (any_filtered f g h xs)
  where
    go : (b c : Bool) → g x ≡ b → f x ≡ c → list_any f (filter g xs) ≡ list_any f xs → list_any f (cond b (x ∷ filter g xs) (filter g xs)) ≡ (f x || list_any f xs)
    go true c p q ih = ap (λ (r : Bool). f x || r) ih
    go false true p q ih = let yes : g x ≡ true = h x q in cc
    go false false p q ih = ih ∙ sym (rw q refl)

pub found_met : (met : List (Node × Node)) (index : List (ℕ × Vec (Node × Node))) (m n : Node) → IsIndexOf met index →
    is_met_pair (pairs_of (lookup (nat_eq (pair_hash m n)) index)) m n ≡ is_met_pair met m n
found_met met index m n h =
    ap (λ (l : List (Node × Node)). list_any (is_pair m n) l) (h (pair_hash m n)) ∙ any_filtered (is_pair m n) (has_hash (pair_hash m n)) (under_mark m n) met
