-- What the three answers of a comparison mean, and that more equations keep what is told.
use Rattle.std.proofs.Common.{arith, ◌≡◌, ◌∙◌, sym, ap, refl, subst, ℕ, zero, suc, ◌+◌, ◌≤◌, List, [], ◌∷◌, ◌++◌, ◌⊎◌, inl, inr, Bool, true, false, cond, None, Some}
use Rattle.std.specs.Prelude.{Contains, Option}
use Rattle.std.specs.List.{list_any, flat_map}
use Rattle.tree_node.specs.declared.names.VarName.{VarName}
use Rattle.tree_node.specs.declared.node.Node.{Node}
use Rattle.tree_node.specs.declared.node.Node.TheVariants as node
use Rattle.tree_node.specs.Goal.{equal_text, equal_features}
use Rattle.std.specs.Str.{bytes_eq}
use Rattle.std.proofs.Common.{◌&&◌}
use Rattle.tree_node.specs.Store.{Store, Equation, Same, here, onward, IsFree, IsSound, equal_var, root_of, node_of}
use Rattle.tree_node.specs.Compare.{open_root, OpenStays, OpenListStays, AgreeingAnswer, paired, Pair, Relation, Alike, Apart, Parts, Unknown, relation_of_others, relation_of_nodes, is_one_class, relation, parts_of, pairs_within, IsReached, IsMatched, AreEqual, AreDifferent, open_name, open_roots, HasOpen, each_once, open_within, Equal, Different, Open, depth_of, is_apart, unless_open, compared, IsWithin, MoreIsWithin, EqualIsTold, EqualIsFound, DifferentIsTold, DifferentIsFound, OpenIsTold, OpenIsAll, NeverBoth, EqualStays, DifferentStays, DifferentIsNeverSame}
use Rattle.tree_node.proofs.ClassLemmas.{same_name_decides, Same-trans, Same-sym, to_root, roots_tell_classes, Contains-head, Contains-tail, Contains-cons_cases}
use Rattle.tree_node.proofs.DetLemmas.{node_is_det}
use Rattle.tree_node.proofs.ShownLemmas.{node_stays}
use Rattle.std.proofs.lemmas.List.Elements.{Contains-append_left, Contains-append_right}
use Rattle.tree_node.specs.Classes.{HasOneEach}
use Rattle.tree_node.proofs.SoundLemmas.{sound_has_one, one_names_class, root_names_class}
use Rattle.tree_node.proofs.CaseLemmas.{among_same}
use Rattle.tree_node.proofs.TextLemmas.{equal_text_refl}
use Rattle.tree_node.proofs.OrderLemmas.{none as none_in}
use Rattle.tree_node.specs.ClassPairs.{roots}
use Rattle.tree_node.proofs.BreadthLemmas.{once_from, once_has}
use Rattle.tree_node.proofs.CompareLemmas.{relation_same, open_same, tells_apart, any_from, any_has, flat_has, flat_from, reached_within, open_by_classes, classes_settle}

-- ---- one pair

others_known : (m n : Node) → relation_of_others m n ≡ Unknown → ⊥
others_known (node.Rec a xs) (node.Rec b ys) e = go (bytes_eq a b && equal_features xs ys) e
  where
    go : (b : Bool) → cond b (Parts (paired xs ys)) Apart ≡ Unknown → ⊥
    go true e = cc
    go false e = cc
others_known _ _ e = cc

nodes_known : (m n : Node) → relation_of_nodes (Some m) (Some n) ≡ Unknown → ⊥
nodes_known m n e = go (equal_text m n) e
  where
    go : (b : Bool) → cond b Alike (relation_of_others m n) ≡ Unknown → ⊥
    go true e = cc
    go false e = others_known m n e

-- a pair that is not known has an open variable
unknown_open : (s : Store) (q : Pair) → relation s q ≡ Unknown → (x : VarName) × Contains (open_roots s q) x
unknown_open s q e = go (is_one_class s q) (node_of s q.0) (node_of s q.1) e
  where
    go : (b : Bool) (o r : Option Node) → cond b Alike (relation_of_nodes o r) ≡ Unknown → (x : VarName) × Contains (cond b [] (open_name (root_of s q.0) o ++ open_name (root_of s q.1) r)) x
    go true o r k = absurd (let no : Alike ≡ Unknown = k in cc)
    go false None r k = (root_of s q.0, Contains-head (root_of s q.0) (open_name (root_of s q.1) r))
    go false (Some m) None k = (root_of s q.1, Contains-head (root_of s q.1) [])
    go false (Some m) (Some n) k = absurd (nodes_known m n k)

-- and one that has is not known
pub open_unknown : (s : Store) (q : Pair) (x : VarName) → Contains (open_roots s q) x → relation s q ≡ Unknown
open_unknown s q x h = go (is_one_class s q) (node_of s q.0) (node_of s q.1) h
  where
    go : (b : Bool) (o r : Option Node) → Contains (cond b [] (open_name (root_of s q.0) o ++ open_name (root_of s q.1) r)) x → cond b Alike (relation_of_nodes o r) ≡ Unknown
    go true o r k = absurd (none_in x k)
    go false None r k = refl
    go false (Some m) None k = refl
    go false (Some m) (Some n) k = absurd (none_in x k)

unmatched : (r : Relation) → IsMatched r → (r ≡ Unknown) ⊎ (r ≡ Apart) → ⊥
unmatched Alike h (inl e) = cc
unmatched Alike h (inr e) = cc
unmatched (Parts pairs) h (inl e) = cc
unmatched (Parts pairs) h (inr e) = cc
unmatched Apart h e = h
unmatched Unknown h e = h

matched : (r : Relation) → (r ≡ Unknown → ⊥) → (r ≡ Apart → ⊥) → IsMatched r
matched Alike f g = tt
matched (Parts pairs) f g = tt
matched Apart f g = g refl
matched Unknown f g = f refl

apart_is : (r : Relation) → is_apart r ≡ true → r ≡ Apart
apart_is Apart e = refl
apart_is Alike e = cc
apart_is (Parts pairs) e = cc
apart_is Unknown e = cc

-- ---- the answers

-- the pairs within the depth of the store
abbrev all_pairs : Store → Pair → List Pair
all_pairs s p = pairs_within s p (depth_of s)

is_there : (s : Store) (p q : Pair) → Contains (all_pairs s p) q → IsReached s p q
is_there s p q h = (depth_of s, h)

-- a truth and a list decide the answer
told_as : (s : Store) (p : Pair) (b : Bool) → list_any (tells_apart s) (all_pairs s p) ≡ b → compared s p ≡ cond b Different (unless_open (open_within s p (depth_of s)))
told_as s p b e = ap (λ (c : Bool). cond c Different (unless_open (open_within s p (depth_of s)))) e

open_lists : (xs : List VarName) → unless_open xs ≡ Equal → xs ≡ []
open_lists [] e = refl
open_lists (x ∷ xs) e = cc

open_differs : (xs : List VarName) → unless_open xs ≡ Different → ⊥
open_differs [] e = cc
open_differs (x ∷ xs) e = cc

open_is : (xs ys : List VarName) → unless_open xs ≡ Open ys → xs ≡ ys
open_is [] ys e = cc
open_is (x ∷ xs) ys e = cc

not_apart : (s : Store) (p q : Pair) → list_any (tells_apart s) (all_pairs s p) ≡ false → IsReached s p q → relation s q ≡ Apart → ⊥
not_apart s p q none h e = go (reached_within s p q h)
  where
    go : (r : Pair) × Contains (all_pairs s p) r × (roots s r ≡ roots s q) → ⊥
    go (r, k, f) =
        let yes : list_any (tells_apart s) (all_pairs s p) ≡ true = any_has (tells_apart s) (all_pairs s p) r k (ap is_apart (relation_same s r q f ∙ e)) in cc

has_open_there : (s : Store) (p q : Pair) (x : VarName) → IsReached s p q → Contains (open_roots s q) x → Contains (open_within s p (depth_of s)) x
has_open_there s p q x h c = go (reached_within s p q h)
  where
    go : (r : Pair) × Contains (all_pairs s p) r × (roots s r ≡ roots s q) → Contains (open_within s p (depth_of s)) x
    go (r, k, f) =
        once_has equal_var same_name_decides (flat_map (open_roots s) (all_pairs s p)) [] x
        (flat_has (open_roots s) (all_pairs s p) r x k (subst (λ (l : List VarName). Contains l x) (sym (open_same s r q f)) c))

there_has_open : (s : Store) (p : Pair) (x : VarName) → Contains (open_within s p (depth_of s)) x → HasOpen s p x
there_has_open s p x h = go (once_from equal_var (flat_map (open_roots s) (all_pairs s p)) [] x h)
  where
    go : Contains [] x ⊎ Contains (flat_map (open_roots s) (all_pairs s p)) x → HasOpen s p x
    go (inl k) = absurd (none_in x k)
    go (inr k) = let at = flat_from (open_roots s) (all_pairs s p) x k in (at.0, is_there s p at.0 at.1, at.2)

pub equal_is_told : EqualIsTold
equal_is_told s p e = go (list_any (tells_apart s) (all_pairs s p)) refl
  where
    go : (b : Bool) → list_any (tells_apart s) (all_pairs s p) ≡ b → AreEqual s p
    go true k = λ q h. absurd (let no : Different ≡ Equal = sym (told_as s p true k) ∙ e in cc)
    go false k = λ q h.
        let none : open_within s p (depth_of s) ≡ [] = open_lists _ (sym (told_as s p false k) ∙ e) in
        matched (relation s q) (λ u. let at = unknown_open s q u in none_in at.0 (subst (λ (l : List VarName). Contains l at.0) none (has_open_there s p q at.0 h at.1)))
        (λ a. not_apart s p q k h a)

pub different_is_told : DifferentIsTold
different_is_told s p e = go (list_any (tells_apart s) (all_pairs s p)) refl
  where
    go : (b : Bool) → list_any (tells_apart s) (all_pairs s p) ≡ b → AreDifferent s p
    go true k = let at = any_from (tells_apart s) (all_pairs s p) k in (at.0, is_there s p at.0 at.1, apart_is (relation s at.0) at.2)
    go false k = absurd (open_differs _ (sym (told_as s p false k) ∙ e))

pub different_is_found : DifferentIsFound
different_is_found s p (q, h, a) = go (list_any (tells_apart s) (all_pairs s p)) refl
  where
    go : (b : Bool) → list_any (tells_apart s) (all_pairs s p) ≡ b → compared s p ≡ Different
    go true k = told_as s p true k
    go false k = absurd (not_apart s p q k h a)

pub never_both : NeverBoth
never_both s p same (q, h, a) = unmatched (relation s q) (same q h) (inr a)

pub equal_is_found : EqualIsFound
equal_is_found s p same = go (list_any (tells_apart s) (all_pairs s p)) refl
  where
    empty : (xs : List VarName) → ((x : VarName) → Contains xs x → ⊥) → xs ≡ []
    empty [] h = refl
    empty (x ∷ xs) h = absurd (h x (Contains-head x xs))

    nothing : open_within s p (depth_of s) ≡ []
    nothing = empty _ (λ x c. let at = there_has_open s p x c in unmatched (relation s at.0) (same at.0 at.1) (inl (open_unknown s at.0 x at.2)))

    go : (b : Bool) → list_any (tells_apart s) (all_pairs s p) ≡ b → compared s p ≡ Equal
    go true k = let at = any_from (tells_apart s) (all_pairs s p) k in absurd (unmatched (relation s at.0) (same at.0 (is_there s p at.0 at.1)) (inr (apart_is (relation s at.0) at.2)))
    go false k = told_as s p false k ∙ ap unless_open nothing

pub open_is_told : OpenIsTold
open_is_told s p xs e = (not_equal, not_different, λ x. (to x, from x))
  where
    not_equal : AreEqual s p → ⊥
    not_equal same = let no : Equal ≡ Open xs = sym (equal_is_found s p same) ∙ e in cc

    not_different : AreDifferent s p → ⊥
    not_different apart = let no : Different ≡ Open xs = sym (different_is_found s p apart) ∙ e in cc

    list : (b : Bool) → list_any (tells_apart s) (all_pairs s p) ≡ b → open_within s p (depth_of s) ≡ xs
    list true k = let no : Different ≡ Open xs = sym (told_as s p true k) ∙ e in cc
    list false k = open_is _ xs (sym (told_as s p false k) ∙ e)

    to : (x : VarName) → Contains xs x → HasOpen s p x
    to x c = there_has_open s p x (subst (λ (l : List VarName). Contains l x) (sym (list (list_any (tells_apart s) (all_pairs s p)) refl)) c)

    from : (x : VarName) → HasOpen s p x → Contains xs x
    from x (q, h, c) = subst (λ (l : List VarName). Contains l x) (list (list_any (tells_apart s) (all_pairs s p)) refl) (has_open_there s p q x h c)

pub open_is_all : OpenIsAll
open_is_all s p d h =
    open_by_classes s p d ∙ (ap (λ (l : List Pair). each_once equal_var (flat_map (open_roots s) l)) (classes_settle s p d h) ∙ sym (open_by_classes s p (depth_of s)))

-- ---- more equations

abbrev HasMore : Store → Store → Type 0
HasMore s t = (e : Equation) → Contains s e → Contains t e

Same-more : {s t : Store} {x y : VarName} → HasMore s t → Same s x y → Same t x y
Same-more more here = here
Same-more more (onward (inl h) p) = onward (inl (more _ h)) (Same-more more p)
Same-more more (onward (inr h) p) = onward (inr (more _ h)) (Same-more more p)

pub more_is_within : MoreIsWithin
more_is_within s t more = record {
  same = λ x y p. Same-more more p;
  det = λ x n (y, p, h). (y, Same-more more p, more _ h);
}

one_node : (t : Store) → IsSound t → (x y : VarName) (m n : Node) → root_of t x ≡ root_of t y → node_of t x ≡ Some m → node_of t y ≡ Some n → m ≡ n
one_node t sound x y m n e f g =
    let at = node_is_det t y n g in
    sound_has_one t x m n sound (node_is_det t x m f) (at.0, Same-trans ((roots_tell_classes t x y).1 e) at.1, at.2)

-- what a pair tells stays, unless it was not known
pub relation_stays : (s t : Store) → IsSound t → IsWithin s t → (q : Pair) → (relation s q ≡ Unknown → ⊥) → relation t q ≡ relation s q
relation_stays s t sound more q known = go (is_one_class s q) refl (node_of s q.0) refl (node_of s q.1) refl known
  where
    there : (m n : Node) → node_of t q.0 ≡ Some m → node_of t q.1 ≡ Some n → (b : Bool) → is_one_class t q ≡ b → relation t q ≡ relation_of_nodes (Some m) (Some n)
    there m n f g true k =
        let same : m ≡ n = one_node t sound q.0 q.1 m n ((same_name_decides _ _).0 k) f g in
        rw (k, ← same, equal_text_refl m) refl
    there m n f g false k = rw (k, f, g) refl

    go : (b : Bool) → is_one_class s q ≡ b → (o : Option Node) → node_of s q.0 ≡ o → (r : Option Node) → node_of s q.1 ≡ r → (cond b Alike (relation_of_nodes o r) ≡ Unknown → ⊥) →
        relation t q ≡ cond b Alike (relation_of_nodes o r)
    go true k o f r g h =
        let joined : Same t q.0 q.1 = more.same _ _ ((roots_tell_classes s q.0 q.1).1 ((same_name_decides _ _).0 k)) in
        let yes : is_one_class t q ≡ true = (same_name_decides _ _).1 ((roots_tell_classes t q.0 q.1).0 joined) in
        rw yes refl
    go false k None f r g h = absurd (h refl)
    go false k (Some m) f None g h = absurd (h refl)
    go false k (Some m) f (Some n) g h = there m n (node_stays s t sound more q.0 m f) (node_stays s t sound more q.1 n g) (is_one_class t q) refl

pub matched_known : (r : Relation) → IsMatched r → r ≡ Unknown → ⊥
matched_known r h e = unmatched r h (inl e)

parts_known : (r : Relation) (q : Pair) → Contains (parts_of r) q → r ≡ Unknown → ⊥
parts_known r q h e = none_in q (subst (λ (k : Relation). Contains (parts_of k) q) e h)

-- the pairs there are pairs here, where all are matched here
pairs_back : (s t : Store) (p : Pair) → IsSound t → IsWithin s t → AreEqual s p → (d : ℕ) (q : Pair) → Contains (pairs_within t p d) q → Contains (pairs_within s p d) q
pairs_back s t p sound more same zero q h = h
pairs_back s t p sound more same (suc d) q h = go (Contains-cons_cases p q _ h) (λ r k. pairs_back s t p sound more same d r k)
  where
    go : (p ≡ q) ⊎ Contains (flat_map (λ (r : Pair). parts_of (relation t r)) (pairs_within t p d)) q → ((r : Pair) → Contains (pairs_within t p d) r → Contains (pairs_within s p d) r) → Contains (pairs_within s p (suc d)) q
    go (inl e) ih = subst (λ (r : Pair). Contains (pairs_within s p (suc d)) r) e (Contains-head p _)
    go (inr k) ih = part (flat_from (λ (r : Pair). parts_of (relation t r)) (pairs_within t p d) q k)
      where
        part : (r : Pair) × Contains (pairs_within t p d) r × Contains (parts_of (relation t r)) q → Contains (pairs_within s p (suc d)) q
        part (r, c, f) =
            let e : relation t r ≡ relation s r = relation_stays s t sound more r (matched_known (relation s r) (same r (d, ih r c))) in
            Contains-tail p q _ (flat_has (λ (r : Pair). parts_of (relation s r)) (pairs_within s p d) r q (ih r c) (subst (λ (k : Relation). Contains (parts_of k) q) e f))

pub equal_stays : EqualStays
equal_stays s t p sound more same q (d, h) =
    let back = pairs_back s t p sound more same d q h in
    let here_matched = same q (d, back) in
    subst IsMatched (sym (relation_stays s t sound more q (matched_known (relation s q) here_matched))) here_matched

-- the pairs here are pairs there
pairs_on : (s t : Store) (p : Pair) → IsSound t → IsWithin s t → (d : ℕ) (q : Pair) → Contains (pairs_within s p d) q → Contains (pairs_within t p d) q
pairs_on s t p sound more zero q h = h
pairs_on s t p sound more (suc d) q h = go (Contains-cons_cases p q _ h) (λ r k. pairs_on s t p sound more d r k)
  where
    go : (p ≡ q) ⊎ Contains (flat_map (λ (r : Pair). parts_of (relation s r)) (pairs_within s p d)) q → ((r : Pair) → Contains (pairs_within s p d) r → Contains (pairs_within t p d) r) → Contains (pairs_within t p (suc d)) q
    go (inl e) ih = subst (λ (r : Pair). Contains (pairs_within t p (suc d)) r) e (Contains-head p _)
    go (inr k) ih = part (flat_from (λ (r : Pair). parts_of (relation s r)) (pairs_within s p d) q k)
      where
        part : (r : Pair) × Contains (pairs_within s p d) r × Contains (parts_of (relation s r)) q → Contains (pairs_within t p (suc d)) q
        part (r, c, f) =
            let e : relation t r ≡ relation s r = relation_stays s t sound more r (parts_known (relation s r) q f) in
            Contains-tail p q _ (flat_has (λ (r : Pair). parts_of (relation t r)) (pairs_within t p d) r q (ih r c) (subst (λ (k : Relation). Contains (parts_of k) q) (sym e) f))

pub different_stays : DifferentStays
different_stays s t p sound more (q, (d, h), a) =
    (q, (d, pairs_on s t p sound more d q h), relation_stays s t sound more q (λ u. let no : Apart ≡ Unknown = sym a ∙ u in cc) ∙ a)

-- a pair of one class has no pair but itself
alone : (t : Store) (p : Pair) → relation t p ≡ Alike → (d : ℕ) (q : Pair) → Contains (pairs_within t p d) q → p ≡ q
alone t p e zero q h = go (Contains-cons_cases p q [] h)
  where
    go : (p ≡ q) ⊎ Contains [] q → p ≡ q
    go (inl k) = k
    go (inr k) = absurd (none_in q k)
alone t p e (suc d) q h = go (Contains-cons_cases p q _ h) (λ r k. alone t p e d r k)
  where
    go : (p ≡ q) ⊎ Contains (flat_map (λ (r : Pair). parts_of (relation t r)) (pairs_within t p d)) q → ((r : Pair) → Contains (pairs_within t p d) r → p ≡ r) → p ≡ q
    go (inl k) ih = k
    go (inr k) ih = part (flat_from (λ (r : Pair). parts_of (relation t r)) (pairs_within t p d) q k)
      where
        part : (r : Pair) × Contains (pairs_within t p d) r × Contains (parts_of (relation t r)) q → p ≡ q
        part (r, c, f) = absurd (none_in q (subst (λ (k : Relation). Contains (parts_of k) q) (ap (relation t) (sym (ih r c)) ∙ e) f))

pub different_is_never_same : DifferentIsNeverSame
different_is_never_same s t p sound more apart same = go (different_stays s t p sound more apart)
  where
    alike : relation t p ≡ Alike
    alike = let yes : is_one_class t p ≡ true = (same_name_decides _ _).1 ((roots_tell_classes t p.0 p.1).0 same) in rw yes refl

    go : AreDifferent t p → ⊥
    go (q, (d, h), a) = let no : Alike ≡ Apart = sym alike ∙ (ap (relation t) (alone t p alike d q h) ∙ a) in cc

-- ---- what is open

-- each pair that is come to tells the same there
abbrev Keeps : Store → Store → Pair → Type 0
Keeps s t p = (q : Pair) → IsReached s p q → relation t q ≡ relation s q

kept_back : (s t : Store) (p : Pair) → Keeps s t p → (d : ℕ) (q : Pair) → Contains (pairs_within t p d) q → Contains (pairs_within s p d) q
kept_back s t p keeps zero q h = h
kept_back s t p keeps (suc d) q h = go (Contains-cons_cases p q _ h) (λ r k. kept_back s t p keeps d r k)
  where
    go : (p ≡ q) ⊎ Contains (flat_map (λ (r : Pair). parts_of (relation t r)) (pairs_within t p d)) q → ((r : Pair) → Contains (pairs_within t p d) r → Contains (pairs_within s p d) r) → Contains (pairs_within s p (suc d)) q
    go (inl e) ih = subst (λ (r : Pair). Contains (pairs_within s p (suc d)) r) e (Contains-head p _)
    go (inr k) ih = part (flat_from (λ (r : Pair). parts_of (relation t r)) (pairs_within t p d) q k)
      where
        part : (r : Pair) × Contains (pairs_within t p d) r × Contains (parts_of (relation t r)) q → Contains (pairs_within s p (suc d)) q
        part (r, c, f) =
            Contains-tail p q _ (flat_has (λ (r : Pair). parts_of (relation s r)) (pairs_within s p d) r q (ih r c) (subst (λ (k : Relation). Contains (parts_of k) q) (keeps r (d, ih r c)) f))

-- a class whose name at the site is free there has no node there
class_open : (s t : Store) → IsWithin s t → (x : VarName) → node_of t (root_of s x) ≡ None → node_of t x ≡ None
class_open s t more x e =
    let same : Same t x (root_of s x) = more.same _ _ (to_root s x) in
    among_same (root_of t) t x (root_of s x) ((roots_tell_classes t x (root_of s x)).0 same) ∙ e

open_keeps : (s t : Store) (p : Pair) (xs : List VarName) → IsSound t → IsWithin s t → HasOneEach t → compared s p ≡ Open xs → ((x : VarName) → Contains xs x → IsFree t x × (node_of t x ≡ None)) → Keeps s t p
open_keeps s t p xs sound more one e free q h = go (is_one_class s q) refl (node_of s q.0) refl (node_of s q.1) refl
  where
    listed : (x : VarName) → Contains (open_roots s q) x → IsFree t x × (node_of t x ≡ None)
    listed x c = free x (((open_is_told s p xs e).2 x).1 (q, h, c))

    roots_listed : is_one_class s q ≡ false → (x : VarName) → Contains (open_root s q.0 ++ open_root s q.1) x → IsFree t x × (node_of t x ≡ None)
    roots_listed k x c = listed x (subst (λ (b : Bool). Contains (cond b [] (open_root s q.0 ++ open_root s q.1)) x) (sym k) c)

    left : is_one_class s q ≡ false → node_of s q.0 ≡ None → IsFree t (root_of s q.0) × (node_of t (root_of s q.0) ≡ None)
    left k f = roots_listed k (root_of s q.0) (Contains-append_left (open_root s q.0) (open_root s q.1) (root_of s q.0)
        (subst (λ (o : Option Node). Contains (open_name (root_of s q.0) o) (root_of s q.0)) (sym f) (Contains-head (root_of s q.0) [])))

    right : is_one_class s q ≡ false → node_of s q.1 ≡ None → IsFree t (root_of s q.1) × (node_of t (root_of s q.1) ≡ None)
    right k f = roots_listed k (root_of s q.1) (Contains-append_right (open_root s q.0) (open_root s q.1) (root_of s q.1)
        (subst (λ (o : Option Node). Contains (open_name (root_of s q.1) o) (root_of s q.1)) (sym f) (Contains-head (root_of s q.1) [])))

    -- the two are not joined there
    apart_none : is_one_class s q ≡ false → node_of s q.0 ≡ None → node_of s q.1 ≡ None → is_one_class t q ≡ true → ⊥
    apart_none k f g yes_there =
        let joined : Same t q.0 q.1 = (roots_tell_classes t q.0 q.1).1 ((same_name_decides _ _).0 yes_there) in
        let between : Same t (root_of s q.0) (root_of s q.1) = Same-trans (Same-sym (more.same _ _ (to_root s q.0))) (Same-trans joined (more.same _ _ (to_root s q.1))) in
        let one_name : root_of s q.0 ≡ root_of s q.1 = one_names_class t (root_of s q.0) (root_of s q.0) (root_of s q.1) one (here, (left k f).0) (between, (right k g).0) in
        let same_class : is_one_class s q ≡ true = (same_name_decides _ _).1 one_name in cc

    apart_some : (x y : VarName) (n : Node) → node_of t x ≡ None → node_of t y ≡ Some n → root_of t x ≡ root_of t y → ⊥
    apart_some x y n f g joined = let same : node_of t x ≡ node_of t y = among_same (root_of t) t x y joined in let both : None ≡ Some n = sym f ∙ (same ∙ g) in cc

    by_nodes : (b : Bool) → is_one_class t q ≡ b → (b ≡ true → ⊥) → (o r : Option Node) → node_of t q.0 ≡ o → node_of t q.1 ≡ r → relation_of_nodes o r ≡ Unknown → relation t q ≡ Unknown
    by_nodes true k never o r f g u = absurd (never refl)
    by_nodes false k never o r f g u = rw (k, f, g) u

    none_left : (r : Option Node) → relation_of_nodes None r ≡ Unknown
    none_left r = refl

    go : (b : Bool) → is_one_class s q ≡ b → (o : Option Node) → node_of s q.0 ≡ o → (r : Option Node) → node_of s q.1 ≡ r → relation t q ≡ relation s q
    go true k o f r g = relation_stays s t sound more q (λ u. let alike : relation s q ≡ Alike = rw k refl in let no_such : Alike ≡ Unknown = sym alike ∙ u in cc)
    go false k (Some m) f (Some n) g = relation_stays s t sound more q (λ u. nodes_known m n (sym (rw (k, f, g) refl) ∙ u))
    go false k None f None g =
        by_nodes (is_one_class t q) refl (λ e. apart_none k f g e) None (node_of t q.1) (class_open s t more q.0 (left k f).1) refl refl ∙ sym (rw (k, f) refl)
    go false k None f (Some n) g =
        by_nodes (is_one_class t q) refl (λ e. apart_some q.0 q.1 n (class_open s t more q.0 (left k f).1) (node_stays s t sound more q.1 n g) ((same_name_decides _ _).0 e)) None (node_of t q.1) (class_open s t more q.0 (left k f).1) refl refl ∙ sym (rw (k, f) refl)
    go false k (Some m) f None g =
        by_nodes (is_one_class t q) refl (λ e. apart_some q.1 q.0 m (class_open s t more q.1 (right k g).1) (node_stays s t sound more q.0 m f) (sym ((same_name_decides _ _).0 e))) (Some m) None (node_stays s t sound more q.0 m f) (class_open s t more q.1 (right k g).1) refl ∙ sym (rw (k, f, g) refl)

some_open : (s : Store) (p : Pair) → compared s p ≡ Open [] → ⊥
some_open s p e = go (list_any (tells_apart s) (all_pairs s p)) refl
  where
    never : (ys : List VarName) → unless_open ys ≡ Open [] → ⊥
    never [] k = cc
    never (y ∷ ys) k = cc

    go : (b : Bool) → list_any (tells_apart s) (all_pairs s p) ≡ b → ⊥
    go true k = let none : Different ≡ Open [] = sym (told_as s p true k) ∙ e in cc
    go false k = never _ (sym (told_as s p false k) ∙ e)

pub open_stays : OpenStays
open_stays s t p [] sound more one e free = absurd (some_open s p e)
open_stays s t p (x ∷ xs) sound more one e free = (not_equal, not_different)
  where
    keeps : Keeps s t p
    keeps = open_keeps s t p (x ∷ xs) sound more one e free

    not_different : AreDifferent t p → ⊥
    not_different (q, (d, h), a) =
        let back : IsReached s p q = (d, kept_back s t p keeps d q h) in
        (open_is_told s p (x ∷ xs) e).1 (q, back, sym (keeps q back) ∙ a)

    not_equal : AreEqual t p → ⊥
    not_equal same = go (((open_is_told s p (x ∷ xs) e).2 x).0 (Contains-head x xs))
      where
        go : HasOpen s p x → ⊥
        go (q, (d, h), c) =
            let unknown : relation t q ≡ Unknown = keeps q (d, h) ∙ open_unknown s q x c in
            unmatched (relation t q) (same q (d, pairs_on s t p sound more d q h)) (inl unknown)

-- the same pairs, in the same order
flat_same : (f g : Pair → List Pair) (qs : List Pair) → ((q : Pair) → Contains qs q → f q ≡ g q) → flat_map f qs ≡ flat_map g qs
flat_same f g [] same = refl
flat_same f g (q ∷ qs) same =
    ap (λ (l : List Pair). l ++ flat_map f qs) (same q (Contains-head q qs)) ∙ ap (λ (l : List Pair). g q ++ l) (flat_same f g qs (λ r c. same r (Contains-tail q r qs c)))

flat_names : (f g : Pair → List VarName) (qs : List Pair) → ((q : Pair) → Contains qs q → f q ≡ g q) → flat_map f qs ≡ flat_map g qs
flat_names f g [] same = refl
flat_names f g (q ∷ qs) same =
    ap (λ (l : List VarName). l ++ flat_map f qs) (same q (Contains-head q qs)) ∙ ap (λ (l : List VarName). g q ++ l) (flat_names f g qs (λ r c. same r (Contains-tail q r qs c)))

same_pairs : (s t : Store) (p : Pair) → Keeps s t p → (d : ℕ) → pairs_within t p d ≡ pairs_within s p d
same_pairs s t p keeps zero = refl
same_pairs s t p keeps (suc d) =
    ap (λ (l : List Pair). p ∷ l)
    (ap (λ (l : List Pair). flat_map (λ (q : Pair). parts_of (relation t q)) l) (same_pairs s t p keeps d)
    ∙ flat_same (λ (q : Pair). parts_of (relation t q)) (λ (q : Pair). parts_of (relation s q)) (pairs_within s p d) (λ q c. ap parts_of (keeps q (d, c))))

-- the name of a class that is open there is the one that it has here
open_named : (s t : Store) (x : VarName) → IsSound t → IsWithin s t → HasOneEach t → IsFree t (root_of s x) → node_of t (root_of s x) ≡ None → root_of t x ≡ root_of s x
open_named s t x sound more one free e =
    one_names_class t x (root_of t x) (root_of s x) one (root_names_class t x sound (class_open s t more x e)) (more.same _ _ (to_root s x), free)

same_open : (s t : Store) (p : Pair) (xs : List VarName) → IsSound t → IsWithin s t → HasOneEach t → compared s p ≡ Open xs → ((x : VarName) → Contains xs x → IsFree t x × (node_of t x ≡ None)) → (q : Pair) → IsReached s p q → open_roots t q ≡ open_roots s q
same_open s t p xs sound more one e free q h = go (is_one_class s q) refl
  where
    listed : (x : VarName) → Contains (open_roots s q) x → IsFree t x × (node_of t x ≡ None)
    listed x c = free x (((open_is_told s p xs e).2 x).1 (q, h, c))

    joined : is_one_class s q ≡ true → open_roots t q ≡ open_roots s q
    joined k =
        let there : is_one_class t q ≡ true = (same_name_decides _ _).1 ((roots_tell_classes t q.0 q.1).0 (more.same _ _ ((roots_tell_classes s q.0 q.1).1 ((same_name_decides _ _).0 k)))) in
        ap (λ (b : Bool). cond b [] (open_root t q.0 ++ open_root t q.1)) there ∙ sym (ap (λ (b : Bool). cond b [] (open_root s q.0 ++ open_root s q.1)) k)

    one_side : (x : VarName) → ((r : VarName) → Contains (open_root s x) r → IsFree t r × (node_of t r ≡ None)) → open_root t x ≡ open_root s x
    one_side x inside = side (node_of s x) refl
      where
        side : (o : Option Node) → node_of s x ≡ o → open_name (root_of t x) (node_of t x) ≡ open_name (root_of s x) (node_of s x)
        side None f =
            let at = inside (root_of s x) (subst (λ (o : Option Node). Contains (open_name (root_of s x) o) (root_of s x)) (sym f) (Contains-head (root_of s x) [])) in
            ap (λ (o : Option Node). open_name (root_of t x) o) (class_open s t more x at.1)
            ∙ (ap (λ (r : VarName). r ∷ []) (open_named s t x sound more one at.0 at.1) ∙ sym (ap (λ (o : Option Node). open_name (root_of s x) o) f))
        side (Some n) f = ap (λ (o : Option Node). open_name (root_of t x) o) (node_stays s t sound more x n f) ∙ sym (ap (λ (o : Option Node). open_name (root_of s x) o) f)

    apart : is_one_class s q ≡ false → is_one_class t q ≡ false → open_roots t q ≡ open_roots s q
    apart k l =
        let inside : (x : VarName) → Contains (open_root s q.0 ++ open_root s q.1) x → IsFree t x × (node_of t x ≡ None) = λ x c. listed x (subst (λ (b : Bool). Contains (cond b [] (open_root s q.0 ++ open_root s q.1)) x) (sym k) c) in
        let one_left : open_root t q.0 ≡ open_root s q.0 = one_side q.0 (λ r c. inside r (Contains-append_left (open_root s q.0) (open_root s q.1) r c)) in
        let one_right : open_root t q.1 ≡ open_root s q.1 = one_side q.1 (λ r c. inside r (Contains-append_right (open_root s q.0) (open_root s q.1) r c)) in
        ap (λ (b : Bool). cond b [] (open_root t q.0 ++ open_root t q.1)) l
        ∙ (ap (λ (l : List VarName). l ++ open_root t q.1) one_left ∙ (ap (λ (l : List VarName). open_root s q.0 ++ l) one_right ∙ sym (ap (λ (b : Bool). cond b [] (open_root s q.0 ++ open_root s q.1)) k)))

    -- where they are joined there alone, both have one node, so nothing is open in either store
    met : is_one_class s q ≡ false → is_one_class t q ≡ true → open_roots t q ≡ open_roots s q
    met k l = ap (λ (b : Bool). cond b [] (open_root t q.0 ++ open_root t q.1)) l ∙ sym (nothing (open_roots s q) refl)
      where
        alike : relation s q ≡ Alike
        alike = let there : relation t q ≡ Alike = rw l refl in sym (open_keeps s t p xs sound more one e free q h) ∙ there

        nothing : (l : List VarName) → open_roots s q ≡ l → l ≡ []
        nothing [] f = refl
        nothing (x ∷ l) f =
            let unknown : relation s q ≡ Unknown = open_unknown s q x (subst (λ (ys : List VarName). Contains ys x) (sym f) (Contains-head x l)) in
            absurd (let never : Alike ≡ Unknown = sym alike ∙ unknown in cc)

    by_there : is_one_class s q ≡ false → (b : Bool) → is_one_class t q ≡ b → open_roots t q ≡ open_roots s q
    by_there k true l = met k l
    by_there k false l = apart k l

    go : (b : Bool) → is_one_class s q ≡ b → open_roots t q ≡ open_roots s q
    go true k = joined k
    go false k = by_there k (is_one_class t q) refl

pub open_list_stays : OpenListStays
open_list_stays s t p xs sound more one e free = go (list_any (tells_apart t) (all_pairs t p)) refl (list_any (tells_apart s) (all_pairs s p)) refl
  where
    keeps : Keeps s t p
    keeps = open_keeps s t p xs sound more one e free

    deep : ℕ
    deep = depth_of s + depth_of t

    to_deep : open_within t p (depth_of t) ≡ open_within t p deep
    to_deep = sym (open_is_all t p deep (let h : depth_of t ≤ depth_of s + depth_of t = omega arith in h))

    across : open_within t p deep ≡ open_within s p deep
    across =
        ap (λ (l : List VarName). each_once equal_var l)
        (ap (λ (l : List Pair). flat_map (open_roots t) l) (same_pairs s t p keeps deep)
        ∙ flat_names (open_roots t) (open_roots s) (pairs_within s p deep) (λ q c. same_open s t p xs sound more one e free q (deep, c)))

    from_deep : open_within s p deep ≡ open_within s p (depth_of s)
    from_deep = open_is_all s p deep (let h : depth_of s ≤ depth_of s + depth_of t = omega arith in h)

    whole : open_within t p (depth_of t) ≡ open_within s p (depth_of s)
    whole = to_deep ∙ (across ∙ from_deep)

    go : (b : Bool) → list_any (tells_apart t) (all_pairs t p) ≡ b → (c : Bool) → list_any (tells_apart s) (all_pairs s p) ≡ c → compared t p ≡ Open xs
    go b k true l = absurd (let never : Different ≡ Open xs = sym (told_as s p true l) ∙ e in cc)
    go true k false l = absurd ((open_stays s t p xs sound more one e free).1 (let at = any_from (tells_apart t) (all_pairs t p) k in (at.0, is_there t p at.0 at.1, apart_is (relation t at.0) at.2)))
    go false k false l = told_as t p false k ∙ (ap unless_open whole ∙ (sym (told_as s p false l) ∙ e))

-- ---- stores that agree

agree_there : (s t : Store) → IsSound s → IsSound t → IsWithin s t → IsWithin t s → (q : Pair) → relation t q ≡ relation s q
agree_there s t sound known more less q = go (relation s q) refl (relation t q) refl
  where
    go : (a : Relation) → relation s q ≡ a → (b : Relation) → relation t q ≡ b → relation t q ≡ relation s q
    go Unknown e Unknown f = f ∙ sym e
    go Unknown e Alike f = sym (relation_stays t s sound less q (λ u. let no_such : Alike ≡ Unknown = sym f ∙ u in cc))
    go Unknown e Apart f = sym (relation_stays t s sound less q (λ u. let no_such : Apart ≡ Unknown = sym f ∙ u in cc))
    go Unknown e (Parts pairs) f = sym (relation_stays t s sound less q (λ u. let no_such : Parts pairs ≡ Unknown = sym f ∙ u in cc))
    go Alike e b f = relation_stays s t known more q (λ u. let no_such : Alike ≡ Unknown = sym e ∙ u in cc)
    go Apart e b f = relation_stays s t known more q (λ u. let no_such : Apart ≡ Unknown = sym e ∙ u in cc)
    go (Parts pairs) e b f = relation_stays s t known more q (λ u. let no_such : Parts pairs ≡ Unknown = sym e ∙ u in cc)

pub agreeing_answer : AgreeingAnswer
agreeing_answer s t p sound known more less = ((equal_on, equal_back), (different_on, different_back))
  where
    alike : Keeps s t p
    alike q h = agree_there s t sound known more less q

    pairs : (d : ℕ) → pairs_within t p d ≡ pairs_within s p d
    pairs d = same_pairs s t p alike d

    to_there : (q : Pair) → IsReached s p q → IsReached t p q
    to_there q (d, h) = (d, subst (λ (l : List Pair). Contains l q) (sym (pairs d)) h)

    to_here : (q : Pair) → IsReached t p q → IsReached s p q
    to_here q (d, h) = (d, subst (λ (l : List Pair). Contains l q) (pairs d) h)

    equal_on : AreEqual s p → AreEqual t p
    equal_on same q h = subst IsMatched (sym (agree_there s t sound known more less q)) (same q (to_here q h))

    equal_back : AreEqual t p → AreEqual s p
    equal_back same q h = subst IsMatched (agree_there s t sound known more less q) (same q (to_there q h))

    different_on : AreDifferent s p → AreDifferent t p
    different_on (q, h, a) = (q, to_there q h, agree_there s t sound known more less q ∙ a)

    different_back : AreDifferent t p → AreDifferent s p
    different_back (q, h, a) = (q, to_here q h, sym (agree_there s t sound known more less q) ∙ a)
