-- A search that looks at pairs by whatever names they have: it comes to no more pairs than there are classes behind those it began with, and
-- answers as one by classes does.
use Rattle.std.proofs.Common.{arith, ◌≡◌, ◌∙◌, sym, ap, refl, subst, ℕ, suc, ◌+◌, ◌-◌, ◌≤◌, ◌<◌, List, [], ◌∷◌, ◌++◌, length, map, take, get_or, length-append, append_assoc, Bool, true, false, ◌||◌, cond}
use Rattle.std.specs.Prelude.{Contains}
use Rattle.std.specs.Cmp.{IsEquivalence, decided}
use Rattle.std.specs.List.{list_any, IsDistinct}
use Rattle.std.proofs.lemmas.List.{append-nil, take_all}
use Rattle.std.proofs.lemmas.List.Elements.{Contains-append_left, Contains-get_or}
use Rattle.std.proofs.lemmas.List.Folds.{list_any-append}
use Rattle.std.proofs.lemmas.Map.Keys.{IsDistinct-push}
use Rattle.std.proofs.lemmas.Map.Made.{length-le_from_is_member}
use Rattle.tree_node.specs.declared.names.VarName.{VarName}
use Rattle.tree_node.specs.Each.{Each}
use Rattle.tree_node.specs.Store.{Store, equal_var}
use Rattle.tree_node.specs.Compare.{Pair, relation, parts_of, open_roots, with_new, is_apart, depth_of, compared, unless_open, Different, IsWithin}
use Rattle.tree_node.specs.ClassPairs.{equal_pair, roots, leads_to, all_new}
use Rattle.tree_node.proofs.BreadthLemmas.{IsFront, IsIn, all_new_has, each_in_front, once_has}
use Rattle.tree_node.proofs.EachLemmas.{each_append}
use Rattle.tree_node.proofs.CompareLemmas.{IsSearch, search_among, search_classes_apart, search_ends, classes_within, same_pair_decides, map_has}
use Rattle.tree_node.proofs.FrontLemmas.{classes_now, steps_on, wide, all_again, each_of}

-- what stands behind the first pairs: pairs of classes that the comparison comes to, each once
pub record IsAdded (t : Store) (p : Pair) (first queue : List Pair) : Type 0 where
  pub rest : List Pair
  pub is : queue ≡ first ++ rest
  pub apart : IsDistinct equal_pair rest
  pub among : Each (IsIn equal_pair (classes_within t p (depth_of t))) rest

pub added_begins : (t : Store) (p : Pair) (first : List Pair) → IsAdded t p first first
unfolding IsDistinct
added_begins t p first = record { rest = []; is = sym (append-nil first); apart = tt; among = tt }

added_one : (t : Store) (p : Pair) (first queue : List Pair) (y : Pair) → IsAdded t p first queue → IsIn equal_pair (classes_within t p (depth_of t)) y → IsAdded t p first (with_new equal_pair queue y)
added_one t p first queue y a h = go (list_any (equal_pair y) queue) refl
  where
    not_there : (b : Bool) → (b || list_any (equal_pair y) a.rest) ≡ false → list_any (equal_pair y) a.rest ≡ false
    not_there true e = cc
    not_there false e = e

    go : (b : Bool) → list_any (equal_pair y) queue ≡ b → IsAdded t p first (cond b queue (queue ++ y ∷ []))
    go true e = a
    go false e = record {
      rest = a.rest ++ y ∷ [];
      is = ap (λ (l : List Pair). l ++ y ∷ []) a.is ∙ append_assoc first a.rest (y ∷ []);
      apart = IsDistinct-push (decided equal_pair same_pair_decides) a.rest y a.apart
          (not_there (list_any (equal_pair y) first) (sym (list_any-append (equal_pair y) first a.rest) ∙ (ap (list_any (equal_pair y)) (sym a.is) ∙ e)));
      among = each_append (IsIn equal_pair (classes_within t p (depth_of t))) a.rest (y ∷ []) a.among (h, tt);
    }

added_all : (t : Store) (p : Pair) (first queue ys : List Pair) → IsAdded t p first queue → Each (IsIn equal_pair (classes_within t p (depth_of t))) ys → IsAdded t p first (all_new equal_pair queue ys)
added_all t p first queue [] a h = a
added_all t p first queue (y ∷ ys) a h = added_all t p first (with_new equal_pair queue y) ys (added_one t p first queue y a h.0) h.1

-- so many pairs at most
abbrev pub most_pairs : Store → Pair → List Pair → ℕ
most_pairs t p first = length first + length (classes_within t p (depth_of t))

added_few : (t : Store) (p : Pair) (first queue : List Pair) → IsAdded t p first queue → length queue ≤ most_pairs t p first
added_few t p first queue a =
    let long : length queue ≡ length first + length a.rest = ap length a.is ∙ length-append first a.rest in
    let few : length a.rest ≤ length (classes_within t p (depth_of t)) =
    length-le_from_is_member (decided equal_pair same_pair_decides) a.rest (classes_within t p (depth_of t)) a.apart
    (λ (c : Pair) h. each_of equal_pair same_pair_decides (IsIn equal_pair (classes_within t p (depth_of t))) a.rest c h a.among) in
    omega (arith, long, few)

-- the first pairs are looked at, by whatever names
pub record IsLooked (t : Store) (p : Pair) (first queue : List Pair) (hanging : List VarName) (at : ℕ) : Type 0 where
  pub search : IsSearch t p (classes_now t queue) hanging (length (classes_now t (take at queue)))
  pub added : IsAdded t p first queue

pub within_itself : (t : Store) → IsWithin t t
within_itself t = record { same = λ x y h. h; det = λ x n h. h }

-- one more is looked at
pub looked_on : (t : Store) (p : Pair) (first queue : List Pair) (hanging : List VarName) (at : ℕ) (c : Pair) → IsLooked t p first queue hanging at → at < length queue → c ≡ get_or queue at c → is_apart (relation t (roots t c)) ≡ false →
    IsLooked t p first (all_new equal_pair queue (leads_to t (roots t c))) (all_new equal_var hanging (open_roots t (roots t c))) (suc at)
looked_on t p first queue hanging at c h inside is together = record { search = on; added = added_all t p first queue parts h.added known }
  where
    parts : List Pair
    parts = leads_to t (roots t c)

    leads : map (roots t) parts ≡ parts
    leads = all_again t t (within_itself t) (parts_of (relation t (roots t c)))

    on : IsSearch t p (classes_now t (all_new equal_pair queue parts)) (all_new equal_var hanging (open_roots t (roots t c))) (length (classes_now t (take (suc at) (all_new equal_pair queue parts))))
    on = steps_on t p queue hanging at c parts h.search inside is together leads

    there : Each (IsIn equal_pair (classes_now t (all_new equal_pair queue parts))) parts
    there = subst (λ (l : List Pair). Each (IsIn equal_pair l) parts) (sym (wide t p queue hanging at c parts h.search inside is together leads)) (all_new_has equal_pair same_pair_decides (classes_now t queue) parts)

    known : Each (IsIn equal_pair (classes_within t p (depth_of t))) parts
    known = each_in_front equal_pair _ (classes_within t p (depth_of t)) parts (search_among t p _ _ _ on) there

-- a pair that is apart
pub looked_apart : (t : Store) (p : Pair) (first queue : List Pair) (hanging : List VarName) (at : ℕ) (c : Pair) → IsLooked t p first queue hanging at → at < length queue → c ≡ get_or queue at c → is_apart (relation t (roots t c)) ≡ true → compared t p ≡ Different
looked_apart t p first queue hanging at c h inside is apart =
    let there : Contains queue c = subst (λ (r : Pair). Contains queue r) (sym is) (Contains-get_or queue at c inside) in
    search_classes_apart t p (classes_now t queue) hanging _ (roots t c) h.search (once_has equal_pair same_pair_decides (map (roots t) queue) [] (roots t c) (map_has (roots t) queue c there)) apart

-- all pairs are looked at
pub looked_ends : (t : Store) (p : Pair) (first queue : List Pair) (hanging : List VarName) (at : ℕ) → IsLooked t p first queue hanging at → length queue ≤ at → compared t p ≡ unless_open hanging
looked_ends t p first queue hanging at h past =
    let whole : take at queue ≡ queue = take_all at queue past in
    let same : length (classes_now t (take at queue)) ≡ length (classes_now t queue) = ap (λ (l : List Pair). length (classes_now t l)) whole in
    search_ends t p (classes_now t queue) hanging _ h.search (omega (arith, same))

-- fewer are left
pub looked_left : (t : Store) (p : Pair) (first queue : List Pair) (at : ℕ) → IsAdded t p first queue → at < length queue → most_pairs t p first - suc at < most_pairs t p first - at
looked_left t p first queue at a inside = let few = added_few t p first queue a in omega (arith, few, inside)
