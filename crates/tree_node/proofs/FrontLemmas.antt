-- Comparing from where it stopped: the first pairs of a search, by their names, in whatever store says more.
use Rattle.std.proofs.Common.{arith, ◌≡◌, ◌∙◌, sym, ap, refl, subst, ℕ, zero, suc, ◌≤◌, ◌<◌, List, [], ◌∷◌, ◌++◌, length, map, take, drop, get_or, drop-cons, append_assoc, Bool, true, false, ◌||◌, cond}
use Rattle.std.specs.Prelude.{Contains}
use Rattle.std.specs.List.{list_any, flat_map}
use Rattle.std.proofs.Math.Bool.{or-true}
use Rattle.std.proofs.Math.Seq.{take-suc, take-append_seam}
use Rattle.std.proofs.lemmas.List.{map-append, length-append, take-append-drop, append-nil}
use Rattle.tree_node.specs.declared.names.VarName.{VarName}
use Rattle.tree_node.specs.Each.{Each}
use Rattle.tree_node.specs.Store.{Store, IsSound, equal_var, root_of}
use Rattle.tree_node.specs.Compare.{Pair, Relation, Alike, Apart, Parts, Unknown, relation, parts_of, IsMatched, open_roots, each_once, with_new, is_apart, IsWithin}
use Rattle.tree_node.specs.ClassPairs.{equal_pair, roots, leads_to, all_new}
use Rattle.tree_node.proofs.BreadthLemmas.{IsFront, IsIn, IsQueue, Same, front_take, front_length, all_new_front, all_new_append, all_there, all_new_has, led}
use Rattle.tree_node.proofs.ClassLemmas.{Same-root, to_root, Contains-head, same_name_decides}
use Rattle.tree_node.proofs.CompareLemmas.{IsSearch, search_begins, search_goes_on, same_pair_decides, relation_roots}
use Rattle.tree_node.proofs.CompareLaws.{relation_stays, matched_known, open_unknown}
use Rattle.tree_node.proofs.ShownLemmas.{within_on}

-- ---- lists

-- of what stands in a list, what holds of each of it
pub each_of : {X : Type 0} (eq : X → X → Bool) → Same eq → (P : X → Type 0) (xs : List X) (x : X) → IsIn eq xs x → Each P xs → P x
each_of eq same P [] x h k = cc
each_of eq same P (y ∷ xs) x h k = go (eq x y) refl h (λ q. each_of eq same P xs x q k.1)
  where
    go : (b : Bool) → eq x y ≡ b → (b || list_any (eq x) xs) ≡ true → (IsIn eq xs x → P x) → P x
    go true e q ih = subst P (sym ((same x y).0 e)) k.0
    go false e q ih = ih q

-- of the part of a flat list that comes from one element
pub each_left : {X : Type 0} (P : X → Type 0) (xs ys : List X) → Each P (xs ++ ys) → Each P xs × Each P ys
each_left P [] ys h = (tt, h)
each_left P (x ∷ xs) ys h = let both = each_left P xs ys h.1 in ((h.0, both.0), both.1)

flat_part : {X Y : Type 0} (eq : X → X → Bool) → Same eq → (P : Y → Type 0) (f : X → List Y) (xs : List X) (x : X) → IsIn eq xs x → Each P (flat_map f xs) → Each P (f x)
flat_part eq same P f [] x h k = cc
flat_part eq same P f (y ∷ xs) x h k = go (eq x y) refl h (λ q. flat_part eq same P f xs x q (each_left P (f y) (flat_map f xs) k).1)
  where
    go : (b : Bool) → eq x y ≡ b → (b || list_any (eq x) xs) ≡ true → (IsIn eq xs x → Each P (f x)) → Each P (f x)
    go true e q ih = subst (λ (z : _). Each P (f z)) (sym ((same x y).0 e)) (each_left P (f y) (flat_map f xs) k).0
    go false e q ih = ih q

-- names that are mapped, each once
module _ {X Y : Type 0} (eq : X → X → Bool) (es : Y → Y → Bool) (same : Same eq) (also : Same es) (f : X → Y) where
  in_map : (xs : List X) (x : X) → IsIn eq xs x → IsIn es (map f xs) (f x)
  in_map [] x h = h
  in_map (y ∷ ys) x h = go (eq x y) refl h (in_map ys x)
    where
      go : (b : Bool) → eq x y ≡ b → (b || list_any (eq x) ys) ≡ true → (IsIn eq ys x → IsIn es (map f ys) (f x)) → (es (f x) (f y) || list_any (es (f x)) (map f ys)) ≡ true
      go true e k ih = ap (λ (c : Bool). c || list_any (es (f x)) (map f ys)) ((also (f x) (f y)).1 (ap f ((same x y).0 e)))
      go false e k ih = ap (λ (c : Bool). es (f x) (f y) || c) (ih k) ∙ or-true (es (f x) (f y))

  in_once : (ys : List Y) (y : Y) → IsIn es ys y → IsIn es (each_once es ys) y
  in_once ys y h = each_of es also (IsIn es (each_once es ys)) ys y h (all_new_has es also [] ys)

  with_new_maps : (xs : List X) (x : X) → each_once es (map f (with_new eq xs x)) ≡ with_new es (each_once es (map f xs)) (f x)
  with_new_maps xs x = go (list_any (eq x) xs) refl
    where
      go : (b : Bool) → list_any (eq x) xs ≡ b → each_once es (map f (cond b xs (xs ++ x ∷ []))) ≡ with_new es (each_once es (map f xs)) (f x)
      go true e = sym (ap (λ (c : Bool). cond c (each_once es (map f xs)) (each_once es (map f xs) ++ f x ∷ [])) (in_once (map f xs) (f x) (in_map xs x e)))
      go false e = ap (each_once es) (map-append f xs (x ∷ [])) ∙ all_new_append es [] (map f xs) (f x ∷ [])

  pub once_maps : (xs ys : List X) → each_once es (map f (all_new eq xs ys)) ≡ all_new es (each_once es (map f xs)) (map f ys)
  once_maps xs [] = refl
  once_maps xs (y ∷ ys) = once_maps (with_new eq xs y) ys ∙ ap (λ (l : List Y). all_new es l (map f ys)) (with_new_maps xs y)

-- what an element that was looked at leads to is in the queue already
queue_again : {X : Type 0} (eq : X → X → Bool) (f : X → List X) (q : X) → Same eq → (queue : List X) (at : ℕ) (x : X) → IsQueue eq f q queue at → IsIn eq (take at queue) x → all_new eq queue (f x) ≡ queue
queue_again eq f q same queue at x h k =
    all_there eq queue (f x) (subst (λ (l : List _). Each (IsIn eq l) (f x)) (sym h.led)
    (flat_part eq same (IsIn eq (led eq f q (take at queue))) f (take at queue) x k (all_new_has eq same [] (q ∷ flat_map f (take at queue))).1))

-- the element behind the first ones
get_seam : {X : Type 0} (xs : List X) (x : X) (ys : List X) → get_or (xs ++ x ∷ ys) (length xs) x ≡ x
get_seam [] x ys = refl
get_seam (y ∷ xs) x ys = get_seam xs x ys

-- ---- classes of later

-- the classes that these pairs have now, each once
abbrev pub classes_now : Store → List Pair → List Pair
classes_now t queue = each_once equal_pair (map (roots t) queue)

root_again : (s t : Store) → IsWithin s t → (x : VarName) → root_of t (root_of s x) ≡ root_of t x
root_again s t more x = sym (Same-root (more.same x (root_of s x) (to_root s x)))

roots_again : (s t : Store) → IsWithin s t → (q : Pair) → roots t (roots s q) ≡ roots t q
roots_again s t more q = rw (root_again s t more q.0, root_again s t more q.1) refl

pub all_again : (s t : Store) → IsWithin s t → (ps : List Pair) → map (roots t) (map (roots s) ps) ≡ map (roots t) ps
all_again s t more [] = refl
all_again s t more (p ∷ ps) = ap (λ (r : Pair). r ∷ map (roots t) (map (roots s) ps)) (roots_again s t more p) ∙ ap (λ (l : List Pair). roots t p ∷ l) (all_again s t more ps)

-- ---- one pair of the front is looked at

-- a pair of names is looked at: what it leads to goes behind, by whatever names it has in the classes of this store
module _ (t : Store) (p : Pair) (queue : List Pair) (hanging : List VarName) (at : ℕ) (c : Pair) (names : List Pair)
    (search : IsSearch t p (classes_now t queue) hanging (length (classes_now t (take at queue)))) (inside : at < length queue) (is : c ≡ get_or queue at c)
    (together : is_apart (relation t (roots t c)) ≡ false) (leads : map (roots t) names ≡ leads_to t (roots t c)) where
  abbrev x : Pair
  x = roots t c

  abbrev classes : List Pair
  classes = classes_now t queue

  abbrev first : List Pair
  first = classes_now t (take at queue)

  abbrev more : List Pair
  more = all_new equal_pair queue names

  taken : take (suc at) more ≡ take at queue ++ c ∷ []
  taken =
      front_take (suc at) queue more (all_new_front equal_pair queue names) (omega (arith, inside))
      ∙ (take-suc queue at c inside ∙ ap (λ (r : Pair). take at queue ++ r ∷ []) (sym is))

  split : queue ≡ take at queue ++ c ∷ drop (suc at) queue
  split = sym (take-append-drop at queue) ∙ ap (λ (l : List Pair). take at queue ++ l) (drop-cons queue at c inside ∙ ap (λ (r : Pair). r ∷ drop (suc at) queue) (sym is))

  pub wide : classes_now t more ≡ all_new equal_pair classes (leads_to t x)
  wide = once_maps equal_pair equal_pair same_pair_decides same_pair_decides (roots t) queue names ∙ ap (all_new equal_pair classes) leads

  counted : classes_now t (take (suc at) more) ≡ with_new equal_pair first x
  counted = ap (classes_now t) taken ∙ (ap (each_once equal_pair) (map-append (roots t) (take at queue) (c ∷ [])) ∙ all_new_append equal_pair [] (map (roots t) (take at queue)) (x ∷ []))

  whole : classes ≡ all_new equal_pair (with_new equal_pair first x) (map (roots t) (drop (suc at) queue))
  whole =
      ap (classes_now t) split
      ∙ (ap (each_once equal_pair) (map-append (roots t) (take at queue) (c ∷ drop (suc at) queue)) ∙ all_new_append equal_pair [] (map (roots t) (take at queue)) (x ∷ map (roots t) (drop (suc at) queue)))

  in_whole : IsFront (with_new equal_pair first x) classes
  in_whole = subst (IsFront (with_new equal_pair first x)) (sym whole) (all_new_front equal_pair (with_new equal_pair first x) (map (roots t) (drop (suc at) queue)))

  pub steps_on : IsSearch t p (classes_now t more) (all_new equal_var hanging (open_roots t x)) (length (classes_now t (take (suc at) more)))
  steps_on =
      subst (λ (l : List Pair). IsSearch t p l (all_new equal_var hanging (open_roots t x)) (length (classes_now t (take (suc at) more)))) (sym wide)
      (subst (λ (l : List Pair). IsSearch t p (all_new equal_pair classes (leads_to t x)) (all_new equal_var hanging (open_roots t x)) (length l)) (sym counted) (go (list_any (equal_pair x) first) refl in_whole))
    where
      go : (b : Bool) → list_any (equal_pair x) first ≡ b → IsFront (cond b first (first ++ x ∷ [])) classes →
          IsSearch t p (all_new equal_pair classes (leads_to t x)) (all_new equal_var hanging (open_roots t x)) (length (cond b first (first ++ x ∷ [])))
      go true met (rest, e) =
          subst (λ (l : List Pair). IsSearch t p l (all_new equal_var hanging (open_roots t x)) (length first)) (sym again)
          (subst (λ (l : List VarName). IsSearch t p classes l (length first)) (sym known) search)
        where
          here : take (length first) classes ≡ first
          here = ap (take (length first)) e ∙ take-append_seam first rest

          stands : IsIn equal_pair (take (length first) classes) x
          stands = subst (λ (l : List Pair). IsIn equal_pair l x) (sym here) met

          again : all_new equal_pair classes (leads_to t x) ≡ classes
          again = queue_again equal_pair (leads_to t) (roots t p) same_pair_decides classes (length first) x search.queued stands

          -- its open variables are there too
          known : all_new equal_var hanging (open_roots t x) ≡ hanging
          known = all_there equal_var hanging (open_roots t x) (subst (λ (l : List VarName). Each (IsIn equal_var l) (open_roots t x)) (sym search.open_ones)
              (flat_part equal_pair same_pair_decides (IsIn equal_var (each_once equal_var (flat_map (open_roots t) (take (length first) classes)))) (open_roots t) (take (length first) classes) x stands
              (all_new_has equal_var same_name_decides [] (flat_map (open_roots t) (take (length first) classes)))))
      go false new (rest, e) =
          subst (λ (n : ℕ). IsSearch t p (all_new equal_pair classes (leads_to t x)) (all_new equal_var hanging (open_roots t x)) n) long
          (search_goes_on t p classes hanging (length first) x search within got together)
        where
          long : suc (length first) ≡ length (first ++ x ∷ [])
          long = let h = length-append first (x ∷ []) in omega (arith, h)

          within : length first < length classes
          within = let h = front_length (first ++ x ∷ []) classes (rest, e) in omega (arith, h, long)

          got : x ≡ get_or classes (length first) x
          got = sym (ap (λ (l : List Pair). get_or l (length first) x) (e ∙ append_assoc first (x ∷ []) rest) ∙ get_seam first x rest)

-- ---- what is kept

pub matched_together : (r : Relation) → IsMatched r → is_apart r ≡ false
matched_together Alike h = refl
matched_together (Parts ps) h = refl
matched_together Apart h = absurd h
matched_together Unknown h = absurd h

matched_closed : (t : Store) (q : Pair) → IsMatched (relation t q) → open_roots t q ≡ []
matched_closed t q h = go (open_roots t q) refl
  where
    go : (l : List VarName) → open_roots t q ≡ l → l ≡ []
    go [] e = refl
    go (x ∷ xs) e = absurd (matched_known (relation t q) h (open_unknown t q x (subst (λ (l : List VarName). Contains l x) (sym e) (Contains-head x xs))))

-- whatever more is said, the first pairs are matched, and the search may go on behind them
pub record IsKept (s : Store) (p : Pair) (queue : List Pair) (at : ℕ) : Type 0 where
  pub within : at ≤ length queue
  pub later : (t : Store) → IsSound t → IsWithin s t → IsSearch t p (classes_now t queue) [] (length (classes_now t (take at queue)))

pub kept_begins : (s : Store) (p : Pair) → IsKept s p (roots s p ∷ []) 0
kept_begins s p = record { within = omega arith; later = λ t sound more. subst (λ (r : Pair). IsSearch t p (r ∷ []) [] 0) (sym (roots_again s t more p)) (search_begins t p) }

pub kept_stays : (s r : Store) (p : Pair) (queue : List Pair) (at : ℕ) → IsWithin s r → IsKept s p queue at → IsKept r p queue at
kept_stays s r p queue at grows k = record { within = k.within; later = λ t sound more. k.later t sound (within_on s r t grows more) }

pub kept_goes_on : (s : Store) (p : Pair) (queue : List Pair) (at : ℕ) (c : Pair) → IsKept s p queue at → at < length queue → c ≡ get_or queue at c → IsMatched (relation s c) →
    IsKept s p (all_new equal_pair queue (leads_to s c)) (suc at)
kept_goes_on s p queue at c k inside is matched = record { within = long; later = later }
  where
    long : suc at ≤ length (all_new equal_pair queue (leads_to s c))
    long = let h = front_length queue (all_new equal_pair queue (leads_to s c)) (all_new_front equal_pair queue (leads_to s c)) in omega (arith, h, inside)

    later : (t : Store) → IsSound t → IsWithin s t → IsSearch t p (classes_now t (all_new equal_pair queue (leads_to s c))) [] (length (classes_now t (take (suc at) (all_new equal_pair queue (leads_to s c)))))
    later t sound more =
        subst (λ (l : List VarName). IsSearch t p (classes_now t (all_new equal_pair queue (leads_to s c))) l (length (classes_now t (take (suc at) (all_new equal_pair queue (leads_to s c))))))
        (ap (all_new equal_var []) (matched_closed t (roots t c) there))
        (steps_on t p queue [] at c (leads_to s c) (k.later t sound more) inside is (matched_together (relation t (roots t c)) there) leads)
      where
        rel : relation t (roots t c) ≡ relation s c
        rel = relation_roots t c ∙ relation_stays s t sound more c (matched_known (relation s c) matched)

        there : IsMatched (relation t (roots t c))
        there = subst IsMatched (sym rel) matched

        leads : map (roots t) (leads_to s c) ≡ leads_to t (roots t c)
        leads = all_again s t more (parts_of (relation s c)) ∙ ap (λ (r : Relation). map (roots t) (parts_of r)) (sym rel)
