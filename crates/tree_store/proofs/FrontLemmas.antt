-- A comparison that goes on from where it stopped.
use Rattle.std.proofs.Common.{arith, ◌≡◌, ◌∙◌, sym, ap, refl, subst, ℕ, suc, ◌+◌, ◌<◌, ◌≤◌, ◌-◌, List, [], ◌∷◌, ◌++◌, length, map, take, reverse, Bool, true, false, None, Some}
use Rattle.std.specs.Prelude.{slice_get}
use Rattle.std.specs.Map.{lookup}
use Rattle.std.proofs.Math.Seq.{take-append_seam}
use Rattle.std.proofs.lemmas.List.{reverse-append}
use Rattle.std.proofs.lemmas.Option.{slice_get_within, slice_get-get_or, get_or_from_slice_get}
use Rattle.tree_node.specs.declared.names.VarName.{VarName}
use Rattle.tree_node.specs.Store.{Equation, Store, IsSound, equal_var, root_of}
use Rattle.tree_node.specs.Compare.{Pair, Relation, relation, parts_of, with_new, IsMatched, IsWithin, is_apart, open_roots, compared, unless_open, Different}
use Rattle.tree_node.specs.ClassPairs.{equal_pair, roots, leads_to, all_new}
use Rattle.tree_node.proofs.SoundLemmas.{root_root}
use Rattle.tree_node.proofs.CompareLemmas.{relation_roots}
use Rattle.tree_node.proofs.CompareLaws.{more_is_within}
use Rattle.tree_node.proofs.ClassLemmas.{Contains-tail}
use Rattle.tree_node.proofs.BreadthLemmas.{front_length, front_take, all_new_front}
use Rattle.tree_node.proofs.FrontLemmas.{IsKept, kept_begins, kept_goes_on, kept_stays, matched_together}
use Rattle.tree_node.proofs.LookedLemmas.{IsAdded, added_begins, IsLooked, looked_on, looked_apart, looked_ends, looked_left, most_pairs, within_itself}
use Rattle.tree_store.specs.Front.{IsMatchedFront, begins, goes_on, stays, AreFronts, IsAtUnmatched, HasGoneOn}
use Rattle.tree_store.specs.declared.front.Front.{Front}
use Rattle.tree_store.proofs.SearchLemmas.{IsNextPair}

-- the variable that stands for a class stands for its own
pub class_named : (s : Store) (l x : VarName) → l ≡ root_of s x → root_of s l ≡ l
class_named s l x e = ap (root_of s) e ∙ (root_root s x ∙ sym e)

pub front_kept : (p : Pair) {s : Store} {queue : List Pair} {at : ℕ} → IsMatchedFront p s queue at → IsKept s p queue at
front_kept p (begins {s}) = kept_begins s p
front_kept p (goes_on {s} {queue} {at} c h is matched) = kept_goes_on s p queue at c (front_kept p h) (slice_get_within queue at c is) (sym (get_or_from_slice_get queue at c c is)) matched
front_kept p (stays {s} {t} {queue} {at} h more) = kept_stays s t p queue at more (front_kept p h)

-- so the search goes on behind it
pub front_looked : (s : Store) (p : Pair) (queue : List Pair) (at : ℕ) → IsSound s → IsMatchedFront p s queue at → IsLooked s p queue queue [] at
front_looked s p queue at sound h = record { search = (front_kept p h).later s sound (within_itself s); added = added_begins s p queue }

-- the classes of the next pair
pub record AreClassesOf (s : Store) (c : Pair) (l r : VarName) : Type 0 where
  pub left : l ≡ root_of s c.0
  pub right : r ≡ root_of s c.1

classes_are : (s : Store) (c : Pair) (l r : VarName) → AreClassesOf s c l r → ◌≡◌ {A = Pair} (l, r) (roots s c)
classes_are s c l r h = ap (λ (z : VarName). (z, r)) h.left ∙ ap (λ (z : VarName). (root_of s c.0, z)) h.right

-- one more pair matches
pub front_on : (s : Store) (p : Pair) (queue after : List Pair) (at : ℕ) (c : Pair) (l r : VarName) → IsMatchedFront p s queue at → IsNextPair queue at c → AreClassesOf s c l r → IsMatched (relation s (l, r)) →
    after ≡ all_new equal_pair queue (leads_to s (l, r)) → IsMatchedFront p s after (at + 1)
front_on s p queue after at c l r h next classes matched e =
    let same = classes_are s c l r classes in
    let here : relation s (l, r) ≡ relation s c = ap (relation s) same ∙ relation_roots s c in
    let led : leads_to s (l, r) ≡ leads_to s c = ap (λ (k : Relation). map (roots s) (parts_of k)) here in
    let is : slice_get queue at ≡ Some c = slice_get-get_or queue at c next.within ∙ ap Some (sym next.is) in
    let one : suc at ≡ at + 1 = omega arith in
    subst (λ (n : ℕ). IsMatchedFront p s after n) one
    (subst (λ (l : List Pair). IsMatchedFront p s l (suc at)) (sym (e ∙ ap (all_new equal_pair queue) led)) (goes_on c h is (subst IsMatched here matched)))

-- the next pair does not match
pub at_unmatched : (s : Store) (queue after : List Pair) (at : ℕ) (c : Pair) (l r : VarName) → IsNextPair queue at c → AreClassesOf s c l r → (IsMatched (relation s (l, r)) → ⊥) → after ≡ queue → IsAtUnmatched s after at
at_unmatched s queue after at c l r next classes unmatched e d is matched =
    let here : relation s (l, r) ≡ relation s c = ap (relation s) (classes_are s c l r classes) ∙ relation_roots s c in
    let found : slice_get queue at ≡ Some c = slice_get-get_or queue at c next.within ∙ ap Some (sym next.is) in
    let same : d ≡ c = let both : Some d ≡ Some c = sym is ∙ (ap (λ (ps : List Pair). slice_get ps at) e ∙ found) in cc in
    unmatched (subst IsMatched (ap (relation s) same ∙ sym here) matched)

-- or there is none
pub past_unmatched : (s : Store) (queue : List Pair) (at n : ℕ) → n ≡ length queue → n ≤ at → IsAtUnmatched s queue at
past_unmatched s queue at n l past c is matched = omega (arith, l, past, slice_get_within queue at c is)

-- and is counted
pub front_added : (s : Store) (p : Pair) (first queue after : List Pair) (at : ℕ) (c : Pair) (l r : VarName) → IsSound s → IsMatchedFront p s queue at → IsAdded s p first queue → IsNextPair queue at c → AreClassesOf s c l r →
    IsMatched (relation s (l, r)) → after ≡ all_new equal_pair queue (leads_to s (l, r)) → IsAdded s p first after
front_added s p first queue after at c l r sound h added next classes matched e =
    let same = classes_are s c l r classes in
    let looked : IsLooked s p first queue [] at = record { search = (front_looked s p queue at sound h).search; added = added } in
    let together : is_apart (relation s (roots s c)) ≡ false = matched_together (relation s (roots s c)) (subst (λ (q : Pair). IsMatched (relation s q)) same matched) in
    subst (IsAdded s p first) (sym (e ∙ ap (λ (q : Pair). all_new equal_pair queue (leads_to s q)) same))
    (looked_on s p first queue [] at c looked next.within next.is together).added

-- one more pair is looked at
pub search_looked : (s : Store) (p : Pair) (first queue after : List Pair) (vars more : List VarName) (at : ℕ) (c : Pair) (l r : VarName) (b : Bool) → IsLooked s p first queue vars at → IsNextPair queue at c → AreClassesOf s c l r →
    b ≡ is_apart (relation s (l, r)) → b ≡ false → after ≡ all_new equal_pair queue (leads_to s (l, r)) → more ≡ all_new equal_var vars (open_roots s (l, r)) → IsLooked s p first after more (at + 1)
search_looked s p first queue after vars more at c l r b h next classes tells e pairs_are vars_are =
    let same = classes_are s c l r classes in
    subst (λ (n : ℕ). IsLooked s p first after more n) (let one : suc at ≡ at + 1 = omega arith in one)
    (subst (λ (l : List Pair). IsLooked s p first l more (suc at)) (sym (pairs_are ∙ ap (λ (q : Pair). all_new equal_pair queue (leads_to s q)) same))
    (subst (λ (l : List VarName). IsLooked s p first (all_new equal_pair queue (leads_to s (roots s c))) l (suc at)) (sym (vars_are ∙ ap (λ (q : Pair). all_new equal_var vars (open_roots s q)) same))
    (looked_on s p first queue vars at c h next.within next.is (ap (λ (q : Pair). is_apart (relation s q)) (sym same) ∙ (sym tells ∙ e)))))

pub search_found : (s : Store) (p : Pair) (first queue : List Pair) (vars : List VarName) (at : ℕ) (c : Pair) (l r : VarName) (b : Bool) → IsLooked s p first queue vars at → IsNextPair queue at c → AreClassesOf s c l r →
    b ≡ is_apart (relation s (l, r)) → b ≡ true → Different ≡ compared s p
search_found s p first queue vars at c l r b h next classes tells e =
    sym (looked_apart s p first queue vars at c h next.within next.is (ap (λ (q : Pair). is_apart (relation s q)) (sym (classes_are s c l r classes)) ∙ (sym tells ∙ e)))

pub search_done : (s : Store) (p : Pair) (first queue : List Pair) (vars : List VarName) (at n : ℕ) → IsLooked s p first queue vars at → n ≡ length queue → n ≤ at → unless_open vars ≡ compared s p
search_done s p first queue vars at n h l past = sym (looked_ends s p first queue vars at h (omega (arith, l, past)))

-- fewer pairs are left
pub fewer_left : (s : Store) (p : Pair) (first queue : List Pair) (at n : ℕ) → IsAdded s p first queue → n ≡ length queue → at < n → most_pairs s p first - (at + 1) < most_pairs s p first - at
fewer_left s p first queue at n h l below =
    subst (λ (i : ℕ). most_pairs s p first - i < most_pairs s p first - at) (let one : suc at ≡ at + 1 = omega arith in one) (looked_left s p first queue at h (omega (arith, l, below)))

-- the pairs that stood there at first are there
pub first_stay : (s : Store) (p : Pair) (first queue : List Pair) → IsAdded s p first queue → take (length first) queue ≡ first
first_stay s p first queue a = ap (take (length first)) a.is ∙ take-append_seam first a.rest

pub first_goes_on : (s : Store) (p : Pair) (first queue after ys : List Pair) → IsAdded s p first queue → after ≡ all_new equal_pair queue ys → take (length first) after ≡ first
first_goes_on s p first queue after ys a e =
    let long = front_length first queue (a.rest, a.is) in
    ap (take (length first)) e ∙ (front_take (length first) queue (all_new equal_pair queue ys) (all_new_front equal_pair queue ys) long ∙ first_stay s p first queue a)

-- the front has gone on
pub gone_on : (s : Store) (p : Pair) (first queue after : List Pair) (at now : ℕ) → IsAdded s p first queue → after ≡ queue → at ≤ now → HasGoneOn first at after now
gone_on s p first queue after at now a e h = record { first = ap (take (length first)) e ∙ first_stay s p first queue a; place = h }

-- the first pair
pub front_begins : (s : Store) (p : Pair) (none after : List Pair) (l r : VarName) → none ≡ [] → l ≡ root_of s p.0 → r ≡ root_of s p.1 → after ≡ with_new equal_pair none (l, r) → IsMatchedFront p s after 0
front_begins s p none after l r empty left right e =
    let one : after ≡ roots s p ∷ [] = e ∙ (ap (λ (ys : List Pair). with_new equal_pair ys (l, r)) empty ∙ ap (λ (q : Pair). q ∷ []) (classes_are s p l r (record { left = left; right = right }))) in
    subst (λ (ys : List Pair). IsMatchedFront p s ys 0) (sym one) begins

-- ---- fronts that are kept

pub none_kept : (fronts : List (Pair × Front)) (p : Pair) → length fronts ≡ 0 → lookup (equal_pair p) fronts ≡ None
none_kept [] p e = refl
none_kept (f ∷ fronts) p e = absurd (omega (arith, e))

pub fronts_none : (s : Store) → AreFronts s []
fronts_none s p f e = cc

pub fronts_stay : (s t : Store) (fronts : List (Pair × Front)) → IsWithin s t → AreFronts s fronts → AreFronts t fronts
fronts_stay s t fronts more h p f e = stays (h p f e) more

-- one more equation says more
pub fronts_grow : (es fs : List Equation) (fronts : List (Pair × Front)) (e : Equation) → fs ≡ es ++ e ∷ [] → AreFronts (reverse es) fronts → AreFronts (reverse fs) fronts
fronts_grow es fs fronts e is h =
    let turned : reverse fs ≡ e ∷ reverse es = ap reverse is ∙ reverse-append es (e ∷ []) in
    subst (λ (s : Store). AreFronts s fronts) (sym turned) (fronts_stay (reverse es) (e ∷ reverse es) fronts (more_is_within (reverse es) (e ∷ reverse es) (λ x c. Contains-tail e x (reverse es) c)) h)
