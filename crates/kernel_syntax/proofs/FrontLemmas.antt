-- Fronts of ascending lists as the free positions of statements.
use Rattle.std.proofs.Common.{arith, ◌≡◌, ◌∙◌, sym, ap, refl, subst, ℕ, zero, suc, ◌+◌, ◌-◌, ◌<◌, ◌≤◌, List, [], ◌∷◌, ◌++◌, map, length, take, drop, drop-cons, get_or, append_assoc}
use Rattle.std.proofs.Math.Seq.{take-length}
use Rattle.std.proofs.lemmas.List.{append-nil}
use Rattle.std.specs.Prelude.{slice_index_or}
use Rattle.tree_node.specs.declared.names.CodeId.{CodeId}
use Rattle.tree_node.specs.Each.{Each}
use Rattle.tree_node.proofs.EachLemmas.{each_take}
use Rattle.tree_node.proofs.EnvLemmas.{each_at}
use Rattle.kernel_syntax.specs.Scopes.{bare_scope}
use Rattle.kernel_syntax.specs.Free.{AreRising, with_position, with_positions, without_declared, free_in_each}
use Rattle.kernel_syntax.specs.Table.{HasFree, IsPrefixOf, free_at}
use Rattle.kernel_syntax.proofs.OrderLemmas.{above_all, position_above}

-- ---- ascending positions behind others

each_seam : (P : ℕ → Type 0) (js ks : List ℕ) (k : ℕ) → Each P (js ++ k ∷ ks) → P k
each_seam P [] ks k h = h.0
each_seam P (j ∷ js) ks k h = each_seam P js ks k h.1

before_all : (js ks : List ℕ) (k : ℕ) → AreRising (js ++ k ∷ ks) → Each (λ j. j < k) js
before_all [] ks k up = tt
before_all (j ∷ js) ks k up = (each_seam (λ y. j < y) js ks k up.0, before_all js ks k up.1)

behind_all : (js ks : List ℕ) → AreRising (js ++ ks) → with_positions js ks ≡ js ++ ks
behind_all js [] up = sym (append-nil js)
behind_all js (k ∷ ks) up =
    let one : with_position k js ≡ js ++ k ∷ [] = position_above k js (before_all js ks k up) in
    let same : (js ++ k ∷ []) ++ ks ≡ js ++ k ∷ ks = append_assoc js (k ∷ []) ks in
    ap (λ (xs : List ℕ). with_positions xs ks) one
    ∙ behind_all (js ++ k ∷ []) ks (subst (λ (xs : List ℕ). AreRising xs) (sym same) up)
    ∙ same

pub risen : (ks : List ℕ) → AreRising ks → with_positions [] ks ≡ ks
risen ks up = behind_all [] ks up

pub rising_take : (n : ℕ) (ks : List ℕ) → AreRising ks → AreRising (take n ks)
rising_take zero ks up = tt
rising_take (suc n) [] up = tt
rising_take (suc n) (k ∷ ks) up = (each_take (λ j. k < j) n ks up.0, rising_take n ks up.1)

-- a front of ascending positions is what is free of it
pub front_risen : (n : ℕ) (ks js : List ℕ) → AreRising ks → take n ks ≡ js → take n ks ≡ with_positions [] js
front_risen n ks js up e = e ∙ sym (risen js (subst (λ (xs : List ℕ). AreRising xs) e (rising_take n ks up)))

-- ---- what a `local` declares is the last

undeclared_one : (first count k : ℕ) (ks zs : List ℕ) → k < first → zs ≡ without_declared first count ks → k ∷ zs ≡ without_declared first count (k ∷ ks)
undeclared_one first count k ks zs low e = grind (arith, low, e)

undeclared_all : (first count : ℕ) (ks : List ℕ) → Each (λ j. j < first) ks → ks ≡ without_declared first count ks
undeclared_all first count [] h = refl
undeclared_all first count (k ∷ ks) h = undeclared_one first count k ks ks h.0 (undeclared_all first count ks h.1)

pub undeclared_before : (first count i : ℕ) (ks : List ℕ) → AreRising ks → suc i ≡ length ks → get_or ks i 0 < first → ks ≡ without_declared first count ks
undeclared_before first count i ks up e low = undeclared_all first count ks (above_all first ks i up e low)

-- the first so many are below first, and the others among count ones from there on
declared_behind : (first count n : ℕ) (ks : List ℕ) → Each (λ j. j < first + count) ks → ((m : ℕ) → m < n → get_or ks m 0 < first) → ((m : ℕ) → n ≤ m → m < length ks → first ≤ get_or ks m 0) → take n ks ≡ without_declared first count ks
declared_behind first count zero [] all low high = refl
declared_behind first count (suc n) [] all low high = refl
declared_behind first count zero (k ∷ ks) all low high =
    let here : first ≤ k = high 0 (omega arith) (omega arith) in
    let most : k < first + count = all.0 in
    let ih : take zero ks ≡ without_declared first count ks = declared_behind first count zero ks all.1 (λ m l. absurd (omega (arith, l))) (λ m l g. high (suc m) (omega arith) (omega (arith, g))) in
    let none : [] ≡ without_declared first count ks = ih in
    grind (arith, here, most, none)
declared_behind first count (suc n) (k ∷ ks) all low high =
    undeclared_one first count k ks (take n ks) (low 0 (omega arith))
    (declared_behind first count n ks all.1 (λ m l. low (suc m) (omega (arith, l))) (λ m l g. high (suc m) (omega (arith, l)) (omega (arith, g))))

pub declared_last : (first count n i : ℕ) (ks : List ℕ) → AreRising ks → suc i ≡ length ks → get_or ks i 0 < first + count → ((m : ℕ) → m < n → get_or ks m 0 < first) → ((m : ℕ) → n ≤ m → m < length ks → first ≤ get_or ks m 0)
    → take n ks ≡ without_declared first count ks
declared_last first count n i ks up e last low high = declared_behind first count n ks (above_all (first + count) ks i up e last) low high

-- a procedure whose body has the position that it is told to
pub procedure_front : (left kept : ℕ) (list bodies : List ℕ) → AreRising list → take kept list ≡ bodies → with_position left (take kept list) ≡ take kept list → take kept list ≡ with_position left (with_positions [] bodies)
procedure_front left kept list bodies up e has = sym has ∙ ap (with_position left) (front_risen kept list bodies up e)

-- ---- a sequence whose first statement has all

bare : (ks : List ℕ) → without_declared 0 0 ks ≡ ks
bare [] = refl
bare (k ∷ ks) = let ih : without_declared 0 0 ks ≡ ks = bare ks in grind (arith, ih)

pub passed : (f : CodeId → List ℕ) (js : List ℕ) (c : CodeId) (cs : List CodeId) → with_positions js (f c) ≡ js → free_in_each f js (map bare_scope (c ∷ cs)) ≡ free_in_each f js (map bare_scope cs)
passed f js c cs e = ap (λ (xs : List ℕ). free_in_each f xs (map bare_scope cs)) (ap (with_positions js) (bare (f c)) ∙ e)

pub others_of : (cs : List CodeId) → take (length cs - 1) (drop 1 cs) ≡ drop 1 cs
others_of [] = refl
others_of (c ∷ cs) = let n : suc (length cs) - 1 ≡ length cs = omega arith in ap (λ (k : ℕ). take k cs) n ∙ take-length cs

-- .. from the first one's positions on
pub sequence_first : (len : ℕ) (lists : List (List ℕ)) (cs others : List CodeId) (d : CodeId) (whole : List ℕ) → 0 < length cs → Each (HasFree len lists) cs → Each AreRising lists → whole ≡ free_at len lists (get_or cs 0 d)
    → others ≡ drop 1 cs → free_in_each (free_at len lists) [] (map bare_scope cs) ≡ free_in_each (free_at len lists) whole (map bare_scope others)
sequence_first len lists [] others d whole some bodies up is e = absurd (omega (arith, some))
sequence_first len lists (c ∷ cs) others d whole some bodies up is e =
    let here : len - suc c.0 < length lists = omega (arith, bodies.0.0, bodies.0.1) in
    let rises : AreRising (free_at len lists c) = each_at AreRising lists (len - suc c.0) [] up here in
    ap (λ (xs : List ℕ). free_in_each (free_at len lists) xs (map bare_scope cs)) (ap (with_positions []) (bare (free_at len lists c)) ∙ risen (free_at len lists c) rises ∙ sym is)
    ∙ ap (λ (os : List CodeId). free_in_each (free_at len lists) whole (map bare_scope os)) (sym e)

-- .. from those of the first two on
pub others_of_two : (cs : List CodeId) → take (length cs - 2) (drop 2 cs) ≡ drop 2 cs
others_of_two [] = refl
others_of_two (c ∷ []) = refl
others_of_two (c ∷ b ∷ cs) = let n : suc (suc (length cs)) - 2 ≡ length cs = omega arith in ap (λ (k : ℕ). take k cs) n ∙ take-length cs

pub sequence_merged : (len : ℕ) (lists : List (List ℕ)) (cs others : List CodeId) (d e : CodeId) (some more : List ℕ) → 2 ≤ length cs → AreRising some → some ≡ free_at len lists (get_or cs 0 d)
    → more ≡ free_at len lists (get_or cs 1 e) → others ≡ drop 2 cs → free_in_each (free_at len lists) (with_positions some more) (map bare_scope others) ≡ free_in_each (free_at len lists) [] (map bare_scope cs)
sequence_merged len lists [] others d e some more two up is at o = absurd (omega (arith, two))
sequence_merged len lists (c ∷ []) others d e some more two up is at o = absurd (omega (arith, two))
sequence_merged len lists (c ∷ b ∷ cs) others d e some more two up is at o =
    let first : some ≡ with_positions [] (without_declared 0 0 (free_at len lists c)) = sym (risen some up) ∙ ap (with_positions []) (is ∙ sym (bare (free_at len lists c))) in
    let second : more ≡ without_declared 0 0 (free_at len lists b) = at ∙ sym (bare (free_at len lists b)) in
    ap (λ (os : List CodeId). free_in_each (free_at len lists) (with_positions some more) (map bare_scope os)) o
    ∙ ap (λ (xs : List ℕ). free_in_each (free_at len lists) (with_positions xs more) (map bare_scope cs)) first
    ∙ ap (λ (xs : List ℕ). free_in_each (free_at len lists) (with_positions (with_positions [] (without_declared 0 0 (free_at len lists c))) xs) (map bare_scope cs)) second

-- each list ascends
pub list_rises : (len : ℕ) (lists : List (List ℕ)) (c : CodeId) (list : List ℕ) → HasFree len lists c → Each AreRising lists → list ≡ free_at len lists c → AreRising list
list_rises len lists c list has up is =
    let here : len - suc c.0 < length lists = omega (arith, has.0, has.1) in
    rw is (each_at AreRising lists (len - suc c.0) [] up here)

-- the whole of a statement's positions
whole_list : (len : ℕ) (lists : List (List ℕ)) (c : CodeId) (whole all : List ℕ) (at : ℕ) → HasFree len lists c → whole ≡ free_at len lists c → at ≡ len - suc c.0 → whole ≡ all → IsPrefixOf lists all (at, length whole)
whole_list len lists c whole all at has is place same =
    let here : len - suc c.0 < length lists = omega (arith, has.0, has.1) in
    let told : whole ≡ slice_index_or lists at [] = is ∙ ap (λ (i : ℕ). slice_index_or lists i []) (sym place) in
    record {
      place = rw place here;
      within = subst (λ (xs : List ℕ). length whole ≤ length xs) told (omega arith);
      front = ap (take (length whole)) (sym told) ∙ take-length whole ∙ same;
    }

pub sequence_prefix : (len : ℕ) (lists : List (List ℕ)) (cs others : List CodeId) (d : CodeId) (whole : List ℕ) (at : ℕ) → 0 < length cs → Each (HasFree len lists) cs → Each AreRising lists
    → whole ≡ free_at len lists (get_or cs 0 d) → at ≡ len - suc (get_or cs 0 d).0 → others ≡ drop 1 cs → free_in_each (free_at len lists) whole (map bare_scope others) ≡ whole
    → IsPrefixOf lists (free_in_each (free_at len lists) [] (map bare_scope cs)) (at, length whole)
sequence_prefix len lists cs others d whole at some bodies up is place e all =
    whole_list len lists (get_or cs 0 d) whole _ at (each_at (HasFree len lists) cs 0 d bodies some) is place (sym (sequence_first len lists cs others d whole some bodies up is e ∙ all))

-- ---- two statements of which the second has all

-- positions go in in any order
either_first : (k i : ℕ) (js : List ℕ) → with_position k (with_position i js) ≡ with_position i (with_position k js)
either_first k i [] = grind arith
either_first k i (j ∷ js) = let ih : with_position k (with_position i js) ≡ with_position i (with_position k js) = either_first k i js in grind (arith, ih)

later : (k : ℕ) (js ks : List ℕ) → with_positions (with_position k js) ks ≡ with_position k (with_positions js ks)
later k js [] = refl
later k js (i ∷ ks) = ap (λ (xs : List ℕ). with_positions xs ks) (either_first i k js) ∙ later k (with_position i js) ks

below_all : (k : ℕ) (ks : List ℕ) → Each (λ j. k < j) ks → with_position k ks ≡ k ∷ ks
below_all k [] low = refl
below_all k (j ∷ ks) low = let here : k < j = low.0 in grind (arith, here)

either_list : (js ks : List ℕ) → AreRising js → AreRising ks → with_positions js ks ≡ with_positions ks js
either_list js [] up rises = sym (risen js up)
either_list js (k ∷ ks) up rises =
    later k js ks
    ∙ ap (with_position k) (either_list js ks up rises.1)
    ∙ sym (later k ks js)
    ∙ ap (λ (xs : List ℕ). with_positions xs js) (below_all k ks rises.0)

pub second_prefix : (len : ℕ) (lists : List (List ℕ)) (cs : List CodeId) (d : CodeId) (first whole : List ℕ) (at : ℕ) → length cs ≡ 1 → Each (HasFree len lists) cs → Each AreRising lists → AreRising first
    → whole ≡ free_at len lists (get_or cs 0 d) → at ≡ len - suc (get_or cs 0 d).0 → with_positions whole first ≡ whole
    → IsPrefixOf lists (free_in_each (free_at len lists) first (map bare_scope cs)) (at, length whole)
second_prefix len lists [] d first whole at one bodies up rises is place has = absurd (omega (arith, one))
second_prefix len lists (c ∷ []) d first whole at one bodies up rises is place has =
    let here : len - suc c.0 < length lists = omega (arith, bodies.0.0, bodies.0.1) in
    let second : AreRising (free_at len lists c) = each_at AreRising lists (len - suc c.0) [] up here in
    let all : free_in_each (free_at len lists) first (map bare_scope (c ∷ [])) ≡ whole =
    ap (with_positions first) (bare (free_at len lists c))
    ∙ either_list first (free_at len lists c) rises second
    ∙ ap (λ (xs : List ℕ). with_positions xs first) (sym is)
    ∙ has in
    whole_list len lists c whole _ at bodies.0 is place (sym all)
second_prefix len lists (c ∷ b ∷ cs) d first whole at one bodies up rises is place has = absurd (omega (arith, one))

-- ---- a list that is the front of another

-- the next statement of a sequence
pub passed_next : (f : CodeId → List ℕ) (js : List ℕ) (cs : List CodeId) (i : ℕ) (d : CodeId) → i < length cs → with_positions js (f (get_or cs i d)) ≡ js
    → free_in_each f js (map bare_scope (drop i cs)) ≡ free_in_each f js (map bare_scope (drop (suc i) cs))
passed_next f js cs i d l e = ap (λ (xs : List CodeId). free_in_each f js (map bare_scope xs)) (drop-cons cs i d l) ∙ passed f js (get_or cs i d) (drop (suc i) cs) e

pub each_next : (P : CodeId → Type 0) (cs : List CodeId) (i : ℕ) → i < length cs → Each P (drop i cs) → Each P (drop (suc i) cs)
each_next P [] i l h = absurd (omega (arith, l))
each_next P (c ∷ cs) zero l h = h.1
each_next P (c ∷ cs) (suc i) l h = each_next P cs i (omega (arith, l)) h
