-- What a comparison comes to: within so many levels it has all pairs, up to the classes of their variables.
use Rattle.std.proofs.Common.{arith, ◌≡◌, ◌∙◌, sym, ap, refl, subst, ℕ, zero, suc, ◌+◌, ◌*◌, ◌≤◌, List, [], ◌∷◌, ◌++◌, length, map, take, drop, get_or, drop-cons, ◌<◌, ◌-◌, ◌⊎◌, inl, inr, Bool, true, false, cond, ◌||◌, None, Some}
use Rattle.std.specs.Prelude.{Contains, Option, filter, nat_lt}
use Rattle.std.specs.Bool.{Decides}
use Rattle.std.specs.Cmp.{IsEquivalence, decided}
use Rattle.std.specs.List.{list_any, flat_map, IsDistinct}
use Rattle.std.proofs.lemmas.Bool.{and_parts}
use Rattle.std.proofs.lemmas.Bool.Decides.{nat_tests}
use Rattle.std.proofs.lemmas.List.{map-append, length-map, length-append, length-take-le, take_all, append-nil, take-append-drop}
use Rattle.std.proofs.lemmas.Grind.{flat_map-append}
use Rattle.std.proofs.Math.Seq.{take-suc}
use Rattle.std.proofs.lemmas.List.Elements.{Contains-append_cases, Contains-append_left, Contains-append_right, Contains-get_or}
use Rattle.std.proofs.lemmas.List.Folds.{flat_map-map, list_any-append}
use Rattle.std.proofs.lemmas.Map.Made.{length-le_from_is_member, is_member-Decides}
use Rattle.tree_node.specs.declared.names.VarName.{VarName}
use Rattle.tree_node.specs.declared.node.Node.{Node}
use Rattle.tree_node.specs.declared.node.Term.TheVariants as term
use Rattle.tree_node.specs.Each.{Each}
use Rattle.tree_node.specs.Store.{Store, Equation, equal_var, root_of, node_of}
use Rattle.tree_node.specs.Compare.{Pair, Relation, Alike, Apart, Parts, Unknown, relation_of_nodes, is_one_class, relation, parts_of, pairs_within, IsReached, open_roots, each_once, open_within, Different, depth_of, is_apart, unless_open, compared}
use Rattle.tree_node.proofs.ClassLemmas.{same_name_decides, same_name_refl, Contains-cons_cases, Contains-head, Contains-tail}
use Rattle.tree_node.proofs.DetLemmas.{found}
use Rattle.tree_node.proofs.SoundLemmas.{root_root}
use Rattle.tree_node.proofs.OrderLemmas.{none as none_in}
use Rattle.tree_node.proofs.CaseLemmas.{among_same}
use Rattle.tree_node.specs.ClassPairs.{equal_pair, roots, leads_to, all_new}
use Rattle.tree_node.proofs.BreadthLemmas.{IsFront, IsQueue, front_take, front_length, all_new_front, all_new_append, queue_begins, queue_goes_on, queue_among, queue_ends, levels, reached, reached_more, reached_all, LeadFew, TellsLeads, each_once_leads, each_once_distinct, once_from, once_has}

-- ---- lists

pub map_flat_map : {X : Type 0} {Y : Type 0} {Z : Type 0} (g : Y → Z) (f : X → List Y) (xs : List X) → map g (flat_map f xs) ≡ flat_map (λ x. map g (f x)) xs
map_flat_map g f [] = refl
map_flat_map g f (x ∷ xs) = map-append g (f x) (flat_map f xs) ∙ ap (λ (l : List _). map g (f x) ++ l) (map_flat_map g f xs)

pub flat_map_alike : {X : Type 0} {Y : Type 0} (f g : X → List Y) → ((x : X) → f x ≡ g x) → (xs : List X) → flat_map f xs ≡ flat_map g xs
flat_map_alike f g same [] = refl
flat_map_alike f g same (x ∷ xs) = ap (λ (l : List _). l ++ flat_map f xs) (same x) ∙ ap (λ (l : List _). g x ++ l) (flat_map_alike f g same xs)

pub map_has : {X : Type 0} {Y : Type 0} (f : X → Y) (xs : List X) (x : X) → Contains xs x → Contains (map f xs) (f x)
map_has f [] x h = absurd (none_in x h)
map_has {X} {Y} f (y ∷ xs) x h = go (Contains-cons_cases y x xs h) (λ k. map_has f xs x k)
  where
    go : (y ≡ x) ⊎ Contains xs x → (Contains xs x → Contains (map f xs) (f x)) → Contains (f y ∷ map f xs) (f x)
    go (inl e) ih = subst (λ (z : X). Contains (f y ∷ map f xs) (f z)) e (Contains-head (f y) (map f xs))
    go (inr k) ih = Contains-tail (f y) (f x) (map f xs) (ih k)

pub map_from : {X : Type 0} {Y : Type 0} (f : X → Y) (xs : List X) (y : Y) → Contains (map f xs) y → (x : X) × Contains xs x × (f x ≡ y)
map_from f [] y h = absurd (none_in y h)
map_from {X} {Y} f (x ∷ xs) y h = go (Contains-cons_cases (f x) y (map f xs) h) (λ k. map_from f xs y k)
  where
    go : (f x ≡ y) ⊎ Contains (map f xs) y → (Contains (map f xs) y → (z : X) × Contains xs z × (f z ≡ y)) → (z : X) × Contains (x ∷ xs) z × (f z ≡ y)
    go (inl e) ih = (x, Contains-head x xs, e)
    go (inr k) ih = let at = ih k in (at.0, Contains-tail x at.0 xs at.1, at.2)

pub flat_has : {X : Type 0} {Y : Type 0} (f : X → List Y) (xs : List X) (x : X) (y : Y) → Contains xs x → Contains (f x) y → Contains (flat_map f xs) y
flat_has f [] x y h k = absurd (none_in x h)
flat_has {X} {Y} f (z ∷ xs) x y h k = go (Contains-cons_cases z x xs h) (λ c. flat_has f xs x y c k)
  where
    go : (z ≡ x) ⊎ Contains xs x → (Contains xs x → Contains (flat_map f xs) y) → Contains (f z ++ flat_map f xs) y
    go (inl e) ih = Contains-append_left (f z) (flat_map f xs) y (subst (λ (w : X). Contains (f w) y) (sym e) k)
    go (inr c) ih = Contains-append_right (f z) (flat_map f xs) y (ih c)

pub flat_from : {X : Type 0} {Y : Type 0} (f : X → List Y) (xs : List X) (y : Y) → Contains (flat_map f xs) y → (x : X) × Contains xs x × Contains (f x) y
flat_from f [] y h = absurd (none_in y h)
flat_from {X} {Y} f (x ∷ xs) y h = go (Contains-append_cases (f x) (flat_map f xs) y h) (λ k. flat_from f xs y k)
  where
    go : Contains (f x) y ⊎ Contains (flat_map f xs) y → (Contains (flat_map f xs) y → (z : X) × Contains xs z × Contains (f z) y) → (z : X) × Contains (x ∷ xs) z × Contains (f z) y
    go (inl c) ih = (x, Contains-head x xs, c)
    go (inr k) ih = let at = ih k in (at.0, Contains-tail x at.0 xs at.1, at.2)

pub any_from : {X : Type 0} (t : X → Bool) (xs : List X) → list_any t xs ≡ true → (x : X) × Contains xs x × (t x ≡ true)
any_from t [] h = cc
any_from {X} t (x ∷ xs) h = go (t x) refl h (λ k. any_from t xs k)
  where
    go : (b : Bool) → t x ≡ b → (b || list_any t xs) ≡ true → (list_any t xs ≡ true → (z : X) × Contains xs z × (t z ≡ true)) → (z : X) × Contains (x ∷ xs) z × (t z ≡ true)
    go true e k ih = (x, Contains-head x xs, e)
    go false e k ih = let at = ih k in (at.0, Contains-tail x at.0 xs at.1, at.2)

pub any_has : {X : Type 0} (t : X → Bool) (xs : List X) (x : X) → Contains xs x → t x ≡ true → list_any t xs ≡ true
any_has t [] x h e = absurd (none_in x h)
any_has {X} t (y ∷ xs) x h e = go (Contains-cons_cases y x xs h) (λ k. any_has t xs x k e)
  where
    or_true : (b c : Bool) → c ≡ true → (b || c) ≡ true
    or_true true c k = refl
    or_true false c k = k

    go : (y ≡ x) ⊎ Contains xs x → (Contains xs x → list_any t xs ≡ true) → (t y || list_any t xs) ≡ true
    go (inl k) ih = ap (λ (b : Bool). b || list_any t xs) (ap t k ∙ e)
    go (inr c) ih = or_true (t y) (list_any t xs) (ih c)

-- ---- pairs of classes

pub same_pair_decides : (a b : Pair) → Decides (equal_pair a b) (a ≡ b)
same_pair_decides a b = (to, from)
  where
    to : equal_pair a b ≡ true → a ≡ b
    to h = let parts = and_parts (equal_var a.0 b.0) (equal_var a.1 b.1) h in
        let left : a.0 ≡ b.0 = (same_name_decides a.0 b.0).0 parts.0 in
        let right : a.1 ≡ b.1 = (same_name_decides a.1 b.1).0 parts.1 in
        ap (λ (x : VarName). (x, a.1)) left ∙ ap (λ (y : VarName). (b.0, y)) right

    from : a ≡ b → equal_pair a b ≡ true
    from e = subst (λ (c : Pair). equal_pair a c ≡ true) e (rw (same_name_refl a.0, same_name_refl a.1) refl)

root_node : (s : Store) (x : VarName) → node_of s (root_of s x) ≡ node_of s x
root_node s x = among_same (root_of s) s (root_of s x) x (root_root s x)

pub relation_roots : (s : Store) (q : Pair) → relation s (roots s q) ≡ relation s q
relation_roots s q = rw (root_root s q.0, root_root s q.1, root_node s q.0, root_node s q.1) refl

pub open_roots_roots : (s : Store) (q : Pair) → open_roots s (roots s q) ≡ open_roots s q
open_roots_roots s q = rw (root_root s q.0, root_root s q.1, root_node s q.0, root_node s q.1) refl

pub relation_same : (s : Store) (q r : Pair) → roots s q ≡ roots s r → relation s q ≡ relation s r
relation_same s q r e = sym (relation_roots s q) ∙ (ap (relation s) e ∙ relation_roots s r)

pub open_same : (s : Store) (q r : Pair) → roots s q ≡ roots s r → open_roots s q ≡ open_roots s r
open_same s q r e = sym (open_roots_roots s q) ∙ (ap (open_roots s) e ∙ open_roots_roots s r)

pub levels_are : (s : Store) (p : Pair) (d : ℕ) → map (roots s) (pairs_within s p d) ≡ levels (leads_to s) (roots s p) d
levels_are s p zero = refl
levels_are s p (suc d) =
    ap (λ (l : List Pair). roots s p ∷ l)
    (map_flat_map (roots s) (λ (q : Pair). parts_of (relation s q)) (pairs_within s p d)
    ∙ (flat_map_alike (λ (q : Pair). map (roots s) (parts_of (relation s q))) (λ (q : Pair). leads_to s (roots s q)) (λ q. ap (λ (r : Relation). map (roots s) (parts_of r)) (sym (relation_roots s q))) (pairs_within s p d)
    ∙ (sym (flat_map-map (leads_to s) (roots s) (pairs_within s p d)) ∙ ap (λ (l : List Pair). flat_map (leads_to s) l) (levels_are s p d))))

abbrev pub classes_within : Store → Pair → ℕ → List Pair
classes_within s p d = reached equal_pair (leads_to s) (roots s p) d

-- each pair stands there by its classes
pub classes_have : (s : Store) (p q : Pair) (d : ℕ) → Contains (pairs_within s p d) q → Contains (classes_within s p d) (roots s q)
classes_have s p q d h =
    once_has equal_pair same_pair_decides (levels (leads_to s) (roots s p) d) [] (roots s q)
    (subst (λ (l : List Pair). Contains l (roots s q)) (levels_are s p d) (map_has (roots s) (pairs_within s p d) q h))

pub classes_from : (s : Store) (p c : Pair) (d : ℕ) → Contains (classes_within s p d) c → (q : Pair) × Contains (pairs_within s p d) q × (roots s q ≡ c)
classes_from s p c d h = go (once_from equal_pair (levels (leads_to s) (roots s p) d) [] c h)
  where
    go : Contains [] c ⊎ Contains (levels (leads_to s) (roots s p) d) c → (q : Pair) × Contains (pairs_within s p d) q × (roots s q ≡ c)
    go (inl k) = absurd (none_in c k)
    go (inr k) = map_from (roots s) (pairs_within s p d) c (subst (λ (l : List Pair). Contains l c) (sym (levels_are s p d)) k)

-- ---- few pairs lead on

abbrev pub has_parts : Relation → Bool
has_parts (Parts pairs) = true
has_parts _ = false

abbrev pub leads : Store → Pair → Bool
leads s q = has_parts (relation s q)

pub tells_leads : (s : Store) → TellsLeads (leads_to s) (leads s)
tells_leads s q e = go (relation s q) e
  where
    go : (r : Relation) → has_parts r ≡ false → map (roots s) (parts_of r) ≡ []
    go Alike e = refl
    go Apart e = refl
    go Unknown e = refl
    go (Parts pairs) e = cc

-- the classes of the variables that have equations
abbrev told : Store → List VarName
told s = map (λ (e : Equation). root_of s e.0) s

both_nodes : (s : Store) (q : Pair) → leads s q ≡ true → (m : Node) × (n : Node) × (node_of s q.0 ≡ Some m) × (node_of s q.1 ≡ Some n)
both_nodes s q e = go (is_one_class s q) (node_of s q.0) refl (node_of s q.1) refl e
  where
    go : (b : Bool) (o : Option Node) → node_of s q.0 ≡ o → (r : Option Node) → node_of s q.1 ≡ r → has_parts (cond b Alike (relation_of_nodes o r)) ≡ true →
        (m : Node) × (n : Node) × (node_of s q.0 ≡ Some m) × (node_of s q.1 ≡ Some n)
    go true o f r g h = cc
    go false None f r g h = cc
    go false (Some m) f None g h = cc
    go false (Some m) f (Some n) g h = (m, n, f, g)

is_told : (s : Store) (x : VarName) (n : Node) → node_of s x ≡ Some n → root_of s x ≡ x → Contains (told s) x
is_told s x n e own = go (found (root_of s) s x n e)
  where
    go : (y : VarName) × (root_of s y ≡ root_of s x) × Contains s (y, term.Node n) → Contains (told s) x
    go (y, same, h) = subst (λ (z : VarName). Contains (told s) z) (same ∙ own) (map_has (λ (e : Equation). root_of s e.0) s (y, term.Node n) h)

-- all pairs of two lists
abbrev products : List VarName → List VarName → List Pair
products xs ys = flat_map (λ (x : VarName). map (λ (y : VarName). (x, y)) ys) xs

length_products : (xs ys : List VarName) → length (products xs ys) ≡ length xs * length ys
length_products [] ys = omega arith
length_products (x ∷ xs) ys =
    let row : List Pair = map (λ (y : VarName). (x, y)) ys in
    let whole : length (row ++ products xs ys) ≡ length row + length (products xs ys) = length-append row (products xs ys) in
    let one : length row ≡ length ys = length-map ys (λ (y : VarName). (x, y)) in
    let rest : length (products xs ys) ≡ length xs * length ys = length_products xs ys in
    let more : suc (length xs) * length ys ≡ length ys + length xs * length ys = grind arith in
    omega (arith, whole, one, rest, more)

products_have : (xs ys : List VarName) (q : Pair) → Contains xs q.0 → Contains ys q.1 → Contains (products xs ys) q
products_have xs ys q h k = flat_has (λ (x : VarName). map (λ (y : VarName). (x, y)) ys) xs q.0 q h (map_has (λ (y : VarName). (q.0, y)) ys q.1 k)

-- what a filter leaves is of the list, and passed it
pub filter_from : {X : Type 0} (t : X → Bool) (xs : List X) (x : X) → Contains (filter t xs) x → Contains xs x × (t x ≡ true)
filter_from t [] x h = absurd (none_in x h)
filter_from {X} t (y ∷ xs) x h = go (t y) refl h (λ k. filter_from t xs x k)
  where
    go : (b : Bool) → t y ≡ b → Contains (cond b (y ∷ filter t xs) (filter t xs)) x → (Contains (filter t xs) x → Contains xs x × (t x ≡ true)) → Contains (y ∷ xs) x × (t x ≡ true)
    go true e k ih = at (Contains-cons_cases y x (filter t xs) k)
      where
        at : (y ≡ x) ⊎ Contains (filter t xs) x → Contains (y ∷ xs) x × (t x ≡ true)
        at (inl p) = (subst (λ (z : X). Contains (y ∷ xs) z) p (Contains-head y xs), sym (ap t p) ∙ e)
        at (inr c) = let r = ih c in (Contains-tail y x xs r.0, r.1)
    go false e k ih = let r = ih k in (Contains-tail y x xs r.0, r.1)

each_filter : {X : Type 0} (P : X → Type 0) (t : X → Bool) (xs : List X) → Each P xs → Each P (filter t xs)
each_filter P t [] h = tt
each_filter P t (x ∷ xs) h = go (t x) (each_filter P t xs h.1)
  where
    go : (b : Bool) → Each P (filter t xs) → Each P (cond b (x ∷ filter t xs) (filter t xs))
    go true k = (h.0, k)
    go false k = k

distinct_filter : {X : Type 0} (eq : X → X → Bool) (t : X → Bool) (xs : List X) → IsDistinct eq xs → IsDistinct eq (filter t xs)
unfolding IsDistinct
distinct_filter eq t [] h = h
distinct_filter eq t (x ∷ xs) h = go (t x) (distinct_filter eq t xs h.1)
  where
    go : (b : Bool) → IsDistinct eq (filter t xs) → IsDistinct eq (cond b (x ∷ filter t xs) (filter t xs))
    go true k = (each_filter (λ y. eq x y ≡ false) t xs h.0, k)
    go false k = k

pub few_lead : (s : Store) (p : Pair) → LeadFew equal_pair (leads_to s) (roots s p) (leads s) (depth_of s)
unfolding IsDistinct
few_lead s p d =
    let laws : IsEquivalence equal_pair = decided equal_pair same_pair_decides in
    let apart : IsDistinct equal_pair (filter (leads s) (classes_within s p d)) = distinct_filter equal_pair (leads s) (classes_within s p d) (each_once_distinct equal_pair laws (levels (leads_to s) (roots s p) d) [] tt) in
    let few : length (filter (leads s) (classes_within s p d)) ≤ length (products (told s) (told s)) = length-le_from_is_member laws _ (products (told s) (told s)) apart member in
    let long : length (products (told s) (told s)) ≡ length (told s) * length (told s) = length_products (told s) (told s) in
    let one : length (told s) ≡ length s = length-map s (λ (e : Equation). root_of s e.0) in
    subst (λ (n : ℕ). length (filter (leads s) (classes_within s p d)) ≤ n * n) one (subst (λ (n : ℕ). length (filter (leads s) (classes_within s p d)) ≤ n) long few)
  where
    there : (c : Pair) → Contains (filter (leads s) (classes_within s p d)) c → Contains (products (told s) (told s)) c
    there c h = let at = filter_from (leads s) (classes_within s p d) c h in go (classes_from s p c d at.0) (both_nodes s c at.1)
      where
        go : (q : Pair) × Contains (pairs_within s p d) q × (roots s q ≡ c) → (m : Node) × (n : Node) × (node_of s c.0 ≡ Some m) × (node_of s c.1 ≡ Some n) → Contains (products (told s) (told s)) c
        go (q, k, e) (m, n, f, g) =
            let left : root_of s c.0 ≡ c.0 = ap (λ (r : Pair). root_of s r.0) (sym e) ∙ (root_root s q.0 ∙ ap (λ (r : Pair). r.0) e) in
            let right : root_of s c.1 ≡ c.1 = ap (λ (r : Pair). root_of s r.1) (sym e) ∙ (root_root s q.1 ∙ ap (λ (r : Pair). r.1) e) in
            products_have (told s) (told s) c (is_told s c.0 m f left) (is_told s c.1 n g right)

    member : (c : Pair) → list_any (equal_pair c) (filter (leads s) (classes_within s p d)) ≡ true → list_any (equal_pair c) (products (told s) (told s)) ≡ true
    member c h = (is_member-Decides same_pair_decides (products (told s) (told s)) c).1 (there c ((is_member-Decides same_pair_decides (filter (leads s) (classes_within s p d)) c).0 h))

-- so all classes are there within the depth of the store
pub classes_settle : (s : Store) (p : Pair) (d : ℕ) → depth_of s ≤ d → classes_within s p d ≡ classes_within s p (depth_of s)
classes_settle s p d h = reached_all equal_pair (leads_to s) (roots s p) (leads s) same_pair_decides (tells_leads s) (depth_of s) (few_lead s p) d h

pub classes_all : (s : Store) (p c : Pair) (d : ℕ) → Contains (classes_within s p d) c → Contains (classes_within s p (depth_of s)) c
classes_all s p c d h = go (nat_lt (depth_of s) d) refl
  where
    front : IsFront (classes_within s p d) (classes_within s p (depth_of s)) → Contains (classes_within s p (depth_of s)) c
    front (zs, e) = subst (λ (l : List Pair). Contains l c) (sym e) (Contains-append_left (classes_within s p d) zs c h)

    go : (b : Bool) → nat_lt (depth_of s) d ≡ b → Contains (classes_within s p (depth_of s)) c
    go true k = subst (λ (l : List Pair). Contains l c) (classes_settle s p d (grind (arith, nat_tests))) h
    go false k = front (reached_more equal_pair (leads_to s) (roots s p) same_pair_decides d (depth_of s) (grind (arith, nat_tests)))

-- a pair that is come to at all has its classes at a pair that is come to within the depth of the store
pub reached_within : (s : Store) (p q : Pair) → IsReached s p q → (r : Pair) × Contains (pairs_within s p (depth_of s)) r × (roots s r ≡ roots s q)
reached_within s p q (d, h) = classes_from s p (roots s q) (depth_of s) (classes_all s p (roots s q) d (classes_have s p q d h))

-- what is open is told by the classes
pub open_by_classes : (s : Store) (p : Pair) (d : ℕ) → open_within s p d ≡ each_once equal_var (flat_map (open_roots s) (classes_within s p d))
open_by_classes s p d =
    ap (λ (l : List VarName). each_once equal_var l)
    (flat_map_alike (open_roots s) (λ (q : Pair). open_roots s (roots s q)) (λ q. sym (open_roots_roots s q)) (pairs_within s p d)
    ∙ (sym (flat_map-map (open_roots s) (roots s) (pairs_within s p d)) ∙ ap (λ (l : List Pair). flat_map (open_roots s) l) (levels_are s p d)))
    ∙ sym (each_once_leads equal_pair equal_var (open_roots s) same_pair_decides same_name_decides (levels (leads_to s) (roots s p) d) [])

-- and so is whether a pair is apart
abbrev pub tells_apart : Store → Pair → Bool
tells_apart s q = is_apart (relation s q)

pub equal_truths : (a b : Bool) → (a ≡ true → b ≡ true) → (b ≡ true → a ≡ true) → a ≡ b
equal_truths true b f g = sym (f refl)
equal_truths false true f g = g refl
equal_truths false false f g = refl

pub apart_by_classes : (s : Store) (p : Pair) (d : ℕ) → list_any (tells_apart s) (pairs_within s p d) ≡ list_any (tells_apart s) (classes_within s p d)
apart_by_classes s p d = equal_truths _ _ to from
  where
    to : list_any (tells_apart s) (pairs_within s p d) ≡ true → list_any (tells_apart s) (classes_within s p d) ≡ true
    to h = let at = any_from (tells_apart s) (pairs_within s p d) h in
        any_has (tells_apart s) (classes_within s p d) (roots s at.0) (classes_have s p at.0 d at.1) (ap is_apart (relation_roots s at.0) ∙ at.2)

    from : list_any (tells_apart s) (classes_within s p d) ≡ true → list_any (tells_apart s) (pairs_within s p d) ≡ true
    from h = go (any_from (tells_apart s) (classes_within s p d) h)
      where
        go : (c : Pair) × Contains (classes_within s p d) c × (tells_apart s c ≡ true) → list_any (tells_apart s) (pairs_within s p d) ≡ true
        go (c, k, e) = let at = classes_from s p c d k in
            any_has (tells_apart s) (pairs_within s p d) at.0 at.1 (ap is_apart (sym (relation_roots s at.0)) ∙ (ap (tells_apart s) at.2 ∙ e))

-- ---- a search

-- so many of the queued classes are looked at: none is apart, and these are their open variables
pub record IsSearch (s : Store) (p : Pair) (queue : List Pair) (open_vars : List VarName) (at : ℕ) : Type 0 where
  pub queued : IsQueue equal_pair (leads_to s) (roots s p) queue at
  pub open_ones : open_vars ≡ each_once equal_var (flat_map (open_roots s) (take at queue))
  pub together : list_any (tells_apart s) (take at queue) ≡ false

pub search_begins : (s : Store) (p : Pair) → IsSearch s p (roots s p ∷ []) [] 0
search_begins s p = record { queued = queue_begins equal_pair (leads_to s) (roots s p); open_ones = refl; together = refl }

-- the queue has classes that a comparison comes to
pub search_among : (s : Store) (p : Pair) (queue : List Pair) (open_vars : List VarName) (at : ℕ) → IsSearch s p queue open_vars at → IsFront queue (classes_within s p (depth_of s))
search_among s p queue open_vars at h =
    queue_among equal_pair (leads_to s) (roots s p) (leads s) same_pair_decides (tells_leads s) (depth_of s) (few_lead s p) queue at h.queued

-- one more pair is looked at
pub search_goes_on : (s : Store) (p : Pair) (queue : List Pair) (open_vars : List VarName) (at : ℕ) (c : Pair) → IsSearch s p queue open_vars at → at < length queue → c ≡ get_or queue at c → is_apart (relation s c) ≡ false →
    IsSearch s p (all_new equal_pair queue (leads_to s c)) (all_new equal_var open_vars (open_roots s c)) (suc at)
search_goes_on s p queue open_vars at c h within e together = record { queued = on; open_ones = opened; together = no_one }
  where
    front : List Pair
    front = take at queue

    back : List Pair
    back = drop (suc at) queue

    split : queue ≡ front ++ c ∷ back
    split = sym (take-append-drop at queue) ∙ ap (λ (l : List Pair). front ++ l) (drop-cons queue at c within ∙ ap (λ (r : Pair). r ∷ back) (sym e))

    long : length front ≡ at
    long = length-take-le at queue (omega (arith, within))

    before : IsQueue equal_pair (leads_to s) (roots s p) (front ++ c ∷ back) (length front)
    before = subst (λ (l : List Pair). IsQueue equal_pair (leads_to s) (roots s p) l (length front)) split
        (subst (λ (n : ℕ). IsQueue equal_pair (leads_to s) (roots s p) queue n) (sym long) h.queued)

    after : IsQueue equal_pair (leads_to s) (roots s p) (all_new equal_pair (front ++ c ∷ back) (leads_to s c)) (suc (length front))
    after = queue_goes_on equal_pair (leads_to s) (roots s p) same_pair_decides front back c before

    on : IsQueue equal_pair (leads_to s) (roots s p) (all_new equal_pair queue (leads_to s c)) (suc at)
    on = subst (λ (n : ℕ). IsQueue equal_pair (leads_to s) (roots s p) (all_new equal_pair queue (leads_to s c)) (suc n)) long
        (subst (λ (l : List Pair). IsQueue equal_pair (leads_to s) (roots s p) (all_new equal_pair l (leads_to s c)) (suc (length front))) (sym split) after)

    taken : take (suc at) (all_new equal_pair queue (leads_to s c)) ≡ front ++ c ∷ []
    taken =
        front_take (suc at) queue (all_new equal_pair queue (leads_to s c)) (all_new_front equal_pair queue (leads_to s c)) (omega (arith, within))
        ∙ (take-suc queue at c within ∙ ap (λ (r : Pair). front ++ r ∷ []) (sym e))

    opened : all_new equal_var open_vars (open_roots s c) ≡ each_once equal_var (flat_map (open_roots s) (take (suc at) (all_new equal_pair queue (leads_to s c))))
    opened =
        ap (λ (l : List VarName). all_new equal_var l (open_roots s c)) h.open_ones
        ∙ (sym (all_new_append equal_var [] (flat_map (open_roots s) front) (open_roots s c))
        ∙ (ap (λ (l : List VarName). each_once equal_var (flat_map (open_roots s) front ++ l)) (sym (append-nil (open_roots s c)))
        ∙ (ap (λ (l : List VarName). each_once equal_var l) (sym (flat_map-append (open_roots s) front (c ∷ []))) ∙ ap (λ (l : List Pair). each_once equal_var (flat_map (open_roots s) l)) (sym taken))))

    no_one : list_any (tells_apart s) (take (suc at) (all_new equal_pair queue (leads_to s c))) ≡ false
    no_one = ap (λ (l : List Pair). list_any (tells_apart s) l) taken ∙ (list_any-append (tells_apart s) front (c ∷ []) ∙ rw (h.together, together) refl)

-- a pair that is apart
pub search_classes_apart : (s : Store) (p : Pair) (queue : List Pair) (open_vars : List VarName) (at : ℕ) (c : Pair) → IsSearch s p queue open_vars at → Contains queue c → is_apart (relation s c) ≡ true → compared s p ≡ Different
search_classes_apart s p queue open_vars at c h there apart = go (search_among s p queue open_vars at h)
  where
    go : IsFront queue (classes_within s p (depth_of s)) → compared s p ≡ Different
    go (zs, f) =
        let among : Contains (classes_within s p (depth_of s)) c = subst (λ (l : List Pair). Contains l c) (sym f) (Contains-append_left queue zs c there) in
        let yes : list_any (tells_apart s) (pairs_within s p (depth_of s)) ≡ true = apart_by_classes s p (depth_of s) ∙ any_has (tells_apart s) (classes_within s p (depth_of s)) c among apart in
        rw yes refl

-- all pairs are looked at
pub search_ends : (s : Store) (p : Pair) (queue : List Pair) (open_vars : List VarName) (at : ℕ) → IsSearch s p queue open_vars at → length queue ≤ at → compared s p ≡ unless_open open_vars
search_ends s p queue open_vars at h past =
    let whole : take at queue ≡ queue = take_all at queue past in
    let last : at ≡ length queue = let within = h.queued.within in omega (arith, within, past) in
    let ended : IsQueue equal_pair (leads_to s) (roots s p) queue (length queue) = subst (λ (n : ℕ). IsQueue equal_pair (leads_to s) (roots s p) queue n) last h.queued in
    let all : queue ≡ classes_within s p (depth_of s) = queue_ends equal_pair (leads_to s) (roots s p) (leads s) same_pair_decides (tells_leads s) (depth_of s) (few_lead s p) queue ended in
    let seen : take at queue ≡ classes_within s p (depth_of s) = whole ∙ all in
    let none : list_any (tells_apart s) (pairs_within s p (depth_of s)) ≡ false = apart_by_classes s p (depth_of s) ∙ (ap (λ (l : List Pair). list_any (tells_apart s) l) (sym seen) ∙ h.together) in
    let open_now : open_within s p (depth_of s) ≡ open_vars = open_by_classes s p (depth_of s) ∙ (ap (λ (l : List Pair). each_once equal_var (flat_map (open_roots s) l)) (sym seen) ∙ sym h.open_ones) in
    rw (none, open_now) refl
