-- Numbers in ascending order: where one stands, and queues with one more and without it.
use Rattle.std.proofs.Common.{rules, arith, ◌≡◌, ◌≢◌, ◌∙◌, sym, ap, refl, subst, ℕ, zero, suc, ◌<◌, ◌≤◌, ◌-◌, List, [], ◌∷◌, ◌++◌, length, get_or, drop, Bool, true, false, cond, ◌||◌}
use Rattle.std.specs.Prelude.{nat_lt, ◌==◌, Option, Some, None, OnSome}
use Rattle.std.specs.List.{insert, remove}
use Rattle.std.specs.List.Sorted.{IsPartitionedBy}
use Rattle.std.specs.Ordering.{nat_cmp}
use Rattle.std.specs.BTreeMap.{is_at}
use Rattle.std.proofs.lemmas.Bool.{or_parts}
use Rattle.std.proofs.lemmas.Bool.Decides.{Decides-eqb}
use Rattle.tree_node.specs.Each.{Each}
use Rattle.tree_node.proofs.EnvLemmas.{each_at}
use Rattle.world_core.specs.Mail.{is_queued, with_bit, without_bit}
use Rattle.world_core.specs.Queue.{IsAscending, IsPlaceAmong}
use Rattle.world_core.proofs.MailLemmas.{same_number}

-- ---- single numbers

equal_here : (a : ℕ) → (a == a) ≡ true
equal_here a = (Decides-eqb a a).1 refl

same_here : (a : ℕ) → is_at (nat_cmp a) a ≡ true
same_here a = same_number a a ∙ equal_here a

differs : (a b : ℕ) → a ≢ b → is_at (nat_cmp a) b ≡ false
differs a b other = same_number a b ∙ go (a == b) refl
  where
    go : (t : Bool) → (a == b) ≡ t → t ≡ false
    go true e = absurd (other ((Decides-eqb a b).0 e))
    go false e = refl

is_so : (a b : ℕ) → a < b → nat_lt a b ≡ true
is_so a b h = search rules

below_yes : (a b : ℕ) → nat_lt a b ≡ true → a < b
below_yes a b h = search rules

below_no : (a b : ℕ) → nat_lt a b ≡ false → b ≤ a
below_no a b h = search rules

-- one more number
bit : (x k : ℕ) (old : Bool) → (is_at (nat_cmp k) x || old) ≡ cond (x == k) true old
bit x k old = go (x == k) refl
  where
    go : (t : Bool) → (x == k) ≡ t → (is_at (nat_cmp k) x || old) ≡ cond t true old
    go true e = ap (λ (b : Bool). b || old) (same_number k x ∙ (Decides-eqb k x).1 (sym ((Decides-eqb x k).0 e)))
    go false e = ap (λ (b : Bool). b || old) (differs k x (λ is. let same : (x == k) ≡ true = (Decides-eqb x k).1 (sym is) in cc))

-- ---- numbers that are not there

absent : (ks : List ℕ) (x : ℕ) → Each (λ (k : ℕ). x < k) ks → is_queued ks x ≡ false
absent [] x h = refl
absent (k ∷ ks) x h = ap (λ (b : Bool). b || is_queued ks x) (differs x k (λ is. absurd (let low = h.0 in omega (arith, is)))) ∙ absent ks x h.1

above_more : (a b : ℕ) → a ≤ b → (ks : List ℕ) → Each (λ (k : ℕ). b < k) ks → Each (λ (k : ℕ). a < k) ks
above_more a b h [] g = tt
above_more a b h (k ∷ ks) g = (let low = g.0 in omega arith, above_more a b h ks g.1)

pub with_same : (ks : List ℕ) (x k : ℕ) → is_queued ks x ≡ true → is_queued ks k ≡ with_bit x (is_queued ks) k
with_same ks x k there = go (x == k) refl
  where
    go : (t : Bool) → (x == k) ≡ t → is_queued ks k ≡ cond t true (is_queued ks k)
    go true e = ap (is_queued ks) (sym ((Decides-eqb x k).0 e)) ∙ there
    go false e = refl

pub without_same : (ks : List ℕ) (x k : ℕ) → is_queued ks x ≡ false → is_queued ks k ≡ without_bit x (is_queued ks) k
without_same ks x k none = go (x == k) refl
  where
    go : (t : Bool) → (x == k) ≡ t → is_queued ks k ≡ cond t false (is_queued ks k)
    go true e = ap (is_queued ks) (sym ((Decides-eqb x k).0 e)) ∙ none
    go false e = refl

-- ---- the last and the first

-- where the last is below a number all are
pub below_last : (ks : List ℕ) (i x d : ℕ) → length ks ≡ suc i → IsAscending ks → get_or ks i d < x → Each (λ (k : ℕ). k < x) ks
below_last [] i x d e h low = absurd (omega arith)
below_last (k ∷ []) zero x d e h low = (low, tt)
below_last (k ∷ []) (suc i) x d e h low = absurd (omega arith)
below_last (k ∷ m ∷ ks) zero x d e h low = absurd (omega arith)
below_last (k ∷ m ∷ ks) (suc i) x d e h low =
    let rest = below_last (m ∷ ks) i x d (omega arith) h.1 low in
    (let least = h.0.0 in let most = rest.0 in omega arith, rest)

pub first_least : (k : ℕ) (ks : List ℕ) → IsAscending (k ∷ ks) → (m : ℕ) → is_queued (k ∷ ks) m ≡ true → k ≤ m
first_least k ks h m e = go (nat_lt m k) refl
  where
    go : (t : Bool) → nat_lt m k ≡ t → k ≤ m
    go true low =
        let less : m < k = below_yes m k low in
        let none : is_queued (k ∷ ks) m ≡ false = absent (k ∷ ks) m (less, above_more m k (omega arith) ks h.0) in
        cc
    go false high = below_no m k high

pub first_there : (k : ℕ) (ks : List ℕ) → is_queued (k ∷ ks) k ≡ true
first_there k ks = ap (λ (b : Bool). b || is_queued ks k) (same_here k)

-- ---- the place of a number

-- the numbers below one come first
pub below_first : (ks : List ℕ) (x : ℕ) → IsAscending ks → IsPartitionedBy (λ (k : ℕ). nat_lt k x) ks
below_first [] x h i j d order inside low = absurd (omega arith)
below_first (k ∷ ks) x h zero zero d order inside low = low
below_first (k ∷ ks) x h zero (suc j) d order inside low =
    let above : k < get_or ks j d = each_at (λ (m : ℕ). k < m) ks j d h.0 (omega arith) in
    let less : get_or ks j d < x = below_yes (get_or ks j d) x low in
    is_so k x (omega arith)
below_first (k ∷ ks) x h (suc i) zero d order inside low = absurd (omega arith)
below_first (k ∷ ks) x h (suc i) (suc j) d order inside low = below_first ks x h.1 i j d (omega arith) (omega arith) low

place_rest : (k : ℕ) (ks : List ℕ) (x place : ℕ) → IsPlaceAmong (k ∷ ks) x (suc place) → IsPlaceAmong ks x place
place_rest k ks x place h = (
  λ m d low high. h.0 (suc m) d (omega arith) (omega arith),
  λ m d low high. h.1 (suc m) d (omega arith) (omega arith),
)

or_none : (b c : Bool) → c ≡ false → (b || c) ≡ b
or_none true c e = refl
or_none false c e = e

turned : (a b : ℕ) → (a == b) ≡ (b == a)
turned a b = go (a == b) (b == a) refl refl
  where
    go : (s t : Bool) → (a == b) ≡ s → (b == a) ≡ t → s ≡ t
    go true true e f = refl
    go false false e f = refl
    go true false e f = let same : (b == a) ≡ true = (Decides-eqb b a).1 (sym ((Decides-eqb a b).0 e)) in cc
    go false true e f = let same : (a == b) ≡ true = (Decides-eqb a b).1 (sym ((Decides-eqb b a).0 f)) in cc

-- behind all of them it is none of theirs
pub place_behind : (ks : List ℕ) (x place : ℕ) → IsPlaceAmong ks x place → length ks ≤ place → is_queued ks x ≡ false
place_behind [] x place h all = refl
place_behind (k ∷ ks) x zero h all = absurd (omega arith)
place_behind (k ∷ ks) x (suc place) h all =
    ap (λ (b : Bool). b || is_queued ks x) (differs x k (λ is. absurd (let low = below_yes k x (h.0 0 k (omega arith) (omega arith)) in omega (arith, is))))
    ∙ place_behind ks x place (place_rest k ks x place h) (omega arith)

-- else it is one of theirs exactly where it stands at its place
pub place_holds : (ks : List ℕ) (x place d : ℕ) → IsAscending ks → IsPlaceAmong ks x place → place < length ks → is_queued ks x ≡ (get_or ks place d == x)
place_holds [] x place d order h inside = absurd (omega arith)
place_holds (k ∷ ks) x zero d order h inside =
    or_none (is_at (nat_cmp x) k) (is_queued ks x) (absent ks x (above_more x k (below_no k x (h.1 0 k (omega arith) (omega arith))) ks order.0))
    ∙ same_number x k ∙ turned x k
place_holds (k ∷ ks) x (suc place) d order h inside =
    ap (λ (b : Bool). b || is_queued ks x) (differs x k (λ is. absurd (let low = below_yes k x (h.0 0 k (omega arith) (omega arith)) in omega (arith, is))))
    ∙ place_holds ks x place d order.1 (place_rest k ks x place h) (omega arith)

-- ---- one number more

each_push : (ks : List ℕ) (m x : ℕ) → Each (λ (k : ℕ). m < k) ks → m < x → Each (λ (k : ℕ). m < k) (ks ++ x ∷ [])
each_push [] m x h low = (low, tt)
each_push (k ∷ ks) m x h low = (h.0, each_push ks m x h.1 low)

pub ascends_push : (ks : List ℕ) (x : ℕ) → IsAscending ks → Each (λ (k : ℕ). k < x) ks → IsAscending (ks ++ x ∷ [])
ascends_push [] x h low = (tt, tt)
ascends_push (k ∷ ks) x h low = (each_push ks k x h.0 low.0, ascends_push ks x h.1 low.1)

more : (b t old new : Bool) → new ≡ cond t true old → (b || new) ≡ cond t true (b || old)
more true true old new e = refl
more true false old new e = refl
more false t old new e = e

pub queued_push : (ks : List ℕ) (x k : ℕ) → is_queued (ks ++ x ∷ []) k ≡ with_bit x (is_queued ks) k
queued_push [] x k = bit x k false
queued_push (m ∷ ks) x k = more (is_at (nat_cmp k) m) (x == k) (is_queued ks k) (is_queued (ks ++ x ∷ []) k) (queued_push ks x k)

pub queued_put : (ks : List ℕ) (place x k : ℕ) → is_queued (insert ks place x) k ≡ with_bit x (is_queued ks) k
queued_put [] zero x k = bit x k false
queued_put [] (suc place) x k = bit x k false
queued_put (m ∷ ks) zero x k = bit x k (is_queued (m ∷ ks) k)
queued_put (m ∷ ks) (suc place) x k = more (is_at (nat_cmp k) m) (x == k) (is_queued ks k) (is_queued (insert ks place x) k) (queued_put ks place x k)

each_put : (ks : List ℕ) (place m x : ℕ) → Each (λ (k : ℕ). m < k) ks → m < x → Each (λ (k : ℕ). m < k) (insert ks place x)
each_put [] zero m x h low = (low, tt)
each_put [] (suc place) m x h low = (low, tt)
each_put (k ∷ ks) zero m x h low = (low, h)
each_put (k ∷ ks) (suc place) m x h low = (h.0, each_put ks place m x h.1 low)

pub ascends_put : (ks : List ℕ) (x place : ℕ) → IsAscending ks → IsPlaceAmong ks x place → place ≤ length ks → is_queued ks x ≡ false → IsAscending (insert ks place x)
ascends_put [] x zero h at inside none = (tt, tt)
ascends_put [] x (suc place) h at inside none = absurd (omega arith)
ascends_put (k ∷ ks) x zero h at inside none =
    let most : x ≤ k = below_no k x (at.1 0 k (omega arith) (omega arith)) in
    let apart : is_at (nat_cmp x) k ≡ false = (or_parts (is_at (nat_cmp x) k) (is_queued ks x) none).0 in
    let less : x < k = go most apart (nat_lt x k) refl in
    ((less, above_more x k most ks h.0), h)
  where
    go : x ≤ k → is_at (nat_cmp x) k ≡ false → (t : Bool) → nat_lt x k ≡ t → x < k
    go most apart true e = below_yes x k e
    go most apart false e =
        let least : k ≤ x = below_no x k e in
        let same : x ≡ k = omega arith in
        let hit : is_at (nat_cmp x) k ≡ true = subst (λ (m : ℕ). is_at (nat_cmp x) m ≡ true) same (same_here x) in
        cc
ascends_put (k ∷ ks) x (suc place) h at inside none = (
  each_put ks place k x h.0 (below_yes k x (at.0 0 k (omega arith) (omega arith))),
  ascends_put ks x place h.1 (place_rest k ks x place at) (omega arith) (or_parts (is_at (nat_cmp x) k) (is_queued ks x) none).1,
)

-- ---- one number less

each_gone : (ks : List ℕ) (place m : ℕ) → Each (λ (k : ℕ). m < k) ks → Each (λ (k : ℕ). m < k) (remove ks place)
each_gone [] zero m h = tt
each_gone [] (suc place) m h = tt
each_gone (k ∷ ks) zero m h = h.1
each_gone (k ∷ ks) (suc place) m h = (h.0, each_gone ks place m h.1)

pub ascends_gone : (ks : List ℕ) (place : ℕ) → IsAscending ks → IsAscending (remove ks place)
ascends_gone [] zero h = tt
ascends_gone [] (suc place) h = tt
ascends_gone (k ∷ ks) zero h = h.1
ascends_gone (k ∷ ks) (suc place) h = (each_gone ks place k h.0, ascends_gone ks place h.1)

pub first_gone : (ks : List ℕ) → 0 < length ks → drop 1 ks ≡ remove ks 0
first_gone [] some = absurd (omega arith)
first_gone (k ∷ ks) some = refl

pub queued_gone : (ks : List ℕ) (place x d k : ℕ) → IsAscending ks → place < length ks → get_or ks place d ≡ x → is_queued (remove ks place) k ≡ without_bit x (is_queued ks) k
queued_gone [] place x d k h inside is = absurd (omega arith)
queued_gone (m ∷ ks) zero x d k h inside is = go (x == k) refl
  where
    go : (t : Bool) → (x == k) ≡ t → is_queued ks k ≡ cond t false (is_at (nat_cmp k) m || is_queued ks k)
    go true e = subst (λ (n : ℕ). is_queued ks n ≡ false) (is ∙ (Decides-eqb x k).0 e) (absent ks m h.0)
    go false e = sym (ap (λ (b : Bool). b || is_queued ks k) (differs k m (λ same. let hit : (x == k) ≡ true = (Decides-eqb x k).1 (sym is ∙ sym same) in cc)))
queued_gone (m ∷ ks) (suc place) x d k h inside is = go (x == k) refl (queued_gone ks place x d k h.1 (omega arith) is)
  where
    above : m < x
    above = subst (λ (n : ℕ). m < n) is (each_at (λ (n : ℕ). m < n) ks place d h.0 (omega arith))

    go : (t : Bool) → (x == k) ≡ t → is_queued (remove ks place) k ≡ cond t false (is_queued ks k) → (is_at (nat_cmp k) m || is_queued (remove ks place) k) ≡ cond t false (is_at (nat_cmp k) m || is_queued ks k)
    go true e rest =
        let same : x ≡ k = (Decides-eqb x k).0 e in
        let low = above in
        ap (λ (b : Bool). b || is_queued (remove ks place) k) (differs k m (λ hit. absurd (omega (arith, same, hit, low)))) ∙ rest
    go false e rest = ap (λ (b : Bool). is_at (nat_cmp k) m || b) rest

-- ---- what the ends of a list tell

pub below_end : (ks : List ℕ) (n x d : ℕ) → n ≡ length ks → IsAscending ks → d ≡ get_or ks (n - 1) d → d < x → Each (λ (k : ℕ). k < x) ks
below_end [] n x d e h is low = tt
below_end (k ∷ ks) n x d e h is low = below_last (k ∷ ks) (n - 1) x d (omega (arith, e)) h (subst (λ (m : ℕ). m < x) is low)

pub none_behind : (ks : List ℕ) (x : ℕ) → length ks ≡ 0 → Each (λ (k : ℕ). k < x) ks
none_behind [] x e = tt
none_behind (k ∷ ks) x e = absurd (omega arith)

pub front_none : (ks : List ℕ) (k : ℕ) → length ks ≡ 0 → is_queued ks k ≡ false
front_none [] k e = refl
front_none (m ∷ ks) k e = absurd (omega arith)

pub front_there : (ks : List ℕ) (d : ℕ) → 0 < length ks → is_queued ks (get_or ks 0 d) ≡ true
front_there [] d some = absurd (omega arith)
front_there (m ∷ ks) d some = first_there m ks

pub front_least : (ks : List ℕ) (d k : ℕ) → 0 < length ks → IsAscending ks → is_queued ks k ≡ true → get_or ks 0 d ≤ k
front_least [] d k some h there = absurd (omega arith)
front_least (m ∷ ks) d k some h there = first_least m ks h k there

pub one_there : (ks : List ℕ) → (length ks ≡ 0 → ⊥) → (k : ℕ) × (is_queued ks k ≡ true)
one_there [] some = absurd (some refl)
one_there (m ∷ ks) some = (m, first_there m ks)

pub no_length : (n : ℕ) → (0 < n → false ≡ true) → n ≡ 0
no_length zero h = refl
no_length (suc n) h = let no : false ≡ true = h (omega arith) in cc

pub on_some : {X P : Type 0} (o : Option X) (x : X) → o ≡ Some x → OnSome o P → P
on_some None x e h = cc
on_some (Some y) x e h = h
