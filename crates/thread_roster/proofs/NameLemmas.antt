-- Threads by name in lists.
use Rattle.std.proofs.Common.{◌≡◌, ◌≢◌, ap, refl, ◌⊎◌, inl, inr, List, [], ◌∷◌, ◌++◌, Bool, true, false, cond, Some, None}
use Rattle.tree_node.specs.declared.names.ThreadName.{ThreadName}
use Rattle.tree_node.specs.Assoc.{value_of, without_key}
use Rattle.tree_node.specs.State.{equal_thread}
use Rattle.thread_roster.specs.declared.mode.Mode.{Mode}
use Rattle.thread_roster.specs.Threads.{Entry, set_value, set_mode}
use Rattle.tree_node.proofs.NameLemmas.{same_thread_decides}

pub is_same : (a b : ThreadName) → a ≡ b → equal_thread a b ≡ true
is_same a b e = (same_thread_decides a b).1 e

pub is_other : (a b : ThreadName) → a ≢ b → equal_thread a b ≡ false
is_other a b h = go (equal_thread a b) refl
  where
    go : (r : Bool) → equal_thread a b ≡ r → equal_thread a b ≡ false
    go true e = absurd (h ((same_thread_decides a b).0 e))
    go false e = e

pub name_cases : (n k : ThreadName) → (n ≡ k) ⊎ (n ≢ k)
name_cases n k = go (equal_thread n k) refl
  where
    go : (r : Bool) → equal_thread n k ≡ r → (n ≡ k) ⊎ (n ≢ k)
    go true e = inl ((same_thread_decides n k).0 e)
    go false e = inr (λ same. let yes : equal_thread n k ≡ true = is_same n k same in cc)

-- ---- a name in two lists

abbrev pub Unnamed : {W : Type 0} → List (ThreadName × W) → ThreadName → Type 0
Unnamed xs n = value_of equal_thread xs n ≡ None

pub value_right : {W : Type 0} (xs ys : List (ThreadName × W)) (n : ThreadName) → Unnamed xs n → value_of equal_thread (xs ++ ys) n ≡ value_of equal_thread ys n
value_right [] ys n h = refl
value_right {W} (x ∷ xs) ys n h = go (equal_thread x.0 n) refl h (λ k. value_right xs ys n k)
  where
    go : (r : Bool) → equal_thread x.0 n ≡ r → cond r (Some x.1) (value_of equal_thread xs n) ≡ None → (Unnamed xs n → value_of equal_thread (xs ++ ys) n ≡ value_of equal_thread ys n) →
        cond r (Some x.1) (value_of equal_thread (xs ++ ys) n) ≡ value_of equal_thread ys n
    go true e h ih = cc
    go false e h ih = ih h

pub value_left : {W : Type 0} (xs ys : List (ThreadName × W)) (n : ThreadName) (w : W) → value_of equal_thread xs n ≡ Some w → value_of equal_thread (xs ++ ys) n ≡ Some w
value_left [] ys n w h = cc
value_left {W} (x ∷ xs) ys n w h = go (equal_thread x.0 n) h (λ k. value_left xs ys n w k)
  where
    go : (r : Bool) → cond r (Some x.1) (value_of equal_thread xs n) ≡ Some w → (value_of equal_thread xs n ≡ Some w → value_of equal_thread (xs ++ ys) n ≡ Some w) →
        cond r (Some x.1) (value_of equal_thread (xs ++ ys) n) ≡ Some w
    go true h ih = h
    go false h ih = ih h

pub one_here : {W : Type 0} (x : ThreadName × W) (n : ThreadName) → x.0 ≡ n → value_of equal_thread (x ∷ []) n ≡ Some x.1
one_here x n e = rw (is_same x.0 n e) refl

pub one_other : {W : Type 0} (x : ThreadName × W) (n : ThreadName) → x.0 ≢ n → Unnamed (x ∷ []) n
one_other x n h = rw (is_other x.0 n h) refl

pub without_append : {W : Type 0} (xs ys : List (ThreadName × W)) (n : ThreadName) → without_key equal_thread (xs ++ ys) n ≡ without_key equal_thread xs n ++ without_key equal_thread ys n
without_append [] ys n = refl
without_append {W} (x ∷ xs) ys n = go (equal_thread x.0 n) (without_append xs ys n)
  where
    go : (r : Bool) → without_key equal_thread (xs ++ ys) n ≡ without_key equal_thread xs n ++ without_key equal_thread ys n →
        cond r (without_key equal_thread (xs ++ ys) n) (x ∷ without_key equal_thread (xs ++ ys) n) ≡ cond r (without_key equal_thread xs n) (x ∷ without_key equal_thread xs n) ++ without_key equal_thread ys n
    go true ih = ih
    go false ih = ap (λ (l : List (ThreadName × W)). x ∷ l) ih

pub without_none : {W : Type 0} (xs : List (ThreadName × W)) (n : ThreadName) → Unnamed xs n → without_key equal_thread xs n ≡ xs
without_none [] n h = refl
without_none {W} (x ∷ xs) n h = go (equal_thread x.0 n) h (λ k. without_none xs n k)
  where
    go : (r : Bool) → cond r (Some x.1) (value_of equal_thread xs n) ≡ None → (Unnamed xs n → without_key equal_thread xs n ≡ xs) →
        cond r (without_key equal_thread xs n) (x ∷ without_key equal_thread xs n) ≡ x ∷ xs
    go true h ih = cc
    go false h ih = ap (λ (l : List (ThreadName × W)). x ∷ l) (ih h)

-- ---- one thread changes

-- the thread of a name has both, which f makes of what it has
abbrev pub set_both : {V : Type 0} → (V × Mode → V × Mode) → List (Entry V) → ThreadName → List (Entry V)
set_both f [] n = []
set_both f (t ∷ ts) n = cond (equal_thread t.0 n) ((n, f t.1) ∷ ts) (t ∷ set_both f ts n)

pub both_left : {V : Type 0} (f : V × Mode → V × Mode) (xs ys : List (Entry V)) (n : ThreadName) (w : V × Mode) → value_of equal_thread xs n ≡ Some w → set_both f (xs ++ ys) n ≡ set_both f xs n ++ ys
both_left f [] ys n w h = cc
both_left {V} f (x ∷ xs) ys n w h = go (equal_thread x.0 n) h (λ k. both_left f xs ys n w k)
  where
    go : (r : Bool) → cond r (Some x.1) (value_of equal_thread xs n) ≡ Some w → (value_of equal_thread xs n ≡ Some w → set_both f (xs ++ ys) n ≡ set_both f xs n ++ ys) →
        cond r ((n, f x.1) ∷ (xs ++ ys)) (x ∷ set_both f (xs ++ ys) n) ≡ cond r ((n, f x.1) ∷ xs) (x ∷ set_both f xs n) ++ ys
    go true h ih = refl
    go false h ih = ap (λ (l : List (Entry V)). x ∷ l) (ih h)

pub both_right : {V : Type 0} (f : V × Mode → V × Mode) (xs ys : List (Entry V)) (n : ThreadName) → Unnamed xs n → set_both f (xs ++ ys) n ≡ xs ++ set_both f ys n
both_right f [] ys n h = refl
both_right {V} f (x ∷ xs) ys n h = go (equal_thread x.0 n) h (λ k. both_right f xs ys n k)
  where
    go : (r : Bool) → cond r (Some x.1) (value_of equal_thread xs n) ≡ None → (Unnamed xs n → set_both f (xs ++ ys) n ≡ xs ++ set_both f ys n) →
        cond r ((n, f x.1) ∷ (xs ++ ys)) (x ∷ set_both f (xs ++ ys) n) ≡ x ∷ (xs ++ set_both f ys n)
    go true h ih = cc
    go false h ih = ap (λ (l : List (Entry V)). x ∷ l) (ih h)

pub set_value_both : {V : Type 0} (ts : List (Entry V)) (n : ThreadName) (v : V) → set_both (λ (w : V × Mode). (v, w.1)) ts n ≡ set_value ts n v
set_value_both [] n v = refl
set_value_both {V} (t ∷ ts) n v = ap (λ (l : List (Entry V)). cond (equal_thread t.0 n) ((n, (v, t.1.1)) ∷ ts) (t ∷ l)) (set_value_both ts n v)

pub set_mode_both : {V : Type 0} (ts : List (Entry V)) (n : ThreadName) (m : Mode) → set_both (λ (w : V × Mode). (w.0, m)) ts n ≡ set_mode ts n m
set_mode_both [] n m = refl
set_mode_both {V} (t ∷ ts) n m = ap (λ (l : List (Entry V)). cond (equal_thread t.0 n) ((n, (t.1.0, m)) ∷ ts) (t ∷ l)) (set_mode_both ts n m)
