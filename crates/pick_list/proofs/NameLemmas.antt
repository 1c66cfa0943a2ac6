-- Rows of names, and columns of names in runs.
use Rattle.std.specs.Prelude.{reverse, drop}
use Rattle.std.proofs.Common.{arith, ◌≡◌, ◌≢◌, ◌∙◌, sym, ap, refl, subst, ℕ, zero, suc, ◌+◌, ◌-◌, ◌<◌, ◌≤◌, length, List, [], ◌∷◌, ◌++◌, take, get_or, add-one, ◌⊎◌, inl, inr}
use Rattle.std.proofs.lemmas.List.{append-nil, append_assoc, length-append, length-drop, reverse-append, take-append-drop, take-append-le, get_or_push, get_or_append_left, take_all, take_more}
use Rattle.std.proofs.lemmas.Bool.{cases_eq}
use Rattle.tree_node.specs.Each.{Each}
use Rattle.tree_node.specs.declared.names.VarName.{VarName}
use Rattle.tree_node.specs.declared.names.Name.{Name}
use Rattle.tree_node.specs.declared.names.Name.TheVariants as name
use Rattle.tree_node.proofs.FrontLemmas.{each_left}
use Rattle.pick_list.specs.declared.names.NameRun.{NameRun}
use Rattle.pick_list.specs.Names.{name_after, row_of, names_in, IsRow, IsRun, IsNameAfter, Follows, IsCutTo}
use Rattle.pick_list.proofs.ColumnLemmas.{reverse_push}

same_var : (s t m n : ℕ) → s ≡ t → m ≡ n → ◌≡◌ {A = Name} (name.Var (record { site = s; num = m })) (name.Var (record { site = t; num = n }))
same_var s t m n site num = cc

-- the name so many behind the one so many behind another one
after_after : (x y : Name) (m k : ℕ) → IsNameAfter x m y → name_after y k ≡ name_after x (m + k)
after_after (name.Var x) (name.Var y) m k is = same_var y.site x.site (y.num + k) (x.num + (m + k)) is.0 (let num = is.1 in omega arith)
after_after (name.Var x) (name.Cell y) m k is = absurd is
after_after (name.Var x) (name.Proc y) m k is = absurd is
after_after (name.Var x) (name.Thread y) m k is = absurd is
after_after (name.Var x) (name.Port y) m k is = absurd is
after_after (name.Cell x) y m k is = absurd is
after_after (name.Proc x) y m k is = absurd is
after_after (name.Thread x) y m k is = absurd is
after_after (name.Port x) y m k is = absurd is

-- names that follow those of a row make it longer
pub row_longer : (x y : Name) (m n : ℕ) → IsNameAfter x m y → row_of x (m + n) ≡ row_of x m ++ row_of y n
row_longer x y m zero is = let same : m + zero ≡ m = omega arith in ap (row_of x) same ∙ sym (append-nil (row_of x m))
row_longer x y m (suc n) is =
    let next : m + suc n ≡ suc (m + n) = omega arith in
    ap (row_of x) next
    ∙ (ap (λ (l : List Name). l ++ name_after x (m + n) ∷ []) (row_longer x y m n is)
    ∙ (ap (λ (z : Name). (row_of x m ++ row_of y n) ++ z ∷ []) (sym (after_after x y m n is))
    ∙ append_assoc (row_of x m) (row_of y n) (name_after y n ∷ [])))

-- the names of a column where its newest run gets longer
pub run_longer : (x y : Name) (m n : ℕ) (rs : List NameRun) → IsNameAfter x m y → names_in rs ++ row_of x (m + n) ≡ (names_in rs ++ row_of x m) ++ row_of y n
run_longer x y m n rs is = ap (λ (l : List Name). names_in rs ++ l) (row_longer x y m n is) ∙ sym (append_assoc (names_in rs) (row_of x m) (row_of y n))

pub row_length : (x : Name) (n : ℕ) → length (row_of x n) ≡ n
row_length x zero = refl
row_length x (suc n) = length-append (row_of x n) (name_after x n ∷ []) ∙ (ap (λ (m : ℕ). m + 1) (row_length x n) ∙ add-one n)

-- a row begins with the shorter ones
pub row_take : (x : Name) (n k : ℕ) → k ≤ n → take k (row_of x n) ≡ row_of x k
row_take x n k h = go (n - k) n (omega arith)
  where
    go : (d m : ℕ) → m ≡ k + d → take k (row_of x m) ≡ row_of x k
    go zero m e =
        let same : k ≡ m = omega (arith, e) in
        subst (λ (i : ℕ). take k (row_of x i) ≡ row_of x k) same (take_all k (row_of x k) (let l = row_length x k in omega arith))
    go (suc d) m e =
        let same : suc (k + d) ≡ m = omega (arith, e) in
        subst (λ (i : ℕ). take k (row_of x i) ≡ row_of x k) same
        (take-append-le k (row_of x (k + d)) (name_after x (k + d) ∷ []) (let l = row_length x (k + d) in omega arith) ∙ go d (k + d) refl)

-- the name at a place of a row
pub row_at : (x : Name) (n k : ℕ) (d : Name) → k < n → get_or (row_of x n) k d ≡ name_after x k
row_at x zero k d h = absurd (omega (arith, h))
row_at x (suc n) k d h = go (cases_eq k n) (row_length x n) (row_at x n k d)
  where
    go : (k ≡ n) ⊎ (k ≡ n → ⊥) → length (row_of x n) ≡ n → (k < n → get_or (row_of x n) k d ≡ name_after x k) → get_or (row_of x n ++ name_after x n ∷ []) k d ≡ name_after x k
    go (inl is) long rest = get_or_push (row_of x n) (name_after x n) d k (long ∙ sym is) ∙ ap (name_after x) (sym is)
    go (inr other) long rest =
        let apart : k ≢ n = other in
        let below : k < n = omega (arith, h) in
        get_or_append_left (row_of x n) (name_after x n ∷ []) d k (omega (arith, below, long)) ∙ rest below

pub row_next : (x : Name) (n : ℕ) → row_of x (n + 1) ≡ row_of x n ++ name_after x n ∷ []
row_next x n = ap (row_of x) (add-one n)

pub row_one : (x : VarName) → row_of (name.Var x) 1 ≡ name.Var x ∷ []
row_one x = ap (λ (y : Name). y ∷ []) (same_var x.site x.site (x.num + 0) x.num refl (omega arith))

-- a row of one name that follows those of another one makes a row
pub row_more : (x y : Name) (m n : ℕ) → IsNameAfter x m y → IsRow y n → IsRow x (m + n)
row_more (name.Var x) (name.Var y) m n is (inl few) = inr (let num = is.1 in let below = is.2 in omega arith)
row_more (name.Var x) (name.Var y) m n is (inr fits) = inr (let num = is.1 in omega arith)
row_more (name.Var x) (name.Cell y) m n is row = absurd is
row_more (name.Var x) (name.Proc y) m n is row = absurd is
row_more (name.Var x) (name.Thread y) m n is row = absurd is
row_more (name.Var x) (name.Port y) m n is row = absurd is
row_more (name.Cell x) y m n is row = absurd is
row_more (name.Proc x) y m n is row = absurd is
row_more (name.Thread x) y m n is row = absurd is
row_more (name.Port x) y m n is row = absurd is

-- ---- runs in a vector, the oldest first there

pub names_put : (old new : List NameRun) (r : NameRun) → new ≡ old ++ r ∷ [] → names_in (reverse new) ≡ names_in (reverse old) ++ row_of r.first r.count
names_put old new r is = ap (λ (l : List NameRun). names_in (reverse l)) is ∙ ap names_in (reverse_push old r)

pub runs_put : (old new : List NameRun) (r : NameRun) → new ≡ old ++ r ∷ [] → IsRun r → Each IsRun (reverse old) → Each IsRun (reverse new)
runs_put old new r is run all = subst (λ (l : List NameRun). Each IsRun l) (sym (ap reverse is ∙ reverse_push old r)) (run, all)

pub runs_taken : (old new : List NameRun) (r : NameRun) → new ≡ old ++ r ∷ [] → Each IsRun (reverse new) → IsRun r × Each IsRun (reverse old)
runs_taken old new r is all = subst (λ (l : List NameRun). Each IsRun l) (ap reverse is ∙ reverse_push old r) all

pub count_within : (old new : List NameRun) (r : NameRun) → new ≡ old ++ r ∷ [] → length (names_in (reverse new)) ≡ length (names_in (reverse old)) + r.count
count_within old new r is =
    ap (λ (l : List Name). length l) (names_put old new r is) ∙ (length-append (names_in (reverse old)) (row_of r.first r.count) ∙ ap (λ (m : ℕ). length (names_in (reverse old)) + m) (row_length r.first r.count))

pub last_followed : (old new : List NameRun) (r : NameRun) (y : Name) → new ≡ old ++ r ∷ [] → Follows (reverse new) y → IsNameAfter r.first r.count y
last_followed old new r y is after = subst (λ (l : List NameRun). Follows l y) (ap reverse is ∙ reverse_push old r) after

pub none_followed : (runs : List NameRun) (y : Name) → length runs ≡ 0 → Follows (reverse runs) y → ⊥
none_followed [] y none after = after
none_followed (r ∷ runs) y none after = absurd (omega (arith, none))

-- the run at a place is one
pub run_at : (runs : List NameRun) (k : ℕ) (d : NameRun) → k < length runs → Each IsRun (reverse runs) → IsRun (get_or runs k d)
run_at [] k d below all = absurd (omega (arith, below))
run_at (r ∷ runs) zero d below all = (each_left IsRun (reverse runs) (r ∷ []) (subst (λ (l : List NameRun). Each IsRun l) (reverse-append (r ∷ []) runs) all)).1.0
run_at (r ∷ runs) (suc k) d below all = run_at runs k d (omega (arith, below)) (each_left IsRun (reverse runs) (r ∷ []) (subst (λ (l : List NameRun). Each IsRun l) (reverse-append (r ∷ []) runs) all)).0

-- the names of one run more
pub names_more : (runs : List NameRun) (k : ℕ) (d : NameRun) → k < length runs →
    names_in (reverse (take (k + 1) runs)) ≡ names_in (reverse (take k runs)) ++ row_of (get_or runs k d).first (get_or runs k d).count
names_more runs k d below = names_put (take k runs) (take (k + 1) runs) (get_or runs k d) (take_more runs k d below)

-- ---- less names

-- a whole run more is gone
pub cut_run : (old mid new : List Name) (x : Name) (n gone all : ℕ) → IsCutTo old mid gone → mid ≡ new ++ row_of x n → n + gone ≡ all → IsCutTo old new all
cut_run old mid new x n gone all cut is sum = record {
  tail = row_of x n ++ cut.tail;
  names = cut.names ∙ (ap (λ (l : List Name). l ++ cut.tail) is ∙ append_assoc new (row_of x n) cut.tail);
  size = length-append (row_of x n) cut.tail ∙ (ap (λ (m : ℕ). m + length cut.tail) (row_length x n) ∙ (ap (λ (m : ℕ). n + m) cut.size ∙ sum));
}

-- a part of a run more is gone
pub cut_part : (old mid rest new : List Name) (x : Name) (n k gone all : ℕ) → IsCutTo old mid gone → mid ≡ rest ++ row_of x n → k ≤ n → new ≡ rest ++ row_of x k → n - k + gone ≡ all → IsCutTo old new all
cut_part old mid rest new x n k gone all cut is less left sum = record {
  tail = drop k (row_of x n) ++ cut.tail;
  names =
      cut.names
      ∙ (ap (λ (l : List Name). l ++ cut.tail) (is ∙ (ap (λ (l : List Name). rest ++ l) whole ∙ (sym (append_assoc rest (row_of x k) (drop k (row_of x n))) ∙ ap (λ (l : List Name). l ++ drop k (row_of x n)) (sym left))))
      ∙ append_assoc new (drop k (row_of x n)) cut.tail);
  size =
      length-append (drop k (row_of x n)) cut.tail
      ∙ (ap (λ (m : ℕ). m + length cut.tail) (length-drop k (row_of x n) ∙ ap (λ (m : ℕ). m - k) (row_length x n)) ∙ (ap (λ (m : ℕ). n - k + m) cut.size ∙ sum));
}
  where
    whole : row_of x n ≡ row_of x k ++ drop k (row_of x n)
    whole = sym (take-append-drop k (row_of x n)) ∙ ap (λ (l : List Name). l ++ drop k (row_of x n)) (row_take x n k less)
