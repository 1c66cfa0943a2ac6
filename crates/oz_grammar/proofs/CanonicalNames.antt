-- The identifiers V0, V1 and so on: all different, and each at its position.
use Rattle.std.proofs.Common.{◌≡◌, ◌∙◌, ◌≢◌, ℕ, zero, suc, ◌+◌, ◌-◌, ◌<◌, ◌≤◌, ◌^◌, List, [], ◌∷◌, ◌++◌, length, Bool, true, false, Some, None, refl, sym, ap, subst, arith, codes}
use Rattle.std.specs.Prelude.{decimal}
use Rattle.std.specs.Str.{bytes_eq}
use Rattle.std.proofs.lemmas.Fmt.{decimal_injective}
use Rattle.std.proofs.lemmas.Slice.Eq.{bytes_eq-Decides}
use Rattle.kernel_syntax.specs.declared.built_in.BuiltIn.{BuiltIn}
use Rattle.kernel_syntax.specs.declared.built_in.BuiltIn.TheVariants as built
use Rattle.oz_grammar.specs.Grammar.{Identifier}
use Rattle.oz_grammar.specs.Scoping.{position_of, is_declared, declaration_of, built_in_at, has_name}
use Rattle.oz_grammar.specs.Canonical.{name_at, names_from, built_in_name}

not_equal : (a b : List ℕ) → a ≢ b → bytes_eq a b ≡ false
not_equal a b differ = go (bytes_eq a b) refl
  where
    go : (t : Bool) → bytes_eq a b ≡ t → t ≡ false
    go true e = absurd (differ ((bytes_eq-Decides a b).0 e))
    go false e = refl

pub names_differ : (m n : ℕ) → m < 2 ^ 64 → n < 2 ^ 64 → m ≢ n → bytes_eq (name_at m) (name_at n) ≡ false
names_differ m n small other differ = not_equal (name_at m) (name_at n) (λ e. let same : decimal m ≡ decimal n = ap (λ (l : List ℕ). Rattle.std.proofs.Common.drop 1 l) e in differ (decimal_injective m n small other same))

pub itself : (n : ℕ) → bytes_eq (name_at n) (name_at n) ≡ true
itself n = (bytes_eq-Decides (name_at n) (name_at n)).1 refl

-- a name that stands before all others
before_all : (first count n : ℕ) → n < first → first + count ≤ 2 ^ 64 → position_of (names_from first count) (name_at n) ≡ None
before_all first zero n lt le = refl
before_all first (suc count) n lt le =
    let other = names_differ first n (omega (arith, le)) (omega (arith, lt, le)) (λ e. omega (arith, lt, e)) in
    let behind = before_all (first + 1) count n (omega (arith, lt)) (omega (arith, le)) in
    rw (other, behind) refl

position_from : (first count k : ℕ) → k < count → first + count ≤ 2 ^ 64 → position_of (names_from first count) (name_at (first + k)) ≡ Some k
position_from first zero k lt le = absurd (omega (arith, lt))
position_from first (suc count) zero lt le =
    let e : first + 0 ≡ first = omega arith in
    let behind : position_of (names_from (first + 1) count) (name_at (first + 0)) ≡ None = rw e (before_all (first + 1) count first (omega arith) (omega (arith, le))) in
    let here : bytes_eq (name_at first) (name_at (first + 0)) ≡ true = rw e (itself first) in
    rw (behind, here) refl
position_from first (suc count) (suc k) lt le =
    let e : first + suc k ≡ first + 1 + k = omega arith in
    let behind : position_of (names_from (first + 1) count) (name_at (first + suc k)) ≡ Some k = rw e (position_from (first + 1) count k (omega (arith, lt)) (omega (arith, le))) in
    let up : k + 1 ≡ suc k = omega arith in
    rw (behind, up) refl

pub position_is : (count k : ℕ) → k < count → count ≤ 2 ^ 64 → position_of (names_from 0 count) (name_at k) ≡ Some k
position_is count k lt le =
    let e : 0 + k ≡ k = omega arith in
    subst (λ (n : ℕ). position_of (names_from 0 count) (name_at n) ≡ Some k) e (position_from 0 count k lt (omega (arith, le)))

pub declared_at : (count k : ℕ) → k < count → count ≤ 2 ^ 64 → is_declared (names_from 0 count) (name_at k) ≡ true
declared_at count k lt le = rw (position_is count k lt le) refl

pub place_at : (count k : ℕ) → k < count → count ≤ 2 ^ 64 → declaration_of (names_from 0 count) (name_at k) ≡ k
place_at count k lt le = rw (position_is count k lt le) refl

pub length_from : (first count : ℕ) → length (names_from first count) ≡ count
length_from first zero = refl
length_from first (suc count) = ap suc (length_from (first + 1) count)

pub names_append : (first count more : ℕ) → names_from first (count + more) ≡ names_from first count ++ names_from (first + count) more
names_append first zero more =
    let e : first + 0 ≡ first = omega arith in
    let f : 0 + more ≡ more = omega arith in
    rw (e, f) refl
names_append first (suc count) more =
    let e : first + 1 + count ≡ first + suc count = omega arith in
    let f : suc count + more ≡ suc (count + more) = omega arith in
    subst (λ (n : ℕ). names_from first n ≡ names_from first (suc count) ++ names_from (first + suc count) more) (sym f) (ap (λ (xs : List Identifier). name_at first ∷ xs) (names_append (first + 1) count more ∙ rw e refl))

-- the next one is another than those so far
pub next_is_new : (first count : ℕ) → first + count < 2 ^ 64 → has_name (names_from first count) (name_at (first + count)) ≡ false
next_is_new first zero le = refl
next_is_new first (suc count) le =
    let e : first + suc count ≡ first + 1 + count = omega arith in
    let other : bytes_eq (name_at first) (name_at (first + suc count)) ≡ false = names_differ first (first + suc count) (omega (arith, le)) le (λ same. omega (arith, same)) in
    let behind : has_name (names_from (first + 1) count) (name_at (first + suc count)) ≡ false = rw e (next_is_new (first + 1) count (omega (arith, le))) in
    rw (other, behind) refl

-- ---- what is built in

undeclared_from : (first count x : ℕ) (xs : List ℕ) → x ≢ 86 → position_of (names_from first count) (x ∷ xs) ≡ None
undeclared_from first zero x xs other = refl
undeclared_from first (suc count) x xs other =
    let here : bytes_eq (name_at first) (x ∷ xs) ≡ false = not_equal (name_at first) (x ∷ xs) (λ e. let same : 86 ≡ x = ap (λ (l : List ℕ). Rattle.std.proofs.Common.get_or l 0 0) e in other (sym same)) in
    rw (undeclared_from (first + 1) count x xs other, here) refl

pub built_in_here : (b : BuiltIn) (count : ℕ) → built_in_at (names_from 0 count) (built_in_name b) ≡ Some b
unfolding built_in_at
built_in_here built.Browse count = rw (undeclared_from 0 count 66 (Rattle.std.proofs.Common.drop 1 (codes "Browse")) (λ e. omega (arith, e))) refl
built_in_here built.Wait count = rw (undeclared_from 0 count 87 (Rattle.std.proofs.Common.drop 1 (codes "Wait")) (λ e. omega (arith, e))) refl
built_in_here built.NewCell count = rw (undeclared_from 0 count 78 (Rattle.std.proofs.Common.drop 1 (codes "NewCell")) (λ e. omega (arith, e))) refl
built_in_here built.Exchange count = rw (undeclared_from 0 count 69 (Rattle.std.proofs.Common.drop 1 (codes "Exchange")) (λ e. omega (arith, e))) refl
built_in_here built.NewPort count = rw (undeclared_from 0 count 78 (Rattle.std.proofs.Common.drop 1 (codes "NewPort")) (λ e. omega (arith, e))) refl
built_in_here built.Send count = rw (undeclared_from 0 count 83 (Rattle.std.proofs.Common.drop 1 (codes "Send")) (λ e. omega (arith, e))) refl
built_in_here built.NewCellAt count = rw (undeclared_from 0 count 78 (Rattle.std.proofs.Common.drop 1 (codes "NewCellAt")) (λ e. omega (arith, e))) refl

pub no_built_in : (count k : ℕ) → k < count → count ≤ 2 ^ 64 → built_in_at (names_from 0 count) (name_at k) ≡ None
unfolding built_in_at
no_built_in count k lt le = rw (declared_at count k lt le) refl
