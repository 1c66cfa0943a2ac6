-- How deep heads before a list are.
use Rattle.std.proofs.Common.{arith, ◌≡◌, ◌∙◌, sym, ap, refl, ℕ, ◌+◌, ◌-◌, ◌<◌, ◌≤◌, List, length, take, get_or, Bool, true, false, Option, None, Some, Result}
use Rattle.std.specs.Prelude.{nat_lt, if◌then◌else◌}
use Rattle.kernel_syntax.specs.declared.sugar.Link.{Link}
use Rattle.kernel_syntax.specs.declared.sugar.Link as links
use Rattle.kernel_syntax.specs.Sugar.{Value, left_of, by_kind, new_of, pair_values, pair_of}
use Rattle.kernel_syntax.specs.SugarView.{value_of, before, behind_all, head_in, list_place}
use Rattle.oz_sugar.specs.Deep.{or_else, or_behind, too_deep, deep_value, deep_fields, deep_list, deep_head, deep_behind}
use Rattle.sugar_rows.proofs.Pairs.{new_two}
use Rattle.sugar_rows.proofs.Lists.{one_before}
use Rattle.oz_sugar.proofs.Pairs.{deep_two}

-- in two that are too deep at one place
pub both_deep : (n left : ℕ) (a b : Option ℕ) → or_else (too_deep n left a) (too_deep n left b) ≡ too_deep n left (or_else a b)
both_deep n left a b = go (nat_lt 200 n)
  where
    go : (c : Bool) → or_else (if c then Some left else a) (if c then Some left else b) ≡ (if c then Some left else or_else a b)
    go true = refl
    go false = refl

parted : (n left at : ℕ) (o : Option ℕ) (hu : Value × Value) → too_deep n at (or_else o (deep_list hu left n)) ≡ deep_behind (or_behind (too_deep n at o) (left, n)) hu
parted n left at o hu = go (nat_lt 200 n) o
  where
    go : (c : Bool) (o : Option ℕ) → (if c then Some at else or_else o (deep_list hu left n)) ≡ deep_behind (or_behind (if c then Some at else o) (left, n)) hu
    go true o = refl
    go false (Some first) = refl
    go false None = refl

head_deep : (h : Value) (left at : ℕ) (hu : Value × Value) (d : ℕ) → deep_list (h, pair_of left hu) at d ≡ deep_behind (deep_head h left at d) hu
head_deep h left at hu d =
    let deeper : d + (new_of h + 1) ≡ d + new_of h + 1 = omega arith in
    ap (λ (n : ℕ). too_deep (d + n) at (deep_fields (pair_values h (pair_of left hu)) (d + n))) (new_two h (pair_of left hu))
    ∙ ap (λ (n : ℕ). too_deep n at (deep_fields (pair_values h (pair_of left hu)) n)) deeper
    ∙ ap (too_deep (d + new_of h + 1) at) (deep_two h (pair_of left hu) (d + new_of h + 1))
    ∙ parted (d + new_of h + 1) left at (by_kind h None (deep_value h (left_of h) (d + new_of h + 1))) hu

link_deep : (k : Link) (at : ℕ) (hu : Value × Value) (d : ℕ) → deep_list (before k hu) at d ≡ deep_behind (deep_head (head_in k) (list_place k) at d) hu
link_deep (links.Before left h) at hu d = head_deep (value_of h) left at hu d

pub heads_deep : (ks : List Link) (i : ℕ) (k : Link) (at d : ℕ) (r : Result (ℕ × ℕ) ℕ) → 0 < i → i ≤ length ks → k ≡ get_or ks (i - 1) k → r ≡ deep_head (head_in k) (list_place k) at d
    → (hu : Value × Value) → deep_list (behind_all hu (take i ks)) at d ≡ deep_behind r (behind_all hu (take (i - 1) ks))
heads_deep ks i k at d r some few is told hu =
    ap (λ (p : Value × Value). deep_list p at d) (one_before hu ks i k some few is)
    ∙ link_deep k at (behind_all hu (take (i - 1) ks)) d
    ∙ ap (λ (o : Result (ℕ × ℕ) ℕ). deep_behind o (behind_all hu (take (i - 1) ks))) (sym told)
