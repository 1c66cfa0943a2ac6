-- Heads before a list, and what is written of them.
use Rattle.std.proofs.Common.{arith, ◌≡◌, ◌≢◌, ◌∙◌, sym, ap, refl, ℕ, zero, suc, ◌+◌, ◌-◌, ◌<◌, ◌≤◌, List, [], ◌∷◌, ◌++◌, length, length-append, take, get_or}
use Rattle.std.proofs.lemmas.List.{set-append_left, length-set, take_more}
use Rattle.tree_node.specs.declared.names.CodeId.{CodeId}
use Rattle.kernel_syntax.specs.declared.stmt.Stmt.{Stmt}
use Rattle.kernel_syntax.specs.declared.stmt.Stmt.TheVariants as stmt
use Rattle.kernel_syntax.specs.declared.sugar.Link.{Link}
use Rattle.kernel_syntax.specs.declared.sugar.Link as links
use Rattle.kernel_syntax.specs.Sugar.{Value, Variable, no_values, field_of, new_of, part_and, pair_of}
use Rattle.kernel_syntax.specs.SugarView.{value_of, before, behind_all, head_in}
use Rattle.kernel_syntax.proofs.SugarItems.{behind_more}
use Rattle.oz_grammar.specs.Table.{pair_row}
use Rattle.sugar_rows.specs.Codes.{code_rows}
use Rattle.sugar_rows.specs.Put.{Places, place, field_place, put}
use Rattle.sugar_rows.specs.Writing.{Numbered, add, next, behind, with_numbers, with_numbered, write_locals, write_record, write, write_fields, head_rows}
use Rattle.sugar_rows.proofs.Pairs.{head_place}
use Rattle.sugar_rows.proofs.WritingLaws.{value_law}

-- a head more before a list
pub one_before : (hu : Value × Value) (ks : List Link) (i : ℕ) (k : Link) → 0 < i → i ≤ length ks → k ≡ get_or ks (i - 1) k → behind_all hu (take i ks) ≡ before k (behind_all hu (take (i - 1) ks))
one_before hu ks i k some few is =
    let next : i ≡ i - 1 + 1 = omega (arith, some) in
    ap (λ (n : ℕ). behind_all hu (take n ks)) next
    ∙ ap (behind_all hu) (take_more ks (i - 1) k (omega (arith, some, few)))
    ∙ behind_more hu (take (i - 1) ks) (get_or ks (i - 1) k)
    ∙ ap (λ (l : Link). before l (behind_all hu (take (i - 1) ks))) (sym is)

-- with a field or more
pub write_some : (k n : ℕ) (tell : Stmt) (f : List CodeId → List Stmt → Numbered) (rows : List Stmt) → k ≢ 0
    → write_record k n tell f rows ≡ with_numbered (length (write_locals k n rows)) (f (behind (write_locals k n rows) ∷ []) (add tell (add stmt.Skip (write_locals k n rows))))
write_some zero n tell f rows some = absurd (some refl)
write_some (suc k) n tell f rows some = refl

-- a row before those that are written may be made a sequence before them
numbered_before : (v : Value) (places : Places) (n x at : ℕ) (numbers : List CodeId) (rows : List Stmt) → at < length rows
    → with_numbers at numbers (write v places n x rows) ≡ write v places n x (with_numbers at numbers rows)
numbered_before v places n x at numbers rows here =
    ap (with_numbers at numbers) (value_law v places n x rows)
    ∙ set-append_left rows (code_rows (put v places n x) n (length rows)) at (stmt.Seq numbers) here
    ∙ ap (λ (k : ℕ). with_numbers at numbers rows ++ code_rows (put v places n x) n k) (sym (length-set rows at (stmt.Seq numbers)))
    ∙ sym (value_law v places n x (with_numbers at numbers rows))

two_more : (rows : List Stmt) (a b : Stmt) → length rows < length (add b (add a rows))
two_more rows a b = let e = length-append (rows ++ a ∷ []) (b ∷ []) in let f = length-append rows (a ∷ []) in omega (arith, e, f)

-- the rows before those of a head that has this position, and all of them
abbrev told_at : ℕ → Value → ℕ → ℕ → List Stmt → List Stmt
told_at p h n x rows = add (pair_row x p (n + new_of h)) (add stmt.Skip (write_locals (new_of h + 1) n rows))

abbrev rows_at : ℕ → Value → Places → ℕ → ℕ → List Stmt → List Stmt
rows_at p h places n x rows =
    let inside = write_locals (new_of h + 1) n rows in
    let m = write_fields (part_and h no_values) places (n + (new_of h + 1)) n (behind inside ∷ []) (told_at p h n x rows) in
    with_numbers (length inside) (m.0 ++ next m.1 ∷ []) m.1

-- a head that is no variable
other_law : (h : Value) (left n x : ℕ) (hu : Value × Value) (places : Places) (inside base : List Stmt) (numbers : List CodeId) → length inside < length base
    → with_numbers (length inside) (numbers ++ next base ∷ next (write h places (n + 2) n base) ∷ []) (write (pair_of left hu) places (n + 2) (n + 1) (write h places (n + 2) n base))
    ≡ write (pair_of 0 hu) places (n + 2) (n + 1) (with_numbers (length inside) (numbers ++ next base ∷ next (write h places (n + 2) n base) ∷ []) (write h places (n + 2) n base))
other_law h left n x hu places inside base numbers here =
    let grown : length (write h places (n + 2) n base) ≡ length base + length (code_rows (put h places (n + 2) n) (n + 2) (length base)) = ap length (value_law h places (n + 2) n base) ∙ length-append base _ in
    numbered_before (pair_of left hu) places (n + 2) (n + 1) (length inside) _ (write h places (n + 2) n base) (omega (arith, here, grown))

head_at : (h : Value) (left n x : ℕ) (hu : Value × Value) (places : Places) (rows : List Stmt)
    → write (pair_of 0 (h, pair_of left hu)) places n x rows ≡ write (pair_of 0 hu) places (n + (new_of h + 1)) (n + new_of h) (rows_at (field_place places n (field_of h 0)) h places n x rows)
head_at (Variable l k) left n x hu places rows =
    let inside : List Stmt = write_locals 1 n rows in
    let base : List Stmt = told_at (place places k) (Variable l k) n x rows in
    let same : n ≡ n + 0 = omega arith in
    numbered_before (pair_of left hu) places (n + 1) n (length inside) (behind inside ∷ next base ∷ []) base (two_more inside _ _)
    ∙ ap (λ (y : ℕ). write (pair_of 0 hu) places (n + 1) y (with_numbers (length inside) (behind inside ∷ next base ∷ []) base)) same
head_at h left n x hu places rows =
    other_law h left n x hu places (write_locals 2 n rows) (told_at (n + 0) h n x rows) (behind (write_locals 2 n rows) ∷ []) (two_more (write_locals 2 n rows) _ _)

head_law : (h : Value) (left n x : ℕ) (hu : Value × Value) (places : Places) (rows : List Stmt)
    → write (pair_of 0 (h, pair_of left hu)) places n x rows ≡ write (pair_of 0 hu) places (n + (new_of h + 1)) (n + new_of h) (head_rows h places n x rows)
head_law h left n x hu places rows =
    head_at h left n x hu places rows
    ∙ ap (λ (p : ℕ). write (pair_of 0 hu) places (n + (new_of h + 1)) (n + new_of h) (rows_at p h places n x rows)) (sym (head_place h places n))

link_law : (k : Link) (n x : ℕ) (hu : Value × Value) (places : Places) (rows : List Stmt)
    → write (pair_of 0 (before k hu)) places n x rows ≡ write (pair_of 0 hu) places (n + (new_of (head_in k) + 1)) (n + new_of (head_in k)) (head_rows (head_in k) places n x rows)
link_law (links.Before left h) n x hu places rows = head_law (value_of h) left n x hu places rows

pub heads_write : (ks : List Link) (i : ℕ) (k : Link) (n x y : ℕ) (places : Places) (rows : List Stmt) → 0 < i → i ≤ length ks → k ≡ get_or ks (i - 1) k → y ≡ n + new_of (head_in k)
    → (hu : Value × Value) → write (pair_of 0 (behind_all hu (take i ks))) places n x rows
    ≡ write (pair_of 0 (behind_all hu (take (i - 1) ks))) places (n + (new_of (head_in k) + 1)) y (head_rows (head_in k) places n x rows)
heads_write ks i k n x y places rows some few is told hu =
    ap (λ (p : Value × Value). write (pair_of 0 p) places n x rows) (one_before hu ks i k some few is)
    ∙ link_law k n x (behind_all hu (take (i - 1) ks)) places rows
    ∙ ap (λ (z : ℕ). write (pair_of 0 (behind_all hu (take (i - 1) ks))) places (n + (new_of (head_in k) + 1)) z (head_rows (head_in k) places n x rows)) (sym told)
