-- What is written for a tree are the rows of its expansion, behind the rows so far.
use Rattle.std.proofs.Common.{◌≡◌, ◌∙◌, ℕ, zero, suc, ◌+◌, List, [], ◌∷◌, ◌++◌, length, Bool, true, false, cond, refl, sym, ap, arith, append_assoc, length-append}
use Rattle.std.proofs.lemmas.List.{append-nil}
use Rattle.std.specs.Prelude.{slice_set, unwrap_or}
use Rattle.tree_node.specs.declared.names.CodeId.{CodeId}
use Rattle.kernel_syntax.specs.declared.stmt.Stmt.{Stmt}
use Rattle.kernel_syntax.specs.declared.stmt.Stmt.TheVariants as stmt
use Rattle.kernel_syntax.specs.Scopes.{features_in}
use Rattle.kernel_syntax.proofs.PreorderLemmas.{stmt_here}
use Rattle.oz_grammar.specs.Table.{code_at}
use Rattle.kernel_syntax.specs.Sugar.{Value, Variable, Integer, Atom, Record, Apply, Proc, Fun, If, Case, Brackets, Values, no_values, value_and, ValueClauses, no_clauses, clause_and, Statement, Skip, Tell, Acts, Local, Thread, IfStatement, CaseStatement, Try, Finally, Statements, no_statements, statement_and, Clauses, no_cases, case_and, by_kind, new_of, new_in}
use Rattle.sugar_rows.specs.Codes.{Code, Leaf, Codes, One, code_rows, codes_rows, more_rows, codes_numbers, follow}
use Rattle.sugar_rows.specs.Codes as code
use Rattle.sugar_rows.specs.Put.{Places, place, declare, slot_places, operation_row, action_row, held, under, record_code, finally_code, put, put_all, put_fields, put_clauses, put_statement, put_statements, put_others, put_cases, put_branch, expanded_rows}
use Rattle.sugar_rows.specs.Writing.{add, next, behind, set_second, with_second, with_numbers, with_numbered, Numbered, held_place, new_rows, hold_rows, write_locals, write_record, write_one, write_two, one_or_more, with_cases, write_ends, write_finally, write, write_all, write_fields, write_clauses, write_statement, write_statements, write_others, write_cases, program_rows}

-- w writes what f gives for the number of the first row
abbrev Writes : (List Stmt → List Stmt) → (ℕ → List Stmt) → Type 0
Writes w f = (rows : List Stmt) → w rows ≡ rows ++ f (length rows)

one_more : (rows : List Stmt) (row : Stmt) → length (rows ++ row ∷ []) ≡ length rows + 1
one_more rows row = length-append rows (row ∷ [])

-- ---- a row, and what is written behind it

row_and : (w : List Stmt → List Stmt) (f : ℕ → List Stmt) → Writes w f → (row : Stmt) (rows : List Stmt) → w (add row rows) ≡ rows ++ (row ∷ f (length rows + 1))
row_and w f h row rows =
    h (rows ++ row ∷ [])
    ∙ ap (λ (n : ℕ). (rows ++ row ∷ []) ++ f n) (one_more rows row)
    ∙ append_assoc rows (row ∷ []) (f (length rows + 1))

-- one writes, and then another
both : (w : List Stmt → List Stmt) (f : ℕ → List Stmt) → Writes w f → (rows xs : List Stmt) → w (rows ++ xs) ≡ rows ++ (xs ++ f (length rows + length xs))
both w f h rows xs =
    h (rows ++ xs)
    ∙ ap (λ (n : ℕ). (rows ++ xs) ++ f n) (length-append rows xs)
    ∙ append_assoc rows xs (f (length rows + length xs))

set_here : (pre post : List Stmt) (x y : Stmt) → slice_set (pre ++ x ∷ post) (length pre) y ≡ pre ++ y ∷ post
set_here [] post x y = refl
set_here (p ∷ pre) post x y = ap (λ (xs : List Stmt). p ∷ xs) (set_here pre post x y)

one_law : (row : Stmt) (w : List Stmt → List Stmt) (f : ℕ → List Stmt) → Writes w f → (rows : List Stmt)
    → write_one row w rows ≡ rows ++ (set_second (code_at (length rows + 1 + length (f (length rows + 1)))) row ∷ f (length rows + 1))
one_law row w f h rows =
    let l : length (rows ++ row ∷ f (length rows + 1)) ≡ length rows + 1 + length (f (length rows + 1)) = (let e = length-append rows (row ∷ f (length rows + 1)) in omega (arith, e)) in
    ap (with_second (length rows)) (row_and w f h row rows)
    ∙ ap (λ (o : Stmt). slice_set (rows ++ row ∷ f (length rows + 1)) (length rows) (set_second (next (rows ++ row ∷ f (length rows + 1))) o)) (ap (λ o. unwrap_or o stmt.Skip) (stmt_here rows (f (length rows + 1)) row))
    ∙ set_here rows (f (length rows + 1)) row (set_second (next (rows ++ row ∷ f (length rows + 1))) row)
    ∙ ap (λ (n : ℕ). rows ++ (set_second (code_at n) row ∷ f (length rows + 1))) l

two_law : (row : Stmt) (w v : List Stmt → List Stmt) (f g : ℕ → List Stmt) → Writes w f → Writes v g → (rows : List Stmt)
    → write_two row w v rows ≡ rows ++ (set_second (code_at (length rows + 1 + length (f (length rows + 1)))) row ∷ (f (length rows + 1) ++ g (length rows + 1 + length (f (length rows + 1)))))
two_law row w v f g h k rows =
    let l : length rows + suc (length (f (length rows + 1))) ≡ length rows + 1 + length (f (length rows + 1)) = omega arith in
    ap v (one_law row w f h rows)
    ∙ both v g k rows _
    ∙ ap (λ (n : ℕ). rows ++ (set_second (code_at (length rows + 1 + length (f (length rows + 1)))) row ∷ (f (length rows + 1) ++ g n))) l

-- ---- parts

kind_is : {A : Type 0} (v : Value) (a b : A) → by_kind v a b ≡ cond (by_kind v false true) b a
kind_is (Variable left k) a b = refl
kind_is (Integer left i) a b = refl
kind_is (Atom left t) a b = refl
kind_is (Record left t slots vs) a b = refl
kind_is (Apply left operation vs) a b = refl
kind_is (Proc left count q) a b = refl
kind_is (Fun left count v) a b = refl
kind_is (If left e u v) a b = refl
kind_is (Case left e cs u) a b = refl
kind_is (Brackets left v) a b = refl

-- a part that is no variable
new_law : (w v : List Stmt → List Stmt) (f g : ℕ → List Stmt) (n : ℕ) → Writes w f → Writes v g → (rows : List Stmt)
    → v (new_rows w n rows) ≡ rows ++ (stmt.Local n 1 (code_at (length rows + 1)) ∷ stmt.Seq (code_at (length rows + 1 + 1) ∷ code_at (length rows + 1 + 1 + length (f (length rows + 1 + 1))) ∷ [])
    ∷ (f (length rows + 1 + 1) ++ g (length rows + 1 + 1 + length (f (length rows + 1 + 1)))))
new_law w v f g n h k rows =
    let local : Stmt = stmt.Local n 1 (code_at (length rows + 1)) in
    let body : List Stmt = f (length rows + 1 + 1) in
    let inside : w (add stmt.Skip (add local rows)) ≡ (rows ++ local ∷ []) ++ (stmt.Skip ∷ body) =
    row_and w f h stmt.Skip (rows ++ local ∷ []) ∙ ap (λ (m : ℕ). (rows ++ local ∷ []) ++ (stmt.Skip ∷ f (m + 1))) (one_more rows local) in
    let count : length ((rows ++ local ∷ []) ++ (stmt.Skip ∷ body)) ≡ length rows + 1 + 1 + length body = (let a = length-append (rows ++ local ∷ []) (stmt.Skip ∷ body) in let b = one_more rows local in omega (arith, a, b)) in
    let numbers : List CodeId = code_at (length rows + 1 + 1) ∷ code_at (length rows + 1 + 1 + length body) ∷ [] in
    let same : new_rows w n rows ≡ rows ++ (local ∷ stmt.Seq numbers ∷ body) =
    ap (λ (xs : List Stmt). with_numbers (length rows + 1) (code_at (length rows + 1 + 1) ∷ next xs ∷ []) xs) inside
    ∙ ap (λ (m : ℕ). with_numbers (length rows + 1) (code_at (length rows + 1 + 1) ∷ code_at m ∷ []) ((rows ++ local ∷ []) ++ (stmt.Skip ∷ body))) count
    ∙ ap (λ (m : ℕ). with_numbers m numbers ((rows ++ local ∷ []) ++ (stmt.Skip ∷ body))) (sym (one_more rows local))
    ∙ set_here (rows ++ local ∷ []) body stmt.Skip (stmt.Seq numbers)
    ∙ append_assoc rows (local ∷ []) (stmt.Seq numbers ∷ body) in
    let l : length rows + suc (suc (length body)) ≡ length rows + 1 + 1 + length body = omega arith in
    ap v same
    ∙ both v g k rows (local ∷ stmt.Seq numbers ∷ body)
    ∙ ap (λ (m : ℕ). rows ++ (local ∷ stmt.Seq numbers ∷ (body ++ g m))) l

-- a part, and what goes on with its position
hold_law : (v : Value) (places : Places) (n : ℕ) (w : List Stmt → List Stmt) (p : ℕ → ℕ → Code) → Writes w (code_rows (p (n + 1) n) (n + 1))
    → (u : List Stmt → List Stmt) (go_on : ℕ → ℕ → Code) → Writes u (code_rows (go_on (n + new_of v) (held_place v places n)) (n + new_of v))
    → (rows : List Stmt) → u (hold_rows v w n rows) ≡ rows ++ code_rows (held v places p n go_on) n (length rows)
hold_law (Variable left k) places n w p h u go_on g rows =
    let z : n + 0 ≡ n = omega arith in
    g rows ∙ ap (λ (m : ℕ). rows ++ code_rows (go_on m (place places k)) m (length rows)) z
hold_law (Integer left i) places n w p h u go_on g rows = new_law w u (code_rows (p (n + 1) n) (n + 1)) (code_rows (go_on (n + 1) n) (n + 1)) n h g rows
hold_law (Atom left a) places n w p h u go_on g rows = new_law w u (code_rows (p (n + 1) n) (n + 1)) (code_rows (go_on (n + 1) n) (n + 1)) n h g rows
hold_law (Record left a slots vs) places n w p h u go_on g rows = new_law w u (code_rows (p (n + 1) n) (n + 1)) (code_rows (go_on (n + 1) n) (n + 1)) n h g rows
hold_law (Apply left operation vs) places n w p h u go_on g rows = new_law w u (code_rows (p (n + 1) n) (n + 1)) (code_rows (go_on (n + 1) n) (n + 1)) n h g rows
hold_law (Proc left count q) places n w p h u go_on g rows = new_law w u (code_rows (p (n + 1) n) (n + 1)) (code_rows (go_on (n + 1) n) (n + 1)) n h g rows
hold_law (Fun left count v) places n w p h u go_on g rows = new_law w u (code_rows (p (n + 1) n) (n + 1)) (code_rows (go_on (n + 1) n) (n + 1)) n h g rows
hold_law (If left e a b) places n w p h u go_on g rows = new_law w u (code_rows (p (n + 1) n) (n + 1)) (code_rows (go_on (n + 1) n) (n + 1)) n h g rows
hold_law (Case left e cs b) places n w p h u go_on g rows = new_law w u (code_rows (p (n + 1) n) (n + 1)) (code_rows (go_on (n + 1) n) (n + 1)) n h g rows
hold_law (Brackets left v) places n w p h u go_on g rows = new_law w u (code_rows (p (n + 1) n) (n + 1)) (code_rows (go_on (n + 1) n) (n + 1)) n h g rows

-- ---- statements behind one another

list_rows : List Code → ℕ → ℕ → List Stmt
list_rows [] n k = []
list_rows (c ∷ cs) n k = code_rows c n k ++ list_rows cs n (k + length (code_rows c n k))

list_numbers : List Code → ℕ → ℕ → List CodeId
list_numbers [] n k = []
list_numbers (c ∷ cs) n k = code_at k ∷ list_numbers cs n (k + length (code_rows c n k))

follow_rows : (c : Code) (cs : List Code) (n k : ℕ) → more_rows (follow c cs) n k ≡ code_rows c n k ++ list_rows cs n (k + length (code_rows c n k))
unfolding list_rows
follow_rows c [] n k = sym (append-nil (code_rows c n k))
follow_rows c (r ∷ rs) n k = ap (λ (xs : List Stmt). code_rows c n k ++ xs) (follow_rows r rs n (k + length (code_rows c n k)))

follow_numbers : (c : Code) (cs : List Code) (n k : ℕ) → codes_numbers (follow c cs) n k ≡ code_at k ∷ list_numbers cs n (k + length (code_rows c n k))
unfolding list_numbers
follow_numbers c [] n k = refl
follow_numbers c (r ∷ rs) n k = ap (λ (xs : List CodeId). code_at k ∷ xs) (follow_numbers r rs n (k + length (code_rows c n k)))

-- numbers and rows grow by those of these statements
abbrev Grows : (List CodeId → List Stmt → Numbered) → List Code → ℕ → Type 0
Grows w cs n = (numbers : List CodeId) (rows : List Stmt) → ◌≡◌ {A = Numbered} (w numbers rows) (numbers ++ list_numbers cs n (length rows), rows ++ list_rows cs n (length rows))

-- the first, then others
grown : (w : List Stmt → List Stmt) (v : List CodeId → List Stmt → Numbered) (c : Code) (cs : List Code) (n : ℕ) → Writes w (code_rows c n) → Grows v cs n → (numbers : List CodeId) (rows : List Stmt)
    → ◌≡◌ {A = Numbered} (v (numbers ++ next rows ∷ []) (w rows)) (numbers ++ list_numbers (c ∷ cs) n (length rows), rows ++ list_rows (c ∷ cs) n (length rows))
unfolding list_rows list_numbers
grown w v c cs n h g numbers rows =
    let l = length-append rows (code_rows c n (length rows)) in
    ap (v (numbers ++ next rows ∷ [])) (h rows)
    ∙ g (numbers ++ next rows ∷ []) (rows ++ code_rows c n (length rows))
    ∙ ap (λ (m : ℕ). ((numbers ++ next rows ∷ []) ++ list_numbers cs n m, (rows ++ code_rows c n (length rows)) ++ list_rows cs n m)) l
    ∙ ap (λ (xs : List CodeId). (xs, (rows ++ code_rows c n (length rows)) ++ list_rows cs n (length rows + length (code_rows c n (length rows))))) (append_assoc numbers (next rows ∷ []) (list_numbers cs n (length rows + length (code_rows c n (length rows)))))
    ∙ ap (λ (xs : List Stmt). (numbers ++ next rows ∷ list_numbers cs n (length rows + length (code_rows c n (length rows))), xs)) (append_assoc rows (code_rows c n (length rows)) (list_rows cs n (length rows + length (code_rows c n (length rows)))))

-- a sequence of two or more
sequence_law : (w : List Stmt → List Stmt) (v : List CodeId → List Stmt → Numbered) (c r : Code) (rs : List Code) (n : ℕ) → Writes w (code_rows c n) → Grows v (r ∷ rs) n → (rows : List Stmt)
    → with_numbered (length rows) (v (behind rows ∷ []) (w (add stmt.Skip rows))) ≡ rows ++ codes_rows (follow c (r ∷ rs)) n (length rows)
unfolding list_rows list_numbers
sequence_law w v c r rs n h g rows =
    let k : ℕ = length rows + 1 in
    let first : List Stmt = code_rows c n k in
    let after : ℕ = k + length first in
    let l : length (rows ++ stmt.Skip ∷ first) ≡ after = (let e = length-append rows (stmt.Skip ∷ first) in omega (arith, e)) in
    ap (λ (xs : List Stmt). with_numbered (length rows) (v (behind rows ∷ []) xs)) (row_and w (code_rows c n) h stmt.Skip rows)
    ∙ ap (with_numbered (length rows)) (g (behind rows ∷ []) (rows ++ stmt.Skip ∷ first))
    ∙ ap (λ (m : ℕ). with_numbers (length rows) (behind rows ∷ list_numbers (r ∷ rs) n m) ((rows ++ stmt.Skip ∷ first) ++ list_rows (r ∷ rs) n m)) l
    ∙ ap (with_numbers (length rows) (behind rows ∷ list_numbers (r ∷ rs) n after)) (append_assoc rows (stmt.Skip ∷ first) (list_rows (r ∷ rs) n after))
    ∙ set_here rows (first ++ list_rows (r ∷ rs) n after) stmt.Skip (stmt.Seq (behind rows ∷ list_numbers (r ∷ rs) n after))
    ∙ ap (λ (xs : List CodeId). rows ++ (stmt.Seq (behind rows ∷ xs) ∷ (first ++ list_rows (r ∷ rs) n after))) (sym (follow_numbers_of r rs n after))
    ∙ ap (λ (xs : List Stmt). rows ++ (stmt.Seq (behind rows ∷ codes_numbers (follow r rs) n after) ∷ (first ++ xs))) (sym (follow_rows_of r rs n after))
  where
    follow_numbers_of : (r : Code) (rs : List Code) (n k : ℕ) → codes_numbers (follow r rs) n k ≡ list_numbers (r ∷ rs) n k
    follow_numbers_of r rs n k = follow_numbers r rs n k

    follow_rows_of : (r : Code) (rs : List Code) (n k : ℕ) → more_rows (follow r rs) n k ≡ list_rows (r ∷ rs) n k
    follow_rows_of r rs n k = follow_rows r rs n k

-- ---- records

locals_rows : ℕ → ℕ → ℕ → List Stmt
locals_rows zero n k = []
locals_rows (suc count) n k = stmt.Local n 1 (code_at (k + 1)) ∷ locals_rows count (n + 1) (k + 1)

locals_count : (count n k : ℕ) → length (locals_rows count n k) ≡ count
unfolding locals_rows
locals_count zero n k = refl
locals_count (suc count) n k = ap suc (locals_count count (n + 1) (k + 1))

locals_law : (count n : ℕ) (rows : List Stmt) → write_locals count n rows ≡ rows ++ locals_rows count n (length rows)
unfolding locals_rows
locals_law zero n rows = sym (append-nil rows)
locals_law (suc count) n rows =
    let local : Stmt = stmt.Local n 1 (code_at (length rows + 1)) in
    locals_law count (n + 1) (add local rows)
    ∙ ap (λ (m : ℕ). (rows ++ local ∷ []) ++ locals_rows count (n + 1) m) (one_more rows local)
    ∙ append_assoc rows (local ∷ []) (locals_rows count (n + 1) (length rows + 1))

under_rows : (count : ℕ) (q : Codes) (n k : ℕ) → codes_rows (under count q) n k ≡ locals_rows count n k ++ codes_rows q (n + count) (k + count)
unfolding locals_rows
under_rows zero q n k =
    let a : n ≡ n + 0 = omega arith in
    let b : k ≡ k + 0 = omega arith in
    ap (λ (m : ℕ). codes_rows q m k) a ∙ ap (codes_rows q (n + 0)) b
under_rows (suc count) q n k =
    let a : n + 1 + count ≡ n + suc count = omega arith in
    let b : k + 1 + count ≡ k + suc count = omega arith in
    ap (λ (xs : List Stmt). stmt.Local n 1 (code_at (k + 1)) ∷ xs)
    (under_rows count q (n + 1) (k + 1) ∙ ap (λ (m : ℕ). locals_rows count (n + 1) (k + 1) ++ codes_rows q m (k + 1 + count)) a ∙ ap (λ (m : ℕ). locals_rows count (n + 1) (k + 1) ++ codes_rows q (n + suc count) m) b)

record_law : (count n : ℕ) (tell : Stmt) (cs : List Code) (v : List CodeId → List Stmt → Numbered) → length cs ≡ count → Grows v cs (n + count) → (rows : List Stmt)
    → write_record count n tell v rows ≡ rows ++ code_rows (record_code count (Leaf tell) cs) n (length rows)
record_law zero n tell cs v e g rows = refl
record_law (suc count) n tell [] v e g rows = absurd (omega arith)
record_law (suc count) n tell (r ∷ rs) v e g rows =
    let first : List Stmt = locals_rows (suc count) n (length rows) in
    let inside : List Stmt = rows ++ first in
    let l : length inside ≡ length rows + suc count = (let a = length-append rows first in let b = locals_count (suc count) n (length rows) in omega (arith, a, b)) in
    let q : Codes = follow (Leaf tell) (r ∷ rs) in
    ap (λ (xs : List Stmt). with_numbered (length xs) (v (behind xs ∷ []) (add tell (add stmt.Skip xs)))) (locals_law (suc count) n rows)
    ∙ sequence_law (add tell) v (Leaf tell) r rs (n + suc count) (λ xs. refl) g inside
    ∙ ap (λ (m : ℕ). inside ++ codes_rows q (n + suc count) m) l
    ∙ append_assoc rows first (codes_rows q (n + suc count) (length rows + suc count))
    ∙ ap (λ (xs : List Stmt). rows ++ xs) (sym (under_rows (suc count) q n (length rows)))

field_count : (vs : Values) (places : Places) (n i : ℕ) → length (put_fields vs places n i) ≡ new_in vs
field_count no_values places n i = refl
field_count (value_and v vs) places n i =
    let chosen : (b : Bool) → (x : ℕ) (y : List Code) → x ≡ cond b 1 0 → y ≡ cond b (put v places n i ∷ put_fields vs places n (i + 1)) (put_fields vs places n i) → length y ≡ x + new_in vs = elim [
      | true ↦ λ x y e f. let h = field_count vs places n (i + 1) in rw (e, f) (omega (arith, h))
      | false ↦ λ x y e f. let h = field_count vs places n i in rw (e, f) (omega (arith, h))
    ] in chosen (by_kind v false true) (new_of v) (by_kind v (put_fields vs places n i) (put v places n i ∷ put_fields vs places n (i + 1))) (kind_is v 0 1) (kind_is v (put_fields vs places n i) (put v places n i ∷ put_fields vs places n (i + 1)))

-- ---- what `finally` stands for

-- its rows, with those of the last statements under m declarations
abbrev finally_rows : ℕ → Codes → Codes → List Stmt → ℕ → List Stmt
finally_rows n tried last rows m =
    let k = length rows in
    let lasts = codes_rows last m (k + 1 + 1 + 1) in
    let t = k + 1 + 1 + suc (length lasts) in
    let body = codes_rows tried (n + 1) (t + 1) in
    let h = t + 1 + length body in
    let handler = stmt.Seq (code_at (h + 1) ∷ code_at (h + 1 + 1) ∷ []) ∷ stmt.Call n [] ∷ stmt.Raise (n + 1) ∷ [] in
    rows ++ (stmt.Local n 1 (code_at (k + 1)) ∷ stmt.Seq (code_at (k + 1 + 1) ∷ code_at t ∷ code_at (t + suc (length (body ++ handler))) ∷ [])
    ∷ ((stmt.TellProc n (n + 1) 0 (code_at (k + 1 + 1 + 1)) ∷ lasts) ++ ((stmt.Try (code_at (t + 1)) (n + 1) (code_at h) ∷ (body ++ handler)) ++ (stmt.Call n [] ∷ []))))

finally_law : (n : ℕ) (u s : List Stmt → List Stmt) (last tried : Codes) → Writes u (codes_rows last (n + 1)) → Writes s (codes_rows tried (n + 1)) → (rows : List Stmt)
    → write_finally n u s rows ≡ rows ++ code_rows (finally_code n last tried) n (length rows)
finally_law n u s last tried hu hs rows =
    let k : ℕ = length rows in
    let local : Stmt = stmt.Local n 1 (code_at (k + 1)) in
    let proc : Stmt = stmt.TellProc n (n + 1) 0 (code_at (k + 1 + 1 + 1)) in
    let outer : List Stmt = rows ++ local ∷ [] in
    let l1 : length outer ≡ k + 1 = one_more rows local in
    let l2 : length (outer ++ stmt.Skip ∷ []) ≡ k + 1 + 1 = (let e = one_more outer stmt.Skip in omega (arith, e, l1)) in
    let lasts : List Stmt = codes_rows last (n + 1) (k + 1 + 1 + 1) in
    let t : ℕ = k + 1 + 1 + suc (length lasts) in
    let called_is : u (add proc (add stmt.Skip (add local rows))) ≡ outer ++ (stmt.Skip ∷ proc ∷ lasts) =
    row_and u (codes_rows last (n + 1)) hu proc (outer ++ stmt.Skip ∷ [])
    ∙ ap (λ (m : ℕ). (outer ++ stmt.Skip ∷ []) ++ (proc ∷ codes_rows last (n + 1) (m + 1))) l2
    ∙ append_assoc outer (stmt.Skip ∷ []) (proc ∷ lasts) in
    let called : List Stmt = outer ++ (stmt.Skip ∷ proc ∷ lasts) in
    let l3 : length called ≡ t = (let e = length-append outer (stmt.Skip ∷ proc ∷ lasts) in omega (arith, e, l1)) in
    let body : List Stmt = codes_rows tried (n + 1) (t + 1) in
    let h : ℕ = t + 1 + length body in
    let tries : Stmt = stmt.Try (code_at (t + 1)) (n + 1) (code_at h) in
    let tried_is : write_one (stmt.Try (behind called) (n + 1) (code_at 0)) s called ≡ called ++ (tries ∷ body) =
    one_law (stmt.Try (behind called) (n + 1) (code_at 0)) s (codes_rows tried (n + 1)) hs called
    ∙ ap (λ (m : ℕ). called ++ (stmt.Try (code_at (m + 1)) (n + 1) (code_at (m + 1 + length (codes_rows tried (n + 1) (m + 1)))) ∷ codes_rows tried (n + 1) (m + 1))) l3 in
    let inside : List Stmt = called ++ (tries ∷ body) in
    let l4 : length inside ≡ h = (let e = length-append called (tries ∷ body) in omega (arith, e, l3)) in
    let handler : List Stmt = stmt.Seq (code_at (h + 1) ∷ code_at (h + 1 + 1) ∷ []) ∷ stmt.Call n [] ∷ stmt.Raise (n + 1) ∷ [] in
    let handled_is : add (stmt.Raise (n + 1)) (add (stmt.Call n []) (add (stmt.Seq (behind inside ∷ code_at (length inside + 1 + 1) ∷ [])) inside)) ≡ inside ++ handler =
    ap (λ (m : ℕ). add (stmt.Raise (n + 1)) (add (stmt.Call n []) (add (stmt.Seq (code_at (m + 1) ∷ code_at (m + 1 + 1) ∷ [])) inside))) l4
    ∙ append_assoc (inside ++ stmt.Seq (code_at (h + 1) ∷ code_at (h + 1 + 1) ∷ []) ∷ []) (stmt.Call n [] ∷ []) (stmt.Raise (n + 1) ∷ [])
    ∙ append_assoc inside (stmt.Seq (code_at (h + 1) ∷ code_at (h + 1 + 1) ∷ []) ∷ []) (stmt.Call n [] ∷ stmt.Raise (n + 1) ∷ []) in
    let handled : List Stmt = inside ++ handler in
    let e5 : ℕ = h + 3 in
    let l5 : length handled ≡ e5 = (let e = length-append inside handler in omega (arith, e, l4)) in
    let numbers : List CodeId = code_at (k + 1 + 1) ∷ code_at t ∷ code_at e5 ∷ [] in
    let last_call : List Stmt = stmt.Call n [] ∷ [] in
    let tail : List Stmt = (proc ∷ lasts) ++ ((tries ∷ body) ++ (handler ++ last_call)) in
    let flat : handled ++ last_call ≡ outer ++ (stmt.Skip ∷ tail) =
    append_assoc inside handler last_call
    ∙ append_assoc called (tries ∷ body) (handler ++ last_call)
    ∙ append_assoc outer (stmt.Skip ∷ proc ∷ lasts) ((tries ∷ body) ++ (handler ++ last_call)) in
    let ends : write_ends n (k + 1) t inside ≡ rows ++ (local ∷ stmt.Seq numbers ∷ tail) =
    ap (λ (xs : List Stmt). with_numbers (k + 1) (code_at (k + 1 + 1) ∷ code_at t ∷ next xs ∷ []) (add (stmt.Call n []) xs)) handled_is
    ∙ ap (λ (m : ℕ). with_numbers (k + 1) (code_at (k + 1 + 1) ∷ code_at t ∷ code_at m ∷ []) (add (stmt.Call n []) handled)) l5
    ∙ ap (with_numbers (k + 1) numbers) flat
    ∙ ap (λ (m : ℕ). with_numbers m numbers (outer ++ (stmt.Skip ∷ tail))) (sym l1)
    ∙ set_here outer tail stmt.Skip (stmt.Seq numbers)
    ∙ append_assoc rows (local ∷ []) (stmt.Seq numbers ∷ tail) in
    let l6 : e5 ≡ t + suc (length (body ++ handler)) = (let e = length-append body handler in omega (arith, e)) in
    let grouped : (tries ∷ body) ++ (handler ++ last_call) ≡ (tries ∷ (body ++ handler)) ++ last_call = sym (append_assoc (tries ∷ body) handler last_call) in
    let z : n + 1 ≡ n + 1 + 0 = omega arith in
    ap (λ (xs : List Stmt). write_ends n (k + 1) (length xs) (write_one (stmt.Try (behind xs) (n + 1) (code_at 0)) s xs)) called_is
    ∙ ap (write_ends n (k + 1) (length called)) tried_is
    ∙ ap (λ (m : ℕ). write_ends n (k + 1) m inside) l3
    ∙ ends
    ∙ ap (λ (m : ℕ). rows ++ (local ∷ stmt.Seq (code_at (k + 1 + 1) ∷ code_at t ∷ code_at m ∷ []) ∷ tail)) l6
    ∙ ap (λ (xs : List Stmt). rows ++ (local ∷ stmt.Seq (code_at (k + 1 + 1) ∷ code_at t ∷ code_at (t + suc (length (body ++ handler))) ∷ []) ∷ ((proc ∷ lasts) ++ xs))) grouped
    ∙ ap (finally_rows n tried last rows) z

-- ---- trees

-- statements, the first of which is written by w
statements_of : (w : List Stmt → List Stmt) (c : Code) (q : Statements) (places : Places) (n : ℕ) → Writes w (code_rows c n) → Grows (write_others q places n) (put_others q places n) n → (rows : List Stmt)
    → one_or_more q (w rows) (with_numbered (length rows) (write_others q places n (behind rows ∷ []) (w (add stmt.Skip rows)))) ≡ rows ++ codes_rows (follow c (put_others q places n)) n (length rows)
statements_of w c no_statements places n h g rows = h rows
statements_of w c (statement_and s q) places n h g rows = sequence_law w (write_others (statement_and s q) places n) c (put_statement s places n) (put_others q places n) n h g rows

-- a `case` behind its subject
cases_of : (cs : Clauses) (places : Places) (n y : ℕ) (other : Codes) (u : List Stmt → List Stmt) → ((rows : List Stmt) → u (write_cases cs places n y rows) ≡ rows ++ codes_rows (put_branch cs places n y other) n (length rows)) → (rows : List Stmt)
    → with_cases cs (add stmt.Skip rows) (u (write_cases cs places n y rows)) ≡ rows ++ code_rows (put_cases cs places n y other) n (length rows)
cases_of no_cases places n y other u h rows = refl
cases_of (case_and p q cs) places n y other u h rows = h rows

nothing_grows : (n : ℕ) (numbers : List CodeId) (rows : List Stmt) → ◌≡◌ {A = Numbered} (numbers, rows) (numbers ++ list_numbers [] n (length rows), rows ++ list_rows [] n (length rows))
unfolding list_rows list_numbers
nothing_grows n numbers rows = ap (λ (xs : List CodeId). (xs, rows)) (sym (append-nil numbers)) ∙ ap (λ (xs : List Stmt). (numbers ++ [], xs)) (sym (append-nil rows))

-- a field that is a variable, or one that is none
field_grows : (v : Value) (w : List Stmt → List Stmt) (c : Code) (here more : List CodeId → List Stmt → Numbered) (fields others : List Code) (n : ℕ) → Writes w (code_rows c n) → Grows here fields n → Grows more others n → (numbers : List CodeId) (rows : List Stmt)
    → ◌≡◌ {A = Numbered} (by_kind v (here numbers rows) (more (numbers ++ next rows ∷ []) (w rows)))
    (numbers ++ list_numbers (by_kind v fields (c ∷ others)) n (length rows), rows ++ list_rows (by_kind v fields (c ∷ others)) n (length rows))
field_grows v w c here more fields others n h g k numbers rows =
    let chosen : (b : Bool) (x : Numbered) (y : List Code) → ◌≡◌ {A = Numbered} x (cond b (more (numbers ++ next rows ∷ []) (w rows)) (here numbers rows)) → y ≡ cond b (c ∷ others) fields
    → ◌≡◌ {A = Numbered} x (numbers ++ list_numbers y n (length rows), rows ++ list_rows y n (length rows)) = elim [
      | true ↦ λ x y e f. e ∙ grown w more c others n h k numbers rows ∙ ap (λ (cs : List Code). (numbers ++ list_numbers cs n (length rows), rows ++ list_rows cs n (length rows))) (sym f)
      | false ↦ λ x y e f. e ∙ g numbers rows ∙ ap (λ (cs : List Code). (numbers ++ list_numbers cs n (length rows), rows ++ list_rows cs n (length rows))) (sym f)
    ] in chosen (by_kind v false true) _ _ (kind_is v (here numbers rows) (more (numbers ++ next rows ∷ []) (w rows))) (kind_is v fields (c ∷ others))

mutual
  pub value_law : (v : Value) (places : Places) (n x : ℕ) (rows : List Stmt) → write v places n x rows ≡ rows ++ code_rows (put v places n x) n (length rows)
  value_law (Variable left k) places n x rows = refl
  value_law (Integer left i) places n x rows = refl
  value_law (Atom left a) places n x rows = refl
  value_law (Record left a slots vs) places n x rows =
      record_law (new_in vs) n (stmt.TellRec x a (slot_places places n slots)) (put_fields vs places (n + new_in vs) n) (write_fields vs places (n + new_in vs) n) (field_count vs places (n + new_in vs) n)
      (fields_law vs places (n + new_in vs) n) rows
  value_law (Apply left operation vs) places n x rows = all_law vs places n [] (λ ys. operation_row places operation ys x) rows
  value_law (Proc left count q) places n x rows =
      row_and (write_statements q (declare places n count) (n + count)) (codes_rows (put_statements q (declare places n count) (n + count)) (n + count)) (statements_law q (declare places n count) (n + count))
      (stmt.TellProc x n count (behind rows)) rows
  value_law (Fun left count v) places n x rows =
      let z : n + count + 1 ≡ n + (count + 1) = omega arith in
      row_and (write v (declare places n count) (n + count + 1) (n + count)) (code_rows (put v (declare places n count) (n + count + 1) (n + count)) (n + count + 1)) (value_law v (declare places n count) (n + count + 1) (n + count))
      (stmt.TellProc x n (count + 1) (behind rows)) rows
      ∙ ap (λ (m : ℕ). rows ++ (stmt.TellProc x n (count + 1) (behind rows) ∷ code_rows (put v (declare places n count) (n + count + 1) (n + count)) m (length rows + 1))) z
  value_law (If left e a b) places n x rows =
      hold_law e places n (write e places (n + 1) n) (put e places) (value_law e places (n + 1) n)
      (λ rs. write_two (stmt.If (held_place e places n) (behind rs) (code_at 0)) (write a places (n + new_of e) x) (write b places (n + new_of e) x) rs)
      (λ m y. code.If y (One (put a places m x)) (One (put b places m x)))
      (λ rs. two_law (stmt.If (held_place e places n) (behind rs) (code_at 0)) (write a places (n + new_of e) x) (write b places (n + new_of e) x)
      (code_rows (put a places (n + new_of e) x) (n + new_of e)) (code_rows (put b places (n + new_of e) x) (n + new_of e)) (value_law a places (n + new_of e) x) (value_law b places (n + new_of e) x) rs) rows
  value_law (Case left e cs b) places n x rows =
      hold_law e places n (write e places (n + 1) n) (put e places) (value_law e places (n + 1) n)
      (λ rs. write b places (n + new_of e) x (write_clauses cs places (n + new_of e) (held_place e places n) x rs))
      (λ m y. put_clauses cs places m y x (put b places m x))
      (λ rs. clauses_law cs places (n + new_of e) (held_place e places n) x (write b places (n + new_of e) x) (put b places (n + new_of e) x) (value_law b places (n + new_of e) x) rs) rows
  value_law (Brackets left v) places n x rows = value_law v places n x rows

  all_law : (vs : Values) (places : Places) (n : ℕ) (ys : List ℕ) (row : List ℕ → Stmt) (rows : List Stmt)
      → add (row (write_all vs places n ys rows).0) (write_all vs places n ys rows).1 ≡ rows ++ code_rows (put_all vs places n ys (λ m zs. Leaf (row zs))) n (length rows)
  all_law no_values places n ys row rows = refl
  all_law (value_and v vs) places n ys row rows =
      hold_law v places n (write v places (n + 1) n) (put v places) (value_law v places (n + 1) n)
      (λ rs. add (row (write_all vs places (n + new_of v) (ys ++ held_place v places n ∷ []) rs).0) (write_all vs places (n + new_of v) (ys ++ held_place v places n ∷ []) rs).1)
      (λ m y. put_all vs places m (ys ++ y ∷ []) (λ k zs. Leaf (row zs)))
      (λ rs. all_law vs places (n + new_of v) (ys ++ held_place v places n ∷ []) row rs) rows

  fields_law : (vs : Values) (places : Places) (n i : ℕ) (numbers : List CodeId) (rows : List Stmt)
      → ◌≡◌ {A = Numbered} (write_fields vs places n i numbers rows) (numbers ++ list_numbers (put_fields vs places n i) n (length rows), rows ++ list_rows (put_fields vs places n i) n (length rows))
  fields_law no_values places n i numbers rows = nothing_grows n numbers rows
  fields_law (value_and v vs) places n i numbers rows =
      field_grows v (write v places n i) (put v places n i) (write_fields vs places n i) (write_fields vs places n (i + 1)) (put_fields vs places n i) (put_fields vs places n (i + 1)) n
      (value_law v places n i) (fields_law vs places n i) (fields_law vs places n (i + 1)) numbers rows

  clauses_law : (cs : ValueClauses) (places : Places) (n y x : ℕ) (u : List Stmt → List Stmt) (other : Code) → ((rows : List Stmt) → u rows ≡ rows ++ code_rows other n (length rows)) → (rows : List Stmt)
      → u (write_clauses cs places n y x rows) ≡ rows ++ code_rows (put_clauses cs places n y x other) n (length rows)
  clauses_law no_clauses places n y x u other h rows = h rows
  clauses_law (clause_and p v cs) places n y x u other h rows =
      two_law (stmt.Case y p n (behind rows) (code_at 0)) (write v (declare places n (length (features_in p))) (n + length (features_in p)) x) (λ rs. u (write_clauses cs places n y x rs))
      (code_rows (put v (declare places n (length (features_in p))) (n + length (features_in p)) x) (n + length (features_in p))) (code_rows (put_clauses cs places n y x other) n)
      (value_law v (declare places n (length (features_in p))) (n + length (features_in p)) x) (clauses_law cs places n y x u other h) rows

  pub statement_law : (s : Statement) (places : Places) (n : ℕ) (rows : List Stmt) → write_statement s places n rows ≡ rows ++ code_rows (put_statement s places n) n (length rows)
  statement_law (Skip left) places n rows = refl
  statement_law (Tell left x v) places n rows = value_law v places n (place places x) rows
  statement_law (Acts left action vs) places n rows = all_law vs places n [] (λ ys. action_row places action ys) rows
  statement_law (Local left count q) places n rows =
      row_and (write_statements q (declare places n count) (n + count)) (codes_rows (put_statements q (declare places n count) (n + count)) (n + count)) (statements_law q (declare places n count) (n + count))
      (stmt.Local n count (behind rows)) rows
  statement_law (Thread left at q) places n rows =
      row_and (write_statements q places n) (codes_rows (put_statements q places n) n) (statements_law q places n) (stmt.Thread at (behind rows)) rows
  statement_law (IfStatement left e q r) places n rows =
      hold_law e places n (write e places (n + 1) n) (put e places) (value_law e places (n + 1) n)
      (λ rs. write_two (stmt.If (held_place e places n) (behind rs) (code_at 0)) (write_statements q places (n + new_of e)) (write_statements r places (n + new_of e)) rs)
      (λ m y. code.If y (put_statements q places m) (put_statements r places m))
      (λ rs. two_law (stmt.If (held_place e places n) (behind rs) (code_at 0)) (write_statements q places (n + new_of e)) (write_statements r places (n + new_of e))
      (codes_rows (put_statements q places (n + new_of e)) (n + new_of e)) (codes_rows (put_statements r places (n + new_of e)) (n + new_of e)) (statements_law q places (n + new_of e)) (statements_law r places (n + new_of e)) rs) rows
  statement_law (CaseStatement left e cs r) places n rows =
      hold_law e places n (write e places (n + 1) n) (put e places) (value_law e places (n + 1) n)
      (λ rs. with_cases cs (add stmt.Skip rs) (write_statements r places (n + new_of e) (write_cases cs places (n + new_of e) (held_place e places n) rs)))
      (λ m y. put_cases cs places m y (put_statements r places m))
      (λ rs. cases_of cs places (n + new_of e) (held_place e places n) (put_statements r places (n + new_of e)) (write_statements r places (n + new_of e))
      (cases_law cs places (n + new_of e) (held_place e places n) (write_statements r places (n + new_of e)) (put_statements r places (n + new_of e)) (statements_law r places (n + new_of e))) rs) rows
  statement_law (Try left q r) places n rows =
      two_law (stmt.Try (behind rows) n (code_at 0)) (write_statements q places n) (write_statements r (declare places n 1) (n + 1))
      (codes_rows (put_statements q places n) n) (codes_rows (put_statements r (declare places n 1) (n + 1)) (n + 1)) (statements_law q places n) (statements_law r (declare places n 1) (n + 1)) rows
  statement_law (Finally left q u) places n rows =
      finally_law n (write_statements u places (n + 1)) (write_statements q places (n + 1)) (put_statements u places (n + 1)) (put_statements q places (n + 1)) (statements_law u places (n + 1)) (statements_law q places (n + 1)) rows

  pub statements_law : (q : Statements) (places : Places) (n : ℕ) (rows : List Stmt) → write_statements q places n rows ≡ rows ++ codes_rows (put_statements q places n) n (length rows)
  statements_law no_statements places n rows = refl
  statements_law (statement_and s q) places n rows =
      statements_of (write_statement s places n) (put_statement s places n) q places n (statement_law s places n) (others_law q places n) rows

  others_law : (q : Statements) (places : Places) (n : ℕ) (numbers : List CodeId) (rows : List Stmt)
      → ◌≡◌ {A = Numbered} (write_others q places n numbers rows) (numbers ++ list_numbers (put_others q places n) n (length rows), rows ++ list_rows (put_others q places n) n (length rows))
  others_law no_statements places n numbers rows = nothing_grows n numbers rows
  others_law (statement_and s q) places n numbers rows =
      grown (write_statement s places n) (write_others q places n) (put_statement s places n) (put_others q places n) n (statement_law s places n) (others_law q places n) numbers rows

  cases_law : (cs : Clauses) (places : Places) (n y : ℕ) (u : List Stmt → List Stmt) (other : Codes) → ((rows : List Stmt) → u rows ≡ rows ++ codes_rows other n (length rows)) → (rows : List Stmt)
      → u (write_cases cs places n y rows) ≡ rows ++ codes_rows (put_branch cs places n y other) n (length rows)
  cases_law no_cases places n y u other h rows = h rows
  cases_law (case_and p q cs) places n y u other h rows =
      two_law (stmt.Case y p n (behind rows) (code_at 0)) (write_statements q (declare places n (length (features_in p))) (n + length (features_in p))) (λ rs. u (write_cases cs places n y rs))
      (codes_rows (put_statements q (declare places n (length (features_in p))) (n + length (features_in p))) (n + length (features_in p))) (codes_rows (put_branch cs places n y other) n)
      (statements_law q (declare places n (length (features_in p))) (n + length (features_in p))) (cases_law cs places n y u other h) rows

-- what is written for a program are its rows
pub program_law : (q : Statements) → program_rows q ≡ expanded_rows q
program_law q = statements_law q [] 0 []
