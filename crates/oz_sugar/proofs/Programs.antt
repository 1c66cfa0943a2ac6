-- A tree of kernel statements that fits is a program.
use Rattle.std.proofs.Common.{◌≡◌, ℕ, suc, ◌+◌, ◌-◌, ◌*◌, ◌<◌, ◌≤◌, List, [], ◌∷◌, ◌++◌, length, map, Bool, true, false, refl, sym, subst, arith, length-append, append_assoc}
use Rattle.std.proofs.lemmas.List.{append-nil}
use Rattle.tree_node.specs.declared.names.CodeId.{CodeId}
use Rattle.tree_node.specs.Each.{Each}
use Rattle.tree_node.proofs.EachLemmas.{each_append}
use Rattle.kernel_syntax.specs.declared.preorder.Body.{Body}
use Rattle.kernel_syntax.specs.declared.stmt.Stmt.{Stmt}
use Rattle.kernel_syntax.specs.declared.stmt.Stmt.TheVariants as stmt
use Rattle.kernel_syntax.specs.Scopes.{named_positions, features_in}
use Rattle.kernel_syntax.specs.Preorder.{sequence_body, AreBodies}
use Rattle.kernel_syntax.specs.Program.{IsStmt, IsProgram}
use Rattle.kernel_syntax.specs.Texts.{HasTexts}
use Rattle.kernel_syntax.proofs.PreorderLemmas.{program_of}
use Rattle.oz_grammar.specs.Table.{code_at}
use Rattle.oz_grammar.proofs.TableOrder.{body, Stands, row_before, ends_at, before_more}
use Rattle.sugar_rows.specs.Codes.{Code, Leaf, Local, Proc, Thread, If, Case, Try, Codes, One, Then, code_rows, codes_rows, more_rows, codes_numbers}
use Rattle.oz_sugar.specs.CodeLimits.{IsLeaf, FitsCode, FitsCodes}

leaf_stands : (row : Stmt) (k d n : ℕ) (one : Bool) → IsLeaf row → Each (λ (j : ℕ). j < n) (named_positions row) → Stands (body k d n one) row []
leaf_stands (stmt.Seq bodies) k d n one p h = absurd p
leaf_stands stmt.Skip k d n one p h = record { names = h; declares = tt; sequence = tt; bodies = refl }
leaf_stands (stmt.Local first count c) k d n one p h = absurd p
leaf_stands (stmt.TellVar left right) k d n one p h = record { names = h; declares = tt; sequence = tt; bodies = refl }
leaf_stands (stmt.TellInt left value) k d n one p h = record { names = h; declares = tt; sequence = tt; bodies = refl }
leaf_stands (stmt.TellAtom left a) k d n one p h = record { names = h; declares = tt; sequence = tt; bodies = refl }
leaf_stands (stmt.TellRec left label slots) k d n one p h = record { names = h; declares = tt; sequence = tt; bodies = refl }
leaf_stands (stmt.TellProc left first count c) k d n one p h = absurd p
leaf_stands (stmt.Calc left op x y) k d n one p h = record { names = h; declares = tt; sequence = tt; bodies = refl }
leaf_stands (stmt.Test left op x y) k d n one p h = record { names = h; declares = tt; sequence = tt; bodies = refl }
leaf_stands (stmt.Select left source by) k d n one p h = record { names = h; declares = tt; sequence = tt; bodies = refl }
leaf_stands (stmt.If subject chosen other) k d n one p h = absurd p
leaf_stands (stmt.Case subject pattern first chosen other) k d n one p h = absurd p
leaf_stands (stmt.Call callee args) k d n one p h = record { names = h; declares = tt; sequence = tt; bodies = refl }
leaf_stands (stmt.Browse x) k d n one p h = record { names = h; declares = tt; sequence = tt; bodies = refl }
leaf_stands (stmt.Wait x) k d n one p h = record { names = h; declares = tt; sequence = tt; bodies = refl }
leaf_stands (stmt.NewCell content cell) k d n one p h = record { names = h; declares = tt; sequence = tt; bodies = refl }
leaf_stands (stmt.Exchange cell old new) k d n one p h = record { names = h; declares = tt; sequence = tt; bodies = refl }
leaf_stands (stmt.NewPort stream port) k d n one p h = record { names = h; declares = tt; sequence = tt; bodies = refl }
leaf_stands (stmt.Send port value) k d n one p h = record { names = h; declares = tt; sequence = tt; bodies = refl }
leaf_stands (stmt.NewCellAt content cell place) k d n one p h = record { names = h; declares = tt; sequence = tt; bodies = refl }
leaf_stands (stmt.Thread at c) k d n one p h = absurd p
leaf_stands (stmt.Try c first handler) k d n one p h = absurd p
leaf_stands (stmt.Raise x) k d n one p h = record { names = h; declares = tt; sequence = tt; bodies = refl }

code_level : (c : Code) (d n : ℕ) → FitsCode c d n → 1 ≤ d
code_level (Leaf row) d n f = f.0
code_level (Local count q) d n f = f.0
code_level (Proc left count q) d n f = f.0
code_level (Thread at q) d n f = f.0
code_level (If subject q r) d n f = f.0
code_level (Case subject p q r) d n f = f.0
code_level (Try q r) d n f = f.0

two_numbers : (q : Codes) (n k : ℕ) (c : CodeId) → 2 ≤ length (c ∷ codes_numbers q n k)
two_numbers (One s) n k c = omega arith
two_numbers (Then s q) n k c = omega arith

-- one body, and then others
one_body : (row : Stmt) (q : Codes) (k d n m e : ℕ) (one : Bool) (bs : List Body) (more : List Stmt) → 1 ≤ d → Stands (body k d n one) row (body (k + 1) e m false ∷ [])
    → (AreBodies (k + 1 + length (codes_rows q m (k + 1))) bs more → AreBodies (k + 1) (body (k + 1) e m false ∷ bs) (codes_rows q m (k + 1) ++ more))
    → AreBodies (k + suc (length (codes_rows q m (k + 1)))) bs more → AreBodies k (body k d n one ∷ bs) (row ∷ codes_rows q m (k + 1) ++ more)
one_body row q k d n m e one bs more level stands inner h =
    row_before (body k d n one) row (body (k + 1) e m false ∷ []) bs (codes_rows q m (k + 1) ++ more) k refl level stands
    (inner (ends_at (k + suc (length (codes_rows q m (k + 1)))) (k + 1 + length (codes_rows q m (k + 1))) bs more (omega arith) h))

-- two bodies, and then others
two_bodies : (row : Stmt) (q r : Codes) (k d n m l e : ℕ) (one : Bool) (bs : List Body) (more : List Stmt) → 1 ≤ d
    → Stands (body k d n one) row (body (k + 1) e m false ∷ body (k + 1 + length (codes_rows q m (k + 1))) e l false ∷ [])
    → ((cs : List Body) (rows : List Stmt) → AreBodies (k + 1 + length (codes_rows q m (k + 1))) cs rows → AreBodies (k + 1) (body (k + 1) e m false ∷ cs) (codes_rows q m (k + 1) ++ rows))
    → (AreBodies (k + 1 + length (codes_rows q m (k + 1)) + length (codes_rows r l (k + 1 + length (codes_rows q m (k + 1))))) bs more
    → AreBodies (k + 1 + length (codes_rows q m (k + 1))) (body (k + 1 + length (codes_rows q m (k + 1))) e l false ∷ bs) (codes_rows r l (k + 1 + length (codes_rows q m (k + 1))) ++ more))
    → AreBodies (k + suc (length (codes_rows q m (k + 1) ++ codes_rows r l (k + 1 + length (codes_rows q m (k + 1)))))) bs more
    → AreBodies k (body k d n one ∷ bs) (row ∷ (codes_rows q m (k + 1) ++ codes_rows r l (k + 1 + length (codes_rows q m (k + 1)))) ++ more)
two_bodies row q r k d n m l e one bs more level stands first second h =
    let j : ℕ = k + 1 + length (codes_rows q m (k + 1)) in
    let len = length-append (codes_rows q m (k + 1)) (codes_rows r l j) in
    let others = second (ends_at (k + suc (length (codes_rows q m (k + 1) ++ codes_rows r l j))) (j + length (codes_rows r l j)) bs more (omega (arith, len)) h) in
    row_before (body k d n one) row (body (k + 1) e m false ∷ body j e l false ∷ []) bs ((codes_rows q m (k + 1) ++ codes_rows r l j) ++ more) k refl level stands
    (before_more (k + 1) (body (k + 1) e m false ∷ body j e l false ∷ bs) (codes_rows q m (k + 1)) (codes_rows r l j) more (first (body j e l false ∷ bs) (codes_rows r l j ++ more) others))

mutual
  code_order : (c : Code) (d n k : ℕ) (one : Bool) (bs : List Body) (more : List Stmt) → FitsCode c d n → AreBodies (k + length (code_rows c n k)) bs more → AreBodies k (body k d n one ∷ bs) (code_rows c n k ++ more)
  code_order (Leaf row) d n k one bs more f h = row_before (body k d n one) row [] bs more k refl f.0 (leaf_stands row k d n one f.1 f.4) h
  code_order (Local count q) d n k one bs more f h =
      one_body (stmt.Local n count (code_at (k + 1))) q k d n (n + count) (d - 1) one bs more f.0 (record { names = tt; declares = refl; sequence = tt; bodies = refl }) (codes_order q (d - 1) (n + count) (k + 1) bs more f.3) h
  code_order (Proc left count q) d n k one bs more f h =
      one_body (stmt.TellProc left n count (code_at (k + 1))) q k d n (n + count) (d - 1) one bs more f.0 (record { names = (f.1, tt); declares = refl; sequence = tt; bodies = refl }) (codes_order q (d - 1) (n + count) (k + 1) bs more f.3) h
  code_order (Thread at q) d n k one bs more f h =
      one_body (stmt.Thread at (code_at (k + 1))) q k d n n (d - 1) one bs more f.0 (record { names = tt; declares = tt; sequence = tt; bodies = refl }) (codes_order q (d - 1) n (k + 1) bs more f.3) h
  code_order (If subject q r) d n k one bs more f h =
      two_bodies (stmt.If subject (code_at (k + 1)) (code_at (k + 1 + length (codes_rows q n (k + 1))))) q r k d n n n (d - 1) one bs more f.0 (record { names = (f.1, tt); declares = tt; sequence = tt; bodies = refl })
      (λ cs rows. codes_order q (d - 1) n (k + 1) cs rows f.2) (codes_order r (d - 1) n (k + 1 + length (codes_rows q n (k + 1))) bs more f.3) h
  code_order (Case subject p q r) d n k one bs more f h =
      two_bodies (stmt.Case subject p n (code_at (k + 1)) (code_at (k + 1 + length (codes_rows q (n + length (features_in p)) (k + 1))))) q r k d n (n + length (features_in p)) n (d - 1) one bs more f.0
      (record { names = (f.1, tt); declares = refl; sequence = tt; bodies = refl })
      (λ cs rows. codes_order q (d - 1) (n + length (features_in p)) (k + 1) cs rows f.5) (codes_order r (d - 1) n (k + 1 + length (codes_rows q (n + length (features_in p)) (k + 1))) bs more f.6) h
  code_order (Try q r) d n k one bs more f h =
      two_bodies (stmt.Try (code_at (k + 1)) n (code_at (k + 1 + length (codes_rows q n (k + 1))))) q r k d n n (n + 1) (d - 1) one bs more f.0 (record { names = tt; declares = refl; sequence = tt; bodies = refl })
      (λ cs rows. codes_order q (d - 1) n (k + 1) cs rows f.1) (codes_order r (d - 1) (n + 1) (k + 1 + length (codes_rows q n (k + 1))) bs more f.2) h

  codes_order : (q : Codes) (d n k : ℕ) (bs : List Body) (more : List Stmt) → FitsCodes q d n → AreBodies (k + length (codes_rows q n k)) bs more → AreBodies k (body k d n false ∷ bs) (codes_rows q n k ++ more)
  codes_order (One s) d n k bs more f h = code_order s d n k false bs more f h
  codes_order (Then s q) d n k bs more f h =
      let j : ℕ = k + 1 + length (code_rows s n (k + 1)) in
      let len = length-append (code_rows s n (k + 1)) (more_rows q n j) in
      let others = many_order q d n j k bs more f.1 (ends_at (k + suc (length (code_rows s n (k + 1) ++ more_rows q n j))) (j + length (more_rows q n j)) bs more (omega (arith, len)) h) in
      row_before (body k d n false) (stmt.Seq (code_at (k + 1) ∷ codes_numbers q n j)) (map (sequence_body (body k d n false)) (code_at (k + 1) ∷ codes_numbers q n j)) bs ((code_rows s n (k + 1) ++ more_rows q n j) ++ more) k refl
      (code_level s d n f.0) (record { names = tt; declares = tt; sequence = (refl, two_numbers q n j (code_at (k + 1))); bodies = refl })
      (before_more (k + 1) (body (k + 1) d n true ∷ (map (sequence_body (body k d n false)) (codes_numbers q n j) ++ bs)) (code_rows s n (k + 1)) (more_rows q n j) more
      (code_order s d n (k + 1) true (map (sequence_body (body k d n false)) (codes_numbers q n j) ++ bs) (more_rows q n j ++ more) f.0 others))

  -- the statements of the sequence with number o
  many_order : (q : Codes) (d n k o : ℕ) (bs : List Body) (more : List Stmt) → FitsCodes q d n → AreBodies (k + length (more_rows q n k)) bs more → AreBodies k (map (sequence_body (body o d n false)) (codes_numbers q n k) ++ bs) (more_rows q n k ++ more)
  many_order (One s) d n k o bs more f h = code_order s d n k true bs more f h
  many_order (Then s q) d n k o bs more f h =
      let j : ℕ = k + length (code_rows s n k) in
      let len = length-append (code_rows s n k) (more_rows q n j) in
      let others = many_order q d n j o bs more f.1 (ends_at (k + length (code_rows s n k ++ more_rows q n j)) (j + length (more_rows q n j)) bs more (omega (arith, len)) h) in
      before_more k (body k d n true ∷ (map (sequence_body (body o d n false)) (codes_numbers q n j) ++ bs)) (code_rows s n k) (more_rows q n j) more
      (code_order s d n k true (map (sequence_body (body o d n false)) (codes_numbers q n j) ++ bs) (more_rows q n j ++ more) f.0 others)

-- ---- limits and texts

abbrev Good : Stmt → Type 0
Good row = IsStmt row × HasTexts row

mutual
  code_good : (c : Code) (d n k : ℕ) → FitsCode c d n → n + 64 * d ≤ 12800 → Each Good (code_rows c n k)
  code_good (Leaf row) d n k f le = ((f.2, f.3), tt)
  code_good (Local count q) d n k f le = let l = f.0 in let c = f.2 in (((f.1, c, omega (arith, le, c)), tt), codes_good q (d - 1) (n + count) (k + 1) f.3 (omega (arith, le, l, c)))
  code_good (Proc left count q) d n k f le = let l = f.0 in let c = f.2 in (((c, omega (arith, le, c)), tt), codes_good q (d - 1) (n + count) (k + 1) f.3 (omega (arith, le, l, c)))
  code_good (Thread at q) d n k f le = let l = f.0 in ((f.1, f.2), codes_good q (d - 1) n (k + 1) f.3 (omega (arith, le, l)))
  code_good (If subject q r) d n k f le =
      let l = f.0 in ((tt, tt), each_append _ (codes_rows q n (k + 1)) _ (codes_good q (d - 1) n (k + 1) f.2 (omega (arith, le, l))) (codes_good r (d - 1) n (k + 1 + length (codes_rows q n (k + 1))) f.3 (omega (arith, le, l))))
  code_good (Case subject p q r) d n k f le =
      let l = f.0 in let c = f.4 in (
        ((f.2, omega (arith, le, c)), f.3),
        each_append _ (codes_rows q (n + length (features_in p)) (k + 1)) _ (codes_good q (d - 1) (n + length (features_in p)) (k + 1) f.5 (omega (arith, le, l, c)))
            (codes_good r (d - 1) n (k + 1 + length (codes_rows q (n + length (features_in p)) (k + 1))) f.6 (omega (arith, le, l))),
      )
  code_good (Try q r) d n k f le =
      let l = f.0 in ((omega (arith, le), tt), each_append _ (codes_rows q n (k + 1)) _ (codes_good q (d - 1) n (k + 1) f.1 (omega (arith, le, l))) (codes_good r (d - 1) (n + 1) (k + 1 + length (codes_rows q n (k + 1))) f.2 (omega (arith, le, l))))

  codes_good : (q : Codes) (d n k : ℕ) → FitsCodes q d n → n + 64 * d ≤ 12800 → Each Good (codes_rows q n k)
  codes_good (One s) d n k f le = code_good s d n k f le
  codes_good (Then s q) d n k f le = ((tt, tt), each_append _ (code_rows s n (k + 1)) _ (code_good s d n (k + 1) f.0 le) (many_good q d n (k + 1 + length (code_rows s n (k + 1))) f.1 le))

  many_good : (q : Codes) (d n k : ℕ) → FitsCodes q d n → n + 64 * d ≤ 12800 → Each Good (more_rows q n k)
  many_good (One s) d n k f le = code_good s d n k f le
  many_good (Then s q) d n k f le = each_append _ (code_rows s n k) _ (code_good s d n k f.0 le) (many_good q d n (k + length (code_rows s n k)) f.1 le)

stmts_of : (rows : List Stmt) → Each Good rows → Each IsStmt rows
stmts_of [] h = tt
stmts_of (row ∷ rows) h = (h.0.0, stmts_of rows h.1)

texts_of : (rows : List Stmt) → Each Good rows → Each HasTexts rows
texts_of [] h = tt
texts_of (row ∷ rows) h = (h.0.1, texts_of rows h.1)

-- a tree that fits with 200 levels is a program
pub codes_are_programs : (q : Codes) → FitsCodes q 200 0 → IsProgram (codes_rows q 0 0)
codes_are_programs q f =
    let good = codes_good q 200 0 0 f (omega arith) in
    program_of (codes_rows q 0 0) (stmts_of (codes_rows q 0 0) good) (texts_of (codes_rows q 0 0) good)
    (subst (AreBodies 0 (body 0 200 0 false ∷ [])) (append-nil (codes_rows q 0 0)) (codes_order q 200 0 0 [] [] f tt))
