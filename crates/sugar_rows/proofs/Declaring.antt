-- More positions behind one another.
use Rattle.std.proofs.Common.{◌≡◌, ◌∙◌, ℕ, zero, suc, ◌+◌, ◌≤◌, List, [], ◌∷◌, ◌++◌, ap, arith}
use Rattle.std.proofs.Common.{length, length-append}
use Rattle.kernel_syntax.specs.declared.stmt.Stmt.{Stmt}
use Rattle.kernel_syntax.specs.declared.stmt.Stmt.TheVariants as stmt
use Rattle.oz_grammar.specs.Table.{code_at}
use Rattle.kernel_syntax.specs.declared.sugar.Statement as statements
use Rattle.kernel_syntax.specs.SugarView.{statement_of, statements_in}
use Rattle.sugar_rows.specs.Put.{Places, positions_from}
use Rattle.sugar_rows.specs.Writing.{add, behind, write_locals, with_numbered, write_statement, write_statements, write_others}

last_position : (n count : ℕ) → positions_from n (suc count) ≡ positions_from n count ++ (n + count) ∷ []
last_position n zero = let z : n ≡ n + 0 = omega arith in ap (λ (m : ℕ). m ∷ []) z
last_position n (suc count) =
    let e : n + 1 + count ≡ n + suc count = omega arith in
    ap (λ (xs : List ℕ). n ∷ xs) (last_position (n + 1) count ∙ ap (λ (m : ℕ). positions_from (n + 1) count ++ m ∷ []) e)

pub one_position : (n count : ℕ) → positions_from n (count + 1) ≡ positions_from n count ++ (n + count) ∷ []
one_position n count = let e : count + 1 ≡ suc count = omega arith in ap (positions_from n) e ∙ last_position n count

-- two statements or more
sequence_is : (s r : statements.Statement) (q : List statements.Statement) (places : Places) (n : ℕ) (rows : List Stmt)
    → write_statements (statements_in (s ∷ r ∷ q)) places n rows ≡ with_numbered (length rows) (write_others (statements_in (s ∷ r ∷ q)) places n [] (add stmt.Skip rows))
sequence_is s r q places n rows =
    let l : length rows + 1 ≡ length (rows ++ stmt.Skip ∷ []) = (let e = length-append rows (stmt.Skip ∷ []) in omega (arith, e)) in
    ap (λ (m : ℕ). with_numbered (length rows) (write_others (statements_in (r ∷ q)) places n (code_at m ∷ []) (write_statement (statement_of s) places n (add stmt.Skip rows)))) l

pub sequence_law : (q : List statements.Statement) (places : Places) (n : ℕ) (rows : List Stmt) → 2 ≤ length q
    → write_statements (statements_in q) places n rows ≡ with_numbered (length rows) (write_others (statements_in q) places n [] (add stmt.Skip rows))
sequence_law [] places n rows long = absurd (omega arith)
sequence_law (s ∷ []) places n rows long = absurd (omega arith)
sequence_law (s ∷ r ∷ q) places n rows long = sequence_is s r q places n rows

-- one `local` more
pub one_local : (m k n : ℕ) (rows : List Stmt) → m ≡ k + 1 → write_locals m n rows ≡ write_locals k (n + 1) (add (stmt.Local n 1 (behind rows)) rows)
one_local m k n rows e = let s : m ≡ suc k = omega (arith, e) in ap (λ (j : ℕ). write_locals j n rows) s
