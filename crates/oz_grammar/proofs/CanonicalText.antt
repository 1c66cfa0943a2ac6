-- The canonical symbols of a table are those of the derivation in its canonical form, and so they read as the table.
use Rattle.std.proofs.Common.{◌≡◌, ◌∙◌, ℕ, zero, suc, ◌+◌, ◌≤◌, List, [], ◌∷◌, ◌++◌, length, None, refl, sym, ap, arith, length-append}
use Rattle.std.proofs.lemmas.List.{append-nil}
use Rattle.kernel_syntax.specs.declared.stmt.Stmt.{Stmt}
use Rattle.kernel_syntax.specs.declared.stmt.Stmt.TheVariants as stmt
use Rattle.oz_grammar.specs.declared.symbol.Symbol.{Symbol}
use Rattle.oz_grammar.specs.declared.symbol.Symbol.TheVariants as t
use Rattle.oz_grammar.specs.Grammar.{Statement, Simple, Block, Chooses, Tries, Sequence, One, Then, opening_text, choice_text, stmt_text, seq_text, program_text}
use Rattle.oz_grammar.specs.Scoping.{Scope, opening_scope, choice_scope}
use Rattle.oz_grammar.specs.Table.{code_at, plain_row, opening_row, choice_row, stmt_rows, seq_rows, many_rows, seq_numbers, program_table}
use Rattle.oz_grammar.specs.Reads.{ReadsSymbols}
use Rattle.oz_grammar.specs.Canonical.{name_at, bodies_symbols, row_symbols, symbols_within, canonical_symbols}
use Rattle.oz_grammar.proofs.TableScopes.{Has, here, behind_row, left_of, right_of}
use Rattle.oz_grammar.proofs.CanonicalRows.{row_is_plain, plain_symbols}
use Rattle.oz_grammar.proofs.CanonicalParts.{canonical_opening, canonical_choice, opening_symbols, choice_symbols}
use Rattle.oz_grammar.proofs.CanonicalTrees.{canonical_stmt, canonical_seq, seq_again}

-- the symbols of a row in a table
row_here : (f : ℕ) (p others : List Stmt) (row : Stmt) (k : ℕ) (rest : List Symbol) → Has p (row ∷ others) k → symbols_within (suc f) p (code_at k) rest ≡ row_symbols (symbols_within f p) row rest
row_here f p others row k rest h = ap (λ (r : Stmt). row_symbols (symbols_within f p) r rest) (here p others row k h)

mutual
  stmt_symbols : (s : Statement) (scope : Scope) (k f : ℕ) (p : List Stmt) (rest : List Symbol) → Has p (stmt_rows s scope k) k → length (stmt_rows s scope k) ≤ f → symbols_within f p (code_at k) rest ≡ stmt_text (canonical_stmt s scope) rest
  stmt_symbols (Simple s) scope k zero p rest h le = absurd (omega (arith, le))
  stmt_symbols (Simple s) scope k (suc f) p rest h le =
      row_here f p [] (plain_row s scope) k rest h ∙ plain_symbols (plain_row s scope) (symbols_within f p) rest (row_is_plain s scope)
  stmt_symbols (Block o q) scope k zero p rest h le = absurd (omega (arith, le))
  stmt_symbols (Block o q) scope k (suc f) p rest h le =
      row_here f p (seq_rows q (opening_scope o scope) (k + 1)) (opening_row o scope (code_at (k + 1))) k rest h
      ∙ opening_symbols o scope (code_at (k + 1)) (symbols_within f p) rest
      ∙ ap (opening_text (canonical_opening o scope)) (seq_symbols q (opening_scope o scope) (k + 1) f p (t.End ∷ rest)
      (behind_row p (seq_rows q (opening_scope o scope) (k + 1)) (opening_row o scope (code_at (k + 1))) k h) (omega (arith, le)))
  stmt_symbols (Chooses c q r) scope k zero p rest h le = absurd (omega (arith, le))
  stmt_symbols (Chooses c q r) scope k (suc f) p rest h le =
      let l = length-append (seq_rows q (choice_scope c scope) (k + 1)) (seq_rows r scope (k + 1 + length (seq_rows q (choice_scope c scope) (k + 1)))) in
      let rows = behind_row p (seq_rows q (choice_scope c scope) (k + 1) ++ seq_rows r scope (k + 1 + length (seq_rows q (choice_scope c scope) (k + 1))))
      (choice_row c scope (code_at (k + 1)) (code_at (k + 1 + length (seq_rows q (choice_scope c scope) (k + 1))))) k h in
      let second = seq_symbols r scope (k + 1 + length (seq_rows q (choice_scope c scope) (k + 1))) f p (t.End ∷ rest)
      (right_of p (seq_rows q (choice_scope c scope) (k + 1)) (seq_rows r scope (k + 1 + length (seq_rows q (choice_scope c scope) (k + 1)))) (k + 1) rows) (omega (arith, le, l)) in
      let first = seq_symbols q (choice_scope c scope) (k + 1) f p (t.Else ∷ seq_text (canonical_seq r scope) (t.End ∷ rest))
      (left_of p (seq_rows q (choice_scope c scope) (k + 1)) (seq_rows r scope (k + 1 + length (seq_rows q (choice_scope c scope) (k + 1)))) (k + 1) rows) (omega (arith, le, l)) in
      row_here f p (seq_rows q (choice_scope c scope) (k + 1) ++ seq_rows r scope (k + 1 + length (seq_rows q (choice_scope c scope) (k + 1))))
      (choice_row c scope (code_at (k + 1)) (code_at (k + 1 + length (seq_rows q (choice_scope c scope) (k + 1))))) k rest h
      ∙ choice_symbols c scope (code_at (k + 1)) (code_at (k + 1 + length (seq_rows q (choice_scope c scope) (k + 1)))) (symbols_within f p) rest
      ∙ ap (choice_text (canonical_choice c scope)) (ap (λ (b : List Symbol). symbols_within f p (code_at (k + 1)) (t.Else ∷ b)) second ∙ first)
  stmt_symbols (Tries q x r) scope k zero p rest h le = absurd (omega (arith, le))
  stmt_symbols (Tries q x r) scope k (suc f) p rest h le =
      let l = length-append (seq_rows q scope (k + 1)) (seq_rows r (scope ++ x ∷ []) (k + 1 + length (seq_rows q scope (k + 1)))) in
      let rows = behind_row p (seq_rows q scope (k + 1) ++ seq_rows r (scope ++ x ∷ []) (k + 1 + length (seq_rows q scope (k + 1))))
      (stmt.Try (code_at (k + 1)) (length scope) (code_at (k + 1 + length (seq_rows q scope (k + 1))))) k h in
      let second = seq_symbols r (scope ++ x ∷ []) (k + 1 + length (seq_rows q scope (k + 1))) f p (t.End ∷ rest)
      (right_of p (seq_rows q scope (k + 1)) (seq_rows r (scope ++ x ∷ []) (k + 1 + length (seq_rows q scope (k + 1)))) (k + 1) rows) (omega (arith, le, l)) in
      let first = seq_symbols q scope (k + 1) f p (t.Catch ∷ t.Variable (name_at (length scope)) ∷ t.Then ∷ seq_text (canonical_seq r (scope ++ x ∷ [])) (t.End ∷ rest))
      (left_of p (seq_rows q scope (k + 1)) (seq_rows r (scope ++ x ∷ []) (k + 1 + length (seq_rows q scope (k + 1)))) (k + 1) rows) (omega (arith, le, l)) in
      row_here f p (seq_rows q scope (k + 1) ++ seq_rows r (scope ++ x ∷ []) (k + 1 + length (seq_rows q scope (k + 1))))
      (stmt.Try (code_at (k + 1)) (length scope) (code_at (k + 1 + length (seq_rows q scope (k + 1))))) k rest h
      ∙ ap (λ (b : List Symbol). t.Try ∷ b) (ap (λ (b : List Symbol). symbols_within f p (code_at (k + 1)) (t.Catch ∷ t.Variable (name_at (length scope)) ∷ t.Then ∷ b)) second ∙ first)

  seq_symbols : (q : Sequence) (scope : Scope) (k f : ℕ) (p : List Stmt) (rest : List Symbol) → Has p (seq_rows q scope k) k → length (seq_rows q scope k) ≤ f → symbols_within f p (code_at k) rest ≡ seq_text (canonical_seq q scope) rest
  seq_symbols (One s) scope k f p rest h le = stmt_symbols s scope k f p rest h le
  seq_symbols (Then s q) scope k zero p rest h le = absurd (omega (arith, le))
  seq_symbols (Then s q) scope k (suc f) p rest h le =
      let l = length-append (stmt_rows s scope (k + 1)) (many_rows q scope (k + 1 + length (stmt_rows s scope (k + 1)))) in
      let rows = behind_row p (stmt_rows s scope (k + 1) ++ many_rows q scope (k + 1 + length (stmt_rows s scope (k + 1))))
      (stmt.Seq (code_at (k + 1) ∷ seq_numbers q scope (k + 1 + length (stmt_rows s scope (k + 1))))) k h in
      let others = many_symbols q scope (k + 1 + length (stmt_rows s scope (k + 1))) f p rest
      (right_of p (stmt_rows s scope (k + 1)) (many_rows q scope (k + 1 + length (stmt_rows s scope (k + 1)))) (k + 1) rows) (omega (arith, le, l)) in
      let first = stmt_symbols s scope (k + 1) f p (seq_text (canonical_seq q scope) rest)
      (left_of p (stmt_rows s scope (k + 1)) (many_rows q scope (k + 1 + length (stmt_rows s scope (k + 1)))) (k + 1) rows) (omega (arith, le, l)) in
      row_here f p (stmt_rows s scope (k + 1) ++ many_rows q scope (k + 1 + length (stmt_rows s scope (k + 1))))
      (stmt.Seq (code_at (k + 1) ∷ seq_numbers q scope (k + 1 + length (stmt_rows s scope (k + 1))))) k rest h
      ∙ (ap (λ (b : List Symbol). symbols_within f p (code_at (k + 1)) b) others ∙ first)

  many_symbols : (q : Sequence) (scope : Scope) (k f : ℕ) (p : List Stmt) (rest : List Symbol) → Has p (many_rows q scope k) k → length (many_rows q scope k) ≤ f
      → bodies_symbols (symbols_within f p) (seq_numbers q scope k) rest ≡ seq_text (canonical_seq q scope) rest
  many_symbols (One s) scope k f p rest h le = stmt_symbols s scope k f p rest h le
  many_symbols (Then s q) scope k f p rest h le =
      let l = length-append (stmt_rows s scope k) (many_rows q scope (k + length (stmt_rows s scope k))) in
      let others = many_symbols q scope (k + length (stmt_rows s scope k)) f p rest (right_of p (stmt_rows s scope k) (many_rows q scope (k + length (stmt_rows s scope k))) k h) (omega (arith, le, l)) in
      let first = stmt_symbols s scope k f p (seq_text (canonical_seq q scope) rest) (left_of p (stmt_rows s scope k) (many_rows q scope (k + length (stmt_rows s scope k))) k h) (omega (arith, le, l)) in
      ap (λ (b : List Symbol). symbols_within f p (code_at k) b) others ∙ first

pub program_symbols : (q : Sequence) → canonical_symbols (program_table q) ≡ program_text (canonical_seq q [])
unfolding canonical_symbols
program_symbols q =
    let has : Has (program_table q) (seq_rows q [] 0) 0 = record { pre = []; post = []; is = sym (append-nil (seq_rows q [] 0)); at = refl } in
    seq_symbols q [] 0 (length (program_table q)) (program_table q) (t.EndOfText ∷ []) has (omega arith)

-- what symbols read reads again from its canonical symbols
pub canonical_reads : (symbols : List Symbol) (p : List Stmt) → ReadsSymbols symbols p → ReadsSymbols (canonical_symbols p) p
canonical_reads symbols p reads =
    let again = seq_again reads.program 200 [] (t.EndOfText ∷ []) None reads.derives reads.passes (omega arith) in
    record {
      program = canonical_seq reads.program [];
      derives = again.derives;
      derived = ap canonical_symbols reads.table ∙ program_symbols reads.program;
      passes = again.passes (t.EndOfText ∷ []) None;
      table = reads.table ∙ sym (again.rows 0);
    }
