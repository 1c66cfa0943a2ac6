-- Derivations in their canonical form: they derive, pass, and have the same table.
use Rattle.std.proofs.Common.{◌≡◌, ◌∙◌, ℕ, ◌+◌, ◌*◌, ◌≤◌, ◌^◌, List, [], ◌∷◌, ◌++◌, length, Option, None, refl, ap, arith, length-append}
use Rattle.kernel_syntax.specs.declared.stmt.Stmt.{Stmt}
use Rattle.oz_grammar.specs.declared.symbol.Symbol.{Symbol}
use Rattle.oz_grammar.specs.declared.symbol.Symbol.TheVariants as t
use Rattle.oz_grammar.specs.declared.fault.Fault.{Fault}
use Rattle.oz_grammar.specs.Grammar.{Statement, Simple, Block, Chooses, Tries, Sequence, One, Then, seq_text}
use Rattle.oz_grammar.specs.Scoping.{Scope, opening_scope, choice_scope, StmtDerives, SeqDerives}
use Rattle.oz_grammar.specs.Table.{code_at, plain_row, stmt_rows, seq_rows, many_rows, seq_numbers}
use Rattle.oz_grammar.specs.Faults.{deep_fault, fewer}
use Rattle.oz_grammar.specs.Check.{check_stmt, check_seq}
use Rattle.oz_grammar.specs.Canonical.{name_at}
use Rattle.oz_grammar.proofs.FieldOrder.{stopped}
use Rattle.oz_grammar.proofs.TableLimits.{plain_limits, opening_limits, choice_limits, deep_enough, stmt_limits, seq_limits}
use Rattle.oz_grammar.proofs.TableScopes.{plain_names}
use Rattle.oz_grammar.proofs.CanonicalNames.{length_from}
use Rattle.oz_grammar.proofs.CanonicalRows.{plain_tree, row_is_plain, row_passes, row_again, row_derives}
use Rattle.oz_grammar.proofs.CanonicalParts.{canonical_scope, canonical_opening, canonical_choice, opening_again, choice_again, handler_again}

abbrev mutual
  pub canonical_stmt : Statement → Scope → Statement
  canonical_stmt (Simple s) scope = Simple (plain_tree (plain_row s scope))
  canonical_stmt (Block o q) scope = Block (canonical_opening o scope) (canonical_seq q (opening_scope o scope))
  canonical_stmt (Chooses h q r) scope = Chooses (canonical_choice h scope) (canonical_seq q (choice_scope h scope)) (canonical_seq r scope)
  canonical_stmt (Tries q x r) scope = Tries (canonical_seq q scope) (name_at (length scope)) (canonical_seq r (scope ++ x ∷ []))

  pub canonical_seq : Sequence → Scope → Sequence
  canonical_seq (One s) scope = One (canonical_stmt s scope)
  canonical_seq (Then s q) scope = Then (canonical_stmt s scope) (canonical_seq q scope)

-- the canonical form of a statement with d levels
pub record StmtAgain (s : Statement) (d : ℕ) (scope : Scope) : Type 0 where
  pub derives : StmtDerives (canonical_stmt s scope) (canonical_scope scope)
  pub passes : (rest : List Symbol) (behind : Option Fault) → check_stmt (canonical_stmt s scope) d (canonical_scope scope) rest behind ≡ behind
  pub rows : (k : ℕ) → stmt_rows (canonical_stmt s scope) (canonical_scope scope) k ≡ stmt_rows s scope k

pub record SeqAgain (q : Sequence) (d : ℕ) (scope : Scope) : Type 0 where
  pub derives : SeqDerives (canonical_seq q scope) (canonical_scope scope)
  pub passes : (rest : List Symbol) (behind : Option Fault) → check_seq (canonical_seq q scope) d (canonical_scope scope) rest behind ≡ behind
  pub rows : (k : ℕ) → seq_rows (canonical_seq q scope) (canonical_scope scope) k ≡ seq_rows q scope k
  pub many : (k : ℕ) → many_rows (canonical_seq q scope) (canonical_scope scope) k ≡ many_rows q scope k
  pub numbers : (k : ℕ) → seq_numbers (canonical_seq q scope) (canonical_scope scope) k ≡ seq_numbers q scope k

-- a body under other declarations that are as many
body_again : (q : Sequence) (d : ℕ) (scope inner : Scope) → inner ≡ canonical_scope scope → SeqAgain q d scope
    → SeqDerives (canonical_seq q scope) inner × ((rest : List Symbol) (behind : Option Fault) → check_seq (canonical_seq q scope) d inner rest behind ≡ behind) × ((k : ℕ) → seq_rows (canonical_seq q scope) inner k ≡ seq_rows q scope k)
body_again q d scope inner same again = rw same (again.derives, again.passes, again.rows)

one_again : (s : Statement) (d : ℕ) (scope : Scope) → StmtAgain s d scope → SeqAgain (One s) d scope
one_again s d scope a = record { derives = a.derives; passes = a.passes; rows = a.rows; many = a.rows; numbers = λ k. refl }

then_again : (s : Statement) (q : Sequence) (d : ℕ) (scope : Scope) → StmtAgain s d scope → SeqAgain q d scope → SeqAgain (Then s q) d scope
then_again s q d scope a b = record {
  derives = (a.derives, b.derives);
  passes = λ rest behind. a.passes (seq_text (canonical_seq q scope) rest) (check_seq (canonical_seq q scope) d (canonical_scope scope) rest behind) ∙ b.passes rest behind;
  rows = λ k. rw (a.rows (k + 1), b.many (k + 1 + length (stmt_rows s scope (k + 1))), b.numbers (k + 1 + length (stmt_rows s scope (k + 1)))) refl;
  many = λ k. rw (a.rows k, b.many (k + length (stmt_rows s scope k))) refl;
  numbers = λ k. rw (a.rows k, b.numbers (k + length (stmt_rows s scope k))) refl;
}

mutual
  pub stmt_again : (s : Statement) (d : ℕ) (scope : Scope) (rest : List Symbol) (behind : Option Fault) → StmtDerives s scope → check_stmt s d scope rest behind ≡ None → length scope + 64 * d ≤ 12800 → StmtAgain s d scope
  stmt_again (Simple s) d scope rest behind derives e le =
      let u = stopped (deep_fault d) _ _ e in
      let small : length scope ≤ 2 ^ 64 = omega (arith, le) in
      let plain = row_is_plain s scope in
      let limits = (plain_limits s scope rest behind u.1).1 in
      let names = plain_names s scope rest behind derives u.1 in
      record {
        derives = row_derives (length scope) small (plain_row s scope) plain names;
        passes = λ r b. let pass = row_passes (length scope) small (plain_row s scope) r b plain limits names in rw u.0 pass;
        rows = λ k. ap (λ (row : Stmt). row ∷ []) (row_again (length scope) small (plain_row s scope) plain limits names);
      }
  stmt_again (Block o q) d scope rest behind derives e le =
      let u = stopped (deep_fault d) _ _ e in
      let more = deep_enough d u.0 in
      let opens = opening_limits o scope _ _ (omega (arith, le)) u.1 in
      let again = opening_again o scope _ _ (omega (arith, le)) u.1 in
      let inner = body_again q (fewer d) (opening_scope o scope) (opening_scope (canonical_opening o scope) (canonical_scope scope)) again.declares
      (seq_again q (fewer d) (opening_scope o scope) (t.End ∷ rest) behind derives opens.reached (omega (arith, le, more, opens.few))) in
      record {
        derives = inner.0;
        passes = λ r b.
            let first = again.passes (seq_text (canonical_seq q (opening_scope o scope)) (t.End ∷ r))
            (check_seq (canonical_seq q (opening_scope o scope)) (fewer d) (opening_scope (canonical_opening o scope) (canonical_scope scope)) (t.End ∷ r) b) in
            rw u.0 (first ∙ inner.1 (t.End ∷ r) b);
        rows = λ k. rw (again.row (code_at (k + 1)), inner.2 (k + 1)) refl;
      }
  stmt_again (Chooses h q r) d scope rest behind derives e le =
      let u = stopped (deep_fault d) _ _ e in
      let more = deep_enough d u.0 in
      let branches = choice_limits h scope _ _ (omega (arith, le)) u.1 in
      let after = seq_limits q (fewer d) (choice_scope h scope) 0 _ _ branches.reached (omega (arith, le, more, branches.few)) in
      let again = choice_again h scope _ _ (omega (arith, le)) u.1 in
      let first = body_again q (fewer d) (choice_scope h scope) (choice_scope (canonical_choice h scope) (canonical_scope scope)) again.declares
      (seq_again q (fewer d) (choice_scope h scope) _ _ derives.0 branches.reached (omega (arith, le, more, branches.few))) in
      let second = seq_again r (fewer d) scope (t.End ∷ rest) behind derives.1 after.0 (omega (arith, le, more)) in
      record {
        derives = (first.0, second.derives);
        passes = λ s b.
            let chosen = again.passes (seq_text (canonical_seq q (choice_scope h scope)) (t.Else ∷ seq_text (canonical_seq r scope) (t.End ∷ s)))
            (check_seq (canonical_seq q (choice_scope h scope)) (fewer d) (choice_scope (canonical_choice h scope) (canonical_scope scope)) (t.Else ∷ seq_text (canonical_seq r scope) (t.End ∷ s))
            (check_seq (canonical_seq r scope) (fewer d) (canonical_scope scope) (t.End ∷ s) b)) in
            rw u.0 (chosen ∙ first.1 (t.Else ∷ seq_text (canonical_seq r scope) (t.End ∷ s)) (check_seq (canonical_seq r scope) (fewer d) (canonical_scope scope) (t.End ∷ s) b) ∙ second.passes (t.End ∷ s) b);
        rows = λ k.
            let other : ℕ = k + 1 + length (seq_rows q (choice_scope h scope) (k + 1)) in
            rw (first.2 (k + 1), second.rows (k + 1 + length (seq_rows q (choice_scope h scope) (k + 1))), again.row (code_at (k + 1)) (code_at (k + 1 + length (seq_rows q (choice_scope h scope) (k + 1))))) refl;
      }
  stmt_again (Tries q x r) d scope rest behind derives e le =
      let u = stopped (deep_fault d) _ _ e in
      let more = deep_enough d u.0 in
      let l = length-append scope (x ∷ []) in
      let n = length_from 0 (length scope) in
      let after = seq_limits q (fewer d) scope 0 _ _ u.1 (omega (arith, le, more)) in
      let first = seq_again q (fewer d) scope _ _ derives.0 u.1 (omega (arith, le, more)) in
      let second = body_again r (fewer d) (scope ++ x ∷ []) (canonical_scope scope ++ name_at (length scope) ∷ []) (handler_again scope x)
      (seq_again r (fewer d) (scope ++ x ∷ []) (t.End ∷ rest) behind derives.1 after.0 (omega (arith, le, more, l))) in
      record {
        derives = (first.derives, second.0);
        passes = λ s b.
            rw u.0 (first.passes (t.Catch ∷ t.Variable (name_at (length scope)) ∷ t.Then ∷ seq_text (canonical_seq r (scope ++ x ∷ [])) (t.End ∷ s))
            (check_seq (canonical_seq r (scope ++ x ∷ [])) (fewer d) (canonical_scope scope ++ name_at (length scope) ∷ []) (t.End ∷ s) b) ∙ second.1 (t.End ∷ s) b);
        rows = λ k. rw (first.rows (k + 1), second.2 (k + 1 + length (seq_rows q scope (k + 1))), n) refl;
      }

  pub seq_again : (q : Sequence) (d : ℕ) (scope : Scope) (rest : List Symbol) (behind : Option Fault) → SeqDerives q scope → check_seq q d scope rest behind ≡ None → length scope + 64 * d ≤ 12800 → SeqAgain q d scope
  seq_again (One s) d scope rest behind derives e le = one_again s d scope (stmt_again s d scope rest behind derives e le)
  seq_again (Then s q) d scope rest behind derives e le =
      let after = stmt_limits s d scope 0 (seq_text q rest) (check_seq q d scope rest behind) e le in
      then_again s q d scope (stmt_again s d scope (seq_text q rest) (check_seq q d scope rest behind) derives.0 e le) (seq_again q d scope rest behind derives.1 after.0 le)
