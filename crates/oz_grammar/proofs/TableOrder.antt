-- The table of a derivation that passes is in preorder.
use Rattle.std.proofs.Common.{◌≡◌, ◌∙◌, ℕ, zero, suc, ◌+◌, ◌-◌, ◌*◌, ◌≤◌, List, [], ◌∷◌, ◌++◌, length, map, Bool, true, false, Option, None, refl, sym, ap, subst, arith, length-append, append_assoc}
use Rattle.std.proofs.lemmas.List.{append-nil}
use Rattle.tree_node.specs.declared.names.CodeId.{CodeId}
use Rattle.kernel_syntax.specs.declared.preorder.Body.{Body}
use Rattle.kernel_syntax.specs.declared.stmt.Stmt.{Stmt}
use Rattle.kernel_syntax.specs.declared.stmt.Stmt.TheVariants as stmt
use Rattle.kernel_syntax.specs.Scopes as scopes
use Rattle.kernel_syntax.specs.Preorder.{sequence_body, bodies_in, DeclaresBehind, IsWholeSequence, AreBodies, IsInPreorder}
use Rattle.kernel_syntax.proofs.Below.{Below}
use Rattle.oz_grammar.specs.declared.symbol.Symbol.{Symbol}
use Rattle.oz_grammar.specs.declared.symbol.Symbol.TheVariants as t
use Rattle.oz_grammar.specs.declared.fault.Fault.{Fault}
use Rattle.oz_grammar.specs.Grammar.{Opening, Locals, ProcValue, ProcNamed, Threads, ThreadsAt, Choice, Ifs, Cases, Statement, Simple, Block, Chooses, Tries, Sequence, One, Then, seq_text}
use Rattle.oz_grammar.specs.Scoping.{Scope, pattern_names, opening_scope, choice_scope, StmtDerives, SeqDerives, IsDerivation}
use Rattle.oz_grammar.specs.Table.{code_at, plain_row, opening_row, choice_row, stmt_rows, seq_rows, many_rows, seq_numbers, program_table}
use Rattle.oz_grammar.specs.Faults.{use_fault, deep_fault, fewer}
use Rattle.oz_grammar.specs.Check.{check_opening, check_choice, check_stmt, check_seq, check}
use Rattle.oz_grammar.proofs.FieldOrder.{stopped}
use Rattle.oz_grammar.proofs.TableLimits.{opening_limits, choice_limits, pattern_limits, deep_enough, stmt_limits, seq_limits}
use Rattle.oz_grammar.proofs.TableScopes.{used_within, plain_names}
use Rattle.oz_grammar.proofs.CanonicalRows.{IsPlainRow, row_is_plain}

-- the body with number k, d levels and n declarations around it, which is one of a sequence or not
abbrev pub body : ℕ → ℕ → ℕ → Bool → Body
body k d n one = record { code = code_at k; levels = d; around = n; in_sequence = one }

-- a level is left
level : (d : ℕ) → deep_fault d ≡ None → 1 ≤ d
level d e = let more = deep_enough d e in omega arith

pub fewer_is : (d : ℕ) → d - 1 ≡ fewer d
fewer_is zero = omega arith
fewer_is (suc d) = omega arith

-- ---- rows without bodies

-- a row has no bodies and declares nothing
pub record StandsAlone (row : Stmt) : Type 0 where
  pub none : (b : Body) → bodies_in b row ≡ []
  pub declares : (n : ℕ) → DeclaresBehind n row
  pub sequence : (one : Bool) → IsWholeSequence one row

pub alone : (row : Stmt) → IsPlainRow row → StandsAlone row
alone (stmt.Seq bodies) p = absurd p
alone stmt.Skip p = record { none = λ b. refl; declares = λ n. tt; sequence = λ one. tt }
alone (stmt.Local first count c) p = absurd p
alone (stmt.TellVar left right) p = record { none = λ b. refl; declares = λ n. tt; sequence = λ one. tt }
alone (stmt.TellInt left value) p = record { none = λ b. refl; declares = λ n. tt; sequence = λ one. tt }
alone (stmt.TellAtom left a) p = record { none = λ b. refl; declares = λ n. tt; sequence = λ one. tt }
alone (stmt.TellRec left label slots) p = record { none = λ b. refl; declares = λ n. tt; sequence = λ one. tt }
alone (stmt.TellProc left first count c) p = absurd p
alone (stmt.Calc left op x y) p = record { none = λ b. refl; declares = λ n. tt; sequence = λ one. tt }
alone (stmt.Test left op x y) p = record { none = λ b. refl; declares = λ n. tt; sequence = λ one. tt }
alone (stmt.Select left source by) p = record { none = λ b. refl; declares = λ n. tt; sequence = λ one. tt }
alone (stmt.If subject chosen other) p = absurd p
alone (stmt.Case subject pattern first chosen other) p = absurd p
alone (stmt.Call callee args) p = record { none = λ b. refl; declares = λ n. tt; sequence = λ one. tt }
alone (stmt.Browse x) p = record { none = λ b. refl; declares = λ n. tt; sequence = λ one. tt }
alone (stmt.Wait x) p = record { none = λ b. refl; declares = λ n. tt; sequence = λ one. tt }
alone (stmt.NewCell content cell) p = record { none = λ b. refl; declares = λ n. tt; sequence = λ one. tt }
alone (stmt.Exchange cell old new) p = record { none = λ b. refl; declares = λ n. tt; sequence = λ one. tt }
alone (stmt.NewPort stream port) p = record { none = λ b. refl; declares = λ n. tt; sequence = λ one. tt }
alone (stmt.Send port value) p = record { none = λ b. refl; declares = λ n. tt; sequence = λ one. tt }
alone (stmt.NewCellAt content cell place) p = record { none = λ b. refl; declares = λ n. tt; sequence = λ one. tt }
alone (stmt.Thread at c) p = absurd p
alone (stmt.Try c first handler) p = absurd p
alone (stmt.Raise x) p = record { none = λ b. refl; declares = λ n. tt; sequence = λ one. tt }

-- ---- rows with bodies

-- a row names what is declared around it, declares behind that, and has these bodies
pub record Stands (b : Body) (row : Stmt) (inner : List Body) : Type 0 where
  pub names : Below b.around (scopes.named_positions row)
  pub declares : DeclaresBehind b.around row
  pub sequence : IsWholeSequence b.in_sequence row
  pub bodies : bodies_in b row ≡ inner

-- a body that declares so many names
inner_is : (d n m : ℕ) (c : CodeId) → n ≡ m → ◌≡◌ {A = Body} (record { code = c; levels = d - 1; around = n; in_sequence = false }) (record { code = c; levels = fewer d; around = m; in_sequence = false })
inner_is d n m c e = rw (fewer_is d, e) refl

one_body : (d n m : ℕ) (c : CodeId) → n ≡ m → ◌≡◌ {A = List Body} (record { code = c; levels = d - 1; around = n; in_sequence = false } ∷ []) (record { code = c; levels = fewer d; around = m; in_sequence = false } ∷ [])
one_body d n m c e = ap (λ (b : Body). b ∷ []) (inner_is d n m c e)

opening_stands : (o : Opening) (k d : ℕ) (scope : Scope) (one : Bool) (j : ℕ) (rest : List Symbol) (behind : Option Fault) → check_opening o scope rest behind ≡ None
    → Stands (body k d (length scope) one) (opening_row o scope (code_at j)) (body j (fewer d) (length (opening_scope o scope)) false ∷ [])
opening_stands (Locals x xs) k d scope one j rest behind e =
    record { names = tt; declares = refl; sequence = tt; bodies = one_body d _ _ (code_at j) (sym (length-append scope (x ∷ xs))) }
opening_stands (ProcValue x xs) k d scope one j rest behind e =
    record { names = (used_within scope x (stopped (use_fault scope x) _ _ e).0, tt); declares = refl; sequence = tt; bodies = one_body d _ _ (code_at j) (sym (length-append scope xs)) }
opening_stands (ProcNamed x xs) k d scope one j rest behind e =
    record { names = (used_within scope x (stopped (use_fault scope x) _ _ e).0, tt); declares = refl; sequence = tt; bodies = one_body d _ _ (code_at j) (sym (length-append scope xs)) }
opening_stands Threads k d scope one j rest behind e = record { names = tt; declares = tt; sequence = tt; bodies = one_body d _ _ (code_at j) refl }
opening_stands (ThreadsAt n) k d scope one j rest behind e = record { names = tt; declares = tt; sequence = tt; bodies = one_body d _ _ (code_at j) refl }

two_bodies : (d n m : ℕ) (c : CodeId) (l : ℕ) (f : CodeId) → n ≡ m
    → ◌≡◌ {A = List Body} (record { code = c; levels = d - 1; around = n; in_sequence = false } ∷ record { code = f; levels = d - 1; around = l; in_sequence = false } ∷ [])
    (record { code = c; levels = fewer d; around = m; in_sequence = false } ∷ record { code = f; levels = fewer d; around = l; in_sequence = false } ∷ [])
two_bodies d n m c l f e = rw (fewer_is d, e) refl

choice_stands : (h : Choice) (k d : ℕ) (scope : Scope) (one : Bool) (i j : ℕ) (rest : List Symbol) (behind : Option Fault) → check_choice h scope rest behind ≡ None
    → Stands (body k d (length scope) one) (choice_row h scope (code_at i) (code_at j)) (body i (fewer d) (length (choice_scope h scope)) false ∷ body j (fewer d) (length scope) false ∷ [])
choice_stands (Ifs x) k d scope one i j rest behind e = record {
  names = (used_within scope x (stopped (use_fault scope x) _ behind e).0, tt);
  declares = tt;
  sequence = tt;
  bodies = two_bodies d _ _ (code_at i) (length scope) (code_at j) refl;
}
choice_stands (Cases x p) k d scope one i j rest behind e =
    let s = stopped (use_fault scope x) _ _ e in
    let declared = pattern_limits p scope (t.Then ∷ rest) behind s.1 in
    record {
      names = (used_within scope x s.0, tt);
      declares = refl;
      sequence = tt;
      bodies = two_bodies d _ _ (code_at i) (length scope) (code_at j) (ap (λ (n : ℕ). length scope + n) (sym declared.each) ∙ sym (length-append scope (pattern_names p)));
    }

try_bodies : (d n m : ℕ) (c : CodeId) (l : ℕ) (f : CodeId) → n ≡ m
    → ◌≡◌ {A = List Body} (record { code = c; levels = d - 1; around = l; in_sequence = false } ∷ record { code = f; levels = d - 1; around = n; in_sequence = false } ∷ [])
    (record { code = c; levels = fewer d; around = l; in_sequence = false } ∷ record { code = f; levels = fewer d; around = m; in_sequence = false } ∷ [])
try_bodies d n m c l f e = rw (fewer_is d, e) refl

-- a row before those of its bodies
pub row_before : (b : Body) (row : Stmt) (inner bs : List Body) (rows : List Stmt) (k : ℕ) → b.code.0 ≡ k → 1 ≤ b.levels → Stands b row inner → AreBodies (k + 1) (inner ++ bs) rows → AreBodies k (b ∷ bs) (row ∷ rows)
row_before b row inner bs rows k at levels s h =
    (at, record { level = levels; names = s.names; declares = s.declares; sequence = s.sequence }, subst (λ (cs : List Body). AreBodies (k + 1) (cs ++ bs) rows) (sym s.bodies) h)

-- ---- rows of a derivation

pub ends_at : (m n : ℕ) (bs : List Body) (more : List Stmt) → m ≡ n → AreBodies m bs more → AreBodies n bs more
ends_at m n bs more e h = subst (λ (k : ℕ). AreBodies k bs more) e h

pub before_more : (k : ℕ) (bs : List Body) (xs ys more : List Stmt) → AreBodies k bs (xs ++ (ys ++ more)) → AreBodies k bs ((xs ++ ys) ++ more)
before_more k bs xs ys more h = subst (AreBodies k bs) (sym (append_assoc xs ys more)) h

stmt_level : (s : Statement) (d : ℕ) (scope : Scope) (rest : List Symbol) (behind : Option Fault) → check_stmt s d scope rest behind ≡ None → 1 ≤ d
stmt_level (Simple s) d scope rest behind e = level d (stopped (deep_fault d) _ _ e).0
stmt_level (Block o q) d scope rest behind e = level d (stopped (deep_fault d) _ _ e).0
stmt_level (Chooses h q r) d scope rest behind e = level d (stopped (deep_fault d) _ _ e).0
stmt_level (Tries q x r) d scope rest behind e = level d (stopped (deep_fault d) _ _ e).0

two_numbers : (q : Sequence) (scope : Scope) (k : ℕ) (c : CodeId) → 2 ≤ length (c ∷ seq_numbers q scope k)
two_numbers (One s) scope k c = omega arith
two_numbers (Then s q) scope k c = omega arith

mutual
  stmt_order : (s : Statement) (d : ℕ) (scope : Scope) (k : ℕ) (one : Bool) (rest : List Symbol) (behind : Option Fault) (bs : List Body) (more : List Stmt) → StmtDerives s scope → check_stmt s d scope rest behind ≡ None
      → length scope + 64 * d ≤ 12800 → AreBodies (k + length (stmt_rows s scope k)) bs more → AreBodies k (body k d (length scope) one ∷ bs) (stmt_rows s scope k ++ more)
  stmt_order (Simple s) d scope k one rest behind bs more derives e le h =
      let u = stopped (deep_fault d) _ _ e in
      let is = alone (plain_row s scope) (row_is_plain s scope) in
      row_before (body k d (length scope) one) (plain_row s scope) [] bs more k refl (level d u.0)
      (record { names = plain_names s scope rest behind derives u.1; declares = is.declares (length scope); sequence = is.sequence one; bodies = is.none (body k d (length scope) one) }) h
  stmt_order (Block o q) d scope k one rest behind bs more derives e le h =
      let u = stopped (deep_fault d) _ _ e in
      let enough = deep_enough d u.0 in
      let opens = opening_limits o scope _ _ (omega (arith, le)) u.1 in
      let inner = seq_order q (fewer d) (opening_scope o scope) (k + 1) (t.End ∷ rest) behind bs more derives opens.reached (omega (arith, le, enough, opens.few))
      (ends_at (k + suc (length (seq_rows q (opening_scope o scope) (k + 1)))) (k + 1 + length (seq_rows q (opening_scope o scope) (k + 1))) bs more (omega arith) h) in
      row_before (body k d (length scope) one) (opening_row o scope (code_at (k + 1))) (body (k + 1) (fewer d) (length (opening_scope o scope)) false ∷ []) bs (seq_rows q (opening_scope o scope) (k + 1) ++ more) k refl (level d u.0)
      (opening_stands o k d scope one (k + 1) _ _ u.1) inner
  stmt_order (Chooses c q r) d scope k one rest behind bs more derives e le h =
      let u = stopped (deep_fault d) _ _ e in
      let enough = deep_enough d u.0 in
      let branches = choice_limits c scope _ _ (omega (arith, le)) u.1 in
      let after = seq_limits q (fewer d) (choice_scope c scope) (k + 1) _ _ branches.reached (omega (arith, le, enough, branches.few)) in
      let l = length-append (seq_rows q (choice_scope c scope) (k + 1)) (seq_rows r scope (k + 1 + length (seq_rows q (choice_scope c scope) (k + 1)))) in
      let second = seq_order r (fewer d) scope (k + 1 + length (seq_rows q (choice_scope c scope) (k + 1))) (t.End ∷ rest) behind bs more derives.1 after.0 (omega (arith, le, enough))
      (ends_at (k + suc (length (seq_rows q (choice_scope c scope) (k + 1) ++ seq_rows r scope (k + 1 + length (seq_rows q (choice_scope c scope) (k + 1))))))
      (k + 1 + length (seq_rows q (choice_scope c scope) (k + 1)) + length (seq_rows r scope (k + 1 + length (seq_rows q (choice_scope c scope) (k + 1))))) bs more (omega (arith, l)) h) in
      let first = seq_order q (fewer d) (choice_scope c scope) (k + 1) _ _ (body (k + 1 + length (seq_rows q (choice_scope c scope) (k + 1))) (fewer d) (length scope) false ∷ bs)
      (seq_rows r scope (k + 1 + length (seq_rows q (choice_scope c scope) (k + 1))) ++ more) derives.0 branches.reached (omega (arith, le, enough, branches.few)) second in
      row_before (body k d (length scope) one) (choice_row c scope (code_at (k + 1)) (code_at (k + 1 + length (seq_rows q (choice_scope c scope) (k + 1)))))
      (body (k + 1) (fewer d) (length (choice_scope c scope)) false ∷ body (k + 1 + length (seq_rows q (choice_scope c scope) (k + 1))) (fewer d) (length scope) false ∷ []) bs
      ((seq_rows q (choice_scope c scope) (k + 1) ++ seq_rows r scope (k + 1 + length (seq_rows q (choice_scope c scope) (k + 1)))) ++ more) k refl (level d u.0)
      (choice_stands c k d scope one (k + 1) (k + 1 + length (seq_rows q (choice_scope c scope) (k + 1))) _ _ u.1)
      (before_more (k + 1) (body (k + 1) (fewer d) (length (choice_scope c scope)) false ∷ body (k + 1 + length (seq_rows q (choice_scope c scope) (k + 1))) (fewer d) (length scope) false ∷ bs)
      (seq_rows q (choice_scope c scope) (k + 1)) (seq_rows r scope (k + 1 + length (seq_rows q (choice_scope c scope) (k + 1)))) more first)
  stmt_order (Tries q x r) d scope k one rest behind bs more derives e le h =
      let u = stopped (deep_fault d) _ _ e in
      let enough = deep_enough d u.0 in
      let longer = length-append scope (x ∷ []) in
      let after = seq_limits q (fewer d) scope (k + 1) _ _ u.1 (omega (arith, le, enough)) in
      let l = length-append (seq_rows q scope (k + 1)) (seq_rows r (scope ++ x ∷ []) (k + 1 + length (seq_rows q scope (k + 1)))) in
      let second = seq_order r (fewer d) (scope ++ x ∷ []) (k + 1 + length (seq_rows q scope (k + 1))) (t.End ∷ rest) behind bs more derives.1 after.0 (omega (arith, le, enough, longer))
      (ends_at (k + suc (length (seq_rows q scope (k + 1) ++ seq_rows r (scope ++ x ∷ []) (k + 1 + length (seq_rows q scope (k + 1))))))
      (k + 1 + length (seq_rows q scope (k + 1)) + length (seq_rows r (scope ++ x ∷ []) (k + 1 + length (seq_rows q scope (k + 1))))) bs more (omega (arith, l)) h) in
      let first = seq_order q (fewer d) scope (k + 1) _ _ (body (k + 1 + length (seq_rows q scope (k + 1))) (fewer d) (length (scope ++ x ∷ [])) false ∷ bs)
      (seq_rows r (scope ++ x ∷ []) (k + 1 + length (seq_rows q scope (k + 1))) ++ more) derives.0 u.1 (omega (arith, le, enough)) second in
      row_before (body k d (length scope) one) (stmt.Try (code_at (k + 1)) (length scope) (code_at (k + 1 + length (seq_rows q scope (k + 1)))))
      (body (k + 1) (fewer d) (length scope) false ∷ body (k + 1 + length (seq_rows q scope (k + 1))) (fewer d) (length (scope ++ x ∷ [])) false ∷ []) bs
      ((seq_rows q scope (k + 1) ++ seq_rows r (scope ++ x ∷ []) (k + 1 + length (seq_rows q scope (k + 1)))) ++ more) k refl (level d u.0)
      (record {
        names = tt;
        declares = refl;
        sequence = tt;
        bodies = try_bodies d _ _ (code_at (k + 1)) (length scope) (code_at (k + 1 + length (seq_rows q scope (k + 1)))) (sym longer);
      })
      (before_more (k + 1) (body (k + 1) (fewer d) (length scope) false ∷ body (k + 1 + length (seq_rows q scope (k + 1))) (fewer d) (length (scope ++ x ∷ [])) false ∷ bs)
      (seq_rows q scope (k + 1)) (seq_rows r (scope ++ x ∷ []) (k + 1 + length (seq_rows q scope (k + 1)))) more first)

  seq_order : (q : Sequence) (d : ℕ) (scope : Scope) (k : ℕ) (rest : List Symbol) (behind : Option Fault) (bs : List Body) (more : List Stmt) → SeqDerives q scope → check_seq q d scope rest behind ≡ None
      → length scope + 64 * d ≤ 12800 → AreBodies (k + length (seq_rows q scope k)) bs more → AreBodies k (body k d (length scope) false ∷ bs) (seq_rows q scope k ++ more)
  seq_order (One s) d scope k rest behind bs more derives e le h = stmt_order s d scope k false rest behind bs more derives e le h
  seq_order (Then s q) d scope k rest behind bs more derives e le h =
      let after = stmt_limits s d scope (k + 1) (seq_text q rest) (check_seq q d scope rest behind) e le in
      let l = length-append (stmt_rows s scope (k + 1)) (many_rows q scope (k + 1 + length (stmt_rows s scope (k + 1)))) in
      let others = many_order q d scope (k + 1 + length (stmt_rows s scope (k + 1))) k rest behind bs more derives.1 after.0 le
      (ends_at (k + suc (length (stmt_rows s scope (k + 1) ++ many_rows q scope (k + 1 + length (stmt_rows s scope (k + 1))))))
      (k + 1 + length (stmt_rows s scope (k + 1)) + length (many_rows q scope (k + 1 + length (stmt_rows s scope (k + 1))))) bs more (omega (arith, l)) h) in
      let first = stmt_order s d scope (k + 1) true (seq_text q rest) (check_seq q d scope rest behind) (map (sequence_body (body k d (length scope) false)) (seq_numbers q scope (k + 1 + length (stmt_rows s scope (k + 1)))) ++ bs)
      (many_rows q scope (k + 1 + length (stmt_rows s scope (k + 1))) ++ more) derives.0 e le others in
      row_before (body k d (length scope) false) (stmt.Seq (code_at (k + 1) ∷ seq_numbers q scope (k + 1 + length (stmt_rows s scope (k + 1)))))
      (map (sequence_body (body k d (length scope) false)) (code_at (k + 1) ∷ seq_numbers q scope (k + 1 + length (stmt_rows s scope (k + 1))))) bs
      ((stmt_rows s scope (k + 1) ++ many_rows q scope (k + 1 + length (stmt_rows s scope (k + 1)))) ++ more) k refl (stmt_level s d scope (seq_text q rest) (check_seq q d scope rest behind) e)
      (record { names = tt; declares = tt; sequence = (refl, two_numbers q scope (k + 1 + length (stmt_rows s scope (k + 1))) (code_at (k + 1))); bodies = refl })
      (before_more (k + 1) (body (k + 1) d (length scope) true ∷ (map (sequence_body (body k d (length scope) false)) (seq_numbers q scope (k + 1 + length (stmt_rows s scope (k + 1)))) ++ bs))
      (stmt_rows s scope (k + 1)) (many_rows q scope (k + 1 + length (stmt_rows s scope (k + 1)))) more first)

  -- the statements of the sequence with number o
  many_order : (q : Sequence) (d : ℕ) (scope : Scope) (k o : ℕ) (rest : List Symbol) (behind : Option Fault) (bs : List Body) (more : List Stmt) → SeqDerives q scope → check_seq q d scope rest behind ≡ None
      → length scope + 64 * d ≤ 12800 → AreBodies (k + length (many_rows q scope k)) bs more → AreBodies k (map (sequence_body (body o d (length scope) false)) (seq_numbers q scope k) ++ bs) (many_rows q scope k ++ more)
  many_order (One s) d scope k o rest behind bs more derives e le h = stmt_order s d scope k true rest behind bs more derives e le h
  many_order (Then s q) d scope k o rest behind bs more derives e le h =
      let after = stmt_limits s d scope k (seq_text q rest) (check_seq q d scope rest behind) e le in
      let l = length-append (stmt_rows s scope k) (many_rows q scope (k + length (stmt_rows s scope k))) in
      let others = many_order q d scope (k + length (stmt_rows s scope k)) o rest behind bs more derives.1 after.0 le
      (ends_at (k + length (stmt_rows s scope k ++ many_rows q scope (k + length (stmt_rows s scope k))))
      (k + length (stmt_rows s scope k) + length (many_rows q scope (k + length (stmt_rows s scope k)))) bs more (omega (arith, l)) h) in
      let first = stmt_order s d scope k true (seq_text q rest) (check_seq q d scope rest behind) (map (sequence_body (body o d (length scope) false)) (seq_numbers q scope (k + length (stmt_rows s scope k))) ++ bs)
      (many_rows q scope (k + length (stmt_rows s scope k)) ++ more) derives.0 e le others in
      before_more k (body k d (length scope) true ∷ (map (sequence_body (body o d (length scope) false)) (seq_numbers q scope (k + length (stmt_rows s scope k))) ++ bs))
      (stmt_rows s scope k) (many_rows q scope (k + length (stmt_rows s scope k))) more first

pub program_order : (q : Sequence) → IsDerivation q → check q ≡ None → IsInPreorder (program_table q)
program_order q derives e =
    subst (AreBodies 0 (body 0 200 0 false ∷ [])) (append-nil (seq_rows q [] 0)) (seq_order q 200 [] 0 (t.EndOfText ∷ []) None [] [] derives e (omega arith) tt)
