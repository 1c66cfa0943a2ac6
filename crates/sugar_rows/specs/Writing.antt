-- Rows as they are written, one behind the other: what stands for a value, behind the rows so far. The code follows these
-- clause by clause; that they are the rows of the expansion is a law.
use Rattle.std.specs.Prelude.{ℕ, zero, suc, ◌+◌, List, [], ◌∷◌, ◌++◌, length, slice_set, slice_get, unwrap_or}
use Rattle.tree_node.specs.declared.names.CodeId.{CodeId}
use Rattle.kernel_syntax.specs.declared.stmt.Stmt.{Stmt}
use Rattle.kernel_syntax.specs.declared.stmt.Stmt.TheVariants as stmt
use Rattle.kernel_syntax.specs.Scopes.{features_in}
use Rattle.oz_grammar.specs.Table.{code_at, pair_row}
use Rattle.kernel_syntax.specs.Sugar.{Value, Variable, Integer, Atom, Record, Apply, Proc, Fun, If, Case, Brackets, Values, no_values, value_and, ValueClauses, no_clauses, clause_and, Statement, Skip, Tell, Acts, Local, Thread, IfStatement, CaseStatement, Try, Finally, Statements, no_statements, statement_and, Clauses, no_cases, case_and, by_kind, new_of, new_in, part_and}
use Rattle.sugar_rows.specs.Put.{Places, place, declare, slot_places, operation_row, action_row}

-- what a writer holds: the rows so far, the positions of the identifiers of the text, and how many declarations there are
pub record State : Type 0 where
  pub rows : List Stmt
  pub places : Places
  pub around : ℕ

-- the same, made of its parts
abbrev pub state_of : List Stmt → Places → ℕ → State
state_of rows places around = record { rows = rows; places = places; around = around }

-- the same with these rows
abbrev pub written : List Stmt → State → State
written rows s = state_of rows s.places s.around

-- one row more
abbrev pub add : Stmt → List Stmt → List Stmt
add row rows = rows ++ row ∷ []

-- the number of the next row
abbrev pub next : List Stmt → CodeId
next rows = code_at (length rows)

-- that of the row behind it
abbrev pub behind : List Stmt → CodeId
behind rows = code_at (length rows + 1)

-- the number of a second body goes into this row
abbrev pub set_second : CodeId → Stmt → Stmt
set_second n (stmt.If subject chosen other) = stmt.If subject chosen n
set_second n (stmt.Case subject pattern first chosen other) = stmt.Case subject pattern first chosen n
set_second n (stmt.Try body first handler) = stmt.Try body first n
set_second n row = row

-- the row at this place gets a second body, whose row comes next
abbrev pub with_second : ℕ → List Stmt → List Stmt
with_second at rows = slice_set rows at (set_second (next rows) (unwrap_or (slice_get rows at) stmt.Skip))

-- the row at this place becomes a sequence of these statements
abbrev pub with_numbers : ℕ → List CodeId → List Stmt → List Stmt
with_numbers at numbers rows = slice_set rows at (stmt.Seq numbers)

-- numbers and rows
abbrev pub Numbered : Type 0
Numbered = List CodeId × List Stmt

-- the row at this place becomes a sequence of the statements with these numbers
abbrev pub with_numbered : ℕ → Numbered → List Stmt
with_numbered at m = with_numbers at m.0 m.1

-- the position of a part: that of a variable, or a new one
abbrev pub held_place : Value → Places → ℕ → ℕ
held_place (Variable left k) places n = place places k
held_place v places n = n

-- the rows before those of what goes on with a part that is no variable
abbrev pub new_rows : (List Stmt → List Stmt) → ℕ → List Stmt → List Stmt
new_rows put_part n rows =
    let inside = put_part (add stmt.Skip (add (stmt.Local n 1 (behind rows)) rows)) in
    with_numbers (length rows + 1) (code_at (length rows + 1 + 1) ∷ next inside ∷ []) inside

-- those before what goes on with a part
abbrev pub hold_rows : Value → (List Stmt → List Stmt) → ℕ → List Stmt → List Stmt
hold_rows v put_part n rows = by_kind v rows (new_rows put_part n rows)

-- a `local` for each of so many new identifiers, each in the one before
abbrev pub write_locals : ℕ → ℕ → List Stmt → List Stmt
write_locals zero n rows = rows
write_locals (suc count) n rows = write_locals count (n + 1) (add (stmt.Local n 1 (behind rows)) rows)

-- the tell of a record alone, or with those of its fields behind it
abbrev pub write_record : ℕ → ℕ → Stmt → (List CodeId → List Stmt → Numbered) → List Stmt → List Stmt
write_record zero n tell fields rows = add tell rows
write_record (suc count) n tell fields rows =
    let inside = write_locals (suc count) n rows in
    with_numbered (length inside) (fields (behind inside ∷ []) (add tell (add stmt.Skip inside)))

-- a statement with two bodies up to its second: its row gets the number of that then
abbrev pub write_one : Stmt → (List Stmt → List Stmt) → List Stmt → List Stmt
write_one row first rows = with_second (length rows) (first (add row rows))

-- one with both
abbrev pub write_two : Stmt → (List Stmt → List Stmt) → (List Stmt → List Stmt) → List Stmt → List Stmt
write_two row first second rows = second (write_one row first rows)

-- one statement, or a sequence
abbrev pub one_or_more : {A : Type 0} → Statements → A → A → A
one_or_more no_statements one more = one
one_or_more (statement_and s q) one more = more

-- the first where there are no clauses, else the second
abbrev pub with_cases : {A : Type 0} → Clauses → A → A → A
with_cases no_cases none some = none
with_cases (case_and p q cs) none some = some

-- behind the statements that are tried: the handler, and the last call
abbrev pub write_ends : ℕ → ℕ → ℕ → List Stmt → List Stmt
write_ends n owner tried rows =
    let handled = add (stmt.Raise (n + 1)) (add (stmt.Call n []) (add (stmt.Seq (behind rows ∷ code_at (length rows + 1 + 1) ∷ [])) rows)) in
    with_numbers owner (code_at (owner + 1) ∷ code_at tried ∷ next handled ∷ []) (add (stmt.Call n []) handled)

-- the rows before the statements behind `finally`
abbrev pub last_rows : ℕ → List Stmt → List Stmt
last_rows n rows = add (stmt.TellProc n (n + 1) 0 (code_at (length rows + 1 + 1 + 1))) (add stmt.Skip (add (stmt.Local n 1 (behind rows)) rows))

-- local P in P = proc {$} U end try S catch V then {P} raise V end end {P} end
abbrev pub write_finally : ℕ → (List Stmt → List Stmt) → (List Stmt → List Stmt) → List Stmt → List Stmt
write_finally n u s rows =
    let called = u (last_rows n rows) in
    write_ends n (length rows + 1) (length called) (write_one (stmt.Try (behind called) (n + 1) (code_at 0)) s called)

-- the rows behind those so far: of a value that is told to position x under n declarations, of lists of values, of clauses, of
-- statements
abbrev mutual
  pub write : Value → Places → ℕ → ℕ → List Stmt → List Stmt
  write (Variable left k) places n x rows = add (stmt.TellVar x (place places k)) rows
  write (Integer left i) places n x rows = add (stmt.TellInt x i) rows
  write (Atom left a) places n x rows = add (stmt.TellAtom x a) rows
  write (Record left a slots vs) places n x rows =
      write_record (new_in vs) n (stmt.TellRec x a (slot_places places n slots)) (write_fields vs places (n + new_in vs) n) rows
  write (Apply left operation vs) places n x rows = let m = write_all vs places n [] rows in add (operation_row places operation m.0 x) m.1
  write (Proc left count q) places n x rows = write_statements q (declare places n count) (n + count) (add (stmt.TellProc x n count (behind rows)) rows)
  write (Fun left count v) places n x rows = write v (declare places n count) (n + count + 1) (n + count) (add (stmt.TellProc x n (count + 1) (behind rows)) rows)
  write (If left e a b) places n x rows =
      let held = hold_rows e (write e places (n + 1) n) n rows in
      write_two (stmt.If (held_place e places n) (behind held) (code_at 0)) (write a places (n + new_of e) x) (write b places (n + new_of e) x) held
  write (Case left e cs b) places n x rows =
      write b places (n + new_of e) x (write_clauses cs places (n + new_of e) (held_place e places n) x (hold_rows e (write e places (n + 1) n) n rows))
  write (Brackets left v) places n x rows = write v places n x rows

  -- the positions of parts behind those of the ones before, and the rows before those of what goes on with them
  pub write_all : Values → Places → ℕ → List ℕ → List Stmt → List ℕ × List Stmt
  write_all no_values places n ys rows = (ys, rows)
  write_all (value_and v vs) places n ys rows =
      write_all vs places (n + new_of v) (ys ++ held_place v places n ∷ []) (hold_rows v (write v places (n + 1) n) n rows)

  pub write_fields : Values → Places → ℕ → ℕ → List CodeId → List Stmt → Numbered
  write_fields no_values places n i numbers rows = (numbers, rows)
  write_fields (value_and v vs) places n i numbers rows =
      by_kind v (write_fields vs places n i numbers rows) (write_fields vs places n (i + 1) (numbers ++ next rows ∷ []) (write v places n i rows))

  -- the clauses, each in the `else` branch of the one before
  pub write_clauses : ValueClauses → Places → ℕ → ℕ → ℕ → List Stmt → List Stmt
  write_clauses no_clauses places n y x rows = rows
  write_clauses (clause_and p v cs) places n y x rows =
      write_clauses cs places n y x (write_one (stmt.Case y p n (behind rows) (code_at 0)) (write v (declare places n (length (features_in p))) (n + length (features_in p)) x) rows)

  pub write_statement : Statement → Places → ℕ → List Stmt → List Stmt
  write_statement (Skip left) places n rows = add stmt.Skip rows
  write_statement (Tell left x v) places n rows = write v places n (place places x) rows
  write_statement (Acts left action vs) places n rows = let m = write_all vs places n [] rows in add (action_row places action m.0) m.1
  write_statement (Local left count q) places n rows = write_statements q (declare places n count) (n + count) (add (stmt.Local n count (behind rows)) rows)
  write_statement (Thread left at q) places n rows = write_statements q places n (add (stmt.Thread at (behind rows)) rows)
  write_statement (IfStatement left e q r) places n rows =
      let held = hold_rows e (write e places (n + 1) n) n rows in
      write_two (stmt.If (held_place e places n) (behind held) (code_at 0)) (write_statements q places (n + new_of e)) (write_statements r places (n + new_of e)) held
  write_statement (CaseStatement left e cs r) places n rows =
      let held = hold_rows e (write e places (n + 1) n) n rows in
      with_cases cs (add stmt.Skip held) (write_statements r places (n + new_of e) (write_cases cs places (n + new_of e) (held_place e places n) held))
  write_statement (Try left q r) places n rows =
      write_two (stmt.Try (behind rows) n (code_at 0)) (write_statements q places n) (write_statements r (declare places n 1) (n + 1)) rows
  write_statement (Finally left q u) places n rows = write_finally n (write_statements u places (n + 1)) (write_statements q places (n + 1)) rows

  pub write_statements : Statements → Places → ℕ → List Stmt → List Stmt
  write_statements no_statements places n rows = add stmt.Skip rows
  write_statements (statement_and s q) places n rows =
      one_or_more q (write_statement s places n rows)
      (with_numbered (length rows) (write_others q places n (behind rows ∷ []) (write_statement s places n (add stmt.Skip rows))))

  pub write_others : Statements → Places → ℕ → List CodeId → List Stmt → Numbered
  write_others no_statements places n numbers rows = (numbers, rows)
  write_others (statement_and s q) places n numbers rows = write_others q places n (numbers ++ next rows ∷ []) (write_statement s places n rows)

  pub write_cases : Clauses → Places → ℕ → ℕ → List Stmt → List Stmt
  write_cases no_cases places n y rows = rows
  write_cases (case_and p q cs) places n y rows =
      write_cases cs places n y (write_one (stmt.Case y p n (behind rows) (code_at 0)) (write_statements q (declare places n (length (features_in p))) (n + length (features_in p))) rows)

-- those of a head before a list, which is told to the position behind the head's
abbrev pub head_rows : Value → Places → ℕ → ℕ → List Stmt → List Stmt
head_rows h places n x rows =
    let inside = write_locals (new_of h + 1) n rows in
    let m = write_fields (part_and h no_values) places (n + (new_of h + 1)) n (behind inside ∷ []) (add (pair_row x (held_place h places n) (n + new_of h)) (add stmt.Skip inside)) in
    with_numbers (length inside) (m.0 ++ next m.1 ∷ []) m.1

-- the rows of a program
abbrev pub program_rows : Statements → List Stmt
program_rows q = write_statements q [] 0 []
