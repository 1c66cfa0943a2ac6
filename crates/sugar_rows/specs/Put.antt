-- What sugar stands for: kernel statements (CTM section 2.6). Each new identifier is declared by a `local` of its own and
-- has a position of its own, so it hides none, and an identifier of the text means its declaration there also behind new ones.
use Rattle.std.specs.Prelude.{◌≡◌, ℕ, zero, suc, ◌+◌, List, [], ◌∷◌, ◌++◌, length, map, slice_index}
use Rattle.tree_node.specs.declared.node.Feature.{Feature}
use Rattle.kernel_syntax.specs.declared.stmt.Stmt.{Stmt}
use Rattle.kernel_syntax.specs.declared.stmt.Stmt.TheVariants as stmt
use Rattle.kernel_syntax.specs.declared.stmt.Selector.{Selector}
use Rattle.kernel_syntax.specs.declared.stmt.Selector.TheVariants as selector
use Rattle.kernel_syntax.specs.Scopes.{features_in}
use Rattle.oz_grammar.specs.Table.{built_in_row}
use Rattle.kernel_syntax.specs.declared.sugar.Operation.{Operation}
use Rattle.kernel_syntax.specs.declared.sugar.Operation.TheVariants as operation
use Rattle.kernel_syntax.specs.declared.sugar.Action.{Action}
use Rattle.kernel_syntax.specs.declared.sugar.Action.TheVariants as action
use Rattle.kernel_syntax.specs.declared.sugar.Field.{Field}
use Rattle.kernel_syntax.specs.declared.sugar.Field.TheVariants as field
use Rattle.kernel_syntax.specs.Sugar.{Value, Variable, Integer, Atom, Record, Apply, Values, no_values, value_and, ValueClauses, no_clauses, clause_and, Statement, Skip, Tell, Acts, IfStatement, CaseStatement, Finally, Statements, no_statements, statement_and, Clauses, no_cases, case_and, by_kind, new_in}
use Rattle.kernel_syntax.specs.Sugar as sugar
use Rattle.sugar_rows.specs.Codes.{Code, Leaf, Local, Proc, Thread, If, Case, Try, Codes, One, Then, codes_rows, follow}

-- the positions in the program of the identifiers that the text declares around a place, from the outside inwards
abbrev pub Places : Type 0
Places = List ℕ

-- the position of an identifier of the text
abbrev pub place : Places → ℕ → ℕ
place places k = slice_index places k

-- so many positions from n on
abbrev pub positions_from : ℕ → ℕ → List ℕ
positions_from n zero = []
positions_from n (suc count) = n ∷ positions_from (n + 1) count

-- so many more identifiers of the text, where there are n positions
abbrev pub declare : Places → ℕ → ℕ → Places
declare places n count = places ++ positions_from n count

-- a selector by positions in the program
abbrev pub placed_selector : Places → Selector → Selector
placed_selector places (selector.Var k) = selector.Var (place places k)
placed_selector places (selector.Feature f) = selector.Feature f

-- the position of a field, where the new identifiers of its record have positions from n on
abbrev pub field_place : Places → ℕ → Field → ℕ
field_place places n (field.Variable k) = place places k
field_place places n (field.Value i) = n + i

-- the fields of a record with their positions
abbrev pub slot_places : Places → ℕ → List (Feature × Field) → List (Feature × ℕ)
slot_places places n slots = map (λ (s : Feature × Field). (s.0, field_place places n s.1)) slots

-- the row of a value with parts at these positions, told to position x
abbrev pub operation_row : Places → Operation → List ℕ → ℕ → Stmt
operation_row places (operation.Calc o) ys x = stmt.Calc x o (slice_index ys 0) (slice_index ys 1)
operation_row places (operation.Test o) ys x = stmt.Test x o (slice_index ys 0) (slice_index ys 1)
operation_row places (operation.Select s) ys x = stmt.Select x (slice_index ys 0) (placed_selector places s)
operation_row places (operation.Call p) ys x = stmt.Call (place places p) (ys ++ x ∷ [])
operation_row places (operation.BuiltIn b) ys x = built_in_row b (ys ++ x ∷ [])

-- the row of a statement with parts at these positions
abbrev pub action_row : Places → Action → List ℕ → Stmt
action_row places (action.Call p) ys = stmt.Call (place places p) ys
action_row places (action.BuiltIn b) ys = built_in_row b ys
action_row places action.Raise ys = stmt.Raise (slice_index ys 0)

-- what goes on with the position of a part: that of a variable, or a new one in `local V in Put(V, part) .. end`
abbrev pub held : Value → Places → (ℕ → ℕ → Code) → ℕ → (ℕ → ℕ → Code) → Code
held (Variable left k) places put_part n go_on = go_on n (place places k)
held v places put_part n go_on = Local 1 (Then (put_part (n + 1) n) (One (go_on (n + 1) n)))

-- one new identifier more, each in a `local` of its own, around statements
abbrev pub under : ℕ → Codes → Codes
under zero q = q
under (suc count) q = One (Local 1 (under count q))

-- a statement alone, or under new identifiers with those that follow it
abbrev pub record_code : ℕ → Code → List Code → Code
record_code zero tell fields = tell
record_code (suc count) tell fields = Local 1 (under count (follow tell fields))

-- `local P in P = proc {$} U end try S catch V then {P} raise V end end {P} end`, P having position n
abbrev pub finally_code : ℕ → Codes → Codes → Code
finally_code n u s =
    Local 1 (Then (Proc n 0 u) (Then (Try s (Then (Leaf (stmt.Call n [])) (One (Leaf (stmt.Raise (n + 1)))))) (One (Leaf (stmt.Call n [])))))

-- `put v places n x` is Put(X, v), X having position x, under n declarations
abbrev mutual
  pub put : Value → Places → ℕ → ℕ → Code
  put (Variable left k) places n x = Leaf (stmt.TellVar x (place places k))
  put (Integer left i) places n x = Leaf (stmt.TellInt x i)
  put (Atom left a) places n x = Leaf (stmt.TellAtom x a)
  put (Record left a slots vs) places n x =
      record_code (new_in vs) (Leaf (stmt.TellRec x a (slot_places places n slots))) (put_fields vs places (n + new_in vs) n)
  put (Apply left operation vs) places n x = put_all vs places n [] (λ m ys. Leaf (operation_row places operation ys x))
  put (sugar.Proc left count q) places n x = Proc x count (put_statements q (declare places n count) (n + count))
  put (sugar.Fun left count v) places n x = Proc x (count + 1) (One (put v (declare places n count) (n + count + 1) (n + count)))
  put (sugar.If left e a b) places n x = held e places (put e places) n (λ m y. If y (One (put a places m x)) (One (put b places m x)))
  put (sugar.Case left e cs b) places n x = held e places (put e places) n (λ m y. put_clauses cs places m y x (put b places m x))
  put (sugar.Brackets left v) places n x = put v places n x

  -- what goes on with the positions of parts, behind those of the ones before
  pub put_all : Values → Places → ℕ → List ℕ → (ℕ → List ℕ → Code) → Code
  put_all no_values places n ys go_on = go_on n ys
  put_all (value_and v vs) places n ys go_on = held v places (put v places) n (λ m y. put_all vs places m (ys ++ y ∷ []) go_on)

  -- Put of each of these values that is no variable, the first of which is told to position i
  pub put_fields : Values → Places → ℕ → ℕ → List Code
  put_fields no_values places n i = []
  put_fields (value_and v vs) places n i = by_kind v (put_fields vs places n i) (put v places n i ∷ put_fields vs places n (i + 1))

  -- clauses: the others stand in the `else` branch of the first
  pub put_clauses : ValueClauses → Places → ℕ → ℕ → ℕ → Code → Code
  put_clauses no_clauses places n y x other = other
  put_clauses (clause_and p v cs) places n y x other =
      Case y p (One (put v (declare places n (length (features_in p))) (n + length (features_in p)) x)) (One (put_clauses cs places n y x other))

  pub put_statement : Statement → Places → ℕ → Code
  put_statement (Skip left) places n = Leaf stmt.Skip
  put_statement (Tell left x v) places n = put v places n (place places x)
  put_statement (Acts left action vs) places n = put_all vs places n [] (λ m ys. Leaf (action_row places action ys))
  put_statement (sugar.Local left count q) places n = Local count (put_statements q (declare places n count) (n + count))
  put_statement (sugar.Thread left at q) places n = Thread at (put_statements q places n)
  put_statement (IfStatement left e q r) places n = held e places (put e places) n (λ m y. If y (put_statements q places m) (put_statements r places m))
  put_statement (CaseStatement left e cs r) places n = held e places (put e places) n (λ m y. put_cases cs places m y (put_statements r places m))
  put_statement (sugar.Try left q r) places n = Try (put_statements q places n) (put_statements r (declare places n 1) (n + 1))
  put_statement (Finally left q u) places n = finally_code n (put_statements u places (n + 1)) (put_statements q places (n + 1))

  -- statements behind one another; a program has one at least
  pub put_statements : Statements → Places → ℕ → Codes
  put_statements no_statements places n = One (Leaf stmt.Skip)
  put_statements (statement_and s q) places n = follow (put_statement s places n) (put_others q places n)

  pub put_others : Statements → Places → ℕ → List Code
  put_others no_statements places n = []
  put_others (statement_and s q) places n = put_statement s places n ∷ put_others q places n

  pub put_cases : Clauses → Places → ℕ → ℕ → Codes → Code
  put_cases no_cases places n y other = Leaf stmt.Skip
  put_cases (case_and p q cs) places n y other =
      Case y p (put_statements q (declare places n (length (features_in p))) (n + length (features_in p))) (put_branch cs places n y other)

  -- the branch behind a clause: the other clauses, or the statements behind `else`
  pub put_branch : Clauses → Places → ℕ → ℕ → Codes → Codes
  put_branch no_cases places n y other = other
  put_branch (case_and p q cs) places n y other =
      One (Case y p (put_statements q (declare places n (length (features_in p))) (n + length (features_in p))) (put_branch cs places n y other))

-- the table of a program with sugar
abbrev pub expanded_rows : Statements → List Stmt
expanded_rows q = codes_rows (put_statements q [] 0) 0 0

-- the program is what the tree stands for
abbrev pub Expand : Statements → List Stmt → Type 0
Expand s p = p ≡ expanded_rows s
