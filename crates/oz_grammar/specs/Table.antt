-- The table of a derivation: its statements in preorder, numbered from 0.
use Rattle.std.specs.Prelude.{ℕ, ◌+◌, List, [], ◌∷◌, ◌++◌, length, map, unwrap_or, slice_index, codes, Option, Some, None, ℤ, pos}
use Rattle.tree_node.specs.declared.names.CodeId.{CodeId}
use Rattle.tree_node.specs.declared.node.Feature.{Feature}
use Rattle.tree_node.specs.declared.node.Feature.TheVariants as feature
use Rattle.kernel_syntax.specs.declared.stmt.Stmt.{Stmt}
use Rattle.kernel_syntax.specs.declared.stmt.Stmt.TheVariants as stmt
use Rattle.kernel_syntax.specs.declared.stmt.Pattern.{Pattern}
use Rattle.kernel_syntax.specs.declared.stmt.Pattern.TheVariants as pattern
use Rattle.kernel_syntax.specs.declared.stmt.Selector.{Selector}
use Rattle.kernel_syntax.specs.declared.stmt.Selector.TheVariants as selector
use Rattle.kernel_syntax.specs.declared.built_in.BuiltIn.{BuiltIn}
use Rattle.kernel_syntax.specs.declared.built_in.BuiltIn.TheVariants as built
use Rattle.oz_grammar.specs.Grammar.{Identifier, Selection, ByVariable, ByFeature, Value, ToVar, Calculates, Tests, Selects, Pairs, ToInt, ToAtom, ToRecord, IntPattern, AtomPattern, RecordPattern, PairPattern, Plain, Skips, Tells, Calls, Raises, Opening, Locals, ProcValue, ProcNamed, Threads, ThreadsAt, Choice, Ifs, Cases, Statement, Simple, Block, Chooses, Tries, Sequence, One, Then}
use Rattle.oz_grammar.specs.Grammar as tree
use Rattle.oz_grammar.specs.Scoping.{Scope, Fields, declaration_of, built_in_at, feature_of, fields_of, opening_scope, choice_scope}

-- the number of a row
abbrev pub code_at : ℕ → CodeId
code_at k = record { 0 = k }

-- a number that passes is a good one
abbrev pub value_of : Option ℤ → ℤ
value_of n = unwrap_or n (pos 0)

-- the label of H|T
abbrev pub bar_label : List ℕ
bar_label = codes "|"

-- its features
abbrev pub two_features : List Feature
two_features = feature.Int (pos 1) ∷ feature.Int (pos 2) ∷ []

-- the tell of H|T
abbrev pub pair_row : ℕ → ℕ → ℕ → Stmt
pair_row left head tail = stmt.TellRec left bar_label ((feature.Int (pos 1), head) ∷ (feature.Int (pos 2), tail) ∷ [])

-- the positions of the names of fields
abbrev pub slots_of : Scope → Fields → List (Feature × ℕ)
slots_of scope fields = map (λ (f : Feature × Identifier). (f.0, declaration_of scope f.1)) fields

-- the features of fields
abbrev pub features_in : {A : Type 0} → List (Feature × A) → List Feature
features_in {A = A} fields = map (λ (f : Feature × A). f.0) fields

-- without fields it is the atom
abbrev pub record_row : ℕ → List ℕ → List (Feature × ℕ) → Stmt
record_row left label [] = stmt.TellAtom left label
record_row left label (slot ∷ slots) = stmt.TellRec left label (slot ∷ slots)

-- without features it is the atom
abbrev pub record_pattern : List ℕ → List Feature → Pattern
record_pattern label [] = pattern.Atom label
record_pattern label (f ∷ fs) = pattern.Rec label (f ∷ fs)

-- what stands behind a dot, with its position where it is a variable
abbrev pub selector_of : Selection → Scope → Selector
selector_of (ByVariable x) scope = selector.Var (declaration_of scope x)
selector_of (ByFeature m) scope = selector.Feature (feature_of m)

-- the row of a tell, by its right side
abbrev pub value_row : ℕ → Value → Scope → Stmt
value_row left (ToVar y) scope = stmt.TellVar left (declaration_of scope y)
value_row left (Calculates y o z) scope = stmt.Calc left o (declaration_of scope y) (declaration_of scope z)
value_row left (Tests y o z) scope = stmt.Test left o (declaration_of scope y) (declaration_of scope z)
value_row left (Selects y s) scope = stmt.Select left (declaration_of scope y) (selector_of s scope)
value_row left (Pairs h u) scope = pair_row left (declaration_of scope h) (declaration_of scope u)
value_row left (ToInt n) scope = stmt.TellInt left (value_of n)
value_row left (ToAtom a) scope = stmt.TellAtom left a
value_row left (ToRecord a fs) scope = record_row left a (slots_of scope (fields_of fs))

-- a pattern as a row has it, without the names that it declares
abbrev pub pattern_of : tree.Pattern → Pattern
pattern_of (IntPattern n) = pattern.Int (value_of n)
pattern_of (AtomPattern a) = pattern.Atom a
pattern_of (RecordPattern a fs) = record_pattern a (features_in (fields_of fs))
pattern_of (PairPattern h u) = pattern.Rec bar_label two_features

-- a call of what is built in, with its arguments
abbrev pub built_in_row : BuiltIn → List ℕ → Stmt
built_in_row built.Browse xs = stmt.Browse (slice_index xs 0)
built_in_row built.Wait xs = stmt.Wait (slice_index xs 0)
built_in_row built.NewCell xs = stmt.NewCell (slice_index xs 0) (slice_index xs 1)
built_in_row built.Exchange xs = stmt.Exchange (slice_index xs 0) (slice_index xs 1) (slice_index xs 2)
built_in_row built.NewPort xs = stmt.NewPort (slice_index xs 0) (slice_index xs 1)
built_in_row built.Send xs = stmt.Send (slice_index xs 0) (slice_index xs 1)
built_in_row built.NewCellAt xs = stmt.NewCellAt (slice_index xs 0) (slice_index xs 1) (slice_index xs 2)

-- a call of what is built in, or of a procedure
abbrev pub call_row : Option BuiltIn → ℕ → List ℕ → Stmt
call_row (Some b) callee xs = built_in_row b xs
call_row None callee xs = stmt.Call callee xs

-- the row of a statement without bodies
abbrev pub plain_row : Plain → Scope → Stmt
plain_row Skips scope = stmt.Skip
plain_row (Tells x v) scope = value_row (declaration_of scope x) v scope
plain_row (Calls p xs) scope = call_row (built_in_at scope p) (declaration_of scope p) (map (declaration_of scope) xs)
plain_row (Raises x) scope = stmt.Raise (declaration_of scope x)

-- the row of a statement with one body, of this number
abbrev pub opening_row : Opening → Scope → CodeId → Stmt
opening_row (Locals x xs) scope body = stmt.Local (length scope) (length (x ∷ xs)) body
opening_row (ProcValue x xs) scope body = stmt.TellProc (declaration_of scope x) (length scope) (length xs) body
opening_row (ProcNamed x xs) scope body = stmt.TellProc (declaration_of scope x) (length scope) (length xs) body
opening_row Threads scope body = stmt.Thread None body
opening_row (ThreadsAt n) scope body = stmt.Thread (Some (value_of n)) body

-- the row of a statement with two bodies, of these numbers
abbrev pub choice_row : Choice → Scope → CodeId → CodeId → Stmt
choice_row (Ifs x) scope chosen other = stmt.If (declaration_of scope x) chosen other
choice_row (Cases x p) scope chosen other = stmt.Case (declaration_of scope x) (pattern_of p) (length scope) chosen other

-- the rows of a statement whose own row has number k; a body of one statement is that statement, and one of several has a
-- row of its own
abbrev mutual
  pub stmt_rows : Statement → Scope → ℕ → List Stmt
  stmt_rows (Simple s) scope k = plain_row s scope ∷ []
  stmt_rows (Block o q) scope k = opening_row o scope (code_at (k + 1)) ∷ seq_rows q (opening_scope o scope) (k + 1)
  stmt_rows (Chooses h q r) scope k =
      choice_row h scope (code_at (k + 1)) (code_at (k + 1 + length (seq_rows q (choice_scope h scope) (k + 1))))
      ∷ (seq_rows q (choice_scope h scope) (k + 1) ++ seq_rows r scope (k + 1 + length (seq_rows q (choice_scope h scope) (k + 1))))
  stmt_rows (Tries q x r) scope k =
      stmt.Try (code_at (k + 1)) (length scope) (code_at (k + 1 + length (seq_rows q scope (k + 1))))
      ∷ (seq_rows q scope (k + 1) ++ seq_rows r (scope ++ x ∷ []) (k + 1 + length (seq_rows q scope (k + 1))))

  pub seq_rows : Sequence → Scope → ℕ → List Stmt
  seq_rows (One s) scope k = stmt_rows s scope k
  seq_rows (Then s q) scope k =
      stmt.Seq (code_at (k + 1) ∷ seq_numbers q scope (k + 1 + length (stmt_rows s scope (k + 1))))
      ∷ (stmt_rows s scope (k + 1) ++ many_rows q scope (k + 1 + length (stmt_rows s scope (k + 1))))

  -- the rows of statements that follow one another, the first of which has number k
  pub many_rows : Sequence → Scope → ℕ → List Stmt
  many_rows (One s) scope k = stmt_rows s scope k
  many_rows (Then s q) scope k = stmt_rows s scope k ++ many_rows q scope (k + length (stmt_rows s scope k))

  -- their numbers
  pub seq_numbers : Sequence → Scope → ℕ → List CodeId
  seq_numbers (One s) scope k = code_at k ∷ []
  seq_numbers (Then s q) scope k = code_at k ∷ seq_numbers q scope (k + length (stmt_rows s scope k))

-- the rows of a whole program
abbrev pub program_table : Sequence → List Stmt
program_table q = seq_rows q [] 0
