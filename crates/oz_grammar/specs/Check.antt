-- What is wrong in a derivation: its first fault in the order of its symbols, if it has one.
use Rattle.std.specs.Prelude.{ℕ, ◌+◌, List, [], ◌∷◌, ◌++◌, length, Option, Some, None}
use Rattle.tree_node.specs.declared.limits.TheConstants.{MOST_ITEMS}
use Rattle.oz_grammar.specs.declared.symbol.Symbol.{Symbol}
use Rattle.oz_grammar.specs.declared.symbol.Symbol.TheVariants as t
use Rattle.kernel_syntax.specs.declared.built_in.BuiltIn.{BuiltIn}
use Rattle.oz_grammar.specs.declared.symbol.Purpose.{Purpose}
use Rattle.oz_grammar.specs.declared.symbol.Purpose.TheVariants as purpose
use Rattle.oz_grammar.specs.declared.fault.Fault.{Fault}
use Rattle.oz_grammar.specs.declared.fault.FaultKind.{FaultKind}
use Rattle.oz_grammar.specs.declared.fault.FaultKind.TheVariants.{Twice}
use Rattle.oz_grammar.specs.Grammar.{Identifier, Selection, ByVariable, ByFeature, Field, Placed, WithFeature, Value, ToVar, Calculates, Tests, Selects, Pairs, ToInt, ToAtom, ToRecord, Pattern, IntPattern, AtomPattern, RecordPattern, PairPattern, Plain, Skips, Tells, Calls, Raises, Opening, Locals, ProcValue, ProcNamed, Threads, ThreadsAt, Choice, Ifs, Cases, Statement, Simple, Block, Chooses, Tries, Sequence, One, Then, feature_symbol, names_text, fields_text, value_text, pattern_text, plain_text, opening_text, stmt_text, seq_text}
use Rattle.oz_grammar.specs.Scoping.{Scope, Fields, built_in_at, has_name, with_field, feature_of, place_feature, opening_scope, choice_scope}
use Rattle.oz_grammar.specs.Faults.{where_so, number_fault, site_fault, deep_fault, use_fault, count_fault, called_fault, argument_fault, formal_fault, feature_token_fault, name_fault, placed_fault, selected_fault, fewer, fault_here}
use Rattle.oz_grammar.specs.Automata.{first_of}

-- the fault at the first of these symbols, else the first one behind it
abbrev pub first_fault : Option FaultKind → List Symbol → Option Fault → Option Fault
first_fault wrong symbols behind = first_of fault_here wrong symbols behind

-- Each of the following takes what stands behind, rest, and the first fault that is found there, behind.

-- what stands behind a dot: a variable that is used, or a feature
abbrev pub check_selection : Selection → Scope → List Symbol → Option Fault → Option Fault
check_selection (ByVariable x) scope rest behind = first_fault (use_fault scope x) (t.Variable x ∷ rest) behind
check_selection (ByFeature m) scope rest behind = first_fault (selected_fault m) (feature_symbol m ∷ rest) behind

-- fields in brackets behind others, with room for so many
abbrev pub check_fields : Purpose → Scope → ℕ → Fields → ℕ → List Field → List Symbol → Option Fault → Option Fault
check_fields p scope room before next [] rest found = found
check_fields p scope room before next (Placed x ∷ fs) rest found =
    first_fault (placed_fault p scope room before next x) (fields_text (Placed x ∷ fs) rest)
    (check_fields p scope (fewer room) (with_field (place_feature next) x before) (next + 1) fs rest found)
check_fields p scope room before next (WithFeature m x ∷ fs) rest found =
    first_fault (feature_token_fault room before m) (fields_text (WithFeature m x ∷ fs) rest)
    (first_fault (name_fault p scope before x) (t.Variable x ∷ fields_text fs rest)
    (check_fields p scope (fewer room) (with_field (feature_of m) x before) next fs rest found))

-- the right side of a tell: the variables that it uses, its integer, or its fields
abbrev pub check_value : Value → Scope → List Symbol → Option Fault → Option Fault
check_value (ToVar y) scope rest behind = first_fault (use_fault scope y) (value_text (ToVar y) rest) behind
check_value (Calculates y o z) scope rest behind = first_fault (use_fault scope y) (value_text (Calculates y o z) rest) (first_fault (use_fault scope z) (t.Variable z ∷ rest) behind)
check_value (Tests y o z) scope rest behind = first_fault (use_fault scope y) (value_text (Tests y o z) rest) (first_fault (use_fault scope z) (t.Variable z ∷ rest) behind)
check_value (Selects y s) scope rest behind = first_fault (use_fault scope y) (value_text (Selects y s) rest) (check_selection s scope rest behind)
check_value (Pairs h u) scope rest behind = first_fault (use_fault scope h) (value_text (Pairs h u) rest) (first_fault (use_fault scope u) (t.Variable u ∷ rest) behind)
check_value (ToInt n) scope rest behind = first_fault (number_fault n) (t.Integer n ∷ rest) behind
check_value (ToAtom a) scope rest behind = behind
check_value (ToRecord a fs) scope rest behind = check_fields purpose.Use scope MOST_ITEMS [] 1 fs (t.CloseRound ∷ rest) behind

-- an integer pattern's number; a variable is given once in a pattern
abbrev pub check_pattern : Pattern → Scope → List Symbol → Option Fault → Option Fault
check_pattern (IntPattern n) scope rest behind = first_fault (number_fault n) (t.Integer n ∷ rest) behind
check_pattern (AtomPattern a) scope rest behind = behind
check_pattern (RecordPattern a fs) scope rest behind = check_fields purpose.Declare scope MOST_ITEMS [] 1 fs (t.CloseRound ∷ rest) behind
check_pattern (PairPattern h u) scope rest behind = first_fault (where_so (has_name (h ∷ []) u) Twice) (t.Variable u ∷ rest) behind

-- further names of a `local`, behind others
abbrev pub check_locals : List Identifier → List Identifier → List Symbol → Option Fault → Option Fault
check_locals before [] rest behind = behind
check_locals before (x ∷ xs) rest behind = first_fault (count_fault (length before)) (names_text (x ∷ xs) rest) (check_locals (before ++ x ∷ []) xs rest behind)

-- formals behind others: at most 64, and no name twice
abbrev pub check_formals : List Identifier → List Identifier → List Symbol → Option Fault → Option Fault
check_formals before [] rest behind = behind
check_formals before (x ∷ xs) rest behind = first_fault (formal_fault before x) (names_text (x ∷ xs) rest) (check_formals (before ++ x ∷ []) xs rest behind)

-- the arguments of a call, behind n others
abbrev pub check_arguments : Scope → ℕ → List Identifier → List Symbol → Option Fault → Option Fault
check_arguments scope n [] rest behind = behind
check_arguments scope n (x ∷ xs) rest behind = first_fault (argument_fault scope n x) (names_text (x ∷ xs) rest) (check_arguments scope (n + 1) xs rest behind)

-- those of what is built in, which has its number of them
abbrev pub check_uses : Scope → List Identifier → List Symbol → Option Fault → Option Fault
check_uses scope [] rest behind = behind
check_uses scope (x ∷ xs) rest behind = first_fault (use_fault scope x) (names_text (x ∷ xs) rest) (check_uses scope xs rest behind)

-- the arguments of a call, of what is built in or of a procedure
abbrev pub check_call : Option BuiltIn → Scope → List Identifier → List Symbol → Option Fault → Option Fault
check_call (Some b) scope xs rest behind = check_uses scope xs rest behind
check_call None scope xs rest behind = check_arguments scope 0 xs rest behind

-- a statement without bodies: the variable at its front, and what it uses besides
abbrev pub check_plain : Plain → Scope → List Symbol → Option Fault → Option Fault
check_plain Skips scope rest behind = behind
check_plain (Tells x v) scope rest behind = first_fault (use_fault scope x) (plain_text (Tells x v) rest) (check_value v scope rest behind)
check_plain (Calls p xs) scope rest behind =
    first_fault (called_fault (built_in_at scope p) scope p) (t.Variable p ∷ names_text xs (t.CloseCurly ∷ rest))
    (check_call (built_in_at scope p) scope xs (t.CloseCurly ∷ rest) behind)
check_plain (Raises x) scope rest behind = first_fault (use_fault scope x) (t.Variable x ∷ t.End ∷ rest) behind

-- what stands before the one body of a statement: the variable that it tells, its names, or its site
abbrev pub check_opening : Opening → Scope → List Symbol → Option Fault → Option Fault
check_opening (Locals x xs) scope rest behind = check_locals (x ∷ []) xs (t.In ∷ rest) behind
check_opening (ProcValue x xs) scope rest behind = first_fault (use_fault scope x) (opening_text (ProcValue x xs) rest) (check_formals [] xs (t.CloseCurly ∷ rest) behind)
check_opening (ProcNamed x xs) scope rest behind = first_fault (use_fault scope x) (t.Variable x ∷ names_text xs (t.CloseCurly ∷ rest)) (check_formals [] xs (t.CloseCurly ∷ rest) behind)
check_opening Threads scope rest behind = behind
check_opening (ThreadsAt n) scope rest behind = first_fault (site_fault n) (t.Integer n ∷ rest) behind

-- what stands before the first of two bodies: the variable that it tests, and its pattern
abbrev pub check_choice : Choice → Scope → List Symbol → Option Fault → Option Fault
check_choice (Ifs x) scope rest behind = first_fault (use_fault scope x) (t.Variable x ∷ t.Then ∷ rest) behind
check_choice (Cases x p) scope rest behind =
    first_fault (use_fault scope x) (t.Variable x ∷ t.Of ∷ pattern_text p (t.Then ∷ rest)) (check_pattern p scope (t.Then ∷ rest) behind)

-- a statement with d levels left for itself and the statements in it, under these declarations
abbrev mutual
  pub check_stmt : Statement → ℕ → Scope → List Symbol → Option Fault → Option Fault
  check_stmt (Simple s) d scope rest behind = first_fault (deep_fault d) (plain_text s rest) (check_plain s scope rest behind)
  check_stmt (Block o q) d scope rest behind =
      first_fault (deep_fault d) (stmt_text (Block o q) rest)
      (check_opening o scope (seq_text q (t.End ∷ rest))
      (check_seq q (fewer d) (opening_scope o scope) (t.End ∷ rest) behind))
  check_stmt (Chooses h q r) d scope rest behind =
      first_fault (deep_fault d) (stmt_text (Chooses h q r) rest)
      (check_choice h scope (seq_text q (t.Else ∷ seq_text r (t.End ∷ rest)))
      (check_seq q (fewer d) (choice_scope h scope) (t.Else ∷ seq_text r (t.End ∷ rest))
      (check_seq r (fewer d) scope (t.End ∷ rest) behind)))
  check_stmt (Tries q x r) d scope rest behind =
      first_fault (deep_fault d) (stmt_text (Tries q x r) rest)
      (check_seq q (fewer d) scope (t.Catch ∷ t.Variable x ∷ t.Then ∷ seq_text r (t.End ∷ rest))
      (check_seq r (fewer d) (scope ++ x ∷ []) (t.End ∷ rest) behind))

  pub check_seq : Sequence → ℕ → Scope → List Symbol → Option Fault → Option Fault
  check_seq (One s) d scope rest behind = check_stmt s d scope rest behind
  check_seq (Then s q) d scope rest behind = check_stmt s d scope (seq_text q rest) (check_seq q d scope rest behind)

-- the first fault of a derivation of a program, whose statements have depth 1 of 200
abbrev pub check : Sequence → Option Fault
check q = check_seq q 200 [] (t.EndOfText ∷ []) None
