-- What is wrong in a derivation with sugar: its first fault in the order of its symbols, if it has one.
use Rattle.std.specs.Prelude.{ℕ, ◌+◌, List, [], ◌∷◌, ◌++◌, Option, Some, None}
use Rattle.tree_node.specs.declared.limits.TheConstants.{MOST_ITEMS}
use Rattle.tree_node.specs.declared.node.Feature.{Feature}
use Rattle.kernel_syntax.specs.declared.built_in.BuiltIn.{BuiltIn}
use Rattle.oz_grammar.specs.declared.symbol.Symbol.{Symbol}
use Rattle.oz_grammar.specs.declared.symbol.Symbol.TheVariants as t
use Rattle.oz_grammar.specs.declared.fault.Fault.{Fault}
use Rattle.oz_grammar.specs.declared.fault.FaultKind.{FaultKind}
use Rattle.oz_grammar.specs.Grammar.{Identifier, selection_symbol, names_text, pattern_text}
use Rattle.oz_grammar.specs.Scoping.{Scope, built_in_at, feature_of, place_feature, pattern_names}
use Rattle.oz_grammar.specs.Faults.{or_else, site_fault, deep_fault, use_fault, called_fault, fewer}
use Rattle.oz_grammar.specs.Check.{first_fault, check_locals, check_pattern, check_selection}
use Rattle.surface_grammar.specs.Derivations.{Primary, Variable, Integer, Atom, Record, Calls, Procedure, Function, Brackets, Selects, Tail, Last, More, Value, Alone, Calculates, Tests, Pairs, IfValue, CaseValue, Arguments, no_arguments, argument_and, no_fields, placed_and, named_and, ValueClauses, no_clauses, clause_and, Statement, Skips, Tells, CallsStatement, Raises, Locals, ProcNamed, FunNamed, Threads, ThreadsAt, Ifs, Cases, Tries, TriesFinally, Finally, Clauses, no_cases, case_and, Sequence, One, Then, primary_text, tail_text, value_text, arguments_text, fields_text, value_clauses_text, statement_text, clauses_text, sequence_text}
use Rattle.surface_grammar.specs.Derivations as tree
use Rattle.surface_grammar.specs.declared.parts.Callable.{Callable}
use Rattle.surface_grammar.specs.declared.parts.Callable.TheVariants.{OfProc, OfFun}
use Rattle.surface_grammar.specs.Points.{value_fault, given_fault, named_fault, argument_fault, formal_wrong}

-- Levels: of the 200 that a program has, d are left for a value. Its parts have one less, but its first primary is read before
-- what makes it a part: a dot, an operator, a test or a bar behind it. So many levels are left for it there. A variable takes none.
abbrev pub levels_behind : Primary → ℕ → ℕ
levels_behind (Variable x) d = d
levels_behind (Selects p s) d = fewer (levels_behind p d)
levels_behind p d = fewer d

-- the most arguments of a call: what is built in has its number of them, by the grammar
abbrev pub most_arguments : Option BuiltIn → ℕ → ℕ
most_arguments (Some b) most = MOST_ITEMS
most_arguments None most = most

-- Each of the following takes what stands behind, rest, and the first fault that is found there, behind.

-- formals behind others: at most 64, or 63 of a function, and no name twice
abbrev pub check_formals : Callable → List Identifier → List Identifier → List Symbol → Option Fault → Option Fault
check_formals c before [] rest behind = behind
check_formals c before (x ∷ xs) rest behind = first_fault (formal_wrong c before x) (names_text (x ∷ xs) rest) (check_formals c (before ++ x ∷ []) xs rest behind)

-- A value has d levels left, and its holder may have something wrong at its first symbol. The parts of a value have one level
-- less, those of a statement its own; brackets are a value that holds one.
abbrev mutual
  pub check_primary : Primary → Scope → ℕ → Option FaultKind → List Symbol → Option Fault → Option Fault
  check_primary (Variable x) scope d holder rest behind = first_fault (value_fault scope d holder (t.Variable x)) (primary_text (Variable x) rest) behind
  check_primary (Integer n) scope d holder rest behind = first_fault (value_fault scope d holder (t.Integer n)) (primary_text (Integer n) rest) behind
  check_primary (Atom a) scope d holder rest behind = first_fault (value_fault scope d holder (t.Atom a)) (primary_text (Atom a) rest) behind
  check_primary (Record a fs) scope d holder rest behind =
      first_fault (value_fault scope d holder (t.Atom a)) (primary_text (Record a fs) rest) (check_fields fs scope (fewer d) MOST_ITEMS [] 1 (t.CloseRound ∷ rest) behind)
  check_primary (Calls p vs) scope d holder rest behind =
      first_fault (value_fault scope d holder t.OpenCurly) (primary_text (Calls p vs) rest)
      (first_fault (called_fault (built_in_at scope p) scope p) (t.Variable p ∷ arguments_text vs (t.CloseCurly ∷ rest))
      (check_arguments vs scope (fewer d) 0 (most_arguments (built_in_at scope p) 63) (t.CloseCurly ∷ rest) behind))
  check_primary (Procedure xs q) scope d holder rest behind =
      first_fault (value_fault scope d holder t.Proc) (primary_text (Procedure xs q) rest)
      (check_formals OfProc [] xs (t.CloseCurly ∷ sequence_text q (t.End ∷ rest)) (check_sequence q (scope ++ xs) (fewer d) (t.End ∷ rest) behind))
  check_primary (Function xs v) scope d holder rest behind =
      first_fault (value_fault scope d holder t.Fun) (primary_text (Function xs v) rest)
      (check_formals OfFun [] xs (t.CloseCurly ∷ value_text v (t.End ∷ rest)) (check_value v (scope ++ xs) (fewer d) None (t.End ∷ rest) behind))
  check_primary (Brackets v) scope d holder rest behind =
      first_fault (value_fault scope d holder t.OpenRound) (primary_text (Brackets v) rest) (check_value v scope (fewer d) None (t.CloseRound ∷ rest) behind)
  check_primary (Selects p s) scope d holder rest behind =
      check_primary p scope d holder (t.Dot ∷ selection_symbol s ∷ rest)
      (first_fault (deep_fault (levels_behind p d)) (t.Dot ∷ selection_symbol s ∷ rest) (check_selection s scope rest behind))

  pub check_tail : Tail → Scope → ℕ → List Symbol → Option Fault → Option Fault
  check_tail (Last p) scope d rest behind = check_primary p scope d None rest behind
  check_tail (More p l) scope d rest behind =
      check_primary p scope d None (t.Bar ∷ tail_text l rest) (first_fault (deep_fault (levels_behind p d)) (t.Bar ∷ tail_text l rest) (check_tail l scope (fewer d) rest behind))

  pub check_value : Value → Scope → ℕ → Option FaultKind → List Symbol → Option Fault → Option Fault
  check_value (Alone p) scope d holder rest behind = check_primary p scope d holder rest behind
  check_value (Calculates p o q) scope d holder rest behind =
      check_primary p scope d holder (t.Operator o ∷ primary_text q rest)
      (first_fault (deep_fault (levels_behind p d)) (t.Operator o ∷ primary_text q rest) (check_primary q scope (fewer d) None rest behind))
  check_value (Tests p o q) scope d holder rest behind =
      check_primary p scope d holder (t.Test o ∷ primary_text q rest)
      (first_fault (deep_fault (levels_behind p d)) (t.Test o ∷ primary_text q rest) (check_primary q scope (fewer d) None rest behind))
  check_value (Pairs p l) scope d holder rest behind =
      check_primary p scope d holder (t.Bar ∷ tail_text l rest)
      (first_fault (deep_fault (levels_behind p d)) (t.Bar ∷ tail_text l rest) (check_tail l scope (fewer d) rest behind))
  check_value (IfValue e a b) scope d holder rest behind =
      first_fault (value_fault scope d holder t.If) (value_text (IfValue e a b) rest)
      (check_value e scope (fewer d) None (t.Then ∷ value_text a (t.Else ∷ value_text b (t.End ∷ rest)))
      (check_value a scope (fewer d) None (t.Else ∷ value_text b (t.End ∷ rest)) (check_value b scope (fewer d) None (t.End ∷ rest) behind)))
  check_value (CaseValue e p v cs b) scope d holder rest behind =
      first_fault (value_fault scope d holder t.Case) (value_text (CaseValue e p v cs b) rest)
      (check_value e scope (fewer d) None (t.Of ∷ pattern_text p (t.Then ∷ value_text v (value_clauses_text cs (t.Else ∷ value_text b (t.End ∷ rest)))))
      (check_pattern p scope (t.Then ∷ value_text v (value_clauses_text cs (t.Else ∷ value_text b (t.End ∷ rest))))
      (check_value v (scope ++ pattern_names p) (fewer d) None (value_clauses_text cs (t.Else ∷ value_text b (t.End ∷ rest)))
      (check_value_clauses cs scope (fewer d) (t.Else ∷ value_text b (t.End ∷ rest)) (check_value b scope (fewer d) None (t.End ∷ rest) behind)))))

  -- arguments behind n others, of at most so many
  pub check_arguments : Arguments → Scope → ℕ → ℕ → ℕ → List Symbol → Option Fault → Option Fault
  check_arguments no_arguments scope d n most rest behind = behind
  check_arguments (argument_and v vs) scope d n most rest behind =
      check_value v scope d (argument_fault n most) (arguments_text vs rest) (check_arguments vs scope d (n + 1) most rest behind)

  -- fields behind others of these features, with room for so many
  pub check_fields : tree.Fields → Scope → ℕ → ℕ → List Feature → ℕ → List Symbol → Option Fault → Option Fault
  check_fields no_fields scope d room before nth rest behind = behind
  check_fields (placed_and v fs) scope d room before nth rest behind =
      check_value v scope d (given_fault room before (place_feature nth)) (fields_text fs rest) (check_fields fs scope d (fewer room) (place_feature nth ∷ before) (nth + 1) rest behind)
  check_fields (named_and m v fs) scope d room before nth rest behind =
      first_fault (named_fault room before m) (fields_text (named_and m v fs) rest)
      (check_value v scope d None (fields_text fs rest) (check_fields fs scope d (fewer room) (feature_of m ∷ before) nth rest behind))

  pub check_value_clauses : ValueClauses → Scope → ℕ → List Symbol → Option Fault → Option Fault
  check_value_clauses no_clauses scope d rest behind = behind
  check_value_clauses (clause_and p v cs) scope d rest behind =
      check_pattern p scope (t.Then ∷ value_text v (value_clauses_text cs rest)) (check_value v (scope ++ pattern_names p) d None (value_clauses_text cs rest) (check_value_clauses cs scope d rest behind))

  pub check_statement : Statement → Scope → ℕ → List Symbol → Option Fault → Option Fault
  check_statement Skips scope d rest behind = first_fault (deep_fault d) (statement_text Skips rest) behind
  check_statement (Tells x v) scope d rest behind =
      first_fault (or_else (deep_fault d) (use_fault scope x)) (statement_text (Tells x v) rest) (check_value v scope d None rest behind)
  check_statement (CallsStatement p vs) scope d rest behind =
      first_fault (deep_fault d) (statement_text (CallsStatement p vs) rest)
      (first_fault (called_fault (built_in_at scope p) scope p) (t.Variable p ∷ arguments_text vs (t.CloseCurly ∷ rest))
      (check_arguments vs scope d 0 (most_arguments (built_in_at scope p) MOST_ITEMS) (t.CloseCurly ∷ rest) behind))
  check_statement (Raises v) scope d rest behind = first_fault (deep_fault d) (statement_text (Raises v) rest) (check_value v scope d None (t.End ∷ rest) behind)
  check_statement (Locals x xs q) scope d rest behind =
      first_fault (deep_fault d) (statement_text (Locals x xs q) rest)
      (check_locals (x ∷ []) xs (t.In ∷ sequence_text q (t.End ∷ rest)) (check_sequence q (scope ++ x ∷ xs) (fewer d) (t.End ∷ rest) behind))
  check_statement (ProcNamed x xs q) scope d rest behind =
      first_fault (deep_fault d) (statement_text (ProcNamed x xs q) rest)
      (first_fault (use_fault scope x) (t.Variable x ∷ names_text xs (t.CloseCurly ∷ sequence_text q (t.End ∷ rest)))
      (check_formals OfProc [] xs (t.CloseCurly ∷ sequence_text q (t.End ∷ rest)) (check_sequence q (scope ++ xs) (fewer d) (t.End ∷ rest) behind)))
  check_statement (FunNamed x xs v) scope d rest behind =
      first_fault (deep_fault d) (statement_text (FunNamed x xs v) rest)
      (first_fault (use_fault scope x) (t.Variable x ∷ names_text xs (t.CloseCurly ∷ value_text v (t.End ∷ rest)))
      (check_formals OfFun [] xs (t.CloseCurly ∷ value_text v (t.End ∷ rest)) (check_value v (scope ++ xs) (fewer d) None (t.End ∷ rest) behind)))
  check_statement (Threads q) scope d rest behind = first_fault (deep_fault d) (statement_text (Threads q) rest) (check_sequence q scope (fewer d) (t.End ∷ rest) behind)
  check_statement (ThreadsAt n q) scope d rest behind =
      first_fault (deep_fault d) (statement_text (ThreadsAt n q) rest)
      (first_fault (site_fault n) (t.Integer n ∷ sequence_text q (t.End ∷ rest)) (check_sequence q scope (fewer d) (t.End ∷ rest) behind))
  check_statement (Ifs e q r) scope d rest behind =
      first_fault (deep_fault d) (statement_text (Ifs e q r) rest)
      (check_value e scope d None (t.Then ∷ sequence_text q (t.Else ∷ sequence_text r (t.End ∷ rest)))
      (check_sequence q scope (fewer d) (t.Else ∷ sequence_text r (t.End ∷ rest)) (check_sequence r scope (fewer d) (t.End ∷ rest) behind)))
  check_statement (Cases e p q cs r) scope d rest behind =
      first_fault (deep_fault d) (statement_text (Cases e p q cs r) rest)
      (check_value e scope d None (t.Of ∷ pattern_text p (t.Then ∷ sequence_text q (clauses_text cs (t.Else ∷ sequence_text r (t.End ∷ rest)))))
      (check_pattern p scope (t.Then ∷ sequence_text q (clauses_text cs (t.Else ∷ sequence_text r (t.End ∷ rest))))
      (check_sequence q (scope ++ pattern_names p) (fewer d) (clauses_text cs (t.Else ∷ sequence_text r (t.End ∷ rest)))
      (check_clauses cs scope (fewer d) (t.Else ∷ sequence_text r (t.End ∷ rest)) (check_sequence r scope (fewer d) (t.End ∷ rest) behind)))))
  check_statement (Tries q x r) scope d rest behind =
      first_fault (deep_fault d) (statement_text (Tries q x r) rest)
      (check_sequence q scope (fewer d) (t.Catch ∷ t.Variable x ∷ t.Then ∷ sequence_text r (t.End ∷ rest)) (check_sequence r (scope ++ x ∷ []) (fewer d) (t.End ∷ rest) behind))
  check_statement (TriesFinally q x r u) scope d rest behind =
      first_fault (deep_fault d) (statement_text (TriesFinally q x r u) rest)
      (check_sequence q scope (fewer d) (t.Catch ∷ t.Variable x ∷ t.Then ∷ sequence_text r (t.Finally ∷ sequence_text u (t.End ∷ rest)))
      (check_sequence r (scope ++ x ∷ []) (fewer d) (t.Finally ∷ sequence_text u (t.End ∷ rest)) (check_sequence u scope (fewer d) (t.End ∷ rest) behind)))
  check_statement (Finally q u) scope d rest behind =
      first_fault (deep_fault d) (statement_text (Finally q u) rest)
      (check_sequence q scope (fewer d) (t.Finally ∷ sequence_text u (t.End ∷ rest)) (check_sequence u scope (fewer d) (t.End ∷ rest) behind))

  pub check_clauses : Clauses → Scope → ℕ → List Symbol → Option Fault → Option Fault
  check_clauses no_cases scope d rest behind = behind
  check_clauses (case_and p q cs) scope d rest behind =
      check_pattern p scope (t.Then ∷ sequence_text q (clauses_text cs rest)) (check_sequence q (scope ++ pattern_names p) d (clauses_text cs rest) (check_clauses cs scope d rest behind))

  pub check_sequence : Sequence → Scope → ℕ → List Symbol → Option Fault → Option Fault
  check_sequence (One s) scope d rest behind = check_statement s scope d rest behind
  check_sequence (Then s q) scope d rest behind = check_statement s scope d (sequence_text q rest) (check_sequence q scope d rest behind)

-- the first fault of a derivation of a program, whose statements have depth 1 of 200
abbrev pub check : Sequence → Option Fault
check q = check_sequence q [] 200 (t.EndOfText ∷ []) None
