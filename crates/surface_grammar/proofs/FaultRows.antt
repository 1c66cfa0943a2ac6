-- What is wrong in a derivation with sugar is no lexical fault and nothing expected.
use Rattle.std.proofs.Common.{◌≡◌, ℕ, ◌+◌, List, [], ◌∷◌, ◌++◌, length, Option, Some, None, subst}
use Rattle.std.specs.Prelude.{nat_lt}
use Rattle.tree_node.specs.declared.node.Feature.{Feature}
use Rattle.oz_grammar.specs.declared.fault.What.{What}
use Rattle.oz_grammar.specs.declared.symbol.Symbol.{Symbol}
use Rattle.oz_grammar.specs.declared.symbol.Symbol.TheVariants as t
use Rattle.oz_grammar.specs.declared.fault.Fault.{Fault}
use Rattle.oz_grammar.specs.declared.fault.FaultKind.{FaultKind}
use Rattle.oz_grammar.specs.declared.fault.FaultKind.TheVariants.{Twice, Wide, Expected}
use Rattle.oz_grammar.specs.Grammar.{Identifier, FeatureToken, AtomFeature, IntFeature, Selection, ByVariable, ByFeature}
use Rattle.oz_grammar.specs.Scoping.{Scope, built_in_at, has_name, feature_of, place_feature, pattern_names}
use Rattle.oz_grammar.specs.Faults.{or_else, where_not, where_so, number_fault, deep_fault, use_fault, room_fault, selected_fault, fewer, fault_here}
use Rattle.oz_grammar.specs.Check.{check_selection}
use Rattle.oz_grammar.proofs.FaultRows.{IsRow, Rows, not_row, or_row, number_row, site_row, deep_row, use_row, called_row, twice_row, room_row, selected_row, Found, stop_row, pattern_row, locals_row}
use Rattle.surface_grammar.specs.Derivations.{Primary, Variable, Integer, Atom, Record, Calls, Procedure, Function, Brackets, Selects, Tail, Last, More, Value, Alone, Calculates, Tests, Pairs, IfValue, CaseValue, Arguments, no_arguments, argument_and, no_fields, placed_and, named_and, ValueClauses, no_clauses, clause_and, Statement, Skips, Tells, CallsStatement, Raises, Locals, ProcNamed, FunNamed, Threads, ThreadsAt, Ifs, Cases, Tries, TriesFinally, Finally, Clauses, no_cases, case_and, Sequence, One, Then}
use Rattle.surface_grammar.specs.Derivations as tree
use Rattle.surface_grammar.specs.declared.parts.Callable.{Callable}
use Rattle.surface_grammar.specs.declared.parts.Callable.TheVariants.{OfProc, OfFun}
use Rattle.surface_grammar.specs.Points.{value_fault, is_given, given_fault, named_fault, argument_fault, most_formals, formal_wrong}
use Rattle.surface_grammar.specs.Check.{levels_behind, check_formals, check_primary, check_tail, check_value, check_arguments, check_fields, check_value_clauses, check_statement, check_clauses, check_sequence, check}

given_row : (room : ℕ) (before : List Feature) (f : Feature) → Rows (given_fault room before f)
given_row room before f = or_row (room_fault room) (where_so (is_given before f) Twice) (room_row room) (twice_row (is_given before f))

named_row : (room : ℕ) (before : List Feature) (m : FeatureToken) → Rows (named_fault room before m)
named_row room before (AtomFeature a) = given_row room before (feature_of (AtomFeature a))
named_row room before (IntFeature n) = or_row (number_fault n) (given_fault room before (feature_of (IntFeature n))) (number_row n) (given_row room before (feature_of (IntFeature n)))

argument_row : (n most : ℕ) → Rows (argument_fault n most)
argument_row n most = not_row (nat_lt n most) Wide tt

formal_row : (c : Callable) (before : List Identifier) (x : Identifier) → Rows (formal_wrong c before x)
formal_row c before x = or_row (where_not (nat_lt (length before) (most_formals c)) Wide) (where_so (has_name before x) Twice) (not_row (nat_lt (length before) (most_formals c)) Wide tt) (twice_row (has_name before x))

-- at the first symbol of a value, by what its holder has wrong there
value_row : (scope : Scope) (d : ℕ) (holder : Option FaultKind) (s : Symbol) → Rows holder → Rows (value_fault scope d holder s)
value_row scope d holder (t.Variable x) h = or_row holder (use_fault scope x) h (use_row scope x)
value_row scope d holder (t.Integer n) h = or_row (number_fault n) (or_else (deep_fault d) holder) (number_row n) (or_row (deep_fault d) holder (deep_row d) h)
value_row scope d holder s h = or_row (deep_fault d) holder (deep_row d) h

selection_row : (s : Selection) (scope : Scope) (rest : List Symbol) (behind : Option Fault) → Found behind → Found (check_selection s scope rest behind)
selection_row (ByVariable x) scope rest behind h = stop_row (use_fault scope x) _ behind (use_row scope x) h
selection_row (ByFeature m) scope rest behind h = stop_row (selected_fault m) _ behind (selected_row m) h

formals_row : (c : Callable) (before xs : List Identifier) (rest : List Symbol) (behind : Option Fault) → Found behind → Found (check_formals c before xs rest behind)
formals_row c before [] rest behind h = h
formals_row c before (x ∷ xs) rest behind h = stop_row (formal_wrong c before x) _ _ (formal_row c before x) (formals_row c (before ++ x ∷ []) xs rest behind h)

mutual
  primary_row : (p : Primary) (scope : Scope) (d : ℕ) (holder : Option FaultKind) (rest : List Symbol) (behind : Option Fault) → Rows holder → Found behind → Found (check_primary p scope d holder rest behind)
  primary_row (Variable x) scope d holder rest behind k h = stop_row _ _ behind (value_row scope d holder (t.Variable x) k) h
  primary_row (Integer n) scope d holder rest behind k h = stop_row _ _ behind (value_row scope d holder (t.Integer n) k) h
  primary_row (Atom a) scope d holder rest behind k h = stop_row _ _ behind (value_row scope d holder (t.Atom a) k) h
  primary_row (Record a fs) scope d holder rest behind k h = stop_row _ _ _ (value_row scope d holder (t.Atom a) k) (fields_row fs scope (fewer d) 64 [] 1 _ behind h)
  primary_row (Calls p vs) scope d holder rest behind k h =
      stop_row _ _ _ (value_row scope d holder t.OpenCurly k) (stop_row _ _ _ (called_row (built_in_at scope p) scope p) (arguments_row vs scope (fewer d) 0 _ _ behind h))
  primary_row (Procedure xs q) scope d holder rest behind k h = stop_row _ _ _ (value_row scope d holder t.Proc k) (formals_row OfProc [] xs _ _ (sequence_row q (scope ++ xs) (fewer d) _ behind h))
  primary_row (Function xs v) scope d holder rest behind k h = stop_row _ _ _ (value_row scope d holder t.Fun k) (formals_row OfFun [] xs _ _ (whole_row v (scope ++ xs) (fewer d) None _ behind tt h))
  primary_row (Brackets v) scope d holder rest behind k h = stop_row _ _ _ (value_row scope d holder t.OpenRound k) (whole_row v scope (fewer d) None _ behind tt h)
  primary_row (Selects p s) scope d holder rest behind k h = primary_row p scope d holder _ _ k (stop_row _ _ _ (deep_row (levels_behind p d)) (selection_row s scope rest behind h))

  tail_row : (l : Tail) (scope : Scope) (d : ℕ) (rest : List Symbol) (behind : Option Fault) → Found behind → Found (check_tail l scope d rest behind)
  tail_row (Last p) scope d rest behind h = primary_row p scope d None rest behind tt h
  tail_row (More p l) scope d rest behind h = primary_row p scope d None _ _ tt (stop_row _ _ _ (deep_row (levels_behind p d)) (tail_row l scope (fewer d) rest behind h))

  whole_row : (v : Value) (scope : Scope) (d : ℕ) (holder : Option FaultKind) (rest : List Symbol) (behind : Option Fault) → Rows holder → Found behind → Found (check_value v scope d holder rest behind)
  whole_row (Alone p) scope d holder rest behind k h = primary_row p scope d holder rest behind k h
  whole_row (Calculates p o q) scope d holder rest behind k h = primary_row p scope d holder _ _ k (stop_row _ _ _ (deep_row (levels_behind p d)) (primary_row q scope (fewer d) None rest behind tt h))
  whole_row (Tests p o q) scope d holder rest behind k h = primary_row p scope d holder _ _ k (stop_row _ _ _ (deep_row (levels_behind p d)) (primary_row q scope (fewer d) None rest behind tt h))
  whole_row (Pairs p l) scope d holder rest behind k h = primary_row p scope d holder _ _ k (stop_row _ _ _ (deep_row (levels_behind p d)) (tail_row l scope (fewer d) rest behind h))
  whole_row (IfValue e a b) scope d holder rest behind k h =
      stop_row _ _ _ (value_row scope d holder t.If k) (whole_row e scope (fewer d) None _ _ tt (whole_row a scope (fewer d) None _ _ tt (whole_row b scope (fewer d) None _ behind tt h)))
  whole_row (CaseValue e p v cs b) scope d holder rest behind k h =
      stop_row _ _ _ (value_row scope d holder t.Case k)
      (whole_row e scope (fewer d) None _ _ tt (pattern_row p scope _ _ (whole_row v (scope ++ pattern_names p) (fewer d) None _ _ tt (value_clauses_row cs scope (fewer d) _ _ (whole_row b scope (fewer d) None _ behind tt h)))))

  arguments_row : (vs : Arguments) (scope : Scope) (d n most : ℕ) (rest : List Symbol) (behind : Option Fault) → Found behind → Found (check_arguments vs scope d n most rest behind)
  arguments_row no_arguments scope d n most rest behind h = h
  arguments_row (argument_and v vs) scope d n most rest behind h = whole_row v scope d (argument_fault n most) _ _ (argument_row n most) (arguments_row vs scope d (n + 1) most rest behind h)

  fields_row : (fs : tree.Fields) (scope : Scope) (d room : ℕ) (before : List Feature) (nth : ℕ) (rest : List Symbol) (behind : Option Fault) → Found behind → Found (check_fields fs scope d room before nth rest behind)
  fields_row no_fields scope d room before nth rest behind h = h
  fields_row (placed_and v fs) scope d room before nth rest behind h =
      whole_row v scope d (given_fault room before (place_feature nth)) _ _ (given_row room before (place_feature nth)) (fields_row fs scope d (fewer room) (place_feature nth ∷ before) (nth + 1) rest behind h)
  fields_row (named_and m v fs) scope d room before nth rest behind h =
      stop_row _ _ _ (named_row room before m) (whole_row v scope d None _ _ tt (fields_row fs scope d (fewer room) (feature_of m ∷ before) nth rest behind h))

  value_clauses_row : (cs : ValueClauses) (scope : Scope) (d : ℕ) (rest : List Symbol) (behind : Option Fault) → Found behind → Found (check_value_clauses cs scope d rest behind)
  value_clauses_row no_clauses scope d rest behind h = h
  value_clauses_row (clause_and p v cs) scope d rest behind h = pattern_row p scope _ _ (whole_row v (scope ++ pattern_names p) d None _ _ tt (value_clauses_row cs scope d rest behind h))

  statement_row : (s : Statement) (scope : Scope) (d : ℕ) (rest : List Symbol) (behind : Option Fault) → Found behind → Found (check_statement s scope d rest behind)
  statement_row Skips scope d rest behind h = stop_row _ _ behind (deep_row d) h
  statement_row (Tells x v) scope d rest behind h = stop_row _ _ _ (or_row (deep_fault d) (use_fault scope x) (deep_row d) (use_row scope x)) (whole_row v scope d None rest behind tt h)
  statement_row (CallsStatement p vs) scope d rest behind h = stop_row _ _ _ (deep_row d) (stop_row _ _ _ (called_row (built_in_at scope p) scope p) (arguments_row vs scope d 0 _ _ behind h))
  statement_row (Raises v) scope d rest behind h = stop_row _ _ _ (deep_row d) (whole_row v scope d None _ behind tt h)
  statement_row (Locals x xs q) scope d rest behind h = stop_row _ _ _ (deep_row d) (locals_row (x ∷ []) xs _ _ (sequence_row q (scope ++ x ∷ xs) (fewer d) _ behind h))
  statement_row (ProcNamed x xs q) scope d rest behind h = stop_row _ _ _ (deep_row d) (stop_row _ _ _ (use_row scope x) (formals_row OfProc [] xs _ _ (sequence_row q (scope ++ xs) (fewer d) _ behind h)))
  statement_row (FunNamed x xs v) scope d rest behind h = stop_row _ _ _ (deep_row d) (stop_row _ _ _ (use_row scope x) (formals_row OfFun [] xs _ _ (whole_row v (scope ++ xs) (fewer d) None _ behind tt h)))
  statement_row (Threads q) scope d rest behind h = stop_row _ _ _ (deep_row d) (sequence_row q scope (fewer d) _ behind h)
  statement_row (ThreadsAt n q) scope d rest behind h = stop_row _ _ _ (deep_row d) (stop_row _ _ _ (site_row n) (sequence_row q scope (fewer d) _ behind h))
  statement_row (Ifs e q r) scope d rest behind h = stop_row _ _ _ (deep_row d) (whole_row e scope d None _ _ tt (sequence_row q scope (fewer d) _ _ (sequence_row r scope (fewer d) _ behind h)))
  statement_row (Cases e p q cs r) scope d rest behind h =
      stop_row _ _ _ (deep_row d) (whole_row e scope d None _ _ tt (pattern_row p scope _ _ (sequence_row q (scope ++ pattern_names p) (fewer d) _ _ (clauses_row cs scope (fewer d) _ _ (sequence_row r scope (fewer d) _ behind h)))))
  statement_row (Tries q x r) scope d rest behind h = stop_row _ _ _ (deep_row d) (sequence_row q scope (fewer d) _ _ (sequence_row r (scope ++ x ∷ []) (fewer d) _ behind h))
  statement_row (TriesFinally q x r u) scope d rest behind h =
      stop_row _ _ _ (deep_row d) (sequence_row q scope (fewer d) _ _ (sequence_row r (scope ++ x ∷ []) (fewer d) _ _ (sequence_row u scope (fewer d) _ behind h)))
  statement_row (Finally q u) scope d rest behind h = stop_row _ _ _ (deep_row d) (sequence_row q scope (fewer d) _ _ (sequence_row u scope (fewer d) _ behind h))

  clauses_row : (cs : Clauses) (scope : Scope) (d : ℕ) (rest : List Symbol) (behind : Option Fault) → Found behind → Found (check_clauses cs scope d rest behind)
  clauses_row no_cases scope d rest behind h = h
  clauses_row (case_and p q cs) scope d rest behind h = pattern_row p scope _ _ (sequence_row q (scope ++ pattern_names p) d _ _ (clauses_row cs scope d rest behind h))

  sequence_row : (q : Sequence) (scope : Scope) (d : ℕ) (rest : List Symbol) (behind : Option Fault) → Found behind → Found (check_sequence q scope d rest behind)
  sequence_row (One s) scope d rest behind h = statement_row s scope d rest behind h
  sequence_row (Then s q) scope d rest behind h = statement_row s scope d _ _ (sequence_row q scope d rest behind h)

pub check_row : (q : Sequence) (f : Fault) → check q ≡ Some f → IsRow f.kind
check_row q f e = subst Found e (sequence_row q [] 200 (t.EndOfText ∷ []) None tt)

-- .. and says of no symbol that another was expected
pub none_expected : (q : Sequence) (w : What) (rest : List Symbol) → check q ≡ Some (fault_here (Expected w) rest) → ⊥
none_expected q w rest e = check_row q (fault_here (Expected w) rest) e
