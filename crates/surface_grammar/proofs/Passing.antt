-- Where nothing is wrong in what stands before, nothing is wrong in what stands behind it.
use Rattle.std.proofs.Common.{◌≡◌, ℕ, ◌+◌, List, [], ◌∷◌, ◌++◌, Option, None}
use Rattle.tree_node.specs.declared.node.Feature.{Feature}
use Rattle.oz_grammar.specs.declared.symbol.Symbol.{Symbol}
use Rattle.oz_grammar.specs.declared.symbol.Symbol.TheVariants as t
use Rattle.oz_grammar.specs.declared.symbol.Purpose.TheVariants as purpose
use Rattle.oz_grammar.specs.declared.fault.Fault.{Fault}
use Rattle.oz_grammar.specs.declared.fault.FaultKind.{FaultKind}
use Rattle.oz_grammar.specs.Grammar.{Identifier, Selection, ByVariable, ByFeature, Field, Placed, WithFeature, Pattern, IntPattern, AtomPattern, RecordPattern, PairPattern}
use Rattle.oz_grammar.specs.Scoping.{Scope, Fields, built_in_at, with_field, feature_of, place_feature}
use Rattle.oz_grammar.specs.Faults.{deep_fault, use_fault, called_fault, site_fault, placed_fault, feature_token_fault, name_fault, fewer}
use Rattle.oz_grammar.specs.Check.{check_selection, check_fields, check_pattern, check_locals}
use Rattle.oz_grammar.proofs.FieldOrder.{stopped}
use Rattle.surface_grammar.specs.declared.parts.Callable.{Callable}
use Rattle.surface_grammar.specs.declared.parts.Callable.TheVariants.{OfProc, OfFun}
use Rattle.surface_grammar.specs.Points.{value_fault}
use Rattle.surface_grammar.specs.Derivations.{Primary, Variable, Integer, Atom, Record, Calls, Procedure, Function, Brackets, Selects, Tail, Last, More, Value, Alone, Calculates, Tests, Pairs, IfValue, CaseValue, Arguments, no_arguments, argument_and, no_fields, placed_and, named_and, ValueClauses, no_clauses, clause_and, Statement, Skips, Tells, CallsStatement, Raises, Locals, ProcNamed, FunNamed, Threads, ThreadsAt, Ifs, Cases, Tries, TriesFinally, Finally, Clauses, no_cases, case_and, Sequence, One, Then, value_text, sequence_text}
use Rattle.surface_grammar.specs.Derivations as tree
use Rattle.surface_grammar.specs.Check.{most_arguments, check_formals, check_primary, check_tail, check_value, check_arguments, check_value_clauses, check_statement, check_clauses, check_sequence}
use Rattle.surface_grammar.specs.Check as surface

-- ---- names, selections and patterns

pub selection_on : (s : Selection) (scope : Scope) (rest : List Symbol) (behind : Option Fault) → check_selection s scope rest behind ≡ None → behind ≡ None
selection_on (ByVariable x) scope rest behind e = (stopped _ _ behind e).1
selection_on (ByFeature m) scope rest behind e = (stopped _ _ behind e).1

pub locals_on : (xs before : List Identifier) (rest : List Symbol) (behind : Option Fault) → check_locals before xs rest behind ≡ None → behind ≡ None
locals_on [] before rest behind e = e
locals_on (x ∷ xs) before rest behind e = locals_on xs (before ++ x ∷ []) rest behind (stopped _ _ _ e).1

pub formals_on : (xs before : List Identifier) (c : Callable) (rest : List Symbol) (behind : Option Fault) → check_formals c before xs rest behind ≡ None → behind ≡ None
formals_on [] before c rest behind e = e
formals_on (x ∷ xs) before c rest behind e = formals_on xs (before ++ x ∷ []) c rest behind (stopped _ _ _ e).1

pattern_fields_on : (fs : List Field) (scope : Scope) (room : ℕ) (before : Fields) (nth : ℕ) (rest : List Symbol) (behind : Option Fault) → check_fields purpose.Declare scope room before nth fs rest behind ≡ None → behind ≡ None
pattern_fields_on [] scope room before nth rest behind e = e
pattern_fields_on (Placed x ∷ fs) scope room before nth rest behind e = pattern_fields_on fs scope (fewer room) (with_field (place_feature nth) x before) (nth + 1) rest behind (stopped (placed_fault purpose.Declare scope room before nth x) _ _ e).1
pattern_fields_on (WithFeature m x ∷ fs) scope room before nth rest behind e =
    pattern_fields_on fs scope (fewer room) (with_field (feature_of m) x before) nth rest behind (stopped (name_fault purpose.Declare scope before x) _ _ (stopped (feature_token_fault room before m) _ _ e).1).1

pub pattern_on : (p : Pattern) (scope : Scope) (rest : List Symbol) (behind : Option Fault) → check_pattern p scope rest behind ≡ None → behind ≡ None
pattern_on (IntPattern n) scope rest behind e = (stopped _ _ behind e).1
pattern_on (AtomPattern a) scope rest behind e = e
pattern_on (RecordPattern a fs) scope rest behind e = pattern_fields_on fs scope 64 [] 1 _ behind e
pattern_on (PairPattern h u) scope rest behind e = (stopped _ _ behind e).1

-- ---- values and statements

mutual
  pub primary_on : (p : Primary) (scope : Scope) (d : ℕ) (holder : Option FaultKind) (rest : List Symbol) (behind : Option Fault) → check_primary p scope d holder rest behind ≡ None → behind ≡ None
  primary_on (Variable x) scope d holder rest behind e = (stopped _ _ behind e).1
  primary_on (Integer n) scope d holder rest behind e = (stopped _ _ behind e).1
  primary_on (Atom a) scope d holder rest behind e = (stopped _ _ behind e).1
  primary_on (Record a fs) scope d holder rest behind e = fields_on fs scope _ _ _ _ _ behind (stopped _ _ _ e).1
  primary_on (Calls p vs) scope d holder rest behind e =
      let s = stopped (value_fault scope d holder t.OpenCurly) _ _ e in
      let c = stopped (called_fault (built_in_at scope p) scope p) _ _ s.1 in
      arguments_on vs scope (fewer d) 0 (most_arguments (built_in_at scope p) 63) (t.CloseCurly ∷ rest) behind c.1
  primary_on (Procedure xs q) scope d holder rest behind e =
      let s = stopped (value_fault scope d holder t.Proc) _ _ e in
      sequence_on q (scope ++ xs) (fewer d) (t.End ∷ rest) behind (formals_on xs [] OfProc (t.CloseCurly ∷ sequence_text q (t.End ∷ rest)) _ s.1)
  primary_on (Function xs v) scope d holder rest behind e =
      let s = stopped (value_fault scope d holder t.Fun) _ _ e in
      value_on v (scope ++ xs) (fewer d) None (t.End ∷ rest) behind (formals_on xs [] OfFun (t.CloseCurly ∷ value_text v (t.End ∷ rest)) _ s.1)
  primary_on (Brackets v) scope d holder rest behind e = value_on v scope _ None _ behind (stopped _ _ _ e).1
  primary_on (Selects p s) scope d holder rest behind e = selection_on s scope rest behind (stopped _ _ _ (primary_on p scope d holder _ _ e)).1

  pub tail_on : (l : Tail) (scope : Scope) (d : ℕ) (rest : List Symbol) (behind : Option Fault) → check_tail l scope d rest behind ≡ None → behind ≡ None
  tail_on (Last p) scope d rest behind e = primary_on p scope d None rest behind e
  tail_on (More p l) scope d rest behind e = tail_on l scope _ rest behind (stopped _ _ _ (primary_on p scope d None _ _ e)).1

  pub value_on : (v : Value) (scope : Scope) (d : ℕ) (holder : Option FaultKind) (rest : List Symbol) (behind : Option Fault) → check_value v scope d holder rest behind ≡ None → behind ≡ None
  value_on (Alone p) scope d holder rest behind e = primary_on p scope d holder rest behind e
  value_on (Calculates p o q) scope d holder rest behind e = primary_on q scope _ None rest behind (stopped _ _ _ (primary_on p scope d holder _ _ e)).1
  value_on (Tests p o q) scope d holder rest behind e = primary_on q scope _ None rest behind (stopped _ _ _ (primary_on p scope d holder _ _ e)).1
  value_on (Pairs p l) scope d holder rest behind e = tail_on l scope _ rest behind (stopped _ _ _ (primary_on p scope d holder _ _ e)).1
  value_on (IfValue c a b) scope d holder rest behind e = value_on b scope _ None _ behind (value_on a scope _ None _ _ (value_on c scope _ None _ _ (stopped _ _ _ e).1))
  value_on (CaseValue c p v cs b) scope d holder rest behind e =
      value_on b scope _ None _ behind (value_clauses_on cs scope _ _ _ (value_on v _ _ None _ _ (pattern_on p scope _ _ (value_on c scope _ None _ _ (stopped _ _ _ e).1))))

  pub arguments_on : (vs : Arguments) (scope : Scope) (d n most : ℕ) (rest : List Symbol) (behind : Option Fault) → check_arguments vs scope d n most rest behind ≡ None → behind ≡ None
  arguments_on no_arguments scope d n most rest behind e = e
  arguments_on (argument_and v vs) scope d n most rest behind e = arguments_on vs scope d _ most rest behind (value_on v scope d _ _ _ e)

  pub fields_on : (fs : tree.Fields) (scope : Scope) (d room : ℕ) (before : List Feature) (nth : ℕ) (rest : List Symbol) (behind : Option Fault) → surface.check_fields fs scope d room before nth rest behind ≡ None → behind ≡ None
  fields_on no_fields scope d room before nth rest behind e = e
  fields_on (placed_and v fs) scope d room before nth rest behind e = fields_on fs scope d _ _ _ rest behind (value_on v scope d _ _ _ e)
  fields_on (named_and m v fs) scope d room before nth rest behind e = fields_on fs scope d _ _ _ rest behind (value_on v scope d None _ _ (stopped _ _ _ e).1)

  pub value_clauses_on : (cs : ValueClauses) (scope : Scope) (d : ℕ) (rest : List Symbol) (behind : Option Fault) → check_value_clauses cs scope d rest behind ≡ None → behind ≡ None
  value_clauses_on no_clauses scope d rest behind e = e
  value_clauses_on (clause_and p v cs) scope d rest behind e = value_clauses_on cs scope d rest behind (value_on v _ d None _ _ (pattern_on p scope _ _ e))

  pub statement_on : (s : Statement) (scope : Scope) (d : ℕ) (rest : List Symbol) (behind : Option Fault) → check_statement s scope d rest behind ≡ None → behind ≡ None
  statement_on Skips scope d rest behind e = (stopped _ _ behind e).1
  statement_on (Tells x v) scope d rest behind e = value_on v scope d None rest behind (stopped _ _ _ e).1
  statement_on (CallsStatement p vs) scope d rest behind e =
      let s = stopped (deep_fault d) _ _ e in
      let c = stopped (called_fault (built_in_at scope p) scope p) _ _ s.1 in
      arguments_on vs scope d 0 (most_arguments (built_in_at scope p) 64) (t.CloseCurly ∷ rest) behind c.1
  statement_on (Raises v) scope d rest behind e = value_on v scope d None _ behind (stopped _ _ _ e).1
  statement_on (Locals x xs q) scope d rest behind e = sequence_on q _ _ _ behind (locals_on xs _ _ _ (stopped _ _ _ e).1)
  statement_on (ProcNamed x xs q) scope d rest behind e =
      let s = stopped (deep_fault d) _ _ e in
      let u = stopped (use_fault scope x) _ _ s.1 in
      sequence_on q (scope ++ xs) (fewer d) (t.End ∷ rest) behind (formals_on xs [] OfProc (t.CloseCurly ∷ sequence_text q (t.End ∷ rest)) _ u.1)
  statement_on (FunNamed x xs v) scope d rest behind e =
      let s = stopped (deep_fault d) _ _ e in
      let u = stopped (use_fault scope x) _ _ s.1 in
      value_on v (scope ++ xs) (fewer d) None (t.End ∷ rest) behind (formals_on xs [] OfFun (t.CloseCurly ∷ value_text v (t.End ∷ rest)) _ u.1)
  statement_on (Threads q) scope d rest behind e = sequence_on q scope _ _ behind (stopped _ _ _ e).1
  statement_on (ThreadsAt n q) scope d rest behind e =
      let s = stopped (deep_fault d) _ _ e in
      let k = stopped (site_fault n) _ _ s.1 in
      sequence_on q scope (fewer d) (t.End ∷ rest) behind k.1
  statement_on (Ifs c q r) scope d rest behind e = sequence_on r scope _ _ behind (sequence_on q scope _ _ _ (value_on c scope d None _ _ (stopped _ _ _ e).1))
  statement_on (Cases c p q cs r) scope d rest behind e =
      sequence_on r scope _ _ behind (clauses_on cs scope _ _ _ (sequence_on q _ _ _ _ (pattern_on p scope _ _ (value_on c scope d None _ _ (stopped _ _ _ e).1))))
  statement_on (Tries q x r) scope d rest behind e = sequence_on r _ _ _ behind (sequence_on q scope _ _ _ (stopped _ _ _ e).1)
  statement_on (TriesFinally q x r u) scope d rest behind e = sequence_on u scope _ _ behind (sequence_on r _ _ _ _ (sequence_on q scope _ _ _ (stopped _ _ _ e).1))
  statement_on (Finally q u) scope d rest behind e = sequence_on u scope _ _ behind (sequence_on q scope _ _ _ (stopped _ _ _ e).1)

  pub clauses_on : (cs : Clauses) (scope : Scope) (d : ℕ) (rest : List Symbol) (behind : Option Fault) → check_clauses cs scope d rest behind ≡ None → behind ≡ None
  clauses_on no_cases scope d rest behind e = e
  clauses_on (case_and p q cs) scope d rest behind e = clauses_on cs scope d rest behind (sequence_on q _ d _ _ (pattern_on p scope _ _ e))

  pub sequence_on : (q : Sequence) (scope : Scope) (d : ℕ) (rest : List Symbol) (behind : Option Fault) → check_sequence q scope d rest behind ≡ None → behind ≡ None
  sequence_on (One s) scope d rest behind e = statement_on s scope d rest behind e
  sequence_on (Then s q) scope d rest behind e = sequence_on q scope d rest behind (statement_on s scope d _ _ e)
